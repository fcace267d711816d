-- What calls of `read` and `write` give, by their contracts. Assumes nothing.
use Prim.Native.Nat.{ℕ}
use mathlib.Core.Path.{◌≡◌, refl, subst, sym, ap, ◌∙◌}
use mathlib.Core.List.{List}
use lib.ListN.{get_or, take}
use Rattle.rules.specs.Job.{file}
use Rattle.rules.proofs.Job.Bits.{Bytes}
use Rattle.sheet_form.specs.Forms.{sheet_two}
use Rattle.sheet_form.specs.Sheets.{sheet}
use Rattle.sheet_form.specs.Calls.{Areas, areas, sheet_of, Written, into, writer, Loaded, from, reader}
use Rattle.sheet_form.proofs.Back as form
use Rattle.std.specs.Prelude.{Result, Ok, Err}
use Rattle.refusals.specs.declared.Refusal.{Refusal}
use Rattle.sheet_read.specs.declared.walk.Contents.{Contents}
use Rattle.sheet_read.specs.Walk.{told}
use Rattle.sheet_write.specs.Fits.{wrote}

-- the bytes at exit are told as they are
pub bytes_are : (a : Result ℕ Refusal) (xs : List ℕ) → (wrote a xs).bytes ≡ xs
bytes_are (Ok size) xs = refl
bytes_are (Err why) xs = refl

-- What `write` wrote, read with any graph or none into any areas, gives the height and the stages that were written.
pub read_back : (K n : ℕ) (a : Areas) (bytes : List ℕ) (size : ℕ) (bytes' : List ℕ) → wrote (Ok size) bytes' ≡ writer sheet_two K n a bytes →
    (gates : List ℕ) (b : Areas) (r : Result Contents Refusal) (p' w' c' : List ℕ) → told r (areas p' w' c') ≡ reader gates (take size bytes') b →
    told r (areas p' w' c') ≡ from (sheet (sheet_of K n a)) b
read_back K n a bytes size bytes' w gates b r p' w' c' e =
    e ∙ ap (λ (x : Written). reader gates (take x.length x.bytes) b) w ∙ form.read_back K n a bytes (sym (ap (λ (x : Written). x.number) w)) gates b

-- So `read`, where it refuses nothing, gives the same height, stages, plan, words and counts.
pub read_same : (K n : ℕ) (a : Areas) (bytes : List ℕ) (size : ℕ) (bytes' : List ℕ) → wrote (Ok size) bytes' ≡ writer sheet_two K n a bytes →
    (gates : List ℕ) (b : Areas) (s : Contents) (p' w' c' : List ℕ) → told (Ok s) (areas p' w' c') ≡ reader gates (take size bytes') b →
    form.Same K n a (told (Ok s) (areas p' w' c'))
read_same K n a bytes size bytes' w gates b s p' w' c' e =
    let d = read_back K n a bytes size bytes' w gates b (Ok s) p' w' c' e in
    subst (λ (l : Loaded). form.Same K n a l) (sym d) (form.read_same K n a bytes (sym (ap (λ (x : Written). x.number) w)) b (sym (ap (λ (x : Loaded). x.reply.number) d)))

-- Whatever sheet 2 `read` took, `write` makes of the areas that it left: the same bytes, or 17 where they are too few.
pub write_back : (gates bs : List ℕ) → Bytes bs → get_or bs 0 0 ≡ 2 → (a : Areas) (s : Contents) (p' w' c' : List ℕ) → told (Ok s) (areas p' w' c') ≡ reader gates bs a →
    (xs : List ℕ) (v : Result ℕ Refusal) (xs' : List ℕ) → wrote v xs' ≡ writer sheet_two s.height s.stages (areas p' w' c') xs → wrote v xs' ≡ into (file bs) xs
write_back gates bs B two a s p' w' c' e xs v xs' w =
    w ∙ ap (λ (x : Loaded). writer sheet_two x.reply.height x.reply.stages x.areas xs) e ∙ form.write_back gates bs B two a (sym (ap (λ (x : Loaded). x.reply.number) e)) xs
