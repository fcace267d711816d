-- The calls there and back, for any areas: what was written is read, and what was read is written to the same bytes. Assumes nothing.
use Prim.Native.Nat.{ℕ, zero, suc, ◌+◌, ◌-◌, ◌*◌, ◌≤◌}
use mathlib.Core.Path.{◌≡◌, refl, sym, ap, ◌∙◌}
use mathlib.Core.Bool.{true, ◌&&◌}
use mathlib.Core.List.{List, [], ◌∷◌, ◌++◌, append_assoc}
use native.Mathlib.Omega.{arith}
use lib.Dec.{leb, eqb}
use lib.ListN.{length, get_or, take, drop, replicate, length-drop}
use lib.Seq.{take_at, take-add, length-take-le}
use borrow.Author.Tests.{leb-true}
use Rattle.rules.specs.Lists.{gather, sum, padded, laid_over}
use Rattle.rules.specs.Cells.{empty, stage_size, word_limit, rooms}
use Rattle.rules.specs.Build.{Stage, cells_of, words_of, counts_of}
use Rattle.rules.specs.Job.{bits_of, Read, cut, got, is_padding, File?, no_file, file}
use Rattle.rules.proofs.Lists.Members.{split, and_true}
use Rattle.rules.proofs.Job.Bits.{Bytes}
use Rattle.rules.proofs.Build.Lengths.{Sized}
use Rattle.sheet_form.specs.Forms.{Form, sheet_two}
use Rattle.sheet_form.specs.Sheets.{Sheet, stage_fits, stages_fit, sheet_bytes, write_sheet, Sheet?, refused, sheet, read_body, accept, read_sheet}
use Rattle.sheet_form.specs.Lifting.{read_either}
use Rattle.sheet_form.specs.Calls.{Areas, stages_in, stand, sheet_of, sheet_in, unwritten, into, writer, Loaded, unread, roomy, areas_with, from, reader}
use Rattle.sheet_form.proofs.Stages.{stage_fits_lem}
use Rattle.sheet_form.proofs.Sheets.{no_sheet, wrote, is_held}
use Rattle.sheet_form.proofs.Forms as forms
use Rattle.sheet_form.proofs.Forms.{two_read, two_only}
use Rattle.sheet_form.proofs.Either.{as_two, two_either, either_held}
use Rattle.sheet_form.proofs.Calls.{sheet_in_lem}

-- ---- the stages that areas hold

-- so many cells, counts and words are there
pub record Stand (K n : ℕ) (ps ws cs : List ℕ) : Type 0 where
  pub cells : n * stage_size K ≤ length ps
  pub counts : n ≤ length cs
  pub words : sum (take n cs) ≤ length ws

-- areas that hold n stages have so many
pub stand_is : (K n : ℕ) (a : Areas) → stand K n a ≡ true → Stand K n a.plan a.words a.counts
unfolding stand
stand_is K n a e =
    let x = and_true (leb (n * stage_size K) (length a.plan) && leb n (length a.counts)) (leb (sum (take n a.counts)) (length a.words)) e in
    let y = and_true (leb (n * stage_size K) (length a.plan)) (leb n (length a.counts)) x.0 in
    record { cells = leb-true _ _ y.0; counts = leb-true _ _ y.1; words = leb-true _ _ x.1 }

-- what the stages in areas are, by cells, words and counts
pub record Held (K n : ℕ) (ps ws cs : List ℕ) : Type 0 where
  pub cells : cells_of (stages_in K n ps ws cs) ≡ take (n * stage_size K) ps
  pub words : words_of (stages_in K n ps ws cs) ≡ take (sum (take n cs)) ws
  pub counts : counts_of (stages_in K n ps ws cs) ≡ take n cs
  pub stages : length (stages_in K n ps ws cs) ≡ n

-- areas that hold n stages hold exactly the first cells, words and counts
pub held_in : (K n : ℕ) (plan words counts : List ℕ) → Stand K n plan words counts → Held K n plan words counts
unfolding stages_in cells_of words_of counts_of sum
held_in K zero plan words counts S = let z : 0 * stage_size K ≡ 0 = omega arith in record { cells = rw z; words = refl; counts = refl; stages = refl }
held_in K (suc n) plan words [] S = absurd (omega (arith, S.counts))
held_in K (suc n) plan words (c ∷ counts) S =
    let m : suc n * stage_size K ≡ stage_size K + n * stage_size K = omega arith in
    let l : length (take c words) ≡ c = length-take-le c words (omega (arith, S.words)) in
    let H = held_in K n (drop (stage_size K) plan) (drop c words) counts (record { cells = omega (arith, S.cells, m, length-drop (stage_size K) plan); counts = omega (arith, S.counts); words = omega (arith, S.words, length-drop c words) }) in
    record {
      cells = rw (m, take-add (stage_size K) (n * stage_size K) plan, H.cells);
      words = rw (take-add c (sum (take n counts)) words, H.words);
      counts = rw (l, H.counts);
      stages = ap suc H.stages;
    }

-- ---- there and back

no_file_lem : {P : Type 0} {bs : List ℕ} → no_file ≡ file bs → P
no_file_lem e = absurd (let z : ◌≡◌ {A = ℕ} 0 1 = cc in omega arith)

-- a call of the reader tells the height and the stages, and has the cells, words and counts of n stages of some areas in front
pub record Same (K n : ℕ) (a : Areas) (l : Loaded) : Type 0 where
  pub height : l.reply.height ≡ K
  pub stages : l.reply.stages ≡ n
  pub words : l.reply.words ≡ sum (take n a.counts)
  pub cells_area : take (n * stage_size K) l.areas.plan ≡ take (n * stage_size K) a.plan
  pub words_area : take l.reply.words l.areas.words ≡ take l.reply.words a.words
  pub counts_area : take n l.areas.counts ≡ take n a.counts

front_padded : (m x : ℕ) (xs ys : List ℕ) (k : ℕ) → length xs ≡ k → take k (laid_over (padded m x xs) ys) ≡ xs
unfolding laid_over padded
front_padded m x xs ys k e = rw (append_assoc xs (replicate (m - length xs) x) (drop (length (xs ++ replicate (m - length xs) x)) ys)) (take_at xs _ k e)

module _ (K n : ℕ) (a : Areas) where
  from_file : (bs : List ℕ) → sheet_in sheet_two K n a ≡ file bs → write_sheet sheet_two (sheet_of K n a) ≡ file bs
  unfolding sheet_in
  from_file bs e = split (stand K n a) (λ t. rw (t, sheet_in) at e) (λ t. no_file_lem (rw (t, sheet_in) at e))

  -- What was written, read again with any graph or none into any areas, gives the height and the stages that were written.
  pub read_back : (xs : List ℕ) → (writer sheet_two K n a xs).number ≡ 0 → (gates : List ℕ) (b : Areas) →
      reader gates (take (writer sheet_two K n a xs).length (writer sheet_two K n a xs).bytes) b ≡ from (sheet (sheet_of K n a)) b
  unfolding writer into unwritten laid_over reader
  read_back xs z gates b = by (sheet_in sheet_two K n a) refl z
    where
      by : (f : File?) → sheet_in sheet_two K n a ≡ f → (into f xs).number ≡ 0 → reader gates (take (into f xs).length (into f xs).bytes) b ≡ from (sheet (sheet_of K n a)) b
      by no_file e y = absurd (omega arith)
      by (file bs) e y = split (leb (length bs) (length xs))
          (λ t. let k = take_at bs (drop (length bs) xs) (length bs) refl in rw (t, into, k, two_either gates bs (sheet_of K n a) (two_read (sheet_of K n a) bs (from_file bs e))))
          (λ t. absurd (let q : 17 ≡ 0 = rw (t, into) at y in omega arith))

  stands_written : (xs : List ℕ) → (writer sheet_two K n a xs).number ≡ 0 → Stand K n a.plan a.words a.counts
  unfolding writer into unwritten sheet_in
  stands_written xs z = split (stand K n a) (λ t. stand_is K n a t) (λ t. absurd (let q : 15 ≡ 0 = rw (t, sheet_in) at z in omega arith))

  -- So it gives the same height, stages, plan, words and counts.
  pub read_same : (xs : List ℕ) → (writer sheet_two K n a xs).number ≡ 0 → (b : Areas) → (from (sheet (sheet_of K n a)) b).reply.number ≡ 0 → Same K n a (from (sheet (sheet_of K n a)) b)
  unfolding from unread areas_with
  read_same xs z b y =
      let S = stands_written xs z in
      let H = held_in K n a.plan a.words a.counts S in
      let w : length (words_of (stages_in K n a.plan a.words a.counts)) ≡ sum (take n a.counts) = ap length H.words ∙ length-take-le (sum (take n a.counts)) a.words S.words in
      split (roomy (sheet_of K n a) b)
      (λ t. rw (t, from) (record {
        height = refl;
        stages = H.stages;
        words = w;
        cells_area = front_padded _ empty _ b.plan (n * stage_size K) (ap length H.cells ∙ length-take-le (n * stage_size K) a.plan S.cells) ∙ H.cells;
        words_area = front_padded _ empty _ b.words _ refl ∙ H.words ∙ ap (λ (k : ℕ). take k a.words) (sym w);
        counts_area = front_padded _ 0 _ b.counts n (ap length H.counts ∙ length-take-le n a.counts S.counts) ∙ H.counts;
      }))
      (λ t. absurd (let q : 17 ≡ 0 = rw (t, from) at y in omega arith))

-- ---- back and there

fits_sized : (F : Form) (K : ℕ) (ss : List Stage) → stages_fit F K ss ≡ true → Sized (stage_size K) ss
unfolding stages_fit
fits_sized F K [] e = tt
fits_sized F K (s ∷ ss) e = let d = and_true (stage_fits F K s) (stages_fit F K ss) e in ((stage_fits_lem F K s d.0).size, fits_sized F K ss d.1)

-- areas with a sheet's stages over their front are written as these stages
areas_with_lem : (F : Form) (T : Sheet) (a : Areas) → Sized (stage_size T.height) T.stages → sheet_in F T.height (length T.stages) (areas_with T a) ≡ write_sheet F T
unfolding areas_with padded laid_over
areas_with_lem F T a z =
    let K = T.height in
    let ss = T.stages in
    let R : ℕ = rooms K (length a.plan) in
    let p = replicate (R * stage_size K - length (cells_of ss)) empty in
    let w = replicate (word_limit K - length (words_of ss)) empty in
    let c : List ℕ = replicate (R - length (counts_of ss)) 0 in
    let x = drop (length (cells_of ss ++ p)) a.plan in
    let y = drop (length (words_of ss ++ w)) a.words in
    let v = drop (length (counts_of ss ++ c)) a.counts in
    rw (append_assoc (cells_of ss) p x, append_assoc (words_of ss) w y, append_assoc (counts_of ss) c v) (sheet_in_lem F K ss z (p ++ x) (w ++ y) (c ++ v))

refused_some : (F : Form) (bs : List ℕ) (n : ℕ) → read_sheet F bs ≡ refused n → n ≡ 0 → ⊥
unfolding read_sheet accept
refused_some F [] n e z = absurd (let q : 15 ≡ n = cc in omega arith)
refused_some F (b ∷ bs) n e z = split (eqb b F.number)
    (λ t. other (read_body F (gather (bits_of 8) bs)) (rw (t, read_sheet) at e))
    (λ t. let d : refused 16 ≡ refused n = rw (t, read_sheet) at e in let q : 16 ≡ n = cc in omega arith)
  where
    other : (r : Read Sheet) → accept r ≡ refused n → ⊥
    other cut d = let q : 15 ≡ n = cc in omega arith
    other (got T rest) d = split (is_padding rest)
        (λ t. no_sheet (sym (rw (t, accept) at d)))
        (λ t. let c : refused 15 ≡ refused n = rw (t, accept) at d in let q : 15 ≡ n = cc in omega arith)

module _ (gates bs : List ℕ) (B : Bytes bs) (two : get_or bs 0 0 ≡ 2) (a : Areas) where
  -- Whatever sheet 2 was read, writing it from the areas that reading left gives the same bytes.
  pub write_back : (reader gates bs a).reply.number ≡ 0 → (xs : List ℕ) →
      writer sheet_two (reader gates bs a).reply.height (reader gates bs a).reply.stages (reader gates bs a).areas xs ≡ into (file bs) xs
  unfolding reader from unread writer
  write_back z xs = by (read_either gates bs) refl z
    where
      is : read_either gates bs ≡ read_sheet sheet_two bs
      is = as_two gates bs (λ y. omega arith)

      by : (r : Sheet?) → read_either gates bs ≡ r → (from r a).reply.number ≡ 0 → writer sheet_two (from r a).reply.height (from r a).reply.stages (from r a).areas xs ≡ into (file bs) xs
      by (refused n) e y = absurd (refused_some sheet_two bs n (sym is ∙ e) y)
      by (sheet T) e y = split (roomy T a)
          (λ t.
          let w = two_only T bs B (sym is ∙ e) in
          let q = areas_with_lem sheet_two T a (fits_sized sheet_two T.height T.stages (wrote sheet_two forms.two T bs w).held.stages) in
          rw (t, from, q, w))
          (λ t. absurd (let q : 17 ≡ 0 = rw (t, from) at y in omega arith))

-- Whatever was read, of either sheet, can be written: the areas that reading left are refused with 17 only.
module _ (gates bs : List ℕ) (B : Bytes bs) (a : Areas) where
  pub write_read : (T : Sheet) → read_either gates bs ≡ sheet T → (reader gates bs a).reply.number ≡ 0 → (xs : List ℕ) →
      writer sheet_two (reader gates bs a).reply.height (reader gates bs a).reply.stages (reader gates bs a).areas xs ≡ into (file (sheet_bytes sheet_two T)) xs
  unfolding reader from unread writer write_sheet
  write_read T e y xs =
      let H = either_held gates bs T B e in
      let q = areas_with_lem sheet_two T a (fits_sized sheet_two T.height T.stages H.stages) in
      let z : (from (sheet T) a).reply.number ≡ 0 = rw e at y in
      split (roomy T a)
      (λ t. rw (e, from, t, q, is_held sheet_two T H, write_sheet))
      (λ t. absurd (let q : 17 ≡ 0 = rw (t, from) at z in omega arith))
