-- The sheet as a whole: what is written is read back, and only what is written is read. Assumes nothing.
use Prim.Native.Nat.{ℕ, zero, suc, ◌-◌, ◌%◌, ◌<◌}
use mathlib.Core.Path.{◌≡◌, sym, ap, ◌∙◌}
use mathlib.Core.Bool.{true, ◌&&◌}
use mathlib.Core.List.{List, [], ◌∷◌, ◌++◌, append_assoc, append-nil}
use native.Mathlib.Omega.{arith}
use lib.Dec.{leb, ltb, eqb}
use lib.ListN.{length, get_or, replicate, length-append, length-replicate}
use borrow.Author.Tests.{lt-ltb, ltb-true, le-leb, leb-true, eqb-true}
use Rattle.rules.specs.Lists.{every, gather}
use Rattle.rules.specs.Cells.{is_height}
use Rattle.rules.specs.Job.{bits_of, Read, cut, got, next, field, is_padding, to_byte, bytes_of, no_file, file}
use Rattle.rules.proofs.Lists.Members.{split, and_true, eqb_same}
use Rattle.rules.proofs.Job.Bits.{Bits, bits_append, bits_of_lem, bits_gather, width, gather_width, Bytes, bits_bytes, bytes_append}
use Rattle.rules.proofs.Job.Fields.{through, no_cut, same_got, joined, field_got, field_only}
use Rattle.rules.proofs.Job.Files.{zeros, zeros_only, byte_bits}
use Rattle.sheet_form.specs.Forms.{Form}
use Rattle.sheet_form.specs.Sheets.{Sheet, stages_bits, sheet_bits, sheet_bytes, stages_fit, holdable, write_sheet, read_stages, read_height, read_body, refused, sheet, accept, read_sheet}
use Rattle.sheet_form.proofs.Cells.{Sound}
use Rattle.sheet_form.proofs.Stages.{tall, stages_got, stages_only, bits_stages}

-- ---- what can be written

-- what a sheet can hold
pub record Held (F : Form) (T : Sheet) : Type 0 where
  pub height : is_height T.height ≡ true
  pub few : leb (length T.stages) 65535 ≡ true
  pub stages : stages_fit F T.height T.stages ≡ true

-- a test that passes says so
pub held : (F : Form) (T : Sheet) → holdable F T ≡ true → Held F T
unfolding holdable
held F T e =
    let a = and_true (is_height T.height && leb (length T.stages) 65535) (stages_fit F T.height T.stages) e in
    let b = and_true (is_height T.height) (leb (length T.stages) 65535) a.0 in
    record { height = b.0; few = b.1; stages = a.1 }

-- and what it can hold passes the test
pub is_held : (F : Form) (T : Sheet) → Held F T → holdable F T ≡ true
unfolding holdable
is_held F T H = rw (H.height, H.few, H.stages)

height_got : (K : ℕ) (rest : List ℕ) → is_height K ≡ true → read_height (bits_of 4 K ++ rest) ≡ got K rest
unfolding read_height next
height_got K rest e = rw (field_got 4 K rest (omega (arith, (tall K e).1)), next, e)

record HeightTaken (bs : List ℕ) (K : ℕ) (rest : List ℕ) : Type 0 where
  is : bs ≡ bits_of 4 K ++ rest
  height : is_height K ≡ true
  bits : Bits rest

height_only : (bs : List ℕ) {K : ℕ} {rest : List ℕ} → Bits bs → read_height bs ≡ got K rest → HeightTaken bs K rest
unfolding read_height
height_only bs B e =
    let t = through (field 4 bs) _ e in
    let f = field_only 4 bs B t.first in
    split (is_height t.a)
    (λ v. same_got (HeightTaken bs) (rw v at t.second) (record { is = f.is; height = v; bits = f.bits }))
    (λ v. no_cut (rw v at t.second))

-- what is refused is no sheet
pub no_sheet : {P : Type 0} {n : ℕ} {T : Sheet} → refused n ≡ sheet T → P
no_sheet e = absurd (let z : ◌≡◌ {A = ℕ} 0 1 = cc in omega arith)

module _ (F : Form) (S : Sound F) where
  body_got : (T : Sheet) (rest : List ℕ) → Held F T → read_body F (sheet_bits F T ++ rest) ≡ got T rest
  unfolding sheet_bits read_body next
  body_got T rest H =
      let K = T.height in
      let ss = T.stages in
      let n = leb-true (length ss) 65535 H.few in
      rw (
        append_assoc (bits_of 4 K ++ bits_of 16 (length ss)) (stages_bits F K ss) rest,
        append_assoc (bits_of 4 K) (bits_of 16 (length ss)) (stages_bits F K ss ++ rest),
        height_got K (bits_of 16 (length ss) ++ (stages_bits F K ss ++ rest)) H.height,
        next,
        field_got 16 (length ss) (stages_bits F K ss ++ rest) (omega arith),
        next,
        stages_got F S K (tall K H.height).1 ss rest H.stages,
      )

  record BodyTaken (bs : List ℕ) (T : Sheet) (rest : List ℕ) : Type 0 where
    is : bs ≡ sheet_bits F T ++ rest
    held : Held F T

  body_only : (bs : List ℕ) {T : Sheet} {rest : List ℕ} → Bits bs → read_body F bs ≡ got T rest → BodyTaken bs T rest
  unfolding sheet_bits read_body
  body_only bs B e =
      let t = through (read_height bs) _ e in
      let f = height_only bs B t.first in
      let u = through (field 16 t.b) _ t.second in
      let g = field_only 16 t.b f.bits u.first in
      let v = through (read_stages F t.a u.a u.b) _ u.second in
      let h = stages_only F S t.a (tall t.a f.height).1 u.a u.b g.bits v.first in
      same_got (BodyTaken bs) v.second (record {
        is = rw h.count (joined (bits_of 4 t.a ++ bits_of 16 u.a) (stages_bits F t.a v.a) v.b (joined (bits_of 4 t.a) (bits_of 16 u.a) u.b f.is g.is) h.is);
        held = record { height = f.height; few = le-leb (length v.a) 65535 (omega (arith, h.count, g.below)); stages = h.below };
      })

  bits_sheet : (T : Sheet) → Held F T → Bits (sheet_bits F T)
  unfolding sheet_bits
  bits_sheet T H = bits_append _ _ (bits_append _ _ (bits_of_lem 4 T.height) (bits_of_lem 16 (length T.stages))) (bits_stages F S T.height (tall T.height H.height).1 T.stages)

  no_file_lem : {P : Type 0} {bs : List ℕ} → no_file ≡ file bs → P
  no_file_lem e = absurd (let z : ◌≡◌ {A = ℕ} 0 1 = cc in omega arith)

  -- what was written can be held, and its bytes are the sheet's
  pub record Wrote (T : Sheet) (bs : List ℕ) : Type 0 where
    pub held : Held F T
    pub is : bs ≡ sheet_bytes F T

  -- a file comes only of what can be held
  pub wrote : (T : Sheet) (bs : List ℕ) → write_sheet F T ≡ file bs → Wrote T bs
  unfolding write_sheet
  wrote T bs e = split (holdable F T)
      (λ t. let d : file (sheet_bytes F T) ≡ file bs = rw (t, write_sheet) at e in record { held = held F T t; is = cc })
      (λ t. no_file_lem (rw (t, write_sheet) at e))

  -- Reading what was written gives the same height and stages.
  pub read_written : (T : Sheet) (bs : List ℕ) → write_sheet F T ≡ file bs → read_sheet F bs ≡ sheet T
  unfolding read_sheet accept is_padding to_byte sheet_bytes
  read_written T bs e =
      let W = wrote T bs e in
      let cs = sheet_bits F T in
      let n = (8 - length cs % 8) % 8 in
      let b : gather (bits_of 8) (bytes_of (cs ++ replicate n 0)) ≡ cs ++ replicate n 0 = byte_bits cs (bits_sheet T W.held) in
      let l : ltb (length {A = ℕ} (replicate n 0)) 8 ≡ true = lt-ltb (length {A = ℕ} (replicate n 0)) 8 (omega (arith, length-replicate {A = ℕ} n 0)) in
      rw (W.is, read_sheet, eqb_same F.number, b, body_got T (replicate n 0) W.held, accept, l, zeros n)

  record Accepted (r : Read Sheet) (T : Sheet) : Type 0 where
    rest : List ℕ
    is : r ≡ got T rest
    padding : is_padding rest ≡ true

  accepted : (r : Read Sheet) (T : Sheet) → accept r ≡ sheet T → Accepted r T
  unfolding accept
  accepted cut T e = no_sheet e
  accepted (got I rest) T e = split (is_padding rest)
      (λ t. let d : sheet I ≡ sheet T = rw (t, accept) at e in let is : I ≡ T = cc in record { rest = rest; is = cc; padding = t })
      (λ t. no_sheet (rw (t, accept) at e))

  -- Only the sheet that the writer makes is read.
  pub only_written : (T : Sheet) (bs : List ℕ) → Bytes bs → read_sheet F bs ≡ sheet T → write_sheet F T ≡ file bs
  unfolding read_sheet is_padding to_byte write_sheet sheet_bytes
  only_written T [] B e = no_sheet e
  only_written T (b ∷ bs) B e = split (eqb b F.number)
      (λ t.
      let xs = gather (bits_of 8) bs in
      let A = accepted (read_body F xs) T (rw (t, read_sheet) at e) in
      let O = body_only xs (bits_gather 8 bs) A.is in
      let cs = sheet_bits F T in
      let h = and_true (ltb (length A.rest) 8) (every (λ b. eqb b 0) A.rest) A.padding in
      let n : length A.rest ≡ (8 - length cs % 8) % 8 = omega (arith, ltb-true (length A.rest) 8 h.0, gather_width 8 bs, ap length O.is, length-append cs A.rest) in
      let z : A.rest ≡ replicate ((8 - length cs % 8) % 8) 0 = rw n at (zeros_only A.rest h.1) in
      let x : cs ++ replicate ((8 - length cs % 8) % 8) 0 ≡ xs = ap (λ (r : List ℕ). cs ++ r) (sym z) ∙ sym O.is in
      let y : bytes_of (cs ++ replicate ((8 - length cs % 8) % 8) 0) ≡ bs = ap bytes_of x ∙ bits_bytes bs (record { at = λ i. B.at (suc i) }) in
      let f : F.number ≡ b = sym (eqb-true b F.number t) in
      rw (is_held F T O.held, write_sheet, y, f))
      (λ t. no_sheet (rw (t, read_sheet) at e))

-- The sheet number's byte is its 8 bits: the whole sheet is a row of fields.
pub all_bits : (F : Form) (S : Sound F) (T : Sheet) → sheet_bytes F T ≡ bytes_of (to_byte (bits_of 8 F.number ++ sheet_bits F T))
unfolding sheet_bytes to_byte gather
all_bits F S T =
    let n = F.number in
    let cs = sheet_bits F T in
    let l : length (bits_of 8 n ++ cs) % 8 ≡ length cs % 8 = omega (arith, length-append (bits_of 8 n) cs, width 8 n) in
    let b : bytes_of (bits_of 8 n) ≡ n ∷ [] = ap bytes_of (sym (append-nil (bits_of 8 n))) ∙ bits_bytes (n ∷ []) (record { at = one_byte n S.byte }) in
    rw (l, append_assoc (bits_of 8 n) cs (replicate ((8 - length cs % 8) % 8) 0), bytes_append (bits_of 8 n) (cs ++ replicate ((8 - length cs % 8) % 8) 0) (omega (arith, width 8 n)), b)
  where
    one_byte : (n : ℕ) → n < 256 → (i : ℕ) → get_or (n ∷ []) i 0 < 256
    one_byte n h zero = h
    one_byte n h (suc i) = omega arith
