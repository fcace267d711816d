-- How many bytes a sheet has. Assumes nothing.
use Prim.Native.Nat.{ℕ, suc, ◌+◌, ◌-◌, ◌*◌, ◌/◌, ◌%◌, ◌^◌, ◌<◌, ◌≤◌}
use mathlib.Core.Path.{◌≡◌, ap, ◌∙◌}
use mathlib.Core.Bool.{true}
use mathlib.Core.List.{List, [], ◌∷◌, ◌++◌}
use native.Mathlib.Nat.{mul-le-mul_left, mul-le-mul}
use native.Mathlib.Omega.{arith}
use lib.ListN.{length, drop, replicate, length-append, length-drop, length-replicate}
use lib.Pow.{pow_mono}
use borrow.Author.Tests.{leb-true}
use Rattle.rules.specs.Lists.{gather}
use Rattle.rules.specs.Cells.{stage_size}
use Rattle.rules.specs.Build.{Stage, words_of}
use Rattle.rules.specs.Job.{bits_of, to_byte, file}
use Rattle.rules.proofs.Lists.Members.{and_true}
use Rattle.rules.proofs.Job.Bits.{width, gather_width, bytes_length}
use Rattle.sheet_form.specs.Forms.{Form, behind_pin, form}
use Rattle.sheet_form.specs.Sheets.{Sheet, cells_bits, stage_bits, stages_bits, stage_fits, stages_fit, sheet_bits, sheet_bytes, write_sheet}
use Rattle.sheet_form.proofs.Cells.{Sound, cells_short}
use Rattle.sheet_form.proofs.Stages.{tall, stage_fits_lem}
use Rattle.sheet_form.proofs.Forms.{behind_few, sound}
use Rattle.sheet_form.proofs.Sheets.{wrote}

-- the most bits of a stage's cells: each position from 1 on filled
abbrev pub cells_most : Form → ℕ → ℕ
cells_most F K = (stage_size K - 1) * (1 + F.most)

module _ (F : Form) (S : Sound F) (K : ℕ) where
  stage_short : (s : Stage) → stage_fits F K s ≡ true → length (stage_bits F K s) ≤ 16 + 8 * length s.words + cells_most F K
  unfolding stage_bits
  stage_short s e =
      let n : length (drop 1 s.plan) ≡ stage_size K - 1 = omega (arith, length-drop 1 s.plan, (stage_fits_lem F K s e).size) in
      let c : length (cells_bits F K 1 (drop 1 s.plan)) ≤ (stage_size K - 1) * (1 + F.most) = rw n at (cells_short F S K 1 (drop 1 s.plan)) in
      omega (
        arith,
        length-append (bits_of 16 (length s.words) ++ gather (bits_of 8) s.words) (cells_bits F K 1 (drop 1 s.plan)),
        length-append (bits_of 16 (length s.words)) (gather (bits_of 8) s.words),
        width 16 (length s.words),
        gather_width 8 s.words,
      )

  stages_short : (ss : List Stage) → stages_fit F K ss ≡ true → length (stages_bits F K ss) ≤ 8 * length (words_of ss) + length ss * (16 + cells_most F K)
  unfolding stages_bits stages_fit words_of
  stages_short [] e = omega arith
  stages_short (s ∷ ss) e =
      let d = and_true (stage_fits F K s) (stages_fit F K ss) e in
      omega (arith, length-append (stage_bits F K s) (stages_bits F K ss), length-append s.words (words_of ss), stage_short s d.0, stages_short ss d.1)

-- A sheet has a byte, 20 bits, and for each stage 16 bits, 8 a word and those of its cells; and up to 7 bits of padding.
pub sheet_short : (F : Form) (S : Sound F) (T : Sheet) (bs : List ℕ) → write_sheet F T ≡ file bs → 8 * length bs ≤ 35 + 8 * length (words_of T.stages) + length T.stages * (16 + cells_most F T.height)
unfolding sheet_bytes sheet_bits to_byte
sheet_short F S T bs e =
    let W = wrote F S T bs e in
    let K = T.height in
    let ss = T.stages in
    let cs = sheet_bits F T in
    let n = (8 - length cs % 8) % 8 in
    let l : length cs ≡ 20 + length (stages_bits F K ss) = omega (arith, length-append (bits_of 4 K ++ bits_of 16 (length ss)) (stages_bits F K ss), length-append (bits_of 4 K) (bits_of 16 (length ss)), width 4 K, width 16 (length ss)) in
    let b : length bs ≡ suc (length (cs ++ replicate n 0) / 8) = ap length W.is ∙ ap suc (bytes_length (cs ++ replicate n 0)) in
    let p : length (cs ++ replicate n 0) ≡ length cs + n = length-append cs (replicate n 0) ∙ ap (λ (x : ℕ). length cs + x) (length-replicate {A = ℕ} n 0) in
    let c = stages_short F S K ss W.held.stages in
    omega (arith, b, p, l, c)

words_few : (F : Form) (K : ℕ) (ss : List Stage) → stages_fit F K ss ≡ true → length (words_of ss) ≤ length ss * 65535
unfolding stages_fit words_of
words_few F K [] e = omega arith
words_few F K (s ∷ ss) e =
    let d = and_true (stage_fits F K s) (stages_fit F K ss) e in
    omega (arith, length-append s.words (words_of ss), words_few F K ss d.1, leb-true (length s.words) 65535 (stage_fits_lem F K s d.0).few)

-- No sheet has more than 2^40 bytes.
pub sheet_most : (number : ℕ) → number < 256 → (T : Sheet) (bs : List ℕ) → write_sheet (form number) T ≡ file bs → length bs ≤ 2 ^ 40
sheet_most number byte T bs e =
    let S = sound number byte in
    let H = (wrote (form number) S T bs e).held in
    let K = T.height in
    let n = length T.stages in
    let b = sheet_short (form number) S T bs e in
    let m : n ≤ 65535 = leb-true n 65535 H.few in
    let s : 2 ^ (K + 1) ≤ 16384 = pow_mono {i = K + 1} {j = 14} (omega (arith, (tall K H.height).1)) in
    let c : (2 ^ (K + 1) - 1) * (1 + (16 + behind_pin number)) ≤ 16383 * 20 = mul-le-mul {n₂ = 16383} {m₂ = 20} (omega arith) (omega (arith, behind_few number)) in
    let q : n * (16 + (2 ^ (K + 1) - 1) * (1 + (16 + behind_pin number))) ≤ n * 400000 = mul-le-mul_left n (omega (arith, c)) in
    omega (arith, b, q, words_few (form number) K T.stages H.stages)
