-- Words and stages: a reader takes exactly the bits that the writer makes. Assumes nothing.
use Prim.Native.Nat.{ℕ, zero, suc, ◌+◌, ◌-◌, ◌^◌, ◌≤◌}
use mathlib.Core.Path.{◌≡◌, refl, sym, ap}
use mathlib.Core.Bool.{Bool, true, false, not, ◌&&◌}
use mathlib.Core.List.{List, [], ◌∷◌, ◌++◌, append_assoc}
use native.Mathlib.Omega.{arith}
use lib.Dec.{eqb, leb}
use lib.ListN.{length, get_or, drop}
use lib.Pow.{pow_mono, pow_pos}
use borrow.Author.Tests.{not-true, lt-ltb, ltb-true, le-leb, leb-true, eq-eqb, eqb-true}
use Rattle.rules.specs.Lists.{every, gather}
use Rattle.rules.specs.Cells.{empty, filled, is_height, stage_size, word_limit, word_fits}
use Rattle.rules.specs.Build.{Stage}
use Rattle.rules.specs.Job.{bits_of, got, next, field, fields}
use Rattle.rules.proofs.Lists.Members.{split, and_true}
use Rattle.rules.proofs.Job.Bits.{Bits, bits_none, bits_append, bits_of_lem, bits_gather}
use Rattle.rules.proofs.Job.Fields.{every_cons, every_parts, through, no_cut, same_got, joined, field_got, field_only, fits_in, fields_got, fields_only}
use Rattle.sheet_form.specs.Forms.{Form}
use Rattle.sheet_form.specs.Sheets.{cells_bits, cells_fit, stage_bits, stages_bits, stage_fits, stages_fit, read_cells, read_words, read_stage, read_stages}
use Rattle.sheet_form.proofs.Cells.{Sound, cells_got, cells_only, bits_cells}

-- a height from 6 to 13
pub tall : (K : ℕ) → is_height K ≡ true → (6 ≤ K) × (K ≤ 13)
unfolding is_height
tall K e = let h = and_true (leb 6 K) (leb K 13) e in (leb-true 6 K h.0, leb-true K 13 h.1)

-- ---- words: below W, and so below 256

every_less : (f g : ℕ → Bool) → ((x : ℕ) → f x ≡ true → g x ≡ true) → (xs : List ℕ) → every f xs ≡ true → every g xs ≡ true
unfolding every
every_less f g h [] e = refl
every_less f g h (x ∷ xs) e = let d = every_parts f x xs e in every_cons g x xs (h x d.0) (every_less f g h xs d.1)

word_byte : (K : ℕ) → K ≤ 13 → (w : ℕ) → word_fits K w ≡ true → fits_in 8 w ≡ true
unfolding word_fits word_limit
word_byte K h w e = lt-ltb w (2 ^ 8) (omega (arith, ltb-true w (2 ^ (K - 5)) e, pow_mono {i = K - 5} {j = 8} (omega arith)))

-- the word count and the words
abbrev pub words_bits : List ℕ → List ℕ
words_bits ws = bits_of 16 (length ws) ++ gather (bits_of 8) ws

words_got : (K : ℕ) → K ≤ 13 → (ws rest : List ℕ) → leb (length ws) 65535 ≡ true → every (word_fits K) ws ≡ true → read_words K (words_bits ws ++ rest) ≡ got ws rest
unfolding read_words next
words_got K h ws rest l e =
    let n = leb-true (length ws) 65535 l in
    rw (
      append_assoc (bits_of 16 (length ws)) (gather (bits_of 8) ws) rest,
      field_got 16 (length ws) (gather (bits_of 8) ws ++ rest) (omega arith),
      next,
      fields_got 8 ws rest (every_less (word_fits K) (fits_in 8) (word_byte K h) ws e),
      next,
      e,
    )

record WordsTaken (K : ℕ) (bs ws rest : List ℕ) : Type 0 where
  is : bs ≡ words_bits ws ++ rest
  few : leb (length ws) 65535 ≡ true
  below : every (word_fits K) ws ≡ true
  bits : Bits rest

words_only : (K : ℕ) (bs : List ℕ) {ws rest : List ℕ} → Bits bs → read_words K bs ≡ got ws rest → WordsTaken K bs ws rest
unfolding read_words
words_only K bs {ws} {rest} B e =
    let t = through (field 16 bs) _ e in
    let f = field_only 16 bs B t.first in
    let u = through (fields t.a 8 t.b) _ t.second in
    let g = fields_only t.a 8 t.b f.bits u.first in
    split (every (word_fits K) u.a)
    (λ v. same_got (WordsTaken K bs) (rw v at u.second) (record {
      is = rw g.count (joined (bits_of 16 t.a) (gather (bits_of 8) u.a) u.b f.is g.is);
      few = le-leb (length u.a) 65535 (omega (arith, g.count, f.below));
      below = v;
      bits = g.bits;
    }))
    (λ v. no_cut (rw v at u.second))

-- ---- a stage

-- position 0 is empty, and the rest follows it
record Plan (K : ℕ) (plan : List ℕ) : Type 0 where
  is : plan ≡ empty ∷ drop 1 plan
  size : length (drop 1 plan) ≡ stage_size K - 1

plan_is : (K : ℕ) (plan : List ℕ) → length plan ≡ stage_size K → filled (get_or plan 0 empty) ≡ false → Plan K plan
unfolding filled
plan_is K [] e z = absurd (omega (arith, pow_pos (K + 1)))
plan_is K (c ∷ cs) e z = let d : c ≡ empty = eqb-true c empty (borrow.Author.Tests.not-false (eqb c empty) z) in record { is = ap (λ (x : ℕ). x ∷ cs) d; size = omega arith }

-- a stage that fits, part by part
pub record StageFits (F : Form) (K : ℕ) (s : Stage) : Type 0 where
  pub size : length s.plan ≡ stage_size K
  pub zeroth : filled (get_or s.plan 0 empty) ≡ false
  pub few : leb (length s.words) 65535 ≡ true
  pub words : every (word_fits K) s.words ≡ true
  pub cells : cells_fit F K 1 (drop 1 s.plan) ≡ true

-- a test that passes says so
pub stage_fits_lem : (F : Form) (K : ℕ) (s : Stage) → stage_fits F K s ≡ true → StageFits F K s
unfolding stage_fits
stage_fits_lem F K s e =
    let a = and_true (eqb (length s.plan) (stage_size K) && not (filled (get_or s.plan 0 empty)) && leb (length s.words) 65535 && every (word_fits K) s.words) (cells_fit F K 1 (drop 1 s.plan)) e in
    let b = and_true (eqb (length s.plan) (stage_size K) && not (filled (get_or s.plan 0 empty)) && leb (length s.words) 65535) (every (word_fits K) s.words) a.0 in
    let c = and_true (eqb (length s.plan) (stage_size K) && not (filled (get_or s.plan 0 empty))) (leb (length s.words) 65535) b.0 in
    let d = and_true (eqb (length s.plan) (stage_size K)) (not (filled (get_or s.plan 0 empty))) c.0 in
    record { size = eqb-true (length s.plan) (stage_size K) d.0; zeroth = not-true (filled (get_or s.plan 0 empty)) d.1; few = c.1; words = b.1; cells = a.1 }

-- and a stage that fits passes the test
pub fits_stage : (F : Form) (K : ℕ) (s : Stage) → StageFits F K s → stage_fits F K s ≡ true
unfolding stage_fits
fits_stage F K s T = rw (eq-eqb (length s.plan) (stage_size K) T.size, T.zeroth, T.few, T.words, T.cells)

module _ (F : Form) (S : Sound F) (K : ℕ) (h : K ≤ 13) where
  stage_got : (s : Stage) (rest : List ℕ) → stage_fits F K s ≡ true → read_stage F K (stage_bits F K s ++ rest) ≡ got s rest
  unfolding stage_bits read_stage next
  stage_got s rest e =
      let T = stage_fits_lem F K s e in
      let P = plan_is K s.plan T.size T.zeroth in
      let c : read_cells F K (stage_size K - 1) 1 (cells_bits F K 1 (drop 1 s.plan) ++ rest) ≡ got (drop 1 s.plan) rest = rw P.size at (cells_got F S K 1 (drop 1 s.plan) rest T.cells) in
      rw (append_assoc (words_bits s.words) (cells_bits F K 1 (drop 1 s.plan)) rest, words_got K h s.words (cells_bits F K 1 (drop 1 s.plan) ++ rest) T.few T.words, next, c, next)
      (ap (λ (p : List ℕ). got (record { plan = p; words = s.words }) rest) (sym P.is))

  record StageTaken (bs : List ℕ) (s : Stage) (rest : List ℕ) : Type 0 where
    is : bs ≡ stage_bits F K s ++ rest
    below : stage_fits F K s ≡ true
    bits : Bits rest

  stage_only : (bs : List ℕ) {s : Stage} {rest : List ℕ} → Bits bs → read_stage F K bs ≡ got s rest → StageTaken bs s rest
  unfolding stage_bits read_stage filled empty
  stage_only bs B e =
      let t = through (read_words K bs) _ e in
      let f = words_only K bs B t.first in
      let u = through (read_cells F K (stage_size K - 1) 1 t.b) _ t.second in
      let g = cells_only F S K (stage_size K - 1) 1 t.b f.bits u.first in
      same_got (StageTaken bs) u.second (record {
        is = joined (words_bits t.a) (cells_bits F K 1 u.a) u.b f.is g.is;
        below = fits_stage F K (record { plan = empty ∷ u.a; words = t.a }) (record { size = omega (arith, g.count, pow_pos (K + 1)); zeroth = refl; few = f.few; words = f.below; cells = g.below });
        bits = g.bits;
      })

  bits_stage : (s : Stage) → Bits (stage_bits F K s)
  unfolding stage_bits
  bits_stage s = bits_append _ _ (bits_append _ _ (bits_of_lem 16 (length s.words)) (bits_gather 8 s.words)) (bits_cells F S K 1 (drop 1 s.plan))

  -- ---- stages in a row

  -- stages that were written are read back
  pub stages_got : (ss : List Stage) (rest : List ℕ) → stages_fit F K ss ≡ true → read_stages F K (length ss) (stages_bits F K ss ++ rest) ≡ got ss rest
  unfolding stages_fit stages_bits read_stages next
  stages_got [] rest e = refl
  stages_got (s ∷ ss) rest e =
      let d = and_true (stage_fits F K s) (stages_fit F K ss) e in
      rw (append_assoc (stage_bits F K s) (stages_bits F K ss) rest, stage_got s (stages_bits F K ss ++ rest) d.0, next, stages_got ss rest d.1)

  -- stages were read: their bits stood there, so many, and each fits
  pub record StagesTaken (n : ℕ) (bs : List ℕ) (ss : List Stage) (rest : List ℕ) : Type 0 where
    pub is : bs ≡ stages_bits F K ss ++ rest
    pub count : length ss ≡ n
    pub below : stages_fit F K ss ≡ true
    pub bits : Bits rest

  -- only the bits of stages are read as stages
  pub stages_only : (n : ℕ) (bs : List ℕ) {ss : List Stage} {rest : List ℕ} → Bits bs → read_stages F K n bs ≡ got ss rest → StagesTaken n bs ss rest
  unfolding stages_fit stages_bits read_stages
  stages_only zero bs B e = same_got (StagesTaken zero bs) e (record { is = refl; count = refl; below = refl; bits = B })
  stages_only (suc n) bs B e =
      let t = through (read_stage F K bs) (λ s cs. next (read_stages F K n cs) (λ ss ds. got (s ∷ ss) ds)) e in
      let f = stage_only bs B t.first in
      let u = through (read_stages F K n t.b) (λ ss ds. got (t.a ∷ ss) ds) t.second in
      let g = stages_only n t.b f.bits u.first in
      same_got (StagesTaken (suc n) bs) u.second (record {
        is = joined (stage_bits F K t.a) (stages_bits F K u.a) u.b f.is g.is;
        count = ap suc g.count;
        below = rw f.below g.below;
        bits = g.bits;
      })

  -- what is written of stages are bits
  pub bits_stages : (ss : List Stage) → Bits (stages_bits F K ss)
  unfolding stages_bits
  bits_stages [] = bits_none
  bits_stages (s ∷ ss) = bits_append (stage_bits F K s) (stages_bits F K ss) (bits_stage s) (bits_stages ss)
