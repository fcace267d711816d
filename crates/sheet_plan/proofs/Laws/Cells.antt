-- Cells read one behind the other, and a stage's coded. Assumes nothing.
use mathlib.Core.Path.{◌≡◌, refl, sym, ap, ◌∙◌}
use mathlib.Core.Bool.{true, false}
use mathlib.Core.List.{List, [], ◌∷◌, ◌++◌, append_assoc, append-nil}
use Prim.Native.Nat.{ℕ, zero, suc, ◌+◌, ◌-◌, ◌*◌, ◌^◌, ◌<◌, ◌≤◌}
use native.Mathlib.Numerals.{add-one}
use native.Mathlib.Omega.{arith}
use lib.Dec.{leb}
use lib.ListN.{length, get_or, set, take, drop, length-set, length-drop}
use lib.Pow.{pow_mono, pow_pos}
use lib.Seq.{take_all, take-suc-set, get_or-set_same}
use borrow.Author.Tests.{le-leb, lt-leb, leb-true, leb-false, lt-ltb, eq-eqb, ne_eqb}
use Rattle.rules.specs.Cells.{empty, filled, stage_size}
use Rattle.rules.specs.Graph.{Node}
use Rattle.rules.specs.Coded.{coded}
use Rattle.rules.specs.Job.{number_of, Read, cut, got, next, field}
use Rattle.rules.proofs.Lists.Members.{split, true_false}
use Rattle.rules.proofs.Job.Bits.{Bits, bits_drop}
use Rattle.rules.proofs.Job.Fields.{through, same_got}
use Rattle.rules.proofs.Build.Coding.{length_coded}
use Rattle.rules.proofs.Stage.Staged.{two_step}
use Rattle.bits.specs.Fields.{bits_in, FieldIs}
use Rattle.bits.proofs.Laws.Fields.{bits_bits, bits_length, field_there, field_lost}
use Rattle.coding.specs.Stages as coding
use Rattle.sheet_form.specs.Forms.{does, cell_with, behind_pin, form_fits, form, form_read}
use Rattle.sheet_form.specs.Sheets.{cells_fit, read_cell, read_cells}
use Rattle.sheet_form.specs.Lifting.{stage_lifts}
use Rattle.sheet_form.proofs.Cells.{cells_only, fits_at, filled_fits}
use Rattle.sheet_form.proofs.Stages.{tall}
use Rattle.sheet_form.proofs.Forms.{behind_few, does_with, one, one_pin}
use Rattle.sheet_plan.specs.Plans.{plan_read, turned, plan_with, CellAt, CellTook, PlanAt, CellsAt, CellsTook, StageAt}

-- ---- a filled cell

field_short : (w : ℕ) (bs : List ℕ) → length bs < w → field w bs ≡ cut
unfolding field
field_short w bs h = rw (lt-leb w (length bs) h, field)

field_long : (w : ℕ) (bs : List ℕ) → w ≤ length bs → field w bs ≡ got (number_of (take w bs) 0) (drop w bs)
unfolding field
field_long w bs h = rw (le-leb w (length bs) h, field)

form_short : (number K p : ℕ) (bs : List ℕ) → length bs < 16 + behind_pin number → form_read number K p bs ≡ cut
unfolding form_read next
form_short number K p bs h = split (leb 16 (length bs))
    (λ t. rw (field_long 16 bs (leb-true 16 (length bs) t), next, field_short (behind_pin number) (drop 16 bs) (omega (arith, length-drop 16 bs, leb-true 16 (length bs) t))))
    (λ t. rw (field_short 16 bs (leb-false 16 (length bs) t)))

pow_few : (w : ℕ) → w ≤ 3 → 2 ^ w ≤ 8
pow_few w h = pow_mono {i = w} {j = 3} h

module _ {K at : ℕ} {xs : List ℕ} (A : CellAt K at xs) (number p : ℕ) where
  -- what is lost ends past the end
  pub took_lost : {read : List ℕ → Read ℕ} {c : ℕ} → read (drop at (bits_in xs)) ≡ cut → CellTook read xs at (8 * length xs + 1) c
  took_lost e = record { lost = λ _. e; is = λ k. absurd (omega arith); on = omega (arith, A.inside) }

  module _ {w : ℕ} (ew : w ≡ behind_pin number) where
    -- at most three bits stand behind a pin
    pub few_behind : w ≤ 3
    few_behind = rw ew (behind_few number)

    -- too few bits left for a pin and what stands behind it
    pub filled_short : 8 * length xs - at < 16 + w → {c : ℕ} → CellTook (form_read number K p) xs at (8 * length xs + 1) c
    filled_short h = took_lost (form_short number K p (drop at (bits_in xs)) (omega (arith, length-drop at (bits_in xs), bits_length xs, ew)))

    module _ (h : 16 + w ≤ 8 * length xs - at) {n d : ℕ} (F : FieldIs at 16 xs n) (G : FieldIs (at + 16) w xs d) where
      few : d < 8
      few = omega (arith, G.below, pow_few w few_behind)

      -- a pin and three bits make a cell
      pub parts_small : (n < 65536) × (d < 8)
      parts_small = (F.below, few)

      same : form_fits number K p (cell_with n d) ≡ form_fits 2 K p (cell_with n d)
      unfolding form_fits behind_pin
      same =
          let e : does (cell_with n d) ≡ d = does_with n d F.below few in
          let b : d < 2 ^ behind_pin number = rw ew at G.below in
          rw (e, lt-ltb d (2 ^ behind_pin number) b, lt-ltb d 8 few)

      there : form_read number K p (drop at (bits_in xs)) ≡ elim (form_fits number K p (cell_with n d)) [ true ↦ got (cell_with n d) (drop (at + 16 + w) (bits_in xs)) | false ↦ cut ]
      unfolding form_read next
      there =
          let i = A.inside in
          let f = field_there at 16 xs n F (omega arith) in
          let g : field (behind_pin number) (drop (at + 16) (bits_in xs)) ≡ got d (drop (at + 16 + w) (bits_in xs)) = ap (λ (v : ℕ). field v (drop (at + 16) (bits_in xs))) (sym ew) ∙ field_there (at + 16) w xs d G (omega arith) in
          rw (f, next, g)

      -- a cell that the sheet does not hold is refused as a cut is
      pub filled_bad : {c : ℕ} → c ≡ cell_with n d → form_fits 2 K p c ≡ false → {c' : ℕ} → CellTook (form_read number K p) xs at (8 * length xs + 1) c'
      filled_bad {c} ec e = let z : form_fits number K p (cell_with n d) ≡ false = same ∙ rw ec at e in took_lost (there ∙ rw z)

      -- one that it holds is read
      pub filled_took : {c : ℕ} → c ≡ cell_with n d → form_fits 2 K p c ≡ true → CellTook (form_read number K p) xs at (at + 16 + w) c
      filled_took {c} ec e =
          let i = A.inside in
          let z : form_fits number K p (cell_with n d) ≡ true = same ∙ rw ec at e in
          record { lost = λ k. absurd (omega arith); is = λ _. there ∙ rw (z, ec); on = omega arith }

  -- ---- a cell

  -- no bit left for a cell: cut
  pub cell_lost : 8 * length xs ≤ at → {c : ℕ} → CellTook (read_cell (form number) K p) xs at (8 * length xs + 1) c
  unfolding read_cell next
  cell_lost h = took_lost (rw (field_lost at 1 xs (omega arith)))

  module _ (h : at < 8 * length xs) {b : ℕ} (F : FieldIs at 1 xs b) where
    first : field 1 (drop at (bits_in xs)) ≡ got b (drop (at + 1) (bits_in xs))
    first = field_there at 1 xs b F (omega arith)

    -- behind a filled bit a pin may be read
    pub filled_at : CellAt K (at + 1) xs
    filled_at = record { height = A.height; small = A.small; inside = omega arith }

    -- a one and a filled cell are a cell
    pub cell_filled : b ≡ 1 → {at' c : ℕ} → CellTook (form_read number K p) xs (at + 1) at' c → CellTook (read_cell (form number) K p) xs at at' c
    unfolding read_cell next
    cell_filled e T =
        let i : read_cell (form number) K p (drop at (bits_in xs)) ≡ form_read number K p (drop (at + 1) (bits_in xs)) = rw (first, next, eq-eqb b 1 e) in
        record { lost = λ k. i ∙ T.lost k; is = λ k. i ∙ T.is k; on = omega (arith, T.on) }

    -- a zero is the empty mark
    pub cell_empty : (b ≡ 1 → ⊥) → {c : ℕ} → c ≡ empty → CellTook (read_cell (form number) K p) xs at (at + 1) c
    unfolding read_cell next
    cell_empty e q = record { lost = λ k. absurd (omega arith); is = λ _. rw (first, next, ne_eqb b 1 e, q); on = omega arith }

-- ---- the cells of a stage

-- some numbers in front of what is read
unfoldable pub after : List ℕ → Read (List ℕ) → Read (List ℕ)
after ys r = next r (λ xs ds. got (ys ++ xs) ds)

after_twice : (xs ys : List ℕ) (r : Read (List ℕ)) → after xs (after ys r) ≡ after (xs ++ ys) r
unfolding after next
after_twice xs ys cut = refl
after_twice xs ys (got zs ds) = ap (λ (l : List ℕ). got l ds) (sym (append_assoc xs ys zs))

next_cell : (number K n p : ℕ) (bs : List ℕ) {c : ℕ} {cs : List ℕ} → read_cell (form number) K p bs ≡ got c cs → read_cells (form number) K (suc n) p bs ≡ after (c ∷ []) (read_cells (form number) K n (suc p) cs)
unfolding read_cells after next
next_cell number K n p bs e = rw e

no_cell : (number K n p : ℕ) (bs : List ℕ) → read_cell (form number) K p bs ≡ cut → read_cells (form number) K (suc n) p bs ≡ cut
unfolding read_cells next
no_cell number K n p bs e = rw e

-- the positions before p are read
pub record Cells (number K : ℕ) (xs : List ℕ) (from at p : ℕ) (cells₀ cells : List ℕ) : Type 0 where
  pub low : 1 ≤ p
  pub upto : p ≤ length cells
  pub len : length cells ≡ length cells₀
  pub inside : at ≤ 8 * length xs
  pub on : from ≤ at
  pub left : plan_read number K (drop from (bits_in xs)) ≡ after (take p cells) (read_cells (form number) K (length cells - p) p (drop at (bits_in xs)))

first_taken : (cells : List ℕ) → 1 ≤ length cells → get_or cells 0 0 ≡ empty → take 1 cells ≡ empty ∷ []
first_taken [] h e = absurd (omega arith)
first_taken (c ∷ cells) h e = rw e

module _ {K from : ℕ} {xs cells₀ : List ℕ} (A : CellsAt K from xs cells₀) (number : ℕ) where
  -- position 0 is
  pub cells_none : Cells number K xs from from 1 cells₀ cells₀
  unfolding plan_read after
  cells_none =
      let s = A.plan.size in
      record { low = omega arith; upto = A.plan.some; len = refl; inside = A.plan.inside; on = omega arith; left = rw (first_taken cells₀ A.plan.some A.zeroth, s) }

  module _ {at p : ℕ} {cells : List ℕ} (C : Cells number K xs from at p cells₀ cells) where
    -- the next cell may be read
    pub cell_asks : CellAt K at xs
    cell_asks = record { height = A.plan.height; small = A.plan.small; inside = C.inside }

    module _ (h : p < length cells) {at₂ c : ℕ} (T : CellTook (read_cell (form number) K p) xs at at₂ c) where
      step : length cells - p ≡ suc (length cells - (p + 1))
      step = omega arith

      -- a cell that is refused refuses them all
      pub cells_lost : 8 * length xs < at₂ → CellsTook (plan_read number K) xs from at₂ cells₀ cells
      unfolding after next
      cells_lost k =
          let e : read_cells (form number) K (length cells - p) p (drop at (bits_in xs)) ≡ cut = rw step (no_cell number K (length cells - (p + 1)) p (drop at (bits_in xs)) (T.lost k)) in
          record { len = C.len; lost = λ _. C.left ∙ rw e; is = λ l. absurd (omega arith); on = omega (arith, C.on, T.on) }

      -- one more is read
      pub cells_more : at₂ ≤ 8 * length xs → Cells number K xs from at₂ (p + 1) cells₀ (set cells p c)
      cells_more k =
          let l : length (set cells p c) ≡ length cells = length-set cells p c in
          let e : read_cells (form number) K (length cells - p) p (drop at (bits_in xs)) ≡ after (c ∷ []) (read_cells (form number) K (length cells - (p + 1)) (p + 1) (drop at₂ (bits_in xs)))
          = rw (step, add-one p) (next_cell number K (length cells - suc p) p (drop at (bits_in xs)) (T.is k)) in
          let t : take (p + 1) (set cells p c) ≡ take p cells ++ (c ∷ []) = rw (add-one p) (take-suc-set cells p c h) in
          record {
            low = omega arith;
            upto = rw l (omega arith);
            len = l ∙ C.len;
            inside = k;
            on = omega (arith, C.on, T.on);
            left = C.left ∙ ap (after (take p cells)) e ∙ after_twice (take p cells) (c ∷ []) _ ∙ rw (t, l);
          }

    -- all are read
    pub cells_done : length cells ≤ p → CellsTook (plan_read number K) xs from at cells₀ cells
    unfolding after next read_cells
    cells_done h =
        let z : length cells - p ≡ 0 = omega arith in
        record {
          len = C.len;
          lost = λ k. absurd (omega (arith, C.inside));
          is = λ _. C.left ∙ rw z (ap (λ (l : List ℕ). got l (drop at (bits_in xs))) (append-nil (take p cells) ∙ take_all p cells h));
          on = C.on;
        }

-- ---- a stage's, coded

nothing : filled empty ≡ false
unfolding filled empty
nothing = refl

pins_small : (K : ℕ) (bs : List ℕ) → Bits bs → {cells rest : List ℕ} → plan_read 1 K bs ≡ got cells rest → (p : ℕ) → filled (get_or cells p empty) ≡ true → get_or cells p empty < 65536
unfolding plan_read
pins_small K bs B e p =
    let t = through (read_cells (form 1) K (stage_size K - 1) 1 bs) _ e in
    let o = cells_only (form 1) one K (stage_size K - 1) 1 bs B t.first in
    same_got (λ (cells rest : List ℕ). filled (get_or cells p empty) ≡ true → get_or cells p empty < 65536) t.second (by t.a o.below p)
  where
    by : (ys : List ℕ) → cells_fit (form 1) K 1 ys ≡ true → (p : ℕ) → filled (get_or (empty ∷ ys) p empty) ≡ true → get_or (empty ∷ ys) p empty < 65536
    by ys f zero k = true_false k nothing
    by ys f (suc i) k = (one_pin K (1 + i) (get_or ys i empty) (filled_fits (form 1) K (1 + i) (get_or ys i empty) k (fits_at (form 1) K 1 ys f i))).1

-- an area of a stage's size, its first number the empty mark
pub cells_asks : {K at : ℕ} {xs cells : List ℕ} → PlanAt K at xs cells → CellsAt K at xs (set cells 0 4294967295)
unfolding empty
cells_asks {cells = cells} A = record {
  plan = record { height = A.height; small = A.small; inside = A.inside; size = length-set cells 0 4294967295 ∙ A.size; some = rw (length-set cells 0 4294967295) A.some };
  zeroth = get_or-set_same cells 0 4294967295 0 A.some;
}

module _ {K at : ℕ} {xs cells : List ℕ} (A : PlanAt K at xs cells) (number : ℕ) {cells₁ : List ℕ} {at₁ : ℕ} (T : CellsTook (plan_read number K) xs at at₁ (set cells 0 4294967295) cells₁) (g : List Node) where
  -- the area keeps its length
  pub plan_length : length cells₁ ≡ length cells
  plan_length = T.len ∙ length-set cells 0 4294967295

  -- cells that are refused
  pub plan_lost : 8 * length xs < at₁ → CellsTook (plan_with number K g) xs at at₁ cells cells₁
  unfolding plan_with next
  plan_lost k = record { len = plan_length; lost = λ l. rw (T.lost l); is = λ l. absurd (omega arith); on = T.on }

  module _ (k : at₁ ≤ 8 * length xs) where
    -- of sheet 2 they are the stage's
    pub plan_two : (number ≡ 1 → ⊥) → CellsTook (plan_with number K g) xs at at₁ cells cells₁
    unfolding plan_with next turned
    plan_two n = record { len = plan_length; lost = λ l. absurd (omega arith); is = λ _. rw (T.is k, next, ne_eqb number 1 n, turned); on = T.on }

    size : length cells₁ ≡ 2 ^ (K + 1)
    size = plan_length ∙ A.size

    most : 2 ^ (K + 1) ≤ 16384
    most = pow_mono {i = K + 1} {j = 14} (omega (arith, (tall K A.height).1))

    -- of sheet 1 they are pins
    pub lifts_asks : StageAt K cells₁
    lifts_asks = record { height = A.height; size = size; few = rw size most }

    module _ (e : number ≡ 1) where
      pins : (p : ℕ) → filled (get_or cells₁ p empty) ≡ true → get_or cells₁ p empty < 65536
      pins = let t : plan_read 1 K (drop at (bits_in xs)) ≡ got cells₁ (drop at₁ (bits_in xs)) = rw e at (T.is k) in pins_small K (drop at (bits_in xs)) (bits_drop at (bits_bits xs)) t

      -- which may be coded
      pub code_asks : coding.StageAt K cells₁
      code_asks = record {
        height = A.height;
        low = pow_pos K;
        high = pow_mono {i = K} {j = 13} (tall K A.height).1;
        double = two_step K;
        size = size;
        pins = pins;
      }

      -- a pin that the graph cannot code refuses them
      pub plan_bad : stage_lifts K g cells₁ ≡ false → CellsTook (plan_with number K g) xs at (8 * length xs + 1) cells cells₁
      unfolding plan_with next turned
      plan_bad l = record { len = plan_length; lost = λ _. rw (T.is k, next, eq-eqb number 1 e, l, turned); is = λ o. absurd (omega arith); on = omega (arith, A.inside) }

      -- else they are coded
      pub plan_one : stage_lifts K g cells₁ ≡ true → {cells₂ : List ℕ} → cells₂ ≡ coded K g cells₁ → CellsTook (plan_with number K g) xs at at₁ cells cells₂
      unfolding plan_with next turned
      plan_one l q = record { len = ap length q ∙ length_coded K g cells₁ ∙ sym size ∙ plan_length; lost = λ o. absurd (omega arith); is = λ _. rw (T.is k, next, eq-eqb number 1 e, l, turned) (ap (λ (x : List ℕ). got x (drop at₁ (bits_in xs))) (sym q)); on = T.on }
