-- Two plans that the check accepts and that have the same pins are the same: pins tell kinds and inversions, since no pin is its own operand. So damage
-- of kinds and inversions alone comes back, whatever the check says of it. Assumes nothing.
use Prim.Native.Nat.{ℕ, zero, suc, ◌+◌, ◌-◌, ◌*◌, ◌^◌, ◌≤◌, ◌<◌, min}
use mathlib.Core.Path.{◌≡◌, sym, ◌∙◌, ap}
use mathlib.Core.Bool.{Bool, false}
use mathlib.Core.List.{List, [], ◌∷◌, ◌++◌}
use native.Mathlib.Omega.{arith}
use native.Mathlib.Nat.{suc-mul}
use lib.Dec.{ltb}
use lib.ListN.{length, get_or, take, drop, replicate, length-append, length-take, length-drop, get_or-eq_default}
use lib.Seq.{ext_get_or, get_or-take, get_or-drop, get_or-append-add}
use borrow.Author.Tests.{ltb-true, ltb-false}
use Rattle.rules.specs.Lists.{padded, laid_over}
use Rattle.rules.specs.Cells.{empty, filled, rooms, first_lower}
use Rattle.rules.specs.Graph.{Node, leaf, gate, pin_of}
use Rattle.rules.specs.Loops.{Valid}
use Rattle.rules.specs.Inside.Walks.{rank}
use Rattle.rules.specs.Traversal.{WordRule}
use Rattle.rules.specs.Coded.{cell_pin, and_cell, coded}
use Rattle.rules.specs.Build.{Stage, whole, cells_of, words_of, counts_of, coded_stages}
use Rattle.rules.specs.Faults.{faultless, fault_from, cut, fault}
use Rattle.rules.proofs.Lists.Members.{split}
use Rattle.rules.proofs.Fold.Folds.{falls_first}
use Rattle.rules.proofs.Demand.{graph}
use Rattle.rules.proofs.Build.Coding.{length_coded}
use Rattle.coded.specs.Inputs.{Input, built}
use Rattle.coded.specs.Inputs as inputs
use Rattle.coded.specs.Faults.{Checked}
use Rattle.coded.proofs.Passing.{valid}
use Rattle.coded.proofs.Cells.{filled_pin}
use Rattle.coded.proofs.Coding.{not_filled}
use Rattle.coded.proofs.Tests.{Does, Passes, loads, copies, joins, right_fits}
use Rattle.coded.proofs.Stages.{passed, end_says}
use Rattle.coded.proofs.Reading.{fault_cases, accepted_parts}
use Rattle.coded.proofs.Complete.{built_accepted}
use Rattle.mending.specs.Damage.{Damaged}
use Rattle.mending.specs.Changes.{changes, changes_from, numbers_of}
use Rattle.mending.specs.Call.{answer, mender}
use Rattle.mending.proofs.Listed.{none_same}
use Rattle.mending.proofs.Answers.{accepted_unchanged}
use Rattle.mending.proofs.Recovered.{behind, call_recovered}

-- the same pins everywhere
abbrev SamePins : List ℕ → List ℕ → Type 0
SamePins cl ds = (q : ℕ) → cell_pin (get_or ds q empty) ≡ cell_pin (get_or cl q empty)

filled_same : (c d : ℕ) → cell_pin d ≡ cell_pin c → filled d ≡ filled c
filled_same c d e = sym (filled_pin d) ∙ ap filled e ∙ filled_pin c

module _ (K : ℕ) (g : List Node) (ok : Valid g) (given : List ℕ) where
  -- a copy's first lower cell holds its pin, an AND's its first operand, which is another
  apart : {P : Type 0} (n i j x : ℕ) → get_or g n leaf ≡ gate i j → x ≡ pin_of i → x ≡ n → P
  apart n i j x e u v = absurd (let z : rank g (pin_of i) ≡ rank g n = ap (rank g) (sym u ∙ v) in omega (arith, (falls_first g (rank g) (graph g ok) given [] n i j e).0))

  cell_same : (may may' : ℕ → Type 0) (cl ds : List ℕ) (p : ℕ) → SamePins cl ds → Does K g given may cl p → Does K g given may' ds p → get_or ds p empty ≡ get_or cl p empty
  cell_same may may' cl ds p e (loads a c m) (loads b d k) = d ∙ e p ∙ sym c
  cell_same may may' cl ds p e (loads a c m) (copies b d y) = absurd (omega arith)
  cell_same may may' cl ds p e (loads a c m) (joins i j b o f d u v) = absurd (omega arith)
  cell_same may may' cl ds p e (copies a c x) (loads b d k) = absurd (omega arith)
  cell_same may may' cl ds p e (copies a c x) (copies b d y) = d ∙ e p ∙ sym c
  cell_same may may' cl ds p e (copies a c x) (joins i j b o f d u v) = apart (cell_pin (get_or ds p empty)) i j (cell_pin (get_or ds (first_lower p) empty)) f u (e (first_lower p) ∙ x ∙ sym (e p))
  cell_same may may' cl ds p e (joins i j a o f c u v) (loads b d k) = absurd (omega arith)
  cell_same may may' cl ds p e (joins i j a o f c u v) (copies b d y) = apart (cell_pin (get_or cl p empty)) i j (cell_pin (get_or cl (first_lower p) empty)) f u (sym (e (first_lower p)) ∙ y ∙ e p)
  cell_same may may' cl ds p e (joins i j a o f c u v) (joins i2 j2 b o2 f2 d u2 v2) =
      let same : gate i2 j2 ≡ gate i j = sym f2 ∙ ap (λ (m : ℕ). get_or g m leaf) (e p) ∙ f in
      d ∙ (λ t. and_cell (e p t) (same t)) ∙ sym c

  stage_same : (may may' : ℕ → Bool) (room room' : ℕ) (s t : Stage) → Checked K g given may room s → Checked K g given may' room' t → length s.plan ≤ 2 ^ (K + 1) → length t.plan ≡ length s.plan → SamePins s.plan t.plan → t.plan ≡ s.plan
  stage_same may may' room room' s t C D long l e = ext_get_or empty t.plan s.plan l at
    where
      none : (q : ℕ) → filled (get_or s.plan q empty) ≡ false → get_or t.plan q empty ≡ get_or s.plan q empty
      none q k = not_filled (get_or t.plan q empty) (filled_same (get_or s.plan q empty) (get_or t.plan q empty) (e q) ∙ k) ∙ sym (not_filled (get_or s.plan q empty) k)

      at : (q : ℕ) → q < length t.plan → get_or t.plan q empty ≡ get_or s.plan q empty
      at zero h = none 0 (end_says K room s C.end).zeroth
      at (suc q) h = split (filled (get_or s.plan (suc q) empty))
          (λ k. cell_same (Passes may) (Passes may') s.plan t.plan (suc q) e
          (right_fits K g given may s.plan (suc q) k (C.cells (suc q) (omega arith) (omega arith))).does
          (right_fits K g given may' t.plan (suc q) (filled_same (get_or s.plan (suc q) empty) (get_or t.plan (suc q) empty) (e (suc q)) ∙ k) (D.cells (suc q) (omega arith) (omega arith))).does)
          (λ k. none (suc q) k)

  take_pins : (n : ℕ) (plan new : List ℕ) → SamePins plan new → SamePins (take n plan) (take n new)
  take_pins n plan new e q = split (ltb q n)
      (λ t. ap cell_pin (get_or-take n new q empty (ltb-true q n t)) ∙ e q ∙ ap cell_pin (sym (get_or-take n plan q empty (ltb-true q n t))))
      (λ t. ap cell_pin (past new t ∙ sym (past plan t)))
    where
      past : (xs : List ℕ) → ltb q n ≡ false → get_or (take n xs) q empty ≡ empty
      past xs t = get_or-eq_default (take n xs) empty (let l : length (take n xs) ≡ min n (length xs) = length-take n xs in omega (arith, ltb-false q n t))

  -- of n stages without fault every cell
  from_same : (n : ℕ) (may may' : ℕ → Bool) (room room' k : ℕ) (plan new words counts : List ℕ) → fault_from K g given may room k (cut n K plan words counts) ≡ faultless → fault_from K g given may' room' k (cut n K new words counts) ≡ faultless →
      length new ≡ length plan → SamePins plan new → (i : ℕ) → i < n * 2 ^ (K + 1) → get_or new i empty ≡ get_or plan i empty
  unfolding cut
  from_same zero may may' room room' k plan new words counts a b l e i h = absurd (omega arith)
  from_same (suc n) may may' room room' k plan new words counts a b l e i h =
      let m : ℕ = 2 ^ (K + 1) in
      let c : ℕ = get_or counts 0 0 in
      let C = passed K g given may room k _ (cut n K (drop m plan) (drop c words) (drop 1 counts)) a in
      let D = passed K g given may' room' k _ (cut n K (drop m new) (drop c words) (drop 1 counts)) b in
      let first : take m new ≡ take m plan = stage_same may may' room room' _ _ C.0 D.0 (omega (arith, length-take m plan)) (omega (arith, length-take m plan, length-take m new)) (take_pins m plan new e) in
      split (ltb i m)
      (λ t. sym (get_or-take m new i empty (ltb-true i m t)) ∙ ap (λ (xs : List ℕ). get_or xs i empty) first ∙ get_or-take m plan i empty (ltb-true i m t))
      (λ t.
      let z : m + (i - m) ≡ i = omega (arith, ltb-false i m t) in
      ap (λ (u : ℕ). get_or new u empty) (sym z) ∙ sym (get_or-drop m new (i - m) empty)
      ∙ from_same n _ _ _ _ (suc k) (drop m plan) (drop m new) (drop c words) (drop 1 counts) C.1 D.1 (omega (arith, length-drop m plan, length-drop m new))
      (λ q. ap cell_pin (get_or-drop m new q empty) ∙ e (m + q) ∙ ap cell_pin (sym (get_or-drop m plan q empty))) (i - m) (omega (arith, suc-mul n m, ltb-false i m t))
      ∙ get_or-drop m plan (i - m) empty ∙ ap (λ (u : ℕ). get_or plan u empty) z)

coded_size : (K : ℕ) (g : List Node) (ss : List Stage) → length (cells_of (coded_stages K g ss)) ≡ length ss * 2 ^ (K + 1)
unfolding coded_stages cells_of
coded_size K g [] = omega arith
coded_size K g (s ∷ ss) = length-append (coded K g s.plan) (cells_of (coded_stages K g ss)) ∙ omega (arith, length_coded K g s.plan, coded_size K g ss, suc-mul (length ss) (2 ^ (K + 1)))

-- a plan that the placer built, and the area that came back with its pins
module _ (rule : WordRule) (I : Input) (L : ℕ) (ss : List Stage) (b : built rule I (rooms I.K L) ≡ whole ss) (more more' bad : List ℕ) where
  abbrev cells : List ℕ
  cells = cells_of (coded_stages I.K (inputs.graph I) ss)

  abbrev good : List ℕ
  good = padded L empty cells

  abbrev words : List ℕ
  words = words_of ss ++ more

  abbrev counts : List ℕ
  counts = counts_of ss ++ more'

  module _ (size : length bad ≡ length good) (pins : (i : ℕ) → i < length good → cell_pin (get_or bad i empty) ≡ cell_pin (get_or good i empty)) where
    damaged : Damaged I.K (inputs.graph I) I.given (coded_stages I.K (inputs.graph I) ss) good bad
    damaged = record { size = size; tops = λ i h f. pins i h }

    all_pins : SamePins good bad
    all_pins q = split (ltb q (length good)) (λ t. pins q (ltb-true q (length good) t))
        (λ t. ap cell_pin (get_or-eq_default bad empty (omega (arith, ltb-false q (length good) t)) ∙ sym (get_or-eq_default good empty (ltb-false q (length good) t))))

    -- accepted with these pins it is the placer's plan
    pub accepted_same : fault I.K I.gates I.given I.records bad words counts (length ss) ≡ faultless → bad ≡ good
    unfolding fault padded
    accepted_same e = ext_get_or empty bad good size
        (λ i h. split (ltb i (length cells))
        (λ t. from_same I.K (inputs.graph I) (valid I) I.given (length ss) _ _ _ _ 1 good bad words counts
        (accepted_parts I.K (inputs.graph I) I.given (inputs.groups I) (cut (length ss) I.K good words counts) (built_accepted rule I L ss b more more')).0
        (accepted_parts I.K (inputs.graph I) I.given (inputs.groups I) (cut (length ss) I.K bad words counts) e).0 size all_pins i (omega (arith, coded_size I.K (inputs.graph I) ss, ltb-true i (length cells) t)))
        (λ t.
        let z : length cells + (i - length cells) ≡ i = omega (arith, ltb-false i (length cells) t) in
        ap (λ (u : ℕ). get_or bad u empty) (sym z) ∙ sym (get_or-drop (length cells) bad (i - length cells) empty)
        ∙ ap (λ (xs : List ℕ). get_or xs (i - length cells) empty) (behind rule I L ss b more more' bad damaged)
        ∙ sym (get_or-append-add cells (replicate (L - length cells) empty) (i - length cells) empty) ∙ ap (λ (u : ℕ). get_or good u empty) z))

    -- Damage of kinds and inversions alone, wherever it is, comes back as the placer's plan if the list is long enough.
    pub inversions_recovered : (need : ℕ) (list work : List ℕ) → 4 * length (changes I.K bad good) ≤ length list →
        mender I.K need I.sized I.gates I.given I.records bad words counts list work (length ss)
        ≡ record { reply = answer 0 0 0 (length (changes I.K bad good)); plan = good; list = laid_over (numbers_of (changes I.K bad good)) list; work = laid_over (replicate need 0) work }
    unfolding changes numbers_of laid_over
    inversions_recovered need list work h = fault_cases (fault I.K I.gates I.given I.records bad words counts (length ss))
        (λ e.
        let z : bad ≡ good = accepted_same e in
        let none : changes I.K bad good ≡ [] = (λ i. changes_from I.K 0 (z i) good) ∙ none_same I.K 0 good in
        accepted_unchanged I.K need I.sized I.gates I.given I.records bad words counts list work (length ss) I.passes e
        ∙ (λ i. record { reply = answer 0 0 0 (length (sym none i)); plan = z i; list = laid_over (numbers_of (sym none i)) list; work = laid_over (replicate need 0) work }))
        (λ k p e. call_recovered rule I L ss b more more' bad damaged need list work k p e h)
