-- The pins taken back: at most one a level, each where rule 7 has no room. Assumes nothing.
use Prim.Native.Nat.{ℕ, zero, suc, ◌+◌, ◌-◌, ◌^◌, ◌≤◌, ◌<◌, min, max}
use mathlib.Core.Path.{◌≡◌}
use mathlib.Core.Logic.{inl, inr}
use mathlib.Core.Bool.{false}
use mathlib.Core.List.{List, [], ◌∷◌, map}
use native.Mathlib.Omega.{arith}
use lib.ListN.{length, replicate}
use borrow.Author.Tests.{ltb-false}
use Rattle.rules.specs.Lists.{count, nothing}
use Rattle.rules.specs.Cells.{empty, filled, level_one_size, row}
use Rattle.rules.specs.Traversal.{Setting, level_at, greatest}
use Rattle.rules.specs.Placing.{tree_of, reverse_of, needed_of, roomy, cell_at, pin_at, placed}
use Rattle.stage_notes.specs.Taken.{Taken, counted, took, taken_back}
use Rattle.rules.proofs.Lists.Members.{split}
use Rattle.rules.proofs.Stage.Puts.{cell}
use Rattle.rules.proofs.Tree.Invariant.{choose_good}

-- pins of levels from 2 to below h, each of a lower level than the one before, each with counts that rule 7 finds too many
pub data Descends (X : Setting) : ℕ → List Taken → Type 0 where
  none : {h : ℕ} → Descends X h []
  next : {h : ℕ} {t : Taken} {ts : List Taken} → 2 ≤ level_at X t.pin → level_at X t.pin < h → level_one_size X.K ≤ t.needed + max t.ones t.pins → Descends X (level_at X t.pin) ts →
      Descends X h (t ∷ ts)

higher : {X : Setting} {h j : ℕ} {ts : List Taken} → h ≤ j → Descends X h ts → Descends X j ts
higher l none = none
higher {X} {h} {j} l (next {t = t} a b c d) = let e : level_at X t.pin < j = omega arith in next a e c d

pub descends_few : {X : Setting} {h : ℕ} {ts : List Taken} → Descends X h ts → length ts ≤ h - 2
descends_few none = omega arith
descends_few (next a b c d) = omega (arith, descends_few d)

module _ (X : Setting) where
  crowded : (n : ℕ) (pl : List ℕ) → roomy X pl ≡ false → level_one_size X.K ≤ (counted X n pl).needed + max (counted X n pl).ones (counted X n pl).pins
  unfolding roomy counted
  crowded n pl e = ltb-false (length (needed_of X pl) + max (count filled (row X.K 1 pl)) (length (tree_of X pl))) (level_one_size X.K) e

  took_descends : (f h : ℕ) (pl : List ℕ) → Descends X (suc h) (took X f h pl)
  unfolding took pin_at counted
  took_descends zero h pl = none
  took_descends (suc f) zero pl = none
  took_descends (suc f) (suc zero) pl = none
  took_descends (suc f) (suc (suc l)) pl = cell (cell_at X (suc (suc l)) pl)
      (λ e. rw (e, took) (higher (omega arith) (took_descends f (suc l) pl)))
      (λ p e. cell (pin_at X (suc (suc l)) pl) (λ d. rw (e, d, took) (higher (omega arith) (took_descends f (suc l) pl)))
      (λ n d. split (roomy X (placed X (suc (suc l)) p n pl))
      (λ q. rw (e, d, q, took) (took_descends f (suc (suc l)) (placed X (suc (suc l)) p n pl)))
      (λ q.
      let v : level_at X n ≡ suc (suc l) = elim (choose_good X (tree_of X pl) (reverse_of X pl) (suc (suc l)) X.order 0 nothing n d) [
        | inl z ↦ absurd (let y : ◌≡◌ {A = ℕ} 0 1 = cc in
            omega arith)
        | inr z ↦ z.1
      ] in
      let lo : 2 ≤ level_at X n = omega arith in
      let hi : level_at X n < suc (suc (suc l)) = omega arith in
      let ts : Descends X (level_at X n) (took X f (suc l) pl) = rw v (took_descends f (suc l) pl) in
      rw (e, d, q, took) (next {t = counted X n (placed X (suc (suc l)) p n pl)} lo hi (crowded n (placed X (suc (suc l)) p n pl) q) ts))))

  -- at most one a level
  pub one_a_level : Descends X (suc X.K) (taken_back X)
  unfolding taken_back
  one_a_level = higher (omega arith) (took_descends (2 ^ X.K + X.K) (min (greatest (map (level_at X) X.order) 0) X.K) (replicate (2 ^ (X.K + 1)) empty))

  -- so at most K - 1 a stage
  pub few_taken : length (taken_back X) ≤ X.K - 1
  few_taken = omega (arith, descends_few one_a_level)
