-- What is left of an area, and the sizes of lent areas. Assumes nothing.
use Prim.Native.Nat.{ℕ, ◌+◌, ◌-◌, ◌*◌, ◌/◌, ◌%◌, ◌≤◌, ◌<◌}
use mathlib.Core.Bool.{Bool, true, false, ◌&&◌}
use mathlib.Core.Path.{◌≡◌, refl, sym}
use native.Mathlib.Omega.{arith}
use lib.Dec.{leb, eqb}
use borrow.Author.Tests.{le-leb, lt-leb, leb-true, leb-false}
use Rattle.rules.specs.Cells.{is_height, stage_size, word_limit, rooms}
use Rattle.rules.specs.Checks.{plan_sized, areas_sized}
use Rattle.rules.proofs.Lists.Members.{split, and_true}
use Rattle.cells.specs.Answers.{or_zero}
use Rattle.cells.proofs.Heights.{or_zero_true}
use Rattle.std.specs.Prelude.{Option, Some, None}
use Rattle.std.specs.Option.{is_some}
use Rattle.sizes.specs.Values.{less}
use Rattle.rules.proofs.Bools.{and_right, and_assoc}

less_there : (n k : ℕ) → k ≤ n → less (Some n) k ≡ Some (n - k)
unfolding less
less_there n k h = rw (le-leb k n h, less)

less_short : (n k : ℕ) → n < k → less (Some n) k ≡ None
unfolding less
less_short n k h = rw (lt-leb k n h, less)

-- k eights can be taken where an eighth of the area is at least k
pub eights_there : (n k : ℕ) → k ≤ n / 8 → Some (n - 8 * k) ≡ less (Some n) (8 * k)
eights_there n k h = sym (less_there n (8 * k) (omega arith))

-- k eights can't be taken from less
pub eights_short : (n k : ℕ) → n / 8 < k → None ≡ less (Some n) (8 * k)
eights_short n k h = sym (less_short n (8 * k) (omega arith))

-- an area that was too short stays so
pub short_less : (k : ℕ) → None ≡ less None k
unfolding less
short_less k = refl

-- one taking after another
pub less_less : (l : Option ℕ) (a b : ℕ) → less (less l a) b ≡ less l (a + b)
less_less None a b = rw (← short_less a, ← short_less b, ← short_less (a + b))
less_less (Some n) a b = split (leb a n)
    (λ t. let h = leb-true a n t in rw (less_there n a h) (split (leb b (n - a))
    (λ u. let k = leb-true b (n - a) u in let e : n - a - b ≡ n - (a + b) = omega arith in rw (less_there (n - a) b k, less_there n (a + b) (omega arith), e))
    (λ u. let k = leb-false b (n - a) u in rw (less_short (n - a) b k, less_short n (a + b) (omega arith)))))
    (λ t. let h = leb-false a n t in rw (less_short n a h, ← short_less b, less_short n (a + b) (omega arith)))

-- taking so many fits exactly where the area has so many
pub less_is_some : (n k : ℕ) → is_some (less (Some n) k) ≡ leb k n
less_is_some n k = split (leb k n) (λ t. rw (less_there n k (leb-true k n t), t)) (λ t. rw (less_short n k (leb-false k n t), t))

-- the areas of a merge take more of the work area, and of nothing else
pub work_apart : (K need plan words counts work : ℕ) → areas_sized K need plan words counts work ≡ areas_sized K 0 plan words counts 0 && leb need work
unfolding areas_sized
work_apart K need plan words counts work = rw (and_right (plan_sized K plan && leb (word_limit K) words && leb (rooms K plan) counts))

-- what a build needs, eight by eight
pub work_taken : (pins records work : ℕ) → less (less (less (less (Some work) (8 * pins)) (8 * pins)) (8 * records)) (8 * 64) ≡ less (Some work) (16 * pins + 8 * records + 512)
work_taken pins records work =
    let e : 8 * pins + 8 * pins + 8 * records + 512 ≡ 16 * pins + 8 * records + 512 = omega arith in
    rw (less_less (Some work) (8 * pins) (8 * pins), less_less (Some work) (8 * pins + 8 * pins) (8 * records), less_less (Some work) (8 * pins + 8 * pins + 8 * records) 512, e)

-- a bad height fails, whatever else is tested
pub no_height : (K : ℕ) (b : Bool) → is_height K ≡ false → false ≡ is_height K && b
no_height K b e = rw e

-- for a right height the size of a stage is what the code gets
pub stage_there : (K t : ℕ) → is_height K ≡ true → t ≡ or_zero (is_height K) (stage_size K) → t ≡ stage_size K
stage_there K t h e = rw (h, or_zero_true (stage_size K)) at e

module _ (K plan : ℕ) where
  -- the remainder that the code tests says whether the plan is a whole multiple of a stage
  pub plan_tested : (t : ℕ) → is_height K ≡ true → t ≡ or_zero (is_height K) (stage_size K) → eqb (plan % t) 0 ≡ is_height K && plan_sized K plan
  unfolding plan_sized
  plan_tested t h e = rw (stage_there K t h e, h)

  module _ (words counts : ℕ) where
    -- a bad height or a plan of the wrong size makes the areas wrong
    pub plan_odd : is_height K && plan_sized K plan ≡ false → false ≡ is_height K && areas_sized K 0 plan words counts 0
    unfolding areas_sized
    plan_odd e = split (is_height K) (λ t. let d : plan_sized K plan ≡ false = rw t at e in rw (t, d)) (λ t. rw t)

    module _ (e : is_height K && plan_sized K plan ≡ true) where
      right : (is_height K ≡ true) × (plan_sized K plan ≡ true)
      right = and_true (is_height K) (plan_sized K plan) e

      -- fewer words than the limit make the areas wrong
      pub words_few : (w : ℕ) → w ≡ or_zero (is_height K) (word_limit K) → words < w → false ≡ is_height K && areas_sized K 0 plan words counts 0
      unfolding areas_sized
      words_few w d h =
          let r = right in
          let q : w ≡ word_limit K = rw (r.0, or_zero_true (word_limit K)) at d in
          rw (r.0, r.1, lt-leb (word_limit K) words (omega arith))

      -- with plan and words right, the counts decide: one for each room
      pub counts_tested : (w : ℕ) → w ≡ or_zero (is_height K) (word_limit K) → w ≤ words → (n : ℕ) → n ≡ or_zero (is_height K) (rooms K plan) → leb n counts ≡ is_height K && areas_sized K 0 plan words counts 0
      unfolding areas_sized
      counts_tested w d h n f =
          let r = right in
          let q : w ≡ word_limit K = rw (r.0, or_zero_true (word_limit K)) at d in
          let s : n ≡ rooms K plan = rw (r.0, or_zero_true (rooms K plan)) at f in
          rw (r.0, r.1, le-leb (word_limit K) words (omega arith), s, and_right (leb (rooms K plan) counts))

-- all areas, by what the others and the work area answer
module _ (K need plan words counts work : ℕ) where
  -- where plan, words or counts are wrong the work area does not matter
  pub others_wrong : is_height K && areas_sized K 0 plan words counts 0 ≡ false → false ≡ is_height K && areas_sized K need plan words counts work
  others_wrong e = rw (work_apart K need plan words counts work, ← and_assoc (is_height K) (areas_sized K 0 plan words counts 0) (leb need work), e)

  -- where the others are right the work area decides
  pub work_tested : is_height K && areas_sized K 0 plan words counts 0 ≡ true → (b : Bool) → b ≡ is_some (less (Some work) need) → b ≡ is_height K && areas_sized K need plan words counts work
  work_tested e b d = rw (work_apart K need plan words counts work, ← and_assoc (is_height K) (areas_sized K 0 plan words counts 0) (leb need work), e, d) (less_is_some work need)
