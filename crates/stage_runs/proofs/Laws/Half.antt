-- The size of level 1, as a height tells it, in the contracts that name it. Assumes nothing.
use mathlib.Core.Path.{◌≡◌}
use Prim.Native.Nat.{ℕ, ◌≤◌}
use native.Mathlib.Omega.{arith}
use mathlib.Core.List.{List}
use Rattle.rules.specs.Cells.{is_height, level_one_size, row_at}
use Rattle.cells.specs.Answers.{or_zero}
use Rattle.cells.proofs.Heights.{tall_answer}
use Rattle.stage_walk.specs.Stands.{Context}
use Rattle.stage_runs.specs.Ran.{EndAt}

-- it is where the row of level 1 begins
pub half_is : {K half : ℕ} → 6 ≤ K → K ≤ 13 → half ≡ or_zero (is_height K) (level_one_size K) → half ≡ row_at K 1
unfolding row_at
half_is {K} a b e = tall_answer K a b e

-- rule 8 may start with it
pub end_half : {C : Context} {m K half n : ℕ} {at room : ℕ} {gates pl w words : List ℕ} → EndAt C m K (row_at K 1) n at room gates pl w words →
    half ≡ or_zero (is_height K) (level_one_size K) → EndAt C m K half n at room gates pl w words
end_half {C} A e = record {
  stands = A.stands;
  begun = A.begun;
  height = A.height;
  row = half_is (omega (arith, A.height, C.low)) (omega (arith, A.height, C.high)) e;
  ruled = A.ruled;
  marks = A.marks;
  spare = A.spare;
  fits = A.fits;
}
