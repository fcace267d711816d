-- Rule 9 over the columns: NEEDED lists the needed pins, MARK marks the realised ones. pl is the stage, w the work area. Assumes nothing.
use Rattle.std.specs.Prelude.{◌≡◌, ◌⊎◌, Bool, true, false, List, ◌∷◌, ℕ, ◌*◌, ◌<◌, ◌≤◌, length}
use Rattle.rules.specs.Lists.{nothing, found, In}
use Rattle.rules.specs.Cells.{row_at, row, first_empty}
use Rattle.rules.specs.Traversal.{level_at}
use Rattle.rules.specs.Ending.{Plan?, full, plan, put_rest}
use Rattle.rules.specs.Inside.Plans.{Behind}
use Rattle.columns.specs.Fields.{NEEDED, MARK}
use Rattle.columns.specs.Lists.{list, span, Holds, Marks}
use Rattle.stage_walk.specs.Stands.{Context}
use Rattle.stage_tree.specs.Counts.{Kept}
use Rattle.stage_tree.specs.Bits.{Standing}

-- a search that starts at `from`, for pin p
pub record PinAt (C : Context) (m half from p : ℕ) (gates pl w : List ℕ) : Type 0 where
  pub stands : Standing C m 1 gates pl w
  pub row : half ≡ row_at C.X.K 1
  pub low : half ≤ from
  pub high : from ≤ 2 * half
  pub behind : Behind C.X 1 from pl
  pub listed : In p C.X.seen
  pub level : level_at C.X p ≤ 1

pub record Pinned (C : Context) (m half p : ℕ) (gates pl w : List ℕ) (e : ℕ) (pl' w' : List ℕ) : Type 0 where
  pub kept : Kept m w w'
  pub size : length pl' ≡ length pl
  pub stands : Standing C m 1 gates pl' w'
  pub low : half ≤ e
  pub none : 2 * half < e → (real : List ℕ) → Marks MARK m real w → (ps : List ℕ) → put_rest C.X (p ∷ ps) real pl ≡ full
  pub some : e ≤ 2 * half → (real : List ℕ) → Marks MARK m real w → (ps : List ℕ) → put_rest C.X (p ∷ ps) real pl ≡ put_rest C.X ps real pl'
  pub behind : e ≤ 2 * half → Behind C.X 1 e pl'

-- n needed pins
pub record RestAt (C : Context) (m half n : ℕ) (gates pl w : List ℕ) : Type 0 where
  pub stands : Standing C m 1 gates pl w
  pub row : half ≡ row_at C.X.K 1
  pub needed : Holds NEEDED m n (list NEEDED m n w) w
  pub pins : (x : ℕ) → In x (list NEEDED m n w) → In x C.X.seen × (level_at C.X x ≤ 1)

-- the first i have their cells
pub record Resting (C : Context) (m half n i from : ℕ) (gates pl w pl' w' : List ℕ) : Type 0 where
  pub upto : i ≤ n
  pub kept : Kept m w w'
  pub size : length pl' ≡ length pl
  pub stands : Standing C m 1 gates pl' w'
  pub low : half ≤ from
  pub high : from ≤ 2 * half
  pub behind : Behind C.X 1 from pl'
  pub same : (real : List ℕ) → Marks MARK m real w → put_rest C.X (list NEEDED m n w) real pl ≡ put_rest C.X (span NEEDED m i n w) real pl'

unfoldable pub answer : Bool → List ℕ → Plan?
answer true pl = plan pl
answer false pl = full

pub record Rested (C : Context) (m n : ℕ) (gates pl w : List ℕ) (b : Bool) (pl' w' : List ℕ) : Type 0 where
  pub kept : Kept m w w'
  pub size : length pl' ≡ length pl
  pub stands : Standing C m 1 gates pl' w'
  pub is : (real : List ℕ) → Marks MARK m real w → put_rest C.X (list NEEDED m n w) real pl ≡ answer b pl'

-- with test 8
pub record Filled (C : Context) (m q : ℕ) (gates pl w : List ℕ) (b : Bool) (pl' w' : List ℕ) : Type 0 where
  pub kept : Kept m w w'
  pub size : length pl' ≡ length pl
  pub stands : Standing C m 1 gates pl' w'
  pub yes : b ≡ true → ((real : List ℕ) → Marks MARK m real w → put_rest C.X (list NEEDED m q w) real pl ≡ plan pl') × ((c : ℕ) × (first_empty 0 (row C.X.K 1 pl') ≡ found c))
  pub no : b ≡ false → (real : List ℕ) → Marks MARK m real w →
      (put_rest C.X (list NEEDED m q w) real pl ≡ full) ⊎ ((put_rest C.X (list NEEDED m q w) real pl ≡ plan pl') × (first_empty 0 (row C.X.K 1 pl') ≡ nothing))
