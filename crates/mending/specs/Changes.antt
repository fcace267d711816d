-- The list of changes: what it has, and the plan that comes of it. Assumes nothing.
use Rattle.std.specs.Prelude.{ℕ, suc, ◌+◌, ◌-◌, ◌*◌, ◌/◌, ◌%◌, ◌≤◌, ◌<◌, ◌≡◌, ◌≢◌, true, false, List, [], ◌∷◌, eqb, length, get_or, set}
use Rattle.rules.specs.Cells.{stage_size}

-- a stage from 1, a position of it, and the cell before and after
pub record Change : Type 0 where
  pub stage : ℕ
  pub position : ℕ
  pub old : ℕ
  pub new : ℕ

-- the number at place i of the plan
unfoldable pub change_at : ℕ → ℕ → ℕ → ℕ → Change
change_at K i x y = record { stage = suc (i / stage_size K); position = i % stage_size K; old = x; new = y }

-- two lists of numbers that stand at places i on: where they differ, in order
unfoldable pub changes_from : ℕ → ℕ → List ℕ → List ℕ → List Change
changes_from K i [] ys = []
changes_from K i (x ∷ xs) [] = []
changes_from K i (x ∷ xs) (y ∷ ys) = elim (eqb x y) [ true ↦ changes_from K (suc i) xs ys | false ↦ change_at K i x y ∷ changes_from K (suc i) xs ys ]

-- of two plans
unfoldable pub changes : ℕ → (old new : List ℕ) → List Change
changes K old new = changes_from K 0 old new

-- in the list area four numbers a change
unfoldable pub numbers_of : List Change → List ℕ
numbers_of [] = []
numbers_of (c ∷ cs) = c.stage ∷ c.position ∷ c.old ∷ c.new ∷ numbers_of cs

-- and back
unfoldable pub changes_of : List ℕ → List Change
changes_of [] = []
changes_of (s ∷ []) = []
changes_of (s ∷ p ∷ []) = []
changes_of (s ∷ p ∷ x ∷ []) = []
changes_of (s ∷ p ∷ x ∷ y ∷ ns) = record { stage = s; position = p; old = x; new = y } ∷ changes_of ns

-- where a change stands in the plan
unfoldable pub place_of : ℕ → Change → ℕ
place_of K c = (c.stage - 1) * stage_size K + c.position

-- the plan after some changes
unfoldable pub apply : ℕ → List Change → List ℕ → List ℕ
apply K [] plan = plan
apply K (c ∷ cs) plan = apply K cs (set plan (place_of K c) c.new)

-- and the plan before them
unfoldable pub undo : ℕ → List Change → List ℕ → List ℕ
undo K [] plan = plan
undo K (c ∷ cs) plan = undo K cs (set plan (place_of K c) c.old)

-- ---- the same as a reader says it

-- a change of the list
pub data In (c : Change) : List Change → Type 0 where
  here : {cs : List Change} → In c (c ∷ cs)
  there : {d : Change} {cs : List Change} → In c cs → In c (d ∷ cs)

-- the number at place i differs: its stage, its position, old and new
pub record Differs (K : ℕ) (old new : List ℕ) (c : Change) : Type 0 where
  pub i : ℕ
  pub inside : i < length old
  pub is : c ≡ change_at K i (get_or old i 0) (get_or new i 0)
  pub differ : get_or old i 0 ≢ get_or new i 0

-- places rise, from i on: so stages do, and in a stage positions
pub data Rising (K : ℕ) : ℕ → List Change → Type 0 where
  ends : {i : ℕ} → Rising K i []
  goes : {i : ℕ} {c : Change} {cs : List Change} → i ≤ place_of K c → Rising K (suc (place_of K c)) cs → Rising K i (c ∷ cs)
