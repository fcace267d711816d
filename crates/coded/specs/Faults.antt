-- What a fault of a plan is, and that it is the first in the order. Assumes nothing.
use Rattle.std.specs.Prelude.{ℕ, suc, ◌-◌, ◌≤◌, ◌<◌, ◌≡◌, Bool, true, false, List, ◌∷◌, length}
use Rattle.rules.specs.Cells.{stage_size}
use Rattle.rules.specs.Graph.{Node}
use Rattle.rules.specs.Build.{Stage}
use Rattle.rules.specs.Faults.{right_at, end_right, held_in}

-- a stage without a fault: its cells and its end
pub record Checked (K : ℕ) (g : List Node) (given : List ℕ) (may : ℕ → Bool) (room : ℕ) (s : Stage) : Type 0 where
  pub cells : (p : ℕ) → 1 ≤ p → p < stage_size K → right_at K g given may s.plan p ≡ true
  pub end : end_right K room s ≡ true

-- of the stages from number k on, stage j has its fault at position p: a cell that is not right, after cells that are; or, where all its cells
-- are right, its end, at position 0. The stages before it have none
pub data Faulty (K : ℕ) (g : List Node) (given : List ℕ) : (ℕ → Bool) → ℕ → ℕ → List Stage → ℕ → ℕ → Type 0 where
  wrong_cell : {may : ℕ → Bool} {room k p : ℕ} {s : Stage} {ss : List Stage} → 1 ≤ p → p < stage_size K → right_at K g given may s.plan p ≡ false →
      ((q : ℕ) → 1 ≤ q → q < p → right_at K g given may s.plan q ≡ true) → Faulty K g given may room k (s ∷ ss) k p
  wrong_end : {may : ℕ → Bool} {room k : ℕ} {s : Stage} {ss : List Stage} → end_right K room s ≡ false →
      ((q : ℕ) → 1 ≤ q → q < stage_size K → right_at K g given may s.plan q ≡ true) → Faulty K g given may room k (s ∷ ss) k 0
  later : {may : ℕ → Bool} {room k j p : ℕ} {s : Stage} {ss : List Stage} → Checked K g given may room s →
      Faulty K g given (held_in K s.plan) (room - length s.words) (suc k) ss j p → Faulty K g given may room k (s ∷ ss) j p
