-- What the pins that are kept cost: the cells that each fills, added up over a stage's pins and over the stages. Assumes nothing.
use Rattle.std.specs.Prelude.{ℕ, ◌+◌, ◌-◌, ◌≡◌, List, [], ◌∷◌, ◌++◌, length}
use Rattle.rules.specs.Cells.{row_at}
use Rattle.rules.specs.Graph.{Node}
use Rattle.rules.specs.Traversal.{WordRule, Setting, setting}
use Rattle.rules.specs.Placing.{cost, placed}
use Rattle.rules.specs.Ending.{stage, one_stage}
use Rattle.rules.specs.Build.{Stage}
use Rattle.rules.specs.Inside.Lean.{blank}
use Rattle.rules.specs.Inside.Plans.{Placeable, Under}

-- pins placed one after the other and kept lead from one plan to another, each into an empty cell with nothing under it; what they cost together
pub data Placings (X : Setting) (pl : List ℕ) : ℕ → List ℕ → Type 0 where
  none : Placings X pl 0 pl
  keep : {s : ℕ} {pl2 : List ℕ} (h p n : ℕ) → Placeable X pl2 h p n → Under (row_at X.K h) p pl2 → Placings X pl s pl2 → Placings X pl (s + cost X h n) (placed X h p n pl2)

-- the stages from a state on, and what their kept pins cost together
pub data Costs (rule : WordRule) (K : ℕ) (g : List Node) : (done waiting : List ℕ) (room : ℕ) → List Stage → ℕ → Type 0 where
  none : {done : List ℕ} {room : ℕ} → Costs rule K g done [] room [] 0
  more : {done waiting realised left : List ℕ} {room c n : ℕ} {s : Stage} {ss : List Stage} →
      one_stage rule K g done waiting room ≡ stage s.plan s.words realised left →
      Placings (setting rule K g done waiting) (blank (setting rule K g done waiting)) c s.plan →
      Costs rule K g (realised ++ done) left (room - length s.words) ss n → Costs rule K g done waiting room (s ∷ ss) (c + n)
