-- What is asked and said of a plan whose stages are mended. Assumes nothing.
use Rattle.std.specs.Prelude.{ℕ, zero, suc, ◌+◌, ◌*◌, ◌^◌, ◌≤◌, ◌<◌, ◌≡◌, List, ◌++◌, length, take, drop}
use Rattle.rules.specs.Lists.{In}
use Rattle.rules.specs.Cells.{stage_size}
use Rattle.rules.specs.Graph.{Node, graph_of, pin_count}
use Rattle.rules.specs.Loops.{Valid}
use Rattle.plan_check_stage.specs.Cells.{High}
use Rattle.mending.specs.Mend.{mend_stage, stop_after}
use Rattle.mending.specs.Call.{rebuilt}
use Rattle.mend_levels.specs.Levels.{Stops}

-- a graph whose levels can be told
pub record Graphed (gates : List ℕ) : Type 0 where
  pub pins : pin_count gates ≤ 65536
  pub valid : Valid (graph_of gates)

-- the areas of a stage: a mark a pin, a level a pin, a number a position
pub record Lent (K : ℕ) (gates stop levels fixed : List ℕ) : Type 0 where
  pub tall : High K
  pub graph : Graphed gates
  pub marked : length stop ≡ 65536
  pub levelled : pin_count gates ≤ length levels
  pub fixing : length fixed ≡ 2 ^ (K + 1)

pub record OneAt (K : ℕ) (gates cells stop levels fixed : List ℕ) : Type 0 where
  pub lent : Lent K gates stop levels fixed
  pub size : length cells ≡ 2 ^ (K + 1)

pub record OneSays (K : ℕ) (g : List Node) (cells cells' marks marks' : List ℕ) : Type 0 where
  pub len : length cells' ≡ length cells
  pub marks_len : length marks' ≡ length marks
  pub is : (stop : List ℕ) → Stops stop marks → cells' ≡ mend_stage K g stop cells
  pub stops : (stop : List ℕ) → Stops stop marks → Stops (stop_after K cells' stop) marks'

-- the first n stages of a plan, mended
unfoldable pub mend_plan : ℕ → ℕ → List Node → (stop plan : List ℕ) → List ℕ
mend_plan zero K g stop plan = plan
mend_plan (suc n) K g stop plan =
    mend_stage K g stop (take (stage_size K) plan) ++ mend_plan n K g (stop_after K (mend_stage K g stop (take (stage_size K) plan)) stop) (drop (stage_size K) plan)

pub record AllAt (K : ℕ) (gates plan : List ℕ) (n : ℕ) (stop levels fixed : List ℕ) : Type 0 where
  pub lent : Lent K gates stop levels fixed
  pub room : n * 2 ^ (K + 1) ≤ length plan

pub record AllSays (K : ℕ) (g : List Node) (plan : List ℕ) (n : ℕ) (marks plan' : List ℕ) : Type 0 where
  pub len : length plan' ≡ length plan
  pub is : (stop : List ℕ) → Stops stop marks → plan' ≡ mend_plan n K g stop plan

pub record PlanAt (K : ℕ) (gates given plan : List ℕ) (n : ℕ) : Type 0 where
  pub tall : High K
  pub graph : Graphed gates
  pub named : (q : ℕ) → In q given → q < pin_count gates
  pub room : n * 2 ^ (K + 1) ≤ length plan

-- words and counts have no part in it
pub record PlanSays (K : ℕ) (gates given plan : List ℕ) (n : ℕ) (plan' : List ℕ) : Type 0 where
  pub len : length plan' ≡ length plan
  pub is : (words counts : List ℕ) → plan' ≡ rebuilt K gates given plan words counts n
