-- What the theorems of demand 3 are about: an input that passes the checks 1 to 5 and 23, and what the rules make of it. Assumes nothing.
use Rattle.std.specs.Prelude.{ℕ, ◌≡◌, Bool, List, length}
use Rattle.rules.specs.Lists.{padded}
use Rattle.rules.specs.Cells.{empty}
use Rattle.rules.specs.Graph.{Node, graph_of, value}
use Rattle.rules.specs.Records.{Group, groups_of}
use Rattle.rules.specs.Traversal.{WordRule}
use Rattle.rules.specs.Checks.{refusal_of}
use Rattle.rules.specs.Build as build
use Rattle.rules.specs.States as states
use Rattle.rules.specs.Capacity as capacity
use Rattle.rules.specs.Depth as depth
use Rattle.coded.specs.Inputs as coded

-- under either word rule; `sized` says whether every lent area has a right size
pub record Input : Type 0 where
  pub rule : WordRule
  pub K : ℕ
  pub sized : Bool
  pub gates : List ℕ
  pub given : List ℕ
  pub records : List ℕ
  pub passes : refusal_of K sized gates given records ≡ 0

-- the same input under a word rule
abbrev pub under : WordRule → Input → Input
under rule I = record { rule = rule; K = I.K; sized = I.sized; gates = I.gates; given = I.given; records = I.records; passes = I.passes }

-- and without one
abbrev pub plain : Input → coded.Input
plain I = record { K = I.K; sized = I.sized; gates = I.gates; given = I.given; records = I.records; passes = I.passes }

abbrev pub graph : Input → List Node
graph I = graph_of I.gates

abbrev pub groups : Input → List Group
groups I = groups_of I.records

-- the longest chain of gates under any endpoint pin, down to leaves and given pins
abbrev pub D : Input → ℕ
D I = depth.deepest (graph I) I.given (groups I)

-- how many gates deep some pins are, down to leaves and to pins that are done
abbrev pub remaining : Input → (done waiting : List ℕ) → ℕ
remaining I done waiting = depth.remaining (length (graph I)) (graph I) done waiting

-- the build with so many rooms
abbrev pub built : Input → ℕ → build.Answer
built I rooms = build.build I.rule I.K (graph I) I.given (groups I) rooms

-- the plan area of L numbers that its stages fill, as cells with their inversions
abbrev pub plan_area : Input → ℕ → List build.Stage → List ℕ
plan_area I L ss = padded L empty (build.cells_of (build.coded_stages I.K (graph I) ss))

-- where it stands after s completed stages
abbrev pub after : Input → ℕ → states.State
after I s = states.after I.rule I.K (graph I) I.given (groups I) s

-- the s stages completed until then
abbrev pub first_stages : Input → ℕ → List build.Stage
first_stages I s = states.first_stages I.rule I.K (graph I) I.given (groups I) s

-- why it is refused with so many rooms, by number and stage
abbrev pub Refused : Input → (rooms n k : ℕ) → Type 0
Refused I rooms n k = capacity.Refused I.rule I.K (graph I) I.given (groups I) rooms n k

-- the graph value of a pin, for any leaf and given bits
abbrev pub graph_value : Input → List ℕ → ℕ → Bool
graph_value I bits p = value (length (graph I)) (graph I) I.given bits p
