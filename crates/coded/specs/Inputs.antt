-- What the theorems are about: a graph, given pins and records that pass the checks 1 to 5 and 23, and what the rules build of them. Assumes nothing.
use Rattle.std.specs.Prelude.{ℕ, ◌≡◌, Bool, List, length}
use Rattle.rules.specs.Graph.{Node, graph_of, value}
use Rattle.rules.specs.Records.{Group, groups_of}
use Rattle.rules.specs.Traversal.{WordRule}
use Rattle.rules.specs.Checks.{refusal_of}
use Rattle.rules.specs.Build.{Answer, build}

-- `sized` says whether every lent area has a right size
pub record Input : Type 0 where
  pub K : ℕ
  pub sized : Bool
  pub gates : List ℕ
  pub given : List ℕ
  pub records : List ℕ
  pub passes : refusal_of K sized gates given records ≡ 0

abbrev pub graph : Input → List Node
graph I = graph_of I.gates

abbrev pub groups : Input → List Group
groups I = groups_of I.records

-- the build with so many rooms, under either word rule
abbrev pub built : WordRule → Input → ℕ → Answer
built rule I rooms = build rule I.K (graph I) I.given (groups I) rooms

-- the graph value of a pin, for any leaf and given bits
abbrev pub graph_value : Input → List ℕ → ℕ → Bool
graph_value I bits p = value (length (graph I)) (graph I) I.given bits p
