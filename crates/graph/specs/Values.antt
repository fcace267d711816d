-- What the enums of the code stand for. Assumes nothing.
use Rattle.std.specs.Prelude.{ℕ, Option, Some, None, ◌^◌, true, false, ◌&&◌, ltb}
use Rattle.rules.specs.Graph as rules
use Rattle.rules.specs.Graph.{leaf, gate, literal_of}
use Rattle.graph.specs.declared.Literal.{Literal}
use Rattle.graph.specs.declared.Node.{Node}
use Rattle.graph.specs.declared.Node.TheVariants.{Leaf, Gate}

-- a literal of 32 bits
unfoldable pub made_literal : ℕ → ℕ → Option Literal
made_literal p i = elim (ltb i 2 && ltb (literal_of p i) (2 ^ 32)) [ true ↦ Some (record { 0 = literal_of p i }) | false ↦ None ]

-- what drives a pin
unfoldable pub node_for : Node → rules.Node
node_for Leaf = leaf
node_for (Gate a b) = gate a.0 b.0
