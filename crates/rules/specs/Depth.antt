-- The depth of a pin, D, and the remaining depth: one definition over the pins to stop at, for D the given ones. Assumes nothing.
use Rattle.std.specs.Prelude.{ℕ, zero, suc, max, List, [], ◌∷◌, length}
use Rattle.rules.specs.Graph.{Node, below}
use Rattle.rules.specs.Records.{Group, waiting_of}
use Rattle.rules.specs.Traversal.{over}

-- the longest chain of gates from a pin down to leaves and pins to stop at; the fuel bounds it from above
unfoldable pub depth : ℕ → List Node → List ℕ → ℕ → ℕ
depth zero g stop p = 0
depth (suc f) g stop p = over (depth f g stop) (below g stop p)

-- the greatest depth of some pins, 0 if there are none
unfoldable pub remaining : ℕ → List Node → List ℕ → List ℕ → ℕ
remaining f g stop [] = 0
remaining f g stop (w ∷ ws) = max (depth f g stop w) (remaining f g stop ws)

-- D: the longest chain of gates under any endpoint pin, down to leaves and given pins; an endpoint that is itself given counts 0
unfoldable pub deepest : List Node → List ℕ → List Group → ℕ
deepest g given xs = remaining (length g) g given (waiting_of xs [])
