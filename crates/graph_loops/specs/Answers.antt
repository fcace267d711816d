-- What the answer of the search stands for. Assumes nothing.
use Rattle.std.specs.Prelude.{Option, Some, None}
use Rattle.rules.specs.Lists.{Found, nothing, found}
use Rattle.graph.specs.declared.Pin.{Pin}

unfoldable pub loop_for : Option Pin → Found
loop_for (Some p) = found p.0
loop_for None = nothing
