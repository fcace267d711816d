-- `cells::Height::stage_size` meets its contract. Assumes nothing.
use native.Mathlib.Omega.{arith}
use Rattle.cells.proofs.Heights.{Tall, tall, shifted_there, none_there}
use Rattle.cells.proofs.Height.stage_size.Goals as goal

here : (c : goal.Then-is_height) → Tall c.args.self.0
here c = tall c.args.self.0 c.is_height.ensures c.if-is_height.true

pub overflow_add-result : goal.overflow_add-result
overflow_add-result c = omega (arith, here c)

pub overflow_shl-result : goal.overflow_shl-result
overflow_shl-result c = omega (arith, here c)

pub returns-then-is_height : goal.returns-then-is_height
returns-then-is_height c = shifted_there _ c.is_height.ensures c.if-is_height.true (omega (arith, here c))

pub returns-else-is_height : goal.returns-else-is_height
returns-else-is_height c = none_there _ c.is_height.ensures c.if-is_height.false
