-- `cells::Height::word_limit` meets its contract. Assumes nothing.
use native.Mathlib.Omega.{arith}
use Rattle.rules.specs.Cells.{word_limit}
use Rattle.cells.proofs.Heights.{Tall, tall, shifted_there, none_there}
use Rattle.cells.proofs.Height.word_limit.Goals as goal

here : (c : goal.Then-is_height) → Tall c.args.self.0
here c = tall c.args.self.0 c.is_height.ensures c.if-is_height.true

pub overflow_sub-result : goal.overflow_sub-result
overflow_sub-result c = omega (arith, here c)

pub overflow_shl-result : goal.overflow_shl-result
overflow_shl-result c = omega (arith, here c)

pub returns-then-is_height : goal.returns-then-is_height
unfolding word_limit
returns-then-is_height c = shifted_there _ c.is_height.ensures c.if-is_height.true (omega (arith, here c))

pub returns-else-is_height : goal.returns-else-is_height
returns-else-is_height c = none_there _ c.is_height.ensures c.if-is_height.false
