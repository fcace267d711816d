-- `explain_build::six::six_line` meets its contract: the line of a reservation that is over, by the first test that fails. Assumes nothing.
use Rattle.explain_lines.specs.Lines.{six}
use Rattle.explain_build.proofs.Laws.Six.{six_reserved, six_limit}
use Rattle.explain_build.proofs.six.six_line.Goals as goal

pub returns-then-reserved-limit : goal.returns-then-reserved-limit
unfolding six
returns-then-reserved-limit c = rw c.number-number.ensures (six_limit _ _ _ c.if-reserved-limit.true)

pub returns : goal.returns
unfolding six
returns c = rw c.number-number.ensures (six_reserved _ _ _ c.if-reserved-limit.false)
