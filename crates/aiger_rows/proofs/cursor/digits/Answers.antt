use mathlib.Core.Path.{◌∙◌}
use native.Mathlib.Omega.{arith}
use Rattle.aiger_rows.proofs.Laws.Cursor.{digits_more, numeral_end, numeral_none}
use Rattle.aiger_rows.proofs.cursor.digits.Goals as goal

pub returns-in_err-d : goal.returns-in_err-d
returns-in_err-d c = rw c.from_residual.ensures (numeral_none _ _ _ c.loop-b-test.true c.in_err-d.ensures c.loop-b.invariant.1)

pub loop-b-preserved : goal.loop-b-preserved
loop-b-preserved c = (omega arith, digits_more _ _ _ _ _ c.loop-b-test.true c.in_ok-d.ensures.0 c.in_ok-d.ensures.1 (omega arith) ∙ c.loop-b.invariant.1)

pub returns : goal.returns
returns c = numeral_end _ _ _ c.loop-b-test.false c.loop-b.invariant.0 c.loop-b.invariant.1
