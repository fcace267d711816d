use mathlib.Core.Path.{sym, ◌∙◌}
use Rattle.aiger_rows.proofs.Laws.Cursor.{until_more, until_here, until_end}
use Rattle.aiger_rows.proofs.cursor.until.Goals as goal

pub returns-then-bytes-i : goal.returns-then-bytes-i
returns-then-bytes-i c = until_here _ _ _ c.loop-i-test.true c.if-bytes-i.true ∙ c.loop-i.invariant

pub loop-i-preserved : goal.loop-i-preserved
loop-i-preserved c = sym (until_more _ _ _ c.loop-i-test.true c.if-bytes-i.false) ∙ c.loop-i.invariant

pub returns : goal.returns
returns c = c.max.ensures ∙ until_end _ _ _ _ c.loop-i-test.false c.loop-i.invariant
