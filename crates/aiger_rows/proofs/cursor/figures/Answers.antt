use Rattle.aiger_rows.proofs.Laws.Quick.{figured_start, figured_more}
use Rattle.aiger_rows.proofs.cursor.figures.Goals as goal

pub loop-i-init : goal.loop-i-init
loop-i-init c = figured_start _ _ c.requires

pub loop-i-preserved : goal.loop-i-preserved
loop-i-preserved c = figured_more _ _ c.loop-i.invariant c.loop-i-test.true c.in-Some.ensures.0 _ c.in-Some.ensures.1
