use Rattle.aiger_text.proofs.Laws.Passes.{scan_start, scan_last, scan_stop, scan_more}
use Rattle.aiger_text.proofs.passes.mark_lines.Goals as goal

pub loop-x-init : goal.loop-x-init
loop-x-init c = scan_start _ _ _ _ _ _ c.requires

pub returns-in-Last : goal.returns-in-Last
returns-in-Last c = scan_last c.loop-x.invariant c.in-Last.ensures _ c.is_short.ensures

pub returns-in-Stop : goal.returns-in-Stop
returns-in-Stop c = scan_stop c.loop-x.invariant c.in-Stop.ensures

pub loop-x-preserved : goal.loop-x-preserved
loop-x-preserved c = scan_more c.loop-x.invariant c.in-Line.ensures _ _ _ c.store_row.ensures c.mark_row-good.ensures _ c.noted-first.ensures
