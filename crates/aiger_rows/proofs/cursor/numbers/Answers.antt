use Rattle.aiger_rows.proofs.Laws.Cursor.{going_start, word_inside, going_none, going_more, going_done}
use Rattle.aiger_rows.proofs.cursor.numbers.Goals as goal

pub loop-x-init : goal.loop-x-init
loop-x-init c = going_start _

pub slice_bounds-number-end : goal.slice_bounds-number-end
slice_bounds-number-end c = (word_inside c.loop-x.invariant _ c.until-e.ensures).1

pub returns-in_err-x : goal.returns-in_err-x
returns-in_err-x c = rw c.from_residual.ensures (going_none c.loop-x.invariant _ c.until-e.ensures c.in_err-x.ensures)

pub returns-then-e-line : goal.returns-then-e-line
returns-then-e-line c = going_done c.loop-x.invariant _ c.until-e.ensures _ c.in_ok-x.ensures c.if-e-line.true c.store.ensures

pub loop-x-preserved : goal.loop-x-preserved
loop-x-preserved c = going_more c.loop-x.invariant _ c.until-e.ensures _ c.in_ok-x.ensures c.if-e-line.false c.store.ensures
