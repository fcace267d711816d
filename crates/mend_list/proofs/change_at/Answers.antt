-- `mend_list::change_at` meets its contract. Assumes nothing.
use native.Mathlib.Omega.{arith}
use Rattle.mend_list.proofs.Laws.{fitting, change_is}
use Rattle.mend_list.proofs.change_at.Goals as goal

pub nonzero_div-result : goal.nonzero_div-result
nonzero_div-result c = omega (arith, fitting _ _ c.requires _ c.stage_size-size.ensures)

pub overflow_add-result : goal.overflow_add-result
overflow_add-result c = omega (arith, fitting _ _ c.requires _ c.stage_size-size.ensures)

pub overflow_cast-result : goal.overflow_cast-result
overflow_cast-result c = omega (arith, fitting _ _ c.requires _ c.stage_size-size.ensures)

pub nonzero_rem-result : goal.nonzero_rem-result
nonzero_rem-result c = omega (arith, fitting _ _ c.requires _ c.stage_size-size.ensures)

pub overflow_cast-result-2 : goal.overflow_cast-result-2
overflow_cast-result-2 c = omega (arith, fitting _ _ c.requires _ c.stage_size-size.ensures)

pub returns : goal.returns
returns c = change_is _ _ c.requires _ c.stage_size-size.ensures _ _
