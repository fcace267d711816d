-- `explain_stages::tell_stage` meets its contract: the stage is built, its notes are copied, and a refusal has its line. Assumes nothing.
use native.Mathlib.Omega.{arith}
use native.Mathlib.Numerals.{add-one}
use Rattle.explain_stages.proofs.Laws.Telling.{stages_few, notes_there, told_few, tells_on, over_at, tells_over}
use Rattle.explain_stages.proofs.tell_stage.Goals as goal

pub next_stage-outcome-requires : goal.next_stage-outcome-requires
next_stage-outcome-requires c = (c.requires.0, record { it = c.requires.1.it; at = c.requires.1.at.one })

pub overflow_add-stage : goal.overflow_add-stage
overflow_add-stage c = record { fits = omega (arith, stages_few c.requires.1.at) }

pub overflow_cast-stage : goal.overflow_cast-stage
overflow_cast-stage c = record { fits = omega (arith, stages_few c.requires.1.at) }

pub copy_notes-told-requires : goal.copy_notes-told-requires
copy_notes-told-requires c = let A = c.requires.1.at in notes_there A (c.next_stage-outcome.ensures.all _ A.one)

pub returns-in-Ok : goal.returns-in-Ok
returns-in-Ok c = record { all = λ C A. let O = c.next_stage-outcome.ensures.all C A.one in tells_on A O (rw (add-one _) at c.copy_notes-told.ensures) c.in-Ok.is }

pub left-requires : goal.left-requires
left-requires c = c.requires.0

pub over_line-requires : goal.over_line-requires
over_line-requires c = let A = c.requires.1.at in let O = c.next_stage-outcome.ensures.all _ A.one in over_at A O (rw (add-one _) at c.copy_notes-told.ensures) c.in-Err.is c.left.ensures

pub put_line-requires : goal.put_line-requires
put_line-requires c = let A = c.requires.1.at in let O = c.next_stage-outcome.ensures.all _ A.one in omega (arith, stages_few A, told_few A O (rw (add-one _) at c.copy_notes-told.ensures))

pub overflow_add-result : goal.overflow_add-result
overflow_add-result c = let A = c.requires.1.at in let O = c.next_stage-outcome.ensures.all _ A.one in record { fits = omega (arith, stages_few A, told_few A O (rw (add-one _) at c.copy_notes-told.ensures)) }

pub returns-in-Err : goal.returns-in-Err
returns-in-Err c = record { all = λ C A. let O = c.next_stage-outcome.ensures.all C A.one in rw c.in-Err.is at (tells_over A O (rw (add-one _) at c.copy_notes-told.ensures) c.in-Err.is c.put_line.ensures c.over_line.ensures (add-one _) c.left.ensures) }
