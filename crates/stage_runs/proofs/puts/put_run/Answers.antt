use Rattle.stage_runs.proofs.Laws.Puts.{put_none_yet, run_cell, run_more, run_end}
use native.Mathlib.Omega.{arith}
use Rattle.stage_runs.proofs.puts.put_run.Goals as goal

pub loop-i-init : goal.loop-i-init
loop-i-init c = (omega arith, record { all = λ C A. put_none_yet _ A.now })

pub overflow_add-a : goal.overflow_add-a
overflow_add-a c = omega (arith, run_end c.requires.at)

pub put_cell-t-requires : goal.put_cell-t-requires
put_cell-t-requires c = record { it = _; at = run_cell c.requires.at (c.loop-i.invariant.1.all _ c.requires.at) c.loop-i-test.true }

pub loop-i-preserved : goal.loop-i-preserved
loop-i-preserved c = (
  omega arith,
  record { all = λ C A. run_more A (c.loop-i.invariant.1.all C A) c.loop-i-test.true (c.put_cell-t.ensures.all C (run_cell A (c.loop-i.invariant.1.all C A) c.loop-i-test.true)) },
)
