-- `stage_runs::puts::put_record` meets its contract: the word, then the run. Assumes nothing.
use native.Mathlib.Omega.{arith}
use Rattle.stage_runs.proofs.Laws.Written.{record_run, record_end}
use Rattle.stage_runs.proofs.puts.put_record.Goals as goal

pub overflow_add-half : goal.overflow_add-half
overflow_add-half c = omega (arith, record_end c.requires.at)

pub overflow_cast-half : goal.overflow_cast-half
overflow_cast-half c = omega (arith, record_end c.requires.at)

pub overflow_add-half-2 : goal.overflow_add-half-2
overflow_add-half-2 c = omega (arith, record_end c.requires.at)

pub put_run-requires : goal.put_run-requires
put_run-requires c = record { it = _; at = record_run c.requires.at }
