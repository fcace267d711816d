-- `job_write::sections::put_records` meets its contract: the records before i are put. Assumes nothing.
use mathlib.Core.Path.{◌≡◌}
use Rattle.job_write.proofs.Laws.Sections.{Records}
use Rattle.job_write.proofs.sections.put_records.Given as goal

abbrev pub invariant-loop-i : goal.invariant-loop-i
invariant-loop-i l = (l.i-iterator.records.now ≡ l.records) × Records l.records l.i-iterator.at l.from l.at l.initial.bytes l.bytes
