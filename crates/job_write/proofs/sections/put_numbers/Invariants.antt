-- `job_write::sections::put_numbers` meets its contract: the first i are put. Assumes nothing.
use Rattle.job_write.proofs.Laws.Sections.{Numbers}
use Rattle.job_write.proofs.sections.put_numbers.Given as goal

abbrev pub invariant-loop-number : goal.invariant-loop-number
invariant-loop-number l = Numbers l.w l.numbers l.number-index l.from l.at l.initial.bytes l.bytes
