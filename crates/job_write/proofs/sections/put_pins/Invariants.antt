-- `job_write::sections::put_pins` meets its contract: the pins before i are put. Assumes nothing.
use Rattle.job_write.proofs.Laws.Sections.{Pins}
use Rattle.job_write.proofs.sections.put_pins.Given as goal

abbrev pub invariant-loop-i : goal.invariant-loop-i
invariant-loop-i l = Pins l.gates l.i l.from l.at l.initial.bytes l.bytes
