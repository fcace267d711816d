-- `sheet_write::sections::put_stages` meets its contract. Assumes nothing.
use Rattle.sheet_form.specs.Calls.{areas}
use Rattle.sheet_write.proofs.Laws.Sections.{Stages}
use Rattle.sheet_write.proofs.sections.put_stages.Given as goal

abbrev pub invariant-loop-i : goal.invariant-loop-i
invariant-loop-i l = Stages l.height l.stages (areas l.plan l.words l.counts) l.i l.from l.at l.initial.bytes l.bytes
