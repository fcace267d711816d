-- `sheet_write::sections::put_words` meets its contract. Assumes nothing.
use Rattle.sheet_write.proofs.Laws.Sections.{Words}
use Rattle.sheet_write.proofs.sections.put_words.Given as goal

abbrev pub invariant-loop-w : goal.invariant-loop-w
invariant-loop-w l = Words l.words l.w-index l.from l.at l.initial.bytes l.bytes
