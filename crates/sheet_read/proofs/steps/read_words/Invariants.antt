-- `sheet_read::steps::read_words` meets its contract. Assumes nothing.
use Rattle.job.proofs.Laws.Many.{Going}
use Rattle.sheet_read.specs.Steps.{one_word}
use Rattle.sheet_read.proofs.steps.read_words.Given as goal

abbrev pub invariant-loop-i : goal.invariant-loop-i
invariant-loop-i l = Going (one_word l.height) l.bytes l.n l.i l.from l.s l.initial.area l.area l.at l.count
