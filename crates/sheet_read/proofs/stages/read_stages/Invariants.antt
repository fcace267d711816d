-- `sheet_read::stages::read_stages` meets its contract. Assumes nothing.
use Rattle.sheet_form.specs.Kinds.{number_for}
use Rattle.sheet_read.proofs.Laws.Stages.{Stages}
use Rattle.sheet_read.proofs.stages.read_stages.Given as goal

abbrev pub invariant-loop-i : goal.invariant-loop-i
invariant-loop-i l = Stages (number_for l.kind.sheet) l.kind.height l.gates l.n l.i l.bytes l.at l.total l.initial.cells l.initial.plan l.initial.words l.initial.counts l.cells l.plan l.words l.counts
