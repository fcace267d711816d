-- `aiger_write::jobs::flip_at` meets its contract: a flip-flop has three numbers, kind 2 and enable 1. Assumes nothing.
use mathlib.Core.Path.{sym, ◌∙◌}
use borrow.Author.Tests.{lt-leb}
use Rattle.rules.proofs.Lists.Members.{true_false, eqb_true, eqb_false}
use Rattle.aiger_write.proofs.Laws.Shape.{flip_short, flip_kind, flip_enable}
use Rattle.aiger_write.proofs.jobs.flip_at.Goals.{then-records-at-ge3, else-records-at-ge3}
use Rattle.aiger_write.proofs.jobs.flip_at.Goals as goal

pub returns-then-records-at-eq2 : goal.returns-then-records-at-eq2
returns-then-records-at-eq2 c = elim c.if-records-at-ge3.branch [
  | then-records-at-ge3 w ↦ flip_enable c.args.records.now c.args.at (eqb_true _ 2 (sym w.value-is ∙ c.if-records-at-eq2.true)) w.if-records-at-ge3.true
  | else-records-at-ge3 w ↦ true_false (sym w.value-is ∙ c.if-records-at-eq2.true) (lt-leb 3 _ w.if-records-at-ge3.false)
]

pub returns-else-records-at-eq2 : goal.returns-else-records-at-eq2
returns-else-records-at-eq2 c = elim c.if-records-at-ge3.branch [
  | then-records-at-ge3 w ↦ c.if-records-at-eq2.false ∙ flip_kind c.args.records.now c.args.at (eqb_false _ 2 (sym w.value-is ∙ c.if-records-at-eq2.false)) w.if-records-at-ge3.true
  | else-records-at-ge3 w ↦ c.if-records-at-eq2.false ∙ flip_short c.args.records.now c.args.at w.if-records-at-ge3.false
]
