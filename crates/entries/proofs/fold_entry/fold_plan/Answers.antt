-- `entries::fold_entry::fold_plan` meets its contract. Assumes nothing.
use native.Mathlib.Omega.{arith}
use Rattle.fold.specs.Answers.{outcome}
use Rattle.entries.specs.Fold.{lent_to, plan_folded}
use Rattle.entries.proofs.Laws.Entry.{entry_short}
use Rattle.entries.proofs.Laws.Fold.{entry_folded}
use Rattle.entries.proofs.fold_entry.fold_plan.Goals as goal
use Rattle.entries.proofs.fold_entry.fold_plan.Goals.{in-Ok, in-Err}

pub returns-then-answer-lt1 : goal.returns-then-answer-lt1
unfolding plan_folded
returns-then-answer-lt1 c = entry_short _ _ _ _ _ (omega (arith, c.if-answer-lt1.true))

pub returns : goal.returns
unfolding lent_to outcome
returns c = entry_folded _ _ _ _ _ _ (omega (arith, c.if-answer-lt1.false)) _ c.fold.ensures
    (elim c.match-fold.branch [ in-Ok w ↦ rw (w.number-is, w.in-Ok.is) | in-Err w ↦ rw (w.number-is, w.in-Err.is) w.number-number.ensures ])
    (rw c.wide.ensures at c.tell.ensures)
