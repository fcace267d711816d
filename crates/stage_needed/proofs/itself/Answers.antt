-- `stage_needed::itself` meets its contract: the level and the waiting list decide. Assumes nothing.
use Rattle.stage_needed.proofs.Laws.Asking.{itself_one, itself_waits, itself_not}
use Rattle.stage_needed.proofs.itself.Goals as goal
use Rattle.stage_needed.proofs.itself.Goals.{then-h-eq1-via-then-h-eq1, then-h-eq1-via-else-h-eq1+then-is_in}

pub returns-then-h-eq1 : goal.returns-then-h-eq1
returns-then-h-eq1 c = record {
  all = λ x A. elim c.then-h-eq1.branch [
    | then-h-eq1-via-then-h-eq1 w ↦ itself_one A w.if-h-eq1.true c.enlist.ensures
    | then-h-eq1-via-else-h-eq1+then-is_in w ↦ itself_waits A w.if-h-eq1.false _ w.is_in.ensures w.if-is_in.true c.enlist.ensures
  ];
}

pub returns : goal.returns
returns c = record { all = λ x A. itself_not A c.if-h-eq1.false _ c.is_in.ensures c.if-is_in.false }
