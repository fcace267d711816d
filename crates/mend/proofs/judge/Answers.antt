-- `mend::judge` meets its contract. Assumes nothing.
use Rattle.mend.proofs.Laws.{judge_none, judge_fault}
use Rattle.mend.proofs.judge.Goals as goal

pub returns-in-Ok : goal.returns-in-Ok
returns-in-Ok c = judge_none _ _ _ _ _ _ _ _ _ _ c.requires _ c.in-Ok.ensures

pub returns-in-Err : goal.returns-in-Err
returns-in-Err c = judge_fault _ _ _ _ _ _ _ _ _ _ c.requires _ _ c.in-Err.ensures _ _ _ c.rebuild.ensures
