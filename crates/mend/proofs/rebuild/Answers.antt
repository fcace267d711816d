-- `mend::rebuild` meets its contract. Assumes nothing.
use mathlib.Core.List.{[]}
use Rattle.mend.proofs.Laws.{recheck_at, settle_at, rebuild_fault, rebuild_settled}
use Rattle.mend.proofs.rebuild.Goals as goal

pub plan_place-requires : goal.plan_place-requires
plan_place-requires c = recheck_at _ _ _ _ _ [] _ _ _ _ c.requires _ c.copy.ensures _ c.mend_plan.ensures

pub settle-requires : goal.settle-requires
settle-requires c = settle_at _ _ _ _ _ [] _ _ _ _ c.requires _ c.copy.ensures _ c.mend_plan.ensures

pub returns-in-Ok : goal.returns-in-Ok
returns-in-Ok c = rebuild_settled _ _ _ _ _ _ _ _ _ _ c.requires _ c.copy.ensures _ c.mend_plan.ensures _ c.in-Ok.ensures _ _ _ c.settle.ensures

pub returns-in-Err : goal.returns-in-Err
returns-in-Err c = rw c.from.ensures (rebuild_fault _ _ _ _ _ _ _ _ _ _ c.requires _ c.copy.ensures _ c.mend_plan.ensures _ _ c.in-Err.ensures)
