-- `fold::fold` meets its contract: the numbers by pin are lent as the front of the work area. Assumes nothing.
use Prim.Native.Nat.{◌-◌}
use mathlib.Core.Path.{sym}
use native.Mathlib.Omega.{arith}
use Rattle.refusals.proofs.Numbers.{handed_on}
use Rattle.fold.proofs.Laws.Checks.{work_room, looks_size, plan_at, cleared, fold_refused, fold_done}
use Rattle.fold.proofs.fold.Goals as goal

pub slice_bounds-fold_plan-end : goal.slice_bounds-fold_plan-end
slice_bounds-fold_plan-end c = let e = sym (rw c.in_ok-check.was at c.check.ensures) in omega (arith, work_room _ _ _ _ e)

pub fold_plan-requires : goal.fold_plan-requires
fold_plan-requires c =
    let e = sym (rw c.in_ok-check.was at c.check.ensures) in
    record { plan_at = plan_at _ _ _ _ e; looks_len = looks_size c.args.work.now (work_room _ _ _ _ e) (65536 - 0) (omega arith) }

pub returns-in_err-check : goal.returns-in_err-check
returns-in_err-check c = rw (handed_on _ _ c.from_residual.ensures.1) (fold_refused _ _ _ _ _ _ _ (rw c.in_err-check.was at c.check.ensures))

pub returns : goal.returns
returns c =
    let e = rw c.in_ok-check.was at c.check.ensures in
    fold_done _ _ _ _ _ _ e _ _ c.fold_plan.ensures.folded (cleared _ (work_room _ _ _ _ (sym e)) (65536 - 0) (omega arith) _ c.fold_plan.ensures.cleared)
