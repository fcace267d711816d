-- `mend::mend` meets its contract. Assumes nothing.
use mathlib.Core.List.{[]}
use borrow.Author.Rules.{rules}
use Rattle.std.proofs.lemmas.Result.{err_from_is_err_and}
use Rattle.mend.proofs.Laws.{call_refused, work_inside, mend_at_work, call_mended}
use Rattle.mend.proofs.mend.Goals as goal

pub returns-in_err-refusal : goal.returns-in_err-refusal
returns-in_err-refusal c =
    let p = err_from_is_err_and c.from_residual.result c.from_residual.ensures.1 in
    rw (p.1, p.2) (call_refused _ _ _ _ c.args.plan.now c.args.words.now c.args.counts.now c.args.list.now c.args.work.now c.args.stages _ c.sized-sized.ensures _ c.in_err-refusal.ensures)

pub slice_bounds-mend_in-end : goal.slice_bounds-mend_in-end
slice_bounds-mend_in-end c = work_inside _ _ _ _ c.args.plan.now [] c.args.counts.now [] c.args.work.now c.args.stages _ c.sized-sized.ensures c.in_ok-refusal.ensures

pub mend_in-requires : goal.mend_in-requires
mend_in-requires c = mend_at_work _ _ _ _ c.args.plan.now [] c.args.counts.now [] c.args.work.now c.args.stages _ c.sized-sized.ensures c.in_ok-refusal.ensures

pub returns : goal.returns
returns c = call_mended _ _ _ _ c.args.plan.now c.args.words.now c.args.counts.now c.args.list.now c.args.work.now c.args.stages _ c.sized-sized.ensures c.in_ok-refusal.ensures _ _ _ _ c.mend_in.ensures (search rules)
