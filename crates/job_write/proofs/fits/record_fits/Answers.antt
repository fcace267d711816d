-- `job_write::fits::record_fits` meets its contract. Assumes nothing.
use mathlib.Core.Path.{sym, ◌∙◌}
use native.Mathlib.Omega.{arith}
use Rattle.job_write.proofs.Laws.Fits.{all_every, record_none, record_there, record_unfit, record_fit}
use Rattle.job_write.proofs.fits.record_fits.Goals as goal
use Rattle.job_write.proofs.fits.record_fits.Goals.{then-size-eq0-via-then-size-eq0, then-size-eq0-via-else-size-eq0+then-not-numbers_fit}

pub overflow_add-at : goal.overflow_add-at
overflow_add-at c = omega (arith, c.well_formed, record_there c.args.records.now c.args.at c.requires _ c.size_at-size.ensures c.if-size-eq0.false)

pub overflow_add-at-else-size-eq0-2 : goal.overflow_add-at-else-size-eq0-2
overflow_add-at-else-size-eq0-2 c = omega (arith, c.well_formed, record_there c.args.records.now c.args.at c.requires _ c.size_at-size.ensures c.if-size-eq0.false)

pub slice_bounds-numbers_fit-end : goal.slice_bounds-numbers_fit-end
slice_bounds-numbers_fit-end c = omega (arith, record_there c.args.records.now c.args.at c.requires _ c.size_at-size.ensures c.if-size-eq0.false)

pub returns-then-size-eq0 : goal.returns-then-size-eq0
returns-then-size-eq0 c = elim c.then-size-eq0.branch [
  | then-size-eq0-via-then-size-eq0 w ↦ record_none c.args.records.now c.args.at c.requires (sym c.size_at-size.ensures ∙ w.if-size-eq0.true)
  | then-size-eq0-via-else-size-eq0+then-not-numbers_fit w ↦
      record_unfit c.args.records.now c.args.at c.requires _ c.size_at-size.ensures w.if-size-eq0.false _ w.limit.ensures (sym (w.numbers_fit.ensures ∙ all_every _ _) ∙ w.if-not-numbers_fit.true)
]

pub returns : goal.returns
returns c = record_fit c.args.records.now c.args.at c.requires _ c.size_at-size.ensures c.if-size-eq0.false _ c.limit.ensures (sym (c.numbers_fit.ensures ∙ all_every _ _) ∙ c.if-not-numbers_fit.false)
