-- `placer::stages::next_stage` meets its contract: the stage's part of the plan is lent, and comes back filled. Assumes nothing.
use native.Mathlib.Omega.{arith}
use mathlib.Core.Path.{refl}
use Rattle.refusals.proofs.Numbers.{handed_on}
use Rattle.placer.proofs.Laws.Next.{ctx, stage_size_lem, size_small, part_inside_plan, stage_at, refused_part, words_few, on_part, counts_length, one_half, from_half, to_half}
use Rattle.placer.proofs.stages.next_stage.Goals as goal

pub overflow_mul-size : goal.overflow_mul-size
overflow_mul-size c = let A = c.requires.1.at in rw (one_half A c.level_one_size-size.ensures) (omega (arith, stage_size_lem A, size_small A))

pub overflow_mul-a : goal.overflow_mul-a
overflow_mul-a c = let A = c.requires.1.at in rw (one_half A c.level_one_size-size.ensures) (omega (arith, part_inside_plan A, c.well_formed.1.0.0))

pub overflow_add-e : goal.overflow_add-e
overflow_add-e c = let A = c.requires.1.at in rw (one_half A c.level_one_size-size.ensures) (omega (arith, part_inside_plan A, c.well_formed.1.0.0))

pub offset_bounds-plan-a : goal.offset_bounds-plan-a
offset_bounds-plan-a c = let A = c.requires.1.at in rw (one_half A c.level_one_size-size.ensures) (omega (arith, part_inside_plan A, c.well_formed.1.0.1))

pub slice_bounds-build_one_stage-end : goal.slice_bounds-build_one_stage-end
slice_bounds-build_one_stage-end c = let A = c.requires.1.at in rw (one_half A c.level_one_size-size.ensures) (part_inside_plan A)

pub build_one_stage-requires : goal.build_one_stage-requires
build_one_stage-requires c = let A = c.requires.1.at in let e = one_half A c.level_one_size-size.ensures in (c.requires.0, record { it = _; at = stage_at A (from_half A e) (to_half A e) })

pub returns-in_err-s : goal.returns-in_err-s
returns-in_err-s c = let q = handed_on c.from_residual.result _ c.from_residual.ensures.1 in rw q (record { all = λ C A. let e = one_half A c.level_one_size-size.ensures in refused_part A (from_half A e) (to_half A e) (c.in_err-s.ensures.all (ctx A) (stage_at A (from_half A e) (to_half A e))) })

pub overflow_cast-counts : goal.overflow_cast-counts
overflow_cast-counts c = let A = c.requires.1.at in let e = one_half A c.level_one_size-size.ensures in record { fits = words_few A (from_half A e) (to_half A e) (c.in_ok-s.ensures.all (ctx A) (stage_at A (from_half A e) (to_half A e))) }

pub offset_bounds-counts-k : goal.offset_bounds-counts-k
offset_bounds-counts-k c = let A = c.requires.1.at in omega (arith, counts_length A, A.more, c.well_formed.1.1.1.0.1)

pub bounds-counts-k : goal.bounds-counts-k
bounds-counts-k c = let A = c.requires.1.at in omega (arith, counts_length A, A.more)

pub returns : goal.returns
returns c = record { all = λ C A. let e = one_half A c.level_one_size-size.ensures in on_part A (from_half A e) (to_half A e) (c.in_ok-s.ensures.all (ctx A) (stage_at A (from_half A e) (to_half A e))) refl }
