-- `replay::build_and_run` meets its contract. Assumes nothing.
use mathlib.Core.Path.{refl}
use native.Mathlib.Omega.{arith}
use Rattle.replay.proofs.Laws.Built.{work_kept}
use Rattle.replay.proofs.Laws.Built.{parts, plan_length, work_length, used_fits, used_small, stages_fit, finish_in, outcome_built}
use Rattle.replay.proofs.build_and_run.Goals as goal

pub overflow_mul-used : goal.overflow_mul-used
overflow_mul-used c = omega (arith, used_small _ _ _ _ _ _ _ _ _ _ _ _ _ _ _ _ _ c.requires _ _ _ _ _ c.build-built.ensures _ _ c.laid-plan_laid.ensures.stages c.laid-plan_laid.ensures.words _ c.stage_size.ensures, plan_length _ _ _ _ _ _ _ _ _ _ _ _ _ _ _ _ _ c.requires _ _ _ _ _ c.build-built.ensures, c.well_formed.1.1.1.1.1.1.1.1.1.1.0.0)

pub overflow_mul-need : goal.overflow_mul-need
overflow_mul-need c = omega (arith, (parts _ _ _ _ _ _ _ _ _ _ _ _ _ _ _ _ _ c.requires _ c.pin_count-pins.ensures).pins_few)

pub overflow_mul-need-2 : goal.overflow_mul-need-2
overflow_mul-need-2 c = omega (arith, (parts _ _ _ _ _ _ _ _ _ _ _ _ _ _ _ _ _ c.requires _ c.pin_count-pins.ensures).records_few)

pub overflow_add-need : goal.overflow_add-need
overflow_add-need c = let p = parts _ _ _ _ _ _ _ _ _ _ _ _ _ _ _ _ _ c.requires _ c.pin_count-pins.ensures in omega (arith, p.pins_few, p.records_few)

pub overflow_add-need-2 : goal.overflow_add-need-2
overflow_add-need-2 c = let p = parts _ _ _ _ _ _ _ _ _ _ _ _ _ _ _ _ _ c.requires _ c.pin_count-pins.ensures in omega (arith, p.pins_few, p.records_few)

pub overflow_add-held : goal.overflow_add-held
overflow_add-held c = let p = parts _ _ _ _ _ _ _ _ _ _ _ _ _ _ _ _ _ c.requires _ c.pin_count-pins.ensures in omega (arith, p.records_few, p.slots_part, plan_length _ _ _ _ _ _ _ _ _ _ _ _ _ _ _ _ _ c.requires _ _ _ _ _ c.build-built.ensures, c.well_formed.1.1.1.1.1.1.1.1.1.1.1.1.1.1.1.0.0)

pub overflow_add-last : goal.overflow_add-last
overflow_add-last c = let p = parts _ _ _ _ _ _ _ _ _ _ _ _ _ _ _ _ _ c.requires _ c.pin_count-pins.ensures in omega (arith, p.pins_few, p.bits_part, plan_length _ _ _ _ _ _ _ _ _ _ _ _ _ _ _ _ _ c.requires _ _ _ _ _ c.build-built.ensures, c.well_formed.1.1.1.1.1.1.1.1.1.1.1.1.1.1.1.1.0)

pub slice_bounds-finish-end : goal.slice_bounds-finish-end
slice_bounds-finish-end c = used_fits _ _ _ _ _ _ _ _ _ _ _ _ _ _ _ _ _ c.requires _ _ _ _ _ c.build-built.ensures _ _ c.laid-plan_laid.ensures.stages c.laid-plan_laid.ensures.words _ _ c.stage_size.ensures refl

pub slice_bounds-finish-end-2 : goal.slice_bounds-finish-end-2
slice_bounds-finish-end-2 c = stages_fit _ _ _ _ _ _ _ _ _ _ _ _ _ _ _ _ _ c.requires _ _ _ _ _ c.build-built.ensures _ _ c.laid-plan_laid.ensures.stages c.laid-plan_laid.ensures.words

pub slice_bounds-finish-end-3 : goal.slice_bounds-finish-end-3
slice_bounds-finish-end-3 c = let p = parts _ _ _ _ _ _ _ _ _ _ _ _ _ _ _ _ _ c.requires _ c.pin_count-pins.ensures in omega (arith, p.work_part, work_length _ _ _ _ _ _ _ _ _ _ _ _ _ _ _ _ _ c.requires _ _ _ _ _ c.build-built.ensures)

pub slice_bounds-finish-end-4 : goal.slice_bounds-finish-end-4
slice_bounds-finish-end-4 c = let p = parts _ _ _ _ _ _ _ _ _ _ _ _ _ _ _ _ _ c.requires _ c.pin_count-pins.ensures in omega (arith, p.tape_part, plan_length _ _ _ _ _ _ _ _ _ _ _ _ _ _ _ _ _ c.requires _ _ _ _ _ c.build-built.ensures)

pub slice_bounds-finish-end-5 : goal.slice_bounds-finish-end-5
slice_bounds-finish-end-5 c = let p = parts _ _ _ _ _ _ _ _ _ _ _ _ _ _ _ _ _ c.requires _ c.pin_count-pins.ensures in omega (arith, p.slots_part, plan_length _ _ _ _ _ _ _ _ _ _ _ _ _ _ _ _ _ c.requires _ _ _ _ _ c.build-built.ensures)

pub slice_bounds-finish-end-6 : goal.slice_bounds-finish-end-6
slice_bounds-finish-end-6 c = let p = parts _ _ _ _ _ _ _ _ _ _ _ _ _ _ _ _ _ c.requires _ c.pin_count-pins.ensures in omega (arith, p.bits_part, plan_length _ _ _ _ _ _ _ _ _ _ _ _ _ _ _ _ _ c.requires _ _ _ _ _ c.build-built.ensures)

pub slice_bounds-finish-end-7 : goal.slice_bounds-finish-end-7
slice_bounds-finish-end-7 c = let p = parts _ _ _ _ _ _ _ _ _ _ _ _ _ _ _ _ _ c.requires _ c.pin_count-pins.ensures in omega (arith, p.end_part)

pub finish-requires : goal.finish-requires
finish-requires c = finish_in _ _ _ _ _ _ _ _ _ _ _ _ _ _ _ _ _ c.requires _ _ _ _ _ c.build-built.ensures _ _ c.laid-plan_laid.ensures.stages c.laid-plan_laid.ensures.words _ _ _ _ _ _ _ _ c.stage_size.ensures refl c.pin_count-pins.ensures refl refl refl refl refl _ c.is_ok.ensures.value

pub shape_of-plan : goal.shape_of-plan
shape_of-plan c = plan_length _ _ _ _ _ _ _ _ _ _ _ _ _ _ _ _ _ c.requires _ _ _ _ _ c.build-built.ensures

pub shape_of-words : goal.shape_of-words
shape_of-words c = c.build-built.auto.words

pub shape_of-counts : goal.shape_of-counts
shape_of-counts c = c.build-built.auto.counts

pub shape_of-work : goal.shape_of-work
shape_of-work c = work_kept _ _ _ _ _ _ _ _ _ _ _ _ _ _ _ _ _ c.requires _ _ _ _ _ c.build-built.ensures _ _ c.laid-plan_laid.ensures.stages c.laid-plan_laid.ensures.words _ _ _ _ _ _ _ _ c.stage_size.ensures refl c.pin_count-pins.ensures refl refl refl refl refl _ c.is_ok.ensures.value _ _ _ _ _ _ c.finish.ensures

pub returns : goal.returns
returns c = outcome_built _ _ _ _ _ _ _ _ _ _ _ _ _ _ _ _ _ c.requires _ _ _ _ _ c.build-built.ensures _ _ c.laid-plan_laid.ensures.stages c.laid-plan_laid.ensures.words _ _ _ _ _ _ _ _ c.stage_size.ensures refl c.pin_count-pins.ensures refl refl refl refl refl _ c.is_ok.ensures.value _ _ _ _ _ _ c.finish.ensures
