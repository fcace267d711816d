-- `replay_finished::run::run_accepted` meets its contract. Assumes nothing.
use mathlib.Core.Path.{refl}
use native.Mathlib.Omega.{arith}
use Rattle.rules.specs.Graph.{pin_count}
use Rattle.replay_finished.proofs.Laws.Accepted.{parts, total_fits, finish_in, lent_ran}
use Rattle.replay_finished.proofs.run.run_accepted.Goals as goal

pub overflow_mul-used : goal.overflow_mul-used
overflow_mul-used c = omega (arith, (parts _ _ _ _ _ _ _ _ _ _ _ _ _ _ _ _ _ _ c.requires (pin_count _) _ _ refl c.stage_size.ensures refl).used_few)

pub slice_bounds-total-end : goal.slice_bounds-total-end
slice_bounds-total-end c = omega (arith, (parts _ _ _ _ _ _ _ _ _ _ _ _ _ _ _ _ _ _ c.requires (pin_count _) _ _ refl c.stage_size.ensures refl).counts_part)

pub total-all-requires : goal.total-all-requires
total-all-requires c = total_fits _ _ _ _ _ _ _ _ _ _ _ _ _ _ _ _ _ _ c.requires

pub overflow_add-places : goal.overflow_add-places
overflow_add-places c = let q = parts _ _ _ _ _ _ _ _ _ _ _ _ _ _ _ _ _ _ c.requires _ _ _ c.pin_count-pins.ensures c.stage_size.ensures refl in omega (arith, q.pins_few, q.records_few)

pub overflow_add-held : goal.overflow_add-held
overflow_add-held c = let q = parts _ _ _ _ _ _ _ _ _ _ _ _ _ _ _ _ _ _ c.requires _ _ _ c.pin_count-pins.ensures c.stage_size.ensures refl in omega (arith, q.used_few, q.records_few)

pub overflow_add-last : goal.overflow_add-last
overflow_add-last c = let q = parts _ _ _ _ _ _ _ _ _ _ _ _ _ _ _ _ _ _ c.requires _ _ _ c.pin_count-pins.ensures c.stage_size.ensures refl in omega (arith, q.pins_few, q.used_few)

pub slice_bounds-finish-end : goal.slice_bounds-finish-end
slice_bounds-finish-end c = let q = parts _ _ _ _ _ _ _ _ _ _ _ _ _ _ _ _ _ _ c.requires _ _ _ c.pin_count-pins.ensures c.stage_size.ensures refl in omega (arith, q.plan_part)

pub slice_bounds-finish-end-2 : goal.slice_bounds-finish-end-2
slice_bounds-finish-end-2 c = let q = parts _ _ _ _ _ _ _ _ _ _ _ _ _ _ _ _ _ _ c.requires _ _ _ c.pin_count-pins.ensures c.stage_size.ensures refl in omega (arith, q.counts_part)

pub slice_bounds-finish-end-3 : goal.slice_bounds-finish-end-3
slice_bounds-finish-end-3 c = let q = parts _ _ _ _ _ _ _ _ _ _ _ _ _ _ _ _ _ _ c.requires _ _ _ c.pin_count-pins.ensures c.stage_size.ensures refl in omega (arith, q.work_part)

pub slice_bounds-finish-end-4 : goal.slice_bounds-finish-end-4
slice_bounds-finish-end-4 c = let q = parts _ _ _ _ _ _ _ _ _ _ _ _ _ _ _ _ _ _ c.requires _ _ _ c.pin_count-pins.ensures c.stage_size.ensures refl in omega (arith, q.tape_part)

pub slice_bounds-finish-end-5 : goal.slice_bounds-finish-end-5
slice_bounds-finish-end-5 c = let q = parts _ _ _ _ _ _ _ _ _ _ _ _ _ _ _ _ _ _ c.requires _ _ _ c.pin_count-pins.ensures c.stage_size.ensures refl in omega (arith, q.slots_part)

pub slice_bounds-finish-end-6 : goal.slice_bounds-finish-end-6
slice_bounds-finish-end-6 c = let q = parts _ _ _ _ _ _ _ _ _ _ _ _ _ _ _ _ _ _ c.requires _ _ _ c.pin_count-pins.ensures c.stage_size.ensures refl in omega (arith, q.bits_part)

pub slice_bounds-finish-end-7 : goal.slice_bounds-finish-end-7
slice_bounds-finish-end-7 c = let q = parts _ _ _ _ _ _ _ _ _ _ _ _ _ _ _ _ _ _ c.requires _ _ _ c.pin_count-pins.ensures c.stage_size.ensures refl in omega (arith, q.end_part)

pub finish-requires : goal.finish-requires
finish-requires c = finish_in _ _ _ _ _ _ _ _ _ _ _ _ _ _ _ _ _ _ c.requires _ _ _ _ _ _ (parts _ _ _ _ _ _ _ _ _ _ _ _ _ _ _ _ _ _ c.requires _ _ _ c.pin_count-pins.ensures c.stage_size.ensures refl) refl refl refl refl _ c.total-all.ensures

pub returns : goal.returns
returns c = lent_ran _ _ _ _ _ _ _ _ _ _ _ _ _ _ _ _ _ _ c.requires _ _ _ _ _ _ (parts _ _ _ _ _ _ _ _ _ _ _ _ _ _ _ _ _ _ c.requires _ _ _ c.pin_count-pins.ensures c.stage_size.ensures refl) refl refl refl refl _ _ _ _ _ _ c.finish.ensures
