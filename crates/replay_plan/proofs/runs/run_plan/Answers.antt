-- `replay_plan::runs::run_plan` meets its contract. Assumes nothing.
use mathlib.Core.Path.{refl, ◌∙◌}
use native.Mathlib.Omega.{arith}
use Rattle.replay_plan.proofs.Laws.Runs.{end_kept}
use Rattle.replay_plan.proofs.Laws.Runs.{work_kept, slots_kept, bits_kept, places_fit, leaves_fit, flips_fit, flips_small}
use Rattle.replay_plan.proofs.Laws.Runs.{tape_in, lists_in, lines_in, run_out}
use Rattle.replay_plan.proofs.runs.run_plan.Goals as goal

pub make_tape-entries-requires : goal.make_tape-entries-requires
make_tape-entries-requires c = tape_in _ _ _ _ _ _ _ _ _ _ _ _ _ _ _ _ _ c.requires _ c.pin_count-pins.ensures

pub make_lists-lists-requires : goal.make_lists-lists-requires
make_lists-lists-requires c = lists_in _ _ _ _ _ _ _ _ _ _ _ _ _ _ _ _ _ c.requires _ c.pin_count-pins.ensures _ _ _ _ c.make_tape-entries.ensures _ c.clear_bytes.ensures

pub overflow_add-last : goal.overflow_add-last
overflow_add-last c = omega (arith, flips_small _ _ _ _ _ _ _ _ _ _ _ _ _ _ _ _ _ c.requires _ c.pin_count-pins.ensures _ _ _ _ c.make_tape-entries.ensures _ c.clear_bytes.ensures _ _ _ _ c.make_lists-lists.ensures)

pub slice_bounds-run_lines-end : goal.slice_bounds-run_lines-end
slice_bounds-run_lines-end c = omega (arith, places_fit _ _ _ _ _ _ _ _ _ _ _ _ _ _ _ _ _ c.requires _ c.pin_count-pins.ensures _ _ _ _ c.make_tape-entries.ensures _ c.clear_bytes.ensures _ _ _ _ c.make_lists-lists.ensures)

pub offset_bounds-work-pins : goal.offset_bounds-work-pins
offset_bounds-work-pins c = omega (arith, flips_small _ _ _ _ _ _ _ _ _ _ _ _ _ _ _ _ _ c.requires _ c.pin_count-pins.ensures _ _ _ _ c.make_tape-entries.ensures _ c.clear_bytes.ensures _ _ _ _ c.make_lists-lists.ensures)

pub slice_bounds-run_lines-end-2 : goal.slice_bounds-run_lines-end-2
slice_bounds-run_lines-end-2 c = omega (arith, flips_fit _ _ _ _ _ _ _ _ _ _ _ _ _ _ _ _ _ c.requires _ c.pin_count-pins.ensures _ _ _ _ c.make_tape-entries.ensures _ c.clear_bytes.ensures _ _ _ _ c.make_lists-lists.ensures)

pub slice_bounds-run_lines-end-3 : goal.slice_bounds-run_lines-end-3
slice_bounds-run_lines-end-3 c = omega (arith, leaves_fit _ _ _ _ _ _ _ _ _ _ _ _ _ _ _ _ _ c.requires _ c.pin_count-pins.ensures _ _ _ _ c.make_tape-entries.ensures _ c.clear_bytes.ensures _ _ _ _ c.make_lists-lists.ensures)

pub run_lines-requires : goal.run_lines-requires
run_lines-requires c = lines_in _ _ _ _ _ _ _ _ _ _ _ _ _ _ _ _ _ c.requires _ c.pin_count-pins.ensures _ _ _ _ c.make_tape-entries.ensures _ c.clear_bytes.ensures _ _ _ _ c.make_lists-lists.ensures _ refl _ c.copy_bits.ensures

pub shape_of-work : goal.shape_of-work
shape_of-work c = work_kept _ _ _ _ _ _ _ _ _ _ _ _ _ _ _ _ _ c.requires _ c.pin_count-pins.ensures _ _ _ _ c.make_tape-entries.ensures _ c.clear_bytes.ensures _ _ _ _ c.make_lists-lists.ensures

pub shape_of-slots : goal.shape_of-slots
shape_of-slots c = slots_kept _ _ _ _ _ _ _ _ _ _ _ _ _ _ _ _ _ c.requires _ c.pin_count-pins.ensures _ _ _ _ c.make_tape-entries.ensures _ c.clear_bytes.ensures _ _ _ _ c.make_lists-lists.ensures

pub shape_of-bits : goal.shape_of-bits
shape_of-bits c = c.run_lines.ensures.slots ∙ bits_kept _ _ _ _ _ _ _ _ _ _ _ _ _ _ _ _ _ c.requires _ c.pin_count-pins.ensures _ _ _ _ c.make_tape-entries.ensures _ c.clear_bytes.ensures _ _ _ _ c.make_lists-lists.ensures

pub shape_of-end : goal.shape_of-end
shape_of-end c = end_kept _ _ _ _ _ _ _ _ _ _ _ _ _ _ _ _ _ c.requires _ c.pin_count-pins.ensures _ _ _ _ c.make_tape-entries.ensures _ c.clear_bytes.ensures _ _ _ _ c.make_lists-lists.ensures _ _ _ (run_out _ _ _ _ _ _ _ _ _ _ _ _ _ _ _ _ _ c.requires _ c.pin_count-pins.ensures _ _ _ _ c.make_tape-entries.ensures _ c.clear_bytes.ensures _ _ _ _ c.make_lists-lists.ensures _ refl _ c.copy_bits.ensures _ _ _ c.run_lines.ensures)

pub returns : goal.returns
returns c = run_out _ _ _ _ _ _ _ _ _ _ _ _ _ _ _ _ _ c.requires _ c.pin_count-pins.ensures _ _ _ _ c.make_tape-entries.ensures _ c.clear_bytes.ensures _ _ _ _ c.make_lists-lists.ensures _ refl _ c.copy_bits.ensures _ _ _ c.run_lines.ensures
