-- One name that opens every definition, for what is proved by computing. Assumes nothing.
use Rattle.rules.specs.Inside.Opened.{everything}
use Rattle.replay_form.specs.Clocks.{is_one, ones, leaf_pin, line_leaves, beside, pin_bits, literal_out, record_out, handed_out, bits_out, flip_flops, taken, next_bits, clock, line_size, and_then, run, plain_bits, plain_run}
use Rattle.replay_form.specs.Plans.{in_words, written_at, bit_in, plan_bits, plan_run}
use Rattle.replay_form.specs.Tape.{slot_bit, entry_bit, run_tape, and_source, source_at, put, scan, stage_made, later_slot, first_slot, made_from, made, slot_in, tape_bits, tape_run}
use Rattle.replay_form.specs.Calls.{circuit_of, slots_size, bits_size, replay_sized, areas_right, plain, once, driven_right, lengths_right, out_right, later_refusal, later_of, replay_refusal, ran_of, cell_stages, built_lent, built_of, replay}

-- the definitions of this crate and of the rules
unfoldable pub opened : Unit {0}
unfolding everything is_one ones leaf_pin line_leaves beside pin_bits literal_out record_out handed_out bits_out flip_flops taken next_bits clock line_size and_then run plain_bits plain_run in_words written_at bit_in plan_bits plan_run slot_bit entry_bit run_tape and_source source_at put scan stage_made later_slot first_slot made_from made slot_in tape_bits tape_run circuit_of slots_size bits_size replay_sized areas_right plain once driven_right lengths_right out_right later_refusal later_of replay_refusal ran_of cell_stages built_lent built_of replay
opened = tt
