-- `replay_tape::clocks::clock` meets its contract. Assumes nothing.
use Rattle.replay_tape.proofs.Laws.Clocks.{pins_kept, line_length, clock_run, clock_places, clock_flips, clock_out}
use Rattle.replay_tape.proofs.clocks.clock.Goals as goal

pub put_bits-requires : goal.put_bits-requires
put_bits-requires c = c.requires.lines

pub put_bits-requires-2 : goal.put_bits-requires-2
put_bits-requires-2 c = pins_kept _ _ _ _ (line_length _ _ _ _ _ _ _ _ _ _ _ c.requires _ c.put_bits.ensures) c.requires.drives

pub run_tape-requires : goal.run_tape-requires
run_tape-requires c = clock_run _ _ _ _ _ _ _ _ _ _ _ c.requires _ c.put_bits.ensures _ c.put_bits-2.ensures

pub hand_out-requires : goal.hand_out-requires
hand_out-requires c = clock_places _ _ _ _ _ _ _ _ _ _ _ c.requires _ c.put_bits.ensures _ c.put_bits-2.ensures _ c.run_tape.ensures

pub take_data-requires : goal.take_data-requires
take_data-requires c = clock_flips _ _ _ _ _ _ _ _ _ _ _ c.requires _ c.put_bits.ensures _ c.put_bits-2.ensures _ c.run_tape.ensures _ c.hand_out.ensures

pub returns : goal.returns
returns c = clock_out _ _ _ _ _ _ _ _ _ _ _ c.requires _ c.put_bits.ensures _ c.put_bits-2.ensures _ c.run_tape.ensures _ _ c.hand_out.ensures c.take_data.ensures
