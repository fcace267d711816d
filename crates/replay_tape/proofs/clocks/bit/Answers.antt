-- `replay_tape::clocks::bit` meets its contract. Assumes nothing.
use Rattle.rules.specs.Fold.{as_number}
use Rattle.replay_form.specs.Clocks.{is_one}
use Rattle.replay_tape.proofs.clocks.bit.Goals as goal

pub returns : goal.returns
unfolding as_number is_one
returns c = c.from.ensures
