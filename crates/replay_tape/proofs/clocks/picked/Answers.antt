-- `replay_tape::clocks::picked` meets its contract. Assumes nothing.
use Rattle.replay_tape.proofs.Laws.Clocks.{pick_old, pick_data}
use Rattle.replay_tape.proofs.clocks.picked.Goals as goal

pub returns-then-enable-eq0 : goal.returns-then-enable-eq0
returns-then-enable-eq0 c = pick_old _ _ _ c.if-enable-eq0.true

pub returns-else-enable-eq0 : goal.returns-else-enable-eq0
returns-else-enable-eq0 c = pick_data _ _ _ c.if-enable-eq0.false
