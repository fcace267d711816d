-- `replay_tape::sources::loaded` meets its contract. Assumes nothing.
use Rattle.replay_tape.proofs.Laws.Sources.{load_past, load_there}
use Rattle.replay_tape.proofs.sources.loaded.Goals as goal

pub returns-then-i-looks : goal.returns-then-i-looks
returns-then-i-looks c = load_there _ _ _ c.index-i.ensures

pub returns-else-i-looks : goal.returns-else-i-looks
returns-else-i-looks c = load_past _ _ _ c.index-i.ensures c.if-i-looks.false
