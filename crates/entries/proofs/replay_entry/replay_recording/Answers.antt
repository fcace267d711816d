-- `entries::replay_entry::replay_recording` meets its contract. Assumes nothing.
use native.Mathlib.Omega.{arith}
use Rattle.replay.specs.Answers.{outcome}
use Rattle.entries.specs.Build.{rest}
use Rattle.entries.specs.Replay.{recording_replayed}
use Rattle.entries.proofs.Laws.Entry.{entry_short}
use Rattle.entries.proofs.Laws.Replay.{entry_replayed}
use Rattle.entries.proofs.replay_entry.replay_recording.Goals as goal

pub returns-then-answer-lt6 : goal.returns-then-answer-lt6
unfolding recording_replayed rest
returns-then-answer-lt6 c = entry_short _ _ _ _ _ (omega (arith, c.if-answer-lt6.true))

pub returns : goal.returns
unfolding outcome
returns c = entry_replayed _ _ _ (omega (arith, c.if-answer-lt6.false)) _ c.replay-built.ensures c.tell_built.ensures.number c.tell_built.ensures.told
