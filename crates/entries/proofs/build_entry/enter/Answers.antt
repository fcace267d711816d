-- `entries::build_entry::enter` meets its contract. Assumes nothing.
use native.Mathlib.Omega.{arith}
use Rattle.placer.specs.Answers.{outcome}
use Rattle.entries.specs.Build.{rest, built}
use Rattle.entries.proofs.Laws.Entry.{entry_short}
use Rattle.entries.proofs.Laws.Build.{entry_built}
use Rattle.entries.proofs.build_entry.enter.Goals as goal

pub returns-then-answer-lt6 : goal.returns-then-answer-lt6
unfolding built rest
returns-then-answer-lt6 c = entry_short _ _ _ _ _ (omega (arith, c.if-answer-lt6.true))

pub returns : goal.returns
unfolding outcome
returns c = entry_built _ _ _ _ _ _ _ _ _ (omega (arith, c.if-answer-lt6.false)) _ c.build-built.ensures c.tell_built.ensures.number c.tell_built.ensures.told
