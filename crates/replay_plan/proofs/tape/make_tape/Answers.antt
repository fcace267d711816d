-- `replay_plan::tape::make_tape` meets its contract. Assumes nothing.
use Rattle.fold.proofs.Laws.Stages.{size_there}
use Rattle.replay_plan.proofs.Laws.Tape.{words_at_lem, tape_out}
use Rattle.replay_plan.proofs.tape.make_tape.Goals as goal

pub make_plan-entries-requires : goal.make_plan-entries-requires
make_plan-entries-requires c = c.requires.made

pub read_plan-requires : goal.read_plan-requires
read_plan-requires c = words_at_lem _ _ _ _ _ _ _ _ _ c.requires _ _ _ _ c.make_plan-entries.ensures _ (size_there _ _ c.requires.made.passed.height c.stage_size-size.ensures)

pub returns : goal.returns
returns c = tape_out _ _ _ _ _ _ _ _ _ c.requires _ _ _ _ c.make_plan-entries.ensures _ (size_there _ _ c.requires.made.passed.height c.stage_size-size.ensures) _ _ (c.fill.ensures.after (λ y e. e)) c.read_plan.ensures
