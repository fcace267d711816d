-- `replay_tape::stages::make_stage` meets its contract. Assumes nothing.
use Rattle.replay_tape.proofs.Laws.Stages.{stage_and, stage_out}
use Rattle.replay_tape.proofs.stages.make_stage.Goals as goal

pub and_cells-requires : goal.and_cells-requires
and_cells-requires c = stage_and _ _ _ _ _ _ _ c.requires _ c.load_cells.ensures

pub returns : goal.returns
returns c = stage_out _ _ _ _ _ _ _ c.requires _ c.load_cells.ensures _ _ _ c.and_cells.ensures
