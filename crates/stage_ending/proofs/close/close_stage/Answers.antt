-- `stage_ending::close::close_stage` meets its contract: pins leave while the marks stand; then the order is gone along once. Assumes nothing.
use Rattle.stage_ending.proofs.Laws.Closed.{retire_at, closed}
use Rattle.stage_ending.proofs.close.close_stage.Goals as goal

pub retire_all-requires : goal.retire_all-requires
retire_all-requires c = retire_at c.requires c.leave_all-left.ensures

pub returns : goal.returns
returns c = closed c.requires c.leave_all-left.ensures c.retire_all.ensures c.fill_tail.ensures
