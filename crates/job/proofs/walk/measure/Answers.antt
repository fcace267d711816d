-- `job::walk::measure` meets its contract: an empty part holds nothing. Assumes nothing.
use Rattle.job.proofs.Laws.Walk.{measured_in}
use Rattle.job.proofs.walk.measure.Goals as goal

pub returns : goal.returns
returns c = let a = c.args in measured_in _ a.gates.now a.given.now a.records.now _ _ _ _ c.walk.ensures
