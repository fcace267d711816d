-- `job::steps::store` meets its contract: past the area's end there is no store. Assumes nothing.
use mathlib.Core.Path.{sym}
use lib.Seq.{set_out}
use Rattle.job.proofs.steps.store.Goals as goal

pub returns-else-i-area : goal.returns-else-i-area
returns-else-i-area c = sym (set_out _ _ _ c.if-i-area.false)
