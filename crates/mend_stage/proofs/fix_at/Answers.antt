-- `mend_stage::fix_at` meets its contract. Assumes nothing.
use mathlib.Core.Path.{sym}
use lib.Seq.{set_out}
use Rattle.mend_stage.proofs.fix_at.Goals as goal

pub returns-else-i-fixed : goal.returns-else-i-fixed
returns-else-i-fixed c = sym (set_out _ _ _ c.if-i-fixed.false)
