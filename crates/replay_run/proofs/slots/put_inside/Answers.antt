-- `replay_run::slots::put_inside` meets its contract. Assumes nothing.
use mathlib.Core.Path.{sym}
use lib.Seq.{set_out}
use Rattle.replay_run.proofs.slots.put_inside.Goals as goal

pub returns-else-n-list : goal.returns-else-n-list
returns-else-n-list g c = sym (set_out _ _ _ c.if-n-list.false)
