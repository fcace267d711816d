-- `sizes::areas_sized` meets its contract. Assumes nothing.
use mathlib.Core.Path.{◌∙◌, ap}
use Rattle.std.specs.Option.{is_some}
use Rattle.rules.proofs.Bools.{no, yes}
use Rattle.sizes.proofs.Rooms.{others_wrong, work_tested}
use Rattle.sizes.proofs.areas_sized.Goals as goal

pub returns-then-not-lent_sized : goal.returns-then-not-lent_sized
returns-then-not-lent_sized c = others_wrong _ _ _ _ _ _ (no c.lent_sized.ensures c.if-not-lent_sized.true-raw)

pub returns : goal.returns
returns c = work_tested _ _ _ _ _ _ (yes c.lent_sized.ensures c.if-not-lent_sized.false-raw) _ (c.is_some.ensures ∙ ap is_some c.work_left.ensures)
