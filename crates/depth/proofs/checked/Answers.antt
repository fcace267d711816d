-- `depth::checked` meets its contract: the size that the code finds is the one that counts. Assumes nothing.
use mathlib.Core.Path.{◌∙◌, ap}
use Rattle.std.specs.Option.{is_some}
use Rattle.depth.proofs.Laws.Outcome.{said}
use Rattle.depth.proofs.checked.Goals as goal

pub returns : goal.returns
returns c = said c.args.work.now _ _ _ _ (c.is_some-sized.ensures ∙ ap is_some c.work_left.ensures) c.refusal.ensures
