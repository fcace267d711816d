-- `replay_checks::lengths::lengths_right` meets its contract. Assumes nothing.
use mathlib.Core.Path.{◌∙◌}
use borrow.Author.Rules.{rules}
use Rattle.replay_checks.proofs.Laws.Lengths.{lengths_wrong, lengths_recording}
use Rattle.replay_checks.proofs.lengths.lengths_right.Goals as goal

pub returns-then-starting-flips : goal.returns-then-starting-flips
returns-then-starting-flips c = c.is_product.ensures ∙ lengths_recording _ _ _ _ _ _ c.if-starting-flips.true.0 c.if-starting-flips.true.1

pub returns-else-starting-flips : goal.returns-else-starting-flips
returns-else-starting-flips c = search rules ∙ lengths_wrong _ _ _ _ _ _ c.if-starting-flips.either
