-- `replay_checks::lengths::measure` meets its contract. Assumes nothing.
use mathlib.Core.Path.{refl, sym, ◌∙◌}
use Rattle.replay_checks.proofs.Laws.Lengths.{measured_20, measured_17, measured_0}
use Rattle.replay_checks.proofs.lengths.measure.Goals as goal

pub returns-then-not-lengths_right : goal.returns-then-not-lengths_right
returns-then-not-lengths_right c = record { number = measured_20 _ _ _ _ _ _ _ _ _ (sym c.lengths_right.ensures ∙ c.if-not-lengths_right.true); pin = refl }

pub returns-then-not-out_right : goal.returns-then-not-out_right
returns-then-not-out_right c = record { number = measured_17 _ _ _ _ _ _ _ _ _ (sym c.lengths_right.ensures ∙ c.if-not-lengths_right.false) (sym c.out_right.ensures ∙ c.if-not-out_right.true); pin = refl }

pub returns : goal.returns
returns c = record { number = measured_0 _ _ _ _ _ _ _ _ _ (sym c.lengths_right.ensures ∙ c.if-not-lengths_right.false) (sym c.out_right.ensures ∙ c.if-not-out_right.false); pin = refl }
