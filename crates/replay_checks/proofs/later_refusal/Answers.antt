-- `replay_checks::later_refusal` meets its contract. Assumes nothing.
use mathlib.Core.Path.{refl}
use native.Mathlib.Omega.{arith}
use Rattle.replay_checks.proofs.Laws.Answers.{later_given, later_memory, later_rest}
use Rattle.replay_checks.proofs.later_refusal.Goals as goal

pub returns-then-given-gt0 : goal.returns-then-given-gt0
returns-then-given-gt0 c = record { number = later_given _ _ _ _ _ _ _ _ _ c.if-given-gt0.true; pin = refl }

pub returns-then-counts-gt0 : goal.returns-then-counts-gt0
returns-then-counts-gt0 c = record { number = later_memory _ _ _ _ _ _ _ _ _ (omega (arith, c.if-given-gt0.false)) _ c.count-counts.ensures c.if-counts-gt0.true; pin = refl }

pub returns : goal.returns
returns c = record { number = later_rest _ _ _ _ _ _ _ _ _ (omega (arith, c.if-given-gt0.false)) _ c.count-counts.ensures (omega (arith, c.if-counts-gt0.false)) _ c.driven_refusal.ensures.number; pin = c.driven_refusal.ensures.pin }
