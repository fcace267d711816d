-- `replay_run::places::inversion` meets its contract. Assumes nothing.
use mathlib.Core.Path.{refl}
use native.Mathlib.Omega.{arith}
use Rattle.rules.specs.Graph.{inversion_of}
use Rattle.replay_run.proofs.Laws.Places.{inverts_none, inverts_some}
use Rattle.replay_run.proofs.places.inversion.Goals as goal

pub returns-then-kind-eq4 : goal.returns-then-kind-eq4
returns-then-kind-eq4 c = inverts_none _ _ c.if-kind-eq4.true

pub returns-else-kind-eq4 : goal.returns-else-kind-eq4
unfolding inversion_of
returns-else-kind-eq4 c = inverts_some _ _ c.if-kind-eq4.false _ refl (omega arith)
