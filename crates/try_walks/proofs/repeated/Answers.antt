-- `try_walks::repeated` meets its contract: it shows a graph that passes the checks, by computing. Assumes nothing.
use mathlib.Core.Path.{refl}
use native.Mathlib.Omega.{arith}
use Rattle.rules.specs.Inside.Opened.{everything}
use Rattle.try_walks.proofs.repeated.Goals as goal

pub show-requires : goal.show-requires
unfolding everything
show-requires g c = record { graph = refl; free = refl; gives = refl; waits = refl; room = omega arith }
