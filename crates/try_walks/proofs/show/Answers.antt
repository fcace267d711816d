-- `try_walks::show` meets its contract: it hands each walk what the one before left. Assumes nothing.
use mathlib.Core.Path.{refl}
use mathlib.Core.List.{[]}
use native.Mathlib.Omega.{arith}
use Rattle.rules.specs.Graph.{pin_count}
use Rattle.try_walks.proofs.Starts.{needed_at}
use Rattle.try_walks.proofs.show.Goals as goal

pub start-n-requires : goal.start-n-requires
unfolding pin_count
start-n-requires g c = record { show = c.requires; pins = refl }

pub prepare-walk-requires : goal.prepare-walk-requires
prepare-walk-requires g c = let s = c.start-n.ensures in record { it = s.it; at = s.at.prepare }

pub needed-c-requires : goal.needed-c-requires
needed-c-requires g c = let s = c.start-n.ensures in record { it = record { C = s.it; pl = [] }; at = needed_at s.at (c.prepare-walk.ensures.all s.it s.at.prepare) }

pub print-requires : goal.print-requires
print-requires g c = let s = c.start-n.ensures in let P = c.prepare-walk.ensures.all s.it s.at.prepare in let N = c.needed-c.ensures.all (record { C = s.it; pl = [] }) (needed_at s.at P) in record { room = omega (arith, P.set.begun.base.area.room, N.frame.len); listed = P.set.ordered.order.few; lists = P.few; needed = N.list.few }
