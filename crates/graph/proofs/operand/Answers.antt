-- `graph::operand` meets its contract. Assumes nothing.
use mathlib.Core.Path.{sym, ap}
use native.Mathlib.Omega.{arith}
use Rattle.rules.specs.Graph.{pin_of}
use lib.ListN.{get_or-eq_default}
use Rattle.graph.proofs.operand.Goals as goal

pub returns-then-gates-at : goal.returns-then-gates-at
unfolding pin_of
returns-then-gates-at c = sym (ap pin_of (get_or-eq_default c.args.gates.now 0 (omega (arith, c.if-gates-at.true))))
