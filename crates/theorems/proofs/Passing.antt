-- What the theorems need of an input: all of it follows from passing the checks 1 to 5 and 23. Assumes nothing.
use Prim.Native.Nat.{ℕ, ◌≤◌, ◌<◌}
use mathlib.Core.Path.{◌≡◌}
use native.Mathlib.Omega.{arith}
use lib.Dec.{leb}
use lib.ListN.{length}
use borrow.Author.Tests.{leb-true}
use Rattle.rules.specs.Cells.{empty, is_height}
use Rattle.rules.specs.Graph.{pin_count}
use Rattle.rules.proofs.Lists.Members.{and_true}
use Rattle.rules.specs.Loops.{Valid}
use Rattle.rules.specs.Records.{Ends}
use Rattle.checks.specs.Passed.{Passed}
use Rattle.checks.proofs.Laws.Passed.{passed}
use Rattle.theorems.specs.Inputs.{Input, graph, groups}

module _ (I : Input) where
  all : Passed I.K I.sized I.gates I.given I.records
  all = passed I.K I.sized I.gates I.given I.records I.passes

  -- the height is at least 6
  pub tall : 6 ≤ I.K
  unfolding is_height
  tall = leb-true 6 I.K (and_true (leb 6 I.K) (leb I.K 13) all.height).0

  -- the graph has its operands inside and no loop
  pub valid : Valid (graph I)
  valid = all.valid

  -- the graph has one node for each pin
  pub counted : length (graph I) ≡ pin_count I.gates
  counted = all.pins

  -- the graph's pins are below the empty mark
  pub small : length (graph I) ≤ empty
  unfolding empty
  small = omega (arith, all.few, all.pins)

  -- every endpoint is a pin of the graph
  pub named : (q : ℕ) → Ends q (groups I) → q < length (graph I)
  named q i = omega (arith, all.named q i, all.pins)
