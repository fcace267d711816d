-- `stage_ending::close::retire_all` meets its contract: along the order. Assumes nothing.
use Prim.Native.Nat.{◌≤◌}
use Rattle.columns.specs.Fields as fields
use Rattle.columns.specs.Lists.{list}
use lib.ListN.{take}
use Rattle.stage_ending.specs.Close.{Swept}
use Rattle.stage_ending.proofs.close.retire_all.Given as goal

abbrev pub invariant-loop-i : goal.invariant-loop-i
invariant-loop-i l = Swept l.m (take l.i (list fields.ORDER l.m l.k l.initial.work)) l.initial.work l.work × (l.i ≤ l.k)
