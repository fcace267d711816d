-- `merge_originals::build_originals` meets its contract: the slots passed are built. Assumes nothing.
use Rattle.rules.specs.Traversal.{needed_runs}
use Prim.Native.Nat.{◌-◌}
use Rattle.merge_originals.proofs.Laws.Building.{Building}
use Rattle.merge_originals.proofs.build_originals.Given as goal

abbrev pub invariant-loop-s : goal.invariant-loop-s
invariant-loop-s l =
    Building needed_runs l.height.0 l.m l.table l.base l.gates l.given l.records l.indices l.lengths l.initial.plan l.initial.words l.initial.counts l.initial.work l.plan l.words l.counts l.work l.most l.at l.s
