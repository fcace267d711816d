-- `merge_rounds::merge_slots` meets its contract: slot after slot is merged. Assumes nothing.
use Rattle.rules.specs.Traversal.{needed_runs}
use Prim.Native.Nat.{◌-◌}
use Rattle.merge_rounds.proofs.Laws.Into.{Sizes}
use Rattle.merge_rounds.proofs.Laws.Slots.{Slotting}
use Rattle.merge_rounds.proofs.merge_slots.Given as goal

abbrev pub invariant-loop-i : goal.invariant-loop-i
invariant-loop-i l =
    Slotting needed_runs l.height.0 l.m l.table l.base l.cap l.ranks l.i l.fuel l.trials l.gates l.given l.records l.initial.indices l.initial.lengths l.initial.plan l.initial.work l.indices l.lengths l.plan l.words l.counts l.work × Sizes l.initial.indices l.initial.lengths l.initial.plan l.initial.words l.initial.counts l.initial.work l.indices l.lengths l.plan l.words l.counts l.work
