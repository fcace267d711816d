-- `merge_rounds::merge_into` meets its contract: round after round, until none is taken. Assumes nothing.
use Prim.Native.Nat.{◌-◌}
use Rattle.rules.specs.Traversal.{needed_runs}
use Rattle.merge_rounds.proofs.Laws.Into.{Rounding, Sizes}
use Rattle.merge_rounds.proofs.merge_into.Given as goal

abbrev pub invariant-loop : goal.invariant-loop
invariant-loop l =
    Rounding needed_runs l.height.0 l.m l.table l.base l.i l.cap l.ranks l.fuel l.trials l.t (l.fuel - l.counter) l.gates l.given l.records l.initial.indices l.initial.lengths l.initial.plan l.initial.work l.indices l.lengths l.plan l.words l.counts l.work × Sizes l.initial.indices l.initial.lengths l.initial.plan l.initial.words l.initial.counts l.initial.work l.indices l.lengths l.plan l.words l.counts l.work
