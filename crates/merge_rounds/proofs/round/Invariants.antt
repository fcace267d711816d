-- `merge_rounds::round` meets its contract: the best open slot is tried until a union is accepted. Assumes nothing.
use Prim.Native.Nat.{◌-◌}
use Rattle.rules.specs.Traversal.{needed_runs}
use Rattle.merge_rounds.proofs.Laws.Round.{Trying}
use Rattle.merge_rounds.proofs.round.Given as goal

abbrev pub invariant-loop : goal.invariant-loop
invariant-loop l =
    Trying needed_runs l.height.0 l.m l.table l.base l.i l.cap l.ranks l.trials l.gates l.given l.records l.initial.indices l.initial.lengths l.initial.plan l.initial.words l.initial.counts l.initial.work l.indices l.lengths l.plan l.words l.counts l.work l.t (l.ranks - l.counter)
