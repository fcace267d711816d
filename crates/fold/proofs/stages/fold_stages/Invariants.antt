-- `fold::stages::fold_stages` meets its contract: the stages before `at` are folded, and what the one at `at` loads is there. Assumes nothing.
use Prim.Native.Nat.{◌-◌}
use lib.ListN.{length}
use Rattle.rules.specs.Graph.{own_bit}
use Rattle.fold.proofs.Laws.Stages.{Standing}
use Rattle.fold.proofs.stages.fold_stages.Given as goal

abbrev pub invariant-loop-at : goal.invariant-loop-at
invariant-loop-at l = Standing l.height.0 (own_bit l.own) l.plan l.initial.res l.at l.res l.looks

abbrev pub decreases-loop-at : goal.decreases-loop-at
decreases-loop-at l = length l.plan - l.at
