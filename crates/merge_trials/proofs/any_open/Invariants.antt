-- `merge_trials::any_open` meets its contract: the slots passed are barred. Assumes nothing.
use Prim.Native.Nat.{◌-◌}
use Rattle.merge_trials.proofs.Laws.Keys.{Looking}
use Rattle.merge_trials.proofs.any_open.Given as goal

abbrev pub invariant-loop-s : goal.invariant-loop-s
invariant-loop-s l = Looking l.base l.n l.from l.s l.work
