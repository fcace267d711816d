-- `stage_runs::puts::put_run` meets its contract: cell after cell. Assumes nothing.
use Prim.Native.Nat.{◌≤◌}
use Rattle.rules.specs.Ending.{put_cells}
use Rattle.rules.specs.Inside.Some.{Every}
use Rattle.stage_runs.specs.Puts.{RunAt, Put}
use Rattle.stage_runs.proofs.puts.put_run.Given as goal

abbrev pub invariant-loop-i : goal.invariant-loop-i
invariant-loop-i l = (l.i ≤ 32) × Every (λ C. RunAt C l.m l.half l.k l.a l.initial.t l.gates l.initial.stage l.initial.work)
    (λ C. Put C l.m l.k (put_cells C.X l.i l.a) l.gates l.initial.t l.initial.stage l.initial.work l.t l.stage l.work)
