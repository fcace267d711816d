-- `replay_run::lines::run_lines` meets its contract: the lines from the counter on are left to run. Assumes nothing.
use Prim.Native.Nat.{◌-◌}
use Rattle.replay_run.proofs.Laws.Lines.{Clocked}
use Rattle.replay_run.proofs.lines.run_lines.Given as goal

abbrev pub invariant-loop : goal.invariant-loop
invariant-loop l = Clocked l.tape l.places l.flips l.driven l.leaves l.recording l.initial.bits l.initial.state l.initial.out l.pins l.entries l.lines (l.lines - l.counter) l.from l.to l.bits l.state l.out
