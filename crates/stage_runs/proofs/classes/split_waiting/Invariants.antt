-- `stage_runs::classes::split_waiting` meets its contract: each needed pin goes behind those before it. Assumes nothing.
use Rattle.stage_runs.specs.Classes.{Splitting}
use Rattle.stage_runs.proofs.classes.split_waiting.Given as goal

abbrev pub invariant-loop-i : goal.invariant-loop-i
invariant-loop-i l = Splitting l.m l.n l.i l.initial.work l.work l.s.needed l.s.untouched
