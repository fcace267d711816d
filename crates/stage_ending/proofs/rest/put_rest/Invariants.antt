-- `stage_ending::rest::put_rest` meets its contract: each search starts where the last one ended. Assumes nothing.
use Rattle.rules.specs.Inside.Some.{Every}
use Rattle.stage_ending.specs.Rest.{RestAt, Resting}
use Rattle.stage_ending.proofs.rest.put_rest.Given as goal

abbrev pub invariant-loop-i : goal.invariant-loop-i
invariant-loop-i l = Every (λ C. RestAt C l.m l.half l.n l.gates l.initial.stage l.initial.work) (λ C. Resting C l.m l.half l.n l.i l.from l.gates l.initial.stage l.initial.work l.stage l.work)
