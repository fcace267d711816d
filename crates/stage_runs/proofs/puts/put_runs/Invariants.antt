-- `stage_runs::puts::put_runs` meets its contract: record after record, up to the first that fails the test. Assumes nothing.
use Rattle.rules.specs.Inside.Some.{Every}
use Rattle.stage_runs.specs.Puts.{WriteAt, Writing}
use Rattle.stage_runs.proofs.puts.put_runs.Given as goal

abbrev pub invariant-loop-j : goal.invariant-loop-j
invariant-loop-j l = Every (λ C. WriteAt C l.m l.half l.k l.at l.room l.runs l.gates l.initial.stage l.initial.work l.initial.words)
    (λ C. Writing C l.m l.half l.k l.last l.at l.room l.runs l.gates l.initial.stage l.initial.work l.initial.words l.puts l.j l.stage l.work l.words)
