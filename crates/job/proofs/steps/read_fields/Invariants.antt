-- `job::steps::read_fields` meets its contract: the first i are read. Assumes nothing.
use Rattle.job.specs.Steps.{one_field}
use Rattle.job.proofs.Laws.Many.{Going}
use Rattle.job.proofs.steps.read_fields.Given as goal

abbrev pub invariant-loop : goal.invariant-loop
invariant-loop l = Going (one_field l.w) l.bytes l.n l.counter l.from l.s l.initial.area l.area l.at l.count
