-- `job::steps::read_pins` meets its contract: the first i are read. Assumes nothing.
use Rattle.rules.specs.Job.{read_pin}
use Rattle.job.proofs.Laws.Many.{Going}
use Rattle.job.proofs.steps.read_pins.Given as goal

abbrev pub invariant-loop : goal.invariant-loop
invariant-loop l = Going read_pin l.bytes l.n l.counter l.from l.s l.initial.area l.area l.at l.count
