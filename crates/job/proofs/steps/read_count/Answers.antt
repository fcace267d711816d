-- `job::steps::read_count` meets its contract. Assumes nothing.
use native.Mathlib.Omega.{arith}
use Rattle.job.proofs.Laws.Steps.{count_lost, count_is}
use Rattle.job.proofs.steps.read_count.Goals as goal

pub returns-then-bytes-at-lt16 : goal.returns-then-bytes-at-lt16
returns-then-bytes-at-lt16 c = count_lost c.if-bytes-at-lt16.true

pub returns : goal.returns
returns c = (count_is c.requires.inside c.if-bytes-at-lt16.false c.field.ensures c.wide.ensures, omega arith)
