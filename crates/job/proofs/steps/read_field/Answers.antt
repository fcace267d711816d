-- `job::steps::read_field` meets its contract. Assumes nothing.
use native.Mathlib.Omega.{arith}
use Rattle.job.proofs.Laws.Steps.{one_lost, one_took}
use Rattle.job.proofs.steps.read_field.Goals as goal

pub returns-then-bytes-at : goal.returns-then-bytes-at
returns-then-bytes-at c = one_lost c.requires c.if-bytes-at.true

pub returns : goal.returns
returns c = (one_took c.requires c.if-bytes-at.false c.field.ensures c.store.ensures, omega arith)
