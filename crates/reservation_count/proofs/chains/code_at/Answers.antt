-- `reservation_count::chains::code_at` meets its contract. Assumes nothing.
use Rattle.reservation_count.proofs.Laws.Chains.{code_none, code_there}
use Rattle.reservation_count.proofs.chains.code_at.Goals as goal

pub returns-in-Memory : goal.returns-in-Memory
returns-in-Memory c = code_none _ _ c.adds.ensures c.in-Memory.is

pub returns-in-Code : goal.returns-in-Code
returns-in-Code c = code_there _ _ c.adds.ensures c.in-Code.is
