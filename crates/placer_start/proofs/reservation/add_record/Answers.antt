-- `placer_start::reservation::add_record` meets its contract: a memory or an activation more. Assumes nothing.
use native.Mathlib.Omega.{arith}
use Rattle.placer_start.proofs.Laws.Counts.{count_code, counted_memory, counted_code}
use Rattle.placer_start.proofs.reservation.add_record.Goals as goal

pub add_code-requires : goal.add_code-requires
add_code-requires c = record { it = _; at = count_code c.requires.at c.adds.ensures c.in-Code.is }

pub overflow_add-result-in-Code : goal.overflow_add-result-in-Code
overflow_add-result-in-Code c = let A = c.requires.at in omega (arith, A.few, A.small, (c.add_code.ensures.all _ (count_code A c.adds.ensures c.in-Code.is)).few)

pub returns-in-Memory : goal.returns-in-Memory
returns-in-Memory c = record { all = λ xs A. counted_memory A c.adds.ensures c.in-Memory.is }

pub returns-in-Code : goal.returns-in-Code
returns-in-Code c = record { all = λ xs A. counted_code A c.adds.ensures c.in-Code.is (c.add_code.ensures.all _ (count_code A c.adds.ensures c.in-Code.is)) }
