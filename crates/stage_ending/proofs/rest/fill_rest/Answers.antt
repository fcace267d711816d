-- `stage_ending::rest::fill_rest` meets its contract: one more search tells whether a cell stays empty. Assumes nothing.
use native.Mathlib.Omega.{arith}
use Rattle.stage_ending.proofs.Laws.Filled.{half_few, filled_full, filled_search, filled_test}
use Rattle.stage_ending.proofs.rest.fill_rest.Goals as goal

pub overflow_mul-half : goal.overflow_mul-half
overflow_mul-half c = omega (arith, half_few c.requires.at)

pub first_empty-requires : goal.first_empty-requires
first_empty-requires c = filled_search c.requires.at (c.put_rest.ensures.all _ c.requires.at)

pub overflow_mul-result : goal.overflow_mul-result
overflow_mul-result c = omega (arith, half_few c.requires.at)

pub returns-then-put_rest : goal.returns-then-put_rest
returns-then-put_rest c = record { all = λ C A. filled_test A (c.put_rest.ensures.all C A) c.if-put_rest.true c.first_empty.ensures }

pub returns-else-put_rest : goal.returns-else-put_rest
returns-else-put_rest c = record { all = λ C A. rw c.if-put_rest.false (filled_full A (c.put_rest.ensures.all C A) c.if-put_rest.false) }
