-- `stage_ending::rest::put_pin` meets its contract: a pin that is realised or in the tree needs no cell. Assumes nothing.
use native.Mathlib.Omega.{arith}
use Rattle.stage_ending.proofs.Laws.Rest.{half_few, skip_real, skip_tree, pin_search, pin_full, pin_place, pin_placed}
use Rattle.stage_ending.proofs.rest.put_pin.Goals as goal

pub returns-then-is_in : goal.returns-then-is_in
returns-then-is_in c = record { all = λ C A. skip_real A c.is_in.ensures c.if-is_in.true }

pub returns-then-is_in-2 : goal.returns-then-is_in-2
returns-then-is_in-2 c = record { all = λ C A. skip_tree A c.is_in.ensures c.is_in-2.ensures c.if-is_in-2.true }

pub overflow_mul-half : goal.overflow_mul-half
overflow_mul-half c = omega (arith, half_few c.requires.at)

pub first_empty-c-requires : goal.first_empty-c-requires
first_empty-c-requires c = pin_search c.requires.at c.is_in.ensures c.is_in-2.ensures

pub overflow_mul-half-2 : goal.overflow_mul-half-2
overflow_mul-half-2 c = omega (arith, half_few c.requires.at)

pub returns-then-half-c : goal.returns-then-half-c
returns-then-half-c c = record { all = λ C A. pin_full A c.is_in.ensures c.is_in-2.ensures c.if-is_in.false c.if-is_in-2.false c.first_empty-c.ensures c.if-half-c.true }

pub place_pin-requires : goal.place_pin-requires
place_pin-requires c = record { it = _; at = pin_place c.requires.at c.is_in.ensures c.is_in-2.ensures c.if-is_in.false c.if-is_in-2.false c.first_empty-c.ensures c.if-half-c.false }

pub overflow_add-result-2 : goal.overflow_add-result-2
overflow_add-result-2 c = omega (arith, half_few c.requires.at, c.first_empty-c.ensures.to)

pub returns : goal.returns
returns c = record {
  all = λ C A. pin_placed A c.is_in.ensures c.is_in-2.ensures c.if-is_in.false c.if-is_in-2.false c.first_empty-c.ensures c.if-half-c.false
      (c.place_pin.ensures.all C (pin_place A c.is_in.ensures c.is_in-2.ensures c.if-is_in.false c.if-is_in-2.false c.first_empty-c.ensures c.if-half-c.false));
}
