-- `stage_tree::fill_cell` meets its contract: nothing is counted at level 0, and level 1 is counted apart. Assumes nothing.
use native.Mathlib.Omega.{arith}
use Rattle.stage_tree.proofs.Counts.Pins.{above_zero}
use Rattle.stage_tree.proofs.Bits.Cells.{spot_in, spot_small}
use Rattle.stage_tree.proofs.Bits.Fills.{fill_count, ones_fit, filled_low, filled_upper, filled_one}
use Rattle.stage_tree.proofs.fill_cell.Goals as goal

pub offset_bounds-stage-c : goal.offset_bounds-stage-c
offset_bounds-stage-c c = let A = c.requires.at in omega (arith, spot_in A.spot, spot_small A.spot)

pub bounds-stage-c : goal.bounds-stage-c
bounds-stage-c c = spot_in c.requires.at.spot

pub returns-then-h-eq0 : goal.returns-then-h-eq0
returns-then-h-eq0 c = record { all = λ C A. filled_low A c.if-h-eq0.true }

pub count_pin-requires : goal.count_pin-requires
count_pin-requires c = fill_count c.requires.at

pub returns-then-h-ne1 : goal.returns-then-h-ne1
returns-then-h-ne1 c = record { all = λ C A. filled_upper A (above_zero _ c.if-h-eq0.false) c.count_pin.ensures c.if-h-ne1.true }

pub overflow_add-work : goal.overflow_add-work
overflow_add-work c = omega (arith, ones_fit c.requires.at (above_zero _ c.if-h-eq0.false) c.count_pin.ensures)

pub returns : goal.returns
returns c = record { all = λ C A. filled_one A (above_zero _ c.if-h-eq0.false) c.count_pin.ensures c.if-h-ne1.false }
