-- `stage_tree::empty_cell` meets its contract: nothing is counted at level 0, and level 1 is counted apart. Assumes nothing.
use native.Mathlib.Omega.{arith}
use Rattle.rules.specs.Cells.{empty}
use Rattle.stage_tree.proofs.Counts.Pins.{above_zero}
use Rattle.stage_tree.proofs.Bits.Cells.{spot_in, spot_small}
use Rattle.stage_tree.proofs.Bits.Empties.{empty_count, ones_pos, emptied_low, emptied_upper, emptied_one}
use Rattle.stage_tree.proofs.empty_cell.Goals as goal

pub offset_bounds-stage-c : goal.offset_bounds-stage-c
offset_bounds-stage-c c = let A = c.requires.at in omega (arith, spot_in A.spot, spot_small A.spot)

pub bounds-stage-c : goal.bounds-stage-c
bounds-stage-c c = spot_in c.requires.at.spot

pub returns-then-h-eq0 : goal.returns-then-h-eq0
unfolding empty
returns-then-h-eq0 c = record { all = λ C A. emptied_low A c.if-h-eq0.true }

pub uncount_pin-requires : goal.uncount_pin-requires
uncount_pin-requires c = empty_count c.requires.at (above_zero _ c.if-h-eq0.false)

pub returns-then-h-ne1 : goal.returns-then-h-ne1
unfolding empty
returns-then-h-ne1 c = record { all = λ C A. emptied_upper A (above_zero _ c.if-h-eq0.false) c.uncount_pin.ensures c.if-h-ne1.true }

pub overflow_sub-work : goal.overflow_sub-work
overflow_sub-work c = omega (arith, ones_pos c.requires.at (above_zero _ c.if-h-eq0.false) c.uncount_pin.ensures c.if-h-ne1.false)

pub returns : goal.returns
unfolding empty
returns c = record { all = λ C A. emptied_one A (above_zero _ c.if-h-eq0.false) c.uncount_pin.ensures c.if-h-ne1.false }
