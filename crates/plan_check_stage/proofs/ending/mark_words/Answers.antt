use Prim.Native.Nat.{◌+◌, ◌*◌, ◌≤◌, ◌<◌}
use mathlib.Core.Path.{refl}
use native.Mathlib.Omega.{arith}
use lib.ListN.{length}
use lib.Seq.{length-take-le}
use Rattle.plan_check_stage.proofs.Laws.Ending.{held_none, held_inside, held_more, held_done}
use Rattle.plan_check_stage.proofs.ending.mark_words.Goals as goal
use Rattle.plan_check_stage.proofs.ending.mark_words.Goals.{After-wide-at}

pub loop-word-init : goal.loop-word-init
loop-word-init c = held_none _ _ _ c.requires _

-- the word is one of the stage's
inside : (c : After-wide-at) → (c.loop-word.word-index < c.args.count) × (32 * c.wide-at.result + 32 ≤ length c.args.cells.now)
inside c =
    let h : c.loop-word.word-index < c.args.count = omega (arith, length-take-le c.args.count c.args.words.now c.requires.there) in
    (h, held_inside _ _ _ c.requires _ _ _ c.loop-word.invariant h _ c.wide-at.ensures)

pub overflow_mul-at : goal.overflow_mul-at
overflow_mul-at c = let h = (inside c).1 in omega arith

pub slice_bounds-mark_cells-end : goal.slice_bounds-mark_cells-end
slice_bounds-mark_cells-end c = let h = (inside c).1 in omega arith

pub loop-word-preserved : goal.loop-word-preserved
loop-word-preserved c = held_more _ _ _ c.requires _ _ _ c.loop-word.invariant (inside (goal.at.loop-word-preserved c).After-wide-at).0 _ c.wide-at.ensures _ _ refl refl _ c.mark_cells.ensures

pub shape_of-marks : goal.shape_of-marks
shape_of-marks c = c.loop-word.invariant.len

pub returns : goal.returns
returns c = held_done _ _ _ c.requires _ _ _ c.loop-word.invariant (omega (arith, length-take-le c.args.count c.args.words.now c.requires.there))
