use native.Mathlib.Omega.{arith}
use mathlib.Core.Path.{refl}
use Rattle.fold_stage.proofs.Laws.Loads.{pin_read}
use Rattle.replay_run.proofs.Laws.Slots.{word_none, word_more, word_done}
use Rattle.replay_run.proofs.slots.read_word.Goals as goal

pub loop-p-init : goal.loop-p-init
loop-p-init c = word_none _ _ _ _ _ c.min-p.ensures

pub offset_bounds-cells-p : goal.offset_bounds-cells-p
offset_bounds-cells-p c = omega (arith, c.loop-p.invariant.inside)

pub bounds-cells-p : goal.bounds-cells-p
bounds-cells-p c = omega (arith, c.loop-p.invariant.inside)

pub offset_bounds-slots-p : goal.offset_bounds-slots-p
offset_bounds-slots-p c = omega (arith, c.loop-p.invariant.inside, c.requires)

pub bounds-slots-p : goal.bounds-slots-p
bounds-slots-p c = omega (arith, c.loop-p.invariant.inside, c.requires)

pub loop-p-smaller : goal.loop-p-smaller
loop-p-smaller c = omega arith

pub loop-p-preserved : goal.loop-p-preserved
loop-p-preserved c = rw c.put_inside.ensures (word_more _ _ _ _ _ _ c.loop-p.invariant c.loop-p-test.true _ _ (pin_read _ _ _ _ (omega (arith, c.loop-p.invariant.inside, c.loop-p-test.true)) c.index.ensures c.pin.ensures) refl)

pub shape_of-reads : goal.shape_of-reads
shape_of-reads c = omega (arith, c.loop-p.invariant.slotted.len)

pub returns : goal.returns
returns c = word_done _ _ _ _ _ (omega (arith, c.wide-at.ensures)) _ _ c.loop-p.invariant c.loop-p-test.false
