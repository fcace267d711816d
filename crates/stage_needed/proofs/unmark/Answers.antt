use native.Mathlib.Omega.{arith}
use Rattle.stage_needed.proofs.Laws.Collecting.{unmark_pin, unmarked_more}
use Rattle.stage_needed.proofs.unmark.Goals as goal

pub set_field-requires : goal.set_field-requires
set_field-requires c = let s = c.requires in omega (arith, unmark_pin s c.loop-i.invariant.0 c.loop-i-test.true _ c.pin_at-p.ensures, s.area.room, c.loop-i.invariant.0.frame.len)

pub loop-i-preserved : goal.loop-i-preserved
loop-i-preserved c = (unmarked_more c.requires c.loop-i.invariant.0 c.loop-i-test.true _ c.pin_at-p.ensures _ c.set_field.ensures, omega arith)
