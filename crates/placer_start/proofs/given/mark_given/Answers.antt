use mathlib.Core.Path.{refl}
use native.Mathlib.Omega.{arith}
use Rattle.placer_start.proofs.Laws.Given.{marking_none, given_pin, marking_more}
use Rattle.placer_start.proofs.given.mark_given.Goals as goal

pub loop-p-init : goal.loop-p-init
loop-p-init c = marking_none c.requires

pub set_field-requires : goal.set_field-requires
set_field-requires c = record { p_bound = (given_pin c.requires c.loop-p.invariant _ c.loop-p-test.true refl).1; v_bound = omega arith }

pub loop-p-preserved : goal.loop-p-preserved
loop-p-preserved c = marking_more c.requires c.loop-p.invariant _ c.loop-p-test.true refl c.set_field.ensures
