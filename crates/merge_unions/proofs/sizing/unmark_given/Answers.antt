use mathlib.Core.Path.{refl}
use native.Mathlib.Omega.{arith}
use Rattle.merge_unions.proofs.Laws.Sizing.{unmark_none, unmark_to, unmark_more, unmark_done}
use Rattle.merge_unions.proofs.sizing.unmark_given.Goals as goal

pub loop-p-init : goal.loop-p-init
loop-p-init c = unmark_none c.requires

pub set_field-requires : goal.set_field-requires
set_field-requires c = record { p_bound = unmark_to c.requires c.loop-p.invariant c.loop-p-test.true refl; v_bound = omega arith }

pub loop-p-preserved : goal.loop-p-preserved
loop-p-preserved c = unmark_more c.requires c.loop-p.invariant c.loop-p-test.true refl c.set_field.ensures

pub shape_of-work : goal.shape_of-work
shape_of-work c = c.loop-p.invariant.frame.len

pub returns : goal.returns
returns c = unmark_done c.requires c.loop-p.invariant c.loop-p-test.false
