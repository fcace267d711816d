use native.Mathlib.Omega.{arith}
use Rattle.merge_unions.proofs.Laws.Sizing.{along_none, along_room, along_to, along_more, along_done}
use Rattle.merge_unions.proofs.sizing.clear_along.Goals as goal

pub loop-i-init : goal.loop-i-init
loop-i-init c = along_none c.requires

pub pin_at-p-requires : goal.pin_at-p-requires
pin_at-p-requires c = along_room c.requires c.loop-i.invariant c.loop-i-test.true

pub set_field-requires : goal.set_field-requires
set_field-requires c = record { p_bound = along_to c.requires c.loop-i.invariant c.loop-i-test.true c.pin_at-p.ensures; v_bound = omega arith }

pub loop-i-preserved : goal.loop-i-preserved
loop-i-preserved c = along_more c.requires c.loop-i.invariant c.loop-i-test.true c.pin_at-p.ensures c.set_field.ensures

pub shape_of-work : goal.shape_of-work
shape_of-work c = c.loop-i.invariant.frame.len

pub returns : goal.returns
returns c = along_done c.requires c.loop-i.invariant c.loop-i-test.false
