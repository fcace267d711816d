use native.Mathlib.Omega.{arith}
use Rattle.job_write.proofs.Laws.Sections.{pins_none, pins_more, pins_done}
use Rattle.job_write.proofs.sections.put_pins.Goals as goal

pub loop-i-init : goal.loop-i-init
loop-i-init c = pins_none

pub put_pin-at-requires : goal.put_pin-at-requires
put_pin-at-requires c = omega (arith, c.requires.near, c.loop-i.invariant.near, c.loop-i-test.true)

pub loop-i-preserved : goal.loop-i-preserved
loop-i-preserved c = pins_more c.loop-i.invariant c.loop-i-test.true c.put_pin-at.ensures

pub shape_of-bytes : goal.shape_of-bytes
shape_of-bytes c = c.loop-i.invariant.rest.len

pub returns : goal.returns
returns c = pins_done c.loop-i.invariant c.loop-i-test.false
