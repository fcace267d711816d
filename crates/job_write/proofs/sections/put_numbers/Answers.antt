use native.Mathlib.Omega.{arith}
use Rattle.job_write.proofs.Laws.Sections.{numbers_none, numbers_more, numbers_done}
use Rattle.job_write.proofs.sections.put_numbers.Goals as goal

pub loop-number-init : goal.loop-number-init
loop-number-init c = numbers_none

pub put-at-requires : goal.put-at-requires
put-at-requires c = record { near = omega (arith, c.requires.near, c.requires.short, c.loop-number.invariant.near, c.loop-number-test.true); short = c.requires.short }

pub loop-number-preserved : goal.loop-number-preserved
loop-number-preserved c = numbers_more c.loop-number.invariant c.requires.short c.loop-number-test.true c.put-at.ensures

pub shape_of-bytes : goal.shape_of-bytes
shape_of-bytes c = c.loop-number.invariant.rest.len

pub returns : goal.returns
returns c = numbers_done c.loop-number.invariant c.loop-number-test.false
