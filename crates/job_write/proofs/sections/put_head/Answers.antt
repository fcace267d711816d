-- `job_write::sections::put_head` meets its contract. Assumes nothing.
use mathlib.Core.Path.{◌∙◌}
use Prim.Native.Nat.{◌-◌, ◌/◌}
use native.Mathlib.Omega.{arith}
use lib.ListN.{length}
use Rattle.rules.proofs.Job.Bits.{width}
use Rattle.job_write.proofs.Laws.Sections.{head_put, pins_some}
use Rattle.job_write.proofs.sections.put_head.Goals as goal

pub put-p-requires : goal.put-p-requires
put-p-requires c = record { near = omega arith; short = omega arith }

pub overflow_sub-gates : goal.overflow_sub-gates
overflow_sub-gates c = pins_some c.requires

pub put-q-requires : goal.put-q-requires
put-q-requires c = record { near = omega (arith, c.put-p.ensures.behind, width 4 c.args.height); short = omega arith }

pub put_pins-requires : goal.put_pins-requires
put_pins-requires c = record { near = omega (arith, c.requires.few, c.put-p.ensures.behind, width 4 c.args.height, c.put-q.ensures.behind, width 16 (length c.args.gates.now / 2 - 1)) }

pub shape_of-bytes : goal.shape_of-bytes
shape_of-bytes c = c.put_pins.ensures.put.len ∙ c.put-q.ensures.len ∙ c.put-p.ensures.len

pub returns : goal.returns
returns c = head_put c.args.height c.args.gates.now c.requires.few c.put-p.ensures c.put-q.ensures c.put_pins.ensures
