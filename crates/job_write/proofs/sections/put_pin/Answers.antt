-- `job_write::sections::put_pin` meets its contract. Assumes nothing.
use mathlib.Core.Path.{◌∙◌}
use native.Mathlib.Omega.{arith}
use Rattle.rules.proofs.Job.Bits.{width}
use Rattle.job_write.proofs.Laws.Sections.{pin_leaf, pin_gate}
use Rattle.job_write.proofs.sections.put_pin.Goals as goal

pub put-requires : goal.put-requires
put-requires c = record { near = omega (arith, c.requires); short = omega arith }

pub shape_of-bytes-then-is_leaf : goal.shape_of-bytes-then-is_leaf
shape_of-bytes-then-is_leaf c = c.put.ensures.len

pub returns-then-is_leaf : goal.returns-then-is_leaf
returns-then-is_leaf c = pin_leaf c.args.a c.args.b c.is_leaf.ensures c.if-is_leaf.true c.put.ensures

pub put-p-requires : goal.put-p-requires
put-p-requires c = record { near = omega (arith, c.requires); short = omega arith }

pub put-q-requires : goal.put-q-requires
put-q-requires c = record { near = omega (arith, c.requires, c.put-p.ensures.behind, width 1 1); short = omega arith }

pub put-requires-2 : goal.put-requires-2
put-requires-2 c = record { near = omega (arith, c.requires, c.put-p.ensures.behind, width 1 1, c.put-q.ensures.behind, width 17 c.args.a); short = omega arith }

pub shape_of-bytes : goal.shape_of-bytes
shape_of-bytes c = c.put-2.ensures.len ∙ c.put-q.ensures.len ∙ c.put-p.ensures.len

pub returns : goal.returns
returns c = pin_gate c.args.a c.args.b c.is_leaf.ensures c.if-is_leaf.false c.put-p.ensures c.put-q.ensures c.put-2.ensures
