-- `job_write::sections::put_record` meets its contract: the kind, and its numbers. Assumes nothing.
use mathlib.Core.Path.{◌∙◌}
use native.Mathlib.Omega.{arith}
use Rattle.rules.proofs.Job.Bits.{width}
use Rattle.bits.proofs.Laws.Putting.{put_then}
use Rattle.job_write.proofs.sections.put_record.Goals as goal

pub put-p-requires : goal.put-p-requires
put-p-requires c = record { near = omega (arith, c.requires.near); short = omega arith }

pub put_numbers-requires : goal.put_numbers-requires
put_numbers-requires c = rw c.number_width.ensures (record { near = omega (arith, c.requires.near, c.put-p.ensures.behind, width 3 c.args.kind); short = c.requires.short })

pub shape_of-bytes : goal.shape_of-bytes
shape_of-bytes c = c.put_numbers.ensures.len ∙ c.put-p.ensures.len

pub returns : goal.returns
returns c = put_then c.put-p.ensures (rw c.number_width.ensures at c.put_numbers.ensures)
