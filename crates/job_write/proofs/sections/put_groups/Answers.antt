-- `job_write::sections::put_groups` meets its contract. Assumes nothing.
use mathlib.Core.Path.{◌∙◌}
use native.Mathlib.Omega.{arith}
use Rattle.rules.proofs.Job.Bits.{width}
use Rattle.job_write.proofs.Laws.Sections.{groups_few, groups_put}
use Rattle.job_write.proofs.sections.put_groups.Goals as goal

pub overflow_cast-groups : goal.overflow_cast-groups
overflow_cast-groups c = omega (arith, groups_few c.requires)

pub put-p-requires : goal.put-p-requires
put-p-requires c = record { near = omega (arith, c.requires.near); short = omega arith }

pub put_records-requires : goal.put_records-requires
put_records-requires c = record { near = omega (arith, c.requires.near, c.requires.few, c.put-p.ensures.behind, width 16 c.args.groups); readable = c.requires.readable }

pub shape_of-bytes : goal.shape_of-bytes
shape_of-bytes c = c.put_records.ensures.put.len ∙ c.put-p.ensures.len

pub returns : goal.returns
returns c = groups_put c.args.records.now c.args.groups c.requires.few c.requires.count c.put-p.ensures c.put_records.ensures
