-- `job_write::sections::put_given` meets its contract. Assumes nothing.
use mathlib.Core.Path.{◌∙◌}
use native.Mathlib.Omega.{arith}
use lib.ListN.{length}
use Rattle.rules.proofs.Job.Bits.{width}
use Rattle.job_write.proofs.Laws.Sections.{given_put}
use Rattle.job_write.proofs.sections.put_given.Goals as goal

pub put-p-requires : goal.put-p-requires
put-p-requires c = record { near = omega (arith, c.requires.near); short = omega arith }

pub put_numbers-requires : goal.put_numbers-requires
put_numbers-requires c = record { near = omega (arith, c.requires.near, c.requires.few, c.put-p.ensures.behind, width 16 (length c.args.given.now)); short = omega arith }

pub shape_of-bytes : goal.shape_of-bytes
shape_of-bytes c = c.put_numbers.ensures.len ∙ c.put-p.ensures.len

pub returns : goal.returns
returns c = given_put c.args.given.now c.requires.few c.put-p.ensures c.put_numbers.ensures
