-- `job_write::sections::put_job` meets its contract: its sections and the padding. Assumes nothing.
use mathlib.Core.Path.{◌∙◌}
use native.Mathlib.Omega.{arith}
use Rattle.job_write.proofs.Laws.Sections.{job_put, head_asks, given_asks, groups_asks}
use Rattle.job_write.proofs.sections.put_job.Goals as goal

pub put_head-p-requires : goal.put_head-p-requires
put_head-p-requires c = head_asks c.requires

pub put_given-q-requires : goal.put_given-q-requires
put_given-q-requires c = given_asks c.requires c.put_head-p.ensures.near

pub put_groups-r-requires : goal.put_groups-r-requires
put_groups-r-requires c = groups_asks c.requires (omega (arith, c.put_head-p.ensures.near, c.put_given-q.ensures.near))

pub put-requires : goal.put-requires
put-requires c = record { near = omega (arith, c.put_head-p.ensures.near, c.put_given-q.ensures.near, c.put_groups-r.ensures.near); short = omega arith }

pub shape_of-bytes : goal.shape_of-bytes
shape_of-bytes c = c.put.ensures.len ∙ c.put_groups-r.ensures.put.len ∙ c.put_given-q.ensures.put.len ∙ c.put_head-p.ensures.put.len

pub returns : goal.returns
returns c = job_put _ c.put_head-p.ensures c.put_given-q.ensures c.put_groups-r.ensures c.put.ensures
