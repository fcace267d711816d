-- `job_write::sections::measure` meets its contract: no bytes hold nothing. Assumes nothing.
use Rattle.job_write.proofs.Laws.Sections.{measured}
use Rattle.job_write.proofs.sections.measure.Goals as goal

pub put_job-requires : goal.put_job-requires
put_job-requires c = c.requires

pub returns : goal.returns
returns c = measured c.args.bytes.now c.put_job.ensures
