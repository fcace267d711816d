-- `job_write::write` meets its contract: judged, measured, put. Assumes nothing.
use native.Mathlib.Omega.{arith}
use Rattle.job_write.specs.Answers.{outcome, refused}
use Rattle.job_write.proofs.Laws.Answers.{refuses_job, refuses_long, refuses_room, writes}
use Rattle.job_write.proofs.write.Goals as goal

pub returns-in_default : goal.returns-in_default
unfolding outcome refused
returns-in_default c = refuses_job c.in_default.ensures _

pub measure-bits-requires : goal.measure-bits-requires
measure-bits-requires c = c.in-Some.ensures

pub returns-then-bits-gt65536 : goal.returns-then-bits-gt65536
unfolding outcome refused
returns-then-bits-gt65536 c = refuses_long c.in-Some.ensures c.measure-bits.ensures c.if-bits-gt65536.true

pub returns-then-bytes-length : goal.returns-then-bytes-length
unfolding outcome refused
returns-then-bytes-length c = refuses_room c.in-Some.ensures c.measure-bits.ensures c.if-bits-gt65536.false c.if-bytes-length.true

pub put_job-requires : goal.put_job-requires
put_job-requires c = c.in-Some.ensures

pub returns : goal.returns
unfolding outcome refused
returns c = writes c.in-Some.ensures c.measure-bits.ensures c.if-bits-gt65536.false c.if-bytes-length.false c.put_job.ensures (record { at = λ i. omega (arith, c.slice_known-2-1.given i) }) (record { at = λ i. omega (arith, c.slice_known-3-1.given i) })
