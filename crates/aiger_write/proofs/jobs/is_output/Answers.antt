-- `aiger_write::jobs::is_output` meets its contract: an output has two numbers and kind 1. Assumes nothing.
use native.Mathlib.Omega.{arith}
use lib.ListN.{length}
use borrow.Author.Tests.{lt-ltb, le-ltb}
use Rattle.aiger_write.specs.Jobs.{output_at}
use Rattle.aiger_write.proofs.jobs.is_output.Goals as goal

pub returns-then-pair-ge2 : goal.returns-then-pair-ge2
unfolding output_at
returns-then-pair-ge2 c = rw (lt-ltb 1 (length c.args.pair.now) c.if-pair-ge2.true)

pub returns-else-pair-ge2 : goal.returns-else-pair-ge2
unfolding output_at
returns-else-pair-ge2 c = rw (le-ltb 1 (length c.args.pair.now) (omega (arith, c.if-pair-ge2.false)))
