-- `aiger_write::jobs::outputs_only` meets its contract. Assumes nothing.
use mathlib.Core.Path.{◌≡◌}
use lib.ListN.{drop}
use Rattle.aiger_write.specs.Jobs.{outputs_only}
use Rattle.aiger_write.proofs.jobs.outputs_only.Given as goal

abbrev pub invariant-loop-pair : goal.invariant-loop-pair
invariant-loop-pair l = (l.pair-iterator.size ≡ 2) × (outputs_only (drop l.from l.records) ≡ outputs_only l.pair-iterator.rest.now)
