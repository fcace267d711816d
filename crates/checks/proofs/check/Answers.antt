-- `checks::check` meets its contract. Assumes nothing.
use Rattle.rules.specs.Checks.{work_size}
use Rattle.rules.specs.Graph.{pin_count}
use Rattle.checks.proofs.Laws.Refusing.{height_first, says_same}
use Rattle.checks.proofs.check.Goals as goal

pub returns : goal.returns
unfolding work_size pin_count
returns c = says_same c.refusal.ensures (height_first _ _ _ _ _ _ c.areas_sized-sized.ensures)
