-- `stage_runs::puts::goes_on` meets its contract. Assumes nothing.
use mathlib.Core.Path.{◌≡◌, refl, ◌∙◌}
use native.Mathlib.Omega.{arith}
use Rattle.stage_runs.proofs.Laws.Written.{goes_none, goes_some}
use Rattle.stage_runs.proofs.puts.goes_on.Goals as goal

pub returns-else-left-ne0 : goal.returns-else-left-ne0
returns-else-left-ne0 c = let z : c.args.left ≡ 0 = omega (arith, c.if-left-ne0.false) in rw z (goes_none c.args.last c.args.filled 0 refl)

pub returns-then-left-ne0 : goal.returns-then-left-ne0
returns-then-left-ne0 c = c.enough.ensures ∙ goes_some _ _ _ c.if-left-ne0.true
