-- `listing_lines::next_stage` meets its contract: the stage's own parts of the areas. Assumes nothing.
use native.Mathlib.Omega.{arith}
use mathlib.Core.Path.{◌≡◌}
use Prim.Native.Nat.{◌+◌, ◌*◌, ◌-◌}
use Rattle.listing_lines.proofs.next_stage.Goals as goal

pub returns : goal.returns
returns c = let a = c.args in let y : a.k * a.size + a.size - a.k * a.size ≡ a.size = omega arith in let z : a.from + a.count - a.from ≡ a.count = omega arith in rw (y, z) at c.stage_lines.ensures
