-- `cells::is_height` meets its contract. Assumes nothing.
use Prim.Native.Nat.{◌<◌}
use mathlib.Core.Path.{sym, ◌∙◌}
use borrow.Author.Tests.{lt-leb}
use native.Mathlib.Omega.{arith}
use Rattle.cells.proofs.Heights.{not_low, not_above}
use Rattle.cells.proofs.is_height.Goals as goal

pub returns-then-k-ge-LEAST : goal.returns-then-k-ge-LEAST
returns-then-k-ge-LEAST c = sym (not_above _ c.if-k-ge-LEAST.true)

pub returns-else-k-ge-LEAST : goal.returns-else-k-ge-LEAST
returns-else-k-ge-LEAST c = let low : c.args.k < 6 = omega (arith, c.if-k-ge-LEAST.false) in lt-leb 6 _ low ∙ sym (not_low _ low)
