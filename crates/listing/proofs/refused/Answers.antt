-- `listing::refused` meets its contract: measured first, then laid. Assumes nothing.
use mathlib.Core.Path.{refl, sym}
use native.Mathlib.Omega.{arith}
use Rattle.rules.specs.Listing.{refused_line}
use Rattle.listing.proofs.Laws.Written.{written_not, written_all}
use Rattle.listing.proofs.refused.Goals as goal

pub returns-then-length-out : goal.returns-then-length-out
returns-then-length-out c = let a = c.args in sym (written_not (refused_line a.number a.stage a.pin.0) a.out.now refl c.refused_line-length.ensures (omega (arith, c.if-length-out.true)))

pub returns : goal.returns
returns c = let a = c.args in written_all (refused_line a.number a.stage a.pin.0) a.out.now refl c.refused_line-length.ensures (omega (arith, c.if-length-out.false)) c.refused_line.ensures
