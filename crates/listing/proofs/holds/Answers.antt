-- `listing::holds` meets its contract: three tests in order. Assumes nothing.
use native.Mathlib.Omega.{arith}
use mathlib.Core.Path.{◌∙◌}
use lib.ListN.{length}
use Rattle.rules.specs.Cells.{rooms}
use Rattle.listing.proofs.Laws.Answered.{at_height, hold_rooms, hold_counts, hold_words}
use Rattle.listing.proofs.holds.Goals as goal
use Rattle.listing.proofs.holds.Goals.{then-n-rooms-via-then-n-rooms, then-n-rooms-via-else-n-rooms+then-n-counts}

pub returns-then-n-rooms : goal.returns-then-n-rooms
returns-then-n-rooms c =
    let a = c.args in
    let e = at_height a.height (rooms a.height (length a.plan.now)) c.rooms.ensures c.requires in
    elim c.then-n-rooms.branch [
      | then-n-rooms-via-then-n-rooms w ↦ hold_rooms a.height a.n a.plan.now a.words.now a.counts.now (omega (arith, e, w.if-n-rooms.true))
      | then-n-rooms-via-else-n-rooms+then-n-counts w ↦ hold_counts a.height a.n a.plan.now a.words.now a.counts.now (omega (arith, e, w.if-n-rooms.false)) (omega (arith, w.if-n-counts.true))
    ]

pub returns : goal.returns
returns c = let a = c.args in c.spent_in.ensures ∙ hold_words a.height a.n a.plan.now a.words.now a.counts.now (omega (arith, at_height a.height (rooms a.height (length a.plan.now)) c.rooms.ensures c.requires, c.if-n-rooms.false)) (omega (arith, c.if-n-counts.false))
