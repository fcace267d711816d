-- `merge_trials::rank_all` meets its contract: no slot is open, or all are ranked. Assumes nothing.
use borrow.Author.Tests.{not-true}
use Rattle.merge_trials.proofs.Laws.Keys.{all_barred}
use Rattle.merge_trials.proofs.rank_all.Goals as goal

pub returns-then-not-any_open : goal.returns-then-not-any_open
returns-then-not-any_open c = all_barred c.requires c.any_open.ensures (not-true _ c.if-not-any_open.true-raw)
