-- `placer_start::reservation::over` meets its contract: either limit is passed, or none. Assumes nothing.
use mathlib.Core.Path.{refl}
use borrow.Author.Tests.{le-leb}
use Rattle.placer_start.proofs.Laws.Counts.{judged_words, judged_rest}
use Rattle.placer_start.proofs.reservation.over.Goals as goal

pub returns-then-limit-set_aside : goal.returns-then-limit-set_aside
returns-then-limit-set_aside c = rw (le-leb c.args.limit c.set_aside.result c.if-limit-set_aside.true) (judged_words c.set_aside.ensures c.if-limit-set_aside.true)

pub returns-else-limit-set_aside : goal.returns-else-limit-set_aside
returns-else-limit-set_aside c = judged_rest c.set_aside.ensures c.if-limit-set_aside.false _ refl
