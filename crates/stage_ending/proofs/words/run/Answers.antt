-- `stage_ending::words::run` meets its contract: an empty run has no words, any other is gone through. Assumes nothing.
use mathlib.Core.Path.{sym, ◌∙◌}
use Rattle.stage_ending.proofs.Laws.Words.{run_idle}
use Rattle.stage_ending.proofs.words.run.Goals as goal

pub returns-then-count_from-eq0 : goal.returns-then-count_from-eq0
returns-then-count_from-eq0 c = record { all = λ ws R. run_idle R (sym c.count_from.ensures ∙ c.if-count_from-eq0.true) }
