-- `stage_ending::words::is_end` meets its contract: three tests. Assumes nothing.
use mathlib.Core.Path.{sym, ◌∙◌}
use Rattle.stage_ending.proofs.Laws.Words.{end_real, end_needed, end_rest}
use Rattle.stage_ending.proofs.words.is_end.Goals as goal

pub returns-then-is_in : goal.returns-then-is_in
returns-then-is_in c = end_real _ _ _ (sym c.is_in.ensures ∙ c.if-is_in.true)

pub returns-then-is_in-2 : goal.returns-then-is_in-2
returns-then-is_in-2 c = end_needed _ _ _ (sym c.is_in.ensures ∙ c.if-is_in.false) (sym c.is_in-2.ensures ∙ c.if-is_in-2.true)

pub returns : goal.returns
returns c = end_rest _ _ _ (sym c.is_in.ensures ∙ c.if-is_in.false) (sym c.is_in-2.ensures ∙ c.if-is_in-2.false) _ c.is_in-3.ensures
