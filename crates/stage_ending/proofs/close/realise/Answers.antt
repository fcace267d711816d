-- `stage_ending::close::realise` meets its contract: a needed pin is passed over. Assumes nothing.
use mathlib.Core.Path.{sym, ◌∙◌}
use Rattle.stage_ending.proofs.Laws.Close.{one_not, one_more}
use Rattle.stage_ending.proofs.close.realise.Goals as goal

pub returns-then-get-ne0 : goal.returns-then-get-ne0
returns-then-get-ne0 c = one_not c.requires (λ e. c.if-get-ne0.true (c.get.ensures ∙ e))

pub returns : goal.returns
returns c = one_more c.requires (sym c.get.ensures ∙ c.if-get-ne0.false) c.enlist.ensures
