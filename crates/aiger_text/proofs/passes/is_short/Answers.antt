-- `aiger_text::passes::is_short` meets its contract. Assumes nothing.
use Rattle.aiger_text.proofs.Laws.Cut.{short_end}
use Rattle.aiger_text.proofs.passes.is_short.Goals as goal

pub returns-else-in_body : goal.returns-else-in_body
returns-else-in_body c = short_end _ _ _ c.requires _ c.in_body.ensures c.if-in_body.false
