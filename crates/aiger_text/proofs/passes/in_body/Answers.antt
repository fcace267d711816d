-- `aiger_text::passes::in_body` meets its contract. Assumes nothing.
use Rattle.aiger_text.proofs.Laws.Cut.{body_behind, body_inside}
use Rattle.aiger_text.proofs.passes.in_body.Goals as goal

pub returns-in-Symbols : goal.returns-in-Symbols
returns-in-Symbols c = body_behind _ _ c.in-Symbols.ensures

pub returns-in_default : goal.returns-in_default
returns-in_default c = body_inside _ _ _ c.section_of.ensures c.in_default.not-Symbols
