-- `aiger_rows::rows::stops_at` meets its contract. Assumes nothing.
use mathlib.Core.Path.{◌∙◌}
use Rattle.aiger_rows.proofs.Laws.Rows.{at_symbol, no_stop}
use Rattle.aiger_rows.proofs.rows.stops_at.Goals as goal

pub returns-in-Symbols : goal.returns-in-Symbols
returns-in-Symbols c = λ m. let s = c.in-Symbols.ensures m in c.is_comment.ensures ∙ (at_symbol _ _ _ s.0 s.1 s.2 s.3).1

pub returns-in_default : goal.returns-in_default
returns-in_default c = λ m. no_stop _ _ _ _ (c.section_among.ensures m) c.in_default.not-Symbols
