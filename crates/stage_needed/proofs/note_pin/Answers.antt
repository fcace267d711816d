-- `stage_needed::note_pin` meets its contract: a pin that lacks something asks, and is noted. Assumes nothing.
use mathlib.Core.Path.{sym, ◌∙◌}
use Rattle.stage_needed.proofs.Laws.Noting.{note_lack, note_more, note_none}
use Rattle.stage_needed.proofs.note_pin.Goals as goal

pub lacking-requires : goal.lacking-requires
lacking-requires c = let s = c.requires in record { it = s.it.C; at = note_lack s.at }

pub returns-then-lacking : goal.returns-then-lacking
returns-then-lacking c = record { all = λ x A. rw c.push.ensures (note_more A (sym c.if-lacking.true ∙ c.lacking.ensures.all x.C (note_lack A)) (c.need-needed.ensures.all x A.need)) }

pub returns : goal.returns
returns c = record { all = λ x A. note_none A (sym c.if-lacking.false ∙ c.lacking.ensures.all x.C (note_lack A)) }
