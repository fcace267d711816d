-- `stage_needed::note` meets its contract: the pins looked at, and the marks gone. Assumes nothing.
use Rattle.stage_needed.proofs.Laws.Noting.{note_all}
use Rattle.stage_needed.proofs.note.Goals as goal

pub returns : goal.returns
returns c = record { all = λ x A. note_all A (c.survey-c.ensures.all x A) c.unmark.ensures }
