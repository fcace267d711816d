-- `stage_notes::note_back` meets its contract: four stores are a note. Assumes nothing.
use Rattle.stage_notes.proofs.Noting.{noted}
use Rattle.stage_notes.proofs.note_back.Goals as goal

pub returns : goal.returns
returns c = noted c.requires _ c.tail_set.ensures c.tail_set-2.ensures c.tail_set-3.ensures c.tail_set-4.ensures
