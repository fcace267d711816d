-- `sheet_read::areas::pad` meets its contract. Assumes nothing.
use Rattle.sheet_read.proofs.Laws.Areas.{pad_none, pad_part}
use Rattle.sheet_read.proofs.areas.pad.Goals as goal

pub returns-then-room-used : goal.returns-then-room-used
returns-then-room-used c = pad_none c.if-room-used.true

pub shape_of-area : goal.shape_of-area
shape_of-area c = (pad_part c.if-room-used.false c.requires.inside (c.fill.ensures.after (λ y e. e))).len

pub returns : goal.returns
returns c = pad_part c.if-room-used.false c.requires.inside (c.fill.ensures.after (λ y e. e))
