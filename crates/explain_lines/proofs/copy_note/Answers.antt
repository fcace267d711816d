-- `explain_lines::copy_note` meets its contract: a note becomes a line and is cleared. Assumes nothing.
use mathlib.Core.Path.{refl}
use Rattle.explain_lines.specs.Lines.{six}
use Rattle.explain_lines.proofs.Copies.{copied_none, copied_some}
use Rattle.explain_lines.proofs.copy_note.Goals as goal

pub returns-then-pins-eq0 : goal.returns-then-pins-eq0
returns-then-pins-eq0 c = copied_none c.requires _ _ c.if-pins-eq0.true

pub returns : goal.returns
unfolding six
returns c = copied_some c.requires _ _ _ _ _ refl refl refl refl c.if-pins-eq0.false c.tail_set.ensures c.put_line.ensures
