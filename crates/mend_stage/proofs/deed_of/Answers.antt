-- `mend_stage::deed_of` meets its contract. Assumes nothing.
use mathlib.Core.Path.{refl}
use Rattle.mend_stage.proofs.Laws.{deed_zero, deed_past, deed_lower, deed_deeper, deed_same}
use Rattle.mend_stage.proofs.deed_of.Goals as goal
use Rattle.mend_stage.proofs.deed_of.Goals.{then-n-eq0-via-then-n-eq0, then-n-eq0-via-else-n-eq0+then-pin_count-n}

pub returns-then-n-eq0 : goal.returns-then-n-eq0
returns-then-n-eq0 c = elim c.then-n-eq0.branch [
  | then-n-eq0-via-then-n-eq0 w ↦ deed_zero _ _ _ _ _ c.requires _ c.index-n.ensures w.if-n-eq0.true
  | then-n-eq0-via-else-n-eq0+then-pin_count-n w ↦ deed_past _ _ _ _ _ c.requires _ c.index-n.ensures _ w.pin_count.ensures w.if-pin_count-n.true
]

pub returns-then-l-h : goal.returns-then-l-h
returns-then-l-h c = deed_lower _ _ _ _ _ c.requires _ c.index-n.ensures _ c.pin_count.ensures c.if-n-eq0.false c.if-pin_count-n.false _ _ c.level_of-h.ensures c.level_at-l.ensures c.if-l-h.true _ refl

pub returns-then-h-l : goal.returns-then-h-l
returns-then-h-l c = deed_deeper _ _ _ _ _ c.requires _ c.index-n.ensures _ c.pin_count.ensures c.if-n-eq0.false c.if-pin_count-n.false _ _ c.level_of-h.ensures c.level_at-l.ensures c.if-h-l.true

pub returns : goal.returns
returns c = deed_same _ _ _ _ _ c.requires _ c.index-n.ensures _ c.pin_count.ensures c.if-n-eq0.false c.if-pin_count-n.false _ _ c.level_of-h.ensures c.level_at-l.ensures c.if-l-h.false c.if-h-l.false _ c.at_level.ensures
