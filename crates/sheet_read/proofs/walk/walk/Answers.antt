-- `sheet_read::walk::walk` meets its contract. Assumes nothing.
use native.Mathlib.Omega.{arith}
use mathlib.Core.Path.{sym, ◌∙◌}
use mathlib.Core.List.{[]}
use Rattle.sheet_read.proofs.Laws.Walk.{head_lost, height_lost, stages_asks, stages_lost, walked}
use Rattle.sheet_read.proofs.walk.walk.Goals as goal

pub returns-then-bytes-lt28 : goal.returns-then-bytes-lt28
returns-then-bytes-lt28 c = head_lost c.requires _ _ c.if-bytes-lt28.true

pub returns-then-not-is_height : goal.returns-then-not-is_height
returns-then-not-is_height c = height_lost c.if-bytes-lt28.false c.field-height.ensures _ _ (sym c.is_height.ensures ∙ c.if-not-is_height.true)

pub walk_stages-requires : goal.walk_stages-requires
walk_stages-requires c = stages_asks c.if-bytes-lt28.false c.field-height.ensures 0 [] (sym c.is_height.ensures ∙ c.if-not-is_height.false) c.field.ensures c.wide-n.ensures c.requires.small

pub returns-in_err-r : goal.returns-in_err-r
returns-in_err-r c = rw c.from_residual.ensures (stages_lost c.if-bytes-lt28.false c.field-height.ensures _ _ (sym c.is_height.ensures ∙ c.if-not-is_height.false) c.field.ensures c.wide-n.ensures (omega arith) c.in_err-r.ensures)

pub returns : goal.returns
returns c = (walked c.if-bytes-lt28.false c.field-height.ensures _ _ (sym c.is_height.ensures ∙ c.if-not-is_height.false) c.field.ensures c.wide-n.ensures c.in_ok-r.ensures.0, c.in_ok-r.ensures.1)
