-- `plan_check_stage::ending::end_right` meets its contract. Assumes nothing.
use Rattle.plan_check_stage.proofs.Laws.Right.{none, some}
use Rattle.plan_check_stage.proofs.Laws.Ending.{end_filled, end_full, end_many, end_words_lem}
use Rattle.plan_check_stage.proofs.ending.end_right.Goals as goal

pub returns-then-not-is_empty : goal.returns-then-not-is_empty
returns-then-not-is_empty c = end_filled _ _ _ _ _ c.requires (some c.is_empty.ensures c.if-not-is_empty.true)

pub returns-then-not-has_free : goal.returns-then-not-has_free
returns-then-not-has_free c = end_full _ _ _ _ _ c.requires (none c.is_empty.ensures c.if-not-is_empty.false) _ c.has_free.ensures c.if-not-has_free.true

pub returns-then-room-count : goal.returns-then-room-count
returns-then-room-count c = end_many _ _ _ _ _ c.requires (none c.is_empty.ensures c.if-not-is_empty.false) _ c.has_free.ensures c.if-not-has_free.false c.if-room-count.true

pub returns : goal.returns
returns c = end_words_lem _ _ _ _ _ c.requires (none c.is_empty.ensures c.if-not-is_empty.false) _ c.has_free.ensures c.if-not-has_free.false c.if-room-count.false _ c.words_right.ensures
