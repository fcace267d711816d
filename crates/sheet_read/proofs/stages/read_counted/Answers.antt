-- `sheet_read::stages::read_counted` meets its contract. Assumes nothing.
use mathlib.Core.List.{[]}
use Rattle.sheet_read.proofs.Laws.Stages.{count_lost, words_asks, counted_as}
use Rattle.sheet_read.proofs.stages.read_counted.Goals as goal

pub returns-then-bytes-at-lt16 : goal.returns-then-bytes-at-lt16
returns-then-bytes-at-lt16 c = count_lost c.requires _ _ _ c.if-bytes-at-lt16.true

pub read_words-requires : goal.read_words-requires
read_words-requires c = words_asks c.requires 0 [] [] c.if-bytes-at-lt16.false c.field-n.ensures c.wide.ensures

pub returns : goal.returns
returns c = counted_as c.requires _ _ _ c.if-bytes-at-lt16.false c.field-n.ensures c.wide.ensures c.store.ensures _ _ c.read_words.ensures
