-- `sheet_read::steps::read_word` meets its contract. Assumes nothing.
use native.Mathlib.Omega.{arith}
use Rattle.sheet_read.proofs.Laws.Steps.{word_lost, word_great, word_took}
use Rattle.sheet_read.proofs.steps.read_word.Goals as goal

pub returns-then-bytes-at-lt8 : goal.returns-then-bytes-at-lt8
returns-then-bytes-at-lt8 c = word_lost c.requires c.if-bytes-at-lt8.true

pub returns-then-word_limit-wide : goal.returns-then-word_limit-wide
returns-then-word_limit-wide c = word_great c.requires c.if-bytes-at-lt8.false c.field-word.ensures c.word_limit.ensures c.wide.ensures c.if-word_limit-wide.true

pub returns : goal.returns
returns c = (word_took c.requires c.if-bytes-at-lt8.false c.field-word.ensures c.word_limit.ensures c.wide.ensures c.if-word_limit-wide.false c.store.ensures, omega arith)
