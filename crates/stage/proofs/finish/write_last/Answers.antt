-- `stage::finish::write_last` meets its contract: the last stage writes what fits, any other stage nothing more. Assumes nothing.
use Rattle.stage.proofs.Laws.Lasting.{last_at, lasting_not, lasting_last}
use Rattle.stage.proofs.finish.write_last.Goals as goal

pub last_words-requires : goal.last_words-requires
last_words-requires c = last_at c.requires.at

pub returns-then-s : goal.returns-then-s
returns-then-s c = record { all = λ x A. lasting_last A c.if-s.true c.last_words.ensures }

pub returns-else-s : goal.returns-else-s
returns-else-s c = record { all = λ x A. lasting_not A c.if-s.false }
