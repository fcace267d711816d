-- `aiger_rows::cursor::word` meets its contract. Assumes nothing.
use Rattle.aiger_rows.proofs.Laws.Quick.{worded}
use Rattle.aiger_rows.proofs.cursor.word.Goals as goal

pub returns-then-bytes-at-ne48 : goal.returns-then-bytes-at-ne48
returns-then-bytes-at-ne48 c = worded _ _ c.figures-f.ensures c.if-f-bytes.true _ c.if-bytes-f.true c.if-f-at.true c.if-bytes-at-ne48.true
