-- `aiger_rows::cursor::triple` meets its contract. Assumes nothing.
use Rattle.aiger_rows.proofs.Laws.Quick.{tripled}
use Rattle.aiger_rows.proofs.cursor.triple.Goals as goal

pub returns : goal.returns
returns c = tripled c.in_ok-x.ensures c.in_ok-y.ensures c.in_ok-z.ensures
