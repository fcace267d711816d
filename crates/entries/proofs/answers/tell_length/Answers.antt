-- `entries::answers::tell_length` meets its contract. Assumes nothing.
use Rattle.entries.proofs.answers.tell_length.Goals as goal

pub returns-in-Ok-clause-told : goal.returns-in-Ok-clause-told
returns-in-Ok-clause-told c = rw c.in-Ok.is c.tell.ensures

pub returns-in-Err-clause-told : goal.returns-in-Err-clause-told
returns-in-Err-clause-told c = rw c.in-Err.is (rw (c.wide.ensures, c.number-number.ensures) at c.tell-in-Err.ensures)
