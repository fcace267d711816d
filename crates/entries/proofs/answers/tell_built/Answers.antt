-- `entries::answers::tell_built` meets its contract. Assumes nothing.
use Rattle.placer.specs.Answers.{told}
use Rattle.entries.specs.Build.{rest}
use Rattle.entries.proofs.answers.tell_built.Goals as goal

pub returns-in-Ok-clause-number : goal.returns-in-Ok-clause-number
unfolding told
returns-in-Ok-clause-number c = rw c.in-Ok.is

pub returns-in-Ok-clause-told : goal.returns-in-Ok-clause-told
unfolding told rest
returns-in-Ok-clause-told c = rw c.in-Ok.is c.tell.ensures

pub returns-in-Err-clause-number : goal.returns-in-Err-clause-number
unfolding told
returns-in-Err-clause-number c = rw c.in-Err.is c.number-number.ensures

pub returns-in-Err-clause-told : goal.returns-in-Err-clause-told
unfolding told rest
returns-in-Err-clause-told c = rw c.in-Err.is (rw (c.wide.ensures, c.number-number.ensures, c.index.ensures, c.pin.ensures) at c.tell-in-Err.ensures)
