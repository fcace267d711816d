-- `entries::answers::tell_checked` meets its contract. Assumes nothing.
use Rattle.plan_check.specs.Answers.{outcome}
use Rattle.entries.specs.Plans.{place}
use Rattle.entries.proofs.answers.tell_checked.Goals as goal

pub returns-in-Ok-clause-number : goal.returns-in-Ok-clause-number
unfolding outcome
returns-in-Ok-clause-number c = rw c.in-Ok.is

pub returns-in-Ok-clause-told : goal.returns-in-Ok-clause-told
unfolding outcome place
returns-in-Ok-clause-told c = rw c.in-Ok.is c.tell.ensures

pub returns-in-Err-clause-number : goal.returns-in-Err-clause-number
unfolding outcome
returns-in-Err-clause-number c = rw c.in-Err.is c.number-number.ensures

pub returns-in-Err-clause-told : goal.returns-in-Err-clause-told
unfolding outcome place
returns-in-Err-clause-told c = rw c.in-Err.is (rw (c.wide.ensures, c.number-number.ensures, c.index.ensures, c.pin.ensures) at c.tell-in-Err.ensures)
