-- `columns::wait` meets its contract: the place tells whether the pin waits. Assumes nothing.
use mathlib.Core.Path.{sym, ◌∙◌}
use Rattle.columns.proofs.Lists.Places.{wait_test, wait_old, wait_new}
use Rattle.columns.proofs.wait.Goals as goal

pub returns-then-is_in : goal.returns-then-is_in
returns-then-is_in c = let a = c.requires in wait_old a (sym (wait_test a) ∙ sym c.is_in.ensures ∙ c.if-is_in.true)

pub returns : goal.returns
returns c =
    let d = c in
    let a = d.requires in
    wait_new a (sym (wait_test a) ∙ sym d.is_in.ensures ∙ d.if-is_in.false) _ _ c.push.ensures c.set_field.ensures
