-- `columns::enlist` meets its contract: the mark tells whether the pin is listed. Assumes nothing.
use mathlib.Core.Path.{sym, ◌∙◌}
use native.Mathlib.Omega.{arith}
use Rattle.columns.proofs.Lists.Marks.{enlist_first, enlist_second, enlist_test, enlist_old, enlist_room, enlist_new}
use Rattle.columns.proofs.enlist.Goals as goal

pub is_in-requires : goal.is_in-requires
is_in-requires c = let a = c.requires in omega (arith, enlist_first a, enlist_second a)

pub returns-then-is_in : goal.returns-then-is_in
returns-then-is_in c = let a = c.requires in enlist_old a (sym (enlist_test a) ∙ sym c.is_in.ensures ∙ c.if-is_in.true)

pub push-requires : goal.push-requires
push-requires c =
    let a = c.requires in
    omega (arith, enlist_first a, enlist_second a, enlist_room a (sym (enlist_test a) ∙ sym c.is_in.ensures ∙ c.if-is_in.false))

pub set_field-requires : goal.set_field-requires
set_field-requires c = let a = c.requires in omega (arith, enlist_first a, enlist_second a, c.push.auto, a.now.held.few, a.area.room)

pub returns : goal.returns
returns c =
    let d = c in
    let a = d.requires in
    enlist_new a (sym (enlist_test a) ∙ sym d.is_in.ensures ∙ d.if-is_in.false) _ _ c.push.ensures c.set_field.ensures
