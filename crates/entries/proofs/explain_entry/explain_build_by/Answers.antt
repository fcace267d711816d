-- `entries::explain_entry::explain_build_by` meets its contract: what the rule alone is refused with, or the call. Assumes nothing.
use mathlib.Core.Path.{refl, ◌∙◌}
use Rattle.refusals.proofs.Numbers.{number_is}
use Rattle.entries.proofs.Laws.Explain.{explained_away, explained_on}
use Rattle.entries.proofs.explain_entry.explain_build_by.Goals as goal

pub returns-in-Err : goal.returns-in-Err
returns-in-Err c =
    explained_away _ _ _ _ _ _ _ _ _ _ _ (c.number-number.ensures ∙ (rw c.in-Err.is at c.rule_refusal.ensures)) (λ z. number_is _ (rw c.number-number.ensures at z)) _ _ c.wide.ensures c.tell.ensures

pub returns-in-Ok : goal.returns-in-Ok
returns-in-Ok c = explained_on _ _ _ _ _ _ _ _ _ _ _ (rw c.in-Ok.is at c.rule_refusal.ensures) refl _ c.enter.ensures
