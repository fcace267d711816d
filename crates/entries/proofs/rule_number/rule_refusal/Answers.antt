-- `entries::rule_number::rule_refusal` meets its contract. Assumes nothing.
use Rattle.entries.specs.Rule.{rule_for, refusal_of}
use Rattle.entries.proofs.Laws.Rule.{none_named}
use Rattle.entries.proofs.rule_number.rule_refusal.Goals as goal

pub returns-in-0 : goal.returns-in-0
unfolding rule_for refusal_of
returns-in-0 c = rw c.in-0.is

pub returns-in-1 : goal.returns-in-1
unfolding rule_for refusal_of
returns-in-1 c = rw c.in-1.is

pub returns-in_default : goal.returns-in_default
returns-in_default c = none_named _ c.in_default.in_default-own.rest.0.1 c.in_default.in_default-own.rest.1
