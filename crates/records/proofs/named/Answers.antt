-- `records::named` meets its contract. Assumes nothing.
use Rattle.rules.specs.Records.{group_at, endpoints_of}
use Rattle.records.specs.Values.{number_of, number_or_zero, named_by}
use mathlib.Core.Logic.{inl, inr}
use Rattle.records.proofs.named.Goals as goal

pub returns-in-StagedPin : goal.returns-in-StagedPin
unfolding number_of number_or_zero named_by group_at endpoints_of
returns-in-StagedPin c = rw (c.in-Some.is, c.in-StagedPin.is)

pub returns-in-Output : goal.returns-in-Output
unfolding number_of number_or_zero named_by group_at endpoints_of
returns-in-Output c = rw c.in-Some.is (elim c.in-Output.is [ inl h ↦ rw h c.pin_of.ensures | inr h ↦ elim h [ inl k ↦ rw k c.pin_of.ensures | inr k ↦ rw k c.pin_of.ensures ] ])

pub returns-in-None : goal.returns-in-None
unfolding number_or_zero named_by group_at endpoints_of
returns-in-None c = rw c.in-None.is
