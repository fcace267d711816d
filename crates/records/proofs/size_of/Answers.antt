-- `records::size_of` meets its contract. Assumes nothing.
use Rattle.rules.specs.Records.{size_of}
use Rattle.records.specs.Values.{number_of, number_or_zero}
use Rattle.records.proofs.size_of.Goals as goal

pub returns-in-Output : goal.returns-in-Output
unfolding number_of number_or_zero size_of
returns-in-Output c = rw (c.in-Some.is, c.in-Output.is)

pub returns-in-FlipFlop : goal.returns-in-FlipFlop
unfolding number_of number_or_zero size_of
returns-in-FlipFlop c = rw (c.in-Some.is, c.in-FlipFlop.is)

pub returns-in-Memory : goal.returns-in-Memory
unfolding number_of number_or_zero size_of
returns-in-Memory c = rw (c.in-Some.is, c.in-Memory.is)

pub returns-in-StagedPin : goal.returns-in-StagedPin
unfolding number_of number_or_zero size_of
returns-in-StagedPin c = rw (c.in-Some.is, c.in-StagedPin.is)

pub returns-in-None : goal.returns-in-None
unfolding number_or_zero size_of
returns-in-None c = rw c.in-None.is
