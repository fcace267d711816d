-- `records::kind_of` meets its contract. Assumes nothing.
use Rattle.rules.specs.Records.{size_of}
use Rattle.cells.specs.Answers.{or_zero}
use Rattle.records.specs.Values.{number_of, number_or_zero, known}
use Rattle.rules.proofs.Job.Kinds.{unknown}
use Rattle.records.proofs.Reading.{known_none}
use mathlib.Core.Path.{sym}
use Rattle.records.proofs.kind_of.Goals as goal

pub returns-in-1 : goal.returns-in-1
unfolding number_or_zero number_of known size_of or_zero
returns-in-1 c = rw c.in-1.is

pub returns-in-2 : goal.returns-in-2
unfolding number_or_zero number_of known size_of or_zero
returns-in-2 c = rw c.in-2.is

pub returns-in-3 : goal.returns-in-3
unfolding number_or_zero number_of known size_of or_zero
returns-in-3 c = rw c.in-3.is

pub returns-in-4 : goal.returns-in-4
unfolding number_or_zero number_of known size_of or_zero
returns-in-4 c = rw c.in-4.is

pub returns-in_default : goal.returns-in_default
unfolding number_or_zero
returns-in_default c = sym (known_none _ (unknown _ c.in_default.in_default-own.rest.0.0.0.1 c.in_default.in_default-own.rest.0.0.1 c.in_default.in_default-own.rest.0.1 c.in_default.in_default-own.rest.1))
