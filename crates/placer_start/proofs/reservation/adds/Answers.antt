-- `placer_start::reservation::adds` meets its contract, kind by kind. Assumes nothing.
use mathlib.Core.Path.{refl}
use native.Mathlib.Omega.{arith}
use Rattle.placer_start.proofs.Laws.Counts.{of_kind, record_inside, flip_inside, record_known, record_memory, record_output, record_flip, record_staged}
use Rattle.placer_start.proofs.reservation.adds.Goals as goal

pub offset_bounds-records-at : goal.offset_bounds-records-at
offset_bounds-records-at c = omega (arith, record_inside c.requires)

pub bounds-records-at : goal.bounds-records-at
bounds-records-at c = omega (arith, record_inside c.requires)

pub overflow_add-first : goal.overflow_add-first
overflow_add-first c = omega (arith, record_inside c.requires)

pub offset_bounds-records-at-2 : goal.offset_bounds-records-at-2
offset_bounds-records-at-2 c = omega (arith, record_inside c.requires)

pub bounds-records-at-2 : goal.bounds-records-at-2
bounds-records-at-2 c = omega (arith, record_inside c.requires)

pub overflow_add-at : goal.overflow_add-at
overflow_add-at c = omega (arith, flip_inside c.requires c.kind_of-kind.ensures (of_kind c.in-Some-FlipFlop.is (rw c.in-Some-FlipFlop.is at c.in-Some-FlipFlop.field-0-is)))

pub offset_bounds-records-at-in-Some-FlipFlop : goal.offset_bounds-records-at-in-Some-FlipFlop
offset_bounds-records-at-in-Some-FlipFlop c = omega (arith, flip_inside c.requires c.kind_of-kind.ensures (of_kind c.in-Some-FlipFlop.is (rw c.in-Some-FlipFlop.is at c.in-Some-FlipFlop.field-0-is)))

pub bounds-records-at-in-Some-FlipFlop : goal.bounds-records-at-in-Some-FlipFlop
bounds-records-at-in-Some-FlipFlop c = omega (arith, flip_inside c.requires c.kind_of-kind.ensures (of_kind c.in-Some-FlipFlop.is (rw c.in-Some-FlipFlop.is at c.in-Some-FlipFlop.field-0-is)))

pub returns-in-Some-Memory : goal.returns-in-Some-Memory
returns-in-Some-Memory c = record_memory c.requires c.kind_of-kind.ensures (of_kind c.in-Some-Memory.is (rw c.in-Some-Memory.is at c.in-Some-Memory.field-0-is))

pub returns-in-Some-Output : goal.returns-in-Some-Output
returns-in-Some-Output c = record_output c.requires c.kind_of-kind.ensures (of_kind c.in-Some-Output.is (rw c.in-Some-Output.is at c.in-Some-Output.field-0-is)) c.output.ensures

pub returns-in-Some-FlipFlop : goal.returns-in-Some-FlipFlop
returns-in-Some-FlipFlop c = record_flip c.requires c.kind_of-kind.ensures (of_kind c.in-Some-FlipFlop.is (rw c.in-Some-FlipFlop.is at c.in-Some-FlipFlop.field-0-is)) c.flip_flop.ensures

pub returns-in-Some-StagedPin : goal.returns-in-Some-StagedPin
returns-in-Some-StagedPin c = record_staged c.requires c.kind_of-kind.ensures (of_kind c.in-Some-StagedPin.is (rw c.in-Some-StagedPin.is at c.in-Some-StagedPin.field-0-is)) _ refl

pub returns-in-None : goal.returns-in-None
returns-in-None c = record_known c.requires c.kind_of-kind.ensures c.in-None.is
