use mathlib.Core.Path.{◌∙◌}
use native.Mathlib.Omega.{arith}
use Rattle.replay_run.proofs.Laws.Places.{record_none, record_inside, pin_inside, slot_small, record_more, record_done}
use Rattle.replay_run.proofs.places.put_record.Goals as goal

pub loop-i-init : goal.loop-i-init
loop-i-init c = record_none _ _ _ _ _ _ c.requires

pub offset_bounds-records-at : goal.offset_bounds-records-at
offset_bounds-records-at c = omega (arith, record_inside _ _ _ _ _ _ c.requires)

pub bounds-records-at : goal.bounds-records-at
bounds-records-at c = omega (arith, record_inside _ _ _ _ _ _ c.requires)

pub overflow_add-at : goal.overflow_add-at
overflow_add-at c = omega (arith, record_inside _ _ _ _ _ _ c.requires)

pub overflow_add-at-in-loop-i : goal.overflow_add-at-in-loop-i
overflow_add-at-in-loop-i c = omega (arith, record_inside _ _ _ _ _ _ c.requires)

pub offset_bounds-records-at-in-loop-i : goal.offset_bounds-records-at-in-loop-i
offset_bounds-records-at-in-loop-i c = omega (arith, record_inside _ _ _ _ _ _ c.requires)

pub bounds-records-at-in-loop-i : goal.bounds-records-at-in-loop-i
bounds-records-at-in-loop-i c = omega (arith, record_inside _ _ _ _ _ _ c.requires)

pub bounds-reads-p : goal.bounds-reads-p
bounds-reads-p c = omega (arith, pin_inside _ _ _ _ _ _ c.requires _ c.loop-i-test.true _ 0 (c.wide-p.ensures ∙ c.endpoint.ensures))

pub overflow_mul-places : goal.overflow_mul-places
overflow_mul-places c = omega (arith, slot_small _ _ _ _ _ _ c.requires _ c.loop-i-test.true _ 0 (c.wide-p.ensures ∙ c.endpoint.ensures))

pub overflow_add-places : goal.overflow_add-places
overflow_add-places c = omega (arith, c.inversion-v.ensures.small, slot_small _ _ _ _ _ _ c.requires _ c.loop-i-test.true _ 0 (c.wide-p.ensures ∙ c.endpoint.ensures))

pub loop-i-preserved : goal.loop-i-preserved
loop-i-preserved c = record_more _ _ _ _ _ _ c.requires _ c.loop-i-test.true _ _ (c.wide-p.ensures ∙ c.endpoint.ensures) c.inversion-v.ensures _ c.loop-i.invariant

pub returns : goal.returns
returns c = record_done _ _ _ _ _ _ c.requires _ _ c.loop-i.invariant c.loop-i-test.false
