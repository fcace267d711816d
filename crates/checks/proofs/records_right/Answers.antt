use native.Mathlib.Omega.{arith}
use mathlib.Core.Path.{sym, ◌∙◌}
use Rattle.rules.proofs.Bools.{no, yes}
use Rattle.checks.proofs.Laws.Turns.{records_many, records_begin, records_cut, records_wrong, records_more, records_done}
use Rattle.records.proofs.Reading.{Stands, stands}
use Rattle.checks.proofs.records_right.Goals as goal
use Rattle.checks.proofs.records_right.Goals.{Else-size-eq0}

pub returns-then-records-gt65536 : goal.returns-then-records-gt65536
returns-then-records-gt65536 c = records_many _ _ c.if-records-gt65536.true

pub loop-at-init : goal.loop-at-init
loop-at-init c = records_begin _ _ c.if-records-gt65536.false

pub returns-then-size-eq0 : goal.returns-then-size-eq0
returns-then-size-eq0 c = records_cut _ _ _ c.loop-at.invariant c.loop-at-test.true (sym c.size_at-size.ensures ∙ c.if-size-eq0.true)

whole : (c : Else-size-eq0) → Stands c.args.records.now c.loop-at.at
whole c = stands c.args.records.now c.loop-at.at (omega (arith, c.size_at-size.ensures))

pub record_right-requires : goal.record_right-requires
record_right-requires c = (whole c).is

pub returns-then-not-record_right : goal.returns-then-not-record_right
returns-then-not-record_right c = records_wrong _ _ _ c.loop-at.invariant (whole (goal.at.returns-then-not-record_right c).Else-size-eq0) (no c.record_right.ensures c.if-not-record_right.true-raw)

pub overflow_add-at : goal.overflow_add-at
overflow_add-at c = omega (arith, (whole (goal.at.overflow_add-at c).Else-size-eq0).inside, c.size_at-size.ensures)

pub overflow_add-at-in-loop-at : goal.overflow_add-at-in-loop-at
overflow_add-at-in-loop-at c = omega (arith, (whole (goal.at.overflow_add-at-in-loop-at c).Else-size-eq0).inside, c.size_at-size.ensures)

pub loop-at-smaller : goal.loop-at-smaller
loop-at-smaller c = omega (arith, (whole (goal.at.loop-at-smaller c).Else-size-eq0).inside, c.size_at-size.ensures)

pub loop-at-preserved : goal.loop-at-preserved
loop-at-preserved c = rw c.size_at-size.ensures (records_more _ _ _ c.loop-at.invariant (whole (goal.at.loop-at-preserved c).Else-size-eq0) (yes c.record_right.ensures c.if-not-record_right.false-raw))

pub returns : goal.returns
returns c = records_done _ _ _ c.loop-at.invariant c.loop-at-test.false
