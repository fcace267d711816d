-- `sheet_read::read` meets its contract. Assumes nothing.
use native.Mathlib.Omega.{arith}
use mathlib.Core.Path.{sym, ◌∙◌}
use Rattle.sheet_read.proofs.Laws.Answers.{kind_some, none_read, other_read, no_read, short_read, is_read}
use Rattle.sheet_read.proofs.read.Goals as goal

pub returns-then-bytes-eq0 : goal.returns-then-bytes-eq0
returns-then-bytes-eq0 c = none_read _ _ (omega (arith, c.if-bytes-eq0.true)) _

pub returns-in_default : goal.returns-in_default
returns-in_default c = other_read _ _ (λ z. omega (arith, c.if-bytes-eq0.false)) c.in_default.ensures _

pub judge-requires : goal.judge-requires
judge-requires c = record { some = omega (arith, c.if-bytes-eq0.false); is = sym c.in-Some.ensures; known = kind_some _ }

pub returns-in_default-judge : goal.returns-in_default-judge
returns-in_default-judge c = no_read _ _ c.in_default-judge.ensures _

pub returns-then-not-has_room : goal.returns-then-not-has_room
returns-then-not-has_room c = let a = c.args in short_read c.in-Some-judge.ensures a.plan.now a.words.now a.counts.now (sym c.has_room.ensures ∙ c.if-not-has_room.true)

pub returns : goal.returns
returns c = let a = c.args in is_read c.in-Some-judge.ensures a.plan.now a.words.now a.counts.now (sym c.has_room.ensures ∙ c.if-not-has_room.false) c.fill.ensures
