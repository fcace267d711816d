-- `explain_build::attempt` meets its contract: 6 with its line, or the stages with theirs. Assumes nothing.
use mathlib.Core.Path.{refl}
use native.Mathlib.Omega.{arith}
use Rattle.placer.proofs.Laws.Build.{try_begin, try_blank, built_room}
use Rattle.explain_build.proofs.Laws.Attempt.{six_tells, attempt_over, C, all_at, attempt_ran}
use Rattle.explain_build.proofs.attempt.Goals as goal

pub begin-requires : goal.begin-requires
begin-requires c = try_begin c.requires c.pin_count-m.ensures

pub tell_six-requires : goal.tell_six-requires
tell_six-requires c = six_tells c.requires refl

pub overflow_sub-room : goal.overflow_sub-room
overflow_sub-room c = omega (arith, built_room c.requires.at.passed (try_blank c.requires) c.pin_count-m.ensures refl c.begin.ensures c.in-Some.is)

pub tell-requires : goal.tell-requires
tell-requires c = record { it = C c.requires c.pin_count-m.ensures refl c.begin.ensures c.in-Some.is; at = all_at c.requires c.pin_count-m.ensures refl c.begin.ensures c.in-Some.is _ refl refl (omega (arith, c.well_formed.1.1.1.1.1.1.0.1)) }

pub returns-in_default : goal.returns-in_default
returns-in_default c = rw c.from.ensures (attempt_over c.requires c.pin_count-m.ensures refl c.begin.ensures c.in_default.is c.tell_six.ensures)

pub returns : goal.returns
returns c = attempt_ran c.requires c.pin_count-m.ensures refl c.begin.ensures c.in-Some.is (c.tell.ensures.all _ (all_at c.requires c.pin_count-m.ensures refl c.begin.ensures c.in-Some.is _ refl refl (omega (arith, c.well_formed.1.1.1.1.1.1.0.1))))
