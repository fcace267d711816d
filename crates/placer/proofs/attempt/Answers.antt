-- `placer::attempt` meets its contract: refusal 6, or the stages. Assumes nothing.
use mathlib.Core.Path.{refl}
use native.Mathlib.Omega.{arith}
use Rattle.placer.proofs.Laws.Build.{try_begin, try_blank, built_over, built_room, course, built_stages, built_ran, tried}
use Rattle.placer.proofs.attempt.Goals as goal

pub begin-requires : goal.begin-requires
begin-requires c = try_begin c.requires c.pin_count-m.ensures

pub returns : goal.returns
returns c =
    let A = c.requires in
    let B = c.begin.ensures in
    let e = c.in-Some.is in
    tried A B.frame.len (built_ran A.at.passed (try_blank A) c.pin_count-m.ensures refl B e (B.first _ e) _ (c.stages.ensures.all _ (built_stages A.at.passed (try_blank A) c.pin_count-m.ensures refl B e (B.first _ e) refl refl (omega (arith, c.well_formed.1.1.1.1.1.1.0.1)))))

pub overflow_sub-room : goal.overflow_sub-room
overflow_sub-room c = omega (arith, built_room c.requires.at.passed (try_blank c.requires) c.pin_count-m.ensures refl c.begin.ensures c.in-Some.is)

pub stages-requires : goal.stages-requires
stages-requires c =
    let A = c.requires in
    let B = c.begin.ensures in
    let e = c.in-Some.is in
    record { it = course A.at.passed (try_blank A) c.pin_count-m.ensures refl B e (B.first _ e); at = built_stages A.at.passed (try_blank A) c.pin_count-m.ensures refl B e (B.first _ e) refl refl (omega (arith, c.well_formed.1.1.1.1.1.1.0.1)) }

pub returns-in_default : goal.returns-in_default
returns-in_default c = rw c.from.ensures (tried c.requires refl (built_over c.requires.at.passed (try_blank c.requires) c.pin_count-m.ensures refl c.begin.ensures c.in_default.is))
