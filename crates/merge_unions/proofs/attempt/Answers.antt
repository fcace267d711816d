-- `merge_unions::attempt` meets its contract: refusal 6, or the stages in the front of the work area. Assumes nothing.
use mathlib.Core.Path.{refl}
use native.Mathlib.Omega.{arith}
use Rattle.merge_unions.proofs.Laws.Opening.{union_open}
use Rattle.merge_unions.proofs.Laws.Building.{try_over, try_room, course, try_stages, try_ran}
use Rattle.merge_unions.proofs.attempt.Goals as goal

pub begin_both-requires : goal.begin_both-requires
begin_both-requires c = union_open c.requires.union

pub overflow_sub-room : goal.overflow_sub-room
overflow_sub-room c = omega (arith, try_room c.requires refl c.begin_both.ensures c.in-Some.is)

pub stages-requires : goal.stages-requires
stages-requires c = let A = c.requires in let B = c.begin_both.ensures in let e = c.in-Some.is in record { it = course A refl B e; at = try_stages A refl B e refl refl (omega (arith, c.well_formed.1.1.1.1.1.1.1.1.0.1)) }

pub returns-in_default : goal.returns-in_default
returns-in_default c = rw c.from.ensures (try_over c.requires refl c.begin_both.ensures c.in_default.is)

pub returns : goal.returns
returns c = let A = c.requires in let B = c.begin_both.ensures in let e = c.in-Some.is in try_ran A refl B e (c.stages.ensures.all _ (try_stages A refl B e refl refl (omega (arith, c.well_formed.1.1.1.1.1.1.1.1.0.1))))
