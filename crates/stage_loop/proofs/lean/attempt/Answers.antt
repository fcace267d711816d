-- `stage_loop::lean::attempt` meets its contract: placed where there is room, else noted and taken back. Assumes nothing.
use Rattle.stage_loop.proofs.Laws.Tries.{place_at, after_place, tried_some, note_at_lem, back_at, tried_none}
use Rattle.stage_loop.proofs.lean.attempt.Goals as goal

pub place_pin-requires : goal.place_pin-requires
place_pin-requires c = record { it = c.requires.it; at = place_at c.requires.at }

pub settle-bound-requires : goal.settle-bound-requires
settle-bound-requires c = let A = c.requires in record { it = A.it; at = after_place A.at (c.place_pin.ensures.all A.it (place_at A.at)) }

pub note_back-requires : goal.note_back-requires
note_back-requires c = let A = c.requires in let P = c.place_pin.ensures.all A.it (place_at A.at) in note_at_lem A.at P (rw c.in-Err.is at (c.settle-bound.ensures.all A.it (after_place A.at P)))

pub take_back-requires : goal.take_back-requires
take_back-requires c =
    let A = c.requires in
    let P = c.place_pin.ensures.all A.it (place_at A.at) in
    record { it = A.it; at = back_at A.at P (rw c.in-Err.is at (c.settle-bound.ensures.all A.it (after_place A.at P))) c.note_back.ensures }

pub returns-in-Err : goal.returns-in-Err
returns-in-Err c = record {
  all = λ C A.
      let P = c.place_pin.ensures.all C (place_at A) in
      let T = rw c.in-Err.is at (c.settle-bound.ensures.all C (after_place A P)) in
      let N = c.note_back.ensures in
      tried_none A P T N (c.take_back.ensures.all C (back_at A P T N));
}

pub returns-in_default : goal.returns-in_default
returns-in_default c = record {
  all = λ C A.
      let P = c.place_pin.ensures.all C (place_at A) in
      rw c.in_default.is (tried_some A P (rw c.in_default.is at (c.settle-bound.ensures.all C (after_place A P))));
}
