-- `stage::finish::finish` meets its contract: where the runs' words are over the tally the stage is refused, else the other rules follow. Assumes nothing.
use native.Mathlib.Omega.{arith}
use Rattle.stage.proofs.Laws.Finish.{room_as, finished_as, fits_as, end_at, finished_seven, resting_at, finished}
use Rattle.stage_tally.proofs.Laws.Tests.{over_room, fits_room}
use Rattle.stage.proofs.finish.finish.Goals as goal

pub write_runs-s-requires : goal.write_runs-s-requires
write_runs-s-requires c = record { it = c.requires.1.it; at = end_at (room_as c.requires.1.at c.left-room.ensures) }

pub returns-then-is_over : goal.returns-then-is_over
returns-then-is_over c = record {
  all = λ C A.
      let e = c.left-room.ensures in
      let B = room_as A e in
      finished_as e (finished_seven B (c.write_runs-s.ensures.all C (end_at B)) (omega (arith, e, over_room c.requires.0 _ c.spend.ensures c.is_over.ensures c.if-is_over.true)));
}

pub finish_rest-requires : goal.finish_rest-requires
finish_rest-requires c =
    let e = c.left-room.ensures in
    let B = room_as c.requires.1.at e in
    record {
      it = record { C = _; pl = _ };
      at = resting_at B (c.write_runs-s.ensures.all _ (end_at B)) (omega (arith, e, fits_room c.requires.0 _ c.spend.ensures c.is_over.ensures c.if-is_over.false)) c.tail_get.ensures;
    }

pub returns : goal.returns
returns c = record {
  all = λ C A.
      let e = c.left-room.ensures in
      let B = room_as A e in
      let R = c.write_runs-s.ensures.all C (end_at B) in
      let h = fits_as e (fits_room c.requires.0 _ c.spend.ensures c.is_over.ensures c.if-is_over.false) in
      finished_as e (finished B R h (c.finish_rest.ensures.all (record { C = C; pl = _ }) (resting_at B R h c.tail_get.ensures)));
}
