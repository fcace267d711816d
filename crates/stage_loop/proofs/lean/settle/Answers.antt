-- `stage_loop::lean::settle` meets its contract: the needed pins, by an earlier count or a new one, have room or not. Assumes nothing.
use mathlib.Core.Path.{sym, ◌∙◌}
use native.Mathlib.Omega.{arith}
use Rattle.stage_loop.proofs.Laws.Tries.{count_at, counted, settled_bound, settled_count, settled_full}
use Rattle.stage_loop.proofs.lean.settle.Goals as goal

pub returns-then-room : goal.returns-then-room
returns-then-room c = record { all = λ C A. settled_bound A (sym c.room.ensures ∙ c.if-room.true) }

pub counted-count-requires : goal.counted-count-requires
counted-count-requires c = record { it = record { C = c.requires.it; pl = _ }; at = count_at c.requires.at }

pub room-requires-2 : goal.room-requires-2
room-requires-2 c =
    let A = c.requires in
    let N = counted A.at (c.counted-count.ensures.all (record { C = A.it; pl = _ }) (count_at A.at)) in
    record { area = record { small = A.at.set.begun.base.area.small; room = omega (arith, N.kept.frame.len, A.at.set.begun.base.area.room) }; few = N.few }

pub returns-then-room-2 : goal.returns-then-room-2
returns-then-room-2 c = record {
  all = λ C A. settled_count A (sym c.room.ensures ∙ c.if-room.false) (counted A (c.counted-count.ensures.all (record {
    C = C;
    pl = _;
  }) (count_at A))) (sym c.room-2.ensures ∙ c.if-room-2.true);
}

pub returns : goal.returns
returns c = record {
  all = λ C A. settled_full A (sym c.room.ensures ∙ c.if-room.false) (counted A (c.counted-count.ensures.all (record {
    C = C;
    pl = _;
  }) (count_at A))) (sym c.room-2.ensures ∙ c.if-room-2.false);
}
