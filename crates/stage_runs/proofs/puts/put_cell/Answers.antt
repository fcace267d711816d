-- `stage_runs::puts::put_cell` meets its contract: the cell decides whether a pin is put, met or neither. Assumes nothing.
use mathlib.Core.Path.{refl}
use native.Mathlib.Omega.{arith}
use Rattle.stage_runs.proofs.Laws.Puts.{put_idle, cell_inside, fill_at, fill_enlist, put_filled, met_pin, met_enlist, put_met_waits, put_met_not}
use Rattle.stage_runs.proofs.puts.put_cell.Goals as goal

pub returns-then-next-k : goal.returns-then-next-k
returns-then-next-k c = record { all = λ C A. put_idle A.now _ c.if-next-k.true }

pub offset_bounds-stage-c : goal.offset_bounds-stage-c
offset_bounds-stage-c c = omega (arith, cell_inside c.requires.at)

pub bounds-stage-c : goal.bounds-stage-c
bounds-stage-c c = cell_inside c.requires.at

pub place_pin-requires : goal.place_pin-requires
place_pin-requires c = record { it = _; at = fill_at c.requires.at c.if-next-k.false c.pin_at-q.ensures c.if-p.true }

pub enlist-more-requires : goal.enlist-more-requires
enlist-more-requires c = fill_enlist c.requires.at c.if-next-k.false c.pin_at-q.ensures c.if-p.true (c.place_pin.ensures.all _ (fill_at c.requires.at c.if-next-k.false c.pin_at-q.ensures c.if-p.true))

pub returns-then-p : goal.returns-then-p
returns-then-p c = record {
  all = λ C A. put_filled A c.if-next-k.false c.pin_at-q.ensures c.if-p.true
      (c.place_pin.ensures.all _ (fill_at A c.if-next-k.false c.pin_at-q.ensures c.if-p.true)) c.enlist-more.ensures;
}

pub is_in-requires : goal.is_in-requires
is_in-requires c = omega (arith, met_pin c.requires.at c.if-next-k.false refl c.if-p.false refl, c.requires.at.now.stands.base.area.room)

pub enlist-more-requires-then-is_in : goal.enlist-more-requires-then-is_in
enlist-more-requires-then-is_in c = met_enlist c.requires.at c.if-next-k.false refl c.if-p.false refl

pub returns-then-is_in : goal.returns-then-is_in
returns-then-is_in c = record { all = λ C A. put_met_waits A c.if-next-k.false refl c.if-p.false refl c.is_in.ensures c.if-is_in.true c.enlist-more-then-is_in.ensures }

pub returns : goal.returns
returns c = record { all = λ C A. put_met_not A c.if-next-k.false refl c.if-p.false refl c.is_in.ensures c.if-is_in.false }
