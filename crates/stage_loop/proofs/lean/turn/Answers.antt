-- `stage_loop::lean::turn` meets its contract: one candidate and one empty cell. Assumes nothing.
use mathlib.Core.Path.{sym, ◌∙◌}
use native.Mathlib.Omega.{arith}
use Rattle.stage_loop.proofs.Laws.Turns.{marked_some, marked_none, pin_small, turned_skip, turned_no_cell, try_at, turned_full, turned_on}
use Rattle.stage_loop.proofs.lean.turn.Goals as goal

pub is_in-requires : goal.is_in-requires
is_in-requires c = let A = c.requires.at in omega (arith, pin_small A _ c.pin_at-p.ensures, A.at.set.begun.base.area.room)

pub returns-then-is_in : goal.returns-then-is_in
returns-then-is_in c = record { all = λ C A. turned_skip A _ c.pin_at-p.ensures (marked_some _ (sym c.is_in.ensures ∙ c.if-is_in.true)) }

pub returns-then-c-end : goal.returns-then-c-end
returns-then-c-end c = record { all = λ C A. turned_no_cell A _ c.pin_at-p.ensures (marked_none _ (sym c.is_in.ensures ∙ c.if-is_in.false)) _ c.first_empty-c.ensures c.if-c-end.true }

pub attempt-requires : goal.attempt-requires
attempt-requires c = record { it = c.requires.it; at = try_at c.requires.at _ c.pin_at-p.ensures (marked_none _ (sym c.is_in.ensures ∙ c.if-is_in.false)) _ c.first_empty-c.ensures c.if-c-end.false }

pub returns-in-Err : goal.returns-in-Err
returns-in-Err c = record {
  all = λ C A.
      let z = marked_none _ (sym c.is_in.ensures ∙ c.if-is_in.false) in
      turned_full A _ c.pin_at-p.ensures z _ c.first_empty-c.ensures c.if-c-end.false
      (rw c.in-Err.is at (c.attempt.ensures.all C (try_at A _ c.pin_at-p.ensures z _ c.first_empty-c.ensures c.if-c-end.false)));
}

pub returns-in-Ok : goal.returns-in-Ok
returns-in-Ok c = record {
  all = λ C A.
      let z = marked_none _ (sym c.is_in.ensures ∙ c.if-is_in.false) in
      turned_on A _ c.pin_at-p.ensures z _ c.first_empty-c.ensures c.if-c-end.false
      (rw c.in-Ok.is at (c.attempt.ensures.all C (try_at A _ c.pin_at-p.ensures z _ c.first_empty-c.ensures c.if-c-end.false)));
}
