-- `stage_walk::traversal::step` meets its contract: each way through it is one step of the stack. Assumes nothing.
use mathlib.Core.Path.{refl, sym, ◌∙◌}
use native.Mathlib.Omega.{arith}
use Rattle.stage_walk.proofs.traversal.Area.{TopAt, top_at, pin_in, next_at, room, step_list, next_in, next_phase, step_skip, next_room, step_on}
use Rattle.stage_walk.proofs.traversal.step.Goals as goal

pub pin_at-p-requires : goal.pin_at-p-requires
pin_at-p-requires c = let s = c.requires in omega (arith, top_at s.it c.args.top s.at, s.at.reads.base.area.room)

pub number_at-k-requires : goal.number_at-k-requires
number_at-k-requires c = let s = c.requires in omega (arith, top_at s.it c.args.top s.at, s.at.reads.base.area.room)

pub next_of-requires : goal.next_of-requires
next_of-requires c = let s = c.requires in record { it = s.it; at = next_at s.it (record { going = s.at; pin = c.pin_at-p.ensures; phase = c.number_at-k.ensures }) }

pub list-requires : goal.list-requires
list-requires c =
    let s = c.requires in
    let A : TopAt s.it _ _ _ _ _ _ _ = record { going = s.at; pin = c.pin_at-p.ensures; phase = c.number_at-k.ensures } in
    let h = pin_in s.it A in
    let l = room s.it A in
    record { n_in_bounds = omega (arith, s.at.reads.base.area.room); p_in_bounds = omega (arith, s.at.reads.base.area.room) }

pub is_in-requires : goal.is_in-requires
is_in-requires c =
    let s = c.requires in
    let A : TopAt s.it _ _ _ _ _ _ _ = record { going = s.at; pin = c.pin_at-p.ensures; phase = c.number_at-k.ensures } in
    let q = (rw c.in-Some.is at (c.next_of.ensures.all s.it (next_at s.it A))) in
    omega (arith, next_in s.it A _ q.0 q.1, s.at.reads.base.area.room)

pub put_number-requires : goal.put_number-requires
put_number-requires c =
    let s = c.requires in
    let A : TopAt s.it _ _ _ _ _ _ _ = record { going = s.at; pin = c.pin_at-p.ensures; phase = c.number_at-k.ensures } in
    let q = (rw c.in-Some.is at (c.next_of.ensures.all s.it (next_at s.it A))) in
    let x = next_phase s.it A _ q.0 q.1 in
    record { i_bound = omega (arith, top_at s.it c.args.top s.at, s.at.reads.base.area.room); v_bound = omega arith }

pub overflow_add-result-then-is_in : goal.overflow_add-result-then-is_in
overflow_add-result-then-is_in c = omega (arith, top_at c.requires.it c.args.top c.requires.at, c.requires.at.reads.base.area.small)

pub returns-then-is_in : goal.returns-then-is_in
returns-then-is_in c = record {
  all = λ C G.
      let A : TopAt C _ _ _ _ _ _ _ = record { going = G; pin = c.pin_at-p.ensures; phase = c.number_at-k.ensures } in
      let q = rw c.in-Some.is at (c.next_of.ensures.all C (next_at C A)) in
      step_skip C A _ q.0 q.1 _ (sym c.is_in.ensures ∙ c.if-is_in.true) c.put_number.ensures;
}

pub descend-requires : goal.descend-requires
descend-requires c =
    let s = c.requires in
    let A : TopAt s.it _ _ _ _ _ _ _ = record { going = s.at; pin = c.pin_at-p.ensures; phase = c.number_at-k.ensures } in
    let q = (rw c.in-Some.is at (c.next_of.ensures.all s.it (next_at s.it A))) in
    let z = next_room s.it A _ q.0 q.1 (sym c.is_in.ensures ∙ c.if-is_in.false) in
    let x = next_phase s.it A _ q.0 q.1 in
    record { top_in_bounds = omega (arith, s.at.reads.base.area.room); k_bound = omega arith }

pub overflow_add-result-in-Some : goal.overflow_add-result-in-Some
overflow_add-result-in-Some c = omega (arith, top_at c.requires.it c.args.top c.requires.at, c.requires.at.reads.base.area.small)

pub returns-in-None : goal.returns-in-None
returns-in-None c = record {
  all = λ C G.
      let A : TopAt C _ _ _ _ _ _ _ = record { going = G; pin = c.pin_at-p.ensures; phase = c.number_at-k.ensures } in
      step_list C A _ (rw c.in-None.is at (c.next_of.ensures.all C (next_at C A))) _ refl c.list.ensures;
}

pub returns-else-is_in : goal.returns-else-is_in
returns-else-is_in c = record {
  all = λ C G.
      let A : TopAt C _ _ _ _ _ _ _ = record { going = G; pin = c.pin_at-p.ensures; phase = c.number_at-k.ensures } in
      let q = rw c.in-Some.is at (c.next_of.ensures.all C (next_at C A)) in
      step_on C A _ q.0 q.1 (sym c.is_in.ensures ∙ c.if-is_in.false) _ c.descend.ensures;
}
