use Prim.Native.Nat.{◌<◌, ◌+◌}
use mathlib.Core.Path.{◌≡◌, refl, ◌∙◌}
use native.Mathlib.Omega.{arith}
use Rattle.stage_needed.proofs.Laws.Noting.{noting_start, note_pin_at, noting_more, noting_end}
use borrow.Author.Rules.{rules}
use Rattle.stage_needed.proofs.survey.Goals as goal

pub loop-from-init : goal.loop-from-init
loop-from-init c = (record { all = λ x A. noting_start A }, omega arith, refl)

pub loop-from-preserved : goal.loop-from-preserved
loop-from-preserved c =
    let e : c.loop-i.i ≡ c.loop-from.from + c.min.result = omega arith in
    (rw e at (c.loop-i.invariant.0 _ c.loop-from.invariant.0), omega arith, c.loop-i.invariant.2 ∙ c.loop-from.invariant.2)

pub note_pin-c-requires : goal.note_pin-c-requires
note_pin-c-requires c =
    let s = c.requires in
    let U = c.loop-i.invariant.0 _ c.loop-from.invariant.0 in
    let b : c.loop-i.i < c.args.k = omega (arith, c.loop-i-test.true, c.min.ensures) in
    record { it = s.it; at = note_pin_at s.at (U.all s.it s.at) b _ c.pin_at-p.ensures }

pub loop-i-preserved : goal.loop-i-preserved
loop-i-preserved c =
    let b : c.loop-i.i < c.args.k = omega (arith, c.loop-i-test.true, c.min.ensures) in (
      λ w h. record { all = λ x A. let T = (c.loop-i.invariant.0 w h).all x A in noting_more A T b _ c.pin_at-p.ensures (c.note_pin-c.ensures.all x (note_pin_at A T b _ c.pin_at-p.ensures)) },
      omega arith,
      search rules,
    )

pub returns : goal.returns
returns c = record { all = λ x A. noting_end A (c.loop-from.invariant.0.all x A) c.loop-from-test.false }
