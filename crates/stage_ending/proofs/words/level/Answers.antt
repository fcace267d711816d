use native.Mathlib.Omega.{arith}
use mathlib.Core.Path.{◌≡◌}
use Prim.Native.Nat.{◌+◌, ◌-◌, ◌*◌, ◌/◌, ◌≤◌}
use Rattle.stage_ending.proofs.Laws.Words.{going_none, going_row, going_part, going_done}
use Rattle.stage_ending.proofs.words.level.Goals as goal

pub loop-i-init : goal.loop-i-init
loop-i-init c = record { all = λ ws R. let z : c.args.a + 32 * 0 ≡ c.args.a = omega arith in rw z (going_none R) }

pub loop-i-preserved : goal.loop-i-preserved
loop-i-preserved c = record {
  all = λ ws R.
      let G = c.loop-i.invariant.all ws R in
      let z : c.args.a + 32 * (c.loop-i.i + 1) ≡ c.args.a + 32 * c.loop-i.i + 32 = omega arith in
      let b : c.args.a + 32 * c.loop-i.i + 32 ≤ c.args.e = omega arith in
      rw z (going_part R G (omega arith) b (c.run-k.ensures.all _ (going_row R G (omega arith) b)));
}

pub returns : goal.returns
returns c = record {
  all = λ ws R.
      let z : c.loop-i.i ≡ (c.args.e - c.args.a) / 32 = omega arith in
      let G = rw z at (c.loop-i.invariant.all ws R) in
      going_done R (going_part R G G.upto (omega arith) (c.row.ensures.all _ (going_row R G G.upto (omega arith)))) (omega arith);
}
