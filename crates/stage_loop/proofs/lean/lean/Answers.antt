use native.Mathlib.Omega.{arith}
use Rattle.stage_loop.proofs.Laws.Levels.{lean_width, lean_go, lean_down, leaning_then, leaned}
use borrow.Author.Rules.{rules}
use Rattle.stage_loop.proofs.lean.lean.Goals as goal

pub sweep-b-requires : goal.sweep-b-requires
sweep-b-requires c =
    let A = (c.loop-l.invariant.0.all c.requires.it c.requires.at).at in
    record { it = c.requires.it; at = lean_go A c.loop-l-test.true _ _ c.number_at-start.ensures c.number_at-e.ensures }

pub overflow_mul-w : goal.overflow_mul-w
overflow_mul-w c = omega (arith, lean_width (c.loop-l.invariant.0.all c.requires.it c.requires.at).at)

pub loop-l-preserved : goal.loop-l-preserved
loop-l-preserved c = (
  record {
    all = λ C A. let L = c.loop-l.invariant.0.all C A in leaning_then L (lean_down L.at c.loop-l-test.true _ _ c.number_at-start.ensures c.number_at-e.ensures
        (c.sweep-b.ensures.all C (lean_go L.at c.loop-l-test.true _ _ c.number_at-start.ensures c.number_at-e.ensures)));
  },
  search rules,
  search rules,
)

pub returns : goal.returns
returns c = record { all = λ C A. leaned (c.loop-l.invariant.0.all C A) (omega arith) }
