use mathlib.Core.Path.{refl}
use native.Mathlib.Omega.{arith}
use Rattle.fold_stage.proofs.Laws.Cells.{width_there}
use Rattle.replay_tape.proofs.Laws.Stages.{making_none, making_above, making_put, making_more, making_done}
use borrow.Author.Rules.{rules}
use Rattle.replay_tape.proofs.stages.and_cells.Goals as goal

pub loop-p-init : goal.loop-p-init
loop-p-init c = (refl, refl, λ K A e. making_none _ _ _ _ _ _ A _ e)

pub source_above-source-requires : goal.source_above-source-requires
source_above-source-requires c = making_above _ _ _ _ _ _ c.requires _ _ _ _ (c.loop-p.invariant.2 _ c.requires (width_there c.requires.up.stage c.width-p.ensures)) c.loop-p-test.true

pub put-count-requires : goal.put-count-requires
put-count-requires c = making_put _ _ _ _ _ _ c.requires _ _ _ _ (c.loop-p.invariant.2 _ c.requires (width_there c.requires.up.stage c.width-p.ensures)) c.loop-p-test.true

pub loop-p-preserved : goal.loop-p-preserved
loop-p-preserved c = (search rules, search rules, λ K A e. making_more _ _ _ _ _ _ A _ _ _ _ (c.loop-p.invariant.2 K A e) c.loop-p-test.true _ c.source_above-source.ensures _ _ _ c.put-count.ensures)

pub bounds-slots-0 : goal.bounds-slots-0
bounds-slots-0 c = omega (arith, c.loop-p.invariant.0, c.requires.up.same, c.requires.up.stage.size, c.requires.up.stage.double, c.requires.up.stage.low)

pub returns : goal.returns
returns c = making_done _ _ _ _ _ _ c.requires _ _ _ _ (c.loop-p.invariant.2 _ c.requires (width_there c.requires.up.stage c.width-p.ensures)) c.loop-p-test.false
