use mathlib.Core.Path.{refl, ◌∙◌, ap}
use native.Mathlib.Omega.{arith}
use Rattle.fold_stage.proofs.Laws.Cells.{width_there}
use Rattle.replay_tape.specs.Sources.{load_in}
use Rattle.replay_tape.proofs.Laws.Stages.{row_none, row_inside, row_more, row_done}
use borrow.Author.Rules.{rules}
use Rattle.replay_tape.proofs.stages.load_cells.Goals as goal

pub loop-q-init : goal.loop-q-init
loop-q-init c = (refl, λ K A e. row_none _ _ _ _ A _ e)

pub bounds-slots-q : goal.bounds-slots-q
bounds-slots-q c = omega (arith, row_inside _ _ _ _ c.requires _ _ (c.loop-q.invariant.1 _ c.requires (width_there c.requires.stage c.width-q.ensures)) c.loop-q-test.true)

pub loop-q-preserved : goal.loop-q-preserved
loop-q-preserved c = (search rules, λ K A e. row_more _ _ _ _ A _ _ (c.loop-q.invariant.1 K A e) c.loop-q-test.true _ (c.loaded.ensures ∙ ap (load_in _) c.pin.ensures))

pub returns : goal.returns
returns c = row_done _ _ _ _ c.requires _ _ (c.loop-q.invariant.1 _ c.requires (width_there c.requires.stage c.width-q.ensures)) c.loop-q-test.false
