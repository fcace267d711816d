use mathlib.Core.Path.{refl}
use native.Mathlib.Omega.{arith}
use Rattle.fold_stage.proofs.Laws.Cells.{width_there}
use Rattle.fold_stage.proofs.Laws.Loads.{loads_none, loads_inside, loads_more, loads_done}
use borrow.Author.Rules.{rules}
use Rattle.fold_stage.proofs.loads.load_first.Goals as goal

pub loop-c-init : goal.loop-c-init
loop-c-init c = (refl, λ K A e. loads_none _ _ _ _ A _ e)

pub bounds-bits-c : goal.bounds-bits-c
bounds-bits-c c = omega (arith, loads_inside _ _ _ _ c.requires _ _ (c.loop-c.invariant.1 _ c.requires (width_there c.requires.stage c.width-c.ensures)) c.loop-c-test.true)

pub loop-c-preserved : goal.loop-c-preserved
loop-c-preserved c = (search rules, λ K A e. loads_more _ _ _ _ A _ _ (c.loop-c.invariant.1 K A e) c.loop-c-test.true _ c.first_load.ensures _ c.as_number.ensures)

pub returns : goal.returns
returns c = loads_done _ _ _ _ c.requires _ _ (c.loop-c.invariant.1 _ c.requires (width_there c.requires.stage c.width-c.ensures)) c.loop-c-test.false
