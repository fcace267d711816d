use mathlib.Core.Path.{refl}
use native.Mathlib.Omega.{arith}
use Rattle.fold_stage.proofs.Laws.Cells.{width_there}
use Rattle.fold_stage.proofs.Laws.Loads.{spread_none, spread_pass, spread_more, spread_done}
use Rattle.fold_stage.proofs.Laws.Loads.{pins_stage, pin_read}
use borrow.Author.Rules.{rules}
use Rattle.fold_stage.proofs.loads.forget.Goals as goal

pub loop-c-init : goal.loop-c-init
loop-c-init c = let s = c.requires in let e = width_there s c.width-c.ensures in (refl, omega (arith, s.size, s.double), λ K A e. spread_none _ _ (pins_stage _ _ A) _ _ _ e)

pub loop-c-preserved-then-p-looks : goal.loop-c-preserved-then-p-looks
loop-c-preserved-then-p-looks c = (search rules, search rules, λ K A e. spread_more _ _ (pins_stage _ _ A) _ _ _ _ (c.loop-c.invariant.2 K A e) _ (omega arith) (omega arith) _ (pin_read _ _ _ _ (omega (arith, c.loop-c.invariant.1, c.loop-c-test.true)) c.index-p.ensures c.pin.ensures) c.if-p-looks.true _ refl)

pub loop-c-preserved : goal.loop-c-preserved
loop-c-preserved c = (search rules, search rules, λ K A e. spread_pass _ _ (pins_stage _ _ A) _ _ _ _ (c.loop-c.invariant.2 K A e) _ (omega arith) (omega arith) _ (pin_read _ _ _ _ (omega (arith, c.loop-c.invariant.1, c.loop-c-test.true)) c.index-p.ensures c.pin.ensures) c.if-p-looks.false)

pub returns : goal.returns
returns c = spread_done _ _ (pins_stage _ _ c.requires) _ _ _ _ (c.loop-c.invariant.2 _ c.requires (width_there c.requires c.width-c.ensures)) c.loop-c-test.false
