-- `aiger_text::passes::mark` meets its contract. Assumes nothing.
use mathlib.Core.Path.{refl, ◌∙◌}
use mathlib.Core.Logic.{inl, inr}
use native.Mathlib.Omega.{arith}
use Rattle.aiger_text.proofs.Laws.Passes.{marked_outside, marked_inside}
use Rattle.aiger_text.proofs.passes.mark.Goals.{then-v-lo-via-then-v-lo, then-v-lo-via-else-v-lo+then-map-v}
use Rattle.aiger_text.proofs.passes.mark.Goals as goal

pub returns-then-v-lo : goal.returns-then-v-lo
returns-then-v-lo c = let e = c.index-v.ensures ∙ c.pin_of.ensures in rw (← e) (marked_outside _ _ _ (elim c.then-v-lo.branch [
  | then-v-lo-via-then-v-lo w ↦ inl w.if-v-lo.true
  | then-v-lo-via-else-v-lo+then-map-v w ↦ inr (omega (arith, c.requires))
]))

pub returns : goal.returns
returns c = let e = c.index-v.ensures ∙ c.pin_of.ensures in rw (← e) (marked_inside _ _ _ _ _ _ c.if-v-lo.false refl c.if-map-v.false c.requires refl refl)
