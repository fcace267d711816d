-- `aiger_text::passes::known` meets its contract. Assumes nothing.
use mathlib.Core.Path.{refl, ◌∙◌}
use mathlib.Core.Logic.{inl, inr}
use native.Mathlib.Omega.{arith}
use Rattle.aiger_text.proofs.Laws.Passes.{known_outside, known_zero, known_inside}
use Rattle.aiger_text.proofs.passes.known.Goals.{then-v-eq0-via-then-v-eq0, then-v-eq0-via-else-v-eq0+then-v-lo, then-v-eq0-via-else-v-eq0+else-v-lo+then-map-v}
use Rattle.aiger_text.proofs.passes.known.Goals as goal

pub returns-then-v-eq0 : goal.returns-then-v-eq0
returns-then-v-eq0 c = let e = c.index-v.ensures ∙ c.pin_of.ensures in rw (← e) (elim c.then-v-eq0.branch [
  | then-v-eq0-via-then-v-eq0 w ↦ known_zero _ _ _ w.if-v-eq0.true
  | then-v-eq0-via-else-v-eq0+then-v-lo w ↦ known_outside _ _ _ (inl w.if-v-lo.true)
  | then-v-eq0-via-else-v-eq0+else-v-lo+then-map-v w ↦ known_outside _ _ _ (inr (omega (arith, c.requires)))
])

pub returns : goal.returns
returns c = let e = c.index-v.ensures ∙ c.pin_of.ensures in rw (← e) (known_inside _ _ _ _ _ c.if-v-eq0.false c.if-v-lo.false refl c.if-map-v.false c.requires refl)
