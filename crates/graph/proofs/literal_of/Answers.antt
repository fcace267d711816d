-- `graph::literal_of` meets its contract. Assumes nothing.
use mathlib.Core.Logic.{inl, inr}
use Rattle.graph.proofs.Gates.{literal_made, literal_refused}
use Rattle.graph.proofs.literal_of.Goals as goal

pub returns-then-p-gt2147483647 : goal.returns-then-p-gt2147483647
returns-then-p-gt2147483647 c = literal_refused _ _ (elim c.then-p-gt2147483647.either [ inl h ↦ inl h | inr h ↦ inr h.1 ])

pub returns : goal.returns
returns c = literal_made _ _ c.if-p-gt2147483647.false c.if-inversion-gt1.false
