-- `try_trees::begin` meets its contract: four stores. Assumes nothing.
use mathlib.Core.Path.{refl}
use Rattle.try_trees.specs.Example.{begun}
use Rattle.try_trees.proofs.begin.Goals as goal

pub returns : goal.returns
unfolding begun
returns c = rw (c.set_field-3.ensures, c.set_field-2.ensures, c.set_field.ensures, c.fill.ensures.after (λ y e. e)) refl
