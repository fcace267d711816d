-- `fold::stages::fold_plan` meets its contract. Assumes nothing.
use Prim.Native.Nat.{ℕ}
use mathlib.Core.Path.{◌∙◌, ap}
use lib.ListN.{replicate}
use Rattle.fold.proofs.stages.fold_plan.Goals as goal

pub returns : goal.returns
returns c = record {
  folded = c.fold_stages.ensures;
  cleared = (c.fill.ensures.after (λ y e. e)) ∙ ap (λ (n : ℕ). replicate n 0) c.fold_stages.auto.looks;
}
