-- What stops a stage, as the rules refuse it. Assumes nothing.
use Rattle.std.specs.Prelude.{◌≡◌, List, ℕ, ◌+◌, ◌≤◌, length}
use Rattle.rules.specs.Traversal.{Setting}
use Rattle.rules.specs.Ending.{written}
use Rattle.rules.specs.Capacity.{ones_then, needs_left}
use Rattle.refusals.specs.declared.Refusal.{Refusal}
use Rattle.refusals.specs.declared.Refusal.TheVariants as refusals
use Rattle.stage.specs.declared.finish.Stopped.{Stopped}
use Rattle.stage.specs.declared.finish.Stopped.TheVariants.{OverWords, NoCell}

abbrev pub refusal_of : Stopped → Refusal
refusal_of (OverWords n) = refusals.OverWords
refusal_of (NoCell ones left) = refusals.NoCell

-- 7: the words wanted. 8: the level-1 cells filled and the needed pins left where rule 9 starts; pl is the plan of rules 2 to 7
abbrev pub Tells : Setting → List ℕ → Stopped → Type 0
Tells X pl (OverWords n) = (n ≡ length (written X pl).words) × (n ≤ 128)
Tells X pl (NoCell ones left) = (ones ≡ ones_then X pl) × (left ≡ needs_left X pl) × (ones + left ≤ 131072)
