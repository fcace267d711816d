-- What is answered, with the lent areas. Assumes nothing.
use Rattle.std.specs.Prelude.{ℕ, List, Result}
use Rattle.rules.specs.Coded.{FoldOutcome}
use Rattle.refusals.specs.declared.Refusal.{Refusal}
use Rattle.refusals.specs.Numbers.{number_said}

-- answer and areas together, as the rules have them
unfoldable pub outcome : {A : Type 0} → Result A Refusal → (result work : List ℕ) → FoldOutcome
outcome a result work = record { number = number_said a; result = result; work = work }
