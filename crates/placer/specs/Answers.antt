-- The answer of a build, and its lent areas together. Assumes nothing.
use Rattle.std.specs.Prelude.{List, ℕ, Result, Ok, Err}
use Rattle.rules.specs.Build as rules
use Rattle.refusals.specs.Numbers.{number_of, pin_of}
use Rattle.placer.specs.declared.Built.{Built}
use Rattle.placer.specs.declared.Refused.{Refused}

-- an answer as the scope document has it
unfoldable pub told : Result Built Refused → rules.Reply
told (Ok b) = record { number = 0; stages = b.stages; words = b.words; stage = 0; pin = 0; cells = b.cells }
told (Err r) = record { number = number_of r.why; stages = 0; words = 0; stage = r.stage; pin = pin_of r.why; cells = 0 }

unfoldable pub areas : (plan words counts work : List ℕ) → rules.Areas
areas plan words counts work = record { plan = plan; words = words; counts = counts; work = work }

unfoldable pub outcome : Result Built Refused → (plan words counts work : List ℕ) → rules.Outcome
outcome a plan words counts work = record { reply = told a; areas = areas plan words counts work }
