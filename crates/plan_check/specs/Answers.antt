-- The answer of the check. Assumes nothing.
use Rattle.std.specs.Prelude.{ℕ, zero, suc, Bool, ◌&&◌, Result, Ok, Err, List, leb, length}
use Rattle.rules.specs.Cells.{rooms}
use Rattle.rules.specs.Checks.{plan_sized, refusal_of, pin_shown}
use Rattle.rules.specs.Faults.{Fault, faultless, fault_at, fault}
use Rattle.refusals.specs.Numbers.{number_of, pin_of}
use Rattle.plan_check.specs.declared.Refused.{Refused}

-- a plan of whole stages that has so many, and as many counts; the word area may have any length
unfoldable pub plan_fits : ℕ → (plan counts stages : ℕ) → Bool
plan_fits K plan counts stages = plan_sized K plan && leb stages (rooms K plan) && leb stages counts

-- the number, with 22 the fault's place, with 23 the pin
pub record Checked : Type 0 where
  pub number : ℕ
  pub stage : ℕ
  pub position : ℕ
  pub pin : ℕ

unfoldable pub judged : Fault → Checked
judged faultless = record { number = 0; stage = 0; position = 0; pin = 0 }
judged (fault_at k p) = record { number = 22; stage = k; position = p; pin = 0 }

-- the first of 1 to 5 and 23, then the first fault
unfoldable pub plan_checker : ℕ → (gates given records plan words counts : List ℕ) → ℕ → Checked
plan_checker K gates given records plan words counts n =
    elim (refusal_of K (plan_fits K (length plan) (length counts) n) gates given records) [
      | suc r ↦ record { number = suc r; stage = 0; position = 0; pin = pin_shown (suc r) gates }
      | zero ↦ judged (fault K gates given records plan words counts n)
    ]

-- an answer as the rules have it
unfoldable pub outcome : Result (Unit {0}) Refused → Checked
outcome (Ok u) = record { number = 0; stage = 0; position = 0; pin = 0 }
outcome (Err r) = record { number = number_of r.why; stage = r.stage; position = r.position; pin = pin_of r.why }
