-- A call of the check of a plan. Assumes nothing.
use Rattle.std.specs.Prelude.{ℕ, Result, ◌≡◌, List, length}
use Rattle.rules.specs.Checks.{refusal_of}
use Rattle.rules.specs.Faults as rules
use Rattle.coded.specs.Inputs.{Input}
use Rattle.plan_check.specs.declared.Refused.{Refused}
use Rattle.plan_check.specs.Answers.{Checked, plan_fits, plan_checker, outcome}

-- by its contract
pub record Check : Type 0 where
  pub height : ℕ
  pub gates : List ℕ
  pub given : List ℕ
  pub records : List ℕ
  pub plan : List ℕ
  pub words : List ℕ
  pub counts : List ℕ
  pub stages : ℕ
  pub answer : Result (Unit {0}) Refused
  pub ensures : outcome answer ≡ plan_checker height gates given records plan words counts stages

-- what it answers, as the rules have it
abbrev pub told : Check → Checked
told C = outcome C.answer

-- the number of its first refusal by a check, or 0
abbrev pub refused : Check → ℕ
refused C = refusal_of C.height (plan_fits C.height (length C.plan) (length C.counts) C.stages) C.gates C.given C.records

-- the first fault
abbrev pub fault : Check → rules.Fault
fault C = rules.fault C.height C.gates C.given C.records C.plan C.words C.counts C.stages

-- a call that the checks 1 to 5 and 23 let pass
abbrev pub input : (C : Check) → refused C ≡ 0 → Input
input C e = record { K = C.height; sized = plan_fits C.height (length C.plan) (length C.counts) C.stages; gates = C.gates; given = C.given; records = C.records; passes = e }
