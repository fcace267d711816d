-- A call of `replay_plan`, its answer and its lent areas. Assumes nothing.
use Rattle.std.specs.Prelude.{ℕ, ◌≡◌, List, Result}
use Rattle.rules.specs.Faults.{faultless, fault}
use Rattle.plan_check.specs.declared.Refused.{Refused}
use Rattle.plan_check.specs.Answers as check
use Rattle.replay.specs.Answers.{job}
use Rattle.replay_finished.specs.Calls.{Plan, Lent, Outcome, finished_refusal}

-- the plan that is handed in
unfoldable pub handed : (plan words counts : List ℕ) → ℕ → Plan
handed plan words counts n = record { plan = plan; words = words; counts = counts; stages = n }

-- what is lent
unfoldable pub lent : (work tape slots bits out end : List ℕ) → Lent
lent work tape slots bits out end = record { work = work; tape = tape; slots = slots; bits = bits; out = out; end = end }

-- answer and areas together, as the definitions have them
unfoldable pub outcome : Result (Unit {0}) Refused → (work tape slots bits out end : List ℕ) → Outcome
outcome a work tape slots bits out end = record { reply = check.outcome a; lent = lent work tape slots bits out end }

-- a job that no check refuses, and a plan without a fault
pub record AcceptedIn (K : ℕ) (gates given records driven starting : List ℕ) (lines : ℕ) (recording plan words counts : List ℕ) (n : ℕ) (work tape slots bits out end : List ℕ) : Type 0 where
  pub passes : finished_refusal (job K gates given records driven starting lines recording) (handed plan words counts n) (lent work tape slots bits out end) ≡ 0
  pub right : fault K gates given records plan words counts n ≡ faultless
