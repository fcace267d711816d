-- The call's sizes, and what is asked and said on the way to its answer. Assumes nothing.
use Rattle.std.specs.Prelude.{ℕ, ◌+◌, ◌*◌, ◌^◌, ◌≤◌, ◌<◌, ◌≡◌, Bool, true, ◌&&◌, Result, Ok, Err, List, leb, length, replicate}
use Rattle.rules.specs.Lists.{In}
use Rattle.rules.specs.Cells.{is_height, rooms}
use Rattle.rules.specs.Graph.{graph_of, pin_count}
use Rattle.rules.specs.Loops.{Valid}
use Rattle.rules.specs.Faults.{fault}
use Rattle.placer_start.specs.declared.reservation.Count.{Count}
use Rattle.placer_start.specs.Waiting.{Readable}
use Rattle.refusals.specs.Numbers.{number_of, pin_of}
use Rattle.plan_check.specs.declared.Refused.{Refused}
use Rattle.plan_check.specs.Room.{RoomCounted}
use Rattle.plan_check.specs.Stages.{PlanHere}
use Rattle.plan_check.specs.Answers.{plan_fits}
use Rattle.mending.specs.Changes.{changes}
use Rattle.mending.specs.Call.{Reply, answer, Outcome, rebuilt, listed, tested, mending}

-- every area has a right size: the plan, its stages and counts as for a check; the work area has room for a copy of the plan, so that as many of its
-- numbers count as the plan has; and the number of the last room fits a number of the list. The list's size is judged last of all, with 24
unfoldable pub mend_fits : ℕ → (plan counts work stages : ℕ) → Bool
mend_fits K plan counts work stages = plan_fits K plan counts stages && (leb plan work && leb (rooms K plan) 4294967295)

-- how many changes the list has, or why there is none
unfoldable pub replied : Result ℕ Refused → Reply
replied (Ok n) = answer 0 0 0 n
replied (Err r) = record { number = number_of r.why; stage = r.stage; position = r.position; pin = pin_of r.why; count = 0 }

-- an answer and the areas at exit as the rules have them
unfoldable pub outcome : Result ℕ Refused → (plan list work : List ℕ) → Outcome
outcome a plan list work = record { reply = replied a; plan = plan; list = list; work = work }

-- input and plan that passed the checks
pub record Ready (K : ℕ) (gates given records plan counts : List ℕ) (n : ℕ) : Type 0 where
  pub here : PlanHere K gates plan counts n
  pub right : Readable (pin_count gates) records
  pub named : (q : ℕ) → In q given → q < pin_count gates
  pub valid : Valid (graph_of gates)
  pub few : length plan ≤ 4294967295 * 2 ^ (K + 1)

pub record SettleAt (K : ℕ) (plan made : List ℕ) : Type 0 where
  pub height : is_height K ≡ true
  pub high : 2 ^ (K + 1) ≤ 16384
  pub same : length made ≡ length plan
  pub few : length plan ≤ 4294967295 * 2 ^ (K + 1)

-- whatever the work area holds then
pub record Settles (K : ℕ) (plan made list plan' list' : List ℕ) (r : Result ℕ Refused) : Type 0 where
  pub is : (work : List ℕ) → outcome r plan' list' work ≡ listed plan made list work (changes K plan made)

pub record JudgeAt (K : ℕ) (gates given records plan counts : List ℕ) (n : ℕ) (count : Count) (made : List ℕ) : Type 0 where
  pub ready : Ready K gates given records plan counts n
  pub counted : RoomCounted records count
  pub same : length made ≡ length plan

pub record Rebuilds (K : ℕ) (gates given records plan words counts : List ℕ) (n : ℕ) (list plan' list' : List ℕ) (r : Result ℕ Refused) : Type 0 where
  pub is : (work : List ℕ) → outcome r plan' list' work ≡
      tested K plan (rebuilt K gates given plan words counts n) list work (fault K gates given records (rebuilt K gates given plan words counts n) words counts n)

pub record Judges (K : ℕ) (gates given records plan words counts : List ℕ) (n : ℕ) (list plan' list' : List ℕ) (r : Result ℕ Refused) : Type 0 where
  pub is : (work : List ℕ) → outcome r plan' list' work ≡ mending K gates given records plan words counts list work n (fault K gates given records plan words counts n)

pub record MendAt (K : ℕ) (gates given records plan counts : List ℕ) (n : ℕ) (made : List ℕ) : Type 0 where
  pub ready : Ready K gates given records plan counts n
  pub same : length made ≡ length plan

pub record Mends (K : ℕ) (gates given records plan words counts : List ℕ) (n : ℕ) (list made plan' list' made' : List ℕ) (r : Result ℕ Refused) : Type 0 where
  pub judges : Judges K gates given records plan words counts n list plan' list' r
  pub zero : made' ≡ replicate (length made) 0
