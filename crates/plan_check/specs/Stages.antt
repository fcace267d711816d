-- Stage after stage: what is asked and said of faults and marks. Assumes nothing.
use Rattle.std.specs.Prelude.{ℕ, suc, ◌+◌, ◌-◌, ◌*◌, ◌^◌, ◌≤◌, ◌<◌, ◌≡◌, true, false, ◌||◌, Result, Ok, Err, OnOk, List, ◌∷◌, eqb, length, take, drop}
use Rattle.rules.specs.Lists.{In}
use Rattle.rules.specs.Graph.{Node, pin_count}
use Rattle.rules.specs.Records.{groups_of}
use Rattle.rules.specs.Build.{Stage}
use Rattle.rules.specs.Faults.{Fault, faultless, fault_at, first_may, held_in, fault_from, holds_in, written_in, last_right, cut, fault}
use Rattle.placer_start.specs.declared.reservation.Count.{Count}
use Rattle.placer_start.specs.Waiting.{Readable}
use Rattle.placer_start.specs.Reservation.{Counts, Few}
use Rattle.plan_check_stage.specs.Marks.{marked}
use Rattle.plan_check_stage.specs.Cells.{Gives, may_of, High}
use Rattle.plan_check_stage.specs.Ending.{words_from, WordsAt}
use Rattle.plan_check.specs.Ends.{EndsAt}
use Rattle.plan_check.specs.declared.stages.Place.{Place}

-- a fault's place as the rules have it
unfoldable pub fault_for : Result (Unit {0}) Place → Fault
fault_for (Ok u) = faultless
fault_for (Err p) = fault_at p.stage p.position

-- no fault, or a fault that decides, whatever follows
unfoldable pub or_else : Result (Unit {0}) Place → Fault → Fault
or_else (Ok u) rest = rest
or_else (Err p) rest = fault_at p.stage p.position

-- ---- a stage

abbrev pub stage_with : (cells words : List ℕ) → ℕ → Stage
stage_with cells words n = record { plan = cells; words = words_from n 0 words }

pub record StageSays (K : ℕ) (g : List Node) (marks looks : List ℕ) (k : ℕ) (cells words : List ℕ) (n room : ℕ) (r : Result (Unit {0}) Place) : Type 0 where
  pub is : (given : List ℕ) → Gives given marks → (ss : List Stage) →
      fault_from K g given (may_of (eqb k 1) g given looks) room k (stage_with cells words n ∷ ss) ≡ or_else r (fault_from K g given (held_in K cells) (room - n) (suc k) ss)
  pub few : OnOk r (n ≤ room)
  pub at : OnOk r (WordsAt cells words n)

-- and the pins that its words hold have marks
pub record StepSays (K : ℕ) (g : List Node) (marks looks : List ℕ) (k : ℕ) (cells words : List ℕ) (n room : ℕ) (l l' : List ℕ) (r : Result (Unit {0}) Place) : Type 0 where
  pub says : StageSays K g marks looks k cells words n room r
  pub len : length l' ≡ length l
  pub each : OnOk r ((q : ℕ) → q < length l → marked l' q ≡ (marked l q || holds_in q cells (words_from n 0 words)))

-- ---- the loads of the next

abbrev pub stage_from : ℕ → ℕ → List ℕ → List ℕ
stage_from K at plan = take (2 ^ (K + 1)) (drop at plan)

-- the marks are those of pins that the stage before `at` holds; there is none before the first
pub record Held (K : ℕ) (plan : List ℕ) (at : ℕ) (looks : List ℕ) : Type 0 where
  pub size : length looks ≡ 65536
  pub none : at ≡ 0 → (n : ℕ) → marked looks n ≡ false
  pub some : (at ≡ 0 → ⊥) → (n : ℕ) → n < 65536 → marked looks n ≡ held_in K (stage_from K (at - 2 ^ (K + 1)) plan) n

pub record TurnAt (K : ℕ) (plan : List ℕ) (at : ℕ) (looks : List ℕ) : Type 0 where
  pub tall : High K
  pub whole : (at ≡ 0 → ⊥) → 2 ^ (K + 1) ≤ at
  pub here : at + 2 ^ (K + 1) ≤ length plan
  pub held : Held K plan at looks

pub record Forgets (looks : List ℕ) : Type 0 where
  pub size : length looks ≡ 65536
  pub none : (n : ℕ) → marked looks n ≡ false

-- ---- all stages

pub record PlanHere (K : ℕ) (gates plan counts : List ℕ) (n : ℕ) : Type 0 where
  pub tall : High K
  pub pins : pin_count gates ≤ 65536
  pub stages : n * 2 ^ (K + 1) ≤ length plan
  pub counted : n ≤ length counts

pub record FirstAt (K : ℕ) (gates plan counts : List ℕ) (n : ℕ) (looks written : List ℕ) : Type 0 where
  pub here : PlanHere K gates plan counts n
  pub held : Held K plan 0 looks
  pub size : length written ≡ 65536
  pub none : (q : ℕ) → marked written q ≡ false

pub record FirstSays (K : ℕ) (g : List Node) (marks plan words counts : List ℕ) (n room : ℕ) (written' : List ℕ) (r : Result (Unit {0}) Place) : Type 0 where
  pub is : (given : List ℕ) → Gives given marks → fault_from K g given (first_may g given) room 1 (cut n K plan words counts) ≡ fault_for r
  pub each : OnOk r ((q : ℕ) → q < 65536 → written_in q (cut n K plan words counts) ≡ marked written' q)

-- ---- the end of all

pub record LastAt (K : ℕ) (records : List ℕ) (count : Count) : Type 0 where
  pub tall : High K
  pub ends : EndsAt records
  pub counts : Counts (groups_of records) count
  pub few : Few count

pub record LastSays (K : ℕ) (records marks : List ℕ) (r : Result (Unit {0}) Place) : Type 0 where
  pub is : (ss : List Stage) → ((q : ℕ) → q < 65536 → written_in q ss ≡ marked marks q) → (m : ℕ) → m ≤ 65536 → Readable m records →
      fault_for r ≡ elim (last_right K (groups_of records) ss) [ true ↦ faultless | false ↦ fault_at 0 0 ]

pub record MarkedAt (K : ℕ) (gates records plan counts : List ℕ) (n : ℕ) (count : Count) (looks written : List ℕ) : Type 0 where
  pub here : PlanHere K gates plan counts n
  pub right : Readable (pin_count gates) records
  pub counted : Counts (groups_of records) count
  pub few : Few count
  pub held : Held K plan 0 looks
  pub size : length written ≡ 65536
  pub none : (q : ℕ) → marked written q ≡ false

pub record MarkedSays (K : ℕ) (gates marks records plan words counts : List ℕ) (n : ℕ) (r : Result (Unit {0}) Place) : Type 0 where
  pub is : (given : List ℕ) → Gives given marks → fault_for r ≡ fault K gates given records plan words counts n

pub record PlanAt (K : ℕ) (gates given records plan counts : List ℕ) (n : ℕ) (count : Count) : Type 0 where
  pub here : PlanHere K gates plan counts n
  pub right : Readable (pin_count gates) records
  pub counted : Counts (groups_of records) count
  pub few : Few count
  pub named : (q : ℕ) → In q given → q < pin_count gates

pub record PlanSays (K : ℕ) (gates given records plan words counts : List ℕ) (n : ℕ) (r : Result (Unit {0}) Place) : Type 0 where
  pub is : fault_for r ≡ fault K gates given records plan words counts n
