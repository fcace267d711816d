-- The whole call: what it answers, and what every lent area holds at exit. Assumes nothing.
use Rattle.std.specs.Prelude.{ℕ, zero, suc, Bool, true, false, List, leb, length, replicate}
use Rattle.rules.specs.Lists.{laid_over}
use Rattle.rules.specs.Graph.{graph_of}
use Rattle.rules.specs.Checks.{pin_shown, refusal_of}
use Rattle.rules.specs.Build.{cells_of}
use Rattle.rules.specs.Faults.{Fault, faultless, fault_at, cut, fault}
use Rattle.mending.specs.Mend.{mend_stages}
use Rattle.mending.specs.Changes.{Change, changes, numbers_of}

-- the answer: number, the place of 22, the pin shown (0 unless 23), and how many changes the list has (0 on refusal)
pub record Reply : Type 0 where
  pub number : ℕ
  pub stage : ℕ
  pub position : ℕ
  pub pin : ℕ
  pub count : ℕ

-- answer and areas together; words and counts are read only
pub record Outcome : Type 0 where
  pub reply : Reply
  pub plan : List ℕ
  pub list : List ℕ
  pub work : List ℕ

-- an answer that shows no pin
unfoldable pub answer : ℕ → ℕ → ℕ → ℕ → Reply
answer number stage position count = record { number = number; stage = stage; position = position; pin = 0; count = count }

-- the first n stages of the plan mended; what follows them stays
unfoldable pub rebuilt : ℕ → (gates given plan words counts : List ℕ) → ℕ → List ℕ
rebuilt K gates given plan words counts n = laid_over (cells_of (mend_stages K (graph_of gates) given (cut n K plan words counts))) plan

-- 24, or the new plan and the changes, laid over the list
unfoldable pub listed : (plan new list work : List ℕ) → List Change → Outcome
listed plan new list work cs =
    elim (leb (length (numbers_of cs)) (length list)) [
      | true ↦ record { reply = answer 0 0 0 (length cs); plan = new; list = laid_over (numbers_of cs) list; work = work }
      | false ↦ record { reply = answer 24 0 0 0; plan = plan; list = list; work = work }
    ]

-- 22 with the place of the mended plan's fault
unfoldable pub tested : ℕ → (plan new list work : List ℕ) → Fault → Outcome
tested K plan new list work (fault_at k p) = record { reply = answer 22 k p 0; plan = plan; list = list; work = work }
tested K plan new list work faultless = listed plan new list work (changes K plan new)

-- a plan without fault is left as it is
unfoldable pub mending : ℕ → (gates given records plan words counts list work : List ℕ) → ℕ → Fault → Outcome
mending K gates given records plan words counts list work n faultless = record { reply = answer 0 0 0 0; plan = plan; list = list; work = work }
mending K gates given records plan words counts list work n (fault_at k p) =
    let new = rebuilt K gates given plan words counts n in
    tested K plan new list work (fault K gates given records new words counts n)

-- the call: after 1 to 5 and 23 nothing is changed, after any other answer the work area is 0 as far as it counts, `need` numbers;
-- `sized` says whether every lent area has a right size
unfoldable pub mender : ℕ → ℕ → Bool → (gates given records plan words counts list work : List ℕ) → ℕ → Outcome
mender K need sized gates given records plan words counts list work n =
    elim (refusal_of K sized gates given records) [
      | zero ↦ mending K gates given records plan words counts list (laid_over (replicate need 0) work) n (fault K gates given records plan words counts n)
      | suc m ↦ record { reply = record { number = suc m; stage = 0; position = 0; pin = pin_shown (suc m) gates; count = 0 }; plan = plan; list = list; work = work }
    ]
