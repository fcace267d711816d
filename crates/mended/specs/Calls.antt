-- A call that mends a plan. Assumes nothing.
use Rattle.std.specs.Prelude.{ℕ, Result, ◌≡◌, Bool, List, length}
use Rattle.rules.specs.Checks.{refusal_of}
use Rattle.rules.specs.Faults as rules
use Rattle.mending.specs.Call.{Reply, Outcome, mender}
use Rattle.plan_check.specs.declared.Refused.{Refused}
use Rattle.mend.specs.Calls.{mend_fits, replied, outcome}

-- what is handed in
pub record Call : Type 0 where
  pub height : ℕ
  pub gates : List ℕ
  pub given : List ℕ
  pub records : List ℕ
  pub plan : List ℕ
  pub words : List ℕ
  pub counts : List ℕ
  pub stages : ℕ
  pub list : List ℕ
  pub work : List ℕ

abbrev pub sized : Call → Bool
sized C = mend_fits C.height (length C.plan) (length C.counts) (length C.work) C.stages

-- the definition's outcome
abbrev pub mends : Call → Outcome
mends C = mender C.height (length C.plan) (sized C) C.gates C.given C.records C.plan C.words C.counts C.list C.work C.stages

-- answer and areas at exit, by the contract
pub record Mended (C : Call) : Type 0 where
  pub answer : Result ℕ Refused
  pub plan : List ℕ
  pub list : List ℕ
  pub work : List ℕ
  pub ensures : outcome answer plan list work ≡ mends C

-- what it answers, as the rules have it
abbrev pub reply : {C : Call} → Mended C → Reply
reply M = replied M.answer

-- the number of its first refusal by a check, or 0
abbrev pub refused : Call → ℕ
refused C = refusal_of C.height (sized C) C.gates C.given C.records

-- the first fault of a plan in the place of the one handed in
abbrev pub fault_in : Call → List ℕ → rules.Fault
fault_in C plan = rules.fault C.height C.gates C.given C.records plan C.words C.counts C.stages
