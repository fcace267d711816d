-- What an answer of the check means. Assumes nothing.
use Prim.Native.Nat.{ℕ, zero, suc, ◌+◌, ◌-◌, ◌*◌, ◌≤◌, ◌<◌}
use mathlib.Core.Path.{◌≡◌, refl, sym, ◌∙◌, ap}
use mathlib.Core.Logic.{◌⊎◌, inl, inr}
use mathlib.Core.Bool.{Bool, true, false, ◌&&◌}
use mathlib.Core.List.{List, [], ◌∷◌}
use native.Mathlib.Omega.{arith}
use lib.Dec.{leb}
use lib.ListN.{length, get_or, length-append}
use borrow.Author.Tests.{leb-true, le-leb}
use Rattle.rules.specs.Cells.{empty, filled, stage_size, rooms, word_limit}
use Rattle.rules.specs.Graph.{graph_of}
use Rattle.rules.specs.Records.{groups_of, Ends}
use Rattle.rules.specs.Reservation.{reserved}
use Rattle.rules.specs.Checks.{plan_sized, areas_sized, refusal_of}
use Rattle.rules.specs.Coded.{cell_pin, fold_cells}
use Rattle.rules.specs.Fold.{as_number}
use Rattle.rules.specs.Build as build
use Rattle.rules.specs.Faults as rules
use Rattle.rules.specs.Faults.{Fault, faultless, fault_at, first_may, fault_from, last_right, cut}
use Rattle.rules.proofs.Lists.Members.{and_true}
use Rattle.coded.specs.Inputs.{Input, graph_value}
use Rattle.coded.specs.Reading.{Read}
use Rattle.coded.specs.Faults.{Faulty}
use Rattle.coded.proofs.Reading.{fault_cases, accepted_folds, accepted_read}
use Rattle.coded.proofs.Real.{fault_real}
use Rattle.coded.proofs.Complete.{built_accepted}
use Rattle.checks.specs.Passed.{Passed}
use Rattle.checks.proofs.Laws.Passed.{passed}
use Rattle.plan_check.specs.Answers.{plan_fits, Checked, judged, plan_checker, outcome}
use Rattle.theorems.proofs.Calls as theorems
use Rattle.theorems.specs.Inputs as inputs
use Rattle.theorems.proofs.Folding.{few, area_length}
use Rattle.plan_checked.specs.Calls.{Check, told, refused, fault, input}

-- ---- the answer's number

number_refused : (C : Check) (n : ℕ) → refused C ≡ suc n → (told C).number ≡ suc n
unfolding outcome plan_checker
number_refused C n e = ap (λ (o : Checked). o.number) (rw (e, plan_checker) at C.ensures)

judged_fault : (C : Check) → refused C ≡ 0 → outcome C.answer ≡ judged (fault C)
unfolding plan_checker
judged_fault C e = rw (e, plan_checker) at C.ensures

-- a number that is no refusal's passed the checks
passes : (C : Check) (n : ℕ) → (told C).number ≡ n → (n ≡ 0) ⊎ (n ≡ 22) → refused C ≡ 0
passes C n z k = go (refused C) refl
  where
    go : (m : ℕ) → refused C ≡ m → m ≡ 0
    go zero e = refl
    go (suc m) e = absurd (elim (theorems.checked_few C.height (plan_fits C.height (length C.plan) (length C.counts) C.stages) C.gates C.given C.records) [
      | inl a ↦ elim k [ inl d ↦ omega (arith, number_refused C m e) | inr d ↦ omega (arith, number_refused C m e) ]
      | inr a ↦ elim k [ inl d ↦ omega (arith, number_refused C m e) | inr d ↦ omega (arith, number_refused C m e) ]
    ])

-- ---- an accepted plan

-- An answer of 0 passed the checks, and the plan has no fault.
pub accepted : (C : Check) → (told C).number ≡ 0 → (refused C ≡ 0) × (fault C ≡ faultless)
unfolding outcome judged
accepted C z =
    let e = passes C 0 z (inl refl) in
    let E = judged_fault C e in
    (e, fault_cases (fault C) (λ a. a) (λ k p a. absurd (let d : 22 ≡ 0 = sym (ap (λ (o : Checked). o.number) (E ∙ ap judged a)) ∙ z in omega arith)))

module _ (C : Check) (z : (told C).number ≡ 0) where
  abbrev I : Input
  I = input C (accepted C z).0

  stages_there : C.stages ≤ rooms C.height (length C.plan)
  unfolding plan_fits
  stages_there =
      let P = passed C.height (plan_fits C.height (length C.plan) (length C.counts) C.stages) C.gates C.given C.records (accepted C z).0 in
      let a = and_true (plan_sized C.height (length C.plan) && leb C.stages (rooms C.height (length C.plan))) (leb C.stages (length C.counts)) P.areas in
      leb-true _ _ (and_true (plan_sized C.height (length C.plan)) (leb C.stages (rooms C.height (length C.plan))) a.0).1

  -- For any leaf and given bits every filled cell of its stages folds to its pin's graph value,
  pub accepted_cells : (bits : List ℕ) (i p : ℕ) → i < C.stages → 1 ≤ p → p < stage_size C.height → filled (get_or C.plan (i * stage_size C.height + p) empty) ≡ true →
      get_or (fold_cells C.height C.plan bits) (i * stage_size C.height + p) 0 ≡ as_number (graph_value I bits (cell_pin (get_or C.plan (i * stage_size C.height + p) empty)))
  accepted_cells bits i p b low high f = accepted_folds I C.plan C.words C.counts C.stages stages_there (accepted C z).1 bits i p b low high f

  -- and reading its written words gives every endpoint's graph value.
  pub accepted_endpoints : (bits : List ℕ) (q : ℕ) → 0 < q → Ends q (groups_of C.records) →
      Read C.height C.stages C.plan C.words C.counts (fold_cells C.height C.plan bits) q (as_number (graph_value I bits q))
  accepted_endpoints bits q b i = accepted_read I C.plan C.words C.counts C.stages stages_there (accepted C z).1 bits q b i

-- ---- a fault

-- An answer of 22 is a fault of that stage at that position, the first in the order; or, where no stage has one, the reservation is over or an
-- endpoint is not written.
pub real : (C : Check) → (told C).number ≡ 22 →
    Faulty C.height (graph_of C.gates) C.given (first_may (graph_of C.gates) C.given) (word_limit C.height - reserved (groups_of C.records)) 1
    (cut C.stages C.height C.plan C.words C.counts) (told C).stage (told C).position
    ⊎ ((fault_from C.height (graph_of C.gates) C.given (first_may (graph_of C.gates) C.given) (word_limit C.height - reserved (groups_of C.records)) 1
    (cut C.stages C.height C.plan C.words C.counts) ≡ faultless)
    × (last_right C.height (groups_of C.records) (cut C.stages C.height C.plan C.words C.counts) ≡ false) × ((told C).stage ≡ 0) × ((told C).position ≡ 0))
unfolding outcome judged rules.fault
real C z =
    let E = judged_fault C (passes C 22 z (inr refl)) in
    fault_real C.height (graph_of C.gates) C.given (groups_of C.records) (cut C.stages C.height C.plan C.words C.counts) (told C).stage (told C).position
    (fault_cases (fault C)
    (λ a. absurd (let d : 0 ≡ 22 = sym (ap (λ (o : Checked). o.number) (E ∙ ap judged a)) ∙ z in omega arith))
    (λ k p a.
    let s : (told C).stage ≡ k = ap (λ (o : Checked). o.stage) (E ∙ ap judged a) in
    let t : (told C).position ≡ p = ap (λ (o : Checked). o.position) (E ∙ ap judged a) in
    rw (s, t) a))

-- ---- what the placer built

same_fault : (K : ℕ) (gates given records : List ℕ) {p q w v c d : List ℕ} {n m : ℕ} → p ≡ q → w ≡ v → c ≡ d → n ≡ m →
    rules.fault K gates given records q v d m ≡ faultless → rules.fault K gates given records p w c n ≡ faultless
same_fault K gates given records ep ew ec en h = rw (ep, ew, ec, en) h

module _ (B : theorems.Call) (W : theorems.Whole B) where
  own_faultless : rules.fault B.height B.gates B.given B.records B.exit.plan B.exit.words B.exit.counts (theorems.reply B).stages ≡ faultless
  own_faultless = same_fault B.height B.gates B.given B.records W.plan W.words W.counts W.stages
      (built_accepted B.rule (inputs.plain (theorems.input B W.passes)) (length B.entry.plan) W.ss W.built W.behind W.after)

  abbrev sized : Bool
  sized = build.sizes_right B.height B.gates B.records B.entry

  all : Passed B.height sized B.gates B.given B.records
  all = passed B.height sized B.gates B.given B.records W.passes

  plan_length : length B.exit.plan ≡ length B.entry.plan
  plan_length = ap length W.plan ∙ area_length (theorems.input B W.passes) (length B.entry.plan) W.ss W.built

  entry_sized : plan_sized B.height (length B.entry.plan) ≡ true
  unfolding build.sizes_right areas_sized
  entry_sized =
      let p = plan_sized B.height (length B.entry.plan) in
      let a = and_true (p && leb (word_limit B.height) (length B.entry.words) && leb (rooms B.height (length B.entry.plan)) (length B.entry.counts)) _ all.areas in
      let b = and_true (p && leb (word_limit B.height) (length B.entry.words)) _ a.0 in
      (and_true p _ b.0).0

  counts_length : (ss : List build.Stage) → length (build.counts_of ss) ≡ length ss
  unfolding build.counts_of
  counts_length [] = refl
  counts_length (s ∷ ss) = ap suc (counts_length ss)

  own_sized : plan_fits B.height (length B.exit.plan) (length B.exit.counts) (theorems.reply B).stages ≡ true
  unfolding plan_fits
  own_sized =
      let f = few (theorems.input B W.passes) (length B.entry.plan) W.ss W.built in
      let c : length W.ss ≤ length B.exit.counts = omega (arith, ap length W.counts ∙ length-append (build.counts_of W.ss) W.after, counts_length W.ss) in
      rw (plan_length, entry_sized, W.stages, le-leb (length W.ss) (rooms B.height (length B.entry.plan)) f, le-leb (length W.ss) (length B.exit.counts) c)

  own_passes : refusal_of B.height (plan_fits B.height (length B.exit.plan) (length B.exit.counts) (theorems.reply B).stages) B.gates B.given B.records ≡ 0
  own_passes = ap (λ (b : Bool). refusal_of B.height b B.gates B.given B.records) (own_sized ∙ sym all.areas) ∙ W.passes

-- What a build left with an answer of 0, under either word rule, is answered 0 at the same height, gates, given pins and records, with its stages.
pub built_checks : (B : theorems.Call) → (theorems.reply B).number ≡ 0 → (C : Check) → C.height ≡ B.height → C.gates ≡ B.gates → C.given ≡ B.given → C.records ≡ B.records →
    C.plan ≡ B.exit.plan → C.words ≡ B.exit.words → C.counts ≡ B.exit.counts → C.stages ≡ (theorems.reply B).stages → (told C).number ≡ 0
unfolding outcome judged
built_checks B z C eh eg ev er ep ew ec es =
    let W = theorems.whole B z in
    let e : refused C ≡ 0 = rw (eh, eg, ev, er, ep, ec, es) (own_passes B W) in
    let f : fault C ≡ faultless = rw (eh, eg, ev, er, ep, ew, ec, es) (own_faultless B W) in
    ap (λ (o : Checked). o.number) (judged_fault C e ∙ ap judged f)
