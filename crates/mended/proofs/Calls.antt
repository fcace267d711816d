-- What a call that mends leaves. Assumes nothing.
use Prim.Native.Nat.{ℕ, ◌+◌, ◌*◌, ◌≤◌, ◌<◌}
use mathlib.Core.Path.{◌≡◌, sym, ◌∙◌, ap}
use mathlib.Core.Logic.{◌⊎◌, inl, inr}
use mathlib.Core.Bool.{true, ◌&&◌}
use mathlib.Core.List.{List, ◌++◌}
use native.Mathlib.Omega.{arith}
use native.Mathlib.Nat.{mul-le-mul_right, div-mul-le_self}
use lib.Dec.{leb}
use lib.ListN.{length, get_or, take}
use borrow.Author.Tests.{leb-true, le-leb}
use Rattle.rules.specs.Cells.{empty, filled, stage_size, rooms}
use Rattle.rules.specs.Graph.{graph_of}
use Rattle.rules.specs.Records.{groups_of, Ends}
use Rattle.rules.specs.Checks.{plan_sized, refusal_of}
use Rattle.rules.specs.Coded.{cell_pin, fold_cells}
use Rattle.rules.specs.Fold.{as_number}
use Rattle.rules.specs.Lists.{padded}
use Rattle.rules.specs.Traversal.{WordRule}
use Rattle.rules.specs.Build.{Stage, whole, cells_of, words_of, counts_of, coded_stages}
use Rattle.rules.specs.Faults.{faultless, fault}
use Rattle.rules.proofs.Lists.Members.{and_true}
use Rattle.coded.specs.Inputs.{Input, built, graph_value}
use Rattle.coded.specs.Reading.{Read}
use Rattle.coded.proofs.Reading.{accepted_folds, accepted_read}
use Rattle.checks.proofs.Laws.Passed.{passed}
use Rattle.plan_check.specs.Answers as check
use Rattle.plan_check.specs.Answers.{plan_fits, judged, plan_checker}
use Rattle.std.specs.Prelude.{Result}
use Rattle.plan_check.specs.declared.Refused.{Refused}
use Rattle.mending.specs.Changes.{changes, changes_of, apply, undo}
use Rattle.mending.specs.Damage.{Damaged}
use Rattle.mending.specs.Call.{Outcome, answer, mender}
use Rattle.mending.proofs.Answers.{accepted_unchanged, refuses, keeps, mends, Ending, call_ends, zero_passes, zero_size, new_told, old_told}
use Rattle.mending.proofs.Recovered.{call_damaged}
use Rattle.mend.specs.Calls.{mend_fits, outcome}
use Rattle.theorems.proofs.Calls as theorems
use Rattle.mended.specs.Calls as calls
use Rattle.mended.specs.Calls.{Call, Mended, reply, sized, refused, fault_in}

module _ (C : Call) (M : Mended C) where
  -- what the definition says is left
  number_is : (reply M).number ≡ (calls.mends C).reply.number
  unfolding outcome
  number_is = ap (λ (o : Outcome). o.reply.number) M.ensures

  count_is : (reply M).count ≡ (calls.mends C).reply.count
  unfolding outcome
  count_is = ap (λ (o : Outcome). o.reply.count) M.ensures

  plan_is : M.plan ≡ (calls.mends C).plan
  unfolding outcome
  plan_is = ap (λ (o : Outcome). o.plan) M.ensures

  list_is : M.list ≡ (calls.mends C).list
  unfolding outcome
  list_is = ap (λ (o : Outcome). o.list) M.ensures

  -- A plan that the check accepts is left as it is, with an empty list.
  pub accepted_stays : refused C ≡ 0 → fault_in C C.plan ≡ faultless → ((reply M).number ≡ 0) × ((reply M).count ≡ 0) × (M.plan ≡ C.plan) × (M.list ≡ C.list)
  unfolding answer
  accepted_stays e f =
      let z = accepted_unchanged C.height (length C.plan) (sized C) C.gates C.given C.records C.plan C.words C.counts C.list C.work C.stages e f in
      (number_is ∙ ap (λ (o : Outcome). o.reply.number) z, count_is ∙ ap (λ (o : Outcome). o.reply.count) z, plan_is ∙ ap (λ (o : Outcome). o.plan) z, list_is ∙ ap (λ (o : Outcome). o.list) z)

  -- Any number but 0 leaves plan and list as they were.
  pub refused_stays : ((reply M).number ≡ 0 → ⊥) → (M.plan ≡ C.plan) × (M.list ≡ C.list)
  unfolding answer
  refused_stays d = go (call_ends C.height (length C.plan) (sized C) C.gates C.given C.records C.plan C.words C.counts C.list C.work C.stages)
    where
      go : Ending C.height (length C.plan) (sized C) C.gates C.given C.records C.plan C.words C.counts C.list C.work C.stages → (M.plan ≡ C.plan) × (M.list ≡ C.list)
      go (refuses a p l c) = (plan_is ∙ p, list_is ∙ l)
      go (keeps c e z) = absurd (d (number_is ∙ ap (λ (o : Outcome). o.reply.number) z))
      go (mends c e z) = absurd (d (number_is ∙ ap (λ (o : Outcome). o.reply.number) z))

  -- ---- an answer of 0

  module _ (z : (reply M).number ≡ 0) where
    zeroed : (calls.mends C).reply.number ≡ 0
    zeroed = sym number_is ∙ z

    -- It passed the checks, and the plan that is left has no fault.
    pub mended_passes : (refused C ≡ 0) × (fault_in C M.plan ≡ faultless)
    mended_passes =
        let t = zero_passes C.height (length C.plan) (sized C) C.gates C.given C.records C.plan C.words C.counts C.list C.work C.stages zeroed in
        (t.0, ap (fault_in C) plan_is ∙ t.1)

    fits : plan_fits C.height (length C.plan) (length C.counts) C.stages ≡ true
    unfolding mend_fits
    fits =
        let P = passed C.height (sized C) C.gates C.given C.records mended_passes.0 in
        (and_true (plan_fits C.height (length C.plan) (length C.counts) C.stages) (leb (length C.plan) (length C.work) && leb (rooms C.height (length C.plan)) 4294967295) P.areas).0

    stages_there : C.stages ≤ rooms C.height (length C.plan)
    unfolding plan_fits
    stages_there =
        let a = and_true (plan_sized C.height (length C.plan) && leb C.stages (rooms C.height (length C.plan))) (leb C.stages (length C.counts)) fits in
        leb-true _ _ (and_true (plan_sized C.height (length C.plan)) (leb C.stages (rooms C.height (length C.plan))) a.0).1

    inside : C.stages * stage_size C.height ≤ length C.plan
    unfolding rooms
    inside = omega (arith, mul-le-mul_right (stage_size C.height) stages_there, div-mul-le_self (length C.plan) (stage_size C.height))

    long : length M.plan ≡ length C.plan
    long = ap length plan_is ∙ zero_size C.height (length C.plan) (sized C) C.gates C.given C.records C.plan C.words C.counts C.list C.work C.stages zeroed inside

    still : C.stages ≤ rooms C.height (length M.plan)
    still = rw long stages_there

    -- So the check of plans accepts it.
    pub mended_accepted : (a : Result (Unit {0}) Refused) → check.outcome a ≡ plan_checker C.height C.gates C.given C.records M.plan C.words C.counts C.stages → (check.outcome a).number ≡ 0
    unfolding check.outcome plan_checker judged
    mended_accepted a e =
        let s : plan_fits C.height (length M.plan) (length C.counts) C.stages ≡ sized C = rw long (fits ∙ sym (passed C.height (sized C) C.gates C.given C.records mended_passes.0).areas) in
        let r : refusal_of C.height (plan_fits C.height (length M.plan) (length C.counts) C.stages) C.gates C.given C.records ≡ 0 = rw s mended_passes.0 in
        let y : plan_checker C.height C.gates C.given C.records M.plan C.words C.counts C.stages ≡ judged faultless = rw (plan_checker, r, mended_passes.1) in
        ap (λ (o : check.Checked). o.number) (e ∙ y)

    -- The list and the two plans tell each other.
    pub new_from_old : apply C.height (changes_of (take (4 * (reply M).count) M.list)) C.plan ≡ M.plan
    new_from_old = rw (count_is, list_is, plan_is) (new_told C.height (length C.plan) (sized C) C.gates C.given C.records C.plan C.words C.counts C.list C.work C.stages zeroed inside)

    pub old_from_new : undo C.height (changes_of (take (4 * (reply M).count) M.list)) M.plan ≡ C.plan
    old_from_new = rw (count_is, list_is, plan_is) (old_told C.height (length C.plan) (sized C) C.gates C.given C.records C.plan C.words C.counts C.list C.work C.stages zeroed inside)

    abbrev input : Input
    input = record { K = C.height; sized = sized C; gates = C.gates; given = C.given; records = C.records; passes = mended_passes.0 }

    -- For any leaf and given bits every filled cell of its stages folds to its pin's graph value,
    pub mended_cells : (bits : List ℕ) (i p : ℕ) → i < C.stages → 1 ≤ p → p < stage_size C.height → filled (get_or M.plan (i * stage_size C.height + p) empty) ≡ true →
        get_or (fold_cells C.height M.plan bits) (i * stage_size C.height + p) 0 ≡ as_number (graph_value input bits (cell_pin (get_or M.plan (i * stage_size C.height + p) empty)))
    mended_cells bits = accepted_folds input M.plan C.words C.counts C.stages still mended_passes.1 bits

    -- and reading its written words gives every endpoint's graph value.
    pub mended_endpoints : (bits : List ℕ) (q : ℕ) → 0 < q → Ends q (groups_of C.records) →
        Read C.height C.stages M.plan C.words C.counts (fold_cells C.height M.plan bits) q (as_number (graph_value input bits q))
    mended_endpoints bits = accepted_read input M.plan C.words C.counts C.stages still mended_passes.1 bits

-- another call, on another plan and other areas
abbrev pub again : Call → (plan list work : List ℕ) → Call
again C plan list work =
    record { height = C.height; gates = C.gates; given = C.given; records = C.records; plan = plan; words = C.words; counts = C.counts; stages = C.stages; list = list; work = work }

-- the areas of a second call are right too
again_passes : (C : Call) (M : Mended C) (z : (reply M).number ≡ 0) (list work : List ℕ) → length C.plan ≤ length work → refused (again C M.plan list work) ≡ 0
unfolding mend_fits
again_passes C M z list work h =
    let P = passed C.height (sized C) C.gates C.given C.records (mended_passes C M z).0 in
    let a = and_true (plan_fits C.height (length C.plan) (length C.counts) C.stages) (leb (length C.plan) (length C.work) && leb (rooms C.height (length C.plan)) 4294967295) P.areas in
    let r = and_true (leb (length C.plan) (length C.work)) (leb (rooms C.height (length C.plan)) 4294967295) a.1 in
    let s : mend_fits C.height (length M.plan) (length C.counts) (length work) C.stages ≡ sized C = rw (long C M z, a.0, le-leb (length C.plan) (length work) h, r.0, r.1) in
    rw s (mended_passes C M z).0

-- Mending what a call of 0 left changes nothing more.
pub mended_twice : (C : Call) (M : Mended C) → (reply M).number ≡ 0 → (list work : List ℕ) → (N : Mended (again C M.plan list work)) →
    length C.plan ≤ length work → ((reply N).number ≡ 0) × ((reply N).count ≡ 0) × (N.plan ≡ M.plan) × (N.list ≡ list)
mended_twice C M z list work N h =
    let D : Call = again C M.plan list work in
    accepted_stays D N (again_passes C M z list work h) (mended_passes C M z).1

-- ---- a damaged plan of the placer

-- what the definition leaves, wherever words and counts stand
recovered : (rule : WordRule) (I : Input) (L : ℕ) (ss : List Stage) → built rule I (rooms I.K L) ≡ whole ss → (more more' bad good words counts : List ℕ) (n need : ℕ) (list work : List ℕ) →
    good ≡ padded L empty (cells_of (coded_stages I.K (graph_of I.gates) ss)) →
    words ≡ words_of ss ++ more → counts ≡ counts_of ss ++ more' → n ≡ length ss →
    Damaged I.K (graph_of I.gates) I.given (coded_stages I.K (graph_of I.gates) ss) good bad → 4 * length (changes I.K bad good) ≤ length list →
    (o : Outcome) → o ≡ mender I.K need I.sized I.gates I.given I.records bad words counts list work n →
    (o.reply.number ≡ 0) × (((fault I.K I.gates I.given I.records bad words counts n ≡ faultless) × (o.plan ≡ bad)) ⊎ (o.plan ≡ good))
unfolding answer
recovered rule I L ss b more more' bad good words counts n need list work eg ew ec en D h o eo =
    let d = rw eg at D in
    let k : 4 * length (changes I.K bad (padded L empty (cells_of (coded_stages I.K (graph_of I.gates) ss)))) ≤ length list = rw eg at h in
    let p = rw (ew, ec, en) at eo in
    elim (call_damaged rule I L ss b more more' bad d need list work k) [
      | inl x ↦ let y = p ∙ x.1 in (ap (λ (q : Outcome). q.reply.number) y, inl (rw (ew, ec, en) x.0, ap (λ (q : Outcome). q.plan) y))
      | inr x ↦ let y = p ∙ x in (ap (λ (q : Outcome). q.reply.number) y, inr (ap (λ (q : Outcome). q.plan) y ∙ sym eg))
    ]

-- a call on what came back of what a build left
abbrev pub mend_built : theorems.Call → (bad list work : List ℕ) → Call
mend_built B bad list work =
    record {
      height = B.height;
      gates = B.gates;
      given = B.given;
      records = B.records;
      plan = bad;
      words = B.exit.words;
      counts = B.exit.counts;
      stages = (theorems.reply B).stages;
      list = list;
      work = work;
    }

-- What a build left with an answer of 0, damaged only in cells that a cell above fixes, or in kinds and inversions anywhere, comes back as the build
-- left it, or as it is where the check accepts it so: if no check refuses the call and the list is long enough.
pub built_recovered : (B : theorems.Call) (b : (theorems.reply B).number ≡ 0) (bad list work : List ℕ) →
    Damaged B.height (graph_of B.gates) B.given (coded_stages B.height (graph_of B.gates) (theorems.whole B b).ss) B.exit.plan bad →
    (M : Mended (mend_built B bad list work)) → refused (mend_built B bad list work) ≡ 0 → 4 * length (changes B.height bad B.exit.plan) ≤ length list →
    ((reply M).number ≡ 0) × (((fault_in (mend_built B bad list work) bad ≡ faultless) × (M.plan ≡ bad)) ⊎ (M.plan ≡ B.exit.plan))
unfolding outcome
built_recovered B b bad list work D M e h =
    let W = theorems.whole B b in
    recovered B.rule (record { K = B.height; sized = sized (mend_built B bad list work); gates = B.gates; given = B.given; records = B.records; passes = e })
    (length B.entry.plan) W.ss W.built W.behind W.after
    bad B.exit.plan B.exit.words B.exit.counts (theorems.reply B).stages (length bad) list work W.plan W.words W.counts W.stages D h (outcome M.answer M.plan M.list M.work) M.ensures
