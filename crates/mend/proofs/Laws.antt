-- The sizes, what the checks establish, and the answers. Assumes nothing.
use Prim.Native.Nat.{ℕ, zero, suc, ◌+◌, ◌-◌, ◌*◌, ◌/◌, ◌^◌, ◌≤◌, ◌<◌}
use mathlib.Core.Path.{◌≡◌, refl, sym, ◌∙◌, ap}
use mathlib.Core.Bool.{Bool, true, false, ◌&&◌}
use mathlib.Core.List.{List, ◌++◌}
use native.Mathlib.Omega.{arith}
use native.Mathlib.Nat.{mul-le-mul_right}
use lib.Dec.{leb}
use lib.ListN.{length, take, drop, replicate}
use lib.Seq.{length-take-le}
use borrow.Author.Tests.{le-leb, lt-leb, leb-true, eqb-true}
use Rattle.rules.specs.Lists.{laid_over}
use Rattle.rules.specs.Cells.{is_height, rooms}
use Rattle.rules.specs.Checks.{plan_sized, refusal_of, pin_shown}
use Rattle.rules.proofs.Lists.Members.{split, and_true}
use Rattle.rules.proofs.Lists.Parts.{part_laid, divides}
use Rattle.cells.specs.Answers.{or_zero}
use Rattle.cells.proofs.Heights.{or_zero_true}
use Rattle.refusals.specs.declared.Refusal.{Refusal}
use Rattle.refusals.specs.declared.Refusal.TheVariants.{ShortList, WrongPlan}
use Rattle.refusals.specs.Numbers.{number_of}
use Rattle.refusals.proofs.Numbers.{number_is}
use Rattle.plan_check.specs.declared.Refused.{Refused}
use Rattle.checks.specs.Values.{Says}
use Rattle.checks.specs.Passed.{Passed}
use Rattle.checks.proofs.Laws.Passed.{passed}
use Rattle.placer_start.specs.declared.reservation.Count.{Count}
use Rattle.std.specs.Prelude.{Result, Ok, Err}
use Rattle.plan_check.specs.declared.stages.Place.{Place}
use Rattle.plan_check.specs.Stages as check
use Rattle.plan_check.specs.Stages.{fault_for}
use Rattle.plan_check.specs.Answers.{plan_fits}
use Rattle.plan_check.proofs.Laws.Loads.{high}
use Rattle.plan_check.proofs.Laws.Answers.{height_first}
use Rattle.mending.specs.Changes.{changes, numbers_of}
use Rattle.mending.specs.Call.{answer, rebuilt, listed, tested, mending, mender}
use Rattle.mending.proofs.Listed.{four_each}
use Rattle.mend_list.specs.Lists.{Counted, WriteAt}
use Rattle.mend_plan.specs.Plans as plans
use Rattle.mend.specs.Calls.{mend_fits, replied, outcome, Ready, SettleAt, Settles, JudgeAt, Rebuilds, Judges, MendAt, Mends}

-- ---- sizes

module _ (K plan counts work n : ℕ) (t : Bool) (et : t ≡ is_height K && plan_fits K plan counts n) where
  -- the plan or its counts are not
  pub fits_not : t ≡ false → false ≡ is_height K && mend_fits K plan counts work n
  unfolding mend_fits
  fits_not e = split (is_height K) (λ h. let d : plan_fits K plan counts n ≡ false = rw h at (sym et ∙ e) in rw (h, d)) (λ h. rw h)

  module _ (e : t ≡ true) where
    parts : (is_height K ≡ true) × (plan_fits K plan counts n ≡ true)
    parts = and_true (is_height K) (plan_fits K plan counts n) (sym et ∙ e)

    -- the work area is too small
    pub fits_work : work < plan → false ≡ is_height K && mend_fits K plan counts work n
    unfolding mend_fits
    fits_work h = rw (parts.0, parts.1, lt-leb plan work h)

    -- the rooms decide
    pub fits_rooms : plan ≤ work → (m : ℕ) → m ≡ or_zero (is_height K) (rooms K plan) → leb m 4294967295 ≡ is_height K && mend_fits K plan counts work n
    unfolding mend_fits
    fits_rooms h m em = let z : m ≡ rooms K plan = rw (parts.0, or_zero_true (rooms K plan)) at em in rw (z, parts.0, parts.1, le-leb plan work h)

-- ---- the list, and the plan

module _ (K : ℕ) (plan made list : List ℕ) (A : SettleAt K plan made) where
  module _ (n : ℕ) (C : Counted plan made n) where
    -- the list is too short
    pub settle_short : length list / 4 < n → Settles K plan made list plan list (Err (record { why = ShortList; stage = 0; position = 0 }))
    unfolding outcome replied listed answer
    settle_short h = record {
      is = λ work.
          let d : leb (length (numbers_of (changes K plan made))) (length list) ≡ false = lt-leb (length (numbers_of (changes K plan made))) (length list) (omega (arith, four_each (changes K plan made), C.is K)) in
          rw (listed, d);
    }

    -- it has room
    pub settle_listed : n ≤ length list / 4 → (list' : List ℕ) → list' ≡ laid_over (numbers_of (changes K plan made)) list → (plan' : List ℕ) → plan' ≡ made → Settles K plan made list plan' list' (Ok n)
    unfolding outcome replied listed answer
    settle_listed h list' el plan' ep = record {
      is = λ work.
          let d : leb (length (numbers_of (changes K plan made))) (length list) ≡ true = le-leb (length (numbers_of (changes K plan made))) (length list) (omega (arith, four_each (changes K plan made), C.is K)) in
          rw (el, ep, C.is K, listed, d);
    }

    -- all changes may be written
    pub write_at : n ≤ length list / 4 → WriteAt K plan made list
    write_at h = record { height = A.height; same = A.same; high = A.high; stages = A.few; room = omega (arith, C.is K) }

-- ---- the rebuilt plan

module _ (K : ℕ) (gates given records plan words counts : List ℕ) (n : ℕ) (count : Count) (made : List ℕ) (A : JudgeAt K gates given records plan counts n count made) where
  checkable : (xs : List ℕ) → length xs ≡ length plan → check.PlanAt K gates given records xs counts n count
  checkable xs e = record {
    here = record { tall = A.ready.here.tall; pins = A.ready.here.pins; stages = omega (arith, A.ready.here.stages); counted = A.ready.here.counted };
    right = A.ready.right;
    counted = A.counted.counts;
    few = A.counted.few;
    named = A.ready.named;
  }

  -- it has no fault
  pub judge_none : (list : List ℕ) {u : Unit {0}} → check.PlanSays K gates given records plan words counts n (Ok u) → Judges K gates given records plan words counts n list plan list (Ok 0)
  unfolding outcome replied mending answer fault_for
  judge_none list S = record { is = λ work. rw (← S.is) }

  -- it has one
  pub judge_fault : (list : List ℕ) (p : Place) → check.PlanSays K gates given records plan words counts n (Err p) → (plan' list' : List ℕ) (r : Result ℕ Refused) → Rebuilds K gates given records plan words counts n list plan' list' r → Judges K gates given records plan words counts n list plan' list' r
  unfolding mending fault_for
  judge_fault list p S plan' list' r R = record { is = λ work. R.is work ∙ rw (← S.is) }

  module _ (made₁ : List ℕ) (e₁ : made₁ ≡ plan) where
    module _ (made₂ : List ℕ) (P : plans.PlanSays K gates given made₁ n made₂) where
      made_is : made₂ ≡ rebuilt K gates given plan words counts n
      made_is = rw e₁ at (P.is words counts)

      made_long : length made₂ ≡ length plan
      made_long = P.len ∙ ap length e₁

      -- it may be checked
      pub recheck_at : check.PlanAt K gates given records made₂ counts n count
      recheck_at = checkable made₂ made_long

      -- and take the plan's place
      pub settle_at : SettleAt K plan made₂
      settle_at = record { height = A.ready.here.tall.height; high = omega (arith, A.ready.here.tall.double, A.ready.here.tall.high); same = made_long; few = A.ready.few }

      -- it has a fault
      pub rebuild_fault : (list : List ℕ) (p : Place) → check.PlanSays K gates given records made₂ words counts n (Err p) → Rebuilds K gates given records plan words counts n list plan list (Err (record { why = WrongPlan; stage = p.stage; position = p.position }))
      unfolding outcome replied tested answer fault_for
      rebuild_fault list p S = record { is = λ work. rw (← made_is, ← S.is) }

      -- it has none
      pub rebuild_settled : (list : List ℕ) {u : Unit {0}} → check.PlanSays K gates given records made₂ words counts n (Ok u) → (plan' list' : List ℕ) (r : Result ℕ Refused) → Settles K plan made₂ list plan' list' r → Rebuilds K gates given records plan words counts n list plan' list' r
      unfolding tested fault_for
      rebuild_settled list S plan' list' r T = record { is = λ work. T.is work ∙ rw (← made_is, ← S.is) }

-- ---- the part of the work area

module _ (K : ℕ) (gates given records plan words counts : List ℕ) (n : ℕ) (list made : List ℕ) (A : MendAt K gates given records plan counts n made) where
  pub mends : (plan' list' : List ℕ) (r : Result ℕ Refused) → Judges K gates given records plan words counts n list plan' list' r → (x made' : List ℕ) → made' ≡ replicate (length x) 0 → length x ≡ length made → Mends K gates given records plan words counts n list made plan' list' made' r
  mends plan' list' r J x made' e l = record { judges = J; zero = rw l at e }

-- ---- the call

module _ (K : ℕ) (gates given records plan words counts list work : List ℕ) (n : ℕ) (s : Bool) (es : s ≡ is_height K && mend_fits K (length plan) (length counts) (length work) n) where
  abbrev right : Bool
  right = mend_fits K (length plan) (length counts) (length work) n

  is_right : refusal_of K s gates given records ≡ refusal_of K right gates given records
  is_right = ap (λ (b : Bool). refusal_of K b gates given records) es ∙ height_first K right gates given records

  refused_at_lem : (m : ℕ) → m ≡ refusal_of K right gates given records → (m ≡ 0 → ⊥) → mender K (length plan) right gates given records plan words counts list work n ≡ record { reply = record { number = m; stage = 0; position = 0; pin = pin_shown m gates; count = 0 }; plan = plan; list = list; work = work }
  unfolding mender
  refused_at_lem zero e d = absurd (d refl)
  refused_at_lem (suc m) e d = rw (← e, mender)

  -- what the checks refuse changes nothing
  pub call_refused : (w : Refusal) → Says {A = Unit {0}} (refusal_of K s gates given records) gates (Err w) → outcome (Err (record { why = w; stage = 0; position = 0 })) plan list work ≡ mender K (length plan) right gates given records plan words counts list work n
  unfolding outcome replied
  call_refused w S = sym (refused_at_lem (number_of w) (S.number ∙ is_right) (number_is w) ∙ (λ i. record { reply = record { number = number_of w; stage = 0; position = 0; pin = sym (S.pin ∙ ap (λ (m : ℕ). pin_shown m gates) (sym S.number)) i; count = 0 }; plan = plan; list = list; work = work }))

  module _ {u : Unit {0}} (S : Says (refusal_of K s gates given records) gates (Ok u)) where
    passes : refusal_of K right gates given records ≡ 0
    passes = sym (S.number ∙ is_right)

    P : Passed K right gates given records
    P = passed K right gates given records passes

    sizes : (plan_sized K (length plan) ≡ true) × (n ≤ rooms K (length plan)) × (n ≤ length counts) × (length plan ≤ length work) × (rooms K (length plan) ≤ 4294967295)
    unfolding mend_fits plan_fits
    sizes =
        let a = and_true (plan_fits K (length plan) (length counts) n) (leb (length plan) (length work) && leb (rooms K (length plan)) 4294967295) P.areas in
        let b = and_true (leb (length plan) (length work)) (leb (rooms K (length plan)) 4294967295) a.1 in
        let c = and_true (plan_sized K (length plan) && leb n (rooms K (length plan))) (leb n (length counts)) a.0 in
        let d = and_true (plan_sized K (length plan)) (leb n (rooms K (length plan))) c.0 in
        (d.0, leb-true _ _ d.1, leb-true _ _ c.1, leb-true _ _ b.0, leb-true _ _ b.1)

    ready : Ready K gates given records plan counts n
    unfolding rooms plan_sized
    ready =
        let whole : length plan ≡ length plan / 2 ^ (K + 1) * 2 ^ (K + 1) = divides (length plan) (2 ^ (K + 1)) (eqb-true _ _ sizes.0) in
        record {
          here = record { tall = high K P.height; pins = P.few; stages = omega (arith, mul-le-mul_right (2 ^ (K + 1)) sizes.1, whole); counted = sizes.2 };
          right = record { short = P.short; readable = P.readable; named = P.named };
          named = P.given_named;
          valid = P.valid;
          few = omega (arith, mul-le-mul_right (2 ^ (K + 1)) sizes.4, whole);
        }

    -- the numbers that count lie in the area
    pub work_inside : length plan ≤ length work
    work_inside = sizes.3

    pub mend_at_work : MendAt K gates given records plan counts n (take (length plan - 0) (drop 0 work))
    mend_at_work = record { ready = ready; same = length-take-le (length plan - 0) work (omega (arith, work_inside)) ∙ omega arith }

    -- what is mended there is told, with the rest of the area as it was
    pub call_mended : (plan' list' made' : List ℕ) (r : Result ℕ Refused) → Mends K gates given records plan words counts n list (take (length plan - 0) (drop 0 work)) plan' list' made' r → length made' ≡ length (take (length plan - 0) work) →
        outcome r plan' list' (made' ++ drop (length plan - 0) (drop 0 work)) ≡ mender K (length plan) right gates given records plan words counts list work n
    unfolding mender
    call_mended plan' list' made' r M l =
        let y : made' ++ drop (length plan - 0) work ≡ laid_over (replicate (length plan) 0) work = part_laid (length plan - 0) work made' (omega (arith, work_inside)) l ∙ ap (λ (x : List ℕ). laid_over x work) (M.zero ∙ ap (λ (i : ℕ). replicate i 0) mend_at_work.same) in
        rw (y, mender, passes) (M.judges.is (laid_over (replicate (length plan) 0) work))
