-- The checks of a call, in their order. Assumes nothing.
use Prim.Native.Nat.{ℕ, zero, suc}
use mathlib.Core.Path.{◌≡◌, refl, sym, ◌∙◌, ap}
use mathlib.Core.Logic.{◌≢◌}
use mathlib.Core.Bool.{Bool, true, ◌&&◌}
use mathlib.Core.List.{List}
use native.Mathlib.Omega.{arith}
use lib.ListN.{length}
use Rattle.rules.specs.Cells.{is_height}
use Rattle.rules.specs.Checks.{pin_shown, refusal_of}
use Rattle.rules.specs.Faults.{Fault, faultless, fault_at, fault}
use Rattle.rules.proofs.Lists.Members.{and_true}
use Rattle.std.specs.Prelude.{Result, Ok, Err}
use Rattle.refusals.specs.declared.Refusal.{Refusal}
use Rattle.refusals.specs.Numbers.{number_of, pin_of, number_said}
use Rattle.refusals.proofs.Numbers.{number_is}
use Rattle.checks.specs.Values.{Says}
use Rattle.checks.proofs.Laws.Passed as checks
use Rattle.checks.proofs.Laws.Refusing.{height_first}
use Rattle.replay_form.specs.Calls as form
use Rattle.replay_form.specs.Calls.{later_refusal}
use Rattle.replay.specs.Answers.{job}
use Rattle.replay.proofs.Laws.Checked.{later_pin}
use Rattle.plan_check.specs.declared.Refused.{Refused}
use Rattle.plan_check.specs.Answers as check
use Rattle.plan_check.specs.Answers.{plan_fits, Checked, judged, plan_checker}
use Rattle.replay_finished.specs.Calls.{Plan, Lent, Outcome, finished_sized, finished_right, finished_refusal, ran_lent, judged_run, finished_replay}
use Rattle.replay_finished.specs.Answers.{handed, lent, outcome, AcceptedIn}

some : (n : ℕ) → n ≢ 0 → (k : ℕ) × (n ≡ suc k)
some zero h = absurd (h refl)
some (suc k) h = (k, refl)

module _ (K : ℕ) (gates given records driven starting : List ℕ) (lines : ℕ) (recording plan words counts : List ℕ) (n : ℕ) (work tape slots bits out end : List ℕ) where
  abbrev J : form.Job
  J = record { height = K; gates = gates; given = given; records = records; driven = driven; starting = starting; lines = lines; recording = recording }

  abbrev p : Plan
  p = record { plan = plan; words = words; counts = counts; stages = n }

  abbrev a : Lent
  a = record { work = work; tape = tape; slots = slots; bits = bits; out = out; end = end }

  refusing : (m : ℕ) → finished_refusal J p a ≡ suc m → (r : Result (Unit {0}) Refused) → check.outcome r ≡ record { number = suc m; stage = 0; position = 0; pin = pin_shown (suc m) gates } →
      outcome r work tape slots bits out end ≡ finished_replay (job K gates given records driven starting lines recording) (handed plan words counts n) (lent work tape slots bits out end)
  unfolding outcome lent handed job finished_replay
  refusing m e r t = rw (e, finished_replay, t)

  abbrev RHS : Outcome
  RHS = finished_replay (job K gates given records driven starting lines recording) (handed plan words counts n) (lent work tape slots bits out end)

  module _ (b : Bool) (eb : b ≡ (is_height K && finished_sized K gates records (length plan) (length counts) n (length work) (length tape) (length slots) (length bits))) where
    first_is : {A : Type 0} {v : Result A Refusal} → Says (refusal_of K b gates given records) gates v → number_said v ≡ refusal_of K (finished_right J p a) gates given records
    unfolding finished_right
    first_is S = S.number ∙ height_first K _ gates given records b eb

    -- one of 1 to 5 or 23 refuses
    pub refused_first : {A : Type 0} {e : Refusal} → Says {A = A} (refusal_of K b gates given records) gates (Err e) →
        outcome (Err (record { why = e; stage = 0; position = 0 })) work tape slots bits out end ≡ RHS
    unfolding finished_refusal check.outcome
    refused_first {e = e} S =
        let k = some (number_of e) (number_is e) in
        let q : refusal_of K (finished_right J p a) gates given records ≡ suc k.0 = sym (first_is S) ∙ k.1 in
        let s : pin_of e ≡ pin_shown (suc k.0) gates = S.pin ∙ ap (λ (i : ℕ). pin_shown i gates) (sym S.number ∙ k.1) in
        refusing k.0 (rw (q, finished_refusal)) _ (λ i. record { number = k.1 i; stage = 0; position = 0; pin = s i })

    module _ {A : Type 0} {x : A} (S : Says (refusal_of K b gates given records) gates (Ok x)) where
      first_passed : refusal_of K (finished_right J p a) gates given records ≡ 0
      first_passed = sym (first_is S)

      later_is : finished_refusal J p a ≡ later_refusal gates given records driven (length starting) lines (length recording) (length out) (length end)
      unfolding finished_refusal
      later_is = rw (first_passed, finished_refusal)

      -- one of 18, 19, 20 and 17 refuses
      pub refused_later : (e : Refusal) → number_of e ≡ later_refusal gates given records driven (length starting) lines (length recording) (length out) (length end) → pin_of e ≡ 0 →
          outcome (Err (record { why = e; stage = 0; position = 0 })) work tape slots bits out end ≡ RHS
      unfolding check.outcome
      refused_later e el ep =
          let k = some (number_of e) (number_is e) in
          let q : pin_shown (suc k.0) gates ≡ 0 = ap (λ (i : ℕ). pin_shown i gates) (sym k.1 ∙ el) ∙ later_pin gates given records driven (length starting) lines (length recording) (length out) (length end) in
          refusing k.0 (later_is ∙ sym el ∙ k.1) _ (λ i. record { number = k.1 i; stage = 0; position = 0; pin = (ep ∙ sym q) i })

      module _ (d : 0 ≡ later_refusal gates given records driven (length starting) lines (length recording) (length out) (length end)) (r : Result (Unit {0}) Refused)
          (E : check.outcome r ≡ plan_checker K gates given records plan words counts n) where
        fits : plan_fits K (length plan) (length counts) n ≡ true
        unfolding finished_right finished_sized
        fits = (and_true (plan_fits K (length plan) (length counts) n) _ (and_true _ _ (checks.passed K (finished_right J p a) gates given records first_passed).areas).0).0

        -- the check of the plan refuses none of 1 to 5 and 23 either
        checked : refusal_of K (plan_fits K (length plan) (length counts) n) gates given records ≡ 0
        checked = ap (λ (x : Bool). refusal_of K x gates given records) (fits ∙ sym (checks.passed K (finished_right J p a) gates given records first_passed).areas) ∙ first_passed

        judged_is : check.outcome r ≡ judged (fault K gates given records plan words counts n)
        unfolding plan_checker
        judged_is = rw (checked, plan_checker) at E

        replayed : finished_replay J p a ≡ judged_run J p a (fault K gates given records plan words counts n)
        unfolding finished_replay
        replayed = let e : finished_refusal J p a ≡ 0 = later_is ∙ sym d in rw (e, finished_replay)

        number_zero : (check.outcome r).number ≡ 0 → (f : Fault) → fault K gates given records plan words counts n ≡ f → f ≡ faultless
        unfolding judged
        number_zero z faultless e = refl
        number_zero z (fault_at k q) e = absurd (let t : 0 ≡ 22 = sym z ∙ ap (λ (o : Checked). o.number) (judged_is ∙ ap judged e) in omega arith)

        -- it refuses with 22
        pub refused_plan : (check.outcome r).number ≢ 0 → outcome r work tape slots bits out end ≡ RHS
        unfolding outcome lent handed job judged_run judged
        refused_plan h = cases (fault K gates given records plan words counts n) refl
          where
            cases : (f : Fault) → fault K gates given records plan words counts n ≡ f → outcome r work tape slots bits out end ≡ finished_replay J p a
            cases faultless e = absurd (h (ap (λ (o : Checked). o.number) (judged_is ∙ ap judged e)))
            cases (fault_at k q) e = (λ i. record { reply = (judged_is ∙ ap judged e) i; lent = a }) ∙ sym (replayed ∙ ap (judged_run J p a) e)

        module _ (z : (check.outcome r).number ≡ 0) where
          right : fault K gates given records plan words counts n ≡ faultless
          right = number_zero z (fault K gates given records plan words counts n) refl

          -- or accepts it
          pub accepted_in : AcceptedIn K gates given records driven starting lines recording plan words counts n work tape slots bits out end
          unfolding job handed lent
          accepted_in = record { passes = later_is ∙ sym d; right = right }

          -- and it is run
          pub ran : (w t s b o e : List ℕ) → lent w t s b o e ≡ ran_lent (job K gates given records driven starting lines recording) (handed plan words counts n) (lent work tape slots bits out end) →
              outcome r w t s b o e ≡ RHS
          unfolding outcome job handed lent judged_run
          ran w t s b o e L = (λ i. record { reply = (judged_is ∙ ap judged right) i; lent = L i }) ∙ sym (replayed ∙ ap (judged_run J p a) right)

-- an accepted plan is told with 0
pub told_none : (u : Unit {0}) → (check.outcome (Ok u)).number ≡ 0
unfolding check.outcome
told_none u = refl

-- a refused one is not
pub told_some : (e : Refused) → (check.outcome (Err e)).number ≢ 0
unfolding check.outcome
told_some e z = number_is e.why z
