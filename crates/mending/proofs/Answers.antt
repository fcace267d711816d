-- The whole call: each answer, what comes back with 0, and that the list tells it. Assumes nothing.
use Prim.Native.Nat.{ℕ, zero, suc, ◌+◌, ◌*◌, ◌≤◌, ◌<◌}
use mathlib.Core.Path.{◌≡◌, refl, sym, ◌∙◌, ap}
use mathlib.Core.Logic.{◌≢◌}
use mathlib.Core.Bool.{Bool, true, false}
use mathlib.Core.List.{List, ◌++◌}
use native.Mathlib.Omega.{arith}
use lib.Dec.{leb, le→leb}
use lib.ListN.{length, take, drop, replicate}
use lib.Seq.{take-append_seam}
use borrow.Author.Tests.{leb-true, leb-false}
use Rattle.rules.specs.Lists.{laid_over}
use Rattle.rules.specs.Cells.{stage_size}
use Rattle.rules.specs.Checks.{pin_shown, refusal_of}
use Rattle.rules.specs.Faults.{Fault, faultless, fault_at, fault}
use Rattle.rules.proofs.Lists.Members.{split, T→true}
use Rattle.coded.proofs.Reading.{fault_cases}
use Rattle.mending.specs.Changes.{Change, changes, numbers_of, changes_of, apply, undo, In, Differs, Rising}
use Rattle.mending.specs.Call.{Reply, Outcome, answer, rebuilt, listed, tested, mending, mender}
use Rattle.mending.proofs.Listed.{none_same, four_each, numbers_back, listed_differs, differs_listed, in_order, applied, undone}
use Rattle.mending.proofs.Rebuilt.{rebuilt_size}

module _ (K need : ℕ) (sized : Bool) (gates given records plan words counts list work : List ℕ) (n : ℕ) where
  -- the call
  abbrev pub call : Outcome
  call = mender K need sized gates given records plan words counts list work n

  -- what the check says of a plan in its place
  abbrev pub fault_in : List ℕ → Fault
  fault_in xs = fault K gates given records xs words counts n

  -- the mended plan
  abbrev pub made : List ℕ
  made = rebuilt K gates given plan words counts n

  -- the work area after the checks
  abbrev pub cleared : List ℕ
  cleared = laid_over (replicate need 0) work

  -- an answer that leaves plan and list as they are
  abbrev pub unchanged : Reply → Outcome
  unchanged r = record { reply = r; plan = plan; list = list; work = cleared }

  -- 1 to 5 and 23 change nothing; 23 shows the pin
  pub answer_checks : (m : ℕ) → refusal_of K sized gates given records ≡ suc m →
      call ≡ record { reply = record { number = suc m; stage = 0; position = 0; pin = pin_shown (suc m) gates; count = 0 }; plan = plan; list = list; work = work }
  unfolding mender
  answer_checks m e = rw (e, mender)

  module _ (passes : refusal_of K sized gates given records ≡ 0) where
    passed : call ≡ mending K gates given records plan words counts list cleared n (fault_in plan)
    unfolding mender
    passed = rw (passes, mender)

    -- A plan that the check accepts comes back unchanged, with an empty list.
    pub accepted_unchanged : fault_in plan ≡ faultless → call ≡ unchanged (answer 0 0 0 0)
    unfolding mending
    accepted_unchanged e = passed ∙ ap (mending K gates given records plan words counts list cleared n) e

    module _ (k p : ℕ) (e : fault_in plan ≡ fault_at k p) where
      rebuilding : call ≡ tested K plan made list cleared (fault_in made)
      unfolding mending
      rebuilding = passed ∙ ap (mending K gates given records plan words counts list cleared n) e

      -- 22 with the mended plan's fault
      pub answer_22 : (j q : ℕ) → fault_in made ≡ fault_at j q → call ≡ unchanged (answer 22 j q 0)
      unfolding tested
      answer_22 j q d = rebuilding ∙ ap (tested K plan made list cleared) d

      module _ (d : fault_in made ≡ faultless) where
        listing : call ≡ listed plan made list cleared (changes K plan made)
        unfolding tested
        listing = rebuilding ∙ ap (tested K plan made list cleared) d

        -- 24 where the list is too short for four numbers a change
        pub answer_24 : length list < 4 * length (changes K plan made) → call ≡ unchanged (answer 24 0 0 0)
        unfolding listed
        answer_24 h =
            let z : leb (length (numbers_of (changes K plan made))) (length list) ≡ false =
            split (leb (length (numbers_of (changes K plan made))) (length list)) (λ t. absurd (omega (arith, leb-true (length (numbers_of (changes K plan made))) (length list) t, four_each (changes K plan made)))) (λ t. t) in
            listing ∙ rw (z, listed)

        -- else the mended plan, and the list
        pub answer_0 : 4 * length (changes K plan made) ≤ length list →
            call ≡ record { reply = answer 0 0 0 (length (changes K plan made)); plan = made; list = laid_over (numbers_of (changes K plan made)) list; work = cleared }
        unfolding listed
        answer_0 h =
            let z : leb (length (numbers_of (changes K plan made))) (length list) ≡ true = T→true _ (le→leb (length (numbers_of (changes K plan made))) (length list) (omega (arith, four_each (changes K plan made)))) in
            listing ∙ rw (z, listed)

  -- how a call ends: refused, with plan and list as they were; accepted as it is; or mended
  pub data Ending : Type 0 where
    refuses : call.reply.number ≢ 0 → call.plan ≡ plan → call.list ≡ list → call.reply.count ≡ 0 → Ending
    keeps : refusal_of K sized gates given records ≡ 0 → fault_in plan ≡ faultless → call ≡ unchanged (answer 0 0 0 0) → Ending
    mends : refusal_of K sized gates given records ≡ 0 → fault_in made ≡ faultless →
        call ≡ record { reply = answer 0 0 0 (length (changes K plan made)); plan = made; list = laid_over (numbers_of (changes K plan made)) list; work = cleared } → Ending

  number_cases : {P : Type 0} (x : ℕ) → (x ≡ 0 → P) → ((m : ℕ) → x ≡ suc m → P) → P
  number_cases zero a b = a refl
  number_cases (suc m) a b = b m refl

  -- A refused call changes neither plan nor list, and no call ends in another way than these.
  pub call_ends : Ending
  unfolding answer
  call_ends = number_cases (refusal_of K sized gates given records)
      (λ c. fault_cases (fault_in plan) (λ e. keeps c e (accepted_unchanged c e))
      (λ k p e. fault_cases (fault_in made)
      (λ d. split (leb (4 * length (changes K plan made)) (length list))
      (λ t. mends c d (answer_0 c k p e d (leb-true _ _ t)))
      (λ t. stays 24 0 0 (answer_24 c k p e d (leb-false _ _ t)) (λ y. absurd (omega arith))))
      (λ j q d. stays 22 j q (answer_22 c k p e j q d) (λ y. absurd (omega arith)))))
      (λ m c. let z = answer_checks m c in
      refuses (λ y. absurd (let x = sym (ap (λ (o : Outcome). o.reply.number) z) ∙ y in omega arith)) (ap (λ (o : Outcome). o.plan) z) (ap (λ (o : Outcome). o.list) z) (ap (λ (o : Outcome). o.reply.count) z))
    where
      stays : (m j q : ℕ) → call ≡ unchanged (answer m j q 0) → m ≢ 0 → Ending
      stays m j q z f = refuses (λ y. f (sym (ap (λ (o : Outcome). o.reply.number) z) ∙ y)) (ap (λ (o : Outcome). o.plan) z) (ap (λ (o : Outcome). o.list) z) (ap (λ (o : Outcome). o.reply.count) z)

  -- ---- an answer of 0

  module _ (zeroed : call.reply.number ≡ 0) where
    -- What comes back with 0 passes the checks, and the check of plans.
    pub zero_passes : (refusal_of K sized gates given records ≡ 0) × (fault_in call.plan ≡ faultless)
    zero_passes = go call_ends
      where
        go : Ending → (refusal_of K sized gates given records ≡ 0) × (fault_in call.plan ≡ faultless)
        go (refuses a b c d) = absurd (a zeroed)
        go (keeps c e z) = (c, ap (λ (o : Outcome). fault_in o.plan) z ∙ e)
        go (mends c d z) = (c, ap (λ (o : Outcome). fault_in o.plan) z ∙ d)

    module _ (area : n * stage_size K ≤ length plan) where
      -- the plan keeps its length
      pub zero_size : length call.plan ≡ length plan
      zero_size = go call_ends
        where
          go : Ending → length call.plan ≡ length plan
          go (refuses a b c d) = ap length b
          go (keeps c e z) = ap (λ (o : Outcome). length o.plan) z
          go (mends c d z) = ap (λ (o : Outcome). length o.plan) z ∙ rebuilt_size K gates given plan words counts n area

      -- The list that is handed back is the list of what differs between the two plans.
      pub list_tells : changes_of (take (4 * call.reply.count) call.list) ≡ changes K plan call.plan
      unfolding answer laid_over changes changes_of
      list_tells = go call_ends
        where
          go : Ending → changes_of (take (4 * call.reply.count) call.list) ≡ changes K plan call.plan
          go (refuses a b c d) = absurd (a zeroed)
          go (keeps c e z) = ap (λ (o : Outcome). changes_of (take (4 * o.reply.count) o.list)) z ∙ sym (ap (λ (o : Outcome). changes K plan o.plan) z ∙ none_same K 0 plan)
          go (mends c d z) =
              let cs : List Change = changes K plan made in
              ap (λ (o : Outcome). changes_of (take (4 * o.reply.count) o.list)) z
              ∙ ap (λ (m : ℕ). changes_of (take m (numbers_of cs ++ drop (length (numbers_of cs)) list))) (sym (four_each cs))
              ∙ ap changes_of (take-append_seam (numbers_of cs) (drop (length (numbers_of cs)) list)) ∙ numbers_back cs
              ∙ sym (ap (λ (o : Outcome). changes K plan o.plan) z)

      -- It has exactly the places that differ,
      pub listed_then_differs : {c : Change} → In c (changes K plan call.plan) → Differs K plan call.plan c
      listed_then_differs m = listed_differs K plan call.plan zero_size m

      pub differs_then_listed : {c : Change} → Differs K plan call.plan c → In c (changes K plan call.plan)
      differs_then_listed d = differs_listed K plan call.plan zero_size d

      -- in order,
      pub listed_in_order : Rising K 0 (changes K plan call.plan)
      listed_in_order = in_order K plan call.plan zero_size

      -- and tells the new plan from the old one, and the old one from the new.
      pub new_told : apply K (changes_of (take (4 * call.reply.count) call.list)) plan ≡ call.plan
      new_told = ap (λ (cs : List Change). apply K cs plan) list_tells ∙ applied K plan call.plan zero_size

      pub old_told : undo K (changes_of (take (4 * call.reply.count) call.list)) call.plan ≡ plan
      old_told = ap (λ (cs : List Change). undo K cs call.plan) list_tells ∙ undone K plan call.plan zero_size

-- Mending what a call of 0 left changes nothing: it is accepted as it is.
pub call_twice : (K need : ℕ) (sized : Bool) (gates given records plan words counts list work : List ℕ) (n : ℕ) → (mender K need sized gates given records plan words counts list work n).reply.number ≡ 0 →
    (list2 work2 : List ℕ) → mender K need sized gates given records (mender K need sized gates given records plan words counts list work n).plan words counts list2 work2 n
    ≡ record { reply = answer 0 0 0 0; plan = (mender K need sized gates given records plan words counts list work n).plan; list = list2; work = laid_over (replicate need 0) work2 }
call_twice K need sized gates given records plan words counts list work n e list2 work2 =
    let t = zero_passes K need sized gates given records plan words counts list work n e in
    accepted_unchanged K need sized gates given records (mender K need sized gates given records plan words counts list work n).plan words counts list2 work2 n t.0 t.1
