-- Sizes, refusals, and what passing them gives. Assumes nothing.
use Prim.Native.Nat.{ℕ, zero, suc, ◌+◌, ◌%◌, ◌^◌, ◌≤◌, ◌<◌}
use mathlib.Core.Path.{◌≡◌, refl, sym, ◌∙◌, ap}
use mathlib.Core.Bool.{true, false, ◌&&◌}
use mathlib.Core.List.{List, ◌++◌}
use native.Mathlib.Omega.{arith}
use lib.Dec.{leb}
use lib.ListN.{length, take, drop, replicate, length-replicate}
use lib.Seq.{length-take-le}
use lib.Pow.{pow_pos, pow_mono}
use borrow.Author.Tests.{le-leb, lt-leb, leb-true, eqb-true}
use Rattle.rules.specs.Lists.{laid_over}
use Rattle.rules.specs.Cells.{is_height}
use Rattle.rules.specs.Checks.{plan_sized}
use Rattle.rules.specs.Coded.{fold_cells, fold_sized, fold_refusal, folder}
use Rattle.rules.proofs.Lists.Members.{split, and_true}
use Rattle.rules.proofs.Stage.Staged.{two_step}
use Rattle.cells.proofs.Heights.{tall}
use Rattle.std.specs.Prelude.{Ok, Err}
use Rattle.refusals.specs.declared.Refusal.{Refusal}
use Rattle.refusals.specs.Numbers.{number_of}
use Rattle.refusals.proofs.Numbers.{number_above}
use Rattle.fold.specs.Answers.{outcome}
use Rattle.fold.specs.Stages.{PlanAt}

-- ---- the number, by what the code tests

module _ (K plan result work : ℕ) where
  -- a bad height
  pub refused_1 : is_height K ≡ false → 1 ≡ fold_refusal K plan result work
  unfolding fold_refusal
  refused_1 e = rw (e, fold_refusal)

  module _ (h : is_height K ≡ true) where
    wrong : fold_sized K plan result work ≡ false → 2 ≡ fold_refusal K plan result work
    unfolding fold_refusal
    wrong e = rw (h, e, fold_refusal)

    -- a plan of a wrong size
    pub plan_wrong : is_height K && plan_sized K plan ≡ false → 2 ≡ fold_refusal K plan result work
    unfolding fold_sized
    plan_wrong e = let d : plan_sized K plan ≡ false = rw h at e in wrong (rw (d, fold_sized))

    module _ (p : is_height K && plan_sized K plan ≡ true) where
      plan_right : plan_sized K plan ≡ true
      plan_right = (and_true (is_height K) (plan_sized K plan) p).1

      -- a result area shorter than the plan
      pub result_few : result < plan → 2 ≡ fold_refusal K plan result work
      unfolding fold_sized
      result_few e = wrong (rw (plan_right, lt-leb plan result e))

      module _ (r : plan ≤ result) where
        -- a work area of fewer numbers than pins
        pub work_few : work < 65536 → 2 ≡ fold_refusal K plan result work
        unfolding fold_sized
        work_few e = wrong (rw (plan_right, le-leb plan result r, lt-leb 65536 work e))

        -- nothing is refused
        pub refused_0 : 65536 ≤ work → 0 ≡ fold_refusal K plan result work
        unfolding fold_refusal fold_sized
        refused_0 e = rw (h, plan_right, le-leb plan result r, le-leb 65536 work e, fold_refusal)

-- ---- what is left

module _ (K : ℕ) (plan bits result work : List ℕ) where
  abbrev number : ℕ
  number = fold_refusal K (length plan) (length result) (length work)

  -- a refusal changes nothing
  pub fold_refused : (A : Type 0) (e : Refusal) → number_of e ≡ number → outcome {A = A} (Err e) result work ≡ folder K plan bits result work
  unfolding outcome folder
  fold_refused A e t = more (number_of e) (number_above e) refl t
    where
      more : (n : ℕ) → 0 < n → number_of e ≡ n → n ≡ number → record { number = number_of e; result = result; work = work } ≡ folder K plan bits result work
      more zero h d t = absurd (omega arith)
      more (suc n) h d t = rw (← t, folder, d) refl

  -- a fold that nothing refuses leaves the bits, and 0 in the work area
  pub fold_done : {A : Type 0} (x : A) → 0 ≡ number → (r w : List ℕ) → r ≡ laid_over (fold_cells K plan bits) result → w ≡ laid_over (replicate 65536 0) work → outcome (Ok x) r w ≡ folder K plan bits result work
  unfolding outcome folder
  fold_done x t r w d f = rw (← t, folder, d, f) refl

-- ---- what passing the tests gives

module _ (K plan result work : ℕ) (e : fold_refusal K plan result work ≡ 0) where
  height_right : is_height K ≡ true
  height_right = split (is_height K) (λ t. t) (λ t. absurd (omega (arith, refused_1 K plan result work t)))

  sized : fold_sized K plan result work ≡ true
  unfolding fold_refusal
  sized = split (fold_sized K plan result work) (λ t. t) (λ t. absurd (let z : ◌≡◌ {A = ℕ} 2 0 = rw (height_right, t, fold_refusal) at e in omega arith))

  parts : (plan_sized K plan ≡ true) × (leb plan result ≡ true) × (leb 65536 work ≡ true)
  unfolding fold_sized
  parts =
      let a = and_true (plan_sized K plan && leb plan result) (leb 65536 work) sized in
      let b = and_true (plan_sized K plan) (leb plan result) a.0 in
      (b.0, b.1, a.1)

  -- the work area has a number for each pin
  pub work_room : 65536 ≤ work
  work_room = leb-true 65536 work parts.2

-- what the code asks of the plan and the result area
pub plan_at : (K : ℕ) (plan result : List ℕ) (work : ℕ) → fold_refusal K (length plan) (length result) work ≡ 0 → PlanAt K plan result
unfolding plan_sized
plan_at K plan result work e =
    let h = height_right K (length plan) (length result) work e in
    let t = parts K (length plan) (length result) work e in
    record {
      height = h;
      low = pow_pos K;
      high = pow_mono {i = K} {j = 13} (tall K refl h).high;
      double = two_step K;
      whole = eqb-true (length plan % 2 ^ (K + 1)) 0 t.0;
      room = leb-true (length plan) (length result) t.1;
    }

module _ (work : List ℕ) (room : 65536 ≤ length work) (n : ℕ) (d : n ≡ 65536) where
  -- the numbers by pin, lent as work[0..65536]
  pub looks_size : length (take n work) ≡ 65536
  looks_size = length-take-le n work (omega arith) ∙ d

  -- these numbers, cleared, are 0 over the front of the work area
  pub cleared : (l : List ℕ) → l ≡ replicate (length (take n work)) 0 → l ++ drop n work ≡ laid_over (replicate 65536 0) work
  unfolding laid_over
  cleared l z = (λ i. (z ∙ ap (λ (j : ℕ). replicate j 0) looks_size) i ++ drop ((d ∙ sym (length-replicate {A = ℕ} 65536 0)) i) work)
