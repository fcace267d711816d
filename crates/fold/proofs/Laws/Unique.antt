-- Any two outcomes that the promise of `fold` allows are the same. Assumes nothing.
use Prim.Native.Nat.{ℕ, zero, suc, ◌≤◌}
use mathlib.Core.List.{List}
use mathlib.Core.Logic.{◌≢◌}
use mathlib.Core.Path.{◌≡◌, refl, sym, ap, ◌∙◌}
use native.Mathlib.Omega.{arith}
use lib.ListN.{length}
use Rattle.std.specs.Prelude.{Result}
use Rattle.rules.specs.Cells.{is_height}
use Rattle.rules.specs.Coded.{FoldOutcome, fold_sized, fold_refusal, folder}
use Rattle.rules.proofs.Lists.Members.{split}
use Rattle.refusals.specs.declared.Refusal.{Refusal}
use Rattle.refusals.specs.Numbers.{number_said}
use Rattle.refusals.proofs.Told.{one_answer}
use Rattle.fold.specs.Answers.{outcome}

-- two answers and their areas agree in everything
pub record Same {A : Type 0} (a b : Result A Refusal) (r w r' w' : List ℕ) : Type 0 where
  pub answer : a ≡ b
  pub result : r ≡ r'
  pub work : w ≡ w'

-- two that tell the same do, where the value is the only one and the number tells no pin
one_value : {A : Type 0} (x : A) → ((y : A) → x ≡ y) → (a b : Result A Refusal) (r w r' w' : List ℕ) → outcome a r w ≡ outcome b r' w' → number_said a ≢ 23 → Same a b r w r' w'
unfolding outcome
one_value x one a b r w r' w' s k = record {
  answer = one_answer a b (ap (λ (o : FoldOutcome). o.number) s) k (λ y z p q. sym (one y) ∙ one z);
  result = ap (λ (o : FoldOutcome). o.result) s;
  work = ap (λ (o : FoldOutcome). o.work) s;
}

-- two that tell the same outcome of the rules do, but where 23 does not tell its pin
pub one_outcome : (o : FoldOutcome) → o.number ≢ 23 → (a b : Result (Unit {0}) Refusal) (r w r' w' : List ℕ) → outcome a r w ≡ o → outcome b r' w' ≡ o → Same a b r w r' w'
unfolding outcome
one_outcome o other a b r w r' w' d e = one_value tt (λ y. refl) a b r w r' w' (d ∙ sym e) (λ k. other (sym (ap (λ (o : FoldOutcome). o.number) d) ∙ k))

-- `fold` has the numbers 0 to 2
numbers : (K plan result work : ℕ) → fold_refusal K plan result work ≤ 2
unfolding fold_refusal
numbers K plan result work = split (is_height K)
    (λ h. split (fold_sized K plan result work) (λ s. rw (h, s, fold_refusal) (omega arith)) (λ s. rw (h, s, fold_refusal) (omega arith)))
    (λ h. rw (h, fold_refusal) (omega arith))

told : (K : ℕ) (plan bits result work : List ℕ) → (folder K plan bits result work).number ≡ fold_refusal K (length plan) (length result) (length work)
unfolding folder
told K plan bits result work = go _ refl
  where
    go : (n : ℕ) → n ≡ fold_refusal K (length plan) (length result) (length work) → (folder K plan bits result work).number ≡ fold_refusal K (length plan) (length result) (length work)
    go zero e = rw (← e, folder) refl
    go (suc n) e = rw (← e, folder) refl

-- two that the promise of one call allows do
pub one_call : (K : ℕ) (plan bits result work : List ℕ) {A : Type 0} (x : A) → ((y : A) → x ≡ y) → (a b : Result A Refusal) (r w r' w' : List ℕ) →
    outcome a r w ≡ folder K plan bits result work → outcome b r' w' ≡ folder K plan bits result work → Same a b r w r' w'
unfolding outcome
one_call K plan bits result work x one a b r w r' w' d e =
    let few = numbers K (length plan) (length result) (length work) in
    let n : number_said a ≡ fold_refusal K (length plan) (length result) (length work) = ap (λ (o : FoldOutcome). o.number) d ∙ told K plan bits result work in
    one_value x one a b r w r' w' (d ∙ sym e) (λ k. omega (arith, n, k))
