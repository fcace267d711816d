-- Any two outcomes that the promises of `depth` and `reserved` allow are the same. Assumes nothing.
use Prim.Native.Nat.{ℕ, zero, suc}
use mathlib.Core.List.{List}
use mathlib.Core.Path.{◌≡◌, refl, sym, ap, ◌∙◌}
use Rattle.std.specs.Prelude.{Result, Ok, Err}
use Rattle.refusals.specs.declared.Refusal.{Refusal}
use Rattle.refusals.specs.Numbers.{number_of, pin_of}
use Rattle.refusals.proofs.Numbers.{number_is}
use Rattle.refusals.proofs.Told.{refusal_for, told_back}
use Rattle.depth.specs.declared.SetAside.{SetAside}
use Rattle.depth.specs.Calls.{Told, Aside, outcome, aside_outcome, telling}

-- two answers and their work areas are the same
pub record Same {B : Type 0} (a b : Result B Refusal) (w w' : List ℕ) : Type 0 where
  pub answer : a ≡ b
  pub work : w ≡ w'

-- what an answer holds, by the number, the value and the pin that it tells
back_from : {B : Type 0} → ℕ → B → ℕ → Result B Refusal
back_from zero x p = Ok x
back_from (suc n) x p = Err (refusal_for (suc n) p)

back_refused : {B : Type 0} (n : ℕ) (r : Refusal) (x : B) → number_of r ≡ n → (n ≡ 0 → ⊥) → back_from n x (pin_of r) ≡ Err r
unfolding back_from
back_refused zero r x e d = absurd (d refl)
back_refused (suc n) r x e d = rw (← e, told_back r)

-- ---- depth

back : Told ℕ → Result ℕ Refusal
back o = back_from o.number o.told o.pin

told : (a : Result ℕ Refusal) (w : List ℕ) → (back (outcome a w) ≡ a) × ((outcome a w).work ≡ w)
unfolding back back_from outcome telling
told (Ok d) w = (refl, refl)
told (Err r) w = (back_refused (number_of r) r 0 refl (number_is r), refl)

-- two answers of `depth` that tell the same outcome are
pub one_outcome : (o : Told ℕ) (a b : Result ℕ Refusal) (w w' : List ℕ) → outcome a w ≡ o → outcome b w' ≡ o → Same a b w w'
one_outcome o a b w w' d e =
    let x = told a w in
    let y = told b w' in
    record { answer = sym x.0 ∙ ap back (d ∙ sym e) ∙ y.0; work = sym x.1 ∙ ap (λ (o : Told ℕ). o.work) (d ∙ sym e) ∙ y.1 }

-- ---- reserved

aside_back : Told Aside → Result SetAside Refusal
aside_back o = back_from o.number (record { memories = o.told.memories; duplicates = o.told.duplicates; words = o.told.words }) o.pin

aside_told : (a : Result SetAside Refusal) (w : List ℕ) → (aside_back (aside_outcome a w) ≡ a) × ((aside_outcome a w).work ≡ w)
unfolding aside_back back_from aside_outcome telling
aside_told (Ok a) w = (refl, refl)
aside_told (Err r) w = (back_refused (number_of r) r _ refl (number_is r), refl)

-- and two of `reserved`
pub one_aside : (o : Told Aside) (a b : Result SetAside Refusal) (w w' : List ℕ) → aside_outcome a w ≡ o → aside_outcome b w' ≡ o → Same a b w w'
one_aside o a b w w' d e =
    let x = aside_told a w in
    let y = aside_told b w' in
    record { answer = sym x.0 ∙ ap aside_back (d ∙ sym e) ∙ y.0; work = sym x.1 ∙ ap (λ (o : Told Aside). o.work) (d ∙ sym e) ∙ y.1 }
