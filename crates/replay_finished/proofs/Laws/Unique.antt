-- Any two outcomes that the promise of `replay_plan` allows are the same, answer and areas. Assumes nothing.
use Prim.Native.Nat.{ℕ}
use mathlib.Core.List.{List}
use mathlib.Core.Path.{◌≡◌, refl, sym, ap, ◌∙◌}
use Rattle.std.specs.Prelude.{Result}
use Rattle.plan_check.specs.declared.Refused.{Refused}
use Rattle.plan_check.proofs.Laws.Unique as check
use Rattle.replay_finished.specs.Calls.{Lent, Outcome}
use Rattle.replay_finished.specs.Answers.{lent, outcome}

-- two answers and their areas agree in everything
pub record Same (a a' : Result (Unit {0}) Refused) (w t s b o e w' t' s' b' o' e' : List ℕ) : Type 0 where
  pub answer : a ≡ a'
  pub work : w ≡ w'
  pub tape : t ≡ t'
  pub slots : s ≡ s'
  pub bits : b ≡ b'
  pub out : o ≡ o'
  pub end : e ≡ e'

-- two that tell the same outcome do
pub one_outcome : (O : Outcome) (a a' : Result (Unit {0}) Refused) (w t s b o e w' t' s' b' o' e' : List ℕ) → outcome a w t s b o e ≡ O → outcome a' w' t' s' b' o' e' ≡ O → Same a a' w t s b o e w' t' s' b' o' e'
unfolding outcome lent
one_outcome O a a' w t s b o e w' t' s' b' o' e' d c =
    let q : outcome a w t s b o e ≡ outcome a' w' t' s' b' o' e' = d ∙ sym c in
    record {
      answer = check.one_outcome _ a a' (ap (λ (x : Outcome). x.reply) q) refl;
      work = ap (λ (x : Outcome). x.lent.work) q;
      tape = ap (λ (x : Outcome). x.lent.tape) q;
      slots = ap (λ (x : Outcome). x.lent.slots) q;
      bits = ap (λ (x : Outcome). x.lent.bits) q;
      out = ap (λ (x : Outcome). x.lent.out) q;
      end = ap (λ (x : Outcome). x.lent.end) q;
    }

-- what is lent, area by area
pub one_lent : (w t s b o e w' t' s' b' o' e' : List ℕ) → lent w t s b o e ≡ lent w' t' s' b' o' e' → (w ≡ w') × (t ≡ t') × (s ≡ s') × (b ≡ b') × (o ≡ o') × (e ≡ e')
unfolding lent
one_lent w t s b o e w' t' s' b' o' e' q =
    (ap (λ (x : Lent). x.work) q, ap (λ (x : Lent). x.tape) q, ap (λ (x : Lent). x.slots) q, ap (λ (x : Lent). x.bits) q, ap (λ (x : Lent). x.out) q, ap (λ (x : Lent). x.end) q)
