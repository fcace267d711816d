-- Any two outcomes that the promise of `replay` allows are the same, answer and areas. Assumes nothing.
use Prim.Native.Nat.{ℕ}
use mathlib.Core.List.{List}
use mathlib.Core.Path.{◌≡◌, sym, ap, ◌∙◌}
use Rattle.std.specs.Prelude.{Result}
use Rattle.placer.specs.declared.Built.{Built}
use Rattle.placer.specs.declared.Refused.{Refused}
use Rattle.placer.specs.Answers.{areas}
use Rattle.placer.proofs.Laws.Unique.{one_answer}
use Rattle.replay_form.specs.Calls.{Lent, Outcome}
use Rattle.replay.specs.Answers.{lent, outcome}

-- two answers and their areas agree in everything
pub record Same (a a' : Result Built Refused) (pl ws cs w t s b o e pl' ws' cs' w' t' s' b' o' e' : List ℕ) : Type 0 where
  pub answer : a ≡ a'
  pub plan : pl ≡ pl'
  pub words_area : ws ≡ ws'
  pub counts : cs ≡ cs'
  pub work : w ≡ w'
  pub tape : t ≡ t'
  pub slots : s ≡ s'
  pub bits : b ≡ b'
  pub out : o ≡ o'
  pub end : e ≡ e'

-- two that tell the same outcome do
pub one_outcome : (O : Outcome) (a a' : Result Built Refused) (pl ws cs w t s b o e pl' ws' cs' w' t' s' b' o' e' : List ℕ) → outcome a pl ws cs w t s b o e ≡ O → outcome a' pl' ws' cs' w' t' s' b' o' e' ≡ O → Same a a' pl ws cs w t s b o e pl' ws' cs' w' t' s' b' o' e'
unfolding outcome lent areas
one_outcome O a a' pl ws cs w t s b o e pl' ws' cs' w' t' s' b' o' e' d c =
    let q : outcome a pl ws cs w t s b o e ≡ outcome a' pl' ws' cs' w' t' s' b' o' e' = d ∙ sym c in
    record {
      answer = one_answer a a' (ap (λ (x : Outcome). x.reply) q);
      plan = ap (λ (x : Outcome). x.lent.build.plan) q;
      words_area = ap (λ (x : Outcome). x.lent.build.words) q;
      counts = ap (λ (x : Outcome). x.lent.build.counts) q;
      work = ap (λ (x : Outcome). x.lent.build.work) q;
      tape = ap (λ (x : Outcome). x.lent.tape) q;
      slots = ap (λ (x : Outcome). x.lent.slots) q;
      bits = ap (λ (x : Outcome). x.lent.bits) q;
      out = ap (λ (x : Outcome). x.lent.out) q;
      end = ap (λ (x : Outcome). x.lent.end) q;
    }

-- what is lent, area by area
pub one_lent : (pl ws cs w t s b o e pl' ws' cs' w' t' s' b' o' e' : List ℕ) → lent pl ws cs w t s b o e ≡ lent pl' ws' cs' w' t' s' b' o' e' → (pl ≡ pl') × (ws ≡ ws') × (cs ≡ cs') × (w ≡ w') × (t ≡ t') × (s ≡ s') × (b ≡ b') × (o ≡ o') × (e ≡ e')
unfolding lent areas
one_lent pl ws cs w t s b o e pl' ws' cs' w' t' s' b' o' e' q = (
  ap (λ (x : Lent). x.build.plan) q,
  ap (λ (x : Lent). x.build.words) q,
  ap (λ (x : Lent). x.build.counts) q,
  ap (λ (x : Lent). x.build.work) q,
  ap (λ (x : Lent). x.tape) q,
  ap (λ (x : Lent). x.slots) q,
  ap (λ (x : Lent). x.bits) q,
  ap (λ (x : Lent). x.out) q,
  ap (λ (x : Lent). x.end) q,
)
