-- Any two outcomes that the promise of `explain` allows are the same, answer, list and areas. Assumes nothing.
use Prim.Native.Nat.{ℕ}
use mathlib.Core.List.{List}
use mathlib.Core.Path.{◌≡◌, sym, ap, ◌∙◌}
use Rattle.placer.specs.Answers.{areas}
use Rattle.placer.proofs.Laws.Unique.{one_answer}
use Rattle.explain_stages.specs.declared.Explanation.{Explanation}
use Rattle.why_form.specs.Why.{Explained}
use Rattle.explain.specs.Answers.{explained}

-- two answers, their lists and their areas agree in everything
pub record Same (e e' : Explanation) (pl ws cs w l pl' ws' cs' w' l' : List ℕ) : Type 0 where
  pub answer : e.answer ≡ e'.answer
  pub lines : e.lines ≡ e'.lines
  pub list : l ≡ l'
  pub plan : pl ≡ pl'
  pub words : ws ≡ ws'
  pub counts : cs ≡ cs'
  pub work : w ≡ w'

-- two that tell the same outcome do
pub one_outcome : (O : Explained) (e e' : Explanation) (pl ws cs w l pl' ws' cs' w' l' : List ℕ) → explained e pl ws cs w l ≡ O → explained e' pl' ws' cs' w' l' ≡ O → Same e e' pl ws cs w l pl' ws' cs' w' l'
unfolding explained areas
one_outcome O e e' pl ws cs w l pl' ws' cs' w' l' d c =
    let q : explained e pl ws cs w l ≡ explained e' pl' ws' cs' w' l' = d ∙ sym c in
    record {
      answer = one_answer e.answer e'.answer (ap (λ (x : Explained). x.reply) q);
      lines = ap (λ (x : Explained). x.lines) q;
      list = ap (λ (x : Explained). x.list) q;
      plan = ap (λ (x : Explained). x.areas.plan) q;
      words = ap (λ (x : Explained). x.areas.words) q;
      counts = ap (λ (x : Explained). x.areas.counts) q;
      work = ap (λ (x : Explained). x.areas.work) q;
    }
