-- Any two outcomes that the promise of `build` allows are the same: answer and areas are told by one value of the rules. Assumes nothing.
use mathlib.Core.List.{List}
use mathlib.Core.Path.{◌≡◌, refl, sym, ap, ◌∙◌}
use Prim.Native.Nat.{ℕ, zero, suc}
use Rattle.std.specs.Prelude.{Result, Ok, Err}
use Rattle.rules.specs.Build as rules
use Rattle.refusals.specs.Numbers.{number_of}
use Rattle.refusals.proofs.Numbers.{number_is}
use Rattle.refusals.proofs.Told.{refusal_for, told_back}
use Rattle.placer.specs.declared.Built.{Built}
use Rattle.placer.specs.declared.Refused.{Refused}
use Rattle.placer.specs.Answers.{told, areas, outcome}

-- what an answer holds, by its reply
back_from : ℕ → rules.Reply → Result Built Refused
back_from zero o = Ok (record { stages = o.stages; words = o.words; cells = o.cells })
back_from (suc n) o = Err (record { why = refusal_for (suc n) o.pin; stage = o.stage })

back_refused : (n : ℕ) (r : Refused) → number_of r.why ≡ n → (n ≡ 0 → ⊥) → back_from n (told (Err r)) ≡ Err r
unfolding back_from told
back_refused zero r e d = absurd (d refl)
back_refused (suc n) r e d = rw (← e, told_back r.why)

back : (a : Result Built Refused) → back_from (told a).number (told a) ≡ a
unfolding back_from told
back (Ok b) = refl
back (Err r) = back_refused (number_of r.why) r refl (number_is r.why)

-- no two answers are told alike
pub one_answer : (a b : Result Built Refused) → told a ≡ told b → a ≡ b
one_answer a b e = sym (back a) ∙ ap (λ (r : rules.Reply). back_from r.number r) e ∙ back b

-- two answers and their areas agree in everything
pub record Same (a b : Result Built Refused) (pl ws cs w pl' ws' cs' w' : List ℕ) : Type 0 where
  pub answer : a ≡ b
  pub plan : pl ≡ pl'
  pub words : ws ≡ ws'
  pub counts : cs ≡ cs'
  pub work : w ≡ w'

-- two that tell the same outcome of the rules do
pub one_outcome : (o : rules.Outcome) (a b : Result Built Refused) (pl ws cs w pl' ws' cs' w' : List ℕ) → outcome a pl ws cs w ≡ o → outcome b pl' ws' cs' w' ≡ o → Same a b pl ws cs w pl' ws' cs' w'
unfolding outcome areas
one_outcome o a b pl ws cs w pl' ws' cs' w' d e =
    let s : outcome a pl ws cs w ≡ outcome b pl' ws' cs' w' = d ∙ sym e in
    record {
      answer = one_answer a b (ap (λ (x : rules.Outcome). x.reply) s);
      plan = ap (λ (x : rules.Outcome). x.areas.plan) s;
      words = ap (λ (x : rules.Outcome). x.areas.words) s;
      counts = ap (λ (x : rules.Outcome). x.areas.counts) s;
      work = ap (λ (x : rules.Outcome). x.areas.work) s;
    }
