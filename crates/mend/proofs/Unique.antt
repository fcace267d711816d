-- Any two outcomes that the promise of `mend` allows are the same. Assumes nothing.
use Prim.Native.Nat.{ℕ, zero, suc}
use mathlib.Core.Path.{◌≡◌, refl, sym, ap, ◌∙◌}
use mathlib.Core.List.{List}
use Rattle.std.specs.Prelude.{Result, Ok, Err}
use Rattle.refusals.specs.Numbers.{number_of}
use Rattle.refusals.proofs.Numbers.{number_is}
use Rattle.refusals.proofs.Told.{refusal_for, told_back}
use Rattle.plan_check.specs.declared.Refused.{Refused}
use Rattle.mending.specs.Call.{Reply, answer, Outcome}
use Rattle.mend.specs.Calls.{replied, outcome}

-- an answer and the areas at exit
pub record Left : Type 0 where
  pub answer : Result ℕ Refused
  pub plan : List ℕ
  pub list : List ℕ
  pub work : List ℕ

abbrev pub leaves : Left → Outcome
leaves x = outcome x.answer x.plan x.list x.work

-- what an answer holds, by its reply
back_from : ℕ → Reply → Result ℕ Refused
back_from zero o = Ok o.count
back_from (suc n) o = Err (record { why = refusal_for (suc n) o.pin; stage = o.stage; position = o.position })

back_refused : (n : ℕ) (r : Refused) → number_of r.why ≡ n → (n ≡ 0 → ⊥) → back_from n (replied (Err r)) ≡ Err r
unfolding back_from replied
back_refused zero r e d = absurd (d refl)
back_refused (suc n) r e d = rw (← e, told_back r.why)

told : (a : Result ℕ Refused) → back_from (replied a).number (replied a) ≡ a
unfolding back_from replied answer
told (Ok n) = refl
told (Err r) = back_refused (number_of r.why) r refl (number_is r.why)

-- what is left, by its outcome
back : Outcome → Left
back o = record { answer = back_from o.reply.number o.reply; plan = o.plan; list = o.list; work = o.work }

back_left : (x : Left) → back (leaves x) ≡ x
unfolding back outcome
back_left x = (λ i. record { answer = told x.answer i; plan = x.plan; list = x.list; work = x.work })

-- two that tell the same outcome of the rules are the same
pub one_outcome : (o : Outcome) (x y : Left) → leaves x ≡ o → leaves y ≡ o → x ≡ y
one_outcome o x y d e = sym (back_left x) ∙ ap back (d ∙ sym e) ∙ back_left y
