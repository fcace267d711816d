-- Any two answers that the promise of `check_plan` allows are the same. Assumes nothing.
use Prim.Native.Nat.{ℕ, zero, suc}
use mathlib.Core.Path.{◌≡◌, refl, sym, ap, ◌∙◌}
use Rattle.std.specs.Prelude.{Result, Ok, Err}
use Rattle.refusals.specs.Numbers.{number_of}
use Rattle.refusals.proofs.Numbers.{number_is}
use Rattle.refusals.proofs.Told.{refusal_for, told_back}
use Rattle.plan_check.specs.declared.Refused.{Refused}
use Rattle.plan_check.specs.Answers.{Checked, outcome}

-- what an answer holds, by its outcome
back_from : ℕ → Checked → Result (Unit {0}) Refused
back_from zero o = Ok tt
back_from (suc n) o = Err (record { why = refusal_for (suc n) o.pin; stage = o.stage; position = o.position })

back : Checked → Result (Unit {0}) Refused
back o = back_from o.number o

back_refused : (n : ℕ) (r : Refused) → number_of r.why ≡ n → (n ≡ 0 → ⊥) → back_from n (outcome (Err r)) ≡ Err r
unfolding back_from outcome
back_refused zero r e d = absurd (d refl)
back_refused (suc n) r e d = rw (← e, told_back r.why)

told : (a : Result (Unit {0}) Refused) → back (outcome a) ≡ a
unfolding back back_from outcome
told (Ok u) = refl
told (Err r) = back_refused (number_of r.why) r refl (number_is r.why)

-- two that tell the same outcome of the rules are the same
pub one_outcome : (o : Checked) (a b : Result (Unit {0}) Refused) → outcome a ≡ o → outcome b ≡ o → a ≡ b
one_outcome o a b d e = sym (told a) ∙ ap back (d ∙ sym e) ∙ told b
