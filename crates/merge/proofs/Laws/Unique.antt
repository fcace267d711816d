-- Any two outcomes that the promise of `merge` allows are the same: answer, group list and areas are told by one value of the rules. Assumes nothing.
use Prim.Native.Nat.{ℕ, zero, suc}
use mathlib.Core.List.{List}
use mathlib.Core.Path.{◌≡◌, refl, sym, ap, ◌∙◌}
use Rattle.std.specs.Prelude.{Result, Ok, Err}
use Rattle.rules.specs.Merge.{MergeReply, MergeOutcome}
use Rattle.refusals.specs.Numbers.{number_of}
use Rattle.refusals.proofs.Numbers.{number_is}
use Rattle.refusals.proofs.Told.{refusal_for, told_back}
use Rattle.merge_checks.specs.Values.{group_list, areas}
use Rattle.merge.specs.declared.Merged.{Merged}
use Rattle.merge.specs.declared.Refused.{Refused}
use Rattle.merge.specs.Merge.{told, outcome}

-- what an answer holds, by its reply
back_from : ℕ → MergeReply → Result Merged Refused
back_from zero o = Ok (record { partitions = o.partitions; stages = o.stages; words = o.words; cells = o.cells; trials = o.trials })
back_from (suc n) o = Err (record { why = refusal_for (suc n) o.pin; stage = o.stage; part = o.refused })

back_refused : (n : ℕ) (r : Refused) → number_of r.why ≡ n → (n ≡ 0 → ⊥) → back_from n (told (Err r)) ≡ Err r
unfolding back_from told
back_refused zero r e d = absurd (d refl)
back_refused (suc n) r e d = rw (← e, told_back r.why)

back : (a : Result Merged Refused) → back_from (told a).number (told a) ≡ a
unfolding back_from told
back (Ok m) = refl
back (Err r) = back_refused (number_of r.why) r refl (number_is r.why)

-- no two answers are told alike
one_answer : (a b : Result Merged Refused) → told a ≡ told b → a ≡ b
one_answer a b e = sym (back a) ∙ ap (λ (r : MergeReply). back_from r.number r) e ∙ back b

-- two answers, their group lists and areas agree in everything
pub record Same (a b : Result Merged Refused) (xs ls st pl ws cs w xs' ls' st' pl' ws' cs' w' : List ℕ) : Type 0 where
  pub answer : a ≡ b
  pub indices : xs ≡ xs'
  pub lengths : ls ≡ ls'
  pub stages : st ≡ st'
  pub plan : pl ≡ pl'
  pub words : ws ≡ ws'
  pub counts : cs ≡ cs'
  pub work : w ≡ w'

-- two that tell the same outcome of the rules do
pub one_outcome : (o : MergeOutcome) (a b : Result Merged Refused) (xs ls st pl ws cs w xs' ls' st' pl' ws' cs' w' : List ℕ) → outcome a xs ls st pl ws cs w ≡ o → outcome b xs' ls' st' pl' ws' cs' w' ≡ o → Same a b xs ls st pl ws cs w xs' ls' st' pl' ws' cs' w'
unfolding outcome group_list areas
one_outcome o a b xs ls st pl ws cs w xs' ls' st' pl' ws' cs' w' d e =
    let s : outcome a xs ls st pl ws cs w ≡ outcome b xs' ls' st' pl' ws' cs' w' = d ∙ sym e in
    record {
      answer = one_answer a b (ap (λ (x : MergeOutcome). x.reply) s);
      indices = ap (λ (x : MergeOutcome). x.groups.indices) s;
      lengths = ap (λ (x : MergeOutcome). x.groups.lengths) s;
      stages = ap (λ (x : MergeOutcome). x.groups.stages) s;
      plan = ap (λ (x : MergeOutcome). x.areas.plan) s;
      words = ap (λ (x : MergeOutcome). x.areas.words) s;
      counts = ap (λ (x : MergeOutcome). x.areas.counts) s;
      work = ap (λ (x : MergeOutcome). x.areas.work) s;
    }
