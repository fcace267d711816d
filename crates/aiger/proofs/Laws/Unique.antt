-- Any two outcomes that the promises of `read` and `write` allow are the same, answer and areas. Assumes nothing.
use mathlib.Core.List.{List}
use mathlib.Core.Logic.{◌≢◌}
use mathlib.Core.Path.{◌≡◌, refl, sym, ap, ◌∙◌}
use native.Mathlib.Omega.{arith}
use Prim.Native.Nat.{ℕ, zero, suc, ◌≤◌}
use lib.Dec.{leb}
use lib.ListN.{length}
use Rattle.rules.proofs.Lists.Members.{split}
use Rattle.aiger_form.specs.Aag.{Netlist, Written, no_aag, aag, write_aag}
use Rattle.aiger_form.specs.Calls.{Reply, Import, Export, exported, exporter}
use Rattle.std.specs.Prelude.{Result, Ok, Err}
use Rattle.refusals.specs.declared.Refusal.{Refusal}
use Rattle.refusals.specs.Numbers.{number_of, number_said}
use Rattle.refusals.proofs.Numbers.{number_is}
use Rattle.refusals.proofs.Told as refusals
use Rattle.aiger_text.specs.declared.file.Refused.{Refused}
use Rattle.aiger_read.specs.declared.Counts.{Counts}
use Rattle.aiger_read.specs.Answers.{reply, areas, outcome}
use Rattle.aiger_write.specs.Answers.{export}

-- what an answer of `read` holds, by its reply
back_from : ℕ → Reply → Result Counts Refused
back_from zero o = Ok (record { gates = o.gates; records = o.records; latches = o.latches })
back_from (suc n) o = Err (record { why = refusals.refusal_for (suc n) o.pin; at = o.at })

back_refused : (n : ℕ) (r : Refused) → number_of r.why ≡ n → (n ≡ 0 → ⊥) → back_from n (reply (Err r)) ≡ Err r
unfolding back_from
back_refused zero r e d = absurd (d refl)
back_refused (suc n) r e d = rw (← e, refusals.told_back r.why)

back : (a : Result Counts Refused) → back_from (reply a).number (reply a) ≡ a
unfolding back_from
back (Ok c) = refl
back (Err r) = back_refused (number_of r.why) r refl (number_is r.why)

-- no two are told alike
one_answer : (a b : Result Counts Refused) → reply a ≡ reply b → a ≡ b
one_answer a b e = sym (back a) ∙ ap (λ (r : Reply). back_from r.number r) e ∙ back b

-- two answers of `read` and their areas agree in everything
pub record Same (a b : Result Counts Refused) (g r l g' r' l' : List ℕ) : Type 0 where
  pub answer : a ≡ b
  pub gates_area : g ≡ g'
  pub records_area : r ≡ r'
  pub latches_area : l ≡ l'

-- two that tell the same outcome do
pub one_outcome : (o : Import) (a b : Result Counts Refused) (g r l g' r' l' : List ℕ) → outcome a g r l ≡ o → outcome b g' r' l' ≡ o → Same a b g r l g' r' l'
unfolding outcome areas
one_outcome o a b g r l g' r' l' d e =
    let s : outcome a g r l ≡ outcome b g' r' l' = d ∙ sym e in
    record {
      answer = one_answer a b (ap (λ (x : Import). x.reply) s);
      gates_area = ap (λ (x : Import). x.areas.gates) s;
      records_area = ap (λ (x : Import). x.areas.records) s;
      latches_area = ap (λ (x : Import). x.areas.latches) s;
    }

-- the bytes at exit are told as they are
bytes_are : (a : Result ℕ Refusal) (xs : List ℕ) → (export a xs).bytes ≡ xs
bytes_are (Ok size) xs = refl
bytes_are (Err why) xs = refl

written_is : (w : Result ℕ Refusal) (bs : List ℕ) → (export w bs).number ≡ number_said w
written_is (Ok size) bs = refl
written_is (Err why) bs = refl

length_is : (w : Result ℕ Refusal) (size : ℕ) (bs : List ℕ) → w ≡ Ok size → (export w bs).length' ≡ size
length_is w size bs e = rw e refl

-- and of `write`: number, length and bytes, and the answer but where 23 does not tell its pin
pub one_written : (o : Export) (w w' : Result ℕ Refusal) (bs bs' : List ℕ) → export w bs ≡ o → export w' bs' ≡ o →
    ((export w bs).number ≡ (export w' bs').number) × ((export w bs).length' ≡ (export w' bs').length') × (bs ≡ bs') × (number_said w ≢ 23 → w ≡ w')
one_written o w w' bs bs' d e =
    let s : export w bs ≡ export w' bs' = d ∙ sym e in
    let n : (export w bs).number ≡ (export w' bs').number = ap (λ (x : Export). x.number) s in
    let l : (export w bs).length' ≡ (export w' bs').length' = ap (λ (x : Export). x.length') s in
    let m : number_said w ≡ number_said w' = sym (written_is w bs) ∙ n ∙ written_is w' bs' in
    (n, l, sym (bytes_are w bs) ∙ ap (λ (x : Export). x.bytes) s ∙ bytes_are w' bs', λ k. refusals.one_answer w w' m k (λ i j p q. sym (length_is w i bs p) ∙ l ∙ length_is w' j bs' q))

few_exported : (area : List ℕ) (f : Written) → (exported area f).number ≤ 14
unfolding exported
few_exported area no_aag = omega arith
few_exported area (aag bytes) = split (leb (length bytes) (length area)) (λ t. rw (t, exported) (omega arith)) (λ f. rw (f, exported) (omega arith))

-- two answers that the promise of one call of `write` allows, and their bytes, are the same
pub one_write_call : (given : List ℕ) (n : Netlist) (area : List ℕ) (w w' : Result ℕ Refusal) (bs bs' : List ℕ) →
    export w bs ≡ exporter given n area → export w' bs' ≡ exporter given n area → (w ≡ w') × (bs ≡ bs')
unfolding exporter
one_write_call given n area w w' bs bs' d e =
    let s = one_written _ w w' bs bs' d e in
    let m : number_said w ≡ (exported area (write_aag given n)).number = sym (written_is w bs) ∙ ap (λ (x : Export). x.number) d in
    (s.3 (λ k. omega (arith, few_exported area (write_aag given n), m, k)), s.2)
