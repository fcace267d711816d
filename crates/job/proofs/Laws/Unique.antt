-- Any two outcomes that the promise of `read` allows are the same, answer and areas. Assumes nothing.
use mathlib.Core.List.{List}
use mathlib.Core.Logic.{◌≢◌}
use mathlib.Core.Path.{◌≡◌, refl, sym, ap, ◌∙◌}
use native.Mathlib.Omega.{arith}
use Prim.Native.Nat.{ℕ}
use Rattle.std.specs.Prelude.{Result, Ok, Err}
use Rattle.rules.specs.Job.{Job?, no_job, job}
use Rattle.rules.proofs.Lists.Members.{split}
use Rattle.refusals.specs.declared.Refusal.{Refusal}
use Rattle.refusals.specs.Numbers.{number_said}
use Rattle.refusals.proofs.Told.{one_answer}
use Rattle.job.specs.declared.Job.{Job}
use Rattle.job.specs.Answers.{Outcome, outcome, refused, room_for, laid, read_into}

-- two answers, as the rules have them, and their areas agree in everything; 23 alone does not tell its pin
pub record Same (a b : Result Job Refusal) (g v c g' v' c' : List ℕ) : Type 0 where
  pub number : number_said a ≡ number_said b
  pub height : (outcome a g v c).height ≡ (outcome b g' v' c').height
  pub gates : (outcome a g v c).gates ≡ (outcome b g' v' c').gates
  pub given : (outcome a g v c).given ≡ (outcome b g' v' c').given
  pub records : (outcome a g v c).records ≡ (outcome b g' v' c').records
  pub gates_area : g ≡ g'
  pub given_area : v ≡ v'
  pub records_area : c ≡ c'
  pub answer : number_said a ≢ 23 → a ≡ b

number_is : (a : Result Job Refusal) (g v c : List ℕ) → (outcome a g v c).number ≡ number_said a
unfolding outcome
number_is (Ok j) g v c = refl
number_is (Err r) g v c = refl

areas_are : (a : Result Job Refusal) (g v c : List ℕ) → ((outcome a g v c).gates_area ≡ g) × ((outcome a g v c).given_area ≡ v) × ((outcome a g v c).records_area ≡ c)
unfolding outcome
areas_are (Ok j) g v c = (refl, refl, refl)
areas_are (Err r) g v c = (refl, refl, refl)

-- the job that an outcome tells
job_told : Outcome → Job
job_told o = record { height = o.height; gates = o.gates; given = o.given; records = o.records }

job_is : (a : Result Job Refusal) (x : Job) (g v c : List ℕ) → a ≡ Ok x → job_told (outcome a g v c) ≡ x
unfolding outcome job_told
job_is a x g v c e = rw e refl

-- two that tell the same outcome do
pub one_outcome : (o : Outcome) (a b : Result Job Refusal) (g v c g' v' c' : List ℕ) → outcome a g v c ≡ o → outcome b g' v' c' ≡ o → Same a b g v c g' v' c'
one_outcome o a b g v c g' v' c' d e =
    let s : outcome a g v c ≡ outcome b g' v' c' = d ∙ sym e in
    let x = areas_are a g v c in
    let y = areas_are b g' v' c' in
    let n : number_said a ≡ number_said b = sym (number_is a g v c) ∙ ap (λ (x : Outcome). x.number) s ∙ number_is b g' v' c' in
    record {
      number = n;
      height = ap (λ (x : Outcome). x.height) s;
      gates = ap (λ (x : Outcome). x.gates) s;
      given = ap (λ (x : Outcome). x.given) s;
      records = ap (λ (x : Outcome). x.records) s;
      gates_area = sym x.0 ∙ ap (λ (x : Outcome). x.gates_area) s ∙ y.0;
      given_area = sym x.1 ∙ ap (λ (x : Outcome). x.given_area) s ∙ y.1;
      records_area = sym x.2 ∙ ap (λ (x : Outcome). x.records_area) s ∙ y.2;
      answer = λ k. one_answer a b n k (λ i j p q. sym (job_is a i g v c p) ∙ ap job_told s ∙ job_is b j g' v' c' q);
    }

-- no job and no areas give 23
no_loop : (j : Job?) (g v c : List ℕ) → (read_into j g v c).number ≢ 23
unfolding read_into refused laid
no_loop no_job g v c e = absurd (omega (arith, e))
no_loop (job J) g v c e = split (room_for J g v c)
    (λ t. let k : 0 ≡ 23 = rw (t, read_into) at e in omega (arith, k))
    (λ f. let k : 2 ≡ 23 = rw (f, read_into) at e in omega (arith, k))

-- two answers that the promise of one call allows, and their areas, are the same
pub one_call : (j : Job?) (gates given records : List ℕ) (a b : Result Job Refusal) (g v c g' v' c' : List ℕ) →
    outcome a g v c ≡ read_into j gates given records → outcome b g' v' c' ≡ read_into j gates given records → (a ≡ b) × (g ≡ g') × (v ≡ v') × (c ≡ c')
one_call j gates given records a b g v c g' v' c' d e =
    let s = one_outcome _ a b g v c g' v' c' d e in
    let n : number_said a ≡ (read_into j gates given records).number = sym (number_is a g v c) ∙ ap (λ (x : Outcome). x.number) d in
    (s.answer (λ k. no_loop j gates given records (sym n ∙ k)), s.gates_area, s.given_area, s.records_area)
