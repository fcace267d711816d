-- Any two outcomes that the promise of `listing`, `refused` or `answer_text` allows are the same, answer and area. Assumes nothing.
use mathlib.Core.Bool.{true}
use mathlib.Core.List.{List}
use mathlib.Core.Logic.{◌≢◌}
use mathlib.Core.Path.{◌≡◌, refl, sym, ap, ◌∙◌}
use native.Mathlib.Omega.{arith}
use Prim.Native.Nat.{ℕ, ◌≤◌}
use lib.Dec.{leb, eqb}
use lib.ListN.{length}
use Rattle.std.specs.Prelude.{Result, Ok, Err}
use Rattle.rules.specs.Cells.{is_height, stage_size}
use Rattle.rules.specs.Listing.{listing, refused_line}
use Rattle.rules.proofs.Lists.Members.{split}
use Rattle.refusals.specs.declared.Refusal.{Refusal}
use Rattle.refusals.specs.Numbers.{number_said}
use Rattle.refusals.proofs.Told.{one_answer}
use Rattle.listing_lines.specs.Stages.{stages_in}
use Rattle.listing.specs.Listing.{Outcome, outcome, told, written, hold, listed, answered}

-- two that tell the same outcome agree in number, length and area
pub one_outcome : (o : Outcome) (n n' m m' : ℕ) (out out' : List ℕ) → outcome n m out ≡ o → outcome n' m' out' ≡ o → (n ≡ n') × (m ≡ m') × (out ≡ out')
unfolding outcome
one_outcome o n n' m m' out out' d e =
    let s : outcome n m out ≡ outcome n' m' out' = d ∙ sym e in
    (ap (λ (x : Outcome). x.number) s, ap (λ (x : Outcome). x.length) s, ap (λ (x : Outcome). x.out) s)

-- ---- answers

number_is : (a : Result ℕ Refusal) (out : List ℕ) → (told a out).number ≡ number_said a
unfolding outcome
number_is (Ok n) out = refl
number_is (Err r) out = refl

area_is : (a : Result ℕ Refusal) (out : List ℕ) → (told a out).out ≡ out
unfolding outcome
area_is (Ok n) out = refl
area_is (Err r) out = refl

length_is : (a : Result ℕ Refusal) (n : ℕ) (out : List ℕ) → a ≡ Ok n → (told a out).length ≡ n
unfolding outcome
length_is a n out e = rw e refl

-- two answers and their areas agree in everything; 23 alone does not tell its pin
pub record Same (a b : Result ℕ Refusal) (out out' : List ℕ) : Type 0 where
  pub number : number_said a ≡ number_said b
  pub length : (told a out).length ≡ (told b out').length
  pub area : out ≡ out'
  pub answer : number_said a ≢ 23 → a ≡ b

-- two that tell the same outcome do
pub one_told : (o : Outcome) (a b : Result ℕ Refusal) (out out' : List ℕ) → told a out ≡ o → told b out' ≡ o → Same a b out out'
one_told o a b out out' d e =
    let s : told a out ≡ told b out' = d ∙ sym e in
    let n : number_said a ≡ number_said b = sym (number_is a out) ∙ ap (λ (x : Outcome). x.number) s ∙ number_is b out' in
    let l : (told a out).length ≡ (told b out').length = ap (λ (x : Outcome). x.length) s in
    record {
      number = n;
      length = l;
      area = sym (area_is a out) ∙ ap (λ (x : Outcome). x.out) s ∙ area_is b out';
      answer = λ k. one_answer a b n k (λ i j p q. sym (length_is a i out p) ∙ l ∙ length_is b j out' q);
    }

-- ---- what one call promises

few_written : (text area : List ℕ) → (written text area).number ≤ 2
unfolding written outcome
few_written text area = split (leb (length text) (length area)) (λ t. rw (t, written) (omega arith)) (λ f. rw (f, written) (omega arith))

module _ (K n : ℕ) (plan words counts area : List ℕ) where
  few_held : is_height K ≡ true → (listed K n plan words counts area).number ≤ 2
  unfolding listed outcome
  few_held h = split (hold K n plan words counts)
      (λ t. rw (h, listed, t) (few_written (listing K (stages_in (stage_size K) n plan words counts)) area))
      (λ f. rw (h, listed, f) (omega arith))

  few_listed : (listed K n plan words counts area).number ≤ 2
  unfolding listed outcome
  few_listed = split (is_height K) few_held (λ f. rw (f, listed) (omega arith))

few_answered : (K number stages stage pin : ℕ) (plan words counts area : List ℕ) → (answered K number stages stage pin plan words counts area).number ≤ 2
unfolding answered
few_answered K number stages stage pin plan words counts area = split (eqb number 0)
    (λ t. rw (t, answered) (few_listed K stages plan words counts area))
    (λ f. rw (f, answered) (few_written (refused_line number stage pin) area))

-- two that tell the same outcome of so few numbers are the same
one_few : (o : Outcome) → o.number ≤ 2 → (a b : Result ℕ Refusal) (out out' : List ℕ) → told a out ≡ o → told b out' ≡ o → (a ≡ b) × (out ≡ out')
one_few o few a b out out' d e =
    let s = one_told o a b out out' d e in
    let n : number_said a ≡ o.number = sym (number_is a out) ∙ ap (λ (x : Outcome). x.number) d in
    (s.answer (λ k. omega (arith, n, k)), s.area)

-- two answers that the promise of one call allows, and their areas, are the same: of `listing`,
pub one_listed : (K n : ℕ) (plan words counts area : List ℕ) (a b : Result ℕ Refusal) (out out' : List ℕ) →
    told a out ≡ listed K n plan words counts area → told b out' ≡ listed K n plan words counts area → (a ≡ b) × (out ≡ out')
one_listed K n plan words counts area = one_few _ (few_listed K n plan words counts area)

-- of `refused`, and of every other that writes a text,
pub one_written : (text area : List ℕ) (a b : Result ℕ Refusal) (out out' : List ℕ) → told a out ≡ written text area → told b out' ≡ written text area → (a ≡ b) × (out ≡ out')
one_written text area = one_few _ (few_written text area)

-- and of `answer_text`
pub one_answered : (K number stages stage pin : ℕ) (plan words counts area : List ℕ) (a b : Result ℕ Refusal) (out out' : List ℕ) →
    told a out ≡ answered K number stages stage pin plan words counts area → told b out' ≡ answered K number stages stage pin plan words counts area → (a ≡ b) × (out ≡ out')
one_answered K number stages stage pin plan words counts area = one_few _ (few_answered K number stages stage pin plan words counts area)
