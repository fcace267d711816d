-- Any two outcomes that the promise of `write` allows are the same, answer and bytes. Assumes nothing.
use mathlib.Core.List.{List}
use mathlib.Core.Logic.{◌≢◌}
use mathlib.Core.Path.{◌≡◌, refl, sym, ap, ◌∙◌}
use native.Mathlib.Omega.{arith}
use Prim.Native.Nat.{ℕ}
use lib.Dec.{leb}
use lib.ListN.{length}
use Rattle.std.specs.Prelude.{Result, Ok, Err}
use Rattle.rules.specs.Job.{File?, no_file, file}
use Rattle.rules.proofs.Lists.Members.{split}
use Rattle.refusals.specs.declared.Refusal.{Refusal}
use Rattle.refusals.specs.Numbers.{number_said}
use Rattle.refusals.proofs.Told.{one_answer}
use Rattle.job_write.specs.Answers.{Outcome, outcome, refused, write_into}

number_is : (a : Result ℕ Refusal) (xs : List ℕ) → (outcome a xs).number ≡ number_said a
unfolding outcome
number_is (Ok n) xs = refl
number_is (Err r) xs = refl

bytes_are : (a : Result ℕ Refusal) (xs : List ℕ) → (outcome a xs).bytes ≡ xs
unfolding outcome
bytes_are (Ok n) xs = refl
bytes_are (Err r) xs = refl

length_is : (a : Result ℕ Refusal) (n : ℕ) (xs : List ℕ) → a ≡ Ok n → (outcome a xs).length ≡ n
unfolding outcome
length_is a n xs e = rw e refl

-- two that tell the same outcome agree in number, length and bytes, and are the same but where 23 does not tell its pin
pub one_outcome : (o : Outcome) (a b : Result ℕ Refusal) (xs xs' : List ℕ) → outcome a xs ≡ o → outcome b xs' ≡ o →
    (number_said a ≡ number_said b) × ((outcome a xs).length ≡ (outcome b xs').length) × (xs ≡ xs') × (number_said a ≢ 23 → a ≡ b)
one_outcome o a b xs xs' d e =
    let s : outcome a xs ≡ outcome b xs' = d ∙ sym e in
    let n : number_said a ≡ number_said b = sym (number_is a xs) ∙ ap (λ (x : Outcome). x.number) s ∙ number_is b xs' in
    let l : (outcome a xs).length ≡ (outcome b xs').length = ap (λ (x : Outcome). x.length) s in
    (n, l, sym (bytes_are a xs) ∙ ap (λ (x : Outcome). x.bytes) s ∙ bytes_are b xs', λ k. one_answer a b n k (λ i j p q. sym (length_is a i xs p) ∙ l ∙ length_is b j xs' q))

-- no file and no bytes give 23
no_loop : (f : File?) (xs : List ℕ) → (write_into f xs).number ≢ 23
unfolding write_into refused
no_loop no_file xs e = absurd (omega (arith, e))
no_loop (file bs) xs e = split (leb (length bs) (length xs))
    (λ t. let k : 0 ≡ 23 = rw (t, write_into) at e in omega (arith, k))
    (λ f. let k : 2 ≡ 23 = rw (f, write_into) at e in omega (arith, k))

-- two answers that the promise of one call allows, and their bytes, are the same
pub one_call : (f : File?) (bytes : List ℕ) (a b : Result ℕ Refusal) (xs xs' : List ℕ) → outcome a xs ≡ write_into f bytes → outcome b xs' ≡ write_into f bytes → (a ≡ b) × (xs ≡ xs')
one_call f bytes a b xs xs' d e =
    let s = one_outcome _ a b xs xs' d e in
    let n : number_said a ≡ (write_into f bytes).number = sym (number_is a xs) ∙ ap (λ (x : Outcome). x.number) d in
    (s.3 (λ k. no_loop f bytes (sym n ∙ k)), s.2)
