-- Lists without repeats: their places, how long they get, and the swap with the last as one store. Assumes nothing.
use mathlib.Core.Path.{◌≡◌, refl, sym, ap, ◌∙◌}
use mathlib.Core.Logic.{inl, inr, ◌≢◌}
use mathlib.Core.List.{List, [], ◌∷◌, ◌++◌}
use Prim.Native.Nat.{ℕ, zero, suc, ◌+◌, ◌<◌, ◌≤◌}
use native.Mathlib.Omega.{arith}
use native.Mathlib.Decide.{ℕ_discrete}
use borrow.Author.Tests.{ne_eqb}
use lib.ListN.{length, get_or, set, take, length-set, length-map}
use lib.Seq.{ext_get_or, length-take-le, get_or-take, get_or-set_same, get_or-set_other}
use Rattle.rules.proofs.Lists.Parts.{get_d_map}
use Rattle.rules.specs.Lists.{mem, insert, up_to, init, last_of, swap_out, In, Out, Once, nobody, one}
use Rattle.rules.proofs.Lists.Members.{split, true_false, eqb_same, in_here, in_there, in_get_or, in_insert_old, insert_in}
use Rattle.rules.proofs.Lists.Lengths.{length-up_to}
use Rattle.rules.proofs.Stage.Last.{once_length, swapped}

-- in a list without repeats one pin stands at one place
pub once_place : {xs : List ℕ} → Once xs → (i j : ℕ) → i < length xs → j < length xs → get_or xs i 0 ≡ get_or xs j 0 → i ≡ j
once_place nobody i j hi hj e = absurd (omega arith)
once_place (one o k) zero zero hi hj e = refl
once_place (one {x = x} {xs = xs} o k) zero (suc j) hi hj e = true_false (rw (← e) at (in_get_or xs j 0 (omega arith))) o
once_place (one {x = x} {xs = xs} o k) (suc i) zero hi hj e = true_false (rw e at (in_get_or xs i 0 (omega arith))) o
once_place (one o k) (suc i) (suc j) hi hj e = ap suc (once_place k i j (omega arith) (omega arith) e)

-- pins below m, each once, are at most m
in_up_to : (n i q : ℕ) → i ≤ q → q < i + n → In q (up_to n i)
unfolding up_to
in_up_to zero i q a b = absurd (omega arith)
in_up_to (suc n) i q a b = elim (ℕ_discrete q i) [
  | yes e ↦ rw e (in_here i (up_to n (suc i)))
  | no ne ↦ in_there q i (up_to n (suc i)) (in_up_to n (suc i) q (let l : (q ≡ i → ⊥) = ne in omega arith) (omega arith))
]

-- pins below m, each once, are at most m
pub once_few : {xs : List ℕ} → Once xs → (m : ℕ) → ((p : ℕ) → In p xs → p < m) → length xs ≤ m
once_few k m h = omega (arith, once_length k (up_to m 0) (λ q e. in_up_to m 0 q (omega arith) (omega (arith, h q e))), length-up_to m 0)

-- a list with one more
pub insert_old : (p : ℕ) (xs : List ℕ) → In p xs → insert p xs ≡ xs
unfolding insert
insert_old p xs e = rw (e, insert)

-- a pin that is not there goes behind the list
pub insert_new : (p : ℕ) (xs : List ℕ) → Out p xs → insert p xs ≡ xs ++ (p ∷ [])
unfolding insert
insert_new p xs e = rw (e, insert)

-- taking one pin in does not change whether another is there
pub mem_insert : (q p : ℕ) (xs : List ℕ) → q ≢ p → mem q (insert p xs) ≡ mem q xs
mem_insert q p xs ne = split (mem q xs)
    (λ e. in_insert_old q p xs e ∙ sym e)
    (λ e. split (mem q (insert p xs)) (λ d. elim (insert_in q p xs d) [ inl c ↦ absurd (ne c) | inr c ↦ true_false c e ]) (λ d. d ∙ sym e))

-- `swap_out` as a store of the last entry, and one entry less
init_take : (xs : List ℕ) (k : ℕ) → length xs ≡ suc k → init xs ≡ take k xs
unfolding init
init_take [] k e = absurd (omega arith)
init_take (x ∷ []) zero e = refl
init_take (x ∷ []) (suc k) e = absurd (omega arith)
init_take (x ∷ y ∷ ys) zero e = absurd (omega arith)
init_take (x ∷ y ∷ ys) (suc k) e = ap (λ (l : List ℕ). x ∷ l) (init_take (y ∷ ys) k (omega arith))

last_get_or : (d : ℕ) (xs : List ℕ) (k : ℕ) → length xs ≡ suc k → last_of d xs ≡ get_or xs k 0
unfolding last_of
last_get_or d [] k e = absurd (omega arith)
last_get_or d (x ∷ []) zero e = refl
last_get_or d (x ∷ []) (suc k) e = absurd (omega arith)
last_get_or d (x ∷ y ∷ ys) zero e = absurd (omega arith)
last_get_or d (x ∷ y ∷ ys) (suc k) e = last_get_or x (y ∷ ys) k (omega arith)

module _ {xs : List ℕ} (k i : ℕ) (once : Once xs) (long : length xs ≡ suc k) (here : i < suc k) where
  swap_at : (j : ℕ) → j < k → Dec (j ≡ i) → swapped (get_or xs i 0) (last_of (get_or xs j 0) xs) (get_or xs j 0) ≡ get_or (set xs i (get_or xs k 0)) j 0
  swap_at j h (yes e) = rw (e, eqb_same (get_or xs i 0), get_or-set_same xs i (get_or xs k 0) 0 (omega arith), swapped) (last_get_or (get_or xs j 0) xs k long)
  swap_at j h (no ne) = rw (ne_eqb (get_or xs j 0) (get_or xs i 0) (λ e. ne (once_place once j i (omega arith) (omega arith) e)), get_or-set_other xs i j (get_or xs k 0) 0 ne, swapped)

  -- the swap leaves one entry less
  pub length_swap : length (swap_out (get_or xs i 0) xs) ≡ k
  unfolding swap_out
  length_swap = rw (length-map, init_take xs k long) (length-take-le k xs (omega arith))

  -- the swap is the last entry stored in the pin's place, and the list cut by one
  pub swap_out_is : swap_out (get_or xs i 0) xs ≡ take k (set xs i (get_or xs k 0))
  unfolding swap_out
  swap_out_is = ext_get_or 0 _ _ (length_swap ∙ sym (length-take-le k _ (rw length-set (omega arith)))) (λ j h. cell j (rw length_swap at h))
    where
      cell : (j : ℕ) → j < k → get_or (swap_out (get_or xs i 0) xs) j 0 ≡ get_or (take k (set xs i (get_or xs k 0))) j 0
      cell j h = get_d_map _ (init xs) j (rw (init_take xs k long, length-take-le k xs (omega arith)) h) ∙ ap (λ (y : ℕ). swapped (get_or xs i 0) (last_of y xs) y) (rw (init_take xs k long) (get_or-take k xs j 0 h))
          ∙ swap_at j h (ℕ_discrete j i) ∙ sym (get_or-take k (set xs i (get_or xs k 0)) j 0 h)
