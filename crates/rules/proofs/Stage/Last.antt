-- Realised pins leave the waiting list, the last takes each one's place: what is left stands once, and nothing if all are realised. Assumes nothing.
use Prim.Native.Nat.{ℕ, suc, pred, ◌-◌, ◌≤◌, zero-le}
use mathlib.Core.Path.{◌≡◌, refl, sym, ◌∙◌, ap, subst}
use mathlib.Core.Logic.{inl, inr, ◌≢◌}
use mathlib.Core.Bool.{true, false}
use mathlib.Core.List.{List, [], ◌∷◌, map}
use native.Mathlib.Omega.{arith}
use lib.Dec.{eqb}
use lib.ListN.{length, length-map}
use Rattle.rules.specs.Lists.{mem, init, last_of, swap_out, swap_out_all, In, Out, Sub, Once, nobody, one}
use Rattle.rules.proofs.Lists.Members.{split, true_false, eqb_true, eqb_false, in_here, in_there, in_cons, in_nil, out_head, out_tail, init_in, last_in, map_in}
use Rattle.rules.proofs.Walk.Reverse.{out_sub}

-- taking out shortens by one, whatever is taken out
length_init : (xs : List ℕ) → length (init xs) ≡ pred (length xs)
unfolding init
length_init [] = refl
length_init (x ∷ []) = refl
length_init (x ∷ y ∷ ys) = rw (length_init (y ∷ ys))

length-swap_out : (p : ℕ) (xs : List ℕ) → length (swap_out p xs) ≡ pred (length xs)
unfolding swap_out
length-swap_out p xs = length-map (init xs) _ ∙ length_init xs

-- each one taken out leaves one less
pub length-swap_out_all : (ps xs : List ℕ) → length (swap_out_all ps xs) ≡ length xs - length ps
unfolding swap_out_all
length-swap_out_all [] xs = omega arith
length-swap_out_all (p ∷ ps) xs = omega (arith, length-swap_out_all ps (swap_out p xs), length-swap_out p xs)

unfoldable drops : ℕ → List ℕ → List ℕ
drops p [] = []
drops p (x ∷ xs) = elim (eqb p x) [ true ↦ xs | false ↦ x ∷ drops p xs ]

drops_length : (p : ℕ) (xs : List ℕ) → In p xs → suc (length (drops p xs)) ≡ length xs
unfolding drops
drops_length p [] e = in_nil p e
drops_length p (x ∷ xs) e = split (eqb p x) (λ b. rw (b, drops))
    (λ b. rw (b, drops) (elim (in_cons p x xs e) [ inl d ↦ absurd (eqb_false p x b d) | inr d ↦ ap suc (drops_length p xs d) ]))

drops_in : (p q : ℕ) (xs : List ℕ) → q ≢ p → In q xs → In q (drops p xs)
unfolding drops
drops_in p q [] n e = in_nil q e
drops_in p q (x ∷ xs) n e = elim (in_cons q x xs e) [
  | inl d ↦ split (eqb p x) (λ b. absurd (n (d ∙ sym (eqb_true p x b)))) (λ b. rw (b, drops) (rw d (in_here x (drops p xs))))
  | inr d ↦ split (eqb p x) (λ b. rw (b, drops) d) (λ b. rw (b, drops) (in_there q x (drops p xs) (drops_in p q xs n d)))
]

-- a list with no number twice is no longer than a list that holds all of it
pub once_length : {xs : List ℕ} → Once xs → (ys : List ℕ) → Sub xs ys → length xs ≤ length ys
once_length nobody ys h = zero-le
once_length (one {x = x} {xs = xs} o k) ys h =
    omega (arith, once_length k (drops x ys) (λ q e. drops_in x q ys (λ d. true_false (rw d at e) o) (h q (in_there q x xs e))), drops_length x ys (h x (in_here x xs)))

-- so what is left to wait is nothing once all are realised
pub all_out : {xs : List ℕ} → Once xs → (ps : List ℕ) → Sub xs ps → swap_out_all ps xs ≡ []
all_out {xs} k ps h = empty_list (swap_out_all ps xs) (omega (arith, length-swap_out_all ps xs, once_length k ps h))
  where
    empty_list : (ys : List ℕ) → length ys ≡ 0 → ys ≡ []
    empty_list [] e = refl
    empty_list (y ∷ ys) e = absurd (omega arith)

-- taking out keeps each pin once
once_init : {xs : List ℕ} → Once xs → Once (init xs)
unfolding init
once_init nobody = nobody
once_init (one o nobody) = nobody
once_init (one {x = x} o (one {x = y} {xs = ys} q k)) = one (out_sub (init (y ∷ ys)) (y ∷ ys) (λ z i. init_in z (y ∷ ys) i) x o) (once_init (one q k))

last_out : (d : ℕ) {xs : List ℕ} → Once xs → Out (last_of d xs) (init xs)
unfolding init last_of mem
last_out d nobody = refl
last_out d (one o nobody) = refl
last_out d (one {x = x} o (one {x = y} {xs = ys} q k)) = split (mem (last_of y ys) (x ∷ init (y ∷ ys)))
    (λ e. elim (in_cons (last_of y ys) x (init (y ∷ ys)) e) [ inl a ↦ true_false (rw a at (last_in y ys)) o | inr a ↦ true_false a (last_out x (one q k)) ]) (λ e. e)

-- an entry of a list that p leaves while z takes its place
abbrev pub swapped : ℕ → ℕ → ℕ → ℕ
swapped p z x = elim (eqb x p) [ true ↦ z | false ↦ x ]

swap_clash : (p z y x : ℕ) (ys : List ℕ) → In x ys → Out y ys → Out z (y ∷ ys) → swapped p z y ≡ swapped p z x → ⊥
swap_clash p z y x ys i q o e = split (eqb y p)
    (λ b. split (eqb x p)
    (λ c. true_false (subst (λ (u : ℕ). In u ys) (eqb_true x p c ∙ sym (eqb_true y p b)) i) q)
    (λ c. let d : z ≡ x = rw (b, c, swapped) at e in true_false (rw (← d) at i) (out_tail z y ys o)))
    (λ b. split (eqb x p)
    (λ c. let d : y ≡ z = rw (b, c, swapped) at e in absurd (out_head z y ys o (sym d)))
    (λ c. let d : y ≡ x = rw (b, c, swapped) at e in true_false (rw (← d) at i) q))

once_swap : (p z : ℕ) {ys : List ℕ} → Once ys → Out z ys → Once (map (swapped p z) ys)
once_swap p z nobody o = nobody
once_swap p z (one {x = y} {xs = ys} q k) o = one
    (split (mem (swapped p z y) (map (swapped p z) ys)) (λ e. let m = map_in (swapped p z) (swapped p z y) ys e in absurd (swap_clash p z y m.0 ys m.1 q o m.2)) (λ e. e))
    (once_swap p z k (out_tail z y ys o))

-- where no number stands twice, none does when one is taken out
pub once_swap_out : (p : ℕ) {xs : List ℕ} → Once xs → Once (swap_out p xs)
unfolding swap_out last_of init
once_swap_out p nobody = nobody
once_swap_out p (one {x = x} {xs = xs} o k) = once_swap p (last_of x xs) (once_init (one o k)) (last_out x (one o k))

-- nor when several are
pub once_swap_out_all : (ps : List ℕ) {xs : List ℕ} → Once xs → Once (swap_out_all ps xs)
unfolding swap_out_all
once_swap_out_all [] k = k
once_swap_out_all (p ∷ ps) k = once_swap_out_all ps (once_swap_out p k)
