-- Loops: a graph whose operands are its pins has none exactly where some rank falls along operands; one such rank is the number of pins under a pin. Assumes nothing.
use Prim.Native.Nat.{ℕ, zero, suc, ◌+◌, ◌≤◌, ◌<◌}
use mathlib.Core.Path.{◌≡◌, refl}
use mathlib.Core.Logic.{◌⊎◌, inl, inr, ◌≢◌}
use mathlib.Core.Bool.{true, false}
use mathlib.Core.List.{List, [], ◌∷◌, ◌++◌}
use native.Mathlib.Omega.{arith}
use lib.Dec.{eqb, ltb}
use lib.ListN.{length, length-append}
use borrow.Author.Tests.{ltb-true, ltb-false}
use Rattle.rules.specs.Lists.{mem, insert, insert_all, distinct, gather, up_to, Found, nothing, found, In, Out, Sub, Once, nobody, one}
use Rattle.rules.specs.Graph.{Node, below}
use Rattle.rules.specs.Loops.{grown, closure, under, on_loop, loop_from, loop_pin, is_nothing, loopless, From, start, step, Loop}
use Rattle.rules.proofs.Lists.Members.{split, true_false, eqb_true, eqb_false, in_here, in_there, in_cons, in_nil, in_insert_all_old, insert_all_in, in_distinct, distinct_in, in_gather, gather_in}
use Rattle.rules.proofs.Lists.Lengths.{length-up_to}
use Rattle.rules.specs.Inside.Walks.{Ranked, rank}
use Rattle.rules.proofs.Walk.Traverse.{from_mono, from_rank}
use Rattle.rules.proofs.Stage.Last.{once_length}
use Rattle.rules.proofs.Written.Words.{once_insert_all}

-- where a rank falls along operands there is no loop
pub ranked_no_loop : (g : List Node) (r : ℕ → ℕ) → Ranked g [] r → (p : ℕ) → Loop g p → ⊥
ranked_no_loop g r k p l = omega (arith, from_rank g [] (below g [] p) r k (r p) (k p) l)

-- ---- lists

in_up_to : (n i q : ℕ) → i ≤ q → q < n + i → In q (up_to n i)
unfolding up_to
in_up_to zero i q h k = absurd (omega arith)
in_up_to (suc n) i q h k = split (eqb q i)
    (λ e. rw (eqb_true q i e) (in_here i (up_to n (suc i))))
    (λ e. let d : q ≢ i = eqb_false q i e in in_there q i (up_to n (suc i)) (in_up_to n (suc i) q (omega (arith, d)) (omega arith)))

-- pins below n, each once, are at most n
once_few : (n : ℕ) {xs : List ℕ} → Once xs → ((q : ℕ) → In q xs → q < n) → length xs ≤ n
once_few n k h = omega (arith, once_length k (up_to n 0) (λ q e. in_up_to n 0 q (omega arith) (omega (arith, h q e))), length-up_to n 0)

insert_length : (p : ℕ) (xs : List ℕ) → length xs ≤ length (insert p xs)
unfolding insert
insert_length p xs = split (mem p xs) (λ e. rw (e, insert) (omega arith)) (λ e. rw (e, insert) (omega (arith, length-append xs (p ∷ []))))

insert_all-length : (ps xs : List ℕ) → length xs ≤ length (insert_all ps xs)
unfolding insert_all
insert_all-length [] xs = omega arith
insert_all-length (p ∷ ps) xs = omega (arith, insert_length p xs, insert_all-length ps (insert p xs))

-- putting pins in finds a new one, or all of them were there
insert_all_grows : (ps xs : List ℕ) → Sub ps xs ⊎ (length xs < length (insert_all ps xs))
unfolding insert_all insert
insert_all_grows [] xs = inl (λ q e. in_nil q e)
insert_all_grows (p ∷ ps) xs = split (mem p xs)
    (λ e. elim (insert_all_grows ps xs) [
      | inl h ↦ inl (λ q d. elim (in_cons q p ps d) [ inl c ↦ rw c e | inr c ↦ h q c ])
      | inr h ↦ inr (rw (e, insert_all, insert) h)
    ])
    (λ e. inr (rw (e, insert_all, insert) (omega (arith, length-append xs (p ∷ []), insert_all-length ps (xs ++ (p ∷ []))))))

-- ---- the pins under a pin

-- some pins with the operands of each
abbrev Closed : List Node → List ℕ → Type 0
Closed g s = (p x : ℕ) → In p s → In x (below g [] p) → In x s

module _ (g : List Node) where
  grown_in : (s : List ℕ) (q : ℕ) → In q (grown g s) → In q s ⊎ ((p : ℕ) × In p s × In q (below g [] p))
  unfolding grown
  grown_in s q e = elim (insert_all_in q (gather (below g []) s) s e) [ inl d ↦ inr (gather_in (below g []) q s d) | inr d ↦ inl d ]

  grown_old : (s : List ℕ) → Sub s (grown g s)
  unfolding grown
  grown_old s q e = in_insert_all_old q (gather (below g []) s) s e

  closed_grown : (s : List ℕ) → Closed g s → Closed g (grown g s)
  closed_grown s c p x i e = grown_old s x (c p x (elim (grown_in s p i) [ inl d ↦ d | inr d ↦ c d.0 p d.1 d.2 ]) e)

  closed_closure : (f : ℕ) (s : List ℕ) → Closed g s → Closed g (closure f g s)
  unfolding closure
  closed_closure zero s c = c
  closed_closure (suc f) s c = closed_closure f (grown g s) (closed_grown s c)

  closure_old : (f : ℕ) (s : List ℕ) → Sub s (closure f g s)
  unfolding closure
  closure_old zero s q e = e
  closure_old (suc f) s q e = closure_old f (grown g s) q (grown_old s q e)

  closure_from : (ps : List ℕ) (f : ℕ) (s : List ℕ) → ((x : ℕ) → In x s → From g [] ps x) → (q : ℕ) → In q (closure f g s) → From g [] ps q
  unfolding closure
  closure_from ps zero s h q e = h q e
  closure_from ps (suc f) s h q e = closure_from ps f (grown g s) (λ x d. elim (grown_in s x d) [ inl c ↦ h x c | inr c ↦ step (h c.0 c.1) c.2 ]) q e

  closure_once : (f : ℕ) {s : List ℕ} → Once s → Once (closure f g s)
  unfolding closure grown
  closure_once zero k = k
  closure_once (suc f) {s} k = closure_once f (once_insert_all (gather (below g []) s) k)

  under_once : (p : ℕ) → Once (under g p)
  unfolding under distinct
  under_once p = closure_once (length g) (once_insert_all (below g [] p) nobody)

  under_from : (p q : ℕ) → In q (under g p) → From g [] (below g [] p) q
  unfolding under
  under_from p q e = closure_from (below g [] p) (length g) (distinct (below g [] p)) (λ x d. start (distinct_in x (below g [] p) d)) q e

  -- a pin that is found to be on a loop is on one
  pub loop_there : (p : ℕ) → on_loop g p ≡ true → Loop g p
  unfolding on_loop
  loop_there p e = under_from p p e

  module _ (inside : (p x : ℕ) → In x (below g [] p) → x < length g) where
    from_inside : (p : ℕ) {q : ℕ} → From g [] (below g [] p) q → q < length g
    from_inside p (start {q = q} e) = inside p q e
    from_inside p (step {q = q} {x = x} f e) = inside q x e

    closure_closed : (f : ℕ) {s : List ℕ} → Once s → ((q : ℕ) → In q s → q < length g) → length g ≤ f + length s → Closed g (closure f g s)
    unfolding closure grown
    closure_closed zero {s} k b h = λ p x i e. split (mem x s) (λ d. d)
        (λ d. absurd (omega (arith, once_few (length g) (one d k) (λ q j. elim (in_cons q x s j) [ inl c ↦ rw c (inside p x e) | inr c ↦ b q c ]))))
    closure_closed (suc f) {s} k b h = elim (insert_all_grows (gather (below g []) s) s) [
      | inl c ↦ closed_closure (suc f) s (λ p x i e. c x (in_gather (below g []) x p s i e))
      | inr c ↦ closure_closed f (once_insert_all (gather (below g []) s) k) (λ q j. elim (grown_in s q j) [ inl d ↦ b q d | inr d ↦ inside d.0 q d.2 ]) (omega arith)
    ]

    under_closed : (p : ℕ) → Closed g (under g p)
    unfolding under distinct
    under_closed p = closure_closed (length g) (once_insert_all (below g [] p) nobody) (λ q e. inside p q (distinct_in q (below g [] p) e)) (omega arith)

    from_under : (p : ℕ) {q : ℕ} → From g [] (below g [] p) q → In q (under g p)
    unfolding under
    from_under p (start {q = q} e) = closure_old (length g) (distinct (below g [] p)) q (in_distinct q (below g [] p) e)
    from_under p (step {q = q} {x = x} f e) = under_closed p q x (from_under p f) e

    -- and each pin on a loop is found
    pub loop_found : (p : ℕ) → Loop g p → on_loop g p ≡ true
    unfolding on_loop
    loop_found p l = from_under p l

    -- without a loop the number of pins under a pin falls along operands, and is at most N
    module _ (no : (p : ℕ) → Loop g p → ⊥) where
      alone : (p : ℕ) → Once (p ∷ under g p)
      alone p = one (split (mem p (under g p)) (λ e. absurd (no p (under_from p p e))) (λ e. e)) (under_once p)

      -- without loops an operand has fewer pins under it than its gate
      pub rank_falls : Ranked g [] (rank g)
      unfolding rank
      rank_falls p x e = omega (
        arith,
        once_length (alone x) (under g p) (λ q i. elim (in_cons q x (under g x) i) [
          | inl d ↦ rw d (from_under p (start e))
          | inr d ↦ from_under p (from_mono g [] (below g [] x) (below g [] p) (λ y j. step (start e) j) (under_from x q d))
        ]),
      )

      -- and a pin of the graph has fewer than N + 1
      pub rank_few : (p : ℕ) → p < length g → rank g p < length g
      unfolding rank
      rank_few p h = omega (arith, once_few (length g) (alone p) (λ q i. elim (in_cons q p (under g p) i) [ inl d ↦ rw d h | inr d ↦ from_inside p (under_from p q d) ]))

      from_above : ((q x : ℕ) → In x (below g [] q) → 0 < x) → (p : ℕ) {q : ℕ} → From g [] (below g [] p) q → 0 < q
      from_above above p (start {q = q} e) = above p q e
      from_above above p (step {q = q} {x = x} f e) = above q x e

      -- where pin 0 is no operand, a pin above it has fewer than N
      pub rank_fewer : ((q x : ℕ) → In x (below g [] q) → 0 < x) → (p : ℕ) → 0 < p → p < length g → suc (rank g p) < length g
      unfolding rank
      rank_fewer above p k h =
          let out : Out 0 (p ∷ under g p) = split (mem 0 (p ∷ under g p)) (λ e. absurd (elim (in_cons 0 p (under g p) e) [ inl d ↦ omega arith | inr d ↦ let z = from_above above p (under_from p 0 d) in omega arith ])) (λ e. e) in
          omega (
            arith,
            once_few (length g) (one out (alone p)) (λ q i. elim (in_cons q 0 (p ∷ under g p) i) [
              | inl d ↦ rw d (omega arith)
              | inr d ↦ elim (in_cons q p (under g p) d) [ inl c ↦ rw c h | inr c ↦ from_inside p (under_from p q c) ]
            ]),
          )

-- ---- the smallest pin on a loop

module _ (g : List Node) where
  -- what the search from p on over n pins gives
  pub data Sought (n p : ℕ) : Found → Type 0 where
    missed : ((q : ℕ) → p ≤ q → q < n + p → on_loop g q ≡ false) → Sought n p nothing
    met : {k : ℕ} → on_loop g k ≡ true → p ≤ k → k < n + p → ((q : ℕ) → p ≤ q → q < k → on_loop g q ≡ false) → Sought n p (found k)

  sooner : (p q : ℕ) → on_loop g p ≡ false → p ≤ q → (suc p ≤ q → on_loop g q ≡ false) → on_loop g q ≡ false
  sooner p q e h k = split (eqb q p) (λ d. rw (eqb_true q p d) e) (λ d. k (omega (arith, eqb_false q p d)))

  past : (n p : ℕ) (a : Found) → on_loop g p ≡ false → Sought n (suc p) a → Sought (suc n) p a
  past n p _ e (missed h) = missed (λ q i j. sooner p q e i (λ l. h q l (omega arith)))
  past n p _ e (met t i j h) = met t (omega arith) (omega arith) (λ q l k. sooner p q e l (λ m. h q m k))

  -- the search gives the first pin on a loop, or nothing where there is none
  pub sought : (n p : ℕ) → Sought n p (loop_from n g p)
  unfolding loop_from
  sought zero p = missed (λ q i j. absurd (omega arith))
  sought (suc n) p = split (on_loop g p)
      (λ e. rw (e, loop_from) (met e (omega arith) (omega arith) (λ q i j. absurd (omega arith))))
      (λ e. rw (e, loop_from) (past n p (loop_from n g (suc p)) e (sought n (suc p))))

  -- the answer is right: no loop, or the smallest pin on one
  pub data Answered : Found → Type 0 where
    none : ((p : ℕ) → Loop g p → ⊥) → Answered nothing
    least : {k : ℕ} → Loop g k → k < length g → ((q : ℕ) → Loop g q → k ≤ q) → Answered (found k)

  module _ (inside : (p x : ℕ) → In x (below g [] p) → x < length g) where
    answered : (a : Found) → Sought (length g) 0 a → Answered a
    answered _ (missed h) = none (λ p l. true_false (loop_found g inside p l) (h p (omega arith) (omega (arith, from_inside g inside p l))))
    answered _ (met {k = k} t i j h) = least (loop_there g k t) (omega arith)
        (λ q l. split (ltb q k) (λ c. true_false (loop_found g inside q l) (h q (omega arith) (ltb-true q k c))) (λ c. ltb-false q k c))

    -- the pin shown is the smallest on any loop, and none is shown where there is no loop
    pub loop_answered : Answered (loop_pin g)
    unfolding loop_pin
    loop_answered = answered (loop_from (length g) g 0) (sought (length g) 0)

    loopless_none : (a : Found) → Answered a → is_nothing a ≡ true → (p : ℕ) → Loop g p → ⊥
    unfolding is_nothing
    loopless_none _ (none h) e p l = h p l
    loopless_none _ (least l i h) e p d = true_false e refl

    none_loopless : (a : Found) → Answered a → ((p : ℕ) → Loop g p → ⊥) → is_nothing a ≡ true
    unfolding is_nothing
    none_loopless _ (none h) free = refl
    none_loopless _ (least {k = k} l i h) free = absurd (free k l)

    -- a graph is loopless exactly where no pin is on a loop
    pub loopless_no : loopless g ≡ true → (p : ℕ) → Loop g p → ⊥
    unfolding loopless
    loopless_no e = loopless_none (loop_pin g) loop_answered e

    -- and without loops it is found to be so
    pub no_loopless : ((p : ℕ) → Loop g p → ⊥) → loopless g ≡ true
    unfolding loopless
    no_loopless free = none_loopless (loop_pin g) loop_answered free

    -- so a graph with any rank is accepted, those with operands below their own pin among them
    pub ranked_loopless : (r : ℕ → ℕ) → Ranked g [] r → loopless g ≡ true
    ranked_loopless r k = no_loopless (ranked_no_loop g r k)
