-- The bits of the pins at a clock are what request Q-6 says: a driven leaf has its flip-flop's, another leaf its own of the line. Assumes nothing.
use Prim.Native.Nat.{ℕ, zero, suc, ◌+◌, ◌-◌, ◌≤◌, ◌<◌}
use mathlib.Core.Path.{◌≡◌, refl, sym, ◌∙◌, ap}
use mathlib.Core.Bool.{Bool, true, false, not, ◌&&◌}
use mathlib.Core.List.{List, [], ◌∷◌, ◌++◌, map}
use mathlib.Core.Logic.{⊎_elim}
use native.Mathlib.Omega.{arith}
use lib.Dec.{ltb, eqb}
use lib.ListN.{length, get_or, drop, length-append, get_or-append, get_or-map}
use lib.Seq.{get_or-drop, get_or-append-add}
use borrow.Author.Tests.{ltb-true}
use Rattle.rules.specs.Lists.{mem, keep, every, up_to}
use Rattle.rules.specs.Graph.{Node, leaf}
use Rattle.rules.specs.Fold.{is_leaf, as_number}
use Rattle.rules.specs.Lists.{In}
use Rattle.rules.proofs.Lists.Members.{split, T→true, true→T, true_false, eqb_same, eqb_true, and_true, keep_in, every_in, in_get_or, in_append, in_here, in_there, in_cons, in_nil}
use Rattle.replay_form.specs.Clocks.{is_one, leaf_pin, line_leaves, beside, pin_bits}
use Rattle.replay_form.specs.Calls.{once}

not_true : (b : Bool) → not b ≡ true → b ≡ false
not_true true e = sym e
not_true false e = refl

-- ---- lists that hold each number once

module _ (x : ℕ) (xs : List ℕ) where
  once_head : once (x ∷ xs) ≡ true → mem x xs ≡ false
  unfolding once
  once_head e = not_true (mem x xs) (and_true (not (mem x xs)) (once xs) e).0

  once_tail : once (x ∷ xs) ≡ true → once xs ≡ true
  unfolding once
  once_tail e = (and_true (not (mem x xs)) (once xs) e).1

  once_cons : mem x xs ≡ false → once xs ≡ true → once (x ∷ xs) ≡ true
  unfolding once
  once_cons a b = rw (a, b)

-- the bit beside entry i is bit i
beside_at : (ps bs : List ℕ) (i : ℕ) → once ps ≡ true → i < length ps → beside (get_or ps i 0) ps bs ≡ get_or bs i 0
unfolding beside
beside_at [] bs i o h = absurd (omega arith)
beside_at (p ∷ ps) bs zero o h = rw (eqb_same p, beside)
beside_at (p ∷ ps) bs (suc i) o h = split (eqb (get_or ps i 0) p)
    (λ e. true_false (rw (eqb_true (get_or ps i 0) p e) at (in_get_or ps i 0 (omega arith))) (once_head p ps o))
    (λ e. rw (e, beside) (beside_at ps (drop 1 bs) i (once_tail p ps o) (omega arith) ∙ get_or-drop 1 bs i 0 ∙ ap (λ (k : ℕ). get_or bs k 0) (omega arith)))

once_append : (xs ys : List ℕ) → once xs ≡ true → once ys ≡ true → ((x : ℕ) → In x xs → In x ys → ⊥) → once (xs ++ ys) ≡ true
once_append [] ys a b h = b
once_append (x ∷ xs) ys a b h = once_cons x (xs ++ ys)
    (split (mem x (xs ++ ys)) (λ e. absurd (⊎_elim (λ i. true_false i (once_head x xs a)) (λ i. h x (in_here x xs) i) (in_append x xs ys e))) (λ e. e))
    (once_append xs ys (once_tail x xs a) b (λ y i j. h y (in_there y x xs i) j))

once_keep : (f : ℕ → Bool) (xs : List ℕ) → once xs ≡ true → once (keep f xs) ≡ true
unfolding keep
once_keep f [] o = o
once_keep f (x ∷ xs) o = split (f x)
    (λ e. rw (e, keep)
    (once_cons x (keep f xs) (split (mem x (keep f xs)) (λ i. true_false (keep_in f x xs i).0 (once_head x xs o)) (λ i. i)) (once_keep f xs (once_tail x xs o))))
    (λ e. rw (e, keep) (once_keep f xs (once_tail x xs o)))

up_to_low : (n i q : ℕ) → In q (up_to n i) → i ≤ q
unfolding up_to
up_to_low zero i q e = in_nil q e
up_to_low (suc n) i q e = ⊎_elim (λ d. omega arith) (λ d. omega (arith, up_to_low n (suc i) q d)) (in_cons q i (up_to n (suc i)) e)

once_up_to : (n i : ℕ) → once (up_to n i) ≡ true
unfolding up_to once
once_up_to zero i = refl
once_up_to (suc n) i = once_cons i (up_to n (suc i)) (split (mem i (up_to n (suc i))) (λ e. absurd (omega (arith, up_to_low n (suc i) i e))) (λ e. e)) (once_up_to n (suc i))

-- ---- the pins

-- what stands at place k of the values of the numbers from i on
pub map-up_to : (f : ℕ → ℕ) (n i k d : ℕ) → k < n → get_or (map f (up_to n i)) k d ≡ f (i + k)
unfolding up_to
map-up_to f zero i k d h = absurd (omega arith)
map-up_to f (suc n) i zero d h = ap f (omega arith)
map-up_to f (suc n) i (suc k) d h = map-up_to f n (suc i) k d (omega arith) ∙ ap f (omega arith)

module _ (g : List Node) (driven line state : List ℕ) (ok : every (leaf_pin g) driven ≡ true) (o : once driven ≡ true) (len : length state ≡ length driven) where
  abbrev leaves : List ℕ
  leaves = line_leaves g driven

  leaf_bounds : (p : ℕ) → leaf_pin g p ≡ true → (1 ≤ p) × (p < length g)
  unfolding leaf_pin
  leaf_bounds p e =
      let t = and_true (ltb 0 p) (ltb p (length g)) (and_true (ltb 0 p && ltb p (length g)) (is_leaf (get_or g p leaf)) e).0 in
      (ltb-true 0 p t.0, ltb-true p (length g) t.1)

  line_leaf_lem : (p : ℕ) → In p leaves → (leaf_pin g p ≡ true) × (mem p driven ≡ false)
  unfolding line_leaves
  line_leaf_lem p i =
      let t = and_true (leaf_pin g p) (not (mem p driven)) (keep_in (λ q. leaf_pin g q && not (mem q driven)) p (up_to (length g) 0) i).1 in
      (t.0, not_true (mem p driven) t.1)

  all_once : once (driven ++ leaves) ≡ true
  unfolding line_leaves
  all_once = once_append driven leaves o (once_keep _ (up_to (length g) 0) (once_up_to (length g) 0)) (λ x i j. true_false i (line_leaf_lem x j).1)

  pin_at : (p : ℕ) → 1 ≤ p → p < length g → get_or (pin_bits g driven line state) p 0 ≡ as_number (is_one (beside p (driven ++ leaves) (state ++ line)))
  unfolding pin_bits
  pin_at zero a b = absurd (omega arith)
  pin_at (suc p) a b = map-up_to (λ q. as_number (is_one (beside q (driven ++ leaves) (state ++ line)))) (length g - 1) 1 p 0 (omega arith) ∙ ap (λ (q : ℕ). as_number (is_one (beside q (driven ++ leaves) (state ++ line)))) (omega arith)

  -- the leaf that flip-flop i drives has bit i of the flip-flops
  pub pin_driven : (i : ℕ) → i < length driven → get_or (pin_bits g driven line state) (get_or driven i 0) 0 ≡ as_number (is_one (get_or state i 0))
  pin_driven i h =
      let t = leaf_bounds (get_or driven i 0) (every_in (leaf_pin g) (get_or driven i 0) driven ok (in_get_or driven i 0 h)) in
      let a : get_or (driven ++ leaves) i 0 ≡ get_or driven i 0 = get_or-append driven leaves 0 i h in
      let b = beside_at (driven ++ leaves) (state ++ line) i all_once (omega (arith, length-append driven leaves)) in
      pin_at (get_or driven i 0) t.0 t.1 ∙ ap (λ (x : ℕ). as_number (is_one x)) (rw a at b ∙ get_or-append state line 0 i (omega arith))

  -- leaf j of those not driven, in pin order, has bit j of the line
  pub pin_line : (j : ℕ) → j < length leaves → get_or (pin_bits g driven line state) (get_or leaves j 0) 0 ≡ as_number (is_one (get_or line j 0))
  pin_line j h =
      let t = leaf_bounds (get_or leaves j 0) (line_leaf_lem (get_or leaves j 0) (in_get_or leaves j 0 h)).0 in
      let a : get_or (driven ++ leaves) (length driven + j) 0 ≡ get_or leaves j 0 = get_or-append-add driven leaves j 0 in
      let b = beside_at (driven ++ leaves) (state ++ line) (length driven + j) all_once (omega (arith, length-append driven leaves)) in
      let c : get_or (state ++ line) (length driven + j) 0 ≡ get_or line j 0 = ap (λ (k : ℕ). get_or (state ++ line) (k + j) 0) (sym len) ∙ get_or-append-add state line j 0 in
      pin_at (get_or leaves j 0) t.0 t.1 ∙ ap (λ (x : ℕ). as_number (is_one x)) (rw a at b ∙ c)
