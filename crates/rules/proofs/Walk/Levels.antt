-- Rule 2: the level table holds each listed pin's depth. Assumes nothing.
use Prim.Native.Nat.{ℕ, zero, suc, ◌≤◌, ◌<◌, max, zero-le}
use mathlib.Core.Path.{◌≡◌, refl, ◌∙◌}
use mathlib.Core.Logic.{inl, inr}
use mathlib.Core.List.{List, [], ◌∷◌, map}
use native.Mathlib.Omega.{arith}
use lib.ListN.{length, get_or, length-set, length-replicate}
use lib.Seq.{get_or-set_same, get_or-set_other}
use Rattle.rules.specs.Graph.{Node, below}
use Rattle.rules.specs.Traversal.{over, levels, greatest}
use Rattle.rules.specs.Depth.{depth}
use Rattle.rules.specs.Lists.{In}
use Rattle.rules.proofs.Lists.Members.{in_here, in_there, in_cons, in_nil, in_out}
use Rattle.rules.specs.Inside.Walks.{Topo, none, more, Ranked}

-- one more than the greatest depends only on the pins' numbers
pub over_ext : (m n : ℕ → ℕ) (xs : List ℕ) → ((x : ℕ) → In x xs → m x ≡ n x) → over m xs ≡ over n xs
unfolding over
over_ext m n [] h = refl
over_ext m n (x ∷ xs) h = rw (h x (in_here x xs), over_ext m n xs (λ y e. h y (in_there y x xs e)))

-- it is above every pin's number
pub over_above : (n : ℕ → ℕ) (xs : List ℕ) (x : ℕ) → In x xs → n x < over n xs
unfolding over
over_above n [] x e = in_nil x e
over_above n (y ∷ ys) x e = elim (in_cons x y ys e) [ inl d ↦ rw d (omega arith) | inr d ↦ omega (arith, over_above n ys x d) ]

-- and no greater than any other number that is
pub over_least : (n : ℕ → ℕ) (xs : List ℕ) (m : ℕ) → ((x : ℕ) → In x xs → n x < m) → over n xs ≤ m
unfolding over
over_least n [] m h = zero-le
over_least n (x ∷ xs) m h = omega (arith, h x (in_here x xs), over_least n xs m (λ y e. h y (in_there y x xs e)))

-- the greatest of some numbers is no greater than what none of them exceeds
pub greatest_most : (f : ℕ → ℕ) (n a : ℕ) (xs : List ℕ) → a ≤ n → ((x : ℕ) → In x xs → f x ≤ n) → greatest (map f xs) a ≤ n
unfolding greatest
greatest_most f n a [] b h = b
greatest_most f n a (x ∷ xs) b h = greatest_most f n (max (f x) a) xs (omega (arith, h x (in_here x xs))) (λ y e. h y (in_there y x xs e))

greatest_start : (f : ℕ → ℕ) (a : ℕ) (xs : List ℕ) → a ≤ greatest (map f xs) a
unfolding greatest
greatest_start f a [] = omega arith
greatest_start f a (x ∷ xs) = omega (arith, greatest_start f (max (f x) a) xs)

-- and none of them exceeds it
pub greatest_above : (f : ℕ → ℕ) (a : ℕ) (xs : List ℕ) (x : ℕ) → In x xs → f x ≤ greatest (map f xs) a
unfolding greatest
greatest_above f a [] x e = in_nil x e
greatest_above f a (y ∷ ys) x e = elim (in_cons x y ys e) [ inl d ↦ rw d (omega (arith, greatest_start f (max (f y) a) ys)) | inr d ↦ greatest_above f (max (f y) a) ys x d ]

module _ (g : List Node) (done : List ℕ) (r : ℕ → ℕ) (k : Ranked g done r) where
  -- any fuel above a pin's rank gives the same depth
  pub depth_fuel : (f e p : ℕ) → r p < f → r p < e → depth f g done p ≡ depth e g done p
  unfolding depth
  depth_fuel zero e p h i = absurd (omega arith)
  depth_fuel (suc f) zero p h i = absurd (omega arith)
  depth_fuel (suc f) (suc e) p h i = over_ext (depth f g done) (depth e g done) (below g done p) (λ x d. depth_fuel f e x (omega (arith, k p x d)) (omega (arith, k p x d)))

  -- a pin's depth is one above the deepest pin that is followed from it, 0 if none is
  pub depth_at : (f p : ℕ) → r p < f → depth f g done p ≡ over (depth f g done) (below g done p)
  unfolding depth
  depth_at zero p h = absurd (omega arith)
  depth_at (suc f) p h = over_ext (depth f g done) (depth (suc f) g done) (below g done p) (λ x d. depth_fuel f (suc f) x (omega (arith, k p x d)) (omega (arith, k p x d)))

  -- the level table has a number a pin
  pub length_levels : (s : List ℕ) → length (levels g done s) ≡ length g
  unfolding levels
  length_levels [] = length-replicate (length g) 0
  length_levels (p ∷ s) = length-set (levels g done s) p _ ∙ length_levels s

  -- in the table of a traversal a listed pin's level is its depth
  pub levels_good : {s : List ℕ} → Topo g done s → ((p : ℕ) → In p s → p < length g) → (f q : ℕ) → In q s → r q < f → get_or (levels g done s) q 0 ≡ depth f g done q
  unfolding levels
  levels_good none b f q e h = in_nil q e
  levels_good (more {p = p} {s = s} o c t) b f q e h =
      let ih : (f q : ℕ) → In q s → r q < f → get_or (levels g done s) q 0 ≡ depth f g done q = levels_good t (λ x d. b x (in_there x p s d)) in
      elim (in_cons q p s e) [
        | inl d ↦
            let hp : r p < f = rw d at h in
            rw (d, get_or-set_same (levels g done s) p _ 0 (rw length_levels (b p (in_here p s))), depth_at f p hp)
            (over_ext (λ (x : ℕ). get_or (levels g done s) x 0) (depth f g done) (below g done p) (λ x a. ih f x (c x a) (omega (arith, k p x a))))
        | inr d ↦ rw (get_or-set_other (levels g done s) p q _ 0 (in_out q p s d o)) (ih f q d h)
      ]
