-- S1: the reverse level of an unplaced gate is the one that it had before anything was placed. Assumes nothing.
use Prim.Native.Nat.{ℕ, zero, suc, ◌≤◌, ◌<◌, max}
use mathlib.Core.Path.{◌≡◌, refl, sym, ◌∙◌}
use mathlib.Core.Bool.{true, false}
use mathlib.Core.List.{List, [], ◌∷◌, ◌++◌}
use native.Mathlib.Omega.{arith}
use lib.ListN.{length, get_or, set, replicate, length-set}
use Rattle.rules.specs.Lists.{mem, In, Out, Sub}
use Rattle.rules.specs.Graph.{Node, below}
use Rattle.rules.specs.Traversal.{thread, raise, lift, Setting, level_at, reverse_levels}
use Rattle.rules.specs.Inside.Lean.{start_levels}
use Rattle.rules.proofs.Lists.Members.{split, true_false, in_here, in_there, in_append_right, out_append}
use Rattle.rules.proofs.Walk.Reverse.{out_sub, below_sub, nat, length_lift, lift_out}
use Rattle.rules.specs.Inside.Walks.{Sound}
use Rattle.rules.proofs.Tree.Cone.{over_level}

-- raising looks only at the number that it raises
set_same : (n p x : ℕ) (a b : List ℕ) → length a ≡ length b → get_or a x 0 ≡ get_or b x 0 → get_or (set a p (max n (get_or a p 0))) x 0 ≡ get_or (set b p (max n (get_or b p 0))) x 0
set_same n p x [] [] l e = refl
set_same n p x [] (y ∷ b) l e = absurd (omega arith)
set_same n p x (z ∷ a) [] l e = absurd (omega arith)
set_same n zero zero (z ∷ a) (y ∷ b) l e = rw e
set_same n zero (suc x) (z ∷ a) (y ∷ b) l e = e
set_same n (suc p) zero (z ∷ a) (y ∷ b) l e = e
set_same n (suc p) (suc x) (z ∷ a) (y ∷ b) l e = set_same n p x a b (omega arith) e

raise_same : (n : ℕ) (ps : List ℕ) (x : ℕ) (a b : List ℕ) → length a ≡ length b → get_or a x 0 ≡ get_or b x 0 → get_or (raise n ps a) x 0 ≡ get_or (raise n ps b) x 0
unfolding raise
raise_same n [] x a b l e = e
raise_same n (p ∷ ps) x a b l e = raise_same n ps x _ _ (length-set a p _ ∙ l ∙ sym (length-set b p _)) (set_same n p x a b l e)

module _ (g : List Node) (done stop : List ℕ) where
  lift_same : (p x : ℕ) (a b : List ℕ) → length a ≡ length b → below g stop p ≡ below g done p → get_or a p 0 ≡ get_or b p 0 → get_or a x 0 ≡ get_or b x 0 → get_or (lift g stop p a) x 0 ≡ get_or (lift g done p b) x 0
  unfolding lift
  lift_same p x a b l s e d = nat g stop (get_or b p 0) (λ z. let y : get_or a p 0 ≡ 0 = e ∙ z in rw (y, z, lift) d)
      (λ m z. let y : get_or a p 0 ≡ suc m = e ∙ z in rw (y, z, s, lift) (raise_same (suc (suc m)) (below g done p) x a b l d))

  -- pins all of whose users are among them too, and are followed alike
  lifts_same : (P : ℕ → Type 0) → Sub done stop → (s : List ℕ) → ((p x : ℕ) → In p s → P x → In x (below g done p) → P p × (below g stop p ≡ below g done p)) →
      (a b : List ℕ) → length a ≡ length b → ((x : ℕ) → P x → get_or a x 0 ≡ get_or b x 0) → (x : ℕ) → P x → get_or (thread (lift g stop) s a) x 0 ≡ get_or (thread (lift g done) s b) x 0
  unfolding thread
  lifts_same P less [] up a b l h x i = h x i
  lifts_same P less (p ∷ s) up a b l h x i = lifts_same P less s (λ q y m. up q y (in_there q p s m)) (lift g stop p a) (lift g done p b)
      (length_lift g stop p a ∙ l ∙ sym (length_lift g done p b))
      (λ y j. split (mem y (below g done p))
      (λ e. let u = up p y (in_here p s) j e in lift_same p y a b l u.1 (h p u.0) (h y j))
      (λ e. lift_out g stop p a y (out_sub (below g stop p) (below g done p) (below_sub g done stop less p) y e) ∙ h y j ∙ sym (lift_out g done p b y e))) x i

-- placing more stops only where it stopped before
below_same : (g : List Node) (done tr : List ℕ) (p : ℕ) → Out p tr → below g (tr ++ done) p ≡ below g done p
unfolding below
below_same g done tr p o = split (mem p done)
    (λ e. let d : mem p (tr ++ done) ≡ true = in_append_right p tr done e in rw (e, d, below))
    (λ e. let d : mem p (tr ++ done) ≡ false = out_append p tr done o e in rw (e, d, below))

module _ (X : Setting) (r : ℕ → ℕ) (f : ℕ) (S : Sound X r f) where
  -- placed pins of level 2 or more have placed operands
  abbrev pub Closed : List ℕ → Type 0
  Closed tr = (p x : ℕ) → In p X.seen → In x (below X.g X.done p) → 2 ≤ level_at X p → In p tr → In x tr

  -- an unplaced gate keeps its first reverse level, if placed pins of level 2 or more have placed operands
  pub steady : (tr : List ℕ) → Closed tr → (x : ℕ) → 1 ≤ level_at X x → Out x tr → get_or (reverse_levels X tr) x 0 ≡ get_or (start_levels X) x 0
  unfolding start_levels reverse_levels
  steady tr k x l o = lifts_same X.g X.done (tr ++ X.done) (λ y. (1 ≤ level_at X y) × Out y tr) (λ q e. in_append_right q tr X.done e) X.seen
      (λ p y i j e.
      let up : level_at X y < level_at X p = over_level X r f S p y i e in
      let q : Out p tr = split (mem p tr) (λ d. true_false (k p y i e (omega (arith, j.0)) d) j.1) (λ d. d) in
      ((omega (arith, j.0), q), below_same X.g X.done tr p q))
      (raise 1 X.waiting (replicate (length X.g) 0)) (raise 1 X.waiting (replicate (length X.g) 0)) refl (λ y j. refl) x (l, o)
