-- What is reached from a pin: its operands, then all that is followed from reached pins. Assumes nothing.
use mathlib.Core.Path.{◌≡◌, refl, sym, ◌∙◌, ap}
use mathlib.Core.Logic.{◌⊎◌, inl, inr}
use mathlib.Core.Bool.{Bool, true, false, ◌||◌}
use mathlib.Core.List.{List, [], ◌∷◌}
use Prim.Native.Nat.{ℕ, zero, suc, ◌+◌, ◌<◌, ◌≤◌}
use native.Mathlib.Omega.{arith}
use lib.Dec.{eqb}
use lib.ListN.{length, get_or, set, length-set}
use lib.Seq.{get_or-set_same, get_or-set_other}
use Rattle.rules.specs.Lists.{mem, count, In}
use Rattle.rules.specs.Graph.{Node, leaf, gate, pin_of, operands, graph_of, below}
use Rattle.graph.specs.declared.Literal.{Literal}
use Rattle.graph.specs.declared.Node as code
use Rattle.graph.specs.declared.Node.TheVariants.{Leaf, Gate}
use Rattle.graph.specs.Values.{node_for}
use Rattle.rules.proofs.Lists.Members.{split, true_false, eqb_true, eqb_false, in_here, in_there, in_cons, in_nil}
use Rattle.rules.specs.Loops.{step}
use Rattle.graph_loops.specs.Marks.{zeros, Step, Follows, Spread}

-- the pins followed from a gate are its two operands
pub two : (g : List Node) (p : ℕ) (n : code.Node) → node_for n ≡ get_or g p leaf → (a b : Literal) → n ≡ Gate a b → below g [] p ≡ pin_of a.0 ∷ pin_of b.0 ∷ []
unfolding below mem operands node_for
two g p n e a b d = let z : get_or g p leaf ≡ gate a.0 b.0 = sym e ∙ ap node_for d in rw z refl

zeros_set : (v : List ℕ) (x : ℕ) → x < length v → get_or v x 0 ≡ 0 → zeros (set v x 1) < zeros v
unfolding zeros count
zeros_set [] x h e = absurd (omega arith)
zeros_set (y ∷ v) zero h e = rw (e, count) (omega arith)
zeros_set (y ∷ v) (suc x) h e = split (eqb y 0) (λ t. rw (t, count) (omega (arith, zeros_set v x (omega arith) e))) (λ t. rw (t, count) (zeros_set v x (omega arith) e))

-- where all the pins are reached already nothing changes
pub step_none : (v xs : List ℕ) → ((x : ℕ) → In x xs → x < length v → 0 < get_or v x 0) → Step v v xs false
step_none v xs h = record { size = refl; old = λ q k. k; new = λ q k. inl k; has = h; same = λ e. refl; less = λ e. true_false e refl; most = omega arith }

-- a member of a list of one is that one
pub only : {P : Type 0} (x y : ℕ) → In x (y ∷ []) → (x ≡ y → P) → P
only x y i k = elim (in_cons x y [] i) [ inl d ↦ k d | inr d ↦ in_nil x d ]

module _ (v : List ℕ) (l q : ℕ) (e : q ≡ pin_of l) where
  -- a pin past the list is not reached
  pub reach_past : length v ≤ q → Step v v (pin_of l ∷ []) false
  reach_past h = step_none v (pin_of l ∷ []) (λ x i k. only x (pin_of l) i (λ d. absurd (omega arith)))

  -- a pin that is reached already changes nothing
  pub reach_held : (get_or v q 0 ≡ 0 → ⊥) → Step v v (pin_of l ∷ []) false
  reach_held n = step_none v (pin_of l ∷ []) (λ x i k. only x (pin_of l) i (λ d. let z : get_or v q 0 ≡ get_or v x 0 = ap (λ (j : ℕ). get_or v j 0) (e ∙ sym d) in let p : 0 < get_or v q 0 = omega (arith, n) in rw z at p))

  -- a pin that was not reached is, by one store
  pub reach_new : q < length v → get_or v q 0 ≡ 0 → Step v (set v q 1) (pin_of l ∷ []) true
  reach_new h z = record {
    size = length-set v q 1;
    old = λ x k. split (eqb x q) (λ t. rw (eqb_true x q t, get_or-set_same v q 1 0 h) (omega arith)) (λ t. rw (get_or-set_other v q x 1 0 (eqb_false x q t)) k);
    new = λ x k. split (eqb x q) (λ t. inr (rw (eqb_true x q t, e) (in_here (pin_of l) []))) (λ t. inl (rw (get_or-set_other v q x 1 0 (eqb_false x q t)) at k));
    has = λ x i k. only x (pin_of l) i (λ d. rw (d, ← e, get_or-set_same v q 1 0 h) (omega arith));
    same = λ c. true_false (refl {a = true}) c;
    less = λ c. zeros_set v q h z;
    most = omega (arith, zeros_set v q h z);
  }

module _ {v v₁ v₂ : List ℕ} {a b : ℕ} {x y : Bool} (s : Step v v₁ (a ∷ []) x) (t : Step v₁ v₂ (b ∷ []) y) where
  steps_size : length v₂ ≡ length v
  steps_size = t.size ∙ s.size

  -- two pins reached, one after the other
  pub steps : (r : Bool) → (r ≡ true → (x ≡ true) ⊎ (y ≡ true)) → (r ≡ false → (x ≡ false) × (y ≡ false)) → Step v v₂ (a ∷ b ∷ []) r
  steps r yes' no' = record {
    size = steps_size;
    old = λ q k. t.old q (s.old q k);
    new = λ q k. elim (t.new q k) [
      | inl c ↦ elim (s.new q c) [ inl d ↦ inl d | inr d ↦ inr (only q a d (λ z. rw z (in_here a (b ∷ [])))) ]
      | inr c ↦ inr (only q b c (λ z. rw z (in_there b a (b ∷ []) (in_here b []))))
    ];
    has = λ q i k. elim (in_cons q a (b ∷ []) i) [
      | inl d ↦ t.old q (s.has q (rw d (in_here a [])) k)
      | inr d ↦ t.has q d (omega (arith, s.size))
    ];
    same = λ e. let n = no' e in t.same n.1 ∙ s.same n.0;
    less = λ e. elim (yes' e) [ inl c ↦ omega (arith, s.less c, t.most) | inr c ↦ omega (arith, s.most, t.less c) ];
    most = omega (arith, s.most, t.most);
  }

module _ (g : List Node) (p : ℕ) (n : code.Node) (e : node_for n ≡ get_or g p leaf) where
  -- a leaf reaches nothing
  pub reach_leaf : (v : List ℕ) → n ≡ Leaf → Step v v (below g [] p) false
  unfolding below mem operands node_for
  reach_leaf v d = let z : get_or g p leaf ≡ leaf = sym e ∙ ap node_for d in rw z (step_none v [] (λ x i k. in_nil x i))

  module _ (a b : Literal) (d : n ≡ Gate a b) {v v₁ v₂ : List ℕ} {x y : Bool} (s : Step v v₁ (pin_of a.0 ∷ []) x) (t : Step v₁ v₂ (pin_of b.0 ∷ []) y) where
    -- a gate whose first operand is newly reached: both are, and something is new
    pub reach_true : x ≡ true → Step v v₂ (below g [] p) true
    reach_true c = rw (two g p n e a b d) (steps s t true (λ _. inl c) (λ z. true_false (refl {a = true}) z))

    -- one whose first is not: the second tells
    pub reach_rest : x ≡ false → Step v v₂ (below g [] p) y
    reach_rest c = rw (two g p n e a b d) (steps s t y (λ z. inr z) (λ z. (c, z)))

-- a number is 0, or above it
pub nat_cases : {P : Type 0} (n : ℕ) → (n ≡ 0 → P) → (0 < n → P) → P
nat_cases zero z s = z refl
nat_cases (suc n) z s = s (omega arith)

-- nothing is followed from a pin that is not reached
pub follows_not : (gates v : List ℕ) (q j : ℕ) → j ≡ q → get_or v j 0 ≡ 0 → Follows gates q v v false
follows_not gates v q j c e = record { from = λ h. absurd (omega (arith, rw c at e)); not = λ z. (refl, refl) }

-- from one that is its operands are reached
pub follows_so : (gates v v' : List ℕ) (q j : ℕ) (r : Bool) → j ≡ q → (get_or v j 0 ≡ 0 → ⊥) → Step v v' (below (graph_of gates) [] q) r → Follows gates q v v' r
follows_so gates v v' q j r c n s = record { from = λ h. s; not = λ z. absurd (n (rw c z)) }

or_no : (a b : Bool) → a || b ≡ false → (a ≡ false) × (b ≡ false)
or_no true b e = true_false (refl {a = true}) e
or_no false b e = (refl, e)

or_yes : (a b : Bool) → a || b ≡ true → (a ≡ true) ⊎ (b ≡ true)
or_yes true b e = inl refl
or_yes false b e = inr e

-- before the first pin nothing is spread
pub spread_none : (gates v : List ℕ) → Spread gates 0 v v false
spread_none gates v = record { size = refl; old = λ q h. h; from = λ ps h q k. h q k; same = λ e. (refl, λ q x l. absurd (omega arith)); less = λ e. true_false e refl; most = omega arith }

-- one pin more
module _ (gates : List ℕ) (q : ℕ) {v₀ v v' : List ℕ} {a b : Bool} (S : Spread gates q v₀ v a) (F : Follows gates q v v' b) (r : Bool) (e : r ≡ a || b) where
  abbrev g : List Node
  g = graph_of gates

  -- the next pin is followed too
  pub spread_more : Spread gates (q + 1) v₀ v' r
  spread_more = nat_cases (get_or v q 0)
      (λ z. let f = F.not z in record {
        size = rw f.0 S.size;
        old = λ x h. rw f.0 (S.old x h);
        from = λ ps h x k. S.from ps h x (rw f.0 at k);
        same = λ c. let n = or_no a b (sym e ∙ c) in let w = S.same n.0 in (
          f.0 ∙ w.0,
          λ j x l h i k. split (eqb j q)
              (λ t. absurd (let y : get_or v q 0 ≡ get_or v₀ j 0 = ap (λ (u : List ℕ). get_or u q 0) w.0 ∙ ap (λ (m : ℕ). get_or v₀ m 0) (sym (eqb_true j q t)) in omega arith))
              (λ t. w.1 j x (omega (arith, eqb_false j q t)) h i k),
        );
        less = λ c. elim (or_yes a b (sym e ∙ c)) [ inl d ↦ rw f.0 (S.less d) | inr d ↦ true_false d f.1 ];
        most = rw f.0 S.most;
      })
      (λ h. let s = F.from h in record {
        size = s.size ∙ S.size;
        old = λ x k. s.old x (S.old x k);
        from = λ ps k x l. elim (s.new x l) [ inl d ↦ S.from ps k x d | inr d ↦ step (S.from ps k q h) d ];
        same = λ c. let n = or_no a b (sym e ∙ c) in let w = S.same n.0 in (
          s.same n.1 ∙ w.0,
          λ j x l u i k. split (eqb j q)
              (λ t. let y : v' ≡ v₀ = s.same n.1 ∙ w.0 in rw y at (s.has x (rw (eqb_true j q t) at i) (omega (arith, S.size))))
              (λ t. w.1 j x (omega (arith, eqb_false j q t)) u i k),
        );
        less = λ c. elim (or_yes a b (sym e ∙ c)) [ inl d ↦ omega (arith, S.less d, s.most) | inr d ↦ omega (arith, S.most, s.less d) ];
        most = omega (arith, S.most, s.most);
      })

-- a pin in no order
module _ (gates : List ℕ) (q : ℕ) {v₀ v v' : List ℕ} {a b : Bool} (S : Spread gates 0 v₀ v a) (F : Follows gates q v v' b) (r : Bool) (e : r ≡ a || b) where
  -- any pin followed spreads further
  pub spread_loose : Spread gates 0 v₀ v' r
  spread_loose = nat_cases (get_or v q 0)
      (λ z. let f = F.not z in record {
        size = rw f.0 S.size;
        old = λ x h. rw f.0 (S.old x h);
        from = λ ps h x k. S.from ps h x (rw f.0 at k);
        same = λ c. let n = or_no a b (sym e ∙ c) in (f.0 ∙ (S.same n.0).0, λ j x l. absurd (omega arith));
        less = λ c. elim (or_yes a b (sym e ∙ c)) [ inl d ↦ rw f.0 (S.less d) | inr d ↦ true_false d f.1 ];
        most = rw f.0 S.most;
      })
      (λ h. let s = F.from h in record {
        size = s.size ∙ S.size;
        old = λ x k. s.old x (S.old x k);
        from = λ ps k x l. elim (s.new x l) [ inl d ↦ S.from ps k x d | inr d ↦ step (S.from ps k q h) d ];
        same = λ c. let n = or_no a b (sym e ∙ c) in (s.same n.1 ∙ (S.same n.0).0, λ j x l. absurd (omega arith));
        less = λ c. elim (or_yes a b (sym e ∙ c)) [ inl d ↦ omega (arith, S.less d, s.most) | inr d ↦ omega (arith, S.most, s.less d) ];
        most = omega (arith, S.most, s.most);
      })

-- what is spread, where the count of pins has another name
pub spread_end : (gates : List ℕ) (q m : ℕ) {v v' : List ℕ} {r : Bool} → q ≡ m → Spread gates q v v' r → Spread gates m v v' r
spread_end gates q m e S = rw e at S
