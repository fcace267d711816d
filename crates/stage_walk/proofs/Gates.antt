-- The graph as the code reads it: the pins followed from a pin are none or two, and the first number of a leaf tells it. Assumes nothing.
use mathlib.Core.Path.{◌≡◌, refl, sym, ◌∙◌, ap}
use mathlib.Core.Logic.{◌⊎◌, inl, inr, ◌≢◌}
use mathlib.Core.Bool.{false}
use mathlib.Core.List.{List, [], ◌∷◌}
use Prim.Native.Nat.{ℕ, zero, suc, ◌+◌, ◌*◌, ◌/◌, ◌<◌, ◌≤◌}
use native.Mathlib.Omega.{arith}
use native.Mathlib.Decide.{ℕ_discrete, dec_lt}
use borrow.Author.Tests.{eq-eqb, ne_eqb}
use lib.Dec.{eqb}
use lib.ListN.{length, get_or, get_or-eq_default}
use Rattle.rules.specs.Lists.{mem, In, Out}
use Rattle.rules.specs.Cells.{empty}
use Rattle.rules.specs.Graph.{Node, leaf, gate, pin_of, operands, node_of, graph_of, below}
use Rattle.rules.proofs.Lists.Members.{split, in_here, in_there, in_nil, in_get_or}
use Rattle.rules.proofs.Walk.Reverse.{below_sub, in_below}
use Rattle.columns.specs.Area.{among, Frame}
use Rattle.columns.specs.Fields.{DONE}
use Rattle.columns.proofs.Area.Frames.{frame_room}
use Rattle.columns.proofs.Lists.Marks.{marks_frame}
use Rattle.stage_walk.specs.Stands.{Context, Reads}

-- the two lent numbers of a pin are its node
pub graph_at : (m : ℕ) (gates : List ℕ) → length gates ≡ 2 * m → (p : ℕ) → p < m → get_or (graph_of gates) p leaf ≡ node_of (get_or gates (2 * p) 0) (get_or gates (2 * p + 1) 0)
unfolding graph_of
graph_at zero gates e p h = absurd (omega arith)
graph_at (suc m) [] e p h = absurd (omega arith)
graph_at (suc m) (a ∷ []) e p h = absurd (omega arith)
graph_at (suc m) (a ∷ b ∷ xs) e zero h = refl
graph_at (suc m) (a ∷ b ∷ xs) e (suc p) h =
    let i : 2 * suc p ≡ suc (suc (2 * p)) = omega arith in
    let j : 2 * suc p + 1 ≡ suc (suc (2 * p + 1)) = omega arith in
    rw (j, i) (graph_at m xs (omega arith) p (omega arith))

-- the k-th of some pins below m, m if there is none
pub kth_none : (xs : List ℕ) (m k : ℕ) → ((x : ℕ) → In x xs → x < m) → get_or xs k m ≡ m → length xs ≤ k
kth_none xs m k h e = elim (dec_lt k (length xs)) [
  | yes l ↦ absurd (omega (arith, h (get_or xs k m) (in_get_or xs k m l)))
  | no l ↦ omega (arith, l)
]

-- a pin other than m is one of them
pub kth_some : (xs : List ℕ) (m k : ℕ) → (get_or xs k m ≡ m → ⊥) → k < length xs
kth_some xs m k ne = elim (dec_lt k (length xs)) [ yes l ↦ l | no l ↦ absurd (ne (get_or-eq_default xs m (omega (arith, l)))) ]

module _ (C : Context) where
  -- a followed pin is one of the graph, of lower rank
  pub follow_pin : (p x : ℕ) → In x (below C.X.g C.X.done p) → x < length C.X.g
  follow_pin p x i = C.G.inside p x (below_sub C.X.g [] C.X.done (λ q e. in_nil q e) p x i)

  -- a followed pin has a lower rank
  pub follow_rank : (p x : ℕ) → In x (below C.X.g C.X.done p) → C.r x < C.r p
  follow_rank p x i = C.S.ranked p x i

  -- they are two, or none
  pub two : (p : ℕ) → (below C.X.g C.X.done p ≡ []) ⊎ ((a : ℕ) × (b : ℕ) × (below C.X.g C.X.done p ≡ a ∷ b ∷ []))
  unfolding below operands
  two p = split (mem p C.X.done) (λ e. inl (rw (e, below))) (λ e. by (get_or C.X.g p leaf) refl e)
    where
      by : (n : Node) → get_or C.X.g p leaf ≡ n → Out p C.X.done → (below C.X.g C.X.done p ≡ []) ⊎ ((a : ℕ) × (b : ℕ) × (below C.X.g C.X.done p ≡ a ∷ b ∷ []))
      by leaf d e = inl (rw (e, below, d, operands))
      by (gate a b) d e = inr (pin_of a, pin_of b, rw (e, below, d, operands))

  -- at most two pins are followed from one
  pub two_most : (p : ℕ) → length (below C.X.g C.X.done p) ≤ 2
  two_most p = elim (two p) [ inl e ↦ rw e (omega arith) | inr k ↦ rw k.2 (omega arith) ]

  -- none is the third
  pub none_past : {m : ℕ} (p k : ℕ) → 2 ≤ k → m ≡ get_or (below C.X.g C.X.done p) k m
  none_past {m} p k l = sym (get_or-eq_default (below C.X.g C.X.done p) m (omega (arith, two_most p)))

module _ (C : Context) {m : ℕ} {gates w : List ℕ} (R : Reads C m gates w) where
  -- what is read of the graph stays where the marks are not named
  pub reads_frame : {fs : List ℕ} {w' : List ℕ} → Frame fs m w w' → among fs DONE ≡ false → Reads C m gates w'
  reads_frame fr e = record {
    base = record { area = frame_room fr R.base.area; size = R.base.size; graph = R.base.graph; pair = R.base.pair };
    done = marks_frame R.done fr e (omega arith);
  }

  module _ (p : ℕ) (h : p < m) where
    abbrev a : ℕ
    a = get_or gates (2 * p) 0

    abbrev b : ℕ
    b = get_or gates (2 * p + 1) 0

    node : get_or C.X.g p leaf ≡ node_of a b
    node = ap (λ (g : List Node). get_or g p leaf) R.base.graph ∙ graph_at m gates R.base.pair p h

    -- nothing is followed from a given or realised pin
    pub follow_done : In p C.X.done → below C.X.g C.X.done p ≡ []
    unfolding below
    follow_done e = rw (e, below)

    as_gate : (a ≢ 4294967295) ⊎ (b ≢ 4294967295) → node_of a b ≡ gate a b
    unfolding node_of empty
    as_gate (inl n) = rw (ne_eqb a 4294967295 n, node_of)
    as_gate (inr n) = split (eqb a 4294967295) (λ e. rw (e, ne_eqb b 4294967295 n, node_of)) (λ e. rw (e, node_of))

    -- from a gate its two operands are followed
    pub follow_gate : Out p C.X.done → (a ≡ 4294967295 → ⊥) → below C.X.g C.X.done p ≡ a / 2 ∷ b / 2 ∷ []
    unfolding below operands pin_of
    follow_gate o n = rw (o, below, node ∙ as_gate (inl n), operands)

    first_low : node_of a b ≡ gate a b → a / 2 < length C.X.g
    unfolding operands pin_of mem
    first_low e = C.G.inside p (a / 2) (in_below C.X.g [] p (a / 2) refl (rw (node ∙ e) (in_here (a / 2) (b / 2 ∷ []))))

    -- a gate's first number is no empty mark, since its pin is one of the graph
    pub follow_leaf : Out p C.X.done → a ≡ 4294967295 → below C.X.g C.X.done p ≡ []
    unfolding below operands node_of empty
    follow_leaf o e = elim (ℕ_discrete b 4294967295) [
      | yes d ↦ rw (o, below, node, eq-eqb a 4294967295 e, eq-eqb b 4294967295 d, operands)
      | no d ↦ absurd (omega (arith, first_low (as_gate (inr d)), C.small))
    ]

    -- which are the pins that its two numbers tell
    pub follow_operands : Out p C.X.done → (a ≡ 4294967295 → ⊥) → (x y : ℕ) → x ≡ pin_of a → y ≡ pin_of b → below C.X.g C.X.done p ≡ x ∷ y ∷ []
    unfolding pin_of
    follow_operands o n x y ex ey = rw (ex, ey) (follow_gate o n)

    -- past phase 0 the code asks for the second operand alone
    pub second_operand : (k q : ℕ) → k < 2 → (k ≡ 0 → ⊥) → Out p C.X.done → (a ≡ 4294967295 → ⊥) → q ≡ pin_of b → (q ≡ get_or (below C.X.g C.X.done p) k m) × (q ≡ m → ⊥)
    unfolding pin_of
    second_operand zero q l z o n e = absurd (z refl)
    second_operand (suc zero) q l z o n e =
        let i : q ≡ get_or (below C.X.g C.X.done p) 1 m = rw (follow_gate o n) e in
        (i, λ d. omega (arith, follow_pin C p q (rw i (in_get_or (below C.X.g C.X.done p) 1 m (rw (follow_gate o n) (omega arith)))), R.base.size))
    second_operand (suc (suc k)) q l z o n e = absurd (omega arith)

    -- a pin from which something is followed is a gate, neither given nor realised
    pub gate_of : 0 < length (below C.X.g C.X.done p) → Out p C.X.done × (a ≡ 4294967295 → ⊥)
    gate_of l = (out, λ e. omega (arith, ap length (follow_leaf out e)))
      where
        out : Out p C.X.done
        out = split (mem p C.X.done) (λ e. absurd (omega (arith, ap length (follow_done e)))) (λ e. e)

-- the two pins followed from p
pub record Both (C : Context) (m p a b : ℕ) : Type 0 where
  pub is : below C.X.g C.X.done p ≡ a ∷ b ∷ []
  pub first : In a (below C.X.g C.X.done p)
  pub second : In b (below C.X.g C.X.done p)
  pub in_first : a < m
  pub in_second : b < m

-- they are pins of the graph
pub both_of : (C : Context) {m : ℕ} {gates w : List ℕ} → Reads C m gates w → (p a b : ℕ) → below C.X.g C.X.done p ≡ a ∷ b ∷ [] → Both C m p a b
both_of C {m} R p a b e = record {
  is = e;
  first = one;
  second = other;
  in_first = omega (arith, follow_pin C p a one, R.base.size);
  in_second = omega (arith, follow_pin C p b other, R.base.size);
}
  where
    one : In a (below C.X.g C.X.done p)
    one = rw e (in_here a (b ∷ []))

    other : In b (below C.X.g C.X.done p)
    other = rw e (in_there b a (b ∷ []) (in_here b []))

-- the first of them
pub first_operand : (C : Context) {m : ℕ} {gates w : List ℕ} → Reads C m gates w → (p k a b : ℕ) → k ≡ 0 → below C.X.g C.X.done p ≡ a ∷ b ∷ [] → (a ≡ get_or (below C.X.g C.X.done p) k m) × (a ≡ m → ⊥)
first_operand C R p k a b z e = (rw (e, z) refl, λ d. omega (arith, (both_of C R p a b e).in_first))
