-- Which pins keep a mark: every pin on a loop does, and one whose operands have greater numbers need not. Assumes nothing.
use mathlib.Core.Path.{◌≡◌, refl, sym, ◌∙◌, ap}
use mathlib.Core.Logic.{inl, inr}
use mathlib.Core.Bool.{true}
use mathlib.Core.List.{List, [], ◌∷◌}
use Prim.Native.Nat.{ℕ, ◌+◌, ◌<◌, ◌≤◌}
use native.Mathlib.Omega.{arith}
use lib.Dec.{eqb, ltb, leb}
use lib.ListN.{length, get_or, set, length-set, get_or-eq_default, replicate, length-replicate, get_or-replicate}
use lib.Seq.{get_or-set_other}
use Rattle.rules.specs.Lists.{mem, In}
use Rattle.rules.specs.Graph.{Node, leaf, pin_of, operands, graph_of, pin_count, below}
use Rattle.graph.specs.declared.Literal.{Literal}
use Rattle.graph.specs.declared.Node as code
use Rattle.graph.specs.declared.Node.TheVariants.{Leaf, Gate}
use Rattle.graph.specs.Values.{node_for}
use Rattle.rules.proofs.Lists.Members.{split, eqb_true, eqb_false, in_cons, in_nil}
use Rattle.rules.specs.Loops.{From, start, step, Loop, loopless}
use Rattle.rules.proofs.Walk.Traverse.{from_mono}
use Rattle.rules.proofs.Loops.{ranked_loopless}
use borrow.Author.Tests.{ltb-true, ltb-false, leb-true}
use Rattle.graph.proofs.Gates.{graph_length}
use Rattle.graph_loops.specs.Marks.{Kept, Inside, Lower, Rises}
use Rattle.graph_loops.proofs.Laws.Reaching.{two, only}

-- a pin on a loop is an operand of a pin on a loop
pub loop_user : (g : List Node) (p : ℕ) {q : ℕ} → p ≡ q → From g [] (below g [] p) q → (u : ℕ) × In p (below g [] u) × Loop g u
loop_user g p c (start {q = q} e) = (p, rw (sym c) at e, start (rw (sym c) at e))
loop_user g p c (step {q = u} {x = x} f e) = let d : In p (below g [] u) = rw (sym c) at e in (u, d, from_mono g [] (below g [] p) (below g [] u) (λ y i. step (start d) i) f)

on_loop_inside : (gates : List ℕ) → Inside gates → (p : ℕ) → Loop (graph_of gates) p → p < pin_count gates
on_loop_inside gates I p l = let u = loop_user (graph_of gates) p refl l in I.pins u.0 p u.1

-- where every pin has a mark all that are on a loop do
pub all_kept : (gates : List ℕ) (v : List ℕ) → Inside gates → v ≡ replicate 65536 1 → Kept gates v
all_kept gates v I e = record {
  few = I.few;
  size = rw (e, length-replicate) I.few;
  loops = λ p l z. let h : p < pin_count gates = on_loop_inside gates I p l in omega (arith, sym (get_or-replicate 65536 p 1 0 (omega (arith, I.few))) ∙ ap (λ (u : List ℕ). get_or u p 0) (sym e) ∙ z);
}

-- ---- operands below their pins

past_leaf : (g : List Node) (p x : ℕ) → length g ≤ p → In x (below g [] p) → ⊥
unfolding below mem operands
past_leaf g p x h i = in_nil x (rw (get_or-eq_default g leaf h) at i)

-- where every operand is below its pin there is no loop
pub lower_loopless : (gates : List ℕ) → Inside gates → ((p : ℕ) → p < pin_count gates → Lower gates p) → loopless (graph_of gates) ≡ true
lower_loopless gates I h = ranked_loopless (graph_of gates) (λ p x i. rw (graph_length gates) (I.pins p x i)) (λ p. p)
    (λ p x i. split (ltb p (length (graph_of gates)))
    (λ t. (h p (omega (arith, ltb-true p (length (graph_of gates)) t, graph_length gates))).operands x i)
    (λ t. absurd (past_leaf (graph_of gates) p x (ltb-false p (length (graph_of gates)) t) i)))

-- ---- numbers that do not fall

-- an operand's number is at least d above, as the code tests it
pub rises_told : (low : List ℕ) (l q own d x y : ℕ) → q ≡ pin_of l → x ≡ own → y ≡ get_or low q 0 → leb (x + d) y ≡ true → own + d ≤ get_or low (pin_of l) 0
rises_told low l q own d x y a b e t = rw (← a) (omega (arith, leb-true (x + d) y t))

module _ (gates low : List ℕ) (d p : ℕ) (n : code.Node) (e : node_for n ≡ get_or (graph_of gates) p leaf) where
  -- a leaf has no operands to test
  pub rises_leaf : n ≡ Leaf → Rises gates low d p
  unfolding below mem operands node_for
  rises_leaf c = record { operands = λ x i. let z : get_or (graph_of gates) p leaf ≡ leaf = sym e ∙ ap node_for c in in_nil x (rw z at i) }

  -- a gate rises where both operands do
  pub rises_gate : (a b : Literal) → n ≡ Gate a b → (own : ℕ) → own ≡ get_or low p 0 → own + d ≤ get_or low (pin_of a.0) 0 → own + d ≤ get_or low (pin_of b.0) 0 → Rises gates low d p
  rises_gate a b c own m h k = record {
    operands = λ x i. elim (in_cons x (pin_of a.0) (pin_of b.0 ∷ []) (rw (two (graph_of gates) p n e a b c) at i)) [
      | inl z ↦ rw z (omega arith)
      | inr z ↦ only x (pin_of b.0) z (λ y. rw y (omega arith))
    ];
  }

module _ (gates low : List ℕ) (all : (p : ℕ) → p < pin_count gates → Rises gates low 0 p) where
  rises_all : (p x : ℕ) → In x (below (graph_of gates) [] p) → get_or low p 0 ≤ get_or low x 0
  rises_all p x i = split (ltb p (length (graph_of gates)))
      (λ t. omega (arith, (all p (omega (arith, ltb-true p (length (graph_of gates)) t, graph_length gates))).operands x i))
      (λ t. absurd (past_leaf (graph_of gates) p x (ltb-false p (length (graph_of gates)) t) i))

  risen : (p : ℕ) → Rises gates low 1 p → {q : ℕ} → From (graph_of gates) [] (below (graph_of gates) [] p) q → get_or low p 0 < get_or low q 0
  risen p r (start {q = q} e) = omega (arith, r.operands q e)
  risen p r (step {q = q} {x = x} f e) = omega (arith, risen p r f, rises_all q x e)

  -- a pin whose operands all have greater numbers is on no loop, so its mark may go
  pub unmarked : (v : List ℕ) (p : ℕ) → Kept gates v → Rises gates low 1 p → Kept gates (set v p 0)
  unmarked v p K r = record {
    few = K.few;
    size = rw length-set K.size;
    loops = λ q l z. split (eqb q p)
        (λ t. let lp : Loop (graph_of gates) p = rw (eqb_true q p t) at l in omega (arith, risen p r lp))
        (λ t. K.loops q l (sym (get_or-set_other v p q 0 0 (eqb_false q p t)) ∙ z));
  }
