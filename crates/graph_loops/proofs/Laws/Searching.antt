-- From a pin until nothing more is reached, and the search for the smallest pin on a loop. Assumes nothing.
use mathlib.Core.Path.{◌≡◌, refl, sym, ◌∙◌, ap}
use mathlib.Core.Logic.{inl, inr}
use mathlib.Core.Bool.{Bool, true, false, not}
use mathlib.Core.List.{List, []}
use Prim.Native.Nat.{ℕ, ◌<◌, ◌≤◌}
use native.Mathlib.Omega.{arith}
use lib.Dec.{eqb, ltb}
use lib.ListN.{length, get_or, get_or-eq_default, replicate, length-replicate, get_or-replicate}
use Rattle.rules.specs.Lists.{Found, nothing, found}
use Rattle.rules.specs.Graph.{Node, graph_of, pin_count, below}
use Rattle.graph.specs.declared.Pin.{Pin}
use Rattle.rules.proofs.Lists.Members.{split, true_false}
use Rattle.rules.specs.Loops.{From, start, step, on_loop, loop_from, loop_pin, is_nothing}
use Rattle.rules.proofs.Loops.{Answered, none, least, loop_answered, loop_there, loop_found, Sought, missed, met, sought}
use borrow.Author.Tests.{ltb-true, ltb-false, ne_eqb}
use Rattle.rules.specs.Checks.{pin_found}
use Rattle.graph.proofs.Gates.{graph_length}
use Rattle.std.specs.Prelude.{Option, Some}
use Rattle.graph_loops.specs.Answers.{loop_for}
use Rattle.graph_loops.specs.Marks.{Kept, Inside, Step, Spread, Under}
use Rattle.graph_loops.proofs.Laws.Reaching.{nat_cases}

-- ---- from pin p until nothing more is reached

zero_at : (n q : ℕ) → ◌≡◌ {A = ℕ} (get_or (replicate n 0) q 0) 0
zero_at n q = split (ltb q n) (λ t. get_or-replicate n q 0 0 (ltb-true q n t)) (λ t. get_or-eq_default (replicate n 0) 0 (let z : length (replicate {A = ℕ} n 0) ≡ n = length-replicate {A = ℕ} n 0 in omega (arith, ltb-false q n t)))

-- what is reached are pins under p, its operands among them
pub under_start : (gates v v' : List ℕ) (p : ℕ) (r : Bool) → v ≡ replicate 65536 0 → Inside gates → Step v v' (below (graph_of gates) [] p) r → Under gates p v'
under_start gates v v' p r e I s =
    let none : (q : ℕ) → get_or v q 0 ≡ 0 = λ q. rw e (zero_at 65536 q) in
    record {
      size = let z : length (replicate {A = ℕ} 65536 0) ≡ 65536 = length-replicate {A = ℕ} 65536 0 in s.size ∙ ap length e ∙ z;
      from = λ q h. elim (s.new q h) [ inl d ↦ absurd (omega (arith, none q)) | inr d ↦ start d ];
      first = λ x i. s.has x i (let z : length (replicate {A = ℕ} 65536 0) ≡ 65536 = length-replicate {A = ℕ} 65536 0 in omega (arith, I.pins p x i, I.few, ap length e));
    }

-- what is reached stays under p as it spreads
pub under_more : (gates v v' : List ℕ) (p m : ℕ) (r : Bool) → Under gates p v → Spread gates m v v' r → Under gates p v'
under_more gates v v' p m r U S = record { size = S.size ∙ U.size; from = λ q h. S.from (below (graph_of gates) [] p) U.from q h; first = λ x i. S.old x (U.first x i) }

-- at the end pin p is reached exactly where it is on a loop
module _ (gates v v' : List ℕ) (p : ℕ) (I : Inside gates) (U : Under gates p v) (S : Spread gates (pin_count gates) v v' false) where
  reached_all : {q : ℕ} → From (graph_of gates) [] (below (graph_of gates) [] p) q → 0 < get_or v q 0
  reached_all (start {q = q} e) = U.first q e
  reached_all (step {q = q} {x = x} f e) = (S.same refl).1 q x (below_in_graph f) (reached_all f) e (omega (arith, I.pins q x e, I.few, U.size))
    where
      below_in_graph : {j : ℕ} → From (graph_of gates) [] (below (graph_of gates) [] p) j → j < pin_count gates
      below_in_graph (start {q = j} e) = I.pins p j e
      below_in_graph (step {q = i} {x = j} f e) = I.pins i j e

  -- once nothing more is reached, the pin's own number tells whether it is on a loop
  pub loop_known : not (eqb (get_or v' p 0) 0) ≡ on_loop (graph_of gates) p
  loop_known = rw (S.same refl).0 (nat_cases (get_or v p 0)
      (λ z. rw z (split (on_loop (graph_of gates) p) (λ t. absurd (omega (arith, reached_all (loop_there (graph_of gates) p t)))) (λ t. sym t)))
      (λ h. rw (ne_eqb (get_or v p 0) 0 (λ z. omega arith)) (sym (loop_found (graph_of gates) (λ q x i. rw (graph_length gates) (I.pins q x i)) p (U.from p h)))))

-- the same as the code reads it: a reached pin is on a loop
pub loop_told : (gates v v' : List ℕ) (p q : ℕ) (r : Bool) → Inside gates → Under gates p v → Spread gates (pin_count gates) v v' r → r ≡ false → q ≡ p → not (eqb (get_or v' q 0) 0) ≡ on_loop (graph_of gates) p
loop_told gates v v' p q r I U S e d = rw d (loop_known gates v v' p I U (rw e at S))

-- the list of reached pins keeps its length
pub still_long : (gates v₀ v v' : List ℕ) (p m : ℕ) (r : Bool) → v₀ ≡ replicate 65536 0 → Under gates p v → Spread gates m v v' r → length v' ≡ length v₀
still_long gates v₀ v v' p m r e U S = let z : length (replicate {A = ℕ} 65536 0) ≡ 65536 = length-replicate {A = ℕ} 65536 0 in S.size ∙ U.size ∙ sym (ap length e ∙ z)

-- ---- the search

-- a pin without a mark is on no loop
pub no_mark_no_loop : (gates v : List ℕ) (p q : ℕ) → Kept gates v → q ≡ p → get_or v q 0 ≡ 0 → false ≡ on_loop (graph_of gates) p
no_mark_no_loop gates v p q K e z = split (on_loop (graph_of gates) p) (λ t. absurd (K.loops p (loop_there (graph_of gates) p t) (ap (λ (j : ℕ). get_or v j 0) (sym e) ∙ z))) (λ t. sym t)

module _ (g : List Node) (p m : ℕ) (e : length g ≡ m) (none : (q : ℕ) → q < p → on_loop g q ≡ false) where
  found_is : (a : Found) → Sought g (length g) 0 a → p < m → on_loop g p ≡ true → found p ≡ a
  found_is _ (missed h) l t = true_false t (h p (omega arith) (omega arith))
  found_is _ (met {k = k} u i j h) l t = ap found (split (ltb k p) (λ c. true_false u (none k (ltb-true k p c))) (λ c. split (ltb p k) (λ d. true_false t (h p (omega arith) (ltb-true p k d))) (λ d. omega (arith, ltb-false k p c, ltb-false p k d))))

  nothing_is : (a : Found) → Sought g (length g) 0 a → m ≤ p → nothing ≡ a
  nothing_is _ (missed h) l = refl
  nothing_is _ (met {k = k} u i j h) l = true_false u (none k (omega arith))

  -- the first pin on a loop is the smallest
  pub search_found : p < m → on_loop g p ≡ true → found p ≡ loop_pin g
  unfolding loop_pin
  search_found = found_is (loop_from (length g) g 0) (sought g (length g) 0)

  -- past the last pin there is none
  pub search_nothing : m ≤ p → nothing ≡ loop_pin g
  unfolding loop_pin
  search_nothing = nothing_is (loop_from (length g) g 0) (sought g (length g) 0)

found_inside : (g : List Node) (a : Found) → Answered g a → (p : ℕ) → found p ≡ a → length g ≤ p → ⊥
unfolding is_nothing pin_found
found_inside g _ (none h) p e l = true_false (refl {a = true}) (sym (ap is_nothing e))
found_inside g _ (least {k = k} m i h) p e l = let z : p ≡ k = ap pin_found e in absurd (omega arith)

-- no pin past the graph's end is found
pub found_past : (gates : List ℕ) → Inside gates → (r : Option Pin) → loop_for r ≡ loop_pin (graph_of gates) → (p : Pin) → r ≡ Some p → (q n : ℕ) → q ≡ p.0 → n ≡ pin_count gates → n ≤ q → ⊥
unfolding loop_for
found_past gates I r d p c q n e m l = found_inside (graph_of gates) (loop_pin (graph_of gates)) (loop_answered (graph_of gates) (λ i x j. rw (graph_length gates) (I.pins i x j))) p.0 (ap loop_for (sym c) ∙ d) (omega (arith, graph_length gates))
