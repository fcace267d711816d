-- Rule 1: the traversal lists each pin once, after the pins it follows, and only pins that are reached. Assumes nothing.
use Prim.Native.Nat.{ℕ, zero, suc, ◌<◌}
use mathlib.Core.Logic.{inl, inr}
use mathlib.Core.List.{List, [], ◌∷◌}
use native.Mathlib.Omega.{arith}
use Rattle.rules.specs.Inside.Walks.{Topo, none, more, Ranked, Visited}
use Rattle.rules.specs.Loops.{From, start, step}
use Rattle.rules.specs.Lists.{mem, In, Out}
use Rattle.rules.specs.Graph.{Node, below}
use Rattle.rules.specs.Traversal.{thread, visit, traverse}
use Rattle.rules.proofs.Lists.Members.{split, true_false, in_here, in_there, in_cons, in_nil}

-- what is reached from reached pins is reached
pub from_mono : (g : List Node) (done ps qs : List ℕ) → ((x : ℕ) → In x ps → From g done qs x) → {q : ℕ} → From g done ps q → From g done qs q
from_mono g done ps qs h (start {q = q} e) = h q e
from_mono g done ps qs h (step f e) = step (from_mono g done ps qs h f) e

-- all that is reached stays below a bound on the ranks of the pins at the start
pub from_rank : (g : List Node) (done ps : List ℕ) (r : ℕ → ℕ) → Ranked g done r → (n : ℕ) → ((x : ℕ) → In x ps → r x < n) → {q : ℕ} → From g done ps q → r q < n
from_rank g done ps r k n h (start {q = q} e) = h q e
from_rank g done ps r k n h (step {q = q} {x = x} f e) = let i : r q < n = from_rank g done ps r k n h f in omega (arith, k q x e)

-- each of some pins in turn
thread_good : (g : List Node) (done : List ℕ) (v : ℕ → List ℕ → List ℕ) (ps : List ℕ) →
    ((p : ℕ) → In p ps → (s : List ℕ) → Topo g done s → Visited g done (p ∷ []) s (v p s)) →
    (s : List ℕ) → Topo g done s → Visited g done ps s (thread v ps s)
unfolding thread
thread_good g done v [] h s t = record { topo = t; has = λ q e. in_nil q e; kept = λ q e. e; new = λ q e. inl e }
thread_good g done v (p ∷ ps) h s t =
    let one : Visited g done (p ∷ []) s (v p s) = h p (in_here p ps) s t in
    let all : Visited g done ps (v p s) (thread v ps (v p s)) = thread_good g done v ps (λ q e. h q (in_there q p ps e)) (v p s) one.topo in
    record {
      topo = all.topo;
      has = λ q e. elim (in_cons q p ps e) [ inl d ↦ all.kept q (one.has q (rw d (in_here p []))) | inr d ↦ all.has q d ];
      kept = λ q e. all.kept q (one.kept q e);
      new = λ q e. elim (all.new q e) [
        | inl d ↦ elim (one.new q d) [ inl c ↦ inl c | inr c ↦ inr (from_mono g done (p ∷ []) (p ∷ ps) (λ x b. start (elim (in_cons x p [] b) [ inl a ↦ rw a (in_here p ps) | inr a ↦ in_nil x a ])) c) ]
        | inr d ↦ inr (from_mono g done ps (p ∷ ps) (λ x b. start (in_there x p ps b)) d)
      ];
    }

module _ (g : List Node) (done : List ℕ) (r : ℕ → ℕ) (k : Ranked g done r) where
  -- a visit adds the pin and all that is reached from it, each once and after what it follows
  pub visit_good : (f p : ℕ) → r p < f → (s : List ℕ) → Topo g done s → Visited g done (p ∷ []) s (visit f g done p s)
  unfolding visit
  visit_good zero p h s t = absurd (omega arith)
  visit_good (suc f) p h s t = split (mem p s)
      (λ e. rw (e, visit) (record {
        topo = t;
        has = λ q d. elim (in_cons q p [] d) [ inl c ↦ rw c e | inr c ↦ in_nil q c ];
        kept = λ q d. d;
        new = λ q d. inl d;
      }))
      (λ e.
      let u : List ℕ = thread (visit f g done) (below g done p) s in
      let all : Visited g done (below g done p) s u = thread_good g done (visit f g done) (below g done p) (λ x d. visit_good f x (omega (arith, k p x d))) s t in
      let fresh : Out p u = split (mem p u) (λ d. elim (all.new p d) [ inl c ↦ true_false c e | inr c ↦ absurd (omega (arith, from_rank g done (below g done p) r k (r p) (k p) c)) ]) (λ d. d) in
      rw (e, visit) (record {
        topo = more fresh all.has all.topo;
        has = λ q d. elim (in_cons q p [] d) [ inl c ↦ rw c (in_here p u) | inr c ↦ in_nil q c ];
        kept = λ q d. in_there q p u (all.kept q d);
        new = λ q d. elim (in_cons q p u d) [
          | inl c ↦ inr (start {q = q} (rw c (in_here p [])))
          | inr c ↦ elim (all.new q c) [ inl b ↦ inl b | inr b ↦ inr (from_mono g done (below g done p) (p ∷ []) (λ x a. step (start (in_here p [])) a) b) ]
        ];
      }))

  -- with more fuel than the rank of each waiting pin
  pub traverse_good : (f : ℕ) (ws : List ℕ) → ((p : ℕ) → In p ws → r p < f) → Visited g done ws [] (traverse f g done ws)
  unfolding traverse
  traverse_good f ws h = thread_good g done (visit f g done) ws (λ p e. visit_good f p (h p e)) [] none
