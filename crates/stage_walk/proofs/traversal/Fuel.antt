-- Fuel above a pin's rank is enough, so a visit is the same with any such. Assumes nothing.
use mathlib.Core.Path.{◌≡◌, refl, ap}
use mathlib.Core.List.{List, [], ◌∷◌}
use Prim.Native.Nat.{ℕ, zero, suc, ◌<◌}
use native.Mathlib.Omega.{arith}
use Rattle.rules.specs.Lists.{mem, In, Out}
use Rattle.rules.specs.Graph.{Node, below}
use Rattle.rules.specs.Traversal.{thread, visit}
use Rattle.rules.proofs.Lists.Members.{split, in_here, in_there}
use Rattle.rules.specs.Inside.Walks.{Ranked}

thread_ext : (u v : ℕ → List ℕ → List ℕ) (ps : List ℕ) → ((p : ℕ) → In p ps → (s : List ℕ) → u p s ≡ v p s) → (s : List ℕ) → thread u ps s ≡ thread v ps s
unfolding thread
thread_ext u v [] h s = refl
thread_ext u v (p ∷ ps) h s = rw (h p (in_here p ps) s) (thread_ext u v ps (λ q i. h q (in_there q p ps i)) (v p s))

module _ (g : List Node) (done : List ℕ) (r : ℕ → ℕ) (k : Ranked g done r) where
  visit_fuel : (f e p : ℕ) → r p < f → r p < e → (s : List ℕ) → visit f g done p s ≡ visit e g done p s
  unfolding visit
  visit_fuel zero e p a b s = absurd (omega arith)
  visit_fuel (suc f) zero p a b s = absurd (omega arith)
  visit_fuel (suc f) (suc e) p a b s = split (mem p s)
      (λ d. rw (d, visit))
      (λ d. rw (d, visit) (ap (λ (l : List ℕ). p ∷ l) (thread_ext (visit f g done) (visit e g done) (below g done p) (λ q i. visit_fuel f e q (omega (arith, k p q i)) (omega (arith, k p q i))) s)))

  -- visiting a listed pin changes nothing
  pub visit_seen : (f p : ℕ) (s : List ℕ) → In p s → visit f g done p s ≡ s
  unfolding visit
  visit_seen zero p s i = refl
  visit_seen (suc f) p s i = rw (i, visit)

  -- a pin that is not listed comes after what is followed from it
  pub visit_open : (f p : ℕ) (s : List ℕ) → r p < f → Out p s → visit f g done p s ≡ p ∷ thread (visit f g done) (below g done p) s
  unfolding visit
  visit_open zero p s h o = absurd (omega arith)
  visit_open (suc f) p s h o = rw (
    o,
    visit,
  ) (ap (λ (l : List ℕ). p ∷ l) (thread_ext (visit f g done) (visit (suc f) g done) (below g done p) (λ q i. visit_fuel f (suc f) q (omega (arith, k p q i)) (omega (
    arith,
    k p q i,
  ))) s))
