-- Reverse levels stay low as pins hand them down; and the needed pins one listed pin after another. Assumes nothing.
use Prim.Native.Nat.{ℕ, zero, suc, ◌≤◌, max}
use mathlib.Core.Path.{◌≡◌}
use mathlib.Core.Logic.{inl, inr}
use mathlib.Core.List.{List, [], ◌∷◌}
use native.Mathlib.Omega.{arith}
use lib.ListN.{get_or, set, replicate}
use Rattle.rules.specs.Lists.{insert_all, gather}
use Rattle.rules.specs.Graph.{Node, below}
use Rattle.rules.specs.Traversal.{raise, lift}
use Rattle.rules.proofs.Walk.Reverse.{nat}
use Rattle.rules.proofs.Tree.Loads.{set_either}
use Rattle.rules.proofs.Lists.Members.{insert_all-append}

-- no entry is above m
abbrev pub Low : ℕ → List ℕ → Type 0
Low m rl = (q : ℕ) → get_or rl q 0 ≤ m

set_low : (m : ℕ) (rl : List ℕ) (p v : ℕ) → Low m rl → v ≤ m → Low m (set rl p v)
set_low m rl p v h b q = elim (set_either rl p v q 0) [ inl e ↦ rw e.1 b | inr e ↦ rw e (h q) ]

-- raising to n keeps them low
pub raise_low : (m n : ℕ) (ps rl : List ℕ) → n ≤ m → Low m rl → Low m (raise n ps rl)
unfolding raise
raise_low m n [] rl b h = h
raise_low m n (p ∷ ps) rl b h = raise_low m n ps (set rl p (max n (get_or rl p 0))) b (set_low m rl p (max n (get_or rl p 0)) h (omega (arith, h p)))

-- handing a reverse level down raises them by one at most
pub lift_low : (g : List Node) (stop : List ℕ) (m p : ℕ) (rl : List ℕ) → Low m rl → Low (suc m) (lift g stop p rl)
unfolding lift
lift_low g stop m p rl h = nat g stop (get_or rl p 0) (λ e. rw (e, lift) (λ q. omega (arith, h q)))
    (λ k e. rw (e, lift) (raise_low (suc m) (suc (suc k)) (below g stop p) rl (omega (arith, h p)) (λ q. omega (arith, h q))))

-- at first every reverse level is 0, which stands for none
pub none_low : (n : ℕ) → Low 0 (replicate n 0)
none_low zero q = omega arith
none_low (suc n) zero = omega arith
none_low (suc n) (suc q) = none_low n q

-- one more listed pin puts what it asks for behind the others
pub wanted_next : (f : ℕ → List ℕ) (p : ℕ) (ps zs : List ℕ) → insert_all (gather f (p ∷ ps)) zs ≡ insert_all (gather f ps) (insert_all (f p) zs)
unfolding gather
wanted_next f p ps zs = insert_all-append (f p) (gather f ps) zs
