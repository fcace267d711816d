-- Pins above 0: the constant is no operand, so that no walk reaches it and it never waits. Assumes nothing.
use Prim.Native.Nat.{ℕ, ◌<◌}
use mathlib.Core.Path.{◌≡◌, refl}
use mathlib.Core.Logic.{inl, inr}
use mathlib.Core.List.{List, [], ◌∷◌}
use lib.Dec.{ltb}
use lib.ListN.{get_or}
use borrow.Author.Tests.{ltb-true}
use Rattle.rules.specs.Lists.{keep, In}
use Rattle.rules.specs.Graph.{Node, leaf, gate, pin_of, operands, below}
use Rattle.rules.specs.Loops.{From, start, step}
use Rattle.rules.specs.Records.{Group, endpoints_of, waiting_of}
use Rattle.rules.proofs.Lists.Members.{in_cons, in_nil, keep_in, insert_all_in}
use Rattle.rules.proofs.Walk.Reverse.{below_in}

-- the scope document's rule for gates: operands above 0
pub record Above (g : List Node) : Type 0 where
  pub operands : (p a b : ℕ) → get_or g p leaf ≡ gate a b → (0 < pin_of a) × (0 < pin_of b)

operand_above : (g : List Node) → Above g → (x : Node) (p q : ℕ) → get_or g p leaf ≡ x → In q (operands x) → 0 < q
unfolding operands
operand_above g A leaf p q e i = in_nil q i
operand_above g A (gate a b) p q e i =
    let h = A.operands p a b e in
    elim (in_cons q (pin_of a) (pin_of b ∷ []) i) [ inl c ↦ rw c h.0 | inr c ↦ elim (in_cons q (pin_of b) [] c) [ inl d ↦ rw d h.1 | inr d ↦ in_nil q d ] ]

pub below_above : (g : List Node) → Above g → (p q : ℕ) (stop : List ℕ) → In q (below g stop p) → 0 < q
below_above g A p q stop i = operand_above g A (get_or g p leaf) p q refl (below_in g stop p q i).1

-- what is reached from pins above 0 is above 0
pub from_above : (g : List Node) → Above g → (stop ps : List ℕ) → ((x : ℕ) → In x ps → 0 < x) → {q : ℕ} → From g stop ps q → 0 < q
from_above g A stop ps h (start {q = q} e) = h q e
from_above g A stop ps h (step {q = q} {x = x} f e) = below_above g A q x stop e

-- the pins that wait before the first stage are above 0
pub waits_above : (xs : List Group) (ws : List ℕ) → ((x : ℕ) → In x ws → 0 < x) → (x : ℕ) → In x (waiting_of xs ws) → 0 < x
unfolding waiting_of
waits_above [] ws h x i = h x i
waits_above (y ∷ xs) ws h x i = waits_above xs _ (λ z j. elim (insert_all_in z (keep (ltb 0) (endpoints_of y)) ws j) [ inl a ↦ ltb-true 0 z (keep_in (ltb 0) z (endpoints_of y) a).1 | inr a ↦ h z a ]) x i
