-- Loops: chains of operands from a pin back to itself, gates counted whether given or not. Assumes nothing.
use Rattle.std.specs.Prelude.{ℕ, zero, suc, ◌<◌, ◌≡◌, Bool, true, false, List, [], length, get_or}
use Rattle.rules.specs.Lists.{mem, insert_all, distinct, gather, Found, nothing, found, In}
use Rattle.rules.specs.Graph.{Node, leaf, gate, pin_of, below}

-- some pins, and behind them those of their operands that are not among them
unfoldable pub grown : List Node → List ℕ → List ℕ
grown g s = insert_all (gather (below g []) s) s

unfoldable pub closure : ℕ → List Node → List ℕ → List ℕ
closure zero g s = s
closure (suc f) g s = closure f g (grown g s)

-- the pins that a chain of one operand or more leads to from p. A round that finds nothing new is the last that matters, and there are N + 1 pins to find,
-- so N + 1 rounds are enough
unfoldable pub under : List Node → ℕ → List ℕ
under g p = closure (length g) g (distinct (below g [] p))

unfoldable pub on_loop : List Node → ℕ → Bool
on_loop g p = mem p (under g p)

-- the smallest pin on a loop, of the n pins from p on
unfoldable pub loop_from : ℕ → List Node → ℕ → Found
loop_from zero g p = nothing
loop_from (suc n) g p = elim (on_loop g p) [ true ↦ found p | false ↦ loop_from n g (suc p) ]

-- and of all
unfoldable pub loop_pin : List Node → Found
loop_pin g = loop_from (length g) g 0

unfoldable pub is_nothing : Found → Bool
is_nothing nothing = true
is_nothing (found p) = false

unfoldable pub loopless : List Node → Bool
loopless g = is_nothing (loop_pin g)

-- ---- the same as a reader says it

-- pin q is reached from one of some pins
pub data From (g : List Node) (done ps : List ℕ) : ℕ → Type 0 where
  start : {q : ℕ} → In q ps → From g done ps q
  step : {q x : ℕ} → From g done ps q → In x (below g done q) → From g done ps x

-- a loop through p: p is reached from one of its own operands, no pin stopping the chain
abbrev pub Loop : List Node → ℕ → Type 0
Loop g p = From g [] (below g [] p) p

-- the rule for gates: operands are pins of the graph, and no pin is on a loop
pub record Valid (g : List Node) : Type 0 where
  pub inside : (p a b : ℕ) → get_or g p leaf ≡ gate a b → (pin_of a < length g) × (pin_of b < length g)
  pub free : loopless g ≡ true
