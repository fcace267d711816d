-- Pins, literals, gates, and the value of a pin after the AIGER document. Assumes nothing.
use Rattle.std.specs.Prelude.{ℕ, zero, suc, ◌+◌, ◌*◌, ◌/◌, ◌%◌, Bool, true, false, not, ◌&&◌, List, [], ◌∷◌, eqb, length, get_or}
use Rattle.rules.specs.Lists.{mem}
use Rattle.rules.specs.Cells.{empty}

-- literal = 2 × pin + inversion
unfoldable pub pin_of : ℕ → ℕ
pin_of l = l / 2

unfoldable pub inversion_of : ℕ → ℕ
inversion_of l = l % 2

unfoldable pub literal_of : ℕ → ℕ → ℕ
literal_of p i = 2 * p + i

-- what drives a pin: nothing here, or a gate of two literals
pub data Node : Type 0 where
  leaf : Node
  gate : ℕ → ℕ → Node

unfoldable pub operands : Node → List ℕ
operands leaf = []
operands (gate a b) = pin_of a ∷ pin_of b ∷ []

-- two numbers a pin from pin 0 on; both the empty mark: a leaf
unfoldable pub node_of : ℕ → ℕ → Node
node_of a b = elim (eqb a empty && eqb b empty) [ true ↦ leaf | false ↦ gate a b ]

-- the graph of the lent numbers; an odd number at the end is no pin (check 3 refuses it)
unfoldable pub graph_of : List ℕ → List Node
graph_of [] = []
graph_of (a ∷ []) = []
graph_of (a ∷ b ∷ xs) = node_of a b ∷ graph_of xs

-- N + 1, by the lent numbers
unfoldable pub pin_count : List ℕ → ℕ
pin_count gates = length gates / 2

-- the pins that are followed from pin p: its operands, none if p is a pin to stop at
unfoldable pub below : List Node → List ℕ → ℕ → List ℕ
below g stop p = elim (mem p stop) [ true ↦ [] | false ↦ operands (get_or g p leaf) ]

-- a pin's own bit, 0 or not 0; pin 0's is always 0
unfoldable pub own_bit : List ℕ → ℕ → Bool
own_bit bits zero = false
own_bit bits (suc p) = not (eqb (get_or bits (suc p) 0) 0)

-- a literal's bit, by its pin's
unfoldable pub literal_bit : ℕ → Bool → Bool
literal_bit l b = elim (eqb (inversion_of l) 0) [ true ↦ b | false ↦ not b ]

-- a gate's bit, by the bits of its pins; none for a leaf
unfoldable pub gate_bit : Bool → Bool → Node → Bool
gate_bit x y leaf = false
gate_bit x y (gate a b) = literal_bit a x && literal_bit b y

-- the graph value of a pin; a given pin's is its bit even if a gate drives it. With a fuel of N + 1 it does not run out, since no chain of operands meets a pin twice
unfoldable pub value : ℕ → List Node → List ℕ → List ℕ → ℕ → Bool
value zero g given bits p = false
value (suc f) g given bits p =
    elim (mem p given) [
      | true ↦ own_bit bits p
      | false ↦ elim (get_or g p leaf) [
        | leaf ↦ own_bit bits p
        | gate a b ↦ literal_bit a (value f g given bits (pin_of a)) && literal_bit b (value f g given bits (pin_of b))
      ]
    ]

unfoldable pub literal_value : List Node → List ℕ → List ℕ → ℕ → Bool
literal_value g given bits l = literal_bit l (value (length g) g given bits (pin_of l))
