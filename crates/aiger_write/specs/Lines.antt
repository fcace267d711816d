-- The text of an AIGER file, line by line from the lent numbers. Assumes nothing.
use Rattle.std.specs.Prelude.{◌≡◌, Bool, true, false, ◌&&◌, List, [], ◌∷◌, ◌++◌, ℕ, ◌+◌, ◌-◌, ◌*◌, ◌/◌, ◌≤◌, eqb, length, get_or}
use Rattle.rules.specs.Lists.{count, gather, up_to}
use Rattle.rules.specs.Graph.{Node, leaf, gate, literal_of, graph_of, pin_count}
use Rattle.rules.specs.Listing.{text}
use Rattle.aiger_form.specs.Text.{numbers_line}
use Rattle.aiger_form.specs.Aag.{is_leaf_pin, header_line}

-- a leaf without a mark
unfoldable pub is_input : (gates marks : List ℕ) → ℕ → Bool
is_input gates marks p = is_leaf_pin (graph_of gates) p && eqb (get_or marks p 0) 0

unfoldable pub gate_node : Node → Bool
gate_node leaf = false
gate_node (gate a b) = true

unfoldable pub is_gate : (gates : List ℕ) → ℕ → Bool
is_gate gates p = gate_node (get_or (graph_of gates) p leaf)

-- numbers in a line
unfoldable pub row_text : List ℕ → List ℕ
row_text ns = numbers_line ns ++ text "\n"

unfoldable pub input_text : (gates marks : List ℕ) → ℕ → List ℕ
input_text gates marks p = elim (is_input gates marks p) [ true ↦ row_text (literal_of p 0 ∷ []) | false ↦ [] ]

-- a flip-flop's data literal stands last in its record of three numbers
unfoldable pub latch_text : (latches records : List ℕ) → ℕ → List ℕ
latch_text latches records i = row_text (literal_of (get_or latches i 0) 0 ∷ get_or records (3 * i + 2) 0 ∷ [])

unfoldable pub output_text : (records : List ℕ) (from : ℕ) → ℕ → List ℕ
output_text records from i = row_text (get_or records (from + 2 * i + 1) 0 ∷ [])

unfoldable pub node_text : ℕ → Node → List ℕ
node_text p leaf = []
node_text p (gate a b) = row_text (literal_of p 0 ∷ a ∷ b ∷ [])

unfoldable pub gate_text : (gates : List ℕ) → ℕ → List ℕ
gate_text gates p = node_text p (get_or (graph_of gates) p leaf)

unfoldable pub head_text : (m i l o a : ℕ) → List ℕ
head_text m i l o a = header_line m i l o a ++ text "\n"

-- how many outputs stand behind n flip-flops
unfoldable pub output_count : (records : List ℕ) → ℕ → ℕ
output_count records n = (length records - 3 * n) / 2

unfoldable pub file_text : (gates records latches marks : List ℕ) → List ℕ
file_text gates records latches marks =
    let pins = up_to (pin_count gates) 0 in
    head_text (pin_count gates - 1) (count (is_input gates marks) pins) (length latches) (output_count records (length latches)) (count (is_gate gates) pins)
    ++ gather (input_text gates marks) pins
    ++ gather (latch_text latches records) (up_to (length latches) 0)
    ++ gather (output_text records (3 * length latches)) (up_to (output_count records (length latches)) 0)
    ++ gather (gate_text gates) pins

-- each pin has a place for its mark
pub record Pins (gates marks : List ℕ) : Type 0 where
  pub few : pin_count gates ≤ 65536
  pub long : length marks ≡ 65536

-- so many outputs stand from an index on
pub record Outputs (records : List ℕ) (from n : ℕ) : Type 0 where
  pub inside : from + 2 * n ≤ length records

-- and so many flip-flops as latches
pub record Sized (gates records latches marks : List ℕ) : Type 0 where
  pub some : 1 ≤ pin_count gates
  pub few : pin_count gates ≤ 65536
  pub long : length marks ≡ 65536
  pub flips : 3 * length latches ≤ length records
