-- The values of a file's variables, from its lines alone. Assumes nothing.
use Rattle.std.specs.Prelude.{ℕ, ◌≡◌, Bool, false, ◌&&◌, ◌⊎◌, List, [], ◌∷◌, length}
use Rattle.rules.specs.Lists.{In}
use Rattle.rules.specs.Graph.{pin_of, graph_of, own_bit, literal_bit, value, literal_value}
use Rattle.aiger_form.specs.Aag.{Item, input_line, latch_line, gate_line, defines, uses, defined, file, file_of, Netlist}

-- a line of the file
pub data Among (x : Item) : List Item → Type 0 where
  here : {xs : List Item} → Among x (x ∷ xs)
  there : {y : Item} {xs : List Item} → Among x xs → Among x (y ∷ xs)

-- `v` gives each variable of the file a value: the constant's is false, an input's and a latch's is its bit, and a gate's is the AND of its
-- two literals, as its line says
pub record Values (xs : List Item) (bits : List ℕ) (v : ℕ → Bool) : Type 0 where
  pub constant : v 0 ≡ false
  pub inputs : (l : ℕ) → Among (input_line l) xs → v (pin_of l) ≡ own_bit bits (pin_of l)
  pub latches : (l n r : ℕ) → Among (latch_line l n r) xs → v (pin_of l) ≡ own_bit bits (pin_of l)
  pub gates : (l a b : ℕ) → Among (gate_line l a b) xs → v (pin_of l) ≡ literal_bit a (v (pin_of a)) && literal_bit b (v (pin_of b))

-- what a file means, and that its graph means the same: the lines have values, the graph's; no others; and every literal that a line defines
-- or uses has one
pub record Meant (bytes : List ℕ) (n : Netlist) : Type 0 where
  pub variables : ℕ
  pub lines : List Item
  pub reads : file_of bytes ≡ file variables lines
  pub literals : {x : Item} → Among x lines → (p : ℕ) → In p (defines x) ⊎ In p (uses x) → In p (0 ∷ defined lines)
  pub some : (bits : List ℕ) → Values lines bits (λ p. value (length (graph_of n.gates)) (graph_of n.gates) [] bits p)
  pub same : (bits : List ℕ) (v : ℕ → Bool) → Values lines bits v → (l : ℕ) → In (pin_of l) (0 ∷ defined lines) → literal_bit l (v (pin_of l)) ≡ literal_value (graph_of n.gates) [] bits l
