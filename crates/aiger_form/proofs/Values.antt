-- The value theorem: the graph that a file becomes gives every literal of the file the value that the file's lines give it. Assumes nothing.
use Prim.Native.Nat.{ℕ, zero, suc, ◌≤◌, ◌<◌}
use mathlib.Core.Path.{◌≡◌, refl, sym, ap, ◌∙◌}
use mathlib.Core.Logic.{inl, inr}
use mathlib.Core.Bool.{Bool, true, false, ◌&&◌}
use mathlib.Core.List.{List, [], ◌∷◌}
use native.Mathlib.Omega.{arith}
use lib.Dec.{leb}
use lib.ListN.{length, get_or}
use borrow.Author.Tests.{leb-true, leb-false}
use Rattle.rules.specs.Lists.{mem, In}
use Rattle.rules.specs.Graph.{Node, leaf, gate, pin_of, operands, graph_of, pin_count, own_bit, literal_bit, value, literal_value}
use Rattle.rules.specs.Inside.Walks.{Graph, rank}
use Rattle.rules.proofs.Lists.Members.{split, in_here, in_there, in_cons, in_nil, in_append_left, in_append_right}
use Rattle.rules.proofs.Walk.Reverse.{in_below}
use Rattle.rules.proofs.Fold.Folds.{falls_first, value_gate, value_own}
use Rattle.rules.proofs.Tree.Held.{node}
use Rattle.rules.proofs.Demand.{graph, graph_few}
use Rattle.checks.specs.Passed.{Passed}
use Rattle.aiger_form.specs.Aag.{Item, bad_text, skipped, input_line, latch_line, output_line, gate_line, defines, uses, gather_items, defined, driver, driven, gates_of, records_of, Netlist, netlist_read, netlist, any_height, checked, read_aag, file, file_of}
use Rattle.aiger_form.specs.Meaning.{Among, here, there, Values, Meant}
use Rattle.aiger_form.proofs.Accepted.{passes, defines_pin, driven_none, Lines, accepted, file_stands, stand_lines, defined_line, gather_two, graph_length, node_at, node_past}

-- ---- an accepted file

module _ (m : ℕ) (xs : List Item) (L : Lines m xs) (free : checked true (netlist m xs) ≡ 0) (bits : List ℕ) where
  g : List Node
  g = graph_of (gates_of m xs)

  checks : Passed any_height true (gates_of m xs) [] (records_of xs)
  unfolding netlist
  checks = passes (netlist m xs) free

  -- M is at most 65,535
  pub small : m ≤ 65535
  unfolding pin_count gates_of
  small = omega (arith, checks.few, gather_two (driven xs) (suc m) 0)

  G : Graph g (rank g)
  unfolding g
  G = graph (graph_of (gates_of m xs)) checks.valid

  long : length g ≡ suc m
  unfolding g
  long = graph_length m xs L small

  -- a pin that a line without a gate defines
  leaf_line : {x : Item} → Among x xs → driver x ≡ leaf → (p : ℕ) → In p (defines x) → get_or g p leaf ≡ leaf
  unfolding g
  leaf_line a d p i = split (leb p m)
      (λ t. node_at m xs L small p (leb-true p m t) ∙ L.one a p i ∙ d)
      (λ t. node_past m xs L small p (leb-false p m t))

  gate_pin : (l a b : ℕ) → Among (gate_line l a b) xs → pin_of l ≤ m
  unfolding defines
  gate_pin l a b i = (defines_pin m (gate_line l a b) (L.fit (gate_line l a b) i) (pin_of l) (in_here (pin_of l) [])).1

  gate_line_lem : (l a b : ℕ) → Among (gate_line l a b) xs → get_or g (pin_of l) leaf ≡ gate a b
  unfolding g defines driver
  gate_line_lem l a b i = node_at m xs L small (pin_of l) (gate_pin l a b i) ∙ L.one i (pin_of l) (in_here (pin_of l) [])

  zero_leaf : get_or g 0 leaf ≡ leaf
  unfolding g
  zero_leaf = node_at m xs L small 0 (omega arith) ∙ driven_none m xs L.fit

  value_of : ℕ → Bool
  value_of p = value (length g) g [] bits p

  own : (p : ℕ) → get_or g p leaf ≡ leaf → value_of p ≡ own_bit bits p
  unfolding value_of
  own p e = value_own g (rank g) G [] bits (length g) p (omega (arith, long)) (inr e)

  few_under : (p : ℕ) → p ≤ m → rank g p < length g
  unfolding g
  few_under p h = graph_few (graph_of (gates_of m xs)) checks.valid p (omega (arith, long))

  zero_bit : own_bit bits 0 ≡ false
  unfolding own_bit
  zero_bit = refl

  -- the graph's values are values of the lines
  graph_values : Values xs bits value_of
  unfolding value_of defines driver
  graph_values = record {
    constant = own 0 zero_leaf ∙ zero_bit;
    inputs = λ l i. own (pin_of l) (leaf_line i refl (pin_of l) (in_here (pin_of l) []));
    latches = λ l n r i. own (pin_of l) (leaf_line i refl (pin_of l) (in_here (pin_of l) []));
    gates = λ l a b i. value_gate g (rank g) G [] bits (length g) (pin_of l) a b (few_under (pin_of l) (gate_pin l a b i)) (unfold mem in refl) (gate_line_lem l a b i);
  }

  -- and the lines have no other values
  module _ (v w : ℕ → Bool) (S : Values xs bits v) (R : Values xs bits w) where
    line_same : (p : ℕ) → ((q : ℕ) → rank g q < rank g p → In q (0 ∷ defined xs) → v q ≡ w q) → (x : Item) → Among x xs → In p (defines x) → v p ≡ w p
    unfolding defines uses
    line_same p h bad_text a i = in_nil p i
    line_same p h skipped a i = in_nil p i
    line_same p h (output_line l) a i = in_nil p i
    line_same p h (input_line l) a i = elim (in_cons p (pin_of l) [] i) [ inl e ↦ rw e (S.inputs l a ∙ sym (R.inputs l a)) | inr e ↦ in_nil p e ]
    line_same p h (latch_line l n r) a i = elim (in_cons p (pin_of l) [] i) [ inl e ↦ rw e (S.latches l n r a ∙ sym (R.latches l n r a)) | inr e ↦ in_nil p e ]
    line_same p h (gate_line l c d) a i = elim (in_cons p (pin_of l) [] i) [
      | inl e ↦
          let k = falls_first g (rank g) G [] bits (pin_of l) c d (gate_line_lem l c d a) in
          let ec : v (pin_of c) ≡ w (pin_of c) = h (pin_of c) (rw e k.0) (L.known a (pin_of c) (in_here (pin_of c) (pin_of d ∷ []))) in
          let ed : v (pin_of d) ≡ w (pin_of d) = h (pin_of d) (rw e k.1) (L.known a (pin_of d) (in_there (pin_of d) (pin_of c) (pin_of d ∷ []) (in_here (pin_of d) []))) in
          rw e (S.gates l c d a ∙ (rw (ec, ed) (sym (R.gates l c d a))))
      | inr e ↦ in_nil p e
    ]

    same_below : (f p : ℕ) → rank g p < f → In p (0 ∷ defined xs) → v p ≡ w p
    same_below zero p b i = absurd (omega arith)
    same_below (suc f) p b i = elim (in_cons p 0 (defined xs) i) [
      | inl e ↦ rw e (S.constant ∙ sym R.constant)
      | inr d ↦ let t = defined_line xs p d in line_same p (λ q k j. same_below f q (omega arith) j) t.0 t.1 t.2
    ]

    same_values : (p : ℕ) → In p (0 ∷ defined xs) → v p ≡ w p
    same_values p i = same_below (suc (rank g p)) p (omega arith) i

-- ---- the theorem

line_defined : (xs : List Item) {x : Item} → Among x xs → (p : ℕ) → In p (defines x) → In p (defined xs)
unfolding defined gather_items
line_defined (x ∷ xs) here p i = in_append_left p (defines x) (defined xs) i
line_defined (y ∷ xs) (there a) p i = in_append_right p (defines y) (defined xs) (line_defined xs a p i)
line_defined [] x4 p i = elim x4 [ ]

meant : (bytes : List ℕ) (n : Netlist) (m : ℕ) (xs : List Item) → file_of bytes ≡ file m xs → n ≡ netlist m xs → checked true n ≡ 0 → Meant bytes n
unfolding netlist literal_value g value_of
meant bytes n m xs e d r =
    let L = stand_lines (file_stands bytes e) in
    let en : n.gates ≡ gates_of m xs = ap (λ (k : Netlist). k.gates) d in
    let free : checked true (netlist m xs) ≡ 0 = rw d at r in
    record {
      variables = m;
      lines = xs;
      reads = e;
      literals = λ {x} a p i. elim i [ inl k ↦ in_there p 0 (defined xs) (line_defined xs a p k) | inr k ↦ L.known a p k ];
      some = λ bits. rw en (graph_values m xs L free bits);
      same = λ bits v S l i. rw en (ap (literal_bit l) (same_values m xs L free bits v (value_of m xs L free bits) S (graph_values m xs L free bits) (pin_of l) i));
    }

-- whatever is read has the file's value at every literal
pub graph_meant : (sized : Netlist → Bool) (bytes : List ℕ) (n : Netlist) → read_aag sized bytes ≡ netlist_read n → Meant bytes n
graph_meant sized bytes n e = let A = accepted sized bytes n e in meant bytes n A.variables A.lines A.reads A.net A.free
