-- The round trip: reading the file that is written for a job gives the job's graph, records and latch leaves. Assumes nothing.
use Prim.Native.Nat.{ℕ, zero, suc, ◌+◌, ◌-◌, ◌%◌, ◌≤◌, ◌<◌}
use mathlib.Core.Path.{◌≡◌, refl, sym, ap, ◌∙◌}
use mathlib.Core.Logic.{inl, inr}
use mathlib.Core.Bool.{Bool, true, false, not, ◌&&◌}
use mathlib.Core.List.{List, [], ◌∷◌, ◌++◌, map, append-nil}
use native.Mathlib.Omega.{arith}
use lib.Dec.{leb, ltb, eqb}
use lib.ListN.{length, get_or, length-append, length-map}
use borrow.Author.Tests.{ltb-true, eqb-true, le-leb, lt-ltb, le-ltb, not-true}
use Rattle.rules.specs.Lists.{nothing, mem, every, same_list, gather, up_to, In, Out}
use Rattle.rules.specs.Graph.{Node, leaf, gate, pin_of, graph_of, pin_count}
use Rattle.rules.specs.Cells.{is_height}
use Rattle.rules.specs.Loops.{Valid}
use Rattle.rules.specs.Records.{Group, Groups?, unreadable, groups, read, Ends}
use Rattle.rules.specs.Checks.{nodes_right, graph_right}
use Rattle.rules.specs.Listing.{text, decimal, spaced}
use Rattle.rules.proofs.Lists.Members.{split, true_false, and_true, every_in, in_here, in_there, in_append, in_append_left, in_append_right, in_keep, keep_in, out_append}
use Rattle.rules.proofs.Records.{groups_of_lem}
use Rattle.rules.proofs.Tree.Held.{node}
use Rattle.checks.specs.Passed.{Passed}
use Rattle.checks.proofs.Laws.Refusing.{refusal_3}
use Rattle.aiger_form.specs.Text.{line_feed, space, parts, ended, numbers_of, numbers, placed, numbers_line, unlines}
use Rattle.aiger_form.specs.Aag.{Header, header, header_right, header_from, after_magic, header_of, body_size, most_variables, Item, Spot, all_spots, is_cut, items, defines, defined, first_bad, file, resets, judge, judged, body_of, lines_of, file_of, driven, gates_of, record_of, records_of, latch_of, latches_of, Netlist, netlist, netlist_read, any_height, checked, handed_out, admit, answered, read_aag, Ends?, no_ends, ends, ends_of, is_leaf_pin, different, inputs_of, input_row, latch_rows, output_row, gate_rows, header_line, file_lines, no_aag, aag, writable, write_ends, write_aag}
use Rattle.aiger_form.proofs.Accepted.{passes}
use Rattle.aiger_form.proofs.Texts.{Single, none, more, parts_lines, ended_lines, words_spaced, numbers_read, out_spaced, out_line}
use Rattle.aiger_form.proofs.Differ.{Differ, append_differ, keep_differ, up_to_differ, in_up_to, out_in, few}
use Rattle.aiger_form.proofs.Flat.{read_numbers, data_numbers, out_numbers, ends_are, graph_numbers}
use Rattle.aiger_form.proofs.Sections.{placed_length, all_items, input_items, latch_items, output_items, gate_items, input_lines, latch_lines, output_lines, gate_lines, GatesFit}
use Rattle.aiger_form.proofs.Fine.{GatesRight, AllFine, both_fine, clean, no_resets, driven_in, driven_zero, inputs_fine, latches_fine, outputs_fine, gates_fine, inside, gather_append, gate_pins, inputs_define, latches_define, outputs_define, gates_define, inputs_record, latches_record, outputs_record, gates_record, inputs_latch, latches_latch, outputs_latch, gates_latch, gate_at, at_gate, gates_differ, gates_count}

-- ---- the header

header_read : (h : Header) → header_right h ≡ true → header_of (header_line h.variables h.inputs h.latches h.outputs h.gates) ≡ header h
unfolding header_of header_line
header_read h e =
    let ns = h.variables ∷ h.inputs ∷ h.latches ∷ h.outputs ∷ h.gates ∷ [] in
    rw (words_spaced (text "aag") ns magic_words) (magic ∙ (rw (numbers_read ns) five))
  where
    magic_words : Out space (text "aag")
    magic_words = unfold text mem in refl

    magic : after_magic (text "aag" ∷ map decimal (h.variables ∷ h.inputs ∷ h.latches ∷ h.outputs ∷ h.gates ∷ [])) ≡ header_from (numbers_of (map decimal (h.variables ∷ h.inputs ∷ h.latches ∷ h.outputs ∷ h.gates ∷ [])))
    magic = unfold after_magic same_list text in refl

    five : header_from (numbers (h.variables ∷ h.inputs ∷ h.latches ∷ h.outputs ∷ h.gates ∷ [])) ≡ header h
    five = unfold header_from in (rw (e, header_from))

header_out : (m i l o a : ℕ) → Out line_feed (header_line m i l o a)
unfolding header_line
header_out m i l o a = out_append line_feed (text "aag") (spaced (m ∷ i ∷ l ∷ o ∷ a ∷ [])) magic (out_spaced (m ∷ i ∷ l ∷ o ∷ a ∷ []))
  where
    magic : Out line_feed (text "aag")
    magic = unfold text mem in refl

-- ---- no line has a line feed

rows_single : (rows : List (List ℕ)) {ls : List (List ℕ)} → Single ls → Single (map numbers_line rows ++ ls)
rows_single [] s = s
rows_single (r ∷ rows) s = more (out_line r) (rows_single rows s)

all_single : (rows : List (List ℕ)) → Single (map numbers_line rows)
all_single [] = none
all_single (r ∷ rows) = more (out_line r) (all_single rows)

rows_length : (ps ds : List ℕ) → length ds ≡ length ps → length (latch_rows ps ds) ≡ length ps
unfolding latch_rows
rows_length [] ds e = refl
rows_length (p ∷ ps) [] e = absurd (omega arith)
rows_length (p ∷ ps) (d ∷ ds) e = ap suc (rows_length ps ds (omega arith))

-- ---- leaves

leaf_pin_lem : (g : List Node) (p : ℕ) → is_leaf_pin g p ≡ true → (0 < p) × (p < length g) × (get_or g p leaf ≡ leaf)
unfolding is_leaf_pin
leaf_pin_lem g p e = node (get_or g p leaf)
    (λ d. let w = and_true (ltb 0 p) (ltb p (length g)) (rw (d, is_leaf_pin) at e) in (ltb-true 0 p w.0, ltb-true p (length g) w.1, d))
    (λ a b d. true_false e (rw (d, is_leaf_pin)))

pin_leaf : (g : List Node) (p : ℕ) → 0 < p → p < length g → get_or g p leaf ≡ leaf → is_leaf_pin g p ≡ true
unfolding is_leaf_pin
pin_leaf g p a b d = rw (d, is_leaf_pin, lt-ltb 0 p a, lt-ltb p (length g) b)

-- ---- a job that can be written

record Writable (n : Netlist) (ds os : List ℕ) : Type 0 where
  even : length n.gates % 2 ≡ 0
  some : 1 ≤ length (graph_of n.gates)
  most : length (graph_of n.gates) ≤ 65536
  right : GatesRight (graph_of n.gates)
  free : checked true n ≡ 0
  flat : n.records ≡ gather data_numbers ds ++ gather out_numbers os
  data_in : (d : ℕ) → In d ds → pin_of d < length (graph_of n.gates)
  outs_in : (l : ℕ) → In l os → pin_of l < length (graph_of n.gates)
  as_many : length ds ≡ length n.latches
  leaves : (p : ℕ) → In p n.latches → (0 < p) × (p < length (graph_of n.gates)) × (get_or (graph_of n.gates) p leaf ≡ leaf)
  differ : Differ n.latches

-- pin 0 is no gate
zero_right : (n : ℕ) (g : List Node) (a b : ℕ) → nodes_right n 0 g ≡ true → get_or g 0 leaf ≡ gate a b → ⊥
unfolding nodes_right
zero_right n [] a b r e = absurd (let z : ◌≡◌ {A = ℕ} 0 1 = cc in omega arith)
zero_right n (leaf ∷ g) a b r e = absurd (let z : ◌≡◌ {A = ℕ} 0 1 = cc in omega arith)
zero_right n (gate c d ∷ g) a b r e = true_false r refl

-- check 3 lets it pass
pub graph_right_lem : (n : Netlist) → checked true n ≡ 0 → graph_right n.gates ≡ true
unfolding checked
graph_right_lem n e = split (graph_right n.gates) (λ t. t) (λ t. absurd (omega (arith, refusal_3 any_height true n.gates [] n.records tall refl t)))
  where
    tall : is_height any_height ≡ true
    tall = unfold is_height in refl

gates_right : (n : Netlist) → checked true n ≡ 0 → Valid (graph_of n.gates) → GatesRight (graph_of n.gates)
unfolding graph_right
gates_right n e ok =
    let pins = pin_count n.gates in
    let g = graph_of n.gates in
    let r : nodes_right pins 0 g ≡ true = (and_true (eqb (length n.gates % 2) 0 && leb 1 pins && leb pins 65536) (nodes_right pins 0 g) (graph_right_lem n e)).1 in
    record { above = above pins g r; pins = ok.inside }
  where
    above : (k : ℕ) (g : List Node) → nodes_right k 0 g ≡ true → (p a b : ℕ) → get_or g p leaf ≡ gate a b → 0 < p
    above k g r zero a b d = absurd (zero_right k g a b r d)
    above k g r (suc p) a b d = omega arith

writable_is : (n : Netlist) (gs : List Group) (ds os : List ℕ) → read n.records ≡ groups gs → ends_of gs ≡ ends ds os → writable n ds ≡ true → Writable n ds os
unfolding writable
writable_is n gs ds os r e w =
    let g = graph_of n.gates in
    let w3 = and_true (eqb (checked true n) 0 && eqb (length ds) (length n.latches) && every (is_leaf_pin g) n.latches) (different n.latches) w in
    let w2 = and_true (eqb (checked true n) 0 && eqb (length ds) (length n.latches)) (every (is_leaf_pin g) n.latches) w3.0 in
    let w1 = and_true (eqb (checked true n) 0) (eqb (length ds) (length n.latches)) w2.0 in
    let f : checked true n ≡ 0 = eqb-true (checked true n) 0 w1.0 in
    let P : Passed any_height true n.gates [] n.records = passes n f in
    let E = ends_are gs e in
    let named : (q : ℕ) → Ends q gs → q < length g = λ q i. omega (arith, P.pins, P.named q (rw (groups_of_lem n.records r) i)) in
    record {
      even = omega (arith, P.even);
      some = omega (arith, P.some, P.pins);
      most = omega (arith, P.few, P.pins);
      right = gates_right n f P.valid;
      free = f;
      flat = sym (read_numbers n.records gs r) ∙ E.flat;
      data_in = E.inside (length g) named;
      outs_in = E.outside (length g) named;
      as_many = eqb-true (length ds) (length n.latches) w1.1;
      leaves = λ p i. leaf_pin_lem g p (every_in (is_leaf_pin g) p n.latches w2.1 i);
      differ = w3.1;
    }

module _ (n : Netlist) (ds os : List ℕ) (W : Writable n ds os) where
  g : List Node
  g = graph_of n.gates

  m : ℕ
  m = length g - 1

  ins : List ℕ
  ins = inputs_of g n.latches

  suc_m : suc m ≡ length g
  unfolding m g
  suc_m = omega (arith, W.some)

  lines : List Item
  lines = input_items ins ++ (latch_items n.latches ds ++ (output_items os ++ gate_items 0 g))

  -- ---- leaves and gates

  free : ℕ → Bool
  free p = is_leaf_pin g p && not (mem p n.latches)

  input_leaf : (p : ℕ) → In p ins → (0 < p) × (p < length g) × (get_or g p leaf ≡ leaf) × Out p n.latches
  unfolding ins inputs_of free
  input_leaf p i =
      let k = keep_in free p (up_to (length g) 0) i in
      let w = and_true (is_leaf_pin g p) (not (mem p n.latches)) k.1 in
      let l = leaf_pin_lem g p w.0 in
      (l.0, l.1, l.2, not-true (mem p n.latches) w.1)

  leaf_input : (p : ℕ) → 0 < p → p < length g → get_or g p leaf ≡ leaf → Out p n.latches → In p ins
  unfolding ins inputs_of free
  leaf_input p a b e o = in_keep free p (up_to (length g) 0) (in_up_to (length g) 0 p (omega arith) (omega arith)) (rw (pin_leaf g p a b e, o))

  gate_node_lem : (q : ℕ) → In q (gate_pins 0 g) → (a : ℕ) × (b : ℕ) × (get_or g q leaf ≡ gate a b)
  gate_node_lem q i = let G = gate_at 0 q g i in let e : q ≡ G.k = omega (arith, G.place) in (G.a, G.b, ap (λ (k : ℕ). get_or g k leaf) e ∙ G.is)

  no_gate : (q : ℕ) → get_or g q leaf ≡ leaf → Out q (gate_pins 0 g)
  no_gate q e = out_in q (gate_pins 0 g) (λ i. let G = gate_node_lem q i in let d = G.2 in let z : ◌≡◌ {A = ℕ} 0 1 = cc in omega arith)

  -- ---- what the lines define

  pins : List ℕ
  pins = ins ++ (n.latches ++ gate_pins 0 g)

  lines_define : defined lines ≡ pins
  unfolding defined lines pins
  lines_define =
      gather_append defines (input_items ins) _ ∙ rw (inputs_define ins) (ap (λ (r : List ℕ). ins ++ r) (
      gather_append defines (latch_items n.latches ds) _ ∙ rw (latches_define n.latches ds W.as_many) (ap (λ (r : List ℕ). n.latches ++ r) (
      gather_append defines (output_items os) _ ∙ rw (outputs_define os) (gates_define 0 g)))))

  pins_differ : Differ pins
  unfolding pins ins inputs_of g
  pins_differ = append_differ ins (n.latches ++ gate_pins 0 g) (keep_differ _ (up_to (length g) 0) (up_to_differ (length g) 0))
      (append_differ n.latches (gate_pins 0 g) W.differ (gates_differ 0 g) (λ x i. no_gate x (W.leaves x i).2))
      (λ x i. let k = input_leaf x i in out_append x n.latches (gate_pins 0 g) k.3 (no_gate x k.2))

  pin_in : (q : ℕ) → 0 < q → q < length g → In q pins
  unfolding pins
  pin_in q a b = node (get_or g q leaf)
      (λ e. split (mem q n.latches)
      (λ t. in_append_right q ins (n.latches ++ gate_pins 0 g) (in_append_left q n.latches (gate_pins 0 g) t))
      (λ t. in_append_left q ins (n.latches ++ gate_pins 0 g) (leaf_input q a b e t)))
      (λ c d e. in_append_right q ins (n.latches ++ gate_pins 0 g) (in_append_right q n.latches (gate_pins 0 g) (let z : 0 + q ≡ q = omega arith in rw z at (at_gate 0 q c d g e))))

  known : (q : ℕ) → q < length g → In q (0 ∷ pins)
  known zero b = in_here 0 pins
  known (suc q) b = in_there (suc q) 0 pins (pin_in (suc q) (omega arith) b)

  pins_small : (x : ℕ) → In x pins → (0 < x) × (x ≤ m)
  unfolding pins g
  pins_small x i = let s = suc_m in elim (in_append x ins (n.latches ++ gate_pins 0 g) i) [
    | inl j ↦ let k = input_leaf x j in (k.0, omega (arith, k.1))
    | inr j ↦ elim (in_append x n.latches (gate_pins 0 g) j) [
      | inl k ↦ let w = W.leaves x k in (w.0, omega (arith, w.1))
      | inr k ↦ let G = gate_node_lem x k in (W.right.above x G.0 G.1 G.2, omega (arith, inside g x G.0 G.1 G.2))
    ]
  ]

  -- ---- the lines are fine

  lines_fine : AllFine g lines
  unfolding lines g
  lines_fine =
      both_fine g (input_items ins) _ (inputs_fine g ins (λ p i. let k = input_leaf p i in (k.0, k.2)))
      (both_fine g (latch_items n.latches ds) _ (latches_fine g n.latches ds (λ p i. let w = W.leaves p i in (w.0, w.2)) W.data_in)
      (both_fine g (output_items os) _ (outputs_fine g os W.outs_in)
      (gates_fine g W.right 0 g (λ k a b e. let z : 0 + k ≡ k = omega arith in rw z e))))

  -- ---- what they become

  zero_leaf : get_or g 0 leaf ≡ leaf
  unfolding g
  zero_leaf = node (get_or g 0 leaf) (λ e. e) (λ a b e. absurd (omega (arith, W.right.above 0 a b e)))

  same_driven : (p : ℕ) → p < length g → driven lines p ≡ get_or g p leaf
  same_driven zero b = driven_zero g lines lines_fine ∙ sym zero_leaf
  same_driven (suc p) b = driven_in g lines lines_fine (suc p) (rw lines_define (pin_in (suc p) (omega arith) b))

  same_gates : gates_of m lines ≡ n.gates
  unfolding gates_of g
  same_gates = rw suc_m (graph_numbers n.gates W.even (driven lines) same_driven)

  same_records : records_of lines ≡ n.records
  unfolding records_of lines
  same_records =
      (gather_append record_of (input_items ins) _ ∙ rw (inputs_record ins) (
      gather_append record_of (latch_items n.latches ds) _ ∙ rw (latches_record n.latches ds W.as_many) (ap (λ (r : List ℕ). gather data_numbers ds ++ r) (
      gather_append record_of (output_items os) _ ∙ rw (outputs_record os, gates_record 0 g) (append-nil (gather out_numbers os))))))
      ∙ sym W.flat

  same_latches : latches_of lines ≡ n.latches
  unfolding latches_of lines
  same_latches =
      gather_append latch_of (input_items ins) _ ∙ rw (inputs_latch ins) (
      gather_append latch_of (latch_items n.latches ds) _ ∙ rw (latches_latch n.latches ds W.as_many) (
      ap (λ (r : List ℕ). n.latches ++ r) (gather_append latch_of (output_items os) _ ∙ rw (outputs_latch os) (gates_latch 0 g)) ∙ append-nil n.latches))

  same_netlist : netlist m lines ≡ n
  unfolding netlist
  same_netlist = rw (same_gates, same_records, same_latches) refl

  -- ---- how they are read

  head : Header
  head = record { variables = m; inputs = length ins; latches = length n.latches; outputs = length os; gates = length (gate_rows 0 g) }

  head_right : header_right head ≡ true
  unfolding header_right head
  head_right =
      let f = few m pins pins_differ pins_small in
      let l : length pins ≡ length ins + (length n.latches + length (gate_pins 0 g)) = unfold pins in (length-append ins (n.latches ++ gate_pins 0 g) ∙ ap (λ (k : ℕ). length ins + k) (length-append n.latches (gate_pins 0 g))) in
      let c = gates_count 0 g in
      rw (le-leb (length ins + length n.latches + length (gate_rows 0 g)) m (omega arith), le-leb m most_variables small)
    where
      small : m ≤ most_variables
      small = unfold m g in (omega (arith, W.most))

  body_a : List (List ℕ)
  body_a = map numbers_line (map input_row ins)

  body_b : List (List ℕ)
  body_b = map numbers_line (latch_rows n.latches ds)

  body_c : List (List ℕ)
  body_c = map numbers_line (map output_row os)

  body_d : List (List ℕ)
  body_d = map numbers_line (gate_rows 0 g)

  body : List (List ℕ)
  body = body_a ++ (body_b ++ (body_c ++ body_d))

  length_a : length body_a ≡ length ins
  unfolding body_a
  length_a = length-map (map input_row ins) numbers_line ∙ length-map ins input_row

  length_b : length body_b ≡ length n.latches
  unfolding body_b
  length_b = length-map (latch_rows n.latches ds) numbers_line ∙ rows_length n.latches ds W.as_many

  length_c : length body_c ≡ length os
  unfolding body_c
  length_c = length-map (map output_row os) numbers_line ∙ length-map os output_row

  length_d : length body_d ≡ length (gate_rows 0 g)
  unfolding body_d
  length_d = length-map (gate_rows 0 g) numbers_line

  body_length : length body ≡ body_size head
  unfolding body body_size head
  body_length =
      let a = length-append body_a (body_b ++ (body_c ++ body_d)) in
      let b = length-append body_b (body_c ++ body_d) in
      let c = length-append body_c body_d in
      omega (arith, length_a, length_b, length_c, length_d)

  body_single : Single body
  unfolding body body_a body_b body_c body_d
  body_single = rows_single (map input_row ins) (rows_single (latch_rows n.latches ds) (rows_single (map output_row os) (all_single (gate_rows 0 g))))

  gates_fit : GatesFit m 0 g
  unfolding g
  gates_fit = record {
    at = λ k a b e.
        let w = W.right.pins k a b e in
        let i = inside g k a b e in
        let s = suc_m in
        (omega (arith, W.right.above k a b e), omega arith, omega (arith, w.0), omega (arith, w.1));
  }

  items_are : (at : ℕ) → items (all_spots head (placed at body)) ≡ lines
  unfolding body body_a body_b body_c body_d lines head g
  items_are at =
      let s = suc_m in
      all_items head at body_a body_b body_c body_d length_a length_b length_c length_d
      ∙ rw (
        input_lines m ins (λ p i. let k = input_leaf p i in (k.0, omega (arith, k.1))),
        latch_lines m n.latches ds (λ p i. let k = W.leaves p i in (k.0, omega (arith, k.1))) (λ d i. omega (arith, W.data_in d i)),
        output_lines m os (λ l i. omega (arith, W.outs_in l i)),
        gate_lines m 0 g gates_fit,
      ) refl

  not_cut : (bytes : List ℕ) (at : ℕ) → ended bytes ≡ true → is_cut head bytes (placed at body) ≡ false
  unfolding is_cut
  not_cut bytes at e = let l = placed_length at body ∙ body_length in rw (le-ltb (length (placed at body)) (body_size head) (omega arith), e)

  judged_is : (ss : List Spot) → items ss ≡ lines → judged m ss ≡ file m lines
  unfolding judged judge resets
  judged_is ss e =
      let F : AllFine g (items ss) = rw e lines_fine in
      let d : defined (items ss) ≡ pins = rw e lines_define in
      let c : first_bad (0 ∷ defined (items ss)) [] ss ≡ nothing = clean g (0 ∷ defined (items ss)) [] ss F (λ q b. rw d (known q b)) (rw d pins_differ) (λ q i. unfold mem in refl) in
      rw (c, no_resets g ss F, e) refl

  bytes : List ℕ
  bytes = unlines (file_lines g n.latches ds os)

  file_is : file_of bytes ≡ file m lines
  unfolding bytes file_of file_lines lines_of placed body_of head m ins body_a body_b body_c body_d body
  file_is =
      let hl = header_line m (length ins) (length n.latches) (length os) (length (gate_rows 0 g)) in
      let P : parts line_feed (unlines (hl ∷ body)) ≡ hl ∷ body = parts_lines (more (header_out m (length ins) (length n.latches) (length os) (length (gate_rows 0 g))) body_single) in
      let E : ended (unlines (hl ∷ body)) ≡ true = ended_lines (hl ∷ body) in
      rw (P, header_read head head_right, not_cut (unlines (hl ∷ body)) (0 + suc (length hl)) E, body_of) (judged_is (all_spots head (placed (0 + suc (length hl)) body)) (items_are (0 + suc (length hl))))

  admitted : (sized : Netlist → Bool) → sized n ≡ true → admit sized n ≡ netlist_read n
  unfolding admit handed_out
  admitted sized e = rw (e, W.free) refl

  read_back : (sized : Netlist → Bool) → sized n ≡ true → read_aag sized bytes ≡ netlist_read n
  unfolding read_aag answered
  read_back sized e = ap (answered sized) file_is ∙ ap (admit sized) same_netlist ∙ admitted sized e

written : (n : Netlist) (bs : List ℕ) (sized : Netlist → Bool) → sized n ≡ true → (gs : List Group) (ds os : List ℕ) → read n.records ≡ groups gs → ends_of gs ≡ ends ds os → write_ends n (ends ds os) ≡ aag bs → read_aag sized bs ≡ netlist_read n
unfolding write_ends bytes g
written n bs sized s gs ds os a b c = split (writable n ds)
    (λ t.
    let W = writable_is n gs ds os a b t in
    let q : aag (bytes n ds os W) ≡ aag bs = rw (t, write_ends) at c in
    let z : bytes n ds os W ≡ bs = cc in
    rw (← z) (read_back n ds os W sized s))
    (λ t. absurd (let q : no_aag ≡ aag bs = rw (t, write_ends) at c in let z : ◌≡◌ {A = ℕ} 0 1 = cc in omega arith))

-- A job that is written is read back: the same graph, records and latch leaves, wherever the areas hold them.
pub round_trip : (given : List ℕ) (n : Netlist) (bytes : List ℕ) → write_aag given n ≡ aag bytes → (sized : Netlist → Bool) → sized n ≡ true → read_aag sized bytes ≡ netlist_read n
unfolding write_aag
round_trip [] n bs e sized s = at (read n.records) refl e
  where
    last : (gs : List Group) (r : Ends?) → read n.records ≡ groups gs → ends_of gs ≡ r → write_ends n r ≡ aag bs → read_aag sized bs ≡ netlist_read n
    last gs no_ends a b c = absurd (unfold write_ends in (let z : ◌≡◌ {A = ℕ} 0 1 = cc in omega arith))
    last gs (ends ds os) a b c = written n bs sized s gs ds os a b c

    at : (r : Groups?) → read n.records ≡ r → (elim r [ unreadable ↦ no_aag | groups gs ↦ write_ends n (ends_of gs) ]) ≡ aag bs → read_aag sized bs ≡ netlist_read n
    at unreadable a c = absurd (let z : ◌≡◌ {A = ℕ} 0 1 = cc in omega arith)
    at (groups gs) a c = last gs (ends_of gs) a refl c
round_trip (p ∷ ps) n bs e sized s = absurd (let z : ◌≡◌ {A = ℕ} 0 1 = cc in omega arith)
