-- The file's text, line by line from the lent numbers, is the file of the job. Assumes nothing.
use Prim.Native.Nat.{ℕ, suc, ◌+◌, ◌-◌, ◌*◌, ◌<◌}
use mathlib.Core.Path.{◌≡◌, refl, sym, ap, ◌∙◌}
use mathlib.Core.Bool.{Bool, true, false, not, ◌&&◌}
use mathlib.Core.List.{List, [], ◌∷◌, ◌++◌, map, append_assoc}
use native.Mathlib.Omega.{arith}
use lib.Dec.{eqb}
use lib.ListN.{length, get_or, replicate, length-replicate, get_or-replicate}
use borrow.Author.Tests.{eq-eqb}
use Rattle.rules.specs.Lists.{mem, keep, count, gather, up_to}
use Rattle.rules.specs.Graph.{Node, leaf, gate, literal_of, graph_of, pin_count}
use Rattle.rules.specs.Listing.{text}
use Rattle.rules.proofs.Bools.{and_right}
use Rattle.rules.proofs.Lists.Members.{split}
use Rattle.rules.proofs.Needed.Lacks.{keep_ext}
use Rattle.graph.proofs.Gates.{graph_length}
use Rattle.aiger_form.specs.Text.{numbers_line, unlines}
use Rattle.aiger_form.specs.Aag.{is_leaf_pin, inputs_of, input_row, latch_rows, output_row, gate_rows, header_line, file_lines}
use Rattle.aiger_form.proofs.Differ.{up_to_in}
use Rattle.aiger_write.specs.Jobs.{marked}
use Rattle.aiger_write.specs.Lines.{is_input, gate_node, is_gate, row_text, input_text, latch_text, output_text, node_text, gate_text, head_text, output_count, file_text}
use Rattle.aiger_write.proofs.Laws.Shape.{flat, flat_length, flat_data, flat_out}
use Rattle.aiger_write.proofs.Laws.Marks.{unmarked_at}

-- ---- rows

rows_text : List (List ℕ) → List ℕ
rows_text rs = unlines (map numbers_line rs)

unlines_append : (xs ys : List (List ℕ)) → unlines (xs ++ ys) ≡ unlines xs ++ unlines ys
unfolding unlines
unlines_append [] ys = refl
unlines_append (x ∷ xs) ys = rw (unlines_append xs ys) (sym (append_assoc x (10 ∷ unlines xs) (unlines ys)))

row_first : (r : List ℕ) (rs : List (List ℕ)) → row_text r ++ rows_text rs ≡ rows_text (r ∷ rs)
unfolding rows_text unlines row_text text
row_first r rs = append_assoc (numbers_line r) (10 ∷ []) (rows_text rs)

-- ---- inputs

input_rows : (gates marks xs : List ℕ) → gather (input_text gates marks) xs ≡ rows_text (map input_row (keep (is_input gates marks) xs))
unfolding gather keep input_text input_row
input_rows gates marks [] = unfold rows_text unlines in refl
input_rows gates marks (x ∷ xs) = split (is_input gates marks x)
    (λ t. rw (t, input_text, keep, input_rows gates marks xs) (row_first (input_row x) (map input_row (keep (is_input gates marks) xs))))
    (λ f. rw (f, input_text, keep) (input_rows gates marks xs))

keep_count : (f : ℕ → Bool) (xs : List ℕ) → count f xs ≡ length (keep f xs)
unfolding keep count
keep_count f [] = refl
keep_count f (x ∷ xs) = split (f x) (λ e. rw (e, keep, count, keep_count f xs)) (λ e. rw (e, keep, count, keep_count f xs))

-- ---- latches and outputs

latch_rows_lem : (ps ds : List ℕ) (f : ℕ → List ℕ) (i : ℕ) → length ds ≡ length ps → ((k : ℕ) → k < length ps → f (i + k) ≡ row_text (literal_of (get_or ps k 0) 0 ∷ get_or ds k 0 ∷ [])) → gather f (up_to (length ps) i) ≡ rows_text (latch_rows ps ds)
unfolding gather up_to latch_rows
latch_rows_lem [] ds f i e h = unfold rows_text unlines in refl
latch_rows_lem (p ∷ ps) [] f i e h = absurd (omega arith)
latch_rows_lem (p ∷ ps) (d ∷ ds) f i e h =
    let z : f i ≡ row_text (literal_of p 0 ∷ d ∷ []) = ap f (omega arith) ∙ h 0 (omega arith) in
    rw (z, latch_rows_lem ps ds f (suc i) (omega arith) (λ k b. ap f (omega arith) ∙ h (suc k) (omega arith))) (row_first (literal_of p 0 ∷ d ∷ []) (latch_rows ps ds))

output_rows : (os : List ℕ) (f : ℕ → List ℕ) (i : ℕ) → ((k : ℕ) → k < length os → f (i + k) ≡ row_text (get_or os k 0 ∷ [])) → gather f (up_to (length os) i) ≡ rows_text (map output_row os)
unfolding gather up_to output_row
output_rows [] f i h = unfold rows_text unlines in refl
output_rows (l ∷ os) f i h =
    let z : f i ≡ row_text (l ∷ []) = ap f (omega arith) ∙ h 0 (omega arith) in
    rw (z, output_rows os f (suc i) (λ k b. ap f (omega arith) ∙ h (suc k) (omega arith))) (row_first (l ∷ []) (map output_row os))

-- ---- gates

next : (x : Node) (g : List Node) (f : ℕ → List ℕ) (i : ℕ) → ((k : ℕ) → k < length (x ∷ g) → f (i + k) ≡ node_text (i + k) (get_or (x ∷ g) k leaf)) → (k : ℕ) → k < length g → f (suc i + k) ≡ node_text (suc i + k) (get_or g k leaf)
next x g f i h k b = let z : i + suc k ≡ suc i + k = omega arith in rw z at (h (suc k) (omega arith))

gate_rows_lem : (g : List Node) (f : ℕ → List ℕ) (i : ℕ) → ((k : ℕ) → k < length g → f (i + k) ≡ node_text (i + k) (get_or g k leaf)) → gather f (up_to (length g) i) ≡ rows_text (gate_rows i g)
unfolding gather up_to gate_rows node_text
gate_rows_lem [] f i h = unfold rows_text unlines in refl
gate_rows_lem (leaf ∷ g) f i h =
    let z : f i ≡ [] = ap f (omega arith) ∙ h 0 (omega arith) in
    rw (z, gate_rows_lem g f (suc i) (next leaf g f i h)) refl
gate_rows_lem (gate a b ∷ g) f i h =
    let z : f i ≡ node_text i (gate a b) = ap f (omega arith) ∙ h 0 (omega arith) ∙ ap (λ (p : ℕ). node_text p (gate a b)) (omega arith) in
    rw (z, gate_rows_lem g f (suc i) (next (gate a b) g f i h)) (row_first (literal_of i 0 ∷ a ∷ b ∷ []) (gate_rows (suc i) g))

gate_count : (g : List Node) (f : ℕ → Bool) (i : ℕ) → ((k : ℕ) → k < length g → f (i + k) ≡ gate_node (get_or g k leaf)) → count f (up_to (length g) i) ≡ length (gate_rows i g)
unfolding count up_to gate_rows gate_node
gate_count [] f i h = refl
gate_count (leaf ∷ g) f i h =
    let z : f i ≡ false = ap f (omega arith) ∙ h 0 (omega arith) in
    rw (z, count) (gate_count g f (suc i) (λ k b. ap f (omega arith) ∙ h (suc k) (omega arith)))
gate_count (gate a b ∷ g) f i h =
    let z : f i ≡ true = ap f (omega arith) ∙ h 0 (omega arith) in
    rw (z, count) (ap suc (gate_count g f (suc i) (λ k b. ap f (omega arith) ∙ h (suc k) (omega arith))))

-- ---- the file

join : (h a b c d : List ℕ) → h ++ text "\n" ++ a ++ b ++ c ++ d ≡ h ++ (10 ∷ (a ++ (b ++ (c ++ d))))
unfolding text
join h a b c d = simp append_assoc

-- the marks of the latches' pins, among n places that had none
pub marks_say : (latches m m' : List ℕ) (n : ℕ) → m ≡ replicate n 0 → m' ≡ marked latches m → (p : ℕ) → p < n → eqb (get_or m' p 0) 0 ≡ not (mem p latches)
marks_say latches m m' n zeros e p h =
    let l : length (replicate {A = ℕ} n 0) ≡ n = length-replicate {A = ℕ} n 0 in
    let z : get_or m p 0 ≡ 0 = ap (λ (w : List ℕ). get_or w p 0) zeros ∙ get_or-replicate n p 0 0 h in
    ap (λ (w : List ℕ). eqb (get_or w p 0) 0) e ∙ unmarked_at latches m p (omega (arith, ap length zeros)) ∙ rw (eq-eqb (get_or m p 0) 0 z) (and_right (not (mem p latches)))

module _ (gates latches marks ds os : List ℕ) (say : (p : ℕ) → p < pin_count gates → eqb (get_or marks p 0) 0 ≡ not (mem p latches)) (many : length ds ≡ length latches) where
  abbrev g : List Node
  g = graph_of gates

  input_is : (p : ℕ) → p < pin_count gates → is_input gates marks p ≡ is_leaf_pin g p && not (mem p latches)
  unfolding is_input
  input_is p h = ap (λ (b : Bool). is_leaf_pin g p && b) (say p h)

  inputs_are : keep (is_input gates marks) (up_to (pin_count gates) 0) ≡ inputs_of g latches
  unfolding inputs_of
  inputs_are =
      keep_ext (is_input gates marks) (λ p. is_leaf_pin g p && not (mem p latches)) (up_to (pin_count gates) 0) (λ p i. input_is p (omega (arith, (up_to_in (pin_count gates) 0 p i).1)))
      ∙ ap (λ (n : ℕ). keep (λ p. is_leaf_pin g p && not (mem p latches)) (up_to n 0)) (sym (graph_length gates))

  inputs_text : gather (input_text gates marks) (up_to (pin_count gates) 0) ≡ rows_text (map input_row (inputs_of g latches))
  inputs_text = input_rows gates marks (up_to (pin_count gates) 0) ∙ ap (λ (ps : List ℕ). rows_text (map input_row ps)) inputs_are

  inputs_many : count (is_input gates marks) (up_to (pin_count gates) 0) ≡ length (inputs_of g latches)
  inputs_many = keep_count (is_input gates marks) (up_to (pin_count gates) 0) ∙ ap length inputs_are

  latches_text : gather (latch_text latches (flat ds os)) (up_to (length latches) 0) ≡ rows_text (latch_rows latches ds)
  unfolding latch_text
  latches_text = latch_rows_lem latches ds (latch_text latches (flat ds os)) 0 many (λ k b. let z : 0 + k ≡ k = omega arith in rw (z, flat_data ds os k (omega arith)) refl)

  outs_many : output_count (flat ds os) (length latches) ≡ length os
  unfolding output_count
  outs_many = omega (arith, flat_length ds os)

  outs_text : gather (output_text (flat ds os) (3 * length latches)) (up_to (length os) 0) ≡ rows_text (map output_row os)
  unfolding output_text
  outs_text = output_rows os (output_text (flat ds os) (3 * length latches)) 0 (λ k b. let z : 0 + k ≡ k = omega arith in rw (z, ← many, flat_out ds os k b) refl)

  gates_text : gather (gate_text gates) (up_to (length g) 0) ≡ rows_text (gate_rows 0 g)
  unfolding gate_text
  gates_text = gate_rows_lem g (gate_text gates) 0 (λ k b. let z : 0 + k ≡ k = omega arith in rw z refl)

  gates_many : count (is_gate gates) (up_to (length g) 0) ≡ length (gate_rows 0 g)
  unfolding is_gate
  gates_many = gate_count g (is_gate gates) 0 (λ k b. let z : 0 + k ≡ k = omega arith in rw z refl)

  -- the text is the file of these data literals and outputs
  pub file_is : file_text gates (flat ds os) latches marks ≡ unlines (file_lines g latches ds os)
  unfolding file_text file_lines head_text rows_text
  file_is =
      rw (inputs_many, inputs_text, latches_text, outs_many, outs_text, ← graph_length gates, gates_text, gates_many) (
      join (header_line (length g - 1) (length (inputs_of g latches)) (length latches) (length os) (length (gate_rows 0 g))) (rows_text (map input_row (inputs_of g latches))) (rows_text (latch_rows latches ds)) (rows_text (map output_row os)) (rows_text (gate_rows 0 g))
      ∙ sym (unfold unlines in rw (unlines_append, unlines_append, unlines_append) refl))
