-- The sections of a written file, line by line, are read as the lines that were written. Assumes nothing.
use Prim.Native.Nat.{ℕ, suc, ◌+◌, ◌*◌, ◌%◌, ◌≤◌, ◌<◌}
use mathlib.Core.Path.{◌≡◌, refl, ap, ◌∙◌}
use mathlib.Core.Bool.{true}
use mathlib.Core.List.{List, [], ◌∷◌, ◌++◌, map, append-nil}
use native.Mathlib.Omega.{arith}
use lib.ListN.{length, get_or, take, drop, drop_of_length-le}
use lib.Seq.{take_at, drop_at, take_all}
use borrow.Author.Tests.{le-leb, lt-ltb, eq-eqb}
use Rattle.rules.specs.Lists.{In}
use Rattle.rules.specs.Graph.{Node, leaf, gate, pin_of, inversion_of, literal_of}
use Rattle.rules.proofs.Lists.Members.{in_here, in_there}
use Rattle.aiger_form.specs.Text.{Line, placed, numbers_line}
use Rattle.aiger_form.specs.Aag.{Header, Item, input_line, latch_line, output_line, gate_line, or_bad, is_literal, is_variable, input_item, reset_right, latch_item, output_item, gate_item, numbers_item, line_item, symbol_lines, Spot, spots, gate_spots, output_spots, latch_spots, all_spots, items, input_row, latch_rows, output_row, gate_rows}
use Rattle.aiger_form.proofs.Texts.{line_numbers}

past : ℕ → List (List ℕ) → ℕ
past at [] = at
past at (l ∷ ls) = past (at + suc (length l)) ls

placed_append : (at : ℕ) (xs ys : List (List ℕ)) → placed at (xs ++ ys) ≡ placed at xs ++ placed (past at xs) ys
unfolding placed past
placed_append at [] ys = refl
placed_append at (x ∷ xs) ys = ap (λ (r : List Line). record { at = at; text = x } ∷ r) (placed_append (at + suc (length x)) xs ys)

-- a place for each line
pub placed_length : (at : ℕ) (xs : List (List ℕ)) → length (placed at xs) ≡ length xs
unfolding placed
placed_length at [] = refl
placed_length at (x ∷ xs) = ap suc (placed_length (at + suc (length x)) xs)

items_append : (ss ts : List Spot) → items (ss ++ ts) ≡ items ss ++ items ts
unfolding items
items_append [] ts = refl
items_append (s ∷ ss) ts = ap (λ (r : List Item). s.item ∷ r) (items_append ss ts)

items_spots : (f : List ℕ → Item) (at : ℕ) (ls : List (List ℕ)) → items (spots f (placed at ls)) ≡ map f ls
unfolding items spots placed
items_spots f at [] = refl
items_spots f at (l ∷ ls) = ap (λ (r : List Item). f l ∷ r) (items_spots f (at + suc (length l)) ls)

-- one section, and those behind it
head_items : (f : List ℕ → Item) (F : List Line → List Spot) (at k : ℕ) (xs ys : List (List ℕ)) → length xs ≡ k →
    items (spots f (take k (placed at (xs ++ ys))) ++ F (drop k (placed at (xs ++ ys)))) ≡ map f xs ++ items (F (placed (past at xs) ys))
head_items f F at k xs ys e =
    let l : length (placed at xs) ≡ k = placed_length at xs ∙ e in
    rw (placed_append at xs ys, take_at (placed at xs) (placed (past at xs) ys) k l, drop_at (placed at xs) (placed (past at xs) ys) k l)
    (items_append (spots f (placed at xs)) (F (placed (past at xs) ys)) ∙ ap (λ (r : List Item). r ++ items (F (placed (past at xs) ys))) (items_spots f at xs))

module _ (h : Header) where
  gate_items_lem : (at : ℕ) (xs : List (List ℕ)) → length xs ≡ h.gates → items (gate_spots h (placed at xs)) ≡ map (line_item (gate_item h.variables)) xs
  unfolding gate_spots symbol_lines spots
  gate_items_lem at xs e =
      let l : length (placed at xs) ≡ h.gates = placed_length at xs ∙ e in
      let t : take h.gates (placed at xs) ≡ placed at xs = take_all h.gates (placed at xs) (omega arith) in
      let d : drop h.gates (placed at xs) ≡ [] = drop_of_length-le (placed at xs) {i = h.gates} (omega arith) in
      rw (t, d) (rw (append-nil (spots (line_item (gate_item h.variables)) (placed at xs))) (items_spots (line_item (gate_item h.variables)) at xs))

  pub all_items : (at : ℕ) (A B C D : List (List ℕ)) → length A ≡ h.inputs → length B ≡ h.latches → length C ≡ h.outputs → length D ≡ h.gates →
      items (all_spots h (placed at (A ++ (B ++ (C ++ D))))) ≡
      map (line_item (input_item h.variables)) A ++ (map (line_item (latch_item h.variables)) B ++ (map (line_item (output_item h.variables)) C ++ map (line_item (gate_item h.variables)) D))
  unfolding all_spots latch_spots output_spots
  all_items at A B C D a b c d =
      let m = h.variables in
      head_items (line_item (input_item m)) (latch_spots h) at h.inputs A (B ++ (C ++ D)) a
      ∙ ap (λ (r : List Item). map (line_item (input_item m)) A ++ r) (
      head_items (line_item (latch_item m)) (output_spots h) (past at A) h.latches B (C ++ D) b
      ∙ ap (λ (r : List Item). map (line_item (latch_item m)) B ++ r) (
      head_items (line_item (output_item m)) (gate_spots h) (past (past at A) B) h.outputs C D c
      ∙ ap (λ (r : List Item). map (line_item (output_item m)) C ++ r) (gate_items_lem (past (past (past at A) B) C) D d)))

-- ---- the lines of each section

-- the lines of inputs
unfoldable pub input_items : List ℕ → List Item
input_items [] = []
input_items (p ∷ ps) = input_line (literal_of p 0) ∷ input_items ps

-- of latches
unfoldable pub latch_items : List ℕ → List ℕ → List Item
latch_items [] ds = []
latch_items (p ∷ ps) [] = []
latch_items (p ∷ ps) (d ∷ ds) = latch_line (literal_of p 0) d 0 ∷ latch_items ps ds

-- of outputs
unfoldable pub output_items : List ℕ → List Item
output_items [] = []
output_items (l ∷ ls) = output_line l ∷ output_items ls

-- of gates
unfoldable pub gate_items : ℕ → List Node → List Item
gate_items p [] = []
gate_items p (leaf ∷ g) = gate_items (suc p) g
gate_items p (gate a b ∷ g) = gate_line (literal_of p 0) a b ∷ gate_items (suc p) g

is_variable_lem : (m p : ℕ) → 0 < p → p ≤ m → is_variable m (literal_of p 0) ≡ true
unfolding is_variable inversion_of literal_of is_literal
is_variable_lem m p a b = rw (eq-eqb ((2 * p + 0) % 2) 0 (omega arith), lt-ltb 0 (2 * p + 0) (omega arith), le-leb (2 * p + 0) (2 * m + 1) (omega arith))

is_literal_lem : (m l : ℕ) → pin_of l ≤ m → is_literal m l ≡ true
unfolding is_literal pin_of
is_literal_lem m l h = le-leb l (2 * m + 1) (omega arith)

row_item_lem : (f : List ℕ → Item) (n : ℕ) (ns : List ℕ) → line_item f (numbers_line (n ∷ ns)) ≡ f (n ∷ ns)
unfolding line_item numbers_item
row_item_lem f n ns = rw (line_numbers n ns)

-- written lines of inputs are read so
pub input_lines : (m : ℕ) (ps : List ℕ) → ((p : ℕ) → In p ps → (0 < p) × (p ≤ m)) → map (line_item (input_item m)) (map numbers_line (map input_row ps)) ≡ input_items ps
unfolding input_items input_row
input_lines m [] h = refl
input_lines m (p ∷ ps) h =
    let w = h p (in_here p ps) in
    rw (row_item_lem (input_item m) (literal_of p 0) [], input_lines m ps (λ q i. h q (in_there q p ps i))) (ap (λ (x : Item). x ∷ input_items ps) (one w.0 w.1))
  where
    one : 0 < p → p ≤ m → input_item m (literal_of p 0 ∷ []) ≡ input_line (literal_of p 0)
    one a b = unfold input_item or_bad in (rw (is_variable_lem m p a b))

-- of latches
pub latch_lines : (m : ℕ) (ps ds : List ℕ) → ((p : ℕ) → In p ps → (0 < p) × (p ≤ m)) → ((d : ℕ) → In d ds → pin_of d ≤ m) → map (line_item (latch_item m)) (map numbers_line (latch_rows ps ds)) ≡ latch_items ps ds
unfolding latch_items latch_rows
latch_lines m [] ds h k = refl
latch_lines m (p ∷ ps) [] h k = refl
latch_lines m (p ∷ ps) (d ∷ ds) h k =
    let w = h p (in_here p ps) in
    rw (row_item_lem (latch_item m) (literal_of p 0) (d ∷ []), latch_lines m ps ds (λ q i. h q (in_there q p ps i)) (λ q i. k q (in_there q d ds i))) (ap (λ (x : Item). x ∷ latch_items ps ds) (one w.0 w.1 (k d (in_here d ds))))
  where
    one : 0 < p → p ≤ m → pin_of d ≤ m → latch_item m (literal_of p 0 ∷ d ∷ []) ≡ latch_line (literal_of p 0) d 0
    one a b c = unfold latch_item reset_right or_bad in (rw (is_variable_lem m p a b, is_literal_lem m d c))

-- of outputs
pub output_lines : (m : ℕ) (ls : List ℕ) → ((l : ℕ) → In l ls → pin_of l ≤ m) → map (line_item (output_item m)) (map numbers_line (map output_row ls)) ≡ output_items ls
unfolding output_items output_row
output_lines m [] h = refl
output_lines m (l ∷ ls) h =
    rw (row_item_lem (output_item m) l [], output_lines m ls (λ q i. h q (in_there q l ls i))) (ap (λ (x : Item). x ∷ output_items ls) (one (h l (in_here l ls))))
  where
    one : pin_of l ≤ m → output_item m (l ∷ []) ≡ output_line l
    one a = unfold output_item or_bad in (rw (is_literal_lem m l a))

-- a graph's gates, from pin p on
pub record GatesFit (m p : ℕ) (g : List Node) : Type 0 where
  pub at : (k a b : ℕ) → get_or g k leaf ≡ gate a b → (0 < p + k) × (p + k ≤ m) × (pin_of a ≤ m) × (pin_of b ≤ m)

next_fit : {m p : ℕ} {x : Node} {g : List Node} → GatesFit m p (x ∷ g) → GatesFit m (suc p) g
next_fit G = record { at = λ k a b e. let w = G.at (suc k) a b e in (omega arith, omega (arith, w.1), w.2, w.3) }

-- of gates
pub gate_lines : (m p : ℕ) (g : List Node) → GatesFit m p g → map (line_item (gate_item m)) (map numbers_line (gate_rows p g)) ≡ gate_items p g
unfolding gate_items gate_rows
gate_lines m p [] G = refl
gate_lines m p (leaf ∷ g) G = gate_lines m (suc p) g (next_fit G)
gate_lines m p (gate a b ∷ g) G =
    let w = G.at 0 a b refl in
    rw (row_item_lem (gate_item m) (literal_of p 0) (a ∷ b ∷ []), gate_lines m (suc p) g (next_fit G)) (ap (λ (x : Item). x ∷ gate_items (suc p) g) (one (omega (arith, w.0)) (omega (arith, w.1)) w.2 w.3))
  where
    one : 0 < p → p ≤ m → pin_of a ≤ m → pin_of b ≤ m → gate_item m (literal_of p 0 ∷ a ∷ b ∷ []) ≡ gate_line (literal_of p 0) a b
    one u v c d = unfold gate_item or_bad in (rw (is_variable_lem m p u v, is_literal_lem m a c, is_literal_lem m b d))
