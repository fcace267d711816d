-- What an accepted file gives: its lines stand, and the graph is as they say. Assumes nothing.
use Prim.Native.Nat.{ℕ, zero, suc, ◌+◌, ◌*◌, ◌≤◌, ◌<◌}
use mathlib.Core.Path.{◌≡◌, refl, sym, ap, ◌∙◌}
use mathlib.Core.Logic.{◌⊎◌, inl, inr}
use mathlib.Core.Bool.{Bool, true, false, not, ◌&&◌}
use mathlib.Core.List.{List, [], ◌∷◌, ◌++◌, map}
use native.Mathlib.Omega.{arith}
use lib.Dec.{ltb, eqb}
use lib.ListN.{length, get_or, length-append, get_or-eq_default}
use borrow.Author.Tests.{leb-true, ltb-true, eqb-true, not-true, ne_eqb}
use Rattle.rules.specs.Lists.{Found, nothing, found, mem, every, gather, up_to, In, Out}
use Rattle.rules.specs.Cells.{empty}
use Rattle.rules.specs.Graph.{Node, leaf, gate, pin_of, inversion_of, node_of, graph_of}
use Rattle.rules.proofs.Lists.Members.{split, true_false, and_true, every_in, in_append_left, in_append_right, in_append, in_cons, in_nil}
use Rattle.aiger_form.specs.Text.{Line, line_feed, parts, Numbers?, no_numbers, numbers, words, number, numbers_of, placed}
use Rattle.aiger_form.specs.Aag.{Header, Header?, no_header, header, header_of, Item, bad_text, skipped, input_line, latch_line, output_line, gate_line, or_bad, is_literal, is_variable, input_item, reset_right, latch_item, output_item, gate_item, numbers_item, line_item, symbol_count, symbol_number, symbol_word, symbol_item, Spot, spots, gate_spots, output_spots, latch_spots, all_spots, is_cut, defines, uses, items, gather_items, defined, is_text, stands, first_bad, first_reset, File?, malformed, bad_reset, file, resets, judge, judged, body_of, lines_of, file_of, driver, driven, node_numbers, gates_of, Netlist, netlist, netlist_read, any_height, checked, handed_out, admit, answered, read_aag}
use Rattle.checks.specs.Passed.{Passed}
use Rattle.checks.proofs.Laws.Passed.{passed}
use Rattle.aiger_form.specs.Meaning.{Among, here, there}

-- ---- the literals of a line are in range

-- the literals of a line are at most 2M + 1, and what it defines is a variable
unfoldable pub fits : ℕ → Item → Bool
fits m bad_text = true
fits m skipped = true
fits m (input_line l) = is_variable m l
fits m (latch_line l n r) = is_variable m l && is_literal m n
fits m (output_line l) = is_literal m l
fits m (gate_line l a b) = is_variable m l && is_literal m a && is_literal m b

-- so for all lines
abbrev pub AllFit : ℕ → List Item → Type 0
AllFit m xs = (x : Item) → Among x xs → fits m x ≡ true

or_bad_lem : (m : ℕ) (b : Bool) (x : Item) → (b ≡ true → fits m x ≡ true) → fits m (or_bad b x) ≡ true
unfolding or_bad fits
or_bad_lem m true x h = h refl
or_bad_lem m false x h = refl

input_fits : (m : ℕ) (ns : List ℕ) → fits m (input_item m ns) ≡ true
unfolding input_item fits
input_fits m ns = or_bad_lem m _ _ (λ e. (and_true (eqb (length ns) 1) (is_variable m (get_or ns 0 0)) e).1)

latch_fits : (m : ℕ) (ns : List ℕ) → fits m (latch_item m ns) ≡ true
unfolding latch_item fits
latch_fits m ns = or_bad_lem m _ _ (λ e.
    let w = and_true (reset_right ns && is_variable m (get_or ns 0 0)) (is_literal m (get_or ns 1 0)) e in
    rw ((and_true (reset_right ns) (is_variable m (get_or ns 0 0)) w.0).1, w.1))

output_fits : (m : ℕ) (ns : List ℕ) → fits m (output_item m ns) ≡ true
unfolding output_item fits
output_fits m ns = or_bad_lem m _ _ (λ e. (and_true (eqb (length ns) 1) (is_literal m (get_or ns 0 0)) e).1)

gate_fits : (m : ℕ) (ns : List ℕ) → fits m (gate_item m ns) ≡ true
unfolding gate_item fits
gate_fits m ns = or_bad_lem m _ _ (λ e.
    let w = and_true (eqb (length ns) 3 && is_variable m (get_or ns 0 0) && is_literal m (get_or ns 1 0)) (is_literal m (get_or ns 2 0)) e in
    let v = and_true (eqb (length ns) 3 && is_variable m (get_or ns 0 0)) (is_literal m (get_or ns 1 0)) w.0 in
    rw ((and_true (eqb (length ns) 3) (is_variable m (get_or ns 0 0)) v.0).1, v.1, w.1))

line_fits : (m : ℕ) (f : List ℕ → Item) → ((ns : List ℕ) → fits m (f ns) ≡ true) → (line : List ℕ) → fits m (line_item f line) ≡ true
unfolding line_item numbers_item fits
line_fits m f h line = at (numbers_of (words line))
  where
    at : (r : Numbers?) → fits m (numbers_item f r) ≡ true
    at no_numbers = refl
    at (numbers ns) = h ns

symbol_fits : (m : ℕ) (h : Header) (line : List ℕ) → fits m (symbol_item h line) ≡ true
unfolding symbol_item symbol_number symbol_word fits
symbol_fits m h [] = refl
symbol_fits m h (c ∷ cs) = word (parts 32 cs)
  where
    at : (n : ℕ) (r : Found) → fits m (symbol_number n r) ≡ true
    at n nothing = refl
    at n (found k) = or_bad_lem m (ltb k n) skipped (λ e. refl)

    word : (ws : List (List ℕ)) → fits m (symbol_word (symbol_count h c) ws) ≡ true
    word [] = refl
    word (w ∷ ws) = at (symbol_count h c) (number w)

spots_fit : (m : ℕ) (f : List ℕ → Item) → ((line : List ℕ) → fits m (f line) ≡ true) → (ls : List Line) → AllFit m (items (spots f ls))
unfolding spots items
spots_fit m f h (l ∷ ls) x here = h l.text
spots_fit m f h (l ∷ ls) x (there i) = spots_fit m f h ls x i
spots_fit m f h [] x x3 = elim x3 [ ]

among_append : (ss ts : List Spot) {x : Item} → Among x (items (ss ++ ts)) → Among x (items ss) ⊎ Among x (items ts)
unfolding items
among_append [] ts i = inr i
among_append (s ∷ ss) ts here = inl here
among_append (s ∷ ss) ts (there i) = elim (among_append ss ts i) [ inl j ↦ inl (there j) | inr j ↦ inr j ]

both_fit : (m : ℕ) (ss ts : List Spot) → AllFit m (items ss) → AllFit m (items ts) → AllFit m (items (ss ++ ts))
both_fit m ss ts a b x i = elim (among_append ss ts i) [ inl j ↦ a x j | inr j ↦ b x j ]

-- so are the lines of any file
pub all_fit : (h : Header) (ls : List Line) → AllFit h.variables (items (all_spots h ls))
unfolding all_spots latch_spots output_spots gate_spots
all_fit h ls =
    let m = h.variables in
    both_fit m _ _ (spots_fit m _ (line_fits m (input_item m) (input_fits m)) _)
    (both_fit m _ _ (spots_fit m _ (line_fits m (latch_item m) (latch_fits m)) _)
    (both_fit m _ _ (spots_fit m _ (line_fits m (output_item m) (output_fits m)) _)
    (both_fit m _ _ (spots_fit m _ (line_fits m (gate_item m) (gate_fits m)) _) (spots_fit m _ (symbol_fits m h) _))))

-- ---- the file's lines

-- lines that stand, with their places
pub record Stand (m : ℕ) (xs : List Item) : Type 0 where
  pub spots : List Spot
  pub these : items spots ≡ xs
  pub good : first_bad (0 ∷ defined xs) [] spots ≡ nothing
  pub fit : AllFit m xs

no_file_lem : {P : Type 0} {r : File?} {m at : ℕ} {xs : List Item} → r ≡ malformed at → r ≡ file m xs → P
no_file_lem d e = absurd (let z : ◌≡◌ {A = ℕ} 0 1 = cc in omega arith)

judged_stands : (n : ℕ) (ss : List Spot) → AllFit n (items ss) → {m : ℕ} {xs : List Item} → judged n ss ≡ file m xs → Stand m xs
unfolding judged judge resets
judged_stands n ss fit {m} {xs} e = at (first_bad (0 ∷ defined (items ss)) [] ss) refl e
  where
    last : (r : Found) → first_bad (0 ∷ defined (items ss)) [] ss ≡ nothing → resets n ss r ≡ file m xs → Stand m xs
    last (found k) g d = absurd (let z : ◌≡◌ {A = ℕ} 0 1 = cc in omega arith)
    last nothing g d =
        let en : n ≡ m = cc in
        let ex : items ss ≡ xs = cc in
        record { spots = ss; these = ex; good = rw ex at g; fit = rw (← en, ← ex) fit }

    at : (r : Found) → first_bad (0 ∷ defined (items ss)) [] ss ≡ r → judge n ss r ≡ file m xs → Stand m xs
    at (found k) g d = no_file_lem refl d
    at nothing g d = last (first_reset ss) g d

body_stands : (bytes : List ℕ) (ls : List Line) (r : Header?) {m : ℕ} {xs : List Item} → body_of bytes ls r ≡ file m xs → Stand m xs
unfolding body_of
body_stands bytes ls no_header e = no_file_lem refl e
body_stands bytes ls (header h) e = split (is_cut h bytes ls) (λ t. no_file_lem refl (rw (t, body_of) at e)) (λ t. judged_stands h.variables (all_spots h ls) (all_fit h ls) (rw (t, body_of) at e))

lines_stand : (bytes : List ℕ) (ls : List Line) {m : ℕ} {xs : List Item} → lines_of bytes ls ≡ file m xs → Stand m xs
unfolding lines_of
lines_stand bytes [] e = no_file_lem refl e
lines_stand bytes (l ∷ ls) e = body_stands bytes ls (header_of l.text) e

-- an accepted file's lines stand
pub file_stands : (bytes : List ℕ) {m : ℕ} {xs : List Item} → file_of bytes ≡ file m xs → Stand m xs
unfolding file_of
file_stands bytes e = lines_stand bytes (placed 0 (parts line_feed bytes)) e

-- ---- a line that stands

-- what a line that stands shows
pub record Stood (all seen : List ℕ) (x : Item) : Type 0 where
  pub new : every (λ v. not (mem v seen)) (defines x) ≡ true
  pub known : every (λ v. mem v all) (uses x) ≡ true

stood : (all seen : List ℕ) (x : Item) → stands all seen x ≡ true → Stood all seen x
unfolding stands
stood all seen x e =
    let w = and_true (is_text x && every (λ v. not (mem v seen)) (defines x)) (every (λ v. mem v all) (uses x)) e in
    record { new = (and_true (is_text x) (every (λ v. not (mem v seen)) (defines x)) w.0).1; known = w.1 }

-- the first line, and those behind it
pub bad_cons : (all seen : List ℕ) (s : Spot) (ss : List Spot) → first_bad all seen (s ∷ ss) ≡ nothing → Stood all seen s.item × (first_bad all (defines s.item ++ seen) ss ≡ nothing)
unfolding first_bad
bad_cons all seen s ss e = split (stands all seen s.item) (λ t. (stood all seen s.item t, rw (t, first_bad) at e))
    (λ t. absurd (let d : found s.at ≡ nothing = rw (t, first_bad) at e in let z : ◌≡◌ {A = ℕ} 0 1 = cc in omega arith))

uses_known : (all seen : List ℕ) (ss : List Spot) → first_bad all seen ss ≡ nothing → {x : Item} → Among x (items ss) → every (λ v. mem v all) (uses x) ≡ true
unfolding items
uses_known all seen (s ∷ ss) e here = (bad_cons all seen s ss e).0.known
uses_known all seen (s ∷ ss) e (there i) = uses_known all (defines s.item ++ seen) ss (bad_cons all seen s ss e).1 i
uses_known all seen [] e x4 = elim x4 [ ]

-- what is in neither of two lists
pub out_of : (p : ℕ) (xs ys : List ℕ) → Out p (xs ++ ys) → Out p xs × Out p ys
out_of p xs ys o = (split (mem p xs) (λ t. true_false (in_append_left p xs ys t) o) (λ t. t), split (mem p ys) (λ t. true_false (in_append_right p xs ys t) o) (λ t. t))

-- a pin's driver is what its line says
found_driver : (all seen : List ℕ) (ss : List Spot) → first_bad all seen ss ≡ nothing → {x : Item} → Among x (items ss) → (p : ℕ) → In p (defines x) → Out p seen × (driven (items ss) p ≡ driver x)
unfolding items driven
found_driver all seen (s ∷ ss) e here p i = (not-true (mem p seen) (every_in (λ v. not (mem v seen)) p (defines s.item) (bad_cons all seen s ss e).0.new i), rw (i, driven))
found_driver all seen (s ∷ ss) e (there a) p i =
    let h = found_driver all (defines s.item ++ seen) ss (bad_cons all seen s ss e).1 a p i in
    let o = out_of p (defines s.item) seen h.0 in
    (o.1, rw (o.0, driven) h.1)
found_driver all seen [] e x5 p i = elim x5 [ ]

-- what an accepted file's lines show
pub record Lines (m : ℕ) (xs : List Item) : Type 0 where
  pub one : {x : Item} → Among x xs → (p : ℕ) → In p (defines x) → driven xs p ≡ driver x
  pub known : {x : Item} → Among x xs → (p : ℕ) → In p (uses x) → In p (0 ∷ defined xs)
  pub fit : (x : Item) → Among x xs → fits m x ≡ true

-- lines that stand show it
pub stand_lines : {m : ℕ} {xs : List Item} → Stand m xs → Lines m xs
stand_lines {m} {xs} S = record {
  one = λ {x} a p i. rw S.these at (found_driver (0 ∷ defined xs) [] S.spots S.good (rw S.these a) p i).1;
  known = λ {x} a p i. every_in (λ v. mem v (0 ∷ defined xs)) p (uses x) (uses_known (0 ∷ defined xs) [] S.spots S.good (rw S.these a)) i;
  fit = S.fit;
}

-- a variable that is defined has a line
pub defined_line : (xs : List Item) (p : ℕ) → In p (defined xs) → (x : Item) × Among x xs × In p (defines x)
unfolding defined gather_items
defined_line [] p i = in_nil p i
defined_line (x ∷ xs) p i = elim (in_append p (defines x) (defined xs) i) [
  | inl d ↦ (x, here, d)
  | inr d ↦ let h = defined_line xs p d in (h.0, there h.1, h.2)
]

-- ---- the graph has each pin's driver

-- a node whose first number is no empty mark
pub Kept : Node → Type 0
Kept x = (a b : ℕ) → x ≡ gate a b → a < empty

kept : (x : Node) (rest : List ℕ) → Kept x → graph_of (node_numbers x ++ rest) ≡ x ∷ graph_of rest
unfolding graph_of node_numbers node_of Kept empty
kept leaf rest k = refl
kept (gate a b) rest k = let h = k a b refl in let e : eqb a empty ≡ false = ne_eqb a empty (λ z. omega arith) in rw (e, node_of)

-- the graph of a list of nodes is those nodes
pub graph_is : (f : ℕ → Node) → ((p : ℕ) → Kept (f p)) → (n i : ℕ) → graph_of (gather (λ p. node_numbers (f p)) (up_to n i)) ≡ map f (up_to n i)
unfolding gather up_to graph_of
graph_is f k zero i = refl
graph_is f k (suc n) i = kept (f i) _ (k i) ∙ ap (λ (r : List Node). f i ∷ r) (graph_is f k n (suc i))

two : (x : Node) → length (node_numbers x) ≡ 2
unfolding node_numbers
two leaf = refl
two (gate a b) = refl

-- a node has two numbers
pub gather_two : (f : ℕ → Node) (n i : ℕ) → length (gather (λ p. node_numbers (f p)) (up_to n i)) ≡ 2 * n
unfolding gather up_to
gather_two f zero i = refl
gather_two f (suc n) i = length-append (node_numbers (f i)) _ ∙ omega (arith, two (f i), gather_two f n (suc i))

-- a node for each pin
pub map-length : (f : ℕ → Node) (n i : ℕ) → length (map f (up_to n i)) ≡ n
unfolding up_to
map-length f zero i = refl
map-length f (suc n) i = ap suc (map-length f n (suc i))

-- each pin's node
pub map_at : (f : ℕ → Node) (n i k : ℕ) → k < n → get_or (map f (up_to n i)) k leaf ≡ f (i + k)
unfolding up_to
map_at f zero i k h = absurd (omega arith)
map_at f (suc n) i zero h = let e : i + 0 ≡ i = omega arith in rw e
map_at f (suc n) i (suc k) h = map_at f n (suc i) k (omega arith) ∙ ap f (omega arith)

driver_fits : (m : ℕ) (x : Item) (a b : ℕ) → fits m x ≡ true → driver x ≡ gate a b → is_literal m a ≡ true
unfolding driver fits
driver_fits m bad_text a b e d = absurd (let z : ◌≡◌ {A = ℕ} 0 1 = cc in omega arith)
driver_fits m skipped a b e d = absurd (let z : ◌≡◌ {A = ℕ} 0 1 = cc in omega arith)
driver_fits m (input_line l) a b e d = absurd (let z : ◌≡◌ {A = ℕ} 0 1 = cc in omega arith)
driver_fits m (latch_line l n r) a b e d = absurd (let z : ◌≡◌ {A = ℕ} 0 1 = cc in omega arith)
driver_fits m (output_line l) a b e d = absurd (let z : ◌≡◌ {A = ℕ} 0 1 = cc in omega arith)
driver_fits m (gate_line l c f) a b e d =
    let z : c ≡ a = cc in
    rw (← z) (and_true (is_variable m l) (is_literal m c) (and_true (is_variable m l && is_literal m c) (is_literal m f) e).0).1

driven_fits : (m : ℕ) (xs : List Item) → AllFit m xs → (p a b : ℕ) → driven xs p ≡ gate a b → is_literal m a ≡ true
unfolding driven
driven_fits m [] h p a b e = absurd (let z : ◌≡◌ {A = ℕ} 0 1 = cc in omega arith)
driven_fits m (x ∷ xs) h p a b e = split (mem p (defines x)) (λ t. driver_fits m x a b (h x here) (rw (t, driven) at e)) (λ t. driven_fits m xs (λ y i. h y (there i)) p a b (rw (t, driven) at e))

-- ---- a line's own variable

-- the one entry of a list
pin_one : (m p q : ℕ) → In p (q ∷ []) → (0 < q) × (q ≤ m) → (0 < p) × (p ≤ m)
pin_one m p q i h = elim (in_cons p q [] i) [ inl e ↦ rw e h | inr e ↦ in_nil p e ]

-- the pin of what a line may define is above 0 and at most M
pub variable_pin : (m l : ℕ) → is_variable m l ≡ true → (0 < pin_of l) × (pin_of l ≤ m)
unfolding is_variable is_literal inversion_of pin_of
variable_pin m l e =
    let w = and_true (eqb (inversion_of l) 0 && ltb 0 l) (is_literal m l) e in
    let u = and_true (eqb (inversion_of l) 0) (ltb 0 l) w.0 in
    (omega (arith, ltb-true 0 l u.1, eqb-true (inversion_of l) 0 u.0), omega (arith, leb-true l (2 * m + 1) w.1))

-- so is every pin that a line defines
pub defines_pin : (m : ℕ) (x : Item) → fits m x ≡ true → (p : ℕ) → In p (defines x) → (0 < p) × (p ≤ m)
unfolding fits defines
defines_pin m bad_text e p i = in_nil p i
defines_pin m skipped e p i = in_nil p i
defines_pin m (output_line l) e p i = in_nil p i
defines_pin m (input_line l) e p i = pin_one m p (pin_of l) i (variable_pin m l e)
defines_pin m (latch_line l n r) e p i = pin_one m p (pin_of l) i (variable_pin m l (and_true (is_variable m l) (is_literal m n) e).0)
defines_pin m (gate_line l a b) e p i = pin_one m p (pin_of l) i (variable_pin m l (and_true (is_variable m l) (is_literal m a) (and_true (is_variable m l && is_literal m a) (is_literal m b) e).0).0)

-- pin 0 has no line
pub driven_none : (m : ℕ) (xs : List Item) → AllFit m xs → driven xs 0 ≡ leaf
unfolding driven
driven_none m [] h = refl
driven_none m (x ∷ xs) h = split (mem 0 (defines x))
    (λ t. absurd (omega (arith, (defines_pin m x (h x here) 0 t).0)))
    (λ t. rw (t, driven) (driven_none m xs (λ y i. h y (there i))))

-- ---- an accepted file

-- the file's lines, and the checks that its netlist passes
pub record Accepted (sized : Netlist → Bool) (bytes : List ℕ) (n : Netlist) : Type 0 where
  pub variables : ℕ
  pub lines : List Item
  pub reads : file_of bytes ≡ file variables lines
  pub net : n ≡ netlist variables lines
  pub room : sized n ≡ true
  pub free : checked true n ≡ 0

handed : (k n : Netlist) (r : ℕ) → handed_out k r ≡ netlist_read n → (r ≡ 0) × (k ≡ n)
unfolding handed_out
handed k n zero e = (refl, cc)
handed k n (suc r) e = absurd (let z : ◌≡◌ {A = ℕ} 0 1 = cc in omega arith)

-- what the checks tell of a netlist
pub passes : {b : Bool} (n : Netlist) → checked b n ≡ 0 → Passed any_height b n.gates [] n.records
unfolding checked
passes {b} n e = passed any_height b n.gates [] n.records e

-- what is read was accepted
pub accepted : (sized : Netlist → Bool) (bytes : List ℕ) (n : Netlist) → read_aag sized bytes ≡ netlist_read n → Accepted sized bytes n
unfolding read_aag answered admit
accepted sized bytes n e = at (file_of bytes) refl e
  where
    at : (r : File?) → file_of bytes ≡ r → answered sized r ≡ netlist_read n → Accepted sized bytes n
    at (malformed k) g d = absurd (let z : ◌≡◌ {A = ℕ} 0 1 = cc in omega arith)
    at (bad_reset k) g d = absurd (let z : ◌≡◌ {A = ℕ} 0 1 = cc in omega arith)
    at (file m xs) g d =
        let N = netlist m xs in
        let w = handed N n (checked (sized N) N) d in
        let s = (passes N w.0).areas in
        record { variables = m; lines = xs; reads = g; net = sym w.1; room = rw w.1 at s; free = rw w.1 at (ap (λ b. checked b N) (sym s) ∙ w.0) }

module _ (m : ℕ) (xs : List Item) (L : Lines m xs) (small : m ≤ 65535) where
  driven_kept : (p : ℕ) → Kept (driven xs p)
  unfolding Kept is_literal empty
  driven_kept p a b e = omega (arith, leb-true a (2 * m + 1) (driven_fits m xs L.fit p a b e))

  -- the graph has each pin's driver
  pub graph_map : graph_of (gates_of m xs) ≡ map (driven xs) (up_to (suc m) 0)
  unfolding gates_of
  graph_map = graph_is (driven xs) driven_kept (suc m) 0

  -- it has M + 1 pins
  pub graph_length : length (graph_of (gates_of m xs)) ≡ suc m
  graph_length = rw graph_map (map-length (driven xs) (suc m) 0)

  -- a pin's node is its driver
  pub node_at : (p : ℕ) → p ≤ m → get_or (graph_of (gates_of m xs)) p leaf ≡ driven xs p
  node_at p h = rw graph_map (map_at (driven xs) (suc m) 0 p (omega arith) ∙ ap (driven xs) (omega arith))

  -- a pin above M is a leaf
  pub node_past : (p : ℕ) → m < p → get_or (graph_of (gates_of m xs)) p leaf ≡ leaf
  node_past p h = get_or-eq_default (graph_of (gates_of m xs)) leaf (omega (arith, graph_length))
