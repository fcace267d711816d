-- The lines behind the header one after the other, and what a pass over them finds that remembers a window of variables. Assumes nothing.
use Rattle.std.specs.Prelude.{ℕ, suc, min, ◌+◌, ◌-◌, ◌*◌, ◌≤◌, ◌<◌, ◌≡◌, Bool, true, false, not, ◌&&◌, List, [], ◌∷◌, ◌++◌, eqb, length, get_or, set, drop}
use Rattle.rules.specs.Lists.{Found, nothing, found, mem, every, keep}
use Rattle.aiger_form.specs.Text.{Line, line_feed, parts, placed}
use Rattle.rules.specs.Graph.{pin_of}
use Rattle.aiger_form.specs.Aag.{Header, Item, bad_text, skipped, input_line, latch_line, output_line, gate_line, Spot, is_cut, is_text, defines, uses, place_or, items, defined}
use Rattle.aiger_form.specs.Windows.{window, first_bad_in}
use Rattle.aiger_text.specs.declared.passes.Sweep.{Sweep}
use Rattle.aiger_rows.specs.Rows.{item_at, stops_at}

-- the lines from the i-th on
unfoldable pub spots_at : Header → ℕ → List Line → List Spot
spots_at h i [] = []
spots_at h i (l ∷ ls) = elim (stops_at h i l.text) [ true ↦ [] | false ↦ record { at = l.at; item = item_at h i l.text } ∷ spots_at h (suc i) ls ]

-- `fresh` and `first_again`, for the variables that f keeps
unfoldable pub fresh_in : (ℕ → Bool) → (seen : List ℕ) → Item → Bool
fresh_in f seen x = is_text x && every (λ v. not (mem v seen)) (keep f (defines x))

unfoldable pub first_again_in : (ℕ → Bool) → (seen : List ℕ) → List Spot → Found
first_again_in f seen [] = nothing
first_again_in f seen (s ∷ ss) = elim (fresh_in f seen s.item) [ true ↦ first_again_in f (defines s.item ++ seen) ss | false ↦ found s.at ]

unfoldable pub first_unknown_in : (ℕ → Bool) → (all : List ℕ) → List Spot → Found
first_unknown_in f all [] = nothing
first_unknown_in f all (s ∷ ss) = elim (every (λ v. mem v all) (keep f (uses s.item))) [ true ↦ first_unknown_in f all ss | false ↦ found s.at ]

-- how many variables are remembered at a time
abbrev pub breadth : ℕ
breadth = 65536

-- numbers in the area of gates: two for each of 65,536 pins
abbrev pub area : ℕ
area = 131072

-- a gate's literals in the two numbers of its pin
unfoldable pub store_item : Item → List ℕ → List ℕ
store_item bad_text w = w
store_item skipped w = w
store_item (input_line l) w = w
store_item (latch_line l n r) w = w
store_item (output_line l) w = w
store_item (gate_line l a b) w = set (set w (2 * pin_of l) a) (2 * pin_of l + 1) b

unfoldable pub store_all : List Spot → List ℕ → List ℕ
store_all [] w = w
store_all (s ∷ ss) w = store_all ss (store_item s.item w)

-- the variables of a list that stand in the window from lo on are marked
pub record Marks (lo : ℕ) (seen map : List ℕ) : Type 0 where
  pub wide : length map ≡ breadth
  pub are : (v : ℕ) → lo ≤ v → v < lo + breadth → eqb (get_or map (v - lo) 0) 0 ≡ not (mem v seen)

-- a variable is marked; r: it was not before
pub record Marked (lo v : ℕ) (map map' : List ℕ) (r : Bool) : Type 0 where
  pub len : length map' ≡ length map
  pub marks : (seen : List ℕ) → Marks lo seen map → Marks lo (v ∷ seen) map'
  pub new : (seen : List ℕ) → Marks lo seen map → r ≡ every (λ u. not (mem u seen)) (keep (window lo (lo + breadth)) (v ∷ []))

-- so for a line
pub record Passed (lo : ℕ) (x : Item) (map map' : List ℕ) (r : Bool) : Type 0 where
  pub len : length map' ≡ length map
  pub marks : (seen : List ℕ) → Marks lo seen map → Marks lo (defines x ++ seen) map'
  pub new : (seen : List ℕ) → Marks lo seen map → r ≡ fresh_in (window lo (lo + breadth)) seen x

-- ---- a pass over all lines: the least place of a line that is not fresh, and what the lines define

unfoldable pub noted : Bool → (first at : ℕ) → ℕ
noted true first at = first
noted false first at = min first at

unfoldable pub pass_over : (ℕ → Bool) → (seen : List ℕ) → (first : ℕ) → List Spot → ℕ
pass_over f seen first [] = first
pass_over f seen first (s ∷ ss) = pass_over f (defines s.item ++ seen) (noted (fresh_in f seen s.item) first s.at) ss

unfoldable pub defined_onto : (seen : List ℕ) → List Spot → List ℕ
defined_onto seen [] = seen
defined_onto seen (s ∷ ss) = defined_onto (defines s.item ++ seen) ss

-- the lines from a place on
unfoldable pub lines_from : List ℕ → ℕ → List Line
lines_from bytes at = placed at (parts line_feed (drop at bytes))

-- the lines from a place behind the header on
pub record Behind (start : ℕ) (bytes : List ℕ) : Type 0 where
  pub some : 0 < start
  pub inside : start ≤ length bytes

-- before the pass
pub record Ready (start lo : ℕ) (bytes map w : List ℕ) : Type 0 where
  pub some : 0 < start
  pub inside : start ≤ length bytes
  pub blank : Marks lo [] map
  pub wide : length w ≡ area

-- and behind it
pub record Swept (h : Header) (start lo : ℕ) (bytes map map' w w' : List ℕ) (r : Sweep) : Type 0 where
  pub len : length map' ≡ length map
  pub first : r.first ≡ pass_over (window lo (lo + breadth)) [] (length bytes) (spots_at h 0 (lines_from bytes start))
  pub cut : r.cut ≡ is_cut h bytes (lines_from bytes start)
  pub marks : Marks lo (defined_onto [] (spots_at h 0 (lines_from bytes start))) map'
  pub stored : w' ≡ store_all (spots_at h 0 (lines_from bytes start)) w

-- ---- the pass over the uses

-- is what a line uses of the window marked, or the constant?
pub record Known (lo : ℕ) (vs map : List ℕ) (r : Bool) : Type 0 where
  pub is : (seen : List ℕ) → Marks lo seen map → r ≡ every (λ u. mem u (0 ∷ seen)) (keep (window lo (lo + breadth)) vs)

pub record Set (start : ℕ) (bytes map : List ℕ) : Type 0 where
  pub inside : start ≤ length bytes
  pub wide : length map ≡ breadth

pub record Used (h : Header) (start lo : ℕ) (bytes map : List ℕ) (r : ℕ) : Type 0 where
  pub is : (seen : List ℕ) → Marks lo seen map → r ≡ place_or (length bytes) (first_unknown_in (window lo (lo + breadth)) (0 ∷ seen) (spots_at h 0 (lines_from bytes start)))

-- ---- a window's first bad line, or the length

-- the first line of all that is bad by its text, by a variable of the window that it defines again, or by one that it uses and no line defines
unfoldable pub bad_in : Header → (start lo : ℕ) → List ℕ → ℕ
bad_in h start lo bytes =
    let ss = spots_at h 0 (lines_from bytes start) in
    min (length bytes) (place_or (length bytes) (first_bad_in (window lo (lo + breadth)) (0 ∷ defined (items ss)) [] ss))
