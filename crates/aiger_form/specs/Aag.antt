-- ASCII AIGER files, read into a graph, its records and the latches' leaves, and written from them. Assumes nothing.
use Rattle.std.specs.Prelude.{ℕ, zero, suc, ◌+◌, ◌-◌, ◌*◌, Bool, true, false, not, ◌&&◌, ◌||◌, List, [], ◌∷◌, ◌++◌, map, leb, ltb, eqb, length, get_or, take, drop}
use Rattle.rules.specs.Lists.{Found, nothing, found, mem, every, keep, same_list, up_to, gather}
use Rattle.rules.specs.Cells.{empty}
use Rattle.rules.specs.Graph.{Node, leaf, gate, pin_of, inversion_of, literal_of, graph_of}
use Rattle.rules.specs.Records.{Group, output, flip_flop, memory, staged_pin, unreadable, groups, read}
use Rattle.rules.specs.Checks.{refusal_of, pin_shown}
use Rattle.rules.specs.Listing.{text, spaced}
use Rattle.aiger_form.specs.Text.{line_feed, space, parts, ended, words, number, Numbers?, no_numbers, numbers, numbers_of, Line, placed, numbers_line, unlines}

-- ---- the header, `aag M I L O A`

pub record Header : Type 0 where
  pub variables : ℕ
  pub inputs : ℕ
  pub latches : ℕ
  pub outputs : ℕ
  pub gates : ℕ

pub data Header? : Type 0 where
  no_header : Header?
  header : Header → Header?

abbrev pub most_variables : ℕ
most_variables = 2147483647

unfoldable pub header_right : Header → Bool
header_right h = leb (h.inputs + h.latches + h.gates) h.variables && leb h.variables most_variables

unfoldable pub header_from : Numbers? → Header?
header_from no_numbers = no_header
header_from (numbers ns) =
    let h : Header = record { variables = get_or ns 0 0; inputs = get_or ns 1 0; latches = get_or ns 2 0; outputs = get_or ns 3 0; gates = get_or ns 4 0 } in
    elim (eqb (length ns) 5 && header_right h) [ true ↦ header h | false ↦ no_header ]

unfoldable pub after_magic : List (List ℕ) → Header?
after_magic [] = no_header
after_magic (w ∷ ws) = elim (same_list w (text "aag")) [ true ↦ header_from (numbers_of ws) | false ↦ no_header ]

unfoldable pub header_of : List ℕ → Header?
header_of line = after_magic (words line)

-- lines behind the header's, symbols and comments aside
unfoldable pub body_size : Header → ℕ
body_size h = h.inputs + h.latches + h.outputs + h.gates

-- ---- what one line says, by its text alone

pub data Item : Type 0 where
  bad_text : Item
  skipped : Item
  input_line : (literal : ℕ) → Item
  latch_line : (literal next reset : ℕ) → Item
  output_line : (literal : ℕ) → Item
  gate_line : (literal first second : ℕ) → Item

unfoldable pub or_bad : Bool → Item → Item
or_bad true x = x
or_bad false x = bad_text

unfoldable pub is_literal : ℕ → ℕ → Bool
is_literal m l = leb l (2 * m + 1)

-- what a line may define: an even literal above 0
unfoldable pub is_variable : ℕ → ℕ → Bool
is_variable m l = eqb (inversion_of l) 0 && ltb 0 l && is_literal m l

unfoldable pub input_item : ℕ → List ℕ → Item
input_item m ns = or_bad (eqb (length ns) 1 && is_variable m (get_or ns 0 0)) (input_line (get_or ns 0 0))

-- reset 0, 1 or the latch itself; 0 where none is written
unfoldable pub reset_right : List ℕ → Bool
reset_right ns = eqb (length ns) 2 || (eqb (length ns) 3 && (leb (get_or ns 2 0) 1 || eqb (get_or ns 2 0) (get_or ns 0 0)))

unfoldable pub latch_item : ℕ → List ℕ → Item
latch_item m ns = or_bad (reset_right ns && is_variable m (get_or ns 0 0) && is_literal m (get_or ns 1 0)) (latch_line (get_or ns 0 0) (get_or ns 1 0) (get_or ns 2 0))

unfoldable pub output_item : ℕ → List ℕ → Item
output_item m ns = or_bad (eqb (length ns) 1 && is_literal m (get_or ns 0 0)) (output_line (get_or ns 0 0))

unfoldable pub gate_item : ℕ → List ℕ → Item
gate_item m ns = or_bad (eqb (length ns) 3 && is_variable m (get_or ns 0 0) && is_literal m (get_or ns 1 0) && is_literal m (get_or ns 2 0)) (gate_line (get_or ns 0 0) (get_or ns 1 0) (get_or ns 2 0))

unfoldable pub numbers_item : (List ℕ → Item) → Numbers? → Item
numbers_item f no_numbers = bad_text
numbers_item f (numbers ns) = f ns

unfoldable pub line_item : (List ℕ → Item) → List ℕ → Item
line_item f line = numbers_item f (numbers_of (words line))

-- symbols: `i`, `l` or `o`, a number below that count, a space, any bytes
unfoldable pub symbol_count : Header → ℕ → ℕ
symbol_count h c = elim (eqb c 105) [ true ↦ h.inputs | false ↦ elim (eqb c 108) [ true ↦ h.latches | false ↦ elim (eqb c 111) [ true ↦ h.outputs | false ↦ 0 ] ] ]

unfoldable pub symbol_number : ℕ → Found → Item
symbol_number n nothing = bad_text
symbol_number n (found k) = or_bad (ltb k n) skipped

unfoldable pub symbol_word : ℕ → List (List ℕ) → Item
symbol_word n [] = bad_text
symbol_word n (w ∷ ws) = symbol_number n (number w)

unfoldable pub symbol_item : Header → List ℕ → Item
symbol_item h [] = bad_text
symbol_item h (c ∷ cs) = symbol_word (symbol_count h c) (parts space cs)

-- ---- the lines of the file, each with its place

pub record Spot : Type 0 where
  pub at : ℕ
  pub item : Item

unfoldable pub spots : (List ℕ → Item) → List Line → List Spot
spots f [] = []
spots f (l ∷ ls) = record { at = l.at; item = f l.text } ∷ spots f ls

-- a line `c`: everything behind it is skipped
unfoldable pub is_comment : Line → Bool
is_comment l = same_list l.text (text "c")

unfoldable pub symbol_lines : List Line → List Line
symbol_lines [] = []
symbol_lines (l ∷ ls) = elim (is_comment l) [ true ↦ [] | false ↦ l ∷ symbol_lines ls ]

unfoldable pub has_comment : List Line → Bool
has_comment [] = false
has_comment (l ∷ ls) = elim (is_comment l) [ true ↦ true | false ↦ has_comment ls ]

-- the lines behind the header's, section by section
unfoldable pub gate_spots : Header → List Line → List Spot
gate_spots h ls = spots (line_item (gate_item h.variables)) (take h.gates ls) ++ spots (symbol_item h) (symbol_lines (drop h.gates ls))

unfoldable pub output_spots : Header → List Line → List Spot
output_spots h ls = spots (line_item (output_item h.variables)) (take h.outputs ls) ++ gate_spots h (drop h.outputs ls)

unfoldable pub latch_spots : Header → List Line → List Spot
latch_spots h ls = spots (line_item (latch_item h.variables)) (take h.latches ls) ++ output_spots h (drop h.latches ls)

unfoldable pub all_spots : Header → List Line → List Spot
all_spots h ls = spots (line_item (input_item h.variables)) (take h.inputs ls) ++ latch_spots h (drop h.inputs ls)

-- lines are missing, or the file ends in the middle of one
unfoldable pub is_cut : Header → List ℕ → List Line → Bool
is_cut h bytes ls = ltb (length ls) (body_size h) || (not (ended bytes) && not (has_comment (drop (body_size h) ls)))

-- ---- each variable is defined once, and no other is used

unfoldable pub defines : Item → List ℕ
defines bad_text = []
defines skipped = []
defines (input_line l) = pin_of l ∷ []
defines (latch_line l n r) = pin_of l ∷ []
defines (output_line l) = []
defines (gate_line l a b) = pin_of l ∷ []

unfoldable pub uses : Item → List ℕ
uses bad_text = []
uses skipped = []
uses (input_line l) = []
uses (latch_line l n r) = pin_of n ∷ []
uses (output_line l) = pin_of l ∷ []
uses (gate_line l a b) = pin_of a ∷ pin_of b ∷ []

unfoldable pub items : List Spot → List Item
items [] = []
items (s ∷ ss) = s.item ∷ items ss

-- what each line gives, one after the other
unfoldable pub gather_items : (Item → List ℕ) → List Item → List ℕ
gather_items f [] = []
gather_items f (x ∷ xs) = f x ++ gather_items f xs

unfoldable pub defined : List Item → List ℕ
defined xs = gather_items defines xs

unfoldable pub is_text : Item → Bool
is_text bad_text = false
is_text skipped = true
is_text (input_line l) = true
is_text (latch_line l n r) = true
is_text (output_line l) = true
is_text (gate_line l a b) = true

-- a line that is right by its own text and defines no variable again: `seen` is what earlier lines define
unfoldable pub fresh : (seen : List ℕ) → Item → Bool
fresh seen x = is_text x && every (λ v. not (mem v seen)) (defines x)

unfoldable pub first_again : (seen : List ℕ) → List Spot → Found
first_again seen [] = nothing
first_again seen (s ∷ ss) = elim (fresh seen s.item) [ true ↦ first_again (defines s.item ++ seen) ss | false ↦ found s.at ]

-- and uses no variable that is not defined: `all` is what the file's lines and the constant define
unfoldable pub stands : (all seen : List ℕ) → Item → Bool
stands all seen x = is_text x && every (λ v. not (mem v seen)) (defines x) && every (λ v. mem v all) (uses x)

unfoldable pub first_bad : (all seen : List ℕ) → List Spot → Found
first_bad all seen [] = nothing
first_bad all seen (s ∷ ss) = elim (stands all seen s.item) [ true ↦ first_bad all (defines s.item ++ seen) ss | false ↦ found s.at ]

-- 13
unfoldable pub reset_of : Item → ℕ
reset_of bad_text = 0
reset_of skipped = 0
reset_of (input_line l) = 0
reset_of (latch_line l n r) = r
reset_of (output_line l) = 0
reset_of (gate_line l a b) = 0

unfoldable pub first_reset : List Spot → Found
first_reset [] = nothing
first_reset (s ∷ ss) = elim (eqb (reset_of s.item) 0) [ true ↦ first_reset ss | false ↦ found s.at ]

-- ---- the file: 12 with its place, 13 with the latch's, or M and the lines

pub data File? : Type 0 where
  malformed : ℕ → File?
  bad_reset : ℕ → File?
  file : ℕ → List Item → File?

unfoldable pub resets : ℕ → List Spot → Found → File?
resets m ss nothing = file m (items ss)
resets m ss (found at) = bad_reset at

unfoldable pub judge : ℕ → List Spot → Found → File?
judge m ss nothing = resets m ss (first_reset ss)
judge m ss (found at) = malformed at

unfoldable pub judged : ℕ → List Spot → File?
judged m ss = judge m ss (first_bad (0 ∷ defined (items ss)) [] ss)

-- a cut file: its first complete line that is bad by its text or defines again, or its length; uses are not judged
unfoldable pub place_or : ℕ → Found → ℕ
place_or n nothing = n
place_or n (found at) = at

unfoldable pub body_of : List ℕ → List Line → Header? → File?
body_of bytes ls no_header = malformed 0
body_of bytes ls (header h) = elim (is_cut h bytes ls) [ true ↦ malformed (place_or (length bytes) (first_again [] (all_spots h ls))) | false ↦ judged h.variables (all_spots h ls) ]

unfoldable pub lines_of : List ℕ → List Line → File?
lines_of bytes [] = malformed (length bytes)
lines_of bytes (l ∷ ls) = body_of bytes ls (header_of l.text)

unfoldable pub file_of : List ℕ → File?
file_of bytes = lines_of bytes (placed 0 (parts line_feed bytes))

-- ---- what a file becomes: variables are pins

-- what a line says of the pin that it defines
unfoldable pub driver : Item → Node
driver bad_text = leaf
driver skipped = leaf
driver (input_line l) = leaf
driver (latch_line l n r) = leaf
driver (output_line l) = leaf
driver (gate_line l a b) = gate a b

-- the line that defines a pin says what drives it; a pin that no line defines is a leaf
unfoldable pub driven : List Item → ℕ → Node
driven [] p = leaf
driven (x ∷ xs) p = elim (mem p (defines x)) [ true ↦ driver x | false ↦ driven xs p ]

unfoldable pub node_numbers : Node → List ℕ
node_numbers leaf = empty ∷ empty ∷ []
node_numbers (gate a b) = a ∷ b ∷ []

unfoldable pub gates_of : ℕ → List Item → List ℕ
gates_of m xs = gather (λ p. node_numbers (driven xs p)) (up_to (suc m) 0)

-- a latch becomes a flip-flop with enable literal 1, an output kind 1
unfoldable pub record_of : Item → List ℕ
record_of bad_text = []
record_of skipped = []
record_of (input_line l) = []
record_of (latch_line l n r) = 2 ∷ 1 ∷ n ∷ []
record_of (output_line l) = 1 ∷ l ∷ []
record_of (gate_line l a b) = []

unfoldable pub records_of : List Item → List ℕ
records_of xs = gather_items record_of xs

unfoldable pub latch_of : Item → List ℕ
latch_of bad_text = []
latch_of skipped = []
latch_of (input_line l) = []
latch_of (latch_line l n r) = pin_of l ∷ []
latch_of (output_line l) = []
latch_of (gate_line l a b) = []

unfoldable pub latches_of : List Item → List ℕ
latches_of xs = gather_items latch_of xs

-- a graph, its records and the leaf of each flip-flop, as they are lent
pub record Netlist : Type 0 where
  pub gates : List ℕ
  pub records : List ℕ
  pub latches : List ℕ

unfoldable pub netlist : ℕ → List Item → Netlist
netlist m xs = record { gates = gates_of m xs; records = records_of xs; latches = latches_of xs }

-- a number with the place of 12 and 13 and the pin of 23, each 0 with the others; or what is handed out
pub data Answer : Type 0 where
  refused : (number at pin : ℕ) → Answer
  netlist_read : Netlist → Answer

-- a file has no height and no given pins: the checks 2, 3, 23 and 4 are a build's at any height
abbrev pub any_height : ℕ
any_height = 6

unfoldable pub checked : Bool → Netlist → ℕ
checked sized n = refusal_of any_height sized n.gates [] n.records

unfoldable pub handed_out : Netlist → ℕ → Answer
handed_out n zero = netlist_read n
handed_out n (suc k) = refused (suc k) 0 (pin_shown (suc k) n.gates)

-- `sized` says whether the lent areas hold so many numbers
unfoldable pub admit : (Netlist → Bool) → Netlist → Answer
admit sized n = handed_out n (checked (sized n) n)

unfoldable pub answered : (Netlist → Bool) → File? → Answer
answered sized (malformed at) = refused 12 at 0
answered sized (bad_reset at) = refused 13 at 0
answered sized (file m xs) = admit sized (netlist m xs)

unfoldable pub read_aag : (Netlist → Bool) → List ℕ → Answer
read_aag sized bytes = answered sized (file_of bytes)

-- ---- the writer

-- the data literals of flip-flops with enable literal 1, and behind them the outputs' literals
pub data Ends? : Type 0 where
  no_ends : Ends?
  ends : (data' outs : List ℕ) → Ends?

unfoldable pub with_output : ℕ → Ends? → Ends?
with_output l no_ends = no_ends
with_output l (ends ds os) = elim (eqb (length ds) 0) [ true ↦ ends [] (l ∷ os) | false ↦ no_ends ]

unfoldable pub with_data : ℕ → ℕ → Ends? → Ends?
with_data e d no_ends = no_ends
with_data e d (ends ds os) = elim (eqb e 1) [ true ↦ ends (d ∷ ds) os | false ↦ no_ends ]

unfoldable pub ends_of : List Group → Ends?
ends_of [] = ends [] []
ends_of (output l ∷ gs) = with_output l (ends_of gs)
ends_of (flip_flop e d ∷ gs) = with_data e d (ends_of gs)
ends_of (memory ls ∷ gs) = no_ends
ends_of (staged_pin p ∷ gs) = no_ends

unfoldable pub is_leaf_pin : List Node → ℕ → Bool
is_leaf_pin g p = elim (get_or g p leaf) [ leaf ↦ ltb 0 p && ltb p (length g) | gate a b ↦ false ]

unfoldable pub different : List ℕ → Bool
different [] = true
different (p ∷ ps) = not (mem p ps) && different ps

-- leaves that no flip-flop drives
unfoldable pub inputs_of : List Node → List ℕ → List ℕ
inputs_of g latches = keep (λ p. is_leaf_pin g p && not (mem p latches)) (up_to (length g) 0)

unfoldable pub input_row : ℕ → List ℕ
input_row p = literal_of p 0 ∷ []

unfoldable pub latch_rows : List ℕ → List ℕ → List (List ℕ)
latch_rows [] ds = []
latch_rows (p ∷ ps) [] = []
latch_rows (p ∷ ps) (d ∷ ds) = (literal_of p 0 ∷ d ∷ []) ∷ latch_rows ps ds

unfoldable pub output_row : ℕ → List ℕ
output_row l = l ∷ []

unfoldable pub gate_rows : ℕ → List Node → List (List ℕ)
gate_rows p [] = []
gate_rows p (leaf ∷ g) = gate_rows (suc p) g
gate_rows p (gate a b ∷ g) = (literal_of p 0 ∷ a ∷ b ∷ []) ∷ gate_rows (suc p) g

unfoldable pub header_line : ℕ → ℕ → ℕ → ℕ → ℕ → List ℕ
header_line m i l o a = text "aag" ++ spaced (m ∷ i ∷ l ∷ o ∷ a ∷ [])

unfoldable pub file_lines : List Node → (latches data' outs : List ℕ) → List (List ℕ)
file_lines g latches ds os =
    let ins = inputs_of g latches in
    header_line (length g - 1) (length ins) (length latches) (length os) (length (gate_rows 0 g))
    ∷ (map numbers_line (map input_row ins) ++ (map numbers_line (latch_rows latches ds) ++ (map numbers_line (map output_row os) ++ map numbers_line (gate_rows 0 g))))

-- 14, or the file's bytes
pub data Written : Type 0 where
  no_aag : Written
  aag : List ℕ → Written

-- the checks pass, and the flip-flops drive different leaves, one each
unfoldable pub writable : Netlist → (data' : List ℕ) → Bool
writable n ds =
    eqb (checked true n) 0
    && eqb (length ds) (length n.latches) && every (is_leaf_pin (graph_of n.gates)) n.latches && different n.latches

unfoldable pub write_ends : Netlist → Ends? → Written
write_ends n no_ends = no_aag
write_ends n (ends ds os) = elim (writable n ds) [ true ↦ aag (unlines (file_lines (graph_of n.gates) n.latches ds os)) | false ↦ no_aag ]

unfoldable pub write_aag : (given : List ℕ) → Netlist → Written
write_aag [] n = elim (read n.records) [ unreadable ↦ no_aag | groups gs ↦ write_ends n (ends_of gs) ]
write_aag (p ∷ ps) n = no_aag
