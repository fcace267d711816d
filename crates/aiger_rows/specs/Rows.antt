-- What a line says, in numbers. Assumes nothing.
use Rattle.std.specs.Prelude.{ℕ, ◌-◌, ◌≤◌, ◌<◌, ◌≡◌, List, Bool, true, false, ◌&&◌, ◌||◌, eqb, leb, ltb, Option, Some, None}
use Rattle.aiger_rows.specs.Cursor.{capped}
use Rattle.rules.specs.Lists.{same_list}
use Rattle.rules.specs.Listing.{text}
use Rattle.aiger_rows.specs.declared.head.Head.{Head}
use Rattle.aiger_rows.specs.declared.header.Section.{Section}
use Rattle.aiger_rows.specs.declared.header.Section.TheVariants.{Inputs, Latches, Outputs, Gates, Symbols}
use Rattle.aiger_rows.specs.declared.rows.Row.{Row}
use Rattle.aiger_rows.specs.declared.rows.Row.TheVariants.{Symbol, Input, Latch, Output, Gate}
use Rattle.aiger_form.specs.Aag.{Item, bad_text, skipped, input_line, latch_line, output_line, gate_line, Header, Header?, no_header, header, line_item, input_item, latch_item, output_item, gate_item, symbol_item}

-- what a row says
unfoldable pub row_item : Row → Item
row_item Symbol = skipped
row_item (Input l) = input_line l.0
row_item (Latch l n r) = latch_line l.0 n.0 r
row_item (Output l) = output_line l.0
row_item (Gate l a b) = gate_line l.0 a.0 b.0

-- what a line says, which has no row where its text is bad
unfoldable pub said : Option Row → Item
said None = bad_text
said (Some x) = row_item x

-- a latch's reset, by the count of its line's numbers, the first and the third
unfoldable pub reset_in : (count a c : ℕ) → Bool
reset_in count a c = eqb count 2 || (eqb count 3 && (leb c 1 || eqb c a))

-- ---- the line at a place behind the header, from 0 on

abbrev pub head : (variables inputs latches outputs gates : ℕ) → Header
head m i l o a = record { variables = m; inputs = i; latches = l; outputs = o; gates = a }

abbrev pub head_of : Head → Header
head_of h = head h.variables h.inputs h.latches h.outputs h.gates

unfoldable pub item_at : Header → ℕ → List ℕ → Item
item_at h i line = elim (ltb i h.inputs) [
  | true ↦ line_item (input_item h.variables) line
  | false ↦ elim (ltb (i - h.inputs) h.latches) [
    | true ↦ line_item (latch_item h.variables) line
    | false ↦ elim (ltb (i - h.inputs - h.latches) h.outputs) [
      | true ↦ line_item (output_item h.variables) line
      | false ↦ elim (ltb (i - h.inputs - h.latches - h.outputs) h.gates) [ true ↦ line_item (gate_item h.variables) line | false ↦ symbol_item h line ]
    ]
  ]
]

-- the section of the i-th line
abbrev pub In : Header → ℕ → Section → Type 0
In h i Inputs = i < h.inputs
In h i Latches = (h.inputs ≤ i) × (i - h.inputs < h.latches)
In h i Outputs = (h.inputs ≤ i) × (h.latches ≤ i - h.inputs) × (i - h.inputs - h.latches < h.outputs)
In h i Gates = (h.inputs ≤ i) × (h.latches ≤ i - h.inputs) × (h.outputs ≤ i - h.inputs - h.latches) × (i - h.inputs - h.latches - h.outputs < h.gates)
In h i Symbols = (h.inputs ≤ i) × (h.latches ≤ i - h.inputs) × (h.outputs ≤ i - h.inputs - h.latches) × (h.gates ≤ i - h.inputs - h.latches - h.outputs)

-- the same behind any header that says so many of each
abbrev pub Among : (inputs latches outputs gates i : ℕ) → Section → Type 0
Among inputs latches outputs gates i s = (m : ℕ) → In (head m inputs latches outputs gates) i s

-- behind the gates a line `c` ends all
unfoldable pub stops_at : Header → ℕ → List ℕ → Bool
stops_at h i line = elim (ltb i h.inputs) [
  | true ↦ false
  | false ↦ elim (ltb (i - h.inputs) h.latches) [
    | true ↦ false
    | false ↦ elim (ltb (i - h.inputs - h.latches) h.outputs) [
      | true ↦ false
      | false ↦ elim (ltb (i - h.inputs - h.latches - h.outputs) h.gates) [ true ↦ false | false ↦ same_list line (text "c") ]
    ]
  ]
]

-- the same behind any header that says so many of each
abbrev pub Stops : (inputs latches outputs gates i : ℕ) → List ℕ → Bool → Type 0
Stops inputs latches outputs gates i line r = (m : ℕ) → r ≡ stops_at (head m inputs latches outputs gates) i line

-- ---- the header's line: the number of outputs is capped, the others are exact

pub data HeadIs : Header? → Option Head → Type 0 where
  no : HeadIs no_header None
  yes : (h : Header) (r : Head) → r.variables ≡ h.variables → r.inputs ≡ h.inputs → r.latches ≡ h.latches → r.outputs ≡ capped h.outputs → r.gates ≡ h.gates → HeadIs (header h) (Some r)
