-- The tape of a plan, from its cells alone: one AND an entry, each over slots before it, so that a clock costs what is filled. Slots 0 to N hold the
-- pins' own bits, and entry k, from 0, fills slot N + 1 + k. A cell that copies, loads or is empty has the slot of what it copies or loads, or slot 0.
-- Assumes nothing.
use Rattle.std.specs.Prelude.{ℕ, zero, suc, ◌+◌, ◌-◌, Bool, true, false, ◌&&◌, List, [], ◌∷◌, ◌++◌, leb, ltb, length, get_or, take, drop}
use Rattle.rules.specs.Lists.{Found, nothing, found, padded}
use Rattle.rules.specs.Cells.{empty, filled, width, stage_size, rooms, first_lower, second_lower}
use Rattle.rules.specs.Graph.{Node, leaf, gate, pin_of, literal_of, literal_bit}
use Rattle.rules.specs.Build.{Stage, cells_of}
use Rattle.rules.specs.Fold.{lowest, as_number}
use Rattle.rules.specs.Coded.{cell_pin, ands, first_inversion, second_inversion, pins}
use Rattle.replay_form.specs.Clocks.{is_one, ones, Circuit, Valuation, Ran, run}
use Rattle.replay_form.specs.Plans.{written_at}

-- ---- running it

-- the bit of a slot
unfoldable pub slot_bit : List ℕ → ℕ → Bool
slot_bit bits s = is_one (get_or bits s 0)

-- an entry is a gate of two literals, 2 × slot + inversion
unfoldable pub entry_bit : List ℕ → Node → Bool
entry_bit bits leaf = false
entry_bit bits (gate a b) = literal_bit a (slot_bit bits (pin_of a)) && literal_bit b (slot_bit bits (pin_of b))

-- each entry's bit behind those before it
unfoldable pub run_tape : List Node → List ℕ → List ℕ
run_tape [] bits = bits
run_tape (x ∷ xs) bits = run_tape xs (bits ++ (as_number (entry_bit bits x) ∷ []))

-- ---- making it

-- a cell's bit is in a slot that is there, or is a new entry's
pub data Source : Type 0 where
  old : ℕ → Source
  new : Node → Source

-- an entry over two slots, inverted as cell c says
unfoldable pub and_source : (c first second : ℕ) → Source
and_source c s t = new (gate (literal_of s (first_inversion c)) (literal_of t (second_inversion c)))

-- the cell at position p, by the slots of loads and of higher positions
unfoldable pub source_at : ℕ → List ℕ → (load slot : ℕ → ℕ) → ℕ → Source
source_at K cl load slot p =
    elim (filled (get_or cl p empty)) [
      | false ↦ old 0
      | true ↦ elim (leb (width K) p) [
        | true ↦ old (load (cell_pin (get_or cl p empty)))
        | false ↦ elim (ands (get_or cl p empty)) [
          | false ↦ old (slot (first_lower p))
          | true ↦ elim (filled (get_or cl (first_lower p) empty) && filled (get_or cl (second_lower p) empty)) [
            | true ↦ and_source (get_or cl p empty) (slot (first_lower p)) (slot (second_lower p))
            | false ↦ old 0
          ]
        ]
      ]
    ]

-- the slots of the positions so far, and the tape
pub record Made : Type 0 where
  pub slots : List ℕ
  pub tape : List Node

-- one position lower; m is the number of pins with pin 0
unfoldable pub put : ℕ → Made → Source → Made
put m r (old s) = record { slots = s ∷ r.slots; tape = r.tape }
put m r (new x) = record { slots = (m + length r.tape) ∷ r.slots; tape = r.tape ++ (x ∷ []) }

-- the n highest positions of a stage: lower cells stand higher, so they come first
unfoldable pub scan : ℕ → ℕ → ℕ → List ℕ → (ℕ → ℕ) → List Node → Made
scan zero m K cl load tape = record { slots = []; tape = tape }
scan (suc n) m K cl load tape =
    let r = scan n m K cl load tape in
    put m r (source_at K cl load (λ q. get_or r.slots (q - (stage_size K - n)) 0) (stage_size K - suc n))

-- a stage; position 0 is no cell
unfoldable pub stage_made : ℕ → ℕ → List ℕ → (ℕ → ℕ) → List Node → Made
stage_made m K cl load tape = let r = scan (stage_size K - 1) m K cl load tape in record { slots = 0 ∷ r.slots; tape = r.tape }

-- where a stage finds a pin of the stage before
unfoldable pub later_slot : ℕ → List ℕ → (slots : List ℕ) → ℕ → ℕ
later_slot K cl slots n = elim (lowest K (pins cl) n) [ nothing ↦ 0 | found p ↦ get_or slots p 0 ]

-- and where the first finds one: in the pin's own slot
unfoldable pub first_slot : ℕ → ℕ → ℕ
first_slot m n = elim (ltb n m) [ true ↦ n | false ↦ 0 ]

-- n stages of a plan
unfoldable pub made_from : ℕ → ℕ → ℕ → (ℕ → ℕ) → List Node → List ℕ → Made
made_from zero m K load tape plan = record { slots = []; tape = tape }
made_from (suc n) m K load tape plan =
    let s = stage_made m K (take (stage_size K) plan) load tape in
    let r = made_from n m K (later_slot K (take (stage_size K) plan) s.slots) s.tape (drop (stage_size K) plan) in
    record { slots = s.slots ++ r.slots; tape = r.tape }

-- the tape of some stages in a plan area
unfoldable pub made : ℕ → (m size : ℕ) → List Stage → Made
made K m size ss = made_from (rooms K size) m K (first_slot m) [] (padded size empty (cells_of ss))

-- ---- a plan run by its tape

-- the bit of the slot that a found place has
unfoldable pub slot_in : List ℕ → (slots : List ℕ) → Found → Bool
slot_in bits slots nothing = false
slot_in bits slots (found p) = slot_bit bits (get_or slots p 0)

-- the tape gives the pins their bits
unfoldable pub tape_bits : ℕ → (m size : ℕ) → List Stage → Valuation
tape_bits K m size ss =
    let c = made K m size ss in
    λ bits. let b = run_tape c.tape bits in λ q. slot_in b c.slots (written_at (stage_size K) 0 q ss)

-- a run of the tape
unfoldable pub tape_run : ℕ → (m size : ℕ) → List Stage → Circuit → ℕ → (recording starting : List ℕ) → Ran
tape_run K m size ss C n recording starting = run C (tape_bits K m size ss) n recording (ones starting)
