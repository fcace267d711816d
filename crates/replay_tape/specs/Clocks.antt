-- One clock over slots: bits at pins, bits handed out, the next bits. Assumes nothing.
use Rattle.std.specs.Prelude.{ℕ, ◌+◌, ◌≤◌, ◌<◌, ◌≡◌, true, false, List, [], ◌∷◌, ◌++◌, map, eqb, length, get_or, set, take, drop}
use Rattle.rules.specs.Graph.{pin_of, inversion_of, literal_of, literal_bit}
use Rattle.rules.specs.Records.{Group, output, flip_flop, memory, staged_pin}
use Rattle.rules.specs.Fold.{as_number}
use Rattle.replay_form.specs.Clocks.{is_one}
use Rattle.replay_form.specs.Tape.{slot_bit, run_tape}
use Rattle.rules.specs.Lists.{Found, nothing, found, laid_over}
use Rattle.replay_tape.specs.Running.{entries_of, RunAt}

-- each pin's bit; the first counts where a pin stands twice
unfoldable pub put_bits : (pins values bits : List ℕ) → List ℕ
put_bits [] vs bits = bits
put_bits (p ∷ ps) vs bits = set (put_bits ps (drop 1 vs) bits) p (as_number (is_one (get_or vs 0 0)))

-- a value for each pin, and pins that are there
pub record PinsAt (pins values bits : List ℕ) : Type 0 where
  pub enough : length pins ≤ length values
  pub inside : (i : ℕ) → i < length pins → get_or pins i 0 < length bits

-- the bit of a place, 2 × slot + inversion
unfoldable pub place_bit : List ℕ → ℕ → ℕ
place_bit bits a = as_number (literal_bit a (slot_bit bits (pin_of a)))

-- the bits of all places
unfoldable pub handed : (places bits : List ℕ) → List ℕ
handed [] bits = []
handed (a ∷ ls) bits = place_bit bits a ∷ handed ls bits

-- places whose slots have bits, and room
pub record PlacesAt (places bits out : List ℕ) : Type 0 where
  pub room : length out ≡ length places
  pub inside : (i : ℕ) → i < length places → pin_of (get_or places i 0) < length bits
  pub bit : (i : ℕ) → i < length places → get_or bits (pin_of (get_or places i 0)) 0 ≤ 1

-- data where the enable is not 0
unfoldable pub pick : (enable input old : ℕ) → ℕ
pick e d b = elim (eqb e 0) [ true ↦ b | false ↦ d ]

-- flip-flop i's enable and data stand in `out` from its index on
unfoldable pub datas : (flips out state : List ℕ) → List ℕ
datas [] out state = []
datas (j ∷ js) out state = pick (get_or out j 0) (get_or out (j + 1) 0) (get_or state 0 0) ∷ datas js out (drop 1 state)

-- indexes of bits that are handed out
pub record FlipsAt (flips out state : List ℕ) : Type 0 where
  pub room : length state ≡ length flips
  pub inside : (i : ℕ) → i < length flips → get_or flips i 0 + 1 < length out

-- ---- one clock

-- what is asked of a clock
pub record ClockIn (tape places flips driven leaves line bits state out : List ℕ) (pins n : ℕ) : Type 0 where
  pub run : RunAt pins n tape bits
  pub drives : PinsAt driven state bits
  pub lines : PinsAt leaves line bits
  pub room : length out ≡ length places
  pub named : (i : ℕ) → i < length places → pin_of (get_or places i 0) < pins + n
  pub takes : FlipsAt flips out state

-- the pins' bits, those of all slots, those handed out, and the next bits
unfoldable pub bits_at : (tape driven leaves line bits state : List ℕ) → (pins n : ℕ) → List ℕ
bits_at tape driven leaves line bits state pins n = let b = put_bits driven state (put_bits leaves line bits) in laid_over (run_tape (entries_of n tape) (take pins b)) b

-- what it leaves
pub record ClockOut (tape places flips driven leaves line bits state : List ℕ) (pins n : ℕ) (bits' state' out' : List ℕ) : Type 0 where
  pub slots : bits' ≡ bits_at tape driven leaves line bits state pins n
  pub hands : out' ≡ handed places (bits_at tape driven leaves line bits state pins n)
  pub next : state' ≡ datas flips (handed places (bits_at tape driven leaves line bits state pins n)) state

-- ---- the places and indexes of records

-- what a record hands out, by the slot that a pin is read from
unfoldable pub record_places : (ℕ → ℕ) → Group → List ℕ
record_places read (output l) = literal_of (read (pin_of l)) (inversion_of l) ∷ []
record_places read (flip_flop e d) = literal_of (read (pin_of e)) (inversion_of e) ∷ literal_of (read (pin_of d)) (inversion_of d) ∷ []
record_places read (memory ls) = map (λ l. literal_of (read (pin_of l)) (inversion_of l)) ls
record_places read (staged_pin p) = literal_of (read p) 0 ∷ []

-- what all records hand out
unfoldable pub places_of : (ℕ → ℕ) → List Group → List ℕ
places_of read [] = []
places_of read (x ∷ xs) = record_places read x ++ places_of read xs

-- where the flip-flops' bits are handed out, from index j on
unfoldable pub flips_from : ℕ → List Group → List ℕ
flips_from j [] = []
flips_from j (output l ∷ xs) = flips_from (j + 1) xs
flips_from j (flip_flop e d ∷ xs) = j ∷ flips_from (j + 2) xs
flips_from j (memory ls ∷ xs) = flips_from (j + length ls) xs
flips_from j (staged_pin p ∷ xs) = flips_from (j + 1) xs

-- the slot that a pin is read from, by where it is written; slot 0 if nowhere
unfoldable pub read_slot : (slots : List ℕ) → Found → ℕ
read_slot slots nothing = 0
read_slot slots (found p) = get_or slots p 0
