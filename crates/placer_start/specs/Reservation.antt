-- The reservation, record after record, with a chain of distinct activations a pin. Assumes nothing.
use Rattle.std.specs.Prelude.{◌≡◌, Bool, true, false, not, Option, Some, None, List, [], ◌∷◌, ◌++◌, ℕ, suc, ◌+◌, ◌*◌, ◌<◌, ◌≤◌, length, get_or, set, drop}
use Rattle.rules.specs.Lists.{mem, In}
use Rattle.rules.specs.Cells.{word_limit}
use Rattle.rules.specs.Records.{Group, group_at, whole_at, endpoints_of}
use Rattle.rules.specs.Reservation.{Activation, activations, codes_at, duplicates, memories, reserved, reservable}
use Rattle.rules.specs.Inside.Counts.{repeats}
use Rattle.columns.specs.Fields.{RANKED, TAIL, RECORDS}
use Rattle.columns.specs.Area.{Room, Frame}
use Rattle.columns.specs.Lists.{Clear}
use Rattle.placer_start.specs.declared.reservation.Added.{Added}
use Rattle.placer_start.specs.declared.reservation.Added.TheVariants.{Memory, Code}
use Rattle.placer_start.specs.declared.reservation.Count.{Count}
use Rattle.placer_start.specs.Waiting.{Readable}

-- ---- what a record adds

unfoldable pub codes_of : Added → List Activation
codes_of Memory = []
codes_of (Code p c) = record { pin = p.0; code = c } ∷ []

unfoldable pub memories_of : Added → ℕ
memories_of Memory = 1
memories_of (Code p c) = 0

-- a whole record stands at an index
pub record WholeAt (at : ℕ) (records : List ℕ) : Type 0 where
  pub whole : whole_at (drop at records) ≡ true

pub record AddsGroup (x : Group) (r : Added) : Type 0 where
  pub codes : activations (x ∷ []) ≡ codes_of r
  pub memory : memories (x ∷ []) ≡ memories_of r

-- ---- chains

-- the activation with index i, and one more than the index of the next in its pin's chain, 0 for none
abbrev pub code_of : ℕ → List ℕ → ℕ → ℕ
code_of m w i = get_or w (16 * m + (RECORDS + 2 * i)) 0

abbrev pub next_of : ℕ → List ℕ → ℕ → ℕ
next_of m w i = get_or w (16 * m + (RECORDS + 2 * i + 1)) 0

-- from one more than an index: the activations from the oldest to the newest. Indices fall along the chain
pub data Chain (m : ℕ) (w : List ℕ) : ℕ → List ℕ → Type 0 where
  none : Chain m w 0 []
  link : {i : ℕ} {cs : List ℕ} → next_of m w i ≤ i → Chain m w (next_of m w i) cs → Chain m w (suc i) (cs ++ (code_of m w i ∷ []))

pub record ChainAt (m head : ℕ) (cs w : List ℕ) : Type 0 where
  pub room : 16 * m + RECORDS + 2 * head ≤ length w
  pub chain : Chain m w head cs

pub record Knows (code : ℕ) (cs : List ℕ) (r : Bool) : Type 0 where
  pub is : r ≡ mem code cs

-- what the reservation changes: heads, and the tail's numbers of the first e indices
pub record Touched (m e : ℕ) (w w' : List ℕ) : Type 0 where
  pub frame : Frame (RANKED ∷ TAIL ∷ []) m w w'
  pub low : (j : ℕ) → j < RECORDS → get_or w' (16 * m + j) 0 ≡ get_or w (16 * m + j) 0
  pub past : (j : ℕ) → 16 * m + RECORDS + 2 * e ≤ j → get_or w' j 0 ≡ get_or w j 0

pub record LinkAt (m k p head code : ℕ) (w : List ℕ) : Type 0 where
  pub area : Room m w
  pub room : 16 * m + RECORDS + 2 * k + 2 ≤ length w
  pub small : k < 4294967295
  pub pin : p < m
  pub before : head ≤ k
  pub fits : code < 262144

pub record Linked (m k p head code : ℕ) (w w' : List ℕ) : Type 0 where
  pub is : w' ≡ set (set (set w (16 * m + (RECORDS + 2 * k)) code) (16 * m + (RECORDS + 2 * k + 1)) head) (RANKED * m + p) (k + 1)

-- each pin has a chain of its activations among ys, all with indices below k
pub record Chains (m k : ℕ) (ys : List Activation) (w : List ℕ) : Type 0 where
  pub before : (p : ℕ) → p < m → get_or w (RANKED * m + p) 0 ≤ k
  pub chain : (p : ℕ) → p < m → Chain m w (get_or w (RANKED * m + p) 0) (codes_at p ys [])

pub record CodeAt (m k p code : ℕ) (ys : List Activation) (w : List ℕ) : Type 0 where
  pub area : Room m w
  pub room : 16 * m + RECORDS + 2 * k + 2 ≤ length w
  pub small : k < 4294967295
  pub pin : p < m
  pub fits : code < 262144
  pub chains : Chains m k ys w

pub record Coded (m k p code : ℕ) (ys : List Activation) (w w' : List ℕ) (r : ℕ) : Type 0 where
  pub touched : Touched m (k + 1) w w'
  pub chains : Chains m (k + 1) (ys ++ (record { pin = p; code = code } ∷ [])) w'
  pub more : repeats (ys ++ (record { pin = p; code = code } ∷ [])) ≡ repeats ys + r
  pub few : r ≤ 1

-- ---- counting

-- the memories and duplicates of some records
pub record Counts (xs : List Group) (count : Count) : Type 0 where
  pub memory : memories xs ≡ count.memories
  pub double : duplicates xs ≡ count.duplicates

-- xs are counted, with indices below k; the record at an index is next
pub record CountAt (m at k : ℕ) (count : Count) (xs : List Group) (records w : List ℕ) : Type 0 where
  pub area : Room m w
  pub room : 16 * m + RECORDS + 2 * k + 2 ≤ length w
  pub small : k < 4294967295
  pub whole : whole_at (drop at records) ≡ true
  pub named : (q : ℕ) → In q (endpoints_of (group_at (drop at records))) → q < m
  pub chains : Chains m k (activations xs) w
  pub counts : Counts xs count
  pub few : count.memories + count.duplicates ≤ k

pub record Counted (m at k : ℕ) (xs : List Group) (records w w' : List ℕ) (r : Count) : Type 0 where
  pub touched : Touched m (k + 1) w w'
  pub chains : Chains m (k + 1) (activations (xs ++ (group_at (drop at records) ∷ []))) w'
  pub counts : Counts (xs ++ (group_at (drop at records) ∷ [])) r
  pub few : r.memories + r.duplicates ≤ k + 1

-- ---- the limits

-- so few that nothing wraps
pub record Few (count : Count) : Type 0 where
  pub few : count.memories + count.duplicates ≤ 4294967295

pub record SetAside (count : Count) (r : ℕ) : Type 0 where
  pub is : (xs : List Group) → Counts xs count → r ≡ reserved xs

pub record Judged (count : Count) (limit : ℕ) (r : Bool) : Type 0 where
  pub is : (K : ℕ) (xs : List Group) → limit ≡ word_limit K → Counts xs count → r ≡ not (reservable K xs)

-- what the rules say: the words set aside, or that they are over
unfoldable pub reservation_of : ℕ → List Group → Option ℕ
reservation_of K xs = elim (reservable K xs) [ true ↦ Some (reserved xs) | false ↦ None ]

pub record ReserveAt (m : ℕ) (records w : List ℕ) : Type 0 where
  pub area : Room m w
  pub room : 16 * m + RECORDS + 8 * length records ≤ length w
  pub right : Readable m records
  pub clear : Clear RANKED m w

-- some groups' words, with indices below e
pub record Reserved (m limit e : ℕ) (gs : List Group) (w w' : List ℕ) (r : Option ℕ) : Type 0 where
  pub touched : Touched m e w w'
  pub answer : (K : ℕ) → limit ≡ word_limit K → r ≡ reservation_of K gs
