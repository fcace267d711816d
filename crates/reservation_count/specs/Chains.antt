-- Each pin's activations in a chain, the newest first. Assumes nothing.
use Rattle.std.specs.Prelude.{ℕ, suc, ◌+◌, ◌*◌, ◌≤◌, ◌<◌, ◌≡◌, true, false, List, [], ◌∷◌, eqb, length, get_or, set, drop}
use Rattle.rules.specs.Lists.{In}
use Rattle.rules.specs.Records.{group_at, groups_of, whole_at, endpoints_of}
use Rattle.rules.specs.Reservation.{Activation, activations, memories}
use Rattle.placer_start.specs.Waiting.{Readable}

-- the code of a record's activation; 0 if it has none
unfoldable pub code_of : List Activation → ℕ
code_of [] = 0
code_of (a ∷ ys) = a.code

abbrev pub added_at : List ℕ → ℕ → List Activation
added_at records i = activations (group_at (drop i records) ∷ [])

unfoldable pub code_at : List ℕ → ℕ → ℕ
code_at records i = code_of (added_at records i)

-- the codes at pin p, the newest first, before those already met
unfoldable pub newest : ℕ → List Activation → List ℕ → List ℕ
newest p [] cs = cs
newest p (a ∷ ys) cs = elim (eqb a.pin p) [ true ↦ newest p ys (a.code ∷ cs) | false ↦ newest p ys cs ]

-- a chain, from one more than an index: its codes are small, and its indices fall
pub data Chain (m : ℕ) (records links : List ℕ) : ℕ → List ℕ → Type 0 where
  none : Chain m records links 0 []
  link : {i : ℕ} {cs : List ℕ} → whole_at (drop i records) ≡ true → code_at records i < 4 * m → get_or links i 0 ≤ i →
      Chain m records links (get_or links i 0) cs → Chain m records links (suc i) (code_at records i ∷ cs)

-- ---- one record

-- heads and links with a record's activation, if it has one
unfoldable pub heads_with : List Activation → ℕ → List ℕ → List ℕ
heads_with [] at heads = heads
heads_with (a ∷ ys) at heads = set heads a.pin (at + 1)

unfoldable pub links_with : List Activation → ℕ → (heads links : List ℕ) → List ℕ
links_with [] at heads links = links
links_with (a ∷ ys) at heads links = set links at (get_or heads a.pin 0)

pub record LinkAt (records : List ℕ) (at : ℕ) (heads links : List ℕ) : Type 0 where
  pub whole : whole_at (drop at records) ≡ true
  pub short : length records ≤ 65536
  pub room : length records ≤ length links
  pub named : (q : ℕ) → In q (endpoints_of (group_at (drop at records))) → q < length heads

pub record Linked (records : List ℕ) (at : ℕ) (heads links heads' links' : List ℕ) (r : ℕ) : Type 0 where
  pub memory : memories (group_at (drop at records) ∷ []) ≡ r
  pub few : r ≤ 1
  pub head : heads' ≡ heads_with (added_at records at) at heads
  pub next : links' ≡ links_with (added_at records at) at heads links

-- ---- all records

pub record ChainsAt (records heads links : List ℕ) : Type 0 where
  pub right : Readable (length heads) records
  pub room : length records ≤ length links
  pub none : (p : ℕ) → get_or heads p 0 ≡ 0

-- each pin's head has a chain of its activations
pub record Chains (records : List ℕ) (ys : List Activation) (heads links : List ℕ) : Type 0 where
  pub before : (p : ℕ) → get_or heads p 0 ≤ length records
  pub chain : (p : ℕ) → p < length heads → Chain (length heads) records links (get_or heads p 0) (newest p ys [])

pub record Chained (records heads links heads' links' : List ℕ) (r : ℕ) : Type 0 where
  pub heads_len : length heads' ≡ length heads
  pub links_len : length links' ≡ length links
  pub memory : memories (groups_of records) ≡ r
  pub few : 2 * r ≤ length records
  pub chains : Chains records (activations (groups_of records)) heads' links'
