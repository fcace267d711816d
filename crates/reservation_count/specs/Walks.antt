-- Chains, walked with stamps. Assumes nothing.
use Rattle.std.specs.Prelude.{ℕ, ◌+◌, ◌*◌, ◌%◌, ◌≤◌, ◌<◌, ◌≡◌, Bool, not, List, eqb, length, get_or, set}
use Rattle.rules.specs.Lists.{keep, distinct}
use Rattle.rules.specs.Fold.{as_number}
use Rattle.rules.specs.Records.{groups_of}
use Rattle.rules.specs.Reservation.{activations, duplicates}
use Rattle.placer_start.specs.Waiting.{Readable}
use Rattle.reservation_count.specs.Chains.{Chain, Chains}

-- has a code this residue
unfoldable pub residue : ℕ → ℕ → Bool
residue r c = eqb (c % 4) r

pub record StampAt (l : List ℕ) (k : ℕ) : Type 0 where
  pub here : k < length l

pub record Stamped (l : List ℕ) (k id : ℕ) (l' : List ℕ) (r : ℕ) : Type 0 where
  pub is : l' ≡ set l k id
  pub new : r ≡ as_number (not (eqb (get_or l k 0) id))
  pub few : r ≤ 1

-- cs is the chain from a head, and no stamp has this number
pub record WalkAt (records links l : List ℕ) (head id : ℕ) (cs : List ℕ) : Type 0 where
  pub short : length records ≤ 65536
  pub room : length records ≤ length links
  pub chain : Chain (length l) records links head cs
  pub inside : head ≤ length records
  pub fresh : (k : ℕ) → get_or l k 0 < id

pub record Walked (head r id : ℕ) (cs l l' : List ℕ) (n : ℕ) : Type 0 where
  pub len : length l' ≡ length l
  pub below : (k : ℕ) → get_or l' k 0 ≤ id
  pub few : n ≤ head
  pub is : n ≡ length (distinct (keep (residue r) cs))

pub record AllAt (records links l : List ℕ) (head base : ℕ) (cs : List ℕ) : Type 0 where
  pub short : length records ≤ 65536
  pub room : length records ≤ length links
  pub chain : Chain (length l) records links head cs
  pub inside : head ≤ length records
  pub fresh : (k : ℕ) → get_or l k 0 ≤ base
  pub small : base + 4 < 4294967296

pub record AllWalked (head base : ℕ) (cs l l' : List ℕ) (n : ℕ) : Type 0 where
  pub len : length l' ≡ length l
  pub below : (k : ℕ) → get_or l' k 0 ≤ base + 4
  pub few : n ≤ head
  pub is : n ≡ length (distinct cs)

pub record SumAt (records heads links l : List ℕ) : Type 0 where
  pub right : Readable (length heads) records
  pub pins : length heads ≤ 65536
  pub room : length records ≤ length links
  pub same : length l ≡ length heads
  pub chains : Chains records (activations (groups_of records)) heads links
  pub none : (k : ℕ) → get_or l k 0 ≡ 0

pub record Summed (records l l' : List ℕ) (r : ℕ) : Type 0 where
  pub len : length l' ≡ length l
  pub few : r ≤ 65535 * length l
  pub double : duplicates (groups_of records) ≡ r
