-- What counting all records asks and leaves. Assumes nothing.
use Rattle.std.specs.Prelude.{ℕ, ◌≤◌, ◌≡◌, List, length, replicate}
use Rattle.rules.specs.Records.{groups_of}
use Rattle.placer_start.specs.declared.reservation.Count.{Count}
use Rattle.placer_start.specs.Waiting.{Readable}
use Rattle.placer_start.specs.Reservation.{Counts, Few}

-- a head and a stamp a pin, and a link a number of the records
pub record CountAt (records heads links stamps : List ℕ) : Type 0 where
  pub right : Readable (length heads) records
  pub pins : length heads ≤ 65536
  pub same : length stamps ≡ length heads
  pub room : length records ≤ length links

pub record Counted (records heads links stamps heads' links' stamps' : List ℕ) (r : Count) : Type 0 where
  pub counts : Counts (groups_of records) r
  pub few : Few r
  pub heads_zero : heads' ≡ replicate (length heads) 0
  pub links_zero : links' ≡ replicate (length links) 0
  pub stamps_zero : stamps' ≡ replicate (length stamps) 0
