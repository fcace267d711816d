-- The reservation of a plan's records. Assumes nothing.
use Rattle.std.specs.Prelude.{ℕ, ◌≤◌, List, length}
use Rattle.rules.specs.Graph.{pin_count}
use Rattle.rules.specs.Records.{groups_of}
use Rattle.placer_start.specs.declared.reservation.Count.{Count}
use Rattle.placer_start.specs.Waiting.{Readable}
use Rattle.placer_start.specs.Reservation.{Counts, Few}

pub record RoomAt (gates records : List ℕ) : Type 0 where
  pub right : Readable (pin_count gates) records
  pub few : pin_count gates ≤ 65536

pub record InAt (records heads links stamps : List ℕ) (pins : ℕ) : Type 0 where
  pub right : Readable pins records
  pub few : pins ≤ 65536
  pub head : pins ≤ length heads
  pub link : length records ≤ length links
  pub stamp : pins ≤ length stamps

pub record RoomCounted (records : List ℕ) (r : Count) : Type 0 where
  pub counts : Counts (groups_of records) r
  pub few : Few r
