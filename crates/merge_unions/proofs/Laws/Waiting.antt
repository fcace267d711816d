-- The waiting list, name after name. Assumes nothing.
use mathlib.Core.Path.{◌≡◌, refl}
use mathlib.Core.List.{List, [], ◌∷◌, ◌++◌}
use Prim.Native.Nat.{ℕ, ◌+◌, ◌<◌, ◌≤◌}
use native.Mathlib.Omega.{arith}
use lib.ListN.{length, get_or, take, drop}
use Rattle.rules.specs.Records.{Group, group_at, endpoints_of, waiting_of, groups_of}
use Rattle.rules.proofs.Lists.Members.{in_get_or}
use Rattle.rules.proofs.Reservation.Counting.{waiting_of-snoc}
use Rattle.records.proofs.Reading.{size_endpoints, endpoint_is}
use Rattle.columns.specs.Fields.{WAITING, PLACE}
use Rattle.columns.specs.Area.{Frame}
use Rattle.columns.specs.Lists.{list, Placed}
use Rattle.columns.proofs.Area.Frames.{frame_none, frame_then, frame_room}
use Rattle.columns.proofs.Lists.Places.{placed_none, placed_self}
use Rattle.placer_start.specs.Waiting.{RecordAt, RecordWaits, AllWait}
use Rattle.merge_unions.specs.Names.{picked, Names}
use Rattle.merge_unions.specs.Waiting.{PartAt, PartWaits, BothAt}
use Rattle.merge_unions.proofs.Laws.Names.{picked_none, picked_append, picked_all, waiting_append, names_kept, name_whole, name_pins, name_more}

-- the first i names' pins wait
pub record Gathering (m n i : ℕ) (records names w w' : List ℕ) (k : ℕ) : Type 0 where
  pub upto : i ≤ length names
  pub frame : Frame (WAITING ∷ PLACE ∷ []) m w w'
  pub now : Placed WAITING PLACE m k (waiting_of (picked (groups_of records) (take i names)) (list WAITING m n w)) w'

-- columns alone keep the table
pub framed_names : {m table : ℕ} {records names w w' : List ℕ} → Names m table records names w → Frame (WAITING ∷ PLACE ∷ []) m w w' → Names m table records names w'
framed_names N F = names_kept N F.len (λ j h. F.past refl j (omega (arith, N.behind)))

module _ {m table n : ℕ} {records names w : List ℕ} (A : PartAt m table n records names w) where
  abbrev gs : List Group
  gs = groups_of records

  -- before the first name no pin more waits
  pub gathering_none : Gathering m n 0 records names w w n
  unfolding waiting_of
  gathering_none = record { upto = omega arith; frame = frame_none; now = rw (picked_none gs, waiting_of) A.now }

  module _ {i k : ℕ} {w₁ : List ℕ} (G : Gathering m n i records names w w₁ k) where
    -- the names stay good while their pins wait
    pub gathering_names : Names m table records names w₁
    gathering_names = framed_names A.named G.frame

    module _ (h : i < length names) {at : ℕ} (e : at ≡ get_or w₁ (table + get_or names i 0) 0) where
      -- the next one's pins may wait
      pub gathering_at : RecordAt m k at records w₁
      gathering_at =
          let t = name_whole gathering_names h e in
          let ps : List ℕ = endpoints_of (group_at (drop at records)) in
          record {
            area = frame_room G.frame A.area;
            whole = t;
            pins = λ j b. rw (endpoint_is records at t j) (name_pins gathering_names h e (get_or ps j 0) (in_get_or ps j 0 (omega (arith, size_endpoints records at t))));
            now = placed_self G.now;
          }

      -- the pins of one more name wait
      pub gathering_more : {w₂ : List ℕ} {r : ℕ} → RecordWaits m k at records w₁ w₂ r → Gathering m n (i + 1) records names w w₂ r
      gathering_more W = record {
        upto = omega arith;
        frame = frame_then G.frame W.frame;
        now = rw (name_more gathering_names h e, waiting_of-snoc, ← G.now.held.is) W.now;
      }

    -- past the last name all wait
    pub gathering_done : length names ≤ i → PartWaits m n records names w w₁ k
    gathering_done h = record { frame = G.frame; now = rw (← picked_all gs names i h) G.now }

-- ---- two lists

module _ {m table : ℕ} {records first second w : List ℕ} (A : BothAt m table records first second w) where
  none_waits : list WAITING m 0 w ≡ []
  unfolding list
  none_waits = refl

  -- the first partition's pins may wait
  pub both_first : PartAt m table 0 records first w
  both_first = record { area = A.area; named = A.one; now = rw none_waits (placed_none A.clear.zero) }

  module _ {w₁ : List ℕ} {n : ℕ} (P : PartWaits m 0 records first w w₁ n) where
    -- behind the first partition's pins the second's may wait
    pub both_second : PartAt m table n records second w₁
    both_second = record { area = frame_room P.frame A.area; named = framed_names A.two P.frame; now = placed_self P.now }

    -- the pins of both partitions are the union's waiting list
    pub both_wait : {w₂ : List ℕ} {r : ℕ} → PartWaits m n records second w₁ w₂ r → AllWait m (picked (groups_of records) (first ++ second)) w w₂ r
    both_wait Q = record {
      frame = frame_then P.frame Q.frame;
      now = rw (picked_append (groups_of records) first second, waiting_append (picked (groups_of records) first) (picked (groups_of records) second) [], ← none_waits, ← P.now.held.is) Q.now;
    }
