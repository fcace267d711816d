-- The waiting list, pin after pin and record after record. Assumes nothing.
use mathlib.Core.Path.{◌≡◌, refl, sym, ◌∙◌}
use mathlib.Core.List.{List, [], ◌∷◌}
use Prim.Native.Nat.{ℕ, ◌+◌, ◌<◌, ◌≤◌}
use native.Mathlib.Omega.{arith}
use native.Mathlib.Numerals.{add-one}
use lib.Dec.{ltb}
use lib.ListN.{length, get_or, drop, drop_of_length-le}
use lib.Seq.{drop-cons}
use borrow.Author.Tests.{lt-ltb}
use Rattle.rules.specs.Lists.{keep, insert_all}
use Rattle.rules.specs.Records.{Group, groups, read, group_at, endpoints_of, waiting_of, groups_of, Ends}
use Rattle.rules.proofs.Lists.Members.{split}
use Rattle.records.specs.Values.{size_at, endpoint_at}
use Rattle.records.proofs.Reading.{Stands, standing, size_endpoints, endpoint_is}
use Rattle.checks.proofs.Laws.Passed.{Next, read_next, read_last, endpoint_below, rest_below}
use Rattle.columns.specs.Fields.{WAITING, PLACE}
use Rattle.columns.specs.Area.{Frame}
use Rattle.columns.specs.Lists.{list, WaitAt, Waits, Placed}
use Rattle.columns.proofs.Area.Frames.{frame_none, frame_then, frame_room}
use Rattle.columns.proofs.Lists.Places.{placed_none, placed_self, wait_at}
use Rattle.placer_start.specs.Waiting.{PinWaits, RecordAt, RecordWaits, WaitAllAt, AllWait}

-- ---- a pin

module _ {m n p : ℕ} {w : List ℕ} (A : WaitAt m n p w) where
  -- pin 0 never waits
  pub pin_zero : p ≡ 0 → PinWaits m n p w w n
  unfolding keep insert_all
  pin_zero e = record { frame = frame_none; now = rw (e, keep, insert_all) A.now }

  -- any other pin waits, once
  pub pin_waits : (p ≡ 0 → ⊥) → {w' : List ℕ} {r : ℕ} → Waits m n p w w' r → PinWaits m n p w w' r
  unfolding keep insert_all
  pin_waits ne W = record { frame = W.frame; now = rw (lt-ltb 0 p (omega arith), keep, insert_all) W.now }

-- ---- a record

-- the first pin goes behind the list before the others
pub insert_next : (p : ℕ) (ps xs : List ℕ) → insert_all (keep (ltb 0) (p ∷ ps)) xs ≡ insert_all (keep (ltb 0) ps) (insert_all (keep (ltb 0) (p ∷ [])) xs)
unfolding keep insert_all
insert_next p ps xs = split (ltb 0 p) (λ e. rw (e, keep, insert_all)) (λ e. rw (e, keep, insert_all))

abbrev pins_of : ℕ → List ℕ → List ℕ
pins_of at records = endpoints_of (group_at (drop at records))

-- the first i pins wait
pub record Listing (m n at i size : ℕ) (records w w' : List ℕ) (k : ℕ) : Type 0 where
  pub upto : i ≤ size
  pub frame : Frame (WAITING ∷ PLACE ∷ []) m w w'
  pub now : List ℕ
  pub left : insert_all (keep (ltb 0) (drop i (pins_of at records))) now ≡ insert_all (keep (ltb 0) (pins_of at records)) (list WAITING m n w)
  pub placed : Placed WAITING PLACE m k now w'

module _ {m n at size : ℕ} {records w : List ℕ} (A : RecordAt m n at records w) (es : size ≡ size_at records at) where
  -- at a record's first pin none waits yet
  pub listing_none : Listing m n at 0 size records w w n
  listing_none = record { upto = omega arith; frame = frame_none; now = list WAITING m n w; left = refl; placed = A.now }

  module _ {i k : ℕ} {w₁ : List ℕ} (L : Listing m n at i size records w w₁ k) where
    module _ (h : i < size) (p : ℕ) (e : p ≡ endpoint_at records at i) where
      -- the record's next pin may wait
      pub listing_at : WaitAt m k p w₁
      listing_at = wait_at L.placed (frame_room L.frame A.area) (rw e (A.pins i (omega arith)))

      -- one more pin of the record waits
      pub listing_more : {w₂ : List ℕ} {r : ℕ} → PinWaits m k p w₁ w₂ r → Listing m n at (i + 1) size records w w₂ r
      listing_more W =
          let ps = pins_of at records in
          let ep : get_or ps i 0 ≡ p = sym (e ∙ endpoint_is records at A.whole i) in
          let d : drop i ps ≡ p ∷ drop (i + 1) ps = rw (add-one i, ← ep) (drop-cons ps i 0 (omega (arith, size_endpoints records at A.whole))) in
          record {
            upto = omega arith;
            frame = frame_then L.frame W.frame;
            now = insert_all (keep (ltb 0) (p ∷ [])) L.now;
            left = sym (insert_next p (drop (i + 1) ps) L.now) ∙ rw d at L.left;
            placed = rw L.placed.held.is at W.now;
          }

    -- all of the record's pins wait
    pub listing_done : size ≤ i → RecordWaits m n at records w w₁ k
    unfolding keep insert_all
    listing_done h =
        let ps = pins_of at records in
        let d : drop i ps ≡ [] = drop_of_length-le ps {i = i} (omega (arith, size_endpoints records at A.whole)) in
        record { frame = L.frame; now = rw (← L.left, d, keep, insert_all) L.placed }

-- ---- all records

-- those before an index wait
pub record Gathering (m at : ℕ) (records w w' : List ℕ) (n : ℕ) : Type 0 where
  pub frame : Frame (WAITING ∷ PLACE ∷ []) m w w'
  pub rest : List Group
  pub unread : read (drop at records) ≡ groups rest
  pub named : (q : ℕ) → Ends q rest → q < m
  pub now : List ℕ
  pub left : waiting_of rest now ≡ waiting_of (groups_of records) []
  pub placed : Placed WAITING PLACE m n now w'

module _ {m : ℕ} {records w : List ℕ} (A : WaitAllAt m records w) where
  -- before the first record no pin waits
  pub gathering_none : Gathering m 0 records w w 0
  gathering_none = record { frame = frame_none; rest = groups_of records; unread = A.right.readable; named = A.right.named; now = []; left = refl; placed = placed_none A.clear.zero }

  module _ {at n : ℕ} {w₁ : List ℕ} (G : Gathering m at records w w₁ n) where
    module _ (h : at < length records) where
      next : Next records at G.rest
      next = read_next records at G.rest G.unread h

      -- a whole record stands at the index
      pub gathering_stands : Stands records at
      gathering_stands = standing records at next.whole

      -- the pins of the next record may wait
      pub gathering_at : RecordAt m n at records w₁
      gathering_at = record {
        area = frame_room G.frame A.area;
        whole = next.whole;
        pins = endpoint_below records at G.rest next m G.named;
        now = placed_self G.placed;
      }

      -- the pins of one more record wait
      pub gathering_more : {w₂ : List ℕ} {r : ℕ} → RecordWaits m n at records w₁ w₂ r → (size : ℕ) → size ≡ size_at records at → Gathering m (at + (1 + size)) records w w₂ r
      unfolding waiting_of
      gathering_more W size e = record {
        frame = frame_then G.frame W.frame;
        rest = next.rest;
        unread = rw (e, gathering_stands.size) next.others;
        named = rest_below records at G.rest next m G.named;
        now = insert_all (keep (ltb 0) (endpoints_of (group_at (drop at records)))) G.now;
        left = rw (next.these, waiting_of) at G.left;
        placed = rw G.placed.held.is at W.now;
      }

    -- past the last record the waiting list is whole
    pub gathering_done : length records ≤ at → AllWait m (groups_of records) w w₁ n
    unfolding waiting_of
    gathering_done h = let z = read_last records at G.rest G.unread h in record { frame = G.frame; now = rw (← G.left, z, waiting_of) G.placed }
