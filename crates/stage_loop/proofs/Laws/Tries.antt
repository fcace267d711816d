-- What the loop changes, the needed pins counted, rule 7, and one try of a pin at a cell. Assumes nothing.
use Prim.Native.Nat.{ℕ, ◌+◌, ◌-◌, ◌*◌, ◌≤◌, ◌<◌}
use mathlib.Core.Path.{◌≡◌, refl, sym, ap, ◌∙◌}
use mathlib.Core.Bool.{true, false}
use mathlib.Core.List.{List, [], ◌∷◌}
use native.Mathlib.Omega.{arith}
use lib.ListN.{length, get_or}
use Rattle.rules.specs.Lists.{nothing, found}
use Rattle.rules.specs.Cells.{level_one_size}
use Rattle.rules.specs.Placing.{placed}
use Rattle.rules.specs.Inside.Lean.{wanted, room_for, recount}
use Rattle.rules.specs.Inside.Plans.{Fair}
use Rattle.rules.proofs.Lists.Parts.{part_same}
use Rattle.rules.proofs.Tree.Fair.{fair_kept, bare}
use Rattle.rules.proofs.Tree.Back.{taken_back}
use Rattle.rules.proofs.Lean.Turns.{recount_bound, recount_count, recount_full}
use Rattle.columns.specs.Area.{Room, Frame, among}
use Rattle.columns.specs.Fields.{CELLS, RANKED, STARTS, ENDS, STACK, MARK, ONES, PINS, FILLED}
use Rattle.columns.specs.Lists.{Marks}
use Rattle.stage_needed.specs.Needed.{CountAt, Needed}
use Rattle.stage_needed.proofs.Laws.Collecting.{asking_frame}
use Rattle.columns.proofs.Area.Frames.{frame_none, frame_then, frame_more, frame_col, frame_room}
use Rattle.columns.proofs.Lists.Entries.{holds_frame}
use Rattle.columns.proofs.Lists.Marks.{marks_frame}
use Rattle.columns.proofs.Lists.Places.{placed_frame}
use Rattle.stage_walk.specs.Stands.{Context, Begun, Levelled, Listed, Set, Tally, ranked}
use Rattle.stage_walk.proofs.Contexts.{work}
use Rattle.stage_tree.specs.Counts as counts
use Rattle.stage_tree.specs.Counts.{room_in}
use Rattle.stage_tree.specs.Bits as bits
use Rattle.stage_tree.proofs.Counts.Kept.{tally_frame, counts as counts_of_lem}
use Rattle.stage_notes.specs.Taken.{Taken}
use Rattle.stage_notes.specs.Notes.{notes, weighed, NoteAt, Noted, telling}
use Rattle.stage_notes.proofs.Noting.{notes_same}
use Rattle.std.specs.Prelude.{Ok, Err}
use Rattle.stage_loop.specs.declared.lean.NoRoom.{NoRoom}
use Rattle.stage_loop.specs.Loop.{Kept, Moved, Changed, NotedSet, Counted, SettleAt, Settled, TryAt, Tried}

-- ---- the frame

-- nothing changed, so nothing but counts and needed pins did
pub kept_none : (m : ℕ) (w : List ℕ) → Kept m w w
kept_none m w = record { frame = frame_none; rest = λ j a b c d. refl }

-- two changes of the counts and needed pins are one
pub kept_then : {m : ℕ} {u v w : List ℕ} → Kept m u v → Kept m v w → Kept m u w
kept_then a b = record { frame = frame_then a.frame b.frame; rest = λ j x y z t. b.rest j x y z t ∙ a.rest j x y z t }

-- placing and taking back change the counts alone
pub kept_counts : {m : ℕ} {w w' : List ℕ} → counts.Kept m w w' → Kept m w w'
kept_counts k = record { frame = frame_more refl k.frame; rest = k.rest }

-- where their column is not named the ranked lists stay
ranked_frame : {fs : List ℕ} {m : ℕ} {w w' : List ℕ} → Frame fs m w w' → among fs RANKED ≡ false → (i e : ℕ) → i ≤ e → e ≤ m → ranked m w' i e ≡ ranked m w i e
unfolding ranked
ranked_frame {m = m} {w = w} {w' = w'} f n i e a b = part_same (e - i) (RANKED * m + i) w' w f.len
    (λ j c d. let z : j ≡ RANKED * m + (j - RANKED * m) = omega arith in
    ap (λ (x : ℕ). get_or w' x 0) z ∙ f.cell RANKED n (omega arith) (j - RANKED * m) (omega arith) ∙ sym (ap (λ (x : ℕ). get_or w x 0) z))

-- a change of counts, needed pins and notes leaves the ranked lists
pub ranked_kept : {m : ℕ} {w w' : List ℕ} → Moved m w w' → (i e : ℕ) → i ≤ e → e ≤ m → ranked m w' i e ≡ ranked m w i e
ranked_kept k = ranked_frame k.frame refl

-- the notes of pins taken back may change too
pub kept_moved : {m : ℕ} {w w' : List ℕ} → Kept m w w' → Moved m w w'
kept_moved {m} k = record {
  frame = k.frame;
  low = λ j h. k.rest (16 * m + j) (omega arith) (λ e. omega arith) (λ e. omega arith) (λ e. omega arith);
  past = λ j h. k.rest (16 * m + j) (omega arith) (λ e. omega arith) (λ e. omega arith) (λ e. omega arith);
}

-- where only the counts and the needed pins changed, they stay
pub notes_kept : {m : ℕ} {w w' : List ℕ} → Kept m w w' → notes m w' ≡ notes m w
notes_kept {m} {w} {w'} k = notes_same m w w' (λ j a b. k.rest (16 * m + j) (omega arith) (λ e. omega arith) (λ e. omega arith) (λ e. omega arith))

-- a note is such a change
noted_moved : {m h : ℕ} {ts : List Taken} {w w' : List ℕ} → Noted m h ts w w' → Moved m w w'
noted_moved k = record { frame = frame_more refl k.frame; low = λ j h. k.low j (omega arith); past = k.past }

-- nothing changed
pub moved_none : (m : ℕ) (w : List ℕ) → Moved m w w
moved_none m w = kept_moved (kept_none m w)

-- two such changes are one
pub moved_then : {m : ℕ} {u v w : List ℕ} → Moved m u v → Moved m v w → Moved m u w
moved_then a b = record { frame = frame_then a.frame b.frame; low = λ j h. b.low j h ∙ a.low j h; past = λ j h. b.past j h ∙ a.past j h }

-- the pins noted for rule 6 may change too
pub moved_changed : {m : ℕ} {w w' : List ℕ} → Moved m w w' → Changed m w w'
moved_changed k = record { frame = frame_more refl k.frame; low = k.low; past = k.past }

-- two changes are one
pub changed_then : {m : ℕ} {u v w : List ℕ} → Changed m u v → Changed m v w → Changed m u w
changed_then a b = record { frame = frame_then a.frame b.frame; low = λ j h. b.low j h ∙ a.low j h; past = λ j h. b.past j h ∙ a.past j h }

-- what the stage starts from stays
module _ {m : ℕ} {w w' : List ℕ} (f : Changed m w w') {C : Context} where
  begun_changed : {n : ℕ} {gates : List ℕ} → Begun C m n gates w → Begun C m n gates w'
  begun_changed B = record {
    base = record { area = frame_room f.frame B.base.area; size = B.base.size; graph = B.base.graph; pair = B.base.pair };
    done = marks_frame B.done f.frame refl (omega arith);
    waiting = placed_frame B.waiting f.frame refl refl (omega arith) (omega arith);
  }

  levelled_changed : Levelled C m w → Levelled C m w'
  levelled_changed L = record { levels = frame_col f.frame 2 refl (omega arith) ∙ L.levels }

  listed_changed : Listed C m w → Listed C m w'
  listed_changed L =
      let at : (h : ℕ) → h < m → get_or w' (STARTS * m + h) 0 ≡ get_or w (STARTS * m + h) 0 = λ h b. f.frame.cell STARTS refl (omega arith) h b in
      let at2 : (h : ℕ) → h < m → get_or w' (ENDS * m + h) 0 ≡ get_or w (ENDS * m + h) 0 = λ h b. f.frame.cell ENDS refl (omega arith) h b in
      record {
        lists = λ h a b c. rw (at h c, at2 h c) (ranked_frame f.frame refl (get_or w (STARTS * m + h) 0) (get_or w (ENDS * m + h) 0) (L.spans h a b c).0 (L.spans h a b c).1 ∙ L.lists h a b c);
        spans = λ h a b c. rw (at h c, at2 h c) (L.spans h a b c);
      }

-- all of it
pub set_kept : {C : Context} {m n k : ℕ} {gates w w' : List ℕ} → Changed m w w' → Set C m n k gates w → Set C m n k gates w'
set_kept f S = record {
  begun = begun_changed f S.begun;
  ordered = record { order = holds_frame S.ordered.order f.frame refl (omega arith) };
  levelled = levelled_changed f S.levelled;
  listed = listed_changed f S.listed;
}

-- where the pins noted for rule 6 stay, what the loop reads does
pub noted_kept : {C : Context} {m n k : ℕ} {gates w w' : List ℕ} → Moved m w w' → NotedSet C m n k gates w → NotedSet C m n k gates w'
noted_kept k S = record {
  begun = begun_changed (moved_changed k) S.begun;
  levelled = levelled_changed (moved_changed k) S.levelled;
  listed = listed_changed (moved_changed k) S.listed;
  asking = asking_frame S.asking k.frame refl;
}

-- and marks that mark nothing
pub clear_kept : {m : ℕ} {w w' : List ℕ} → Moved m w w' → Marks MARK m [] w → Marks MARK m [] w'
clear_kept k c = marks_frame c k.frame refl (omega arith)

-- ---- the needed pins

module _ {C : Context} {m n k half most : ℕ} {gates pl w : List ℕ} (A : SettleAt C m n k half most gates pl w) where
  -- the needed pins of the plan may be counted
  pub count_at : CountAt C pl m n STACK k gates w
  count_at = record { begun = A.set.begun; asking = A.set.asking; levelled = A.set.levelled; cells = A.tally.cells; unmarked = A.clear }

  -- their count is told, and nothing else that the loop reads is changed
  pub counted : {w' : List ℕ} {r : ℕ} → Needed C pl m w w' r → Counted C m pl w w' r
  counted N = record {
    count = sym N.list.count;
    few = N.list.few;
    kept = record { frame = frame_more refl N.frame; rest = λ j a b c d. N.frame.past refl j a };
    tally = tally_frame N.frame refl refl A.tally;
  }

-- ---- rule 7

-- rule 7's test by the counts is the one of the rules
pub room_is : (C : Context) (m half b : ℕ) (pl w : List ℕ) → Tally C m pl w → half ≡ level_one_size C.X.K → room_in m half b w ≡ room_for C.X b pl
unfolding room_for room_in
room_is C m half b pl w t e = rw (t.ones, t.pins, e)

module _ {C : Context} {m n k half most : ℕ} {gates pl w : List ℕ} (A : SettleAt C m n k half most gates pl w) where
  -- room for the bound: it serves again
  pub settled_bound : room_in m half most w ≡ true → Settled C m most pl w w (Ok most)
  settled_bound t =
      let e : recount C.X most pl ≡ found most = recount_bound C.X most pl (sym (room_is C m half most pl w A.tally A.cap) ∙ t) in
      record { is = sym e; count = tt; few = A.few; kept = kept_none m w; tally = A.tally }

  module _ {w' : List ℕ} {c : ℕ} (t : room_in m half most w ≡ false) (N₀ : Counted C m pl w w' c) where
    no_bound : room_for C.X most pl ≡ false
    no_bound = sym (room_is C m half most pl w A.tally A.cap) ∙ t

    -- no room for the bound, but for the count: the count is the new bound
    pub settled_count : room_in m half c w' ≡ true → Settled C m most pl w w' (Ok c)
    settled_count s =
        let e : recount C.X most pl ≡ found (length (wanted C.X pl)) = recount_count C.X most pl no_bound (rw N₀.count at (sym (room_is C m half c pl w' N₀.tally A.cap) ∙ s)) in
        record { is = rw N₀.count (sym e); count = tt; few = N₀.few; kept = N₀.kept; tally = N₀.tally }

    -- no room for the count either: the pin must go
    pub settled_full : room_in m half c w' ≡ false → Settled C m most pl w w' (Err (record { 0 = c }))
    settled_full s =
        let e : recount C.X most pl ≡ nothing = recount_full C.X most pl no_bound (rw N₀.count at (sym (room_is C m half c pl w' N₀.tally A.cap) ∙ s)) in
        record { is = sym e; count = (N₀.count, N₀.few); few = tt; kept = N₀.kept; tally = N₀.tally }

-- ---- one try

module _ {C : Context} {m n k h wd half p q most : ℕ} {gates pl w : List ℕ} (A : TryAt C m n k h wd half p q most gates pl w) where
  spot : bits.Spot C m h p pl w
  spot = record {
    area = A.plan.set.begun.base.area;
    size = A.plan.set.begun.base.size;
    tally = counts_of_lem A.plan.tally;
    len = A.plan.fair.len;
    high = A.wide.high;
    from = A.able.row;
    to = A.able.end;
  }

  -- the pin may be placed at the cell
  pub place_at : bits.PlaceAt C m h wd p q gates pl w
  place_at = record {
    bit = record {
      spot = spot;
      base = A.plan.set.begun.base;
      levelled = A.plan.set.levelled;
      row = A.wide.row;
      under = rw A.wide.row (bare (work C) h p q A.plan.fair A.able);
      listed = A.able.listed;
    };
    total = A.plan.tally.total;
  }

  module _ {pl1 w1 : List ℕ} (P : bits.Placed C m h wd p q pl w pl1 w1) where
    plan_is : pl1 ≡ placed C.X h p q pl
    unfolding placed
    plan_is = rw A.wide.row at P.plan

    fair_after : Fair C.X h pl1
    fair_after = rw plan_is (fair_kept (work C) h p q A.plan.fair A.able)

    -- the pin placed, the needed pins may be settled
    pub after_place : SettleAt C m n k half most gates pl1 w1
    after_place = record { set = noted_kept (kept_moved (kept_counts P.kept)) A.plan.set; clear = clear_kept (kept_moved (kept_counts P.kept)) A.plan.clear; tally = P.tally; cap = A.cap; few = A.few }

    -- where the needed pins have room the pin stays
    pub tried_some : {w2 : List ℕ} {b : ℕ} → Settled C m most pl1 w1 w2 (Ok b) → Tried C m h p q most pl w pl1 w2 (Ok b)
    tried_some T = record {
      is = rw plan_is at T.is;
      few = T.few;
      plan = plan_is;
      told = notes_kept (kept_then (kept_counts P.kept) T.kept);
      kept = kept_moved (kept_then (kept_counts P.kept) T.kept);
      tally = T.tally;
    }

    module _ {w2 : List ℕ} {c : NoRoom} (T : Settled C m most pl1 w1 w2 (Err c)) where
      there : Room m w2
      there = (noted_kept (kept_moved T.kept) (noted_kept (kept_moved (kept_counts P.kept)) A.plan.set)).begun.base.area

      -- where they have none the pin may be noted
      pub note_at_lem : NoteAt m h c.0 w2
      note_at_lem = record { area = there; level = omega (arith, A.wide.high, C.high); few = omega (arith, T.count.1, there.small) }

      module _ {w3 : List ℕ} (N : Noted m h (telling m q c.0 w2 ∷ []) w2 w3) where
        tally_noted : Tally C m pl1 w3
        tally_noted = record {
          cells = λ x b. N.frame.cell CELLS refl (omega arith) x b ∙ T.tally.cells x b;
          ones = N.low ONES (omega arith) ∙ T.tally.ones;
          pins = N.low PINS (omega arith) ∙ T.tally.pins;
          total = N.low FILLED (omega arith) ∙ T.tally.total;
        }

        -- and taken back
        pub back_at : bits.PurgeAt C m h wd p pl1 w3
        back_at = record {
          back = record {
            spot = record {
              area = frame_room N.frame there;
              size = A.plan.set.begun.base.size;
              tally = counts_of_lem tally_noted;
              len = fair_after.len;
              high = A.wide.high;
              from = A.able.row;
              to = A.able.end;
            };
            row = A.wide.row;
            tall = fair_after.tall;
          };
          total = tally_noted.total;
        }

        -- the note tells what the rules count
        note_is : telling m q c.0 w2 ≡ weighed C.X q (placed C.X h p q pl)
        unfolding telling weighed
        note_is = rw (T.tally.ones, T.tally.pins, T.count.0, plan_is)

        -- the pin taken back, the plan is as before
        pub tried_none : {pl3 w4 : List ℕ} → bits.Purged C m h wd p pl1 w3 pl3 w4 → Tried C m h p q most pl w pl3 w4 (Err c)
        tried_none B = record {
          is = rw plan_is at T.is;
          few = T.few;
          plan = B.plan ∙ rw (plan_is, A.wide.row) (taken_back (work C) h p q A.plan.fair A.able);
          told = notes_kept (kept_counts B.kept) ∙ N.is ∙ rw (note_is, notes_kept (kept_then (kept_counts P.kept) T.kept)) refl;
          kept = moved_then (kept_moved (kept_then (kept_counts P.kept) T.kept)) (moved_then (noted_moved N) (kept_moved (kept_counts B.kept)));
          tally = B.tally;
        }
