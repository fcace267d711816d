-- The loops over the steps: one pin, and all waiting pins. Assumes nothing.
use mathlib.Core.Path.{◌≡◌, refl, sym, ◌∙◌, ap}
use mathlib.Core.Bool.{true, false, not}
use mathlib.Core.List.{List, [], ◌∷◌, reverse, reverse-reverse}
use Prim.Native.Nat.{ℕ, suc, ◌+◌, ◌-◌, ◌*◌, ◌<◌, ◌≤◌}
use native.Mathlib.Omega.{arith}
use native.Mathlib.Numerals.{add-one}
use lib.Dec.{eqb}
use lib.ListN.{length, get_or, set, drop, length-set, drop_of_length-le}
use lib.Seq.{drop-cons, get_or-set_same, get_or-set_other}
use Rattle.rules.specs.Traversal.{thread, visit, traverse, Setting, setting}
use Rattle.columns.specs.Area.{Frame, among}
use Rattle.columns.specs.Fields.{ORDER, DONE, WAITING, LISTED, STACK, PHASE, PLACE}
use Rattle.columns.specs.Lists.{list, Holds}
use Rattle.columns.proofs.Area.Frames.{frame_none, frame_then, frame_set, frame_more}
use Rattle.columns.proofs.Lists.Entries.{frame_list, holds_at, holds_pin, holds_in_lem}
use Rattle.columns.proofs.Lists.Marks.{marked_none, marked_self, marked_frame}
use Rattle.columns.proofs.Lists.Places.{placed_frame}
use Rattle.stage_walk.specs.Stands.{Context, Begun, Reads}
use Rattle.stage_walk.specs.Machine.{Item, item, rest, finish, bottom, some, none, items, seen_in, Going, Went, VisitAt, Visited, TraverseAt, GoOnAt, Swept, WentOn, Traversed}
use Rattle.stage_walk.proofs.Contexts.{order_is}
use Rattle.stage_walk.proofs.Gates.{reads_frame}
use Rattle.stage_walk.proofs.traversal.Fuel.{visit_seen}
use Rattle.stage_walk.proofs.traversal.Area.{listed_test}

-- what a stage starts from can be read
pub begun_reads : {C : Context} {m n : ℕ} {gates w : List ℕ} → Begun C m n gates w → Reads C m gates w
begun_reads B = record { base = B.base; done = B.done }

-- what a stage starts from stays where its columns are not named
pub begun_frame : {C : Context} {m n : ℕ} {gates w : List ℕ} → Begun C m n gates w → {fs : List ℕ} {w' : List ℕ} → Frame fs m w w' → among fs DONE ≡ false → among fs WAITING ≡ false →
    among fs PLACE ≡ false → Begun C m n gates w'
begun_frame {C} B fr a b c =
    let R = reads_frame C (begun_reads B) fr a in
    record { base = R.base; done = R.done; waiting = placed_frame B.waiting fr b c (omega arith) (omega arith) }

-- ---- until the stack is empty

module _ {C : Context} {m : ℕ} {gates : List ℕ} where
  module _ {w₀ : List ℕ} {d₀ n₀ : ℕ} {w : List ℕ} {d n : ℕ} (U : Went C m gates w₀ d₀ n₀ w d n) where
    -- a stack that is not empty has a top
    pub went_top : 0 < d → Going C m gates w (d - 1 + 1) n
    went_top h = let e : d - 1 + 1 ≡ d = omega arith in rw e U.going

-- ---- one pin

-- a listed pin has been visited
pub visited_before : {C : Context} {m : ℕ} {gates w : List ℕ} {n p : ℕ} → VisitAt C m gates w n p → not (eqb (get_or w (LISTED * m + p) 0) 0) ≡ true → Visited C m gates w n p w n
visited_before {C} {m} {gates} {w} {n} {p} A t = record {
  frame = frame_none;
  going = A.going;
  lists = sym (visit_seen C.X.g C.X.done C.r C.S.ranked _ p (seen_in m n w) (sym (listed_test A.going p A.pin) ∙ t));
}

module _ {C : Context} {m : ℕ} {gates w : List ℕ} {n p : ℕ} (A : VisitAt C m gates w n p) (t : not (eqb (get_or w (LISTED * m + p) 0) 0) ≡ false) (v : List ℕ)
    (ev : v ≡ set (set w (STACK * m + 0) p) (PHASE * m + 0) 0) where
  w₂ : List ℕ
  w₂ = set (set w (STACK * m + 0) p) (PHASE * m + 0) 0

  entered : Frame (STACK ∷ PHASE ∷ []) m w v
  entered = rw ev (frame_then (frame_set STACK 0 p (omega (arith, A.pin)) (omega arith) refl) (frame_set PHASE 0 0 (omega (arith, A.pin)) (omega arith) refl))

  one_item : items m v 1 ≡ item p 0 ∷ []
  unfolding items
  one_item = rw (
    ev,
    get_or-set_other (set w (STACK * m + 0) p) (PHASE * m + 0) (STACK * m + 0) 0 0 (λ e. omega (arith, A.pin)),
    get_or-set_same w (STACK * m + 0) p 0 (omega (arith, A.pin, A.going.reads.base.area.room)),
    get_or-set_same (set w (STACK * m + 0) p) (PHASE * m + 0) 0 0 (simp length-set (omega (arith, A.pin, A.going.reads.base.area.room))),
  )

  seen_same : seen_in m n v ≡ seen_in m n w
  seen_same = ap reverse (frame_list entered ORDER n refl (omega arith))

  -- one pin on the stack, which is not listed
  pub visit_going : Going C m gates v 1 n
  visit_going = record {
    reads = reads_frame C A.going.reads entered refl;
    listed = marked_self (marked_frame A.going.listed entered refl refl (omega arith) (omega arith));
    stack = rw one_item (some {p = p} {k = 0} (record {
      pin = rw A.going.reads.base.size A.pin;
      rank = rw A.going.reads.base.size A.rank;
      opened = record { most = omega arith; fresh = rw seen_same (sym (listed_test A.going p A.pin) ∙ t) };
      under = bottom;
    }));
  }

  -- once the stack is empty the pin is visited with all below it
  pub visited : {w' : List ℕ} {n' : ℕ} → Went C m gates v 1 n w' 0 n' → Visited C m gates w n p w' n'
  unfolding finish rest items
  visited U = record {
    frame = frame_then (frame_more refl entered) U.frame;
    going = U.going;
    lists = U.same ∙ ap (λ (s : List Item). finish (length C.X.g) C.X.g C.X.done s (seen_in m n v)) one_item ∙ ap (visit (length C.X.g) C.X.g C.X.done p) seen_same;
  }

-- ---- along the waiting pins

module _ {C : Context} {m n from k₀ : ℕ} {gates w₀ : List ℕ} (A : GoOnAt C m n from k₀ gates w₀) where
  -- at the start no further waiting pin is visited
  pub swept_none : Swept C m n gates w₀ from w₀ k₀
  unfolding items
  swept_none = record { frame = frame_none; begun = A.begun; going = record { reads = begun_reads A.begun; listed = A.listed; stack = none }; same = A.same }

  module _ {i : ℕ} {w : List ℕ} {k : ℕ} (U : Swept C m n gates w₀ i w k) where
    abbrev waits : Holds WAITING m n C.X.waiting w
    waits = U.begun.waiting.held

    -- at the end the order is the traversal, with marks at its pins
    pub went_on : n ≤ i → WentOn C m w₀ w k
    unfolding thread
    went_on h = record { frame = U.frame; listed = rw is at U.going.listed }
      where
        none_left : drop i C.X.waiting ≡ []
        none_left = drop_of_length-le C.X.waiting {i = i} (omega (arith, waits.count))

        is : list ORDER m k w ≡ C.X.order
        is = sym (reverse-reverse (list ORDER m k w)) ∙ ap reverse (rw none_left at U.same) ∙ sym (order_is C)

    module _ (h : i < n) (p : ℕ) (ep : p ≡ get_or w (WAITING * m + i) 0) where
      -- the next waiting pin may be visited
      pub visit_at : VisitAt C m gates w k p
      visit_at = record {
        going = U.going;
        pin = rw ep (holds_pin waits i h);
        rank = omega (arith, (C.R.bounded p (rw ep (holds_in_lem waits i h))).1, U.begun.base.size);
      }

      next : drop i C.X.waiting ≡ p ∷ drop (suc i) C.X.waiting
      next = drop-cons C.X.waiting i 0 (omega (arith, waits.count)) ∙ ap (λ (x : ℕ). x ∷ drop (suc i) C.X.waiting) (sym (ep ∙ holds_at waits i h))

      -- one more waiting pin is visited
      pub swept_more : {w' : List ℕ} {k' : ℕ} → Visited C m gates w k p w' k' → Swept C m n gates w₀ (i + 1) w' k'
      unfolding thread
      swept_more v = record {
        frame = frame_then U.frame v.frame;
        begun = begun_frame U.begun v.frame refl refl refl;
        going = v.going;
        same = rw (add-one i, v.lists) (rw next at U.same);
      }

-- ---- from the first waiting pin

-- with no pin listed it goes on from the first
pub from_none : {C : Context} {m n : ℕ} {gates w : List ℕ} → TraverseAt C m n gates w → GoOnAt C m n 0 0 gates w
unfolding list traverse setting
from_none {C} A = record { begun = A.begun; upto = omega arith; listed = marked_none A.clear.zero; same = sym (ap (λ (Y : Setting). Y.seen) C.is) }

-- and lists the whole order
pub traversed : {C : Context} {m : ℕ} {w w' : List ℕ} {k : ℕ} → WentOn C m w w' k → Traversed C m w w' k
traversed U = record { frame = U.frame; order = U.listed.held; marks = U.listed.marks }
