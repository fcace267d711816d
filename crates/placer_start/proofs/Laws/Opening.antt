-- The reservation, the marks and the waiting list, one after the other. Assumes nothing.
use mathlib.Core.Path.{◌≡◌, refl, sym, ◌∙◌}
use mathlib.Core.List.{List}
use Prim.Native.Nat.{ℕ, ◌+◌, ◌*◌, ◌<◌, ◌≤◌}
use native.Mathlib.Omega.{arith}
use lib.ListN.{length, get_or}
use Rattle.std.specs.Prelude.{Option, Some, None}
use Rattle.rules.specs.Records.{Group}
use Rattle.columns.specs.Fields.{DONE, LEVEL, CELLS, RANKED, STARTS, ENDS, REVERSE, LISTED, PLACE, MARK, SPARE, RECORDS}
use Rattle.columns.specs.Area.{Room, Frame}
use Rattle.columns.specs.Lists.{Clear}
use Rattle.columns.proofs.Area.Columns.{inside}
use Rattle.columns.proofs.Area.Frames.{frame_then, frame_more, frame_room}
use Rattle.columns.proofs.Lists.Marks.{marks_frame}
use Rattle.columns.proofs.Lists.Clears.{clear_frame}
use Rattle.placer_start.specs.Given.{GivenAt, Given}
use Rattle.placer_start.specs.Waiting.{AllWait}
use Rattle.placer_start.specs.Reservation.{Touched, ReserveAt, Reserved}
use Rattle.placer_start.specs.Opening.{BeginAt, Idle, Opens, reservation_for, opened, First, Begins}

-- ---- what is 0 throughout is idle

module _ {m : ℕ} {w : List ℕ} (area : Room m w) (zeros : (j : ℕ) → j < 16 * m + RECORDS → get_or w j 0 ≡ 0) where
  clear_at : (f : ℕ) → f < 16 → Clear f m w
  clear_at f h = record { zero = λ p k. zeros (f * m + p) (omega (arith, inside f m h)) }

  -- an area of zeros is idle
  pub zeros_idle : Idle m w
  zeros_idle = record {
    area = area;
    done = clear_at DONE (omega arith);
    heads = clear_at RANKED (omega arith);
    places = clear_at PLACE (omega arith);
    fresh = record {
      listed = clear_at LISTED (omega arith);
      levels = clear_at LEVEL (omega arith);
      reverse = clear_at REVERSE (omega arith);
      starts = clear_at STARTS (omega arith);
      ends = clear_at ENDS (omega arith);
      spare = clear_at SPARE (omega arith);
    };
    cells = clear_at CELLS (omega arith);
    marks = clear_at MARK (omega arith);
    zeros = λ j h. zeros (16 * m + j) (omega arith);
  }

-- ---- over any groups

module _ {m : ℕ} {given w : List ℕ} (A : Opens m given w) {e : ℕ} {w₁ : List ℕ} (T : Touched m e w w₁) where
  -- behind the reservation the given pins may be marked
  pub given_at : GivenAt m given w₁
  given_at = record { area = frame_room T.frame A.idle.area; clear = clear_frame A.idle.done T.frame refl (omega arith); pins = A.given_named }

  module _ {w₂ : List ℕ} (G : Given m given w₁ w₂) where
    framed : Frame opened m w w₂
    framed = frame_then (frame_more refl T.frame) (frame_more refl G.frame)

    -- the area is as long as before
    pub opened_room : Room m w₂
    opened_room = frame_room framed A.idle.area

    -- no pin has a place in the waiting list yet
    pub opened_places : Clear PLACE m w₂
    opened_places = clear_frame (clear_frame A.idle.places T.frame refl (omega arith)) G.frame refl (omega arith)

    module _ {gs : List Group} {w₃ : List ℕ} {n : ℕ} (W : AllWait m gs w₂ w₃ n) where
      -- the three parts change what a build's opening may
      pub opened_frame : Frame opened m w w₃
      opened_frame = frame_then framed (frame_more refl W.frame)

      -- past the columns only the reservation changed anything
      pub opened_past : (j : ℕ) → 16 * m ≤ j → get_or w₃ j 0 ≡ get_or w₁ j 0
      opened_past j h = W.frame.past refl j h ∙ G.frame.past refl j h

      -- behind them stands what the first stage starts from
      pub first_stage : First m n given gs w₃
      first_stage =
          let F = opened_frame in
          record {
            area = frame_room F A.idle.area;
            done = marks_frame G.marks W.frame refl (omega arith);
            waiting = W.now;
            fresh = record {
              listed = clear_frame A.idle.fresh.listed F refl (omega arith);
              levels = clear_frame A.idle.fresh.levels F refl (omega arith);
              reverse = clear_frame A.idle.fresh.reverse F refl (omega arith);
              starts = clear_frame A.idle.fresh.starts F refl (omega arith);
              ends = clear_frame A.idle.fresh.ends F refl (omega arith);
              spare = clear_frame A.idle.fresh.spare F refl (omega arith);
            };
            cells = clear_frame A.idle.cells F refl (omega arith);
            marks = clear_frame A.idle.marks F refl (omega arith);
            zeros = λ j h. opened_past (16 * m + j) (omega arith) ∙ T.low j h ∙ A.idle.zeros j h;
          }

module _ {m : ℕ} {given w : List ℕ} (A : Opens m given w) {limit e : ℕ} {gs : List Group} {r : Option ℕ} {w₁ : List ℕ} (R : Reserved m limit e gs w w₁ r) {far : ℕ} (within : 16 * m + RECORDS + 2 * e ≤ far) where
  -- a refused reservation ends the opening
  pub begins_over : r ≡ None → Begins m limit far given gs w None w₁
  unfolding reservation_for
  begins_over d = record {
    frame = frame_more refl R.touched.frame;
    past = λ j h. R.touched.past j (omega arith);
    answer = λ K l. sym d ∙ R.answer K l;
    first = λ o b. cc;
  }

  -- any other reservation is followed by the marks and the waiting list
  pub begins_ready : {w₂ w₃ : List ℕ} {n : ℕ} → Given m given w₁ w₂ → AllWait m gs w₂ w₃ n → (words : ℕ) → r ≡ Some words → Begins m limit far given gs w (Some (record { words = words; waiting = n })) w₃
  unfolding reservation_for
  begins_ready {w₂} {w₃} {n} G W words d = record {
    frame = opened_frame A R.touched G W;
    past = λ j h. opened_past A R.touched G W j (omega arith) ∙ R.touched.past j (omega arith);
    answer = λ K l. sym d ∙ R.answer K l;
    first = λ o b. let z : o.waiting ≡ n = cc in rw z (first_stage A R.touched G W);
  }

-- ---- over all records

module _ {m : ℕ} {given records w : List ℕ} (A : BeginAt m given records w) where
  -- a cleared area may be opened
  pub begin_opens : Opens m given w
  begin_opens = record { idle = zeros_idle A.area (λ j h. A.zeros j (omega arith)); given_named = A.given_named }

  -- the reservation may be computed
  pub reserve_at : ReserveAt m records w
  reserve_at = record { area = A.area; room = A.room; right = A.right; clear = begin_opens.idle.heads }

  -- an index takes two numbers of a record number's eight
  pub begin_within : 16 * m + RECORDS + 2 * length records ≤ 16 * m + RECORDS + 8 * length records
  begin_within = omega arith
