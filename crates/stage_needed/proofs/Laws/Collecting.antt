-- Rule 6 along the order or what stands for it, and the marks that go again. Assumes nothing.
use mathlib.Core.Path.{◌≡◌, refl, sym, ◌∙◌, ap}
use mathlib.Core.Bool.{false}
use mathlib.Core.List.{List, [], ◌∷◌}
use Prim.Native.Nat.{ℕ, zero, suc, ◌+◌, ◌*◌, ◌<◌, ◌≤◌}
use native.Mathlib.Omega.{arith}
use native.Mathlib.Numerals.{add-one}
use native.Mathlib.Decide.{ℕ_discrete}
use lib.ListN.{get_or, set, drop}
use lib.Seq.{drop-cons, drop-nil}
use Rattle.rules.specs.Lists.{mem, insert_all, distinct, gather, Out, Once, nobody, one}
use Rattle.rules.specs.Placing.{tree_of}
use Rattle.rules.specs.Inside.Lean.{lacks, wanted, cells_holding}
use Rattle.rules.proofs.Lists.Members.{mem_other}
use Rattle.rules.proofs.Walk.Bounds.{wanted_next}
use Rattle.columns.specs.Area.{Frame, among}
use Rattle.columns.specs.Fields.{ORDER, NEEDED, MARK, CELLS}
use Rattle.columns.specs.Lists.{list, span, bit, Holds, Marks}
use Rattle.columns.proofs.Area.Columns.{at_set, at_set_past}
use Rattle.columns.proofs.Area.Frames.{frame_none, frame_then, frame_set, frame_more, frame_less, frame_room}
use Rattle.columns.proofs.Lists.Entries.{span_none, span_next, frame_list, holds_self, holds_none, holds_frame, holds_at, holds_pin, holds_in_lem}
use Rattle.columns.proofs.Lists.Marks.{marked_self}
use Rattle.columns.proofs.Lists.Places.{placed_test}
use Rattle.stage_walk.specs.Stands.{Context, Ordered, Set}
use Rattle.stage_needed.specs.Needed.{Tells, Needs, NeedAt, Asking, CountAt, NeededAt, Collecting, Collected, UnmarkAt, Unmarked, Needed}
use Rattle.stage_walk.proofs.Gates.{reads_frame}
use Rattle.stage_walk.proofs.traversal.Loops.{begun_reads}
use Rattle.stage_needed.proofs.Laws.Asking.{tells_frame}

-- ---- along a list that stands for the order

-- the order stands for itself
asking_order : {C : Context} {m k : ℕ} {w : List ℕ} → Ordered C m k w → Asking C m ORDER k w
unfolding wanted
asking_order {C} O = record {
  column = omega arith;
  apart = refl;
  held = holds_self O.order;
  listed = λ x i. C.S.listed x (rw O.order.is at i);
  same = λ pl. rw O.order.is refl;
}

-- a list stands for the order where its column is not named
pub asking_frame : {C : Context} {m f k : ℕ} {w : List ℕ} → Asking C m f k w → {fs : List ℕ} {w' : List ℕ} → Frame fs m w w' → among fs f ≡ false → Asking C m f k w'
asking_frame {f = f} {k = k} A fr e =
    let same = frame_list fr f k e A.column in
    record {
      column = A.column;
      apart = A.apart;
      held = holds_self (holds_frame A.held fr e A.column);
      listed = rw same A.listed;
      same = λ pl. rw same (A.same pl);
    }

-- the needed pins may be counted along the order
pub count_order : {C : Context} {pl : List ℕ} {m n k : ℕ} {gates w : List ℕ} → NeededAt C pl m n k gates w → CountAt C pl m n ORDER k gates w
count_order A = record { begun = A.begun; asking = asking_order A.ordered; levelled = A.levelled; cells = A.cells; unmarked = A.unmarked }

module _ {C : Context} {pl : List ℕ} {m n f k : ℕ} {gates w₀ : List ℕ} (A : CountAt C pl m n f k gates w₀) where
  -- what the columns tell
  pub count_tells : Tells C pl m w₀
  count_tells = record {
    area = A.begun.base.area;
    size = A.begun.base.size;
    waits = λ p h. placed_test A.begun.waiting p h;
    levelled = A.levelled;
    cells = A.cells;
  }

  -- at the start no pin has asked
  pub collecting_none : Collecting C pl m f k 0 w₀ w₀ 0
  unfolding list span distinct
  collecting_none = record {
    frame = frame_none;
    now = record { held = holds_none; once = nobody; marks = A.unmarked };
    same = A.asking.same pl;
  }

  module _ {i : ℕ} {w : List ℕ} {r : ℕ} (U : Collecting C pl m f k i w₀ w r) where
    -- at the end all pins have asked, and the needed ones are listed
    pub collected : k ≤ i → Collected C pl m w₀ w r
    unfolding insert_all gather
    collected h =
        let e : list NEEDED m r w ≡ wanted C.X pl = rw (span_none f m i k w₀ A.asking.held.few h) at U.same in
        record { frame = U.frame; now = rw e at U.now }

    module _ (h : i < k) (p : ℕ) (ep : p ≡ get_or w (f * m + i) 0) where
      is_pin : p ≡ get_or w₀ (f * m + i) 0
      is_pin = ep ∙ U.frame.cell f A.asking.apart A.asking.column i (omega (arith, A.asking.held.few))

      -- the next pin may ask
      pub need_at : NeedAt C pl m gates w r p
      need_at = record {
        needing = record { tells = tells_frame count_tells U.frame refl refl refl; now = U.now };
        reads = reads_frame C (begun_reads A.begun) U.frame refl;
        listed = A.asking.listed p (rw is_pin (holds_in_lem A.asking.held i h));
      }

      next : span f m i k w₀ ≡ p ∷ span f m (i + 1) k w₀
      next = rw is_pin (span_next f m i k w₀ A.asking.held.few h)

      -- one more pin has asked
      pub collecting_more : {w' : List ℕ} {r' : ℕ} → Needs m w r w' r' (lacks C.X (tree_of C.X pl) p) → Collecting C pl m f k (i + 1) w₀ w' r'
      collecting_more s = record {
        frame = frame_then U.frame s.frame;
        now = marked_self s.now;
        same = rw s.now.held.is (sym (wanted_next (lacks C.X (tree_of C.X pl)) p (span f m (i + 1) k w₀) (list NEEDED m r w)) ∙ (rw next at U.same));
      }

-- ---- the marks go

once_drop : {xs : List ℕ} → Once xs → (i p : ℕ) (ys : List ℕ) → drop i xs ≡ p ∷ ys → Out p ys
once_drop nobody i p ys e = absurd (let d : [] ≡ p ∷ ys = sym (drop-nil i) ∙ e in let z : ◌≡◌ {A = ℕ} 0 1 = cc in omega arith)
once_drop (one {x = x} {xs = xs} o k) zero p ys e = let a : x ≡ p = cc in let b : xs ≡ ys = cc in rw (← a, ← b) o
once_drop (one o k) (suc i) p ys e = once_drop k i p ys e

module _ {m r : ℕ} {w₀ : List ℕ} (A : UnmarkAt m r w₀) where
  abbrev xs : List ℕ
  xs = list NEEDED m r w₀

  module _ {i : ℕ} {w : List ℕ} (U : Unmarked m (drop i xs) w₀ w) where
    module _ (h : i < r) (p : ℕ) (ep : p ≡ get_or w (NEEDED * m + i) 0) where
      held : Holds NEEDED m r xs w
      held = holds_frame A.now.held U.frame refl (omega arith)

      -- a needed pin is a pin of the area
      pub unmark_pin : p < m
      unmark_pin = rw ep (holds_pin held i h)

      first : drop i xs ≡ p ∷ drop (suc i) xs
      first = drop-cons xs i 0 (omega (arith, A.now.held.count)) ∙ ap (λ (x : ℕ). x ∷ drop (suc i) xs) (sym (ep ∙ holds_at held i h))

      -- one store takes a needed pin's mark away
      pub unmarked_more : (w' : List ℕ) → w' ≡ set w (MARK * m + p) 0 → Unmarked m (drop (i + 1) xs) w₀ w'
      unmarked_more w' e = rw (add-one i, e) (record {
        frame = frame_then U.frame (frame_set MARK p 0 unmark_pin (omega arith) refl);
        marks = record { mark = λ q l. mark q l (ℕ_discrete q p) };
      })
        where
          mark : (q : ℕ) → q < m → Dec (q ≡ p) → get_or (set w (MARK * m + p) 0) (MARK * m + q) 0 ≡ bit (mem q (drop (suc i) xs))
          mark q l (yes d) = rw (d, at_set MARK m w p 0 unmark_pin (omega (arith, (frame_room U.frame A.area).room)), once_drop A.now.once i p (drop (suc i) xs) first)
          mark q l (no d) = at_set_past MARK m w p q 0 d ∙ U.marks.mark q l ∙ ap bit (ap (mem q) first ∙ mem_other q p (drop (suc i) xs) d)

-- ---- the whole

module _ {C : Context} {pl : List ℕ} {m n f k : ℕ} {gates w : List ℕ} (A : CountAt C pl m n f k gates w) {v : List ℕ} {r : ℕ} (L : Collected C pl m w v r) where
  -- with the marks gone the needed pins are listed, and all else is as it was
  pub needed_all : {w' : List ℕ} → Unmarked m [] v w' → Needed C pl m w w' r
  needed_all U = record {
    frame = frame_less MARK (omega arith) (frame_then (frame_more refl L.frame) (frame_more refl U.frame)) (λ p h. U.marks.mark p h ∙ sym (A.unmarked.mark p h));
    list = holds_frame L.now.held U.frame refl (omega arith);
  }

-- ---- where the walks end

-- needed pins, once the counts of a plan stand and no pin is marked
pub step_needed : {C : Context} {m n k : ℕ} {gates w : List ℕ} → Set C m n k gates w → (pl : List ℕ) → ((x : ℕ) → x < m → get_or w (CELLS * m + x) 0 ≡ cells_holding C.X.K pl x) →
    Marks MARK m [] w → NeededAt C pl m n k gates w
step_needed S pl c u = record { begun = S.begun; ordered = S.ordered; levelled = S.levelled; cells = c; unmarked = u }
