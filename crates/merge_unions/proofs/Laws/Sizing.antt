-- Marks taken back along a list. Assumes nothing.
use mathlib.Core.Path.{◌≡◌, refl, sym, ap, ◌∙◌}
use mathlib.Core.Logic.{◌≢◌}
use mathlib.Core.Bool.{true, false}
use mathlib.Core.List.{List, [], ◌∷◌, ◌++◌}
use Prim.Native.Nat.{ℕ, ◌+◌, ◌-◌, ◌*◌, ◌<◌, ◌≤◌}
use native.Mathlib.Decide.{ℕ_discrete}
use native.Mathlib.Numerals.{add-one}
use native.Mathlib.Omega.{arith}
use borrow.Author.Tests.{ne_eqb}
use lib.ListN.{length, get_or, set, take, drop, length-drop, take-append-drop, drop_of_length-le}
use lib.Seq.{drop-cons, get_or-drop, get_or-take, length-take-le}
use Rattle.rules.specs.Lists.{mem, In, Out, Once, nobody, one}
use Rattle.rules.proofs.Lists.Members.{split, true_false, eqb_same, in_get_or, in_append_left, in_append_right, out_append, in_out}
use Rattle.columns.specs.Fields.{ORDER, DONE, WAITING, LISTED, PLACE}
use Rattle.columns.specs.Area.{Room, Frame, among}
use Rattle.columns.specs.Lists.{list, bit, Holds, Marked, Placed}
use Rattle.columns.proofs.Area.Columns.{inside, at_set, at_set_past}
use Rattle.columns.proofs.Area.Frames.{frame_none, frame_then, frame_more, frame_room, frame_set}
use Rattle.columns.proofs.Lists.Clears.{zero_stays, clear_frame}
use Rattle.columns.proofs.Lists.Entries.{list_take, holds_at, holds_pin, holds_take, holds_frame}
use Rattle.columns.proofs.Lists.Marks.{marks_frame, marked_frame}
use Rattle.columns.proofs.Lists.Places.{placed_frame}
use Rattle.merge_unions.specs.Sizing.{AlongAt, Along, UnmarkAt, BackAt, Back, CloseAt, Closed}

out_cons : (q p : ℕ) (xs : List ℕ) → q ≢ p → Out q xs → Out q (p ∷ xs)
unfolding mem
out_cons q p xs ne o = rw (ne_eqb q p ne, mem) o

out_nil : (q : ℕ) → Out q []
unfolding mem
out_nil q = refl

-- the entries from a to i are cleared
pub record Clearing (g m a i : ℕ) (xs w w' : List ℕ) : Type 0 where
  pub from : a ≤ i
  pub upto : i ≤ length xs
  pub frame : Frame (g ∷ []) m w w'
  pub zero : (p : ℕ) → p < m → In p (drop a xs) → Out p (drop i xs) → get_or w' (g * m + p) 0 ≡ 0
  pub kept : (p : ℕ) → p < m → Out p (drop a xs) → get_or w' (g * m + p) 0 ≡ get_or w (g * m + p) 0

among_own : (g : ℕ) → among (g ∷ []) g ≡ true
among_own g = rw (eqb_same g)

among_other : (f g : ℕ) → f ≢ g → among (g ∷ []) f ≡ false
among_other f g ne = rw (ne_eqb f g ne)

-- before the first entry nothing is cleared
clearing_none : {g m a : ℕ} {xs w : List ℕ} → a ≤ length xs → Clearing g m a a xs w w
clearing_none h = record { from = omega arith; upto = h; frame = frame_none; zero = λ p b i o. true_false i o; kept = λ p b o. refl }

module _ {g m a i : ℕ} {xs w w₁ : List ℕ} (C : Clearing g m a i xs w w₁) (area : Room m w) (to : g < 16) where
  -- one more entry is cleared
  pub clearing_more : (p : ℕ) {w₂ : List ℕ} → i < length xs → p ≡ get_or xs i 0 → p < m → w₂ ≡ set w₁ (g * m + p) 0 → Clearing g m a (i + 1) xs w w₂
  clearing_more p h e b ew = rw ew (record {
    from = omega (arith, C.from);
    upto = omega arith;
    frame = frame_then C.frame (frame_set g p 0 b to (among_own g));
    zero = λ q l j o. clears q l j o (ℕ_discrete q p);
    kept = λ q l o. at_set_past g m w₁ p q 0 (λ z. in_out p q (drop a xs) mine o (sym z)) ∙ C.kept q l o;
  })
    where
      next : drop i xs ≡ p ∷ drop (i + 1) xs
      next = rw (add-one i, e) (drop-cons xs i 0 h)

      mine : In p (drop a xs)
      mine =
          let z : a + (i - a) ≡ i = omega (arith, C.from) in
          let d : get_or (drop a xs) (i - a) 0 ≡ p = get_or-drop a xs (i - a) 0 ∙ ap (λ (j : ℕ). get_or xs j 0) z ∙ sym e in
          rw d at (in_get_or (drop a xs) (i - a) 0 (rw (length-drop a xs) (omega (arith, C.from))))

      clears : (q : ℕ) → q < m → In q (drop a xs) → Out q (drop (i + 1) xs) → Dec (q ≡ p) → get_or (set w₁ (g * m + p) 0) (g * m + q) 0 ≡ 0
      clears q l j o (yes z) = rw z (at_set g m w₁ p 0 b (omega (arith, inside g m to, (frame_room C.frame area).room)))
      clears q l j o (no ne) = zero_stays w₁ _ _ (C.zero q l j (rw next (out_cons q p (drop (i + 1) xs) ne o)))

  -- past the last entry all are
  pub clearing_done : length xs ≤ i → Along g m (drop a xs) w w₁
  clearing_done h = record { frame = C.frame; zero = λ p b j. C.zero p b j (rw (drop_of_length-le xs {i = i} h) (out_nil p)); kept = C.kept }

module _ {f g m a n : ℕ} {w : List ℕ} (A : AlongAt f g m a n w) where
  -- before the first entry nothing is cleared
  pub along_none : Clearing g m a a (list f m n w) w w
  along_none = clearing_none (omega (arith, A.upto, A.held.count))

  module _ {i : ℕ} {w₁ : List ℕ} (C : Clearing g m a i (list f m n w) w w₁) where
    -- the next entry of the list lies in the area
    pub along_room : i < n → f * m + i < length w₁
    along_room h = omega (arith, inside f m A.from, A.held.few, A.area.room, C.frame.len)

    module _ (h : i < n) {p : ℕ} (e : p ≡ get_or w₁ (f * m + i) 0) where
      held : Holds f m n (list f m n w) w₁
      held = holds_frame A.held C.frame (among_other f g A.apart) A.from

      -- the next entry of the list is a pin
      pub along_pin : p < m
      along_pin = rw e (holds_pin held i h)

      -- its place in the column to clear lies in the area
      pub along_to : g * m + p < length w₁
      along_to = omega (arith, inside g m A.to, along_pin, A.area.room, C.frame.len)

      -- one more pin of the list is cleared
      pub along_more : {w₂ : List ℕ} → w₂ ≡ set w₁ (g * m + p) 0 → Clearing g m a (i + 1) (list f m n w) w w₂
      along_more ew = clearing_more C A.area A.to p (omega (arith, A.held.count)) (e ∙ holds_at held i h) along_pin ew

    -- past the last pin of the list all are
    pub along_done : n ≤ i → Along g m (drop a (list f m n w)) w w₁
    along_done h = clearing_done C A.area A.to (omega (arith, A.held.count))

module _ {m : ℕ} {given w : List ℕ} (A : UnmarkAt m given w) where
  -- before the first given pin nothing is cleared
  pub unmark_none : Clearing DONE m 0 0 given w w
  unmark_none = clearing_none (omega arith)

  module _ {i : ℕ} {w₁ : List ℕ} (C : Clearing DONE m 0 i given w w₁) where
    module _ (h : i < length given) {p : ℕ} (e : p ≡ get_or given i 0) where
      -- the next one is a pin of the area
      pub unmark_pin : p < m
      unmark_pin = rw e (A.pins (get_or given i 0) (in_get_or given i 0 h))

      -- the next given pin's mark lies in the area
      pub unmark_to : DONE * m + p < length w₁
      unmark_to = omega (arith, unmark_pin, A.area.room, C.frame.len)

      -- one more given pin's mark is cleared
      pub unmark_more : {w₂ : List ℕ} → w₂ ≡ set w₁ (DONE * m + p) 0 → Clearing DONE m 0 (i + 1) given w w₂
      unmark_more ew = clearing_more C A.area (omega arith) p h e unmark_pin ew

    -- past the last no given pin is marked
    pub unmark_done : length given ≤ i → Along DONE m given w w₁
    unmark_done h = clearing_done C A.area (omega arith) h

-- ---- the front of a list without repeats

once_front : (xs ys : List ℕ) → Once (xs ++ ys) → Once xs
once_front [] ys k = nobody
once_front (x ∷ xs) ys (one o k) = one (split (mem x xs) (λ e. true_false (in_append_left x xs ys e) o) (λ e. e)) (once_front xs ys k)

once_back : (xs ys : List ℕ) → Once (xs ++ ys) → (p : ℕ) → In p ys → Out p xs
once_back [] ys k p i = out_nil p
once_back (x ∷ xs) ys (one o k) p i = out_cons p x xs (in_out p x (xs ++ ys) (in_append_right p xs ys i) o) (once_back xs ys k p i)

module _ (xs : List ℕ) (k : ℕ) (once : Once xs) where
  seam : Once (take k xs ++ drop k xs)
  seam = rw (take-append-drop k xs) once

  front_once : Once (take k xs)
  front_once = once_front (take k xs) (drop k xs) seam

  front_out : (p : ℕ) → In p (drop k xs) → Out p (take k xs)
  front_out = once_back (take k xs) (drop k xs) seam

  back_out : (p : ℕ) → In p (take k xs) → Out p (drop k xs)
  back_out p i = split (mem p (drop k xs)) (λ e. true_false i (front_out p e)) (λ e. e)

  all_out : (p : ℕ) → Out p (take k xs) → Out p (drop k xs) → Out p xs
  all_out p a b = rw (take-append-drop k xs) at (out_append p (take k xs) (drop k xs) a b)

  front_mem : (p : ℕ) → Out p (drop k xs) → mem p xs ≡ mem p (take k xs)
  front_mem p o = split (mem p (take k xs)) (λ e. (rw (take-append-drop k xs) at (in_append_left p (take k xs) (drop k xs) e)) ∙ sym e) (λ e. all_out p e o ∙ sym e)

module _ {f g m n : ℕ} {xs w w' : List ℕ} (k : ℕ) (few : k ≤ n) (A : Along g m (drop k xs) w w') (from : f < 16) (apart : f ≢ g) where
  -- marks cleared behind the first k pins are the marks of these
  pub marked_back : Marked f g m n xs w → Marked f g m k (take k xs) w'
  marked_back M = record {
    held = holds_take (holds_frame M.held A.frame (among_other f g apart) from) k few;
    once = front_once xs k M.once;
    marks = record { mark = λ p h. split (mem p (drop k xs)) (λ i. A.zero p h i ∙ sym (ap bit (front_out xs k M.once p i))) (λ o. A.kept p h o ∙ M.marks.mark p h ∙ ap bit (front_mem xs k M.once p o)) };
  }

  -- and so are places
  pub placed_back : Placed f g m n xs w → Placed f g m k (take k xs) w'
  placed_back P =
      let l : length (take k xs) ≡ k = length-take-le k xs (omega (arith, P.held.count)) in
      record {
        held = holds_take (holds_frame P.held A.frame (among_other f g apart) from) k few;
        once = front_once xs k P.once;
        place = λ i h. let e : get_or (take k xs) i 0 ≡ get_or xs i 0 = get_or-take k xs i 0 h in
            A.kept (get_or (take k xs) i 0) (rw e (P.held.pins i (omega arith))) (back_out xs k P.once (get_or (take k xs) i 0) (in_get_or (take k xs) i 0 (omega arith)))
            ∙ ap (λ (p : ℕ). get_or w (g * m + p) 0) e
            ∙ P.place i (omega arith);
        none = λ p h o. split (mem p (drop k xs)) (λ i. A.zero p h i) (λ d. A.kept p h d ∙ P.none p h (all_out xs k P.once p o d));
      }

-- ---- what was listed, and what waits

module _ {m n k n₀ k₀ : ℕ} {w : List ℕ} (A : BackAt m n k n₀ k₀ w) where
  -- the marks may be cleared along the order
  pub back_listed : AlongAt ORDER LISTED m k₀ k w
  back_listed = record { area = A.both.area; from = omega arith; to = omega arith; apart = λ e. omega arith; upto = A.fewer_listed; held = A.both.listed.held }

  module _ {w₁ : List ℕ} (L : Along LISTED m (drop k₀ (list ORDER m k w)) w w₁) where
    waiting : Placed WAITING PLACE m n (list WAITING m n w₁) w₁
    waiting = rw (← same) at kept
      where
        kept : Placed WAITING PLACE m n (list WAITING m n w) w₁
        kept = placed_frame A.both.waiting L.frame refl refl (omega arith) (omega arith)

        same : list WAITING m n w₁ ≡ list WAITING m n w
        same = kept.held.is

    -- then the places along the waiting list
    pub back_waiting : AlongAt WAITING PLACE m n₀ n w₁
    back_waiting = record { area = frame_room L.frame A.both.area; from = omega arith; to = omega arith; apart = λ e. omega arith; upto = A.fewer_wait; held = waiting.held }

    -- the first ones are left
    pub back : {w₂ : List ℕ} → Along PLACE m (drop n₀ (list WAITING m n w₁)) w₁ w₂ → Back m n₀ k₀ w w₂
    back {w₂} W = record {
      frame = frame_then (frame_more refl L.frame) (frame_more refl W.frame);
      waiting = rw waits (placed_back {f = WAITING} n₀ A.fewer_wait W (omega arith) (λ e. omega arith) waiting);
      listed = rw orders (marked_frame (marked_back {f = ORDER} k₀ A.fewer_listed L (omega arith) (λ e. omega arith) A.both.listed) W.frame refl refl (omega arith) (omega arith));
    }
      where
        waits : list WAITING m n₀ w ≡ take n₀ (list WAITING m n w₁)
        waits = sym (list_take WAITING m n w n₀ A.fewer_wait) ∙ ap (take n₀) (sym (placed_frame A.both.waiting L.frame refl refl (omega arith) (omega arith)).held.is)

        orders : list ORDER m k₀ w ≡ take k₀ (list ORDER m k w)
        orders = sym (list_take ORDER m k w k₀ A.fewer_listed)

-- ---- all of it

module _ {m n k : ℕ} {given w : List ℕ} (A : CloseAt m n k given w) where
  -- all that waits and is listed may be taken back
  pub close_back : BackAt m n k 0 0 w
  close_back = record { both = A.both; fewer_wait = omega arith; fewer_listed = omega arith }

  module _ {w₁ : List ℕ} (B : Back m 0 0 w w₁) where
    -- then the marks of the given pins
    pub close_unmark : UnmarkAt m given w₁
    close_unmark = record { area = frame_room B.frame A.both.area; pins = A.pins }

    -- then nothing is left
    pub closed : {w₂ : List ℕ} → Along DONE m given w₁ w₂ → Closed m w w₂
    unfolding list
    closed D = record {
      frame = frame_then (frame_more refl B.frame) (frame_more refl D.frame);
      done = record { zero = λ p h. split (mem p given) (λ i. D.zero p h i) (λ o. D.kept p h o ∙ (marks_frame A.done B.frame refl (omega arith)).mark p h ∙ ap bit o) };
      listed = clear_frame (record { zero = λ p h. B.listed.marks.mark p h ∙ ap bit (out_nil p) }) D.frame refl (omega arith);
      places = clear_frame (record { zero = λ p h. B.waiting.none p h (out_nil p) }) D.frame refl (omega arith);
    }
