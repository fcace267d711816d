-- Marks of a list's pins: the test is membership, one more is a store. Assumes nothing.
use mathlib.Core.Path.{◌≡◌, refl, sym, ap, ◌∙◌}
use mathlib.Core.Logic.{◌≢◌}
use mathlib.Core.Bool.{Bool, true, false, not}
use mathlib.Core.List.{List, []}
use Prim.Native.Nat.{ℕ, ◌+◌, ◌*◌, ◌<◌, ◌≤◌}
use native.Mathlib.Omega.{arith}
use native.Mathlib.Decide.{ℕ_discrete}
use lib.Dec.{eqb}
use lib.ListN.{length, get_or, set, length-set}
use Rattle.rules.specs.Lists.{mem, insert, In, Out, nobody}
use Rattle.rules.proofs.Lists.Members.{in_insert}
use Rattle.rules.proofs.Written.Words.{once_insert}
use Rattle.columns.specs.Area.{Room, Frame, among}
use Rattle.columns.specs.Lists.{list, bit, Marks, Marked, EnlistAt, Enlisted}
use Rattle.columns.proofs.Area.Columns.{inside, at_set, at_set_past, at_set_other}
use Rattle.columns.proofs.Area.Frames.{among_first, among_second, frame_none, frame_then, frame_set}
use Rattle.columns.proofs.Lists.Swap.{insert_old, insert_new, mem_insert}
use Rattle.columns.proofs.Lists.Entries.{holds_none, holds_room, holds_push, holds_other, holds_frame}

bit_test : (b : Bool) → not (eqb (bit b) 0) ≡ b
bit_test true = refl
bit_test false = refl

module _ {g m : ℕ} {xs w : List ℕ} (M : Marks g m xs w) where
  -- what `is_in` returns
  pub marks_test : (p : ℕ) → p < m → not (eqb (get_or w (g * m + p) 0) 0) ≡ mem p xs
  marks_test p h = rw (M.mark p h) (bit_test (mem p xs))

  -- one more pin, in whatever list
  pub marks_more : {ys : List ℕ} (p : ℕ) → p < m → g * m + m ≤ length w → In p ys → ((q : ℕ) → q ≢ p → mem q ys ≡ mem q xs) → Marks g m ys (set w (g * m + p) 1)
  marks_more {ys} p h hw i e = record { mark = λ q k. one q k (ℕ_discrete q p) }
    where
      one : (q : ℕ) → q < m → Dec (q ≡ p) → get_or (set w (g * m + p) 1) (g * m + q) 0 ≡ bit (mem q ys)
      one q k (yes d) = rw (d, at_set g m w p 1 h hw, i)
      one q k (no ne) = at_set_past g m w p q 1 ne ∙ M.mark q k ∙ ap bit (sym (e q ne))

  -- a mark stored at p adds p to the list
  pub marks_insert : (p : ℕ) → p < m → g * m + m ≤ length w → Marks g m (insert p xs) (set w (g * m + p) 1)
  marks_insert p h hw = marks_more p h hw (in_insert p xs) (λ q ne. mem_insert q p xs ne)

  -- a store to another column leaves the marks
  pub marks_other : (f p v : ℕ) → p < m → (g ≡ f → ⊥) → Marks g m xs (set w (f * m + p) v)
  marks_other f p v h ne = record { mark = λ q k. at_set_other f g m w p q v h k ne ∙ M.mark q k }

  -- a frame that does not name the column keeps the marks
  pub marks_frame : {fs : List ℕ} {w' : List ℕ} → Frame fs m w w' → among fs g ≡ false → g < 16 → Marks g m xs w'
  marks_frame fr e h = record { mark = λ q k. fr.cell g e h q k ∙ M.mark q k }

-- a column of zeros marks nothing
pub marks_none : {g m : ℕ} {w : List ℕ} → ((p : ℕ) → p < m → get_or w (g * m + p) 0 ≡ 0) → Marks g m [] w
unfolding mem
marks_none e = record { mark = e }

-- an empty list is marked by a column of zeros
pub marked_none : {f g m : ℕ} {w : List ℕ} → ((p : ℕ) → p < m → get_or w (g * m + p) 0 ≡ 0) → Marked f g m 0 [] w
marked_none e = record { held = holds_none; once = nobody; marks = marks_none e }

module _ {f g m n : ℕ} {xs w : List ℕ} (M : Marked f g m n xs w) where
  -- the marked list is the one in the column
  pub marked_self : Marked f g m n (list f m n w) w
  marked_self = rw M.held.is (record { held = M.held; once = M.once; marks = M.marks })

  -- a frame that names neither column keeps the marked list
  pub marked_frame : {fs : List ℕ} {w' : List ℕ} → Frame fs m w w' → among fs f ≡ false → among fs g ≡ false → f < 16 → g < 16 → Marked f g m n xs w'
  marked_frame fr e d h k = record { held = holds_frame M.held fr e h; once = M.once; marks = marks_frame M.marks fr d k }

  -- a pin that is there already, or goes behind the list
  module _ (p : ℕ) (pin : p < m) where
    -- a pin that is there already changes nothing
    pub marked_old : In p xs → Marked f g m n (insert p xs) w
    marked_old e = rw (insert_old p xs e) (record { held = M.held; once = M.once; marks = M.marks })

    -- a new pin stored behind the list, and its mark
    pub marked_push : Out p xs → (f ≡ g → ⊥) → f * m + m ≤ length w → g * m + m ≤ length w → Marked f g m (n + 1) (insert p xs) (set (set w (f * m + n) p) (g * m + p) 1)
    marked_push o ne hf hg =
        let l : n < m = holds_room M.held M.once p pin o in
        record {
          held = rw (insert_new p xs o) (holds_other (holds_push M.held p pin l hf) g p 1 pin ne);
          once = once_insert p M.once;
          marks = marks_insert (marks_other M.marks f n p l (λ e. ne (sym e))) p pin (simp length-set hg);
        }

-- ---- the contract of `enlist`, for a caller that knows the list

module _ {f g m n p : ℕ} {xs w : List ℕ} (M : Marked f g m n xs w) where
  -- a marked list may be asked to take a pin in
  pub enlist_at : Room m w → p < m → f < 16 → g < 16 → (f ≡ g → ⊥) → EnlistAt f g m n p w
  enlist_at r h hf hg ne = record { area = r; pin = h; first = hf; second = hg; apart = ne; now = marked_self M }

  -- what the caller's list is afterwards: the pin behind it, unless it was there
  pub enlisted : {w' : List ℕ} {r : ℕ} → Enlisted f g m n p w w' r → Marked f g m r (insert p xs) w'
  enlisted E = rw M.held.is at E.now

-- and for its proof

module _ {f g m n p : ℕ} {w : List ℕ} (E : EnlistAt f g m n p w) where
  abbrev xs : List ℕ
  xs = list f m n w

  -- the list's column lies in the area
  pub enlist_first : f * m + m ≤ length w
  enlist_first = omega (arith, inside f m E.first, E.area.room)

  -- the column of the marks lies in the area
  pub enlist_second : g * m + m ≤ length w
  enlist_second = omega (arith, inside g m E.second, E.area.room)

  -- the test of the mark says whether the pin is there
  pub enlist_test : not (eqb (get_or w (g * m + p) 0) 0) ≡ mem p xs
  enlist_test = marks_test E.now.marks p E.pin

  -- a pin that is there already changes nothing
  pub enlist_old : In p xs → Enlisted f g m n p w w n
  enlist_old e = record { frame = frame_none; now = marked_old E.now p E.pin e }

  module _ (o : Out p xs) where
    -- a pin that is not there finds room
    pub enlist_room : n < m
    enlist_room = holds_room E.now.held E.now.once p E.pin o

    -- the two stores take a new pin in
    pub enlist_new : (w₁ w₂ : List ℕ) → w₁ ≡ set w (f * m + n) p → w₂ ≡ set w₁ (g * m + p) 1 → Enlisted f g m n p w w₂ (n + 1)
    enlist_new w₁ w₂ e₁ e₂ = rw (e₂, e₁) (record {
      frame = frame_then (frame_set f n p enlist_room E.first (among_first f g)) (frame_set g p 1 E.pin E.second (among_second f g));
      now = marked_push E.now p E.pin o E.apart enlist_first enlist_second;
    })
