-- Rule 11 as a whole. Assumes nothing.
use mathlib.Core.Path.{◌≡◌, refl, sym, ◌∙◌}
use mathlib.Core.Bool.{false, not, ◌&&◌}
use mathlib.Core.List.{List, [], ◌∷◌}
use Prim.Native.Nat.{ℕ, ◌+◌, ◌*◌, ◌<◌, ◌≤◌}
use native.Mathlib.Omega.{arith}
use lib.Dec.{eqb}
use lib.ListN.{length, get_or, replicate}
use Rattle.rules.specs.Lists.{mem, laid_over}
use Rattle.columns.specs.Fields.{ORDER, DONE, LEVEL, CELLS, REVERSE, LISTED, MARK, SPARE, TAIL}
use Rattle.columns.specs.Area.{among, tail, put_tail, Frame}
use Rattle.columns.specs.Lists.{list}
use Rattle.columns.proofs.Area.Frames.{frame_then, frame_more, frame_room, frame_put_tail}
use Rattle.columns.proofs.Area.Tails.{get_d_tail, length_tail, tail_put_tail}
use Rattle.columns.proofs.Area.Lent.{length_laid, at_laid, past_laid}
use Rattle.columns.proofs.Lists.Entries.{frame_list, holds_frame}
use Rattle.columns.proofs.Lists.Places.{placed_frame}
use Rattle.columns.proofs.Lists.Clears.{clear_frame}
use Rattle.stage_ending.specs.Close.{either, Within, Swept, RetireAt, Left, CloseAt, Closed}
use Rattle.stage_ending.proofs.Laws.Close.{zeroed_clear, gone_frame}

-- a column that is 0 but at some pins stays so where it is not named
pub within_frame : {fs : List ℕ} {f m : ℕ} {xs w w' : List ℕ} → Frame fs m w w' → among fs f ≡ false → f < 16 → Within f m xs w → Within f m xs w'
within_frame {fs} {f} F a h A = record { zero = λ p b o. F.cell f a h p b ∙ A.zero p b o }

module _ {m o n r : ℕ} {w : List ℕ} (A : CloseAt m o n r w) {w1 : List ℕ} {e : ℕ} (L : Left m n r w w1 e) where
  order_is : list ORDER m o w1 ≡ list ORDER m o w
  order_is = frame_list L.frame ORDER o refl (omega arith)

  -- with the endpoints gone the pins of the order may retire
  pub retire_at : RetireAt m o w1
  retire_at = record { area = frame_room L.frame A.area; order = rw order_is (holds_frame A.order L.frame refl (omega arith)) }

  module _ {w2 w3 : List ℕ} (R : Swept m (list ORDER m o w1) w1 w2) (e3 : w3 ≡ put_tail m w2 (laid_over (replicate 259 0) (tail m w2))) where
    room : 16 * m + 512 ≤ length w2
    room = omega (arith, A.area.room, R.frame.len, L.frame.len)

    few : 259 ≤ length (tail m w2)
    few = omega (arith, length_tail m w2, room)

    last : Frame (TAIL ∷ []) m w2 w3
    last = rw e3 (frame_put_tail (laid_over (replicate 259 0) (tail m w2)) (omega (arith, room)) (length_laid 259 0 (tail m w2) few) refl)

    tail_is : (j : ℕ) → get_or w3 (16 * m + j) 0 ≡ get_or (laid_over (replicate 259 0) (tail m w2)) j 0
    tail_is j = sym (get_d_tail m w3 j) ∙ rw (e3, tail_put_tail m w2 (laid_over (replicate 259 0) (tail m w2)) (omega (arith, room))) refl

    later : Frame (DONE ∷ LEVEL ∷ CELLS ∷ REVERSE ∷ LISTED ∷ MARK ∷ SPARE ∷ TAIL ∷ []) m w1 w3
    later = frame_then (frame_more refl R.frame) (frame_more refl last)

    -- as before its pins left
    abbrev realised : ℕ → List ℕ → ℕ → ℕ
    realised c xs p = either (mem p xs && not (eqb c 0)) 1 (get_or w (DONE * m + p) 0)

    done_is : (p : ℕ) → p < m → get_or w2 (DONE * m + p) 0 ≡ realised (get_or w (CELLS * m + p) 0) (list ORDER m o w) p
    done_is p b = R.done p b ∙ rw (order_is, L.frame.cell CELLS refl (omega arith) p b, L.frame.cell DONE refl (omega arith) p b) refl

    -- both, and the tail cleared, are rule 11
    pub closed : Closed m o n r w w3 e
    closed = record {
      frame = frame_then (frame_more refl L.frame) (frame_more refl later);
      past = λ j h. tail_is j ∙ past_laid 259 0 (tail m w2) j h ∙ get_d_tail m w2 j ∙ R.frame.past refl (16 * m + j) (omega arith) ∙ L.frame.past refl (16 * m + j) (omega arith);
      done = λ p b. last.cell DONE refl (omega arith) p b ∙ done_is p b;
      waiting = placed_frame L.now later refl refl (omega arith) (omega arith);
      cells = clear_frame (zeroed_clear (within_frame L.frame refl (omega arith) (rw order_is A.cells)) R.cells) last refl (omega arith);
      marks = clear_frame (zeroed_clear (within_frame L.frame refl (omega arith) (rw order_is A.marks)) R.marks) last refl (omega arith);
      spare = clear_frame (zeroed_clear (within_frame L.frame refl (omega arith) (rw order_is A.spare)) R.spare) last refl (omega arith);
      gone = rw order_is at (gone_frame L.frame R.gone last refl refl refl refl refl refl);
      tail = λ j h. tail_is j ∙ at_laid 259 0 (tail m w2) j h;
    }
