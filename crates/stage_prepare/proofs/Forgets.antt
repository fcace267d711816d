-- What `prepare` wrote goes again: the fronts of STARTS and ENDS, when that may be asked for, and which pins have nothing to forget. Assumes nothing.
use mathlib.Core.Path.{◌≡◌, sym, refl, ◌∙◌, ap}
use mathlib.Core.Bool.{false}
use mathlib.Core.List.{List, [], ◌∷◌}
use Prim.Native.Nat.{ℕ, ◌+◌, ◌*◌, ◌<◌}
use native.Mathlib.Omega.{arith}
use lib.ListN.{length, get_or, replicate}
use Rattle.rules.specs.Lists.{Out}
use Rattle.rules.proofs.Lists.Members.{in_reverse}
use Rattle.rules.proofs.Walk.Reverse.{out_sub}
use Rattle.columns.specs.Area.{Frame, among, col, put}
use Rattle.columns.specs.Fields.{LEVEL, STARTS, ENDS, REVERSE, LISTED}
use Rattle.columns.specs.Lists.{bit}
use Rattle.columns.proofs.Area.Columns.{get_or_col}
use Rattle.columns.proofs.Area.Frames.{frame_then, frame_more, frame_front, frame_room}
use Rattle.columns.proofs.Lists.Clears.{clear_frame, front_clear}
use Rattle.stage_walk.specs.Stands.{Context}
use Rattle.stage_prepare.specs.Prepared.{Prepared, ForgetAt, Forgot}
use Rattle.stage_walk.proofs.Contexts.{order_is}
use Rattle.stage_levels.proofs.Laws.Order.{level_out}
use Rattle.stage_levels.proofs.Laws.Lifting.{reverse_out}

module _ {m r : ℕ} {w : List ℕ} (A : ForgetAt m r w) (v w' : List ℕ) (e₁ : v ≡ put STARTS m w (replicate r 0)) (e₂ : w' ≡ put ENDS m v (replicate r 0)) where
  first : Frame (STARTS ∷ []) m w v
  first = rw e₁ (frame_front STARTS r 0 A.few (omega arith) refl)

  second : Frame (ENDS ∷ []) m v w'
  second = rw e₂ (frame_front ENDS r 0 A.few (omega arith) refl)

  -- with the two fronts cleared no level has a list
  pub forgot : Forgot m w w'
  forgot = record {
    frame = frame_then (frame_more refl first) (frame_more refl second);
    starts = clear_frame (front_clear STARTS m r w v e₁ (omega (arith, A.area.room)) A.few (λ p a b. (A.beyond p a b).0)) second refl (omega arith);
    ends = front_clear ENDS m r v w' e₂ (omega (arith, A.area.room, first.len)) A.few (λ p a b. first.cell ENDS refl (omega arith) p b ∙ (A.beyond p a b).1);
  }

-- ---- what `prepare` left stands

module _ {C : Context} {m n k top r : ℕ} {gates w₀ w : List ℕ} (P : Prepared C m n gates w₀ w k top r) where
  -- its lists may be forgotten
  pub forget_at : ForgetAt m r w
  forget_at = record { area = P.set.begun.base.area; few = P.few; beyond = P.beyond }

  module _ (p : ℕ) (h : p < m) (o : Out p C.X.order) where
    -- a pin that is not in the order is not listed
    pub listed_outside : get_or w (LISTED * m + p) 0 ≡ 0
    listed_outside = P.marks.mark p h ∙ ap bit o

    unseen : Out p C.X.seen
    unseen = out_sub C.X.seen C.X.order (λ q i. rw (order_is C) (in_reverse q C.X.seen i)) p o

    pin : p < length C.X.g
    pin = rw P.set.begun.base.size h

    at : (f : ℕ) → get_or w (f * m + p) 0 ≡ get_or (col f m w) p 0
    at f = sym (get_or_col f m w p h)

    -- it has no level
    pub level_outside : get_or w (LEVEL * m + p) 0 ≡ 0
    level_outside = at LEVEL ∙ rw P.set.levelled.levels (level_out C p pin unseen)

    -- and no reverse level
    pub reverse_outside : get_or w (REVERSE * m + p) 0 ≡ 0
    reverse_outside = at REVERSE ∙ rw P.reversed.reverse (reverse_out C p pin unseen)

-- the lists still may after what names none of their columns
pub forget_frame : {m r : ℕ} {w : List ℕ} → ForgetAt m r w → {fs : List ℕ} {w' : List ℕ} → Frame fs m w w' → among fs STARTS ≡ false → among fs ENDS ≡ false → ForgetAt m r w'
forget_frame A fr c d = record {
  area = frame_room fr A.area;
  few = A.few;
  beyond = λ v l h. (fr.cell STARTS c (omega arith) v h ∙ (A.beyond v l h).0, fr.cell ENDS d (omega arith) v h ∙ (A.beyond v l h).1);
}
