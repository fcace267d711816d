-- The given pins, one after the other. Assumes nothing.
use mathlib.Core.Path.{◌≡◌, refl}
use mathlib.Core.Logic.{◌≢◌}
use mathlib.Core.List.{List, [], ◌∷◌, ◌++◌}
use Prim.Native.Nat.{ℕ, ◌+◌, ◌*◌, ◌<◌, ◌≤◌}
use native.Mathlib.Omega.{arith}
use native.Mathlib.Numerals.{add-one}
use lib.Dec.{eqb}
use lib.ListN.{length, get_or, set, take}
use lib.Seq.{take-suc, take_all}
use borrow.Author.Tests.{ne_eqb}
use Rattle.rules.specs.Lists.{mem}
use Rattle.rules.proofs.Lists.Members.{split, in_get_or, in_here, in_append_right}
use Rattle.columns.specs.Fields.{DONE}
use Rattle.columns.specs.Area.{Frame}
use Rattle.columns.specs.Lists.{Marks}
use Rattle.columns.proofs.Area.Frames.{frame_none, frame_then, frame_set, frame_room}
use Rattle.columns.proofs.Lists.Marks.{marks_none, marks_more}
use Rattle.placer_start.specs.Given.{GivenAt, Given}

-- one pin more at the end makes no other a member
pub mem-snoc : (q p : ℕ) (xs : List ℕ) → q ≢ p → mem q (xs ++ (p ∷ [])) ≡ mem q xs
unfolding mem
mem-snoc q p [] ne = rw (ne_eqb q p ne, mem)
mem-snoc q p (x ∷ xs) ne = split (eqb q x) (λ e. rw (e, mem)) (λ e. rw (e, mem) (mem-snoc q p xs ne))

-- the first i are marked
pub record Marking (m i : ℕ) (given w w' : List ℕ) : Type 0 where
  pub upto : i ≤ length given
  pub frame : Frame (DONE ∷ []) m w w'
  pub marks : Marks DONE m (take i given) w'

module _ {m : ℕ} {given w : List ℕ} (A : GivenAt m given w) where
  -- at the first given pin none is marked
  pub marking_none : Marking m 0 given w w
  marking_none = record { upto = omega arith; frame = frame_none; marks = marks_none A.clear.zero }

  module _ {i : ℕ} {w₁ : List ℕ} (M : Marking m i given w w₁) where
    -- the next one is a pin of the area
    pub given_pin : (p : ℕ) → i < length given → p ≡ get_or given i 0 → (p < m) × (DONE * m + p < length w₁)
    given_pin p h e = let b : p < m = rw e (A.pins (get_or given i 0) (in_get_or given i 0 h)) in (b, omega (arith, A.area.room, M.frame.len))

    -- one more given pin is marked
    pub marking_more : (p : ℕ) {w₂ : List ℕ} → i < length given → p ≡ get_or given i 0 → w₂ ≡ set w₁ (DONE * m + p) 1 → Marking m (i + 1) given w w₂
    marking_more p h e ew =
        let t : take (i + 1) given ≡ take i given ++ (p ∷ []) = rw (add-one i, e) (take-suc given i 0 h) in
        let b = (given_pin p h e).0 in
        record {
          upto = omega arith;
          frame = frame_then M.frame (rw ew (frame_set DONE p 1 b (omega arith) refl));
          marks = rw (ew, t) (marks_more M.marks p b (omega (arith, (frame_room M.frame A.area).room)) (in_append_right p (take i given) (p ∷ []) (in_here p [])) (λ q ne. mem-snoc q p (take i given) ne));
        }

    -- all given pins are marked
    pub marking_done : length given ≤ i → Given m given w w₁
    marking_done h = let t : take i given ≡ given = take_all i given h in record { frame = M.frame; marks = rw t at M.marks }
