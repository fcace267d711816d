-- The notes in the work area: what a store to them does, and what leaves them. Assumes nothing.
use Prim.Native.Nat.{ℕ, zero, suc, ◌+◌, ◌*◌, ◌<◌, ◌≤◌}
use mathlib.Core.Path.{◌≡◌, refl, sym, ap, ◌∙◌}
use mathlib.Core.Logic.{◌≢◌}
use mathlib.Core.List.{List, [], ◌∷◌}
use native.Mathlib.Omega.{arith}
use native.Mathlib.Nat.{not-suc-le-zero, le_of_suc-le-suc}
use native.Mathlib.Decide.{ℕ_discrete}
use lib.ListN.{length, get_or, set, length-set}
use lib.Seq.{ext_get_or, get_or-set_same, get_or-set_other}
use Rattle.columns.specs.Area.{Frame, tab}
use Rattle.columns.specs.Fields.{ONES, PINS, TAIL}
use Rattle.columns.proofs.Area.Frames.{frame_then, frame_set_tail}
use Rattle.stage_notes.specs.Notes.{notes, note_in, NoteAt, Noted, telling}

length_tab : (g : ℕ → ℕ) (n : ℕ) → length (tab g n) ≡ n
length_tab g zero = refl
length_tab g (suc n) = ap suc (length_tab (λ i. g (suc i)) n)

get_or_tab : (g : ℕ → ℕ) (n i : ℕ) → i < n → get_or (tab g n) i 0 ≡ g i
get_or_tab g zero i h = absurd (not-suc-le-zero h)
get_or_tab g (suc n) zero h = refl
get_or_tab g (suc n) (suc i) h = get_or_tab (λ j. g (suc j)) n i (le_of_suc-le-suc h)

-- the notes are 56 numbers
pub notes_length : (m : ℕ) (w : List ℕ) → length (notes m w) ≡ 56
unfolding notes
notes_length m w = length_tab (λ j. get_or w (16 * m + (260 + j)) 0) 56

-- each stands in the tail
pub notes_at : (m : ℕ) (w : List ℕ) (j : ℕ) → j < 56 → get_or (notes m w) j 0 ≡ get_or w (16 * m + (260 + j)) 0
unfolding notes
notes_at m w j h = get_or_tab (λ j. get_or w (16 * m + (260 + j)) 0) 56 j h

-- the notes are a list that has their numbers
notes_are : (m : ℕ) (w c : List ℕ) → length c ≡ 56 → ((j : ℕ) → j < 56 → get_or w (16 * m + (260 + j)) 0 ≡ get_or c j 0) → notes m w ≡ c
notes_are m w c e h = ext_get_or 0 _ _ (notes_length m w ∙ sym e) (λ i k. let b : i < 56 = omega (arith, notes_length m w) in notes_at m w i b ∙ h i b)

-- where the tail's numbers from 260 to 315 stay, the notes do
pub notes_same : (m : ℕ) (w w' : List ℕ) → ((j : ℕ) → 260 ≤ j → j < 316 → get_or w' (16 * m + j) 0 ≡ get_or w (16 * m + j) 0) → notes m w' ≡ notes m w
notes_same m w w' h = notes_are m w' (notes m w) (notes_length m w) (λ j k. h (260 + j) (omega arith) (omega arith) ∙ sym (notes_at m w j k))

-- a store to a note
pub notes_set : (m : ℕ) (w : List ℕ) (j a v : ℕ) → j < 56 → a ≡ 260 + j → 16 * m + 512 ≤ length w → notes m (set w (16 * m + a) v) ≡ set (notes m w) j v
notes_set m w j a v h q r = notes_are m _ _ (length-set (notes m w) j v ∙ notes_length m w) (λ i k. cell i k (ℕ_discrete i j))
  where
    cell : (i : ℕ) → i < 56 → Dec (i ≡ j) → get_or (set w (16 * m + a) v) (16 * m + (260 + i)) 0 ≡ get_or (set (notes m w) j v) i 0
    cell i k (yes e) = rw (e, q, get_or-set_same w (16 * m + (260 + j)) v 0 (omega arith), get_or-set_same (notes m w) j v 0 (omega (arith, notes_length m w)))
    cell i k (no ne) = rw (get_or-set_other w (16 * m + a) (16 * m + (260 + i)) v 0 (λ e. ne (omega arith)), get_or-set_other (notes m w) j i v 0 ne, notes_at m w i k)

-- one store to the tail, as far as it is seen elsewhere
pub record One (m j : ℕ) (w w' : List ℕ) : Type 0 where
  pub frame : Frame (TAIL ∷ []) m w w'
  pub rest : (i : ℕ) → i ≢ j → get_or w' (16 * m + i) 0 ≡ get_or w (16 * m + i) 0

-- a store to the tail is such
pub one : (m j v : ℕ) (w : List ℕ) → One m j w (set w (16 * m + j) v)
one m j v w = record { frame = frame_set_tail j v refl; rest = λ i n. get_or-set_other w (16 * m + j) (16 * m + i) v 0 (λ e. n (omega arith)) }

module _ {m h c : ℕ} {w : List ℕ} (A : NoteAt m h c w) (p : ℕ) where
  -- four stores are a note
  pub noted : {w1 w2 w3 w4 : List ℕ} → w1 ≡ set w (16 * m + (260 + 4 * h)) p → w2 ≡ set w1 (16 * m + (260 + 4 * h + 1)) c →
      w3 ≡ set w2 (16 * m + (260 + 4 * h + 2)) (get_or w (16 * m + ONES) 0) → w4 ≡ set w3 (16 * m + (260 + 4 * h + 3)) (get_or w (16 * m + PINS) 0) →
      Noted m h (telling m p c w ∷ []) w w4
  unfolding note_in telling
  noted {w1} {w2} {w3} {w4} e1 e2 e3 e4 =
      let o1 : One m (260 + 4 * h) w w1 = rw e1 (one m (260 + 4 * h) p w) in
      let o2 : One m (260 + 4 * h + 1) w1 w2 = rw e2 (one m (260 + 4 * h + 1) c w1) in
      let o3 : One m (260 + 4 * h + 2) w2 w3 = rw e3 (one m (260 + 4 * h + 2) (get_or w (16 * m + ONES) 0) w2) in
      let o4 : One m (260 + 4 * h + 3) w3 w4 = rw e4 (one m (260 + 4 * h + 3) (get_or w (16 * m + PINS) 0) w3) in
      let r = A.area.room in
      let n1 = ap (notes m) e1 ∙ notes_set m w (4 * h) (260 + 4 * h) p (omega (arith, A.level)) refl r in
      let n2 = ap (notes m) e2 ∙ notes_set m w1 (4 * h + 1) (260 + 4 * h + 1) c (omega (arith, A.level)) (omega arith) (omega (arith, o1.frame.len)) in
      let n3 = ap (notes m) e3 ∙ notes_set m w2 (4 * h + 2) (260 + 4 * h + 2) (get_or w (16 * m + ONES) 0) (omega (arith, A.level)) (omega arith) (omega (arith, o1.frame.len, o2.frame.len)) in
      let n4 = ap (notes m) e4 ∙ notes_set m w3 (4 * h + 3) (260 + 4 * h + 3) (get_or w (16 * m + PINS) 0) (omega (arith, A.level)) (omega arith) (omega (
        arith,
        o1.frame.len,
        o2.frame.len,
        o3.frame.len,
      )) in
      record {
        frame = frame_then o1.frame (frame_then o2.frame (frame_then o3.frame o4.frame));
        low = λ j k. o4.rest j (λ e. omega arith) ∙ o3.rest j (λ e. omega arith) ∙ o2.rest j (λ e. omega arith) ∙ o1.rest j (λ e. omega arith);
        past = λ j k. o4.rest j (λ e. omega (arith, A.level)) ∙ o3.rest j (λ e. omega (arith, A.level)) ∙ o2.rest j (λ e. omega (arith, A.level)) ∙ o1.rest j (λ e. omega (arith, A.level));
        is = n4 ∙ rw (n3, n2, n1) refl;
      }
