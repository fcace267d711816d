-- Frames: what stores and puts keep, one after the other, and what a frame gives. Assumes nothing.
use mathlib.Core.Path.{◌≡◌, refl, ◌∙◌}
use mathlib.Core.Logic.{inl, inr}
use mathlib.Core.Bool.{Bool, true, false, ◌||◌, true≢false}
use mathlib.Core.List.{List, [], ◌∷◌}
use Prim.Native.Nat.{ℕ, ◌+◌, ◌*◌, ◌<◌, ◌≤◌}
use native.Mathlib.Omega.{arith}
use native.Mathlib.Decide.{ℕ_discrete}
use borrow.Author.Tests.{ne_eqb}
use lib.Dec.{eqb}
use lib.ListN.{length, get_or, set, length-set, replicate, length-replicate}
use lib.Seq.{get_or-set_other}
use Rattle.rules.proofs.Lists.Members.{split, true_false, eqb_same, eqb_true, and_true, or_true}
use Rattle.columns.specs.Area.{col, put, tail, put_tail, Room, Frame, among, within}
use Rattle.columns.proofs.Area.Columns.{apart, inside, same_col}
use Rattle.columns.proofs.Area.Puts.{length_put, past_put, at_put_other}
use Rattle.columns.proofs.Area.Tails.{length-put_tail, at_put_tail}

-- nothing changed, whatever may change
pub frame_none : {fs : List ℕ} {m : ℕ} {w : List ℕ} → Frame fs m w w
frame_none = record { len = refl; past = λ t j h. refl; cell = λ g e h p k. refl }

-- two changes of the same names are one
pub frame_then : {fs : List ℕ} {m : ℕ} {u v w : List ℕ} → Frame fs m u v → Frame fs m v w → Frame fs m u w
frame_then a b = record { len = b.len ∙ a.len; past = λ t j h. b.past t j h ∙ a.past t j h; cell = λ g e h p k. b.cell g e h p k ∙ a.cell g e h p k }

-- more names: at numerals `refl` answers `within`
among_within : (fs gs : List ℕ) → within fs gs ≡ true → (g : ℕ) → among fs g ≡ true → among gs g ≡ true
among_within [] gs e g a = true_false a refl
among_within (f ∷ fs) gs e g a = elim (or_true (eqb g f) (among fs g) a) [
  | inl b ↦ rw (eqb_true g f b) (and_true (among gs f) (within fs gs) e).0
  | inr b ↦ among_within fs gs (and_true (among gs f) (within fs gs) e).1 g b
]

-- what may change some names may change more
pub frame_more : {fs gs : List ℕ} {m : ℕ} {w w' : List ℕ} → within fs gs ≡ true → Frame fs m w w' → Frame gs m w w'
frame_more {fs} {gs} e a = record { len = a.len; past = λ t j h. a.past (fewer 16 t) j h; cell = λ g t h p k. a.cell g (fewer g t) h p k }
  where
    fewer : (g : ℕ) → among gs g ≡ false → among fs g ≡ false
    fewer g t = split (among fs g) (λ d. true_false (among_within fs gs e g d) t) (λ d. d)

-- fewer names: a column that is as it was
pub frame_less : {fs : List ℕ} {m : ℕ} {w w' : List ℕ} (f : ℕ) → f < 16 → Frame (f ∷ fs) m w w' → ((p : ℕ) → p < m → get_or w' (f * m + p) 0 ≡ get_or w (f * m + p) 0) → Frame fs m w w'
frame_less {fs} {m} {w} {w'} f h a same = record {
  len = a.len;
  past = λ t j l. a.past (other 16 t (λ e. omega arith)) j l;
  cell = λ g t l p k. cell g t l p k (ℕ_discrete g f);
}
  where
    other : (g : ℕ) → among fs g ≡ false → (g ≡ f → ⊥) → among (f ∷ fs) g ≡ false
    other g t ne = rw (ne_eqb g f ne) t

    cell : (g : ℕ) → among fs g ≡ false → g < 16 → (p : ℕ) → p < m → Dec (g ≡ f) → get_or w' (g * m + p) 0 ≡ get_or w (g * m + p) 0
    cell g t l p k (yes e) = rw e (same p k)
    cell g t l p k (no ne) = a.cell g (other g t ne) l p k

-- two names, where they are variables
pub among_first : (f g : ℕ) → among (f ∷ g ∷ []) f ≡ true
among_first f g = rw (eqb_same f)

-- the second of two names is among them
pub among_second : (f g : ℕ) → among (f ∷ g ∷ []) g ≡ true
among_second f g = rw (eqb_same g) (or_last (eqb g f))
  where
    or_last : (b : Bool) → b || true ≡ true
    or_last true = refl
    or_last false = refl

differ : (fs : List ℕ) (f g : ℕ) → among fs f ≡ true → among fs g ≡ false → g ≡ f → ⊥
differ fs f g t e k = true≢false (cc)

module _ {fs : List ℕ} {m : ℕ} {w : List ℕ} where
  -- a store to a named column changes only what is named
  pub frame_set : (f p v : ℕ) → p < m → f < 16 → among fs f ≡ true → Frame fs m w (set w (f * m + p) v)
  frame_set f p v hp hf t = record {
    len = length-set w (f * m + p) v;
    past = λ _ j h. get_or-set_other w (f * m + p) j v 0 (λ e. omega (arith, inside f m hf));
    cell = λ g e h q k. get_or-set_other w (f * m + p) (g * m + q) v 0 (λ l. differ fs f g t e (apart g f m q p k hp l));
  }

  -- a list put into a named column changes only what is named
  pub frame_put : (f : ℕ) (c : List ℕ) → length c ≤ m → f < 16 → among fs f ≡ true → Frame fs m w (put f m w c)
  frame_put f c hc hf t = record {
    len = length_put f m w c;
    past = λ _ j h. past_put f m w c j (inside f m hf) hc h;
    cell = λ g e h q k. at_put_other f m w c g q hc k (differ fs f g t e);
  }

  -- a fill of a named column's front changes only what is named
  pub frame_front : (f n v : ℕ) → n ≤ m → f < 16 → among fs f ≡ true → Frame fs m w (put f m w (replicate n v))
  frame_front f n v h = frame_put f (replicate n v) (omega (arith, length-replicate n v))

  -- a store to the tail changes only what is named, where the tail is
  pub frame_set_tail : (j v : ℕ) → among fs 16 ≡ true → Frame fs m w (set w (16 * m + j) v)
  frame_set_tail j v t = record {
    len = length-set w (16 * m + j) v;
    past = λ e i h. absurd (true≢false (cc));
    cell = λ g e h q k. get_or-set_other w (16 * m + j) (g * m + q) v 0 (λ l. omega (arith, inside g m h));
  }

  -- another tail of the same length changes only what is named, where the tail is
  pub frame_put_tail : (t : List ℕ) → 16 * m ≤ length w → length t ≡ length (tail m w) → among fs 16 ≡ true → Frame fs m w (put_tail m w t)
  frame_put_tail t hw ht b = record {
    len = length-put_tail m w t hw ht;
    past = λ e i h. absurd (true≢false (cc));
    cell = λ g e h q k. at_put_tail m w t hw (g * m + q) (omega (arith, inside g m h));
  }

-- what stays
module _ {fs : List ℕ} {m : ℕ} {w w' : List ℕ} (fr : Frame fs m w w') where
  -- a column that is not named is as it was
  pub frame_col : (g : ℕ) → among fs g ≡ false → g < 16 → col g m w' ≡ col g m w
  frame_col g e h = same_col g m w' w (fr.cell g e h)

  -- a frame keeps the area's size, so there is room as before
  pub frame_room : Room m w → Room m w'
  frame_room r = record { small = r.small; room = rw fr.len r.room }
