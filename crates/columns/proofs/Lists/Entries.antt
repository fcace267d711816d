-- A list of pins in a column: entries, one more, stores elsewhere. Assumes nothing.
use mathlib.Core.Path.{◌≡◌, refl, sym, ap, ◌∙◌}
use mathlib.Core.Logic.{inl, inr}
use mathlib.Core.Bool.{false}
use mathlib.Core.List.{List, [], ◌∷◌, ◌++◌}
use Prim.Native.Nat.{ℕ, ◌+◌, ◌*◌, ◌<◌, ◌≤◌}
use native.Mathlib.Omega.{arith}
use native.Mathlib.Numerals.{add-one}
use native.Mathlib.Decide.{ℕ_discrete}
use lib.ListN.{length, get_or, set, take, drop, length-set, length-append, drop_of_length-le, get_or-append}
use lib.Seq.{drop-cons, length-take-le, take-suc-set, take-set-lt, take-take, get_or-take, get_or-set_same, get_or-set_other, get_or_at}
use Rattle.rules.specs.Lists.{In, Out, Once, one}
use Rattle.rules.proofs.Lists.Members.{in_get_or, get_or_in, in_cons}
use Rattle.columns.specs.Area.{col, Frame, among}
use Rattle.columns.specs.Lists.{list, span, Holds}
use Rattle.columns.proofs.Area.Columns.{length_col, get_or_col, col_set, col_set_other}
use Rattle.columns.proofs.Area.Frames.{frame_col}
use Rattle.columns.proofs.Lists.Swap.{once_few}

module _ (f m n : ℕ) (w : List ℕ) where
  -- the list of the first n entries has n
  pub length_list : n ≤ m → length (list f m n w) ≡ n
  unfolding list
  length_list h = length-take-le n (col f m w) (omega (arith, length_col f m w))

  -- entry i of the list is that of the column
  pub get_or_list : (i : ℕ) → i < n → n ≤ m → get_or (list f m n w) i 0 ≡ get_or w (f * m + i) 0
  unfolding list
  get_or_list i h k = get_or-take n (col f m w) i 0 h ∙ get_or_col f m w i (omega arith)

  -- a store behind the list, to an entry, and to another column
  pub list_push : (v : ℕ) → n < m → f * m + m ≤ length w → list f m (n + 1) (set w (f * m + n) v) ≡ list f m n w ++ (v ∷ [])
  unfolding list
  list_push v h hw = rw (col_set f m w n v h hw, add-one n, take-suc-set (col f m w) n v (rw length_col h))

  -- a store to one of its entries is a store to the list
  pub list_set : (i v : ℕ) → i < n → n ≤ m → f * m + m ≤ length w → list f m n (set w (f * m + i) v) ≡ set (list f m n w) i v
  unfolding list
  list_set i v h k hw = rw (col_set f m w i v (omega arith) hw, take-set-lt n (col f m w) i v h)

  -- a store to another column leaves it
  pub list_set_other : (g p v : ℕ) → p < m → (f ≡ g → ⊥) → list f m n (set w (g * m + p) v) ≡ list f m n w
  unfolding list
  list_set_other g p v h ne = rw (col_set_other g f m w p v h ne)

  -- the front of the list is the shorter list
  pub list_take : (k : ℕ) → k ≤ n → take k (list f m n w) ≡ list f m k w
  unfolding list
  list_take k h = take-take k n (col f m w) h

-- a list in a column that may not change stays
pub frame_list : {fs : List ℕ} {m : ℕ} {w w' : List ℕ} → Frame fs m w w' → (f n : ℕ) → among fs f ≡ false → f < 16 → list f m n w' ≡ list f m n w
unfolding list
frame_list {m = m} {w = w} {w' = w'} fr f n e h = ap (take n) (frame_col fr f e h)

-- a column walked from i to e
module _ (f m i e : ℕ) (w : List ℕ) where
  -- nothing is left from the end on
  pub span_none : e ≤ m → e ≤ i → span f m i e w ≡ []
  unfolding span
  span_none h k = drop_of_length-le (list f m e w) {i = i} (omega (arith, length_list f m e w h))

  -- the next entry, and what is left behind it
  pub span_next : e ≤ m → i < e → span f m i e w ≡ get_or w (f * m + i) 0 ∷ span f m (i + 1) e w
  unfolding span
  span_next h k = rw (add-one i, drop-cons (list f m e w) i 0 (omega (arith, length_list f m e w h)), get_or_list f m e w i k h)

-- what is left of a column that may not change stays
pub frame_span : {fs : List ℕ} {m : ℕ} {w w' : List ℕ} → Frame fs m w w' → (f i e : ℕ) → among fs f ≡ false → f < 16 → span f m i e w' ≡ span f m i e w
unfolding span
frame_span fr f i e d h = ap (drop i) (frame_list fr f e d h)

module _ {f m n : ℕ} {xs w : List ℕ} (H : Holds f m n xs w) where
  -- entry i, which is a pin
  pub holds_at : (i : ℕ) → i < n → get_or w (f * m + i) 0 ≡ get_or xs i 0
  holds_at i h = sym (get_or_list f m n w i h H.few) ∙ ap (λ (l : List ℕ). get_or l i 0) H.is

  -- each entry is a pin
  pub holds_pin : (i : ℕ) → i < n → get_or w (f * m + i) 0 < m
  holds_pin i h = rw (holds_at i h) (H.pins i h)

  -- each entry is in the list
  pub holds_in_lem : (i : ℕ) → i < n → In (get_or w (f * m + i) 0) xs
  holds_in_lem i h = rw (holds_at i h) (in_get_or xs i 0 (omega (arith, H.count)))

  -- each pin of the list is below m
  pub holds_below : (p : ℕ) → In p xs → p < m
  holds_below p e = let k = get_or_in xs 0 p e in rw k.2 at (H.pins k.0 (omega (arith, k.1, H.count)))

  -- the list in the column itself
  pub holds_self : Holds f m n (list f m n w) w
  holds_self = rw H.is (record { is = H.is; few = H.few; count = H.count; pins = H.pins })

  -- a list without repeats has room for a pin that it lacks
  pub holds_room : Once xs → (p : ℕ) → p < m → Out p xs → n < m
  holds_room k p h o = omega (arith, H.count, once_few (one o k) m (λ q e. elim (in_cons q p xs e) [ inl d ↦ rw d h | inr d ↦ holds_below q d ]))

  -- a pin stored behind the list makes it one longer
  pub holds_push : (p : ℕ) → p < m → n < m → f * m + m ≤ length w → Holds f m (n + 1) (xs ++ (p ∷ [])) (set w (f * m + n) p)
  holds_push p h l hw = record {
    is = list_push f m n w p l hw ∙ ap (λ (l : List ℕ). l ++ (p ∷ [])) H.is;
    few = omega arith;
    count = rw length-append (omega (arith, H.count));
    pins = λ i k. pin i k (ℕ_discrete i n);
  }
    where
      pin : (i : ℕ) → i < n + 1 → Dec (i ≡ n) → get_or (xs ++ (p ∷ [])) i 0 < m
      pin i k (yes e) = rw (get_or_at xs p [] 0 i (omega (arith, H.count))) h
      pin i k (no ne) = let l : i < n = (let d : (i ≡ n → ⊥) = ne in omega arith) in rw (get_or-append xs (p ∷ []) 0 i (omega (arith, H.count))) (H.pins i l)

  -- a column that holds a list holds its front
  pub holds_take : (k : ℕ) → k ≤ n → Holds f m k (take k xs) w
  holds_take k h = record {
    is = sym (list_take f m n w k h) ∙ ap (take k) H.is;
    few = omega (arith, H.few);
    count = length-take-le k xs (omega (arith, H.count));
    pins = λ i l. rw (get_or-take k xs i 0 l) (H.pins i (omega arith));
  }

  -- another pin stored at an entry changes that entry alone
  pub holds_set : (i p : ℕ) → i < n → p < m → f * m + m ≤ length w → Holds f m n (set xs i p) (set w (f * m + i) p)
  holds_set i p h l hw = record {
    is = list_set f m n w i p h H.few hw ∙ ap (λ (l : List ℕ). set l i p) H.is;
    few = H.few;
    count = length-set xs i p ∙ H.count;
    pins = λ j k. pin j k (ℕ_discrete j i);
  }
    where
      pin : (j : ℕ) → j < n → Dec (j ≡ i) → get_or (set xs i p) j 0 < m
      pin j k (yes e) = rw (e, get_or-set_same xs i p 0 (omega (arith, H.count))) l
      pin j k (no ne) = rw (get_or-set_other xs i j p 0 ne) (H.pins j k)

  -- a store to another column leaves the list
  pub holds_other : (g p v : ℕ) → p < m → (f ≡ g → ⊥) → Holds f m n xs (set w (g * m + p) v)
  holds_other g p v h ne = record { is = list_set_other f m n w g p v h ne ∙ H.is; few = H.few; count = H.count; pins = H.pins }

  -- a frame that does not name the column keeps the list
  pub holds_frame : {fs : List ℕ} {w' : List ℕ} → Frame fs m w w' → among fs f ≡ false → f < 16 → Holds f m n xs w'
  holds_frame fr e h = record { is = frame_list fr f n e h ∙ H.is; few = H.few; count = H.count; pins = H.pins }

-- every column holds the empty list
pub holds_none : {f m : ℕ} {w : List ℕ} → Holds f m 0 [] w
unfolding list
holds_none = record { is = refl; few = omega arith; count = refl; pins = λ i h. absurd (omega arith) }
