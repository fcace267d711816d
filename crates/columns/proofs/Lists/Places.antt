-- A list of pins with places: the test is membership, one more behind the list, one out by the swap with the last. Assumes nothing.
use mathlib.Core.Path.{◌≡◌, refl, sym, ◌∙◌}
use mathlib.Core.Logic.{◌≢◌}
use mathlib.Core.Bool.{false, not}
use mathlib.Core.List.{List, [], ◌∷◌, ◌++◌}
use Prim.Native.Nat.{ℕ, suc, ◌+◌, ◌-◌, ◌*◌, ◌<◌, ◌≤◌}
use native.Mathlib.Omega.{arith}
use native.Mathlib.Decide.{ℕ_discrete}
use borrow.Author.Tests.{eq-eqb, ne_eqb}
use lib.Dec.{eqb}
use lib.ListN.{length, get_or, set, take, length-set, get_or-append}
use lib.Seq.{get_or_at, get_or-take, get_or-set_same, get_or-set_other}
use Rattle.rules.specs.Lists.{mem, insert, swap_out, In, Out, nobody}
use Rattle.rules.proofs.Lists.Members.{split, true_false, in_get_or, get_or_in, in_insert, in_insert_old}
use Rattle.rules.proofs.Stage.Last.{once_swap_out}
use Rattle.rules.proofs.Written.Words.{once_insert, swap_keeps}
use Rattle.columns.specs.Fields.{WAITING, PLACE}
use Rattle.columns.specs.Area.{Room, Frame, among}
use Rattle.columns.specs.Lists.{list, Placed, WaitAt, Waits, SwapAt, Swapped}
use Rattle.columns.proofs.Area.Columns.{at_set, at_set_past, at_set_other}
use Rattle.columns.proofs.Area.Frames.{frame_none, frame_then, frame_set}
use Rattle.columns.proofs.Lists.Swap.{once_place, insert_old, insert_new, swap_out_is}
use Rattle.columns.proofs.Lists.Entries.{holds_none, holds_at, holds_pin, holds_below, holds_room, holds_push, holds_take, holds_set, holds_other, holds_frame}

-- where a pin of the list stands
pub record Stands (g m : ℕ) (xs w : List ℕ) (p : ℕ) : Type 0 where
  pub i : ℕ
  pub before : i < length xs
  pub entry : get_or xs i 0 ≡ p
  pub place : get_or w (g * m + p) 0 ≡ i + 1

module _ {f g m n : ℕ} {xs w : List ℕ} (P : Placed f g m n xs w) where
  -- a pin of the list has a place, and stands there
  pub placed_stands : (p : ℕ) → In p xs → Stands g m xs w p
  placed_stands p e =
      let k = get_or_in xs 0 p e in
      record { i = k.0; before = k.1; entry = k.2; place = rw k.2 at (P.place k.0 (omega (arith, k.1, P.held.count))) }

  -- a pin without a place is not in the list
  pub placed_out : (p : ℕ) → get_or w (g * m + p) 0 ≡ 0 → Out p xs
  placed_out p e = split (mem p xs) (λ d. absurd (let s = placed_stands p d in omega (arith, s.place))) (λ d. d)

  -- what `is_in` returns
  pub placed_test : (p : ℕ) → p < m → not (eqb (get_or w (g * m + p) 0) 0) ≡ mem p xs
  placed_test p h = split (mem p xs)
      (λ e. rw (ne_eqb (get_or w (g * m + p) 0) 0 (λ d. let s = placed_stands p e in omega (arith, s.place))) (sym e))
      (λ e. rw (eq-eqb (get_or w (g * m + p) 0) 0 (P.none p h e)) (sym e))

  -- the list with places is the one in the column
  pub placed_self : Placed f g m n (list f m n w) w
  placed_self = rw P.held.is (record { held = P.held; once = P.once; place = P.place; none = P.none })

  -- a frame that names neither column keeps the list and its places
  pub placed_frame : {fs : List ℕ} {w' : List ℕ} → Frame fs m w w' → among fs f ≡ false → among fs g ≡ false → f < 16 → g < 16 → Placed f g m n xs w'
  placed_frame fr e d h k = record {
    held = holds_frame P.held fr e h;
    once = P.once;
    place = λ i l. fr.cell g d k (get_or xs i 0) (P.held.pins i l) ∙ P.place i l;
    none = λ p l o. fr.cell g d k p l ∙ P.none p l o;
  }

  -- a pin without a place goes behind the list
  module _ (p : ℕ) (pin : p < m) where
    -- a pin that is there already changes nothing
    pub placed_old : In p xs → Placed f g m n (insert p xs) w
    placed_old e = rw (insert_old p xs e) (record { held = P.held; once = P.once; place = P.place; none = P.none })

    -- a new pin stored behind the list, and its place
    pub placed_push : Out p xs → (f ≡ g → ⊥) → f * m + m ≤ length w → g * m + m ≤ length w → Placed f g m (n + 1) (insert p xs) (set (set w (f * m + n) p) (g * m + p) (n + 1))
    placed_push o ne hf hg = record {
      held = rw (insert_new p xs o) (holds_other (holds_push P.held p pin room hf) g p (n + 1) pin ne);
      once = once_insert p P.once;
      place = λ i h. rw (insert_new p xs o) (at i h (ℕ_discrete i n));
      none = λ q h d. free q h d (ℕ_discrete q p);
    }
      where
        room : n < m
        room = holds_room P.held P.once p pin o

        w₁ : List ℕ
        w₁ = set w (f * m + n) p

        long : g * m + m ≤ length w₁
        long = simp length-set hg

        other : (q : ℕ) → q < m → q ≢ p → get_or (set w₁ (g * m + p) (n + 1)) (g * m + q) 0 ≡ get_or w (g * m + q) 0
        other q h d = at_set_past g m w₁ p q (n + 1) d ∙ at_set_other f g m w n q p room h (λ e. ne (sym e))

        at : (i : ℕ) → i < n + 1 → Dec (i ≡ n) → get_or (set w₁ (g * m + p) (n + 1)) (g * m + get_or (xs ++ (p ∷ [])) i 0) 0 ≡ i + 1
        at i h (yes e) = rw (get_or_at xs p [] 0 i (omega (arith, P.held.count)), at_set g m w₁ p (n + 1) pin long) (omega arith)
        at i h (no d) =
            let l : i < n = (let k : (i ≡ n → ⊥) = d in omega arith) in
            let s : i < length xs = omega (arith, P.held.count) in
            rw (get_or-append xs (p ∷ []) 0 i s) (other (get_or xs i 0) (P.held.pins i l) (λ e. true_false (rw e at (in_get_or xs i 0 s)) o) ∙ P.place i l)

        free : (q : ℕ) → q < m → Out q (insert p xs) → Dec (q ≡ p) → get_or (set w₁ (g * m + p) (n + 1)) (g * m + q) 0 ≡ 0
        free q h d (yes e) = true_false (rw e (in_insert p xs)) d
        free q h d (no c) = other q h c ∙ P.none q h (split (mem q xs) (λ e. true_false (in_insert_old q p xs e) d) (λ e. e))

-- an empty list has its places in a column of zeros
pub placed_none : {f g m : ℕ} {w : List ℕ} → ((p : ℕ) → p < m → get_or w (g * m + p) 0 ≡ 0) → Placed f g m 0 [] w
placed_none e = record { held = holds_none; once = nobody; place = λ i h. absurd (omega arith); none = λ p h o. e p h }

-- the pin p leaves
module _ {f g m n : ℕ} {xs w : List ℕ} (P : Placed f g m n xs w) (p : ℕ) (e : In p xs) where
  S : Stands g m xs w p
  S = placed_stands P p e

  -- a list that a pin leaves is not empty
  pub swap_some : 0 < n
  swap_some = omega (arith, S.before, P.held.count)

  -- the pin that leaves is a pin of the area
  pub swap_pin : p < m
  swap_pin = holds_below P.held p e

  -- the pin that leaves has a place
  pub swap_low : 0 < get_or w (g * m + p) 0
  swap_low = omega (arith, S.place)

  -- its place is within the list
  pub swap_high : get_or w (g * m + p) 0 ≤ n
  swap_high = omega (arith, S.place, S.before, P.held.count)

  -- the list's last entry is a pin
  pub swap_last : get_or w (f * m + (n - 1)) 0 < m
  swap_last = holds_pin P.held (n - 1) (omega (arith, swap_some))

  -- the last entry, l, takes its place, i
  module _ (ne : f ≡ g → ⊥) (hf : f * m + m ≤ length w) (hg : g * m + m ≤ length w) where
    abbrev i : ℕ
    i = S.i

    abbrev l : ℕ
    l = get_or xs (n - 1) 0

    abbrev w₁ : List ℕ
    w₁ = set w (f * m + i) l

    abbrev w₂ : List ℕ
    w₂ = set w₁ (g * m + l) (i + 1)

    abbrev w₃ : List ℕ
    w₃ = set w₂ (g * m + p) 0

    long : length xs ≡ suc (n - 1)
    long = omega (arith, P.held.count, swap_some)

    here : i < suc (n - 1)
    here = omega (arith, S.before, long)

    i_pin : i < m
    i_pin = omega (arith, S.before, P.held.count, P.held.few)

    l_pin : l < m
    l_pin = P.held.pins (n - 1) (omega (arith, swap_some))

    is : swap_out p xs ≡ take (n - 1) (set xs i l)
    is = rw S.entry at (swap_out_is (n - 1) i P.once long here)

    -- what the three stores leave in column g
    at_p : get_or w₃ (g * m + p) 0 ≡ 0
    at_p = at_set g m w₂ p 0 swap_pin (simp length-set hg)

    at_l : l ≢ p → get_or w₃ (g * m + l) 0 ≡ i + 1
    at_l d = at_set_past g m w₂ p l 0 d ∙ at_set g m w₁ l (i + 1) l_pin (simp length-set hg)

    at_other : (q : ℕ) → q < m → q ≢ p → q ≢ l → get_or w₃ (g * m + q) 0 ≡ get_or w (g * m + q) 0
    at_other q h d c = at_set_past g m w₂ p q 0 d ∙ at_set_past g m w₁ l q (i + 1) c ∙ at_set_other f g m w i q l i_pin h (λ z. ne (sym z))

    -- two places are one if they hold the same pin
    alike : (a b : ℕ) → a < suc (n - 1) → b < suc (n - 1) → get_or xs a 0 ≡ get_or xs b 0 → a ≡ b
    alike a b ha hb = once_place P.once a b (omega (arith, long)) (omega (arith, long))

    place_at : (j : ℕ) → j < n - 1 → Dec (j ≡ i) → get_or w₃ (g * m + get_or (set xs i l) j 0) 0 ≡ j + 1
    place_at j h (yes d) = rw (d, get_or-set_same xs i l 0 S.before, at_l (λ z. let a : n - 1 ≡ i = alike (n - 1) i (omega arith) here (z ∙ sym S.entry) in omega arith))
    place_at j h (no d) = rw (
      get_or-set_other xs i j l 0 d,
      at_other (get_or xs j 0) (P.held.pins j (omega arith))
          (λ z. d (alike j i (omega arith) here (z ∙ sym S.entry)))
          (λ z. let a : j ≡ n - 1 = alike j (n - 1) (omega arith) (omega arith) z in omega arith),
    ) (P.place j (omega arith))

    free_at : (q : ℕ) → q < m → Out q (swap_out p xs) → Dec (q ≡ p) → get_or w₃ (g * m + q) 0 ≡ 0
    free_at q h o (yes d) = rw d at_p
    free_at q h o (no d) =
        let out : Out q xs = split (mem q xs) (λ a. true_false (swap_keeps p q xs e a d) o) (λ a. a) in
        at_other q h d (λ z. true_false (rw z (in_get_or xs (n - 1) 0 (omega (arith, long)))) out) ∙ P.none q h out

    swap_core : Placed f g m (n - 1) (swap_out p xs) w₃
    swap_core = record {
      held = rw is (holds_take (holds_other (holds_other (holds_set P.held i l (omega (arith, here, swap_some)) l_pin hf) g l (i + 1) l_pin ne) g p 0 swap_pin ne) (n - 1) (omega arith));
      once = once_swap_out p P.once;
      place = λ j h. rw (is, get_or-take (n - 1) (set xs i l) j 0 h) (place_at j h (ℕ_discrete j i));
      none = λ q h o. free_at q h o (ℕ_discrete q p);
    }

    -- as the code has it
    pub placed_swap : (last place : ℕ) → last ≡ get_or w (f * m + (n - 1)) 0 → place ≡ get_or w (g * m + p) 0 - 1
        → Placed f g m (n - 1) (swap_out p xs) (set (set (set w (f * m + place) last) (g * m + last) (place + 1)) (g * m + p) 0)
    placed_swap last place a b =
        let d : last ≡ l = a ∙ holds_at P.held (n - 1) (omega (arith, swap_some)) in
        let z : place ≡ i = omega (arith, S.place) in
        rw (z, d) swap_core

-- ---- the contracts of `wait` and `swap_out`, for a caller that knows the list

module _ {m n p : ℕ} {xs w : List ℕ} (P : Placed WAITING PLACE m n xs w) where
  -- a pin may be asked to wait
  pub wait_at : Room m w → p < m → WaitAt m n p w
  wait_at r h = record { area = r; pin = h; now = placed_self P }

  -- what the caller's waiting list is afterwards: the pin behind it, unless it was there
  pub waits : {w' : List ℕ} {r : ℕ} → Waits m n p w w' r → Placed WAITING PLACE m r (insert p xs) w'
  waits E = rw P.held.is at E.now

  -- a pin that waits may be asked to leave
  pub swap_out_at : Room m w → In p xs → SwapAt m n p w
  swap_out_at r e = record { area = r; now = placed_self P; waits = rw P.held.is e }

  -- what the caller's waiting list is afterwards: the last pin in the place of the one that left
  pub swapped : {w' : List ℕ} {r : ℕ} → Swapped m n p w w' r → Placed WAITING PLACE m r (swap_out p xs) w'
  swapped E = rw P.held.is at E.now

-- and for their proofs

module _ {m n p : ℕ} {w : List ℕ} (A : WaitAt m n p w) where
  -- the test of the place says whether the pin waits
  pub wait_test : not (eqb (get_or w (PLACE * m + p) 0) 0) ≡ mem p (list WAITING m n w)
  wait_test = placed_test A.now p A.pin

  -- a pin that waits already changes nothing
  pub wait_old : In p (list WAITING m n w) → Waits m n p w w n
  wait_old e = record { frame = frame_none; now = placed_old A.now p A.pin e }

  module _ (o : Out p (list WAITING m n w)) where
    -- a pin that does not wait yet finds room
    pub wait_room : n < m
    wait_room = holds_room A.now.held A.now.once p A.pin o

    -- the two stores make a new pin wait
    pub wait_new : (w₁ w₂ : List ℕ) → w₁ ≡ set w (WAITING * m + n) p → w₂ ≡ set w₁ (PLACE * m + p) (n + 1) → Waits m n p w w₂ (n + 1)
    wait_new w₁ w₂ e₁ e₂ = rw (e₂, e₁) (record {
      frame = frame_then (frame_set WAITING n p wait_room (omega arith) refl) (frame_set PLACE p (n + 1) A.pin (omega arith) refl);
      now = placed_push A.now p A.pin o (λ e. omega arith) (omega (arith, A.area.room)) (omega (arith, A.area.room));
    })

module _ {m n p : ℕ} {w : List ℕ} (A : SwapAt m n p w) where
  -- the place of the pin that leaves lies in the column
  pub out_place : get_or w (PLACE * m + p) 0 - 1 < m
  out_place = omega (arith, swap_low A.now p A.waits, swap_high A.now p A.waits, A.now.held.few)

  module _ (last place : ℕ) (a : last ≡ get_or w (WAITING * m + (n - 1)) 0) (b : place ≡ get_or w (PLACE * m + p) 0 - 1) where
    -- the three stores take the pin out
    pub out_done : (w₁ w₂ w₃ : List ℕ) → w₁ ≡ set w (WAITING * m + place) last → w₂ ≡ set w₁ (PLACE * m + last) (place + 1) → w₃ ≡ set w₂ (PLACE * m + p) 0 → Swapped m n p w w₃ (n - 1)
    out_done w₁ w₂ w₃ e₁ e₂ e₃ = rw (e₃, e₂, e₁) (record {
      frame = frame_then (frame_set WAITING place last (omega (arith, out_place)) (omega arith) refl)
          (frame_then (frame_set PLACE last (place + 1) (omega (arith, swap_last A.now p A.waits)) (omega arith) refl) (frame_set PLACE p 0 (swap_pin A.now p A.waits) (omega arith) refl));
      less = refl;
      now = placed_swap A.now p A.waits (λ e. omega arith) (omega (arith, A.area.room)) (omega (arith, A.area.room)) last place a b;
    })
