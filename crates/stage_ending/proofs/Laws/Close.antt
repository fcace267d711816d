-- Rule 11, turn by turn. Assumes nothing.
use mathlib.Core.Path.{◌≡◌, refl, sym, ap, ◌∙◌}
use mathlib.Core.Bool.{Bool, true, false, not, ◌&&◌, ◌||◌}
use mathlib.Core.List.{List, [], ◌∷◌, ◌++◌}
use Prim.Native.Nat.{ℕ, zero, suc, ◌+◌, ◌*◌, ◌<◌, ◌≤◌}
use native.Mathlib.Omega.{arith}
use native.Mathlib.Decide.{ℕ_discrete}
use native.Mathlib.Numerals.{add-one}
use lib.Dec.{eqb}
use lib.ListN.{length, get_or, set, take, drop, length-take, take-append-drop}
use lib.Seq.{take-suc, get_or-take}
use borrow.Author.Tests.{eq-eqb, ne_eqb}
use Rattle.rules.specs.Lists.{mem, keep, insert_all, swap_out, swap_out_all, In, Out, Once, nobody, one}
use Rattle.rules.proofs.Lists.Members.{split, in_get_or, get_or_in, true_false, in_append_left, keep_append, insert_all-append}
use Rattle.rules.proofs.Written.Words.{left_out}
use Rattle.columns.specs.Fields.{ORDER, DONE, LEVEL, WAITING, CELLS, REVERSE, LISTED, STACK, MARK, SPARE}
use Rattle.columns.specs.Area.{among, Frame}
use Rattle.columns.specs.Lists.{list, Clear, EnlistAt, Enlisted, SwapAt, Swapped}
use Rattle.columns.proofs.Area.Columns.{at_set, at_set_past}
use Rattle.columns.proofs.Area.Frames.{frame_none, frame_then, frame_more, frame_set, frame_room}
use Rattle.columns.proofs.Lists.Entries.{holds_at}
use Rattle.columns.proofs.Lists.Marks.{enlist_at}
use Rattle.columns.proofs.Lists.Places.{swap_out_at, swapped}
use Rattle.columns.proofs.Lists.Swap.{once_place}
use Rattle.stage_ending.specs.Close.{either, PinAt, Within, Zeroed, Wiped, Retired, Gone, Unlisted, Swept, RetireAt, LeaveAt, Leaving, is_tree, OneAt, One, RealiseAt, Realising}

-- ---- lists

-- a pin is in two lists behind each other if it is in one of them
pub mem-append : (p : ℕ) (xs ys : List ℕ) → mem p (xs ++ ys) ≡ (mem p xs || mem p ys)
unfolding mem
mem-append p [] ys = refl
mem-append p (x ∷ xs) ys = split (eqb p x) (λ e. rw (e, mem)) (λ e. rw (e, mem) (mem-append p xs ys))

-- a pin is in a list of one if it is that pin
pub mem_one : (p x : ℕ) → mem p (x ∷ []) ≡ eqb p x
unfolding mem
mem_one p x = split (eqb p x) (λ e. rw (e, mem)) (λ e. rw (e, mem))

swap_out_all-append : (ps qs xs : List ℕ) → swap_out_all (ps ++ qs) xs ≡ swap_out_all qs (swap_out_all ps xs)
unfolding swap_out_all
swap_out_all-append [] qs xs = refl
swap_out_all-append (p ∷ ps) qs xs = swap_out_all-append ps qs (swap_out p xs)

swap_one : (p : ℕ) (xs : List ℕ) → swap_out_all (p ∷ []) xs ≡ swap_out p xs
unfolding swap_out_all
swap_one p xs = refl

next : (xs : List ℕ) (i n : ℕ) → length xs ≡ n → i < n → take (i + 1) xs ≡ take i xs ++ (get_or xs i 0 ∷ [])
next xs i n e h = rw (add-one i) (take-suc xs i 0 (omega arith))

take_in : (i : ℕ) (xs : List ℕ) (x : ℕ) → In x (take i xs) → In x xs
take_in i xs x j = let e : take i xs ++ drop i xs ≡ xs = take-append-drop i xs in rw e at (in_append_left x (take i xs) (drop i xs) j)

out_take : (i : ℕ) (xs : List ℕ) (x : ℕ) → Out x xs → Out x (take i xs)
out_take i xs x o = split (mem x (take i xs)) (λ e. true_false (take_in i xs x e) o) (λ e. e)

once_take : (i : ℕ) {xs : List ℕ} → Once xs → Once (take i xs)
once_take zero k = nobody
once_take (suc i) nobody = nobody
once_take (suc i) (one {x = x} {xs = xs} o k) = one (out_take i xs x o) (once_take i k)

-- ---- a column at some pins

zeroed_none : {f m : ℕ} {w : List ℕ} → Zeroed f m [] w w
unfolding mem
zeroed_none = record { field = λ p h. refl }

both : (c : ℕ) (x y : Bool) → either y 0 (either x 0 c) ≡ either (x || y) 0 c
both c true true = refl
both c true false = refl
both c false y = refl

zeroed_then : {f m : ℕ} {xs ys u v w : List ℕ} → Zeroed f m xs u v → Zeroed f m ys v w → Zeroed f m (xs ++ ys) u w
zeroed_then {f} {m} {xs} {ys} {u} a b = record { field = λ p h. b.field p h ∙ rw (a.field p h, mem-append) (both (get_or u (f * m + p) 0) (mem p xs) (mem p ys)) }

zeroed_set : {m : ℕ} {w : List ℕ} (f p : ℕ) → p < m → f * m + m ≤ length w → Zeroed f m (p ∷ []) w (set w (f * m + p) 0)
zeroed_set {m} {w} f p h l = record {
  field = λ q b. elim (ℕ_discrete q p) [
    | yes d ↦ rw (d, mem_one, eq-eqb p p refl) (at_set f m w p 0 h l)
    | no d ↦ rw (mem_one, ne_eqb q p d) (at_set_past f m w p q 0 d)
  ];
}

-- with other columns changed before and after
zeroed_frame : {f m : ℕ} {fs gs xs t u v w : List ℕ} → Frame fs m t u → Zeroed f m xs u v → Frame gs m v w → among fs f ≡ false → among gs f ≡ false → f < 16 → Zeroed f m xs t w
zeroed_frame {f} {m} {fs} {gs} {xs} F Z G a b h = record { field = λ p l. G.cell f b h p l ∙ Z.field p l ∙ ap (either (mem p xs) 0) (F.cell f a h p l) }

-- a column that is 0 elsewhere is clear once its pins are wiped
pub zeroed_clear : {f m : ℕ} {xs w w' : List ℕ} → Within f m xs w → Zeroed f m xs w w' → Clear f m w'
zeroed_clear {f} {m} {xs} {w} A Z = record { zero = λ p h. Z.field p h ∙ split (mem p xs) (λ e. rw e refl) (λ e. rw e (A.zero p h e)) }

-- what the walks wrote goes, whatever happens to other columns before and after
pub gone_frame : {m : ℕ} {fs gs xs t u v w : List ℕ} → Frame fs m t u → Gone m xs u v → Frame gs m v w → among fs LISTED ≡ false → among fs LEVEL ≡ false → among fs REVERSE ≡ false →
    among gs LISTED ≡ false → among gs LEVEL ≡ false → among gs REVERSE ≡ false → Gone m xs t w
gone_frame F Z G a b c d e f = record {
  listed = zeroed_frame F Z.listed G a d (omega arith);
  levels = zeroed_frame F Z.levels G b e (omega arith);
  reverse = zeroed_frame F Z.reverse G c f (omega arith);
}

gone_then : {m : ℕ} {xs ys u v w : List ℕ} → Gone m xs u v → Gone m ys v w → Gone m (xs ++ ys) u w
gone_then a b = record { listed = zeroed_then a.listed b.listed; levels = zeroed_then a.levels b.levels; reverse = zeroed_then a.reverse b.reverse }

-- ---- the pins above level 0 are realised, and all are forgotten

-- no pin swept changes nothing
pub swept_none : {m : ℕ} {w : List ℕ} → Swept m [] w w
unfolding mem
swept_none = record {
  frame = frame_none;
  done = λ p h. refl;
  cells = zeroed_none;
  marks = zeroed_none;
  spare = zeroed_none;
  gone = record { listed = zeroed_none; levels = zeroed_none; reverse = zeroed_none };
}

mixed : (d c : ℕ) (x y : Bool) → either (y && not (eqb (either x 0 c) 0)) 1 (either (x && not (eqb c 0)) 1 d) ≡ either ((x || y) && not (eqb c 0)) 1 d
mixed d c true true = refl
mixed d c true false = refl
mixed d c false y = refl

-- some pins swept and some more
swept_then : {m : ℕ} {xs ys u v w : List ℕ} → Swept m xs u v → Swept m ys v w → Swept m (xs ++ ys) u w
swept_then {m} {xs} {ys} {u} a b = record {
  frame = frame_then a.frame b.frame;
  done = λ p h. b.done p h ∙ rw (a.done p h, a.cells.field p h, mem-append) (mixed (get_or u (DONE * m + p) 0) (get_or u (CELLS * m + p) 0) (mem p xs) (mem p ys));
  cells = zeroed_then a.cells b.cells;
  marks = zeroed_then a.marks b.marks;
  spare = zeroed_then a.spare b.spare;
  gone = gone_then a.gone b.gone;
}

-- pins retired and unlisted are swept
swept_both : {m : ℕ} {xs u v w : List ℕ} → Retired m xs u v → Unlisted m xs v w → Swept m xs u w
swept_both {m} {xs} {u} {v} {w} a b = record {
  frame = frame_then (frame_more refl a.frame) (frame_more refl b.frame);
  done = λ p h. b.frame.cell DONE refl (omega arith) p h ∙ a.done p h;
  cells = zeroed_frame {fs = []} frame_none a.cells b.frame refl refl (omega arith);
  marks = zeroed_frame {fs = []} frame_none a.marks b.frame refl refl (omega arith);
  spare = zeroed_frame {fs = []} frame_none a.spare b.frame refl refl (omega arith);
  gone = gone_frame a.frame b.gone (frame_none {fs = []}) refl refl refl refl refl refl;
}

module _ {m p : ℕ} {w : List ℕ} (a : PinAt m p w) where
  -- three stores wipe a pin's count and marks
  pub wiped : (w₁ w₂ w₃ : List ℕ) → w₁ ≡ set w (CELLS * m + p) 0 → w₂ ≡ set w₁ (MARK * m + p) 0 → w₃ ≡ set w₂ (SPARE * m + p) 0 → Wiped m (p ∷ []) w w₃
  wiped w₁ w₂ w₃ e₁ e₂ e₃ =
      let F₁ : Frame (CELLS ∷ []) m w w₁ = rw e₁ (frame_set CELLS p 0 a.pin (omega arith) refl) in
      let F₂ : Frame (MARK ∷ []) m w₁ w₂ = rw e₂ (frame_set MARK p 0 a.pin (omega arith) refl) in
      let F₃ : Frame (SPARE ∷ []) m w₂ w₃ = rw e₃ (frame_set SPARE p 0 a.pin (omega arith) refl) in
      record {
        frame = frame_then (frame_more refl F₁) (frame_then (frame_more refl F₂) (frame_more refl F₃));
        cells = zeroed_frame {fs = []} frame_none (rw e₁ (zeroed_set CELLS p a.pin (omega (
          arith,
          a.area.room,
        )))) (frame_then (frame_more {gs = MARK ∷ SPARE ∷ []} refl F₂) (frame_more refl F₃)) refl refl (omega arith);
        marks = zeroed_frame F₁ (rw e₂ (zeroed_set MARK p a.pin (omega (arith, a.area.room, F₁.len)))) F₃ refl refl (omega arith);
        spare = zeroed_frame (frame_then (frame_more {gs = CELLS ∷ MARK ∷ []} refl F₁) (frame_more refl F₂)) (rw e₃ (zeroed_set SPARE p a.pin (omega (
          arith,
          a.area.room,
          F₁.len,
          F₂.len,
        )))) (frame_none {fs = []}) refl refl (omega arith);
      }

  -- three more take its listing and its levels
  pub unlisted : (w₁ w₂ w₃ : List ℕ) → w₁ ≡ set w (LISTED * m + p) 0 → w₂ ≡ set w₁ (LEVEL * m + p) 0 → w₃ ≡ set w₂ (REVERSE * m + p) 0 → Unlisted m (p ∷ []) w w₃
  unlisted w₁ w₂ w₃ e₁ e₂ e₃ =
      let F₁ : Frame (LISTED ∷ []) m w w₁ = rw e₁ (frame_set LISTED p 0 a.pin (omega arith) refl) in
      let F₂ : Frame (LEVEL ∷ []) m w₁ w₂ = rw e₂ (frame_set LEVEL p 0 a.pin (omega arith) refl) in
      let F₃ : Frame (REVERSE ∷ []) m w₂ w₃ = rw e₃ (frame_set REVERSE p 0 a.pin (omega arith) refl) in
      record {
        frame = frame_then (frame_more refl F₁) (frame_then (frame_more refl F₂) (frame_more refl F₃));
        gone = record {
          listed = zeroed_frame {fs = []} frame_none (rw e₁ (zeroed_set LISTED p a.pin (omega (
            arith,
            a.area.room,
          )))) (frame_then (frame_more {gs = LEVEL ∷ REVERSE ∷ []} refl F₂) (frame_more refl F₃)) refl refl (omega arith);
          levels = zeroed_frame F₁ (rw e₂ (zeroed_set LEVEL p a.pin (omega (arith, a.area.room, F₁.len)))) F₃ refl refl (omega arith);
          reverse = zeroed_frame (frame_then (frame_more {gs = LISTED ∷ LEVEL ∷ []} refl F₁) (frame_more refl F₂)) (rw e₃ (zeroed_set REVERSE p a.pin (omega (
            arith,
            a.area.room,
            F₁.len,
            F₂.len,
          )))) (frame_none {fs = []}) refl refl (omega arith);
        };
      }

  -- a pin without cells is only wiped
  pub retire_none : get_or w (CELLS * m + p) 0 ≡ 0 → {w₁ : List ℕ} → Wiped m (p ∷ []) w w₁ → Retired m (p ∷ []) w w₁
  retire_none e W = record {
    frame = frame_more refl W.frame;
    done = λ q h. W.frame.cell DONE refl (omega arith) q h ∙ elim (ℕ_discrete q p) [ yes d ↦ rw (d, e, mem_one, eq-eqb p p refl) refl | no d ↦ rw (mem_one, ne_eqb q p d) refl ];
    cells = W.cells;
    marks = W.marks;
    spare = W.spare;
  }

  module _ (w₁ : List ℕ) (e₁ : w₁ ≡ set w (DONE * m + p) 1) where
    first : Frame (DONE ∷ []) m w w₁
    first = rw e₁ (frame_set DONE p 1 a.pin (omega arith) refl)

    -- a pin with cells is marked as realised, and may be wiped
    pub retire_at : PinAt m p w₁
    retire_at = record { area = frame_room first a.area; pin = a.pin }

    -- a pin with cells, marked and wiped, is retired
    pub retire_one : (get_or w (CELLS * m + p) 0 ≡ 0 → ⊥) → {w₂ : List ℕ} → Wiped m (p ∷ []) w₁ w₂ → Retired m (p ∷ []) w w₂
    retire_one ne W = record {
      frame = frame_then (frame_more refl first) (frame_more refl W.frame);
      done = λ q h. W.frame.cell DONE refl (omega arith) q h ∙ elim (ℕ_discrete q p) [
        | yes d ↦ rw (d, e₁, mem_one, eq-eqb p p refl, ne_eqb (get_or w (CELLS * m + p) 0) 0 ne) (at_set DONE m w p 1 a.pin (omega (arith, a.area.room)))
        | no d ↦ rw (e₁, mem_one, ne_eqb q p d) (at_set_past DONE m w p q 1 d)
      ];
      cells = zeroed_frame first W.cells (frame_none {fs = []}) refl refl (omega arith);
      marks = zeroed_frame first W.marks (frame_none {fs = []}) refl refl (omega arith);
      spare = zeroed_frame first W.spare (frame_none {fs = []}) refl refl (omega arith);
    }

module _ {m k i : ℕ} {w w₁ : List ℕ} (a : RetireAt m k w) (R : Swept m (take i (list ORDER m k w)) w w₁) (h : i < k) where
  order_is : get_or w₁ (ORDER * m + i) 0 ≡ get_or (list ORDER m k w) i 0
  order_is = R.frame.cell ORDER refl (omega arith) i (omega (arith, a.order.few)) ∙ holds_at a.order i h

  -- the next pin of the order is a pin of the area
  pub order_pin : (p : ℕ) → p ≡ get_or w₁ (ORDER * m + i) 0 → PinAt m p w₁
  order_pin p e = record { area = frame_room R.frame a.area; pin = rw (e, order_is) (a.order.pins i h) }

  -- and still is when it is retired
  pub retired_pin : (p : ℕ) → p ≡ get_or w₁ (ORDER * m + i) 0 → {w₂ : List ℕ} → Retired m (p ∷ []) w₁ w₂ → PinAt m p w₂
  retired_pin p e S = record { area = frame_room S.frame (order_pin p e).area; pin = (order_pin p e).pin }

  -- one more pin of the order is swept
  pub swept_more : (p : ℕ) → p ≡ get_or w₁ (ORDER * m + i) 0 → {w₂ w₃ : List ℕ} → Retired m (p ∷ []) w₁ w₂ → Unlisted m (p ∷ []) w₂ w₃ → Swept m (take (i + 1) (list ORDER m k w)) w w₃
  swept_more p e S T = rw (next (list ORDER m k w) i k a.order.count h, ← order_is, ← e) (swept_then R (swept_both S T))

-- ---- realised endpoints leave

-- at the first realised endpoint none has left
pub leaving_none : {m n r : ℕ} {w : List ℕ} → LeaveAt m n r w → Leaving m n r 0 w w n
unfolding swap_out_all
leaving_none a = record { upto = omega arith; frame = frame_none; now = a.waiting }

module _ {m n r i : ℕ} {w w₁ : List ℕ} {e : ℕ} (a : LeaveAt m n r w) (L : Leaving m n r i w w₁ e) (h : i < r) where
  abbrev rs : List ℕ
  rs = list STACK m r w

  real_is : get_or w₁ (STACK * m + i) 0 ≡ get_or rs i 0
  real_is = L.frame.cell STACK refl (omega arith) i (omega (arith, a.real.held.few)) ∙ holds_at a.real.held i h

  -- what left before is another pin
  fresh : Out (get_or rs i 0) (take i rs)
  fresh = split (mem (get_or rs i 0) (take i rs))
      (λ e. let t = get_or_in (take i rs) 0 (get_or rs i 0) e in
      let b : t.0 < i = omega (arith, t.1, length-take i rs) in
      let l = a.real.held.count in
      absurd (omega (arith, once_place a.real.once t.0 i (omega arith) (omega arith) (sym (get_or-take i rs t.0 0 b) ∙ t.2))))
      (λ e. e)

  -- the next realised endpoint waits still, and may leave
  pub leave_at : (p : ℕ) → p ≡ get_or w₁ (STACK * m + i) 0 → SwapAt m e p w₁
  leave_at p d =
      let q : p ≡ get_or rs i 0 = d ∙ real_is in
      swap_out_at L.now (frame_room L.frame a.area)
      (rw q (left_out (once_take i a.real.once) (list WAITING m n w) (λ x j. a.waits x (take_in i rs x j)) (get_or rs i 0) (a.waits (get_or rs i 0) (in_get_or rs i 0 (omega (
        arith,
        a.real.held.count,
      )))) fresh))

  -- one more realised endpoint has left the waiting list
  pub leaving_more : (p : ℕ) → p ≡ get_or w₁ (STACK * m + i) 0 → {w₂ : List ℕ} {e₂ : ℕ} → Swapped m e p w₁ w₂ e₂ → Leaving m n r (i + 1) w w₂ e₂
  leaving_more p d S = record {
    upto = omega arith;
    frame = frame_then L.frame S.frame;
    now = rw (next rs i r a.real.held.count h, swap_out_all-append, swap_one, ← real_is, ← d) (swapped L.now S);
  }

-- ---- tree endpoints are realised

module _ {m r p : ℕ} {w : List ℕ} (a : OneAt m r p w) where
  -- a needed waiting pin is no tree endpoint
  pub one_not : (get_or w (SPARE * m + p) 0 ≡ 0 → ⊥) → One m r p w w r
  unfolding is_tree keep insert_all
  one_not ne = record { frame = frame_none; real = rw (ne_eqb (get_or w (SPARE * m + p) 0) 0 ne, keep) a.real }

  -- a waiting pin may be listed as realised
  pub one_at : EnlistAt STACK MARK m r p w
  one_at = enlist_at a.real a.area a.pin (omega arith) (omega arith) (λ e. omega arith)

  -- a tree endpoint is listed as realised
  pub one_more : get_or w (SPARE * m + p) 0 ≡ 0 → {w' : List ℕ} {e : ℕ} → Enlisted STACK MARK m r p w w' e → One m r p w w' e
  unfolding is_tree keep insert_all
  one_more z E = record { frame = E.frame; real = rw (eq-eqb (get_or w (SPARE * m + p) 0) 0 z, keep) E.now }

-- at the first waiting pin none is added
pub realising_none : {m n r : ℕ} {w : List ℕ} → RealiseAt m n r w → Realising m n r 0 w w r
unfolding keep insert_all
realising_none a = record { upto = omega arith; frame = frame_none; real = a.real }

module _ {m n r i : ℕ} {w w₁ : List ℕ} {e : ℕ} (a : RealiseAt m n r w) (R : Realising m n r i w w₁ e) (h : i < n) where
  abbrev ws : List ℕ
  ws = list WAITING m n w

  waiting_is : get_or w₁ (WAITING * m + i) 0 ≡ get_or ws i 0
  waiting_is = R.frame.cell WAITING refl (omega arith) i (omega (arith, a.waiting.few)) ∙ holds_at a.waiting i h

  -- the next waiting pin may be looked at
  pub realise_at : (p : ℕ) → p ≡ get_or w₁ (WAITING * m + i) 0 → OneAt m e p w₁
  realise_at p d = record { area = frame_room R.frame a.area; pin = rw (d, waiting_is) (a.waiting.pins i h); real = rw R.real.held.is R.real }

  -- one more waiting pin is looked at
  pub realising_more : (p : ℕ) → p ≡ get_or w₁ (WAITING * m + i) 0 → {w₂ : List ℕ} {e₂ : ℕ} → One m e p w₁ w₂ e₂ → Realising m n r (i + 1) w w₂ e₂
  unfolding keep is_tree
  realising_more p d O =
      let q : p ≡ get_or ws i 0 = d ∙ waiting_is in
      let k : keep (is_tree m w₁) (p ∷ []) ≡ keep (is_tree m w) (get_or ws i 0 ∷ []) = rw (
        keep,
        R.frame.cell SPARE refl (omega arith) p (rw (d, waiting_is) (a.waiting.pins i h)),
      ) (ap (λ (x : ℕ). keep (is_tree m w) (x ∷ [])) q) in
      record {
        upto = omega arith;
        frame = frame_then R.frame O.frame;
        real = rw (next ws i n a.waiting.count h, keep_append, insert_all-append, ← k, ← R.real.held.is) O.real;
      }
