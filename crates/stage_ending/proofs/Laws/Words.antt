-- Rule 10, turn by turn. Assumes nothing.
use mathlib.Core.Path.{◌≡◌, refl, sym, ◌∙◌, subst}
use mathlib.Core.Logic.{◌≢◌, inl, inr}
use mathlib.Core.Bool.{Bool, true, false, not, ◌&&◌}
use mathlib.Core.List.{List, [], ◌∷◌, ◌++◌}
use Prim.Native.Nat.{ℕ, zero, suc, ◌+◌, ◌-◌, ◌*◌, ◌/◌, ◌<◌, ◌≤◌}
use native.Mathlib.Omega.{arith}
use native.Mathlib.Decide.{ℕ_discrete}
use lib.Dec.{eqb}
use lib.ListN.{length, get_or, set, take, drop, length-append, length-take, length-drop, take-append-drop, get_or-append}
use lib.Seq.{take-suc, take-add, drop-drop, get_or-drop, get_or-set_same, get_or-set_other, get_or-append_seam}
use borrow.Author.Tests.{ne_eqb}
use Rattle.rules.specs.Lists.{mem, insert, count, In, Out, nobody}
use Rattle.rules.specs.Cells.{empty, filled, row_at, row}
use Rattle.rules.proofs.Lists.Members.{split, in_cons, in_nil, in_here, in_there, in_get_or, get_or_in, true_false, in_append_left, in_append_right, insert_in, in_insert_old, in_insert}
use Rattle.rules.proofs.Written.Words.{once_insert}
use Rattle.columns.proofs.Area.Frames.{frame_none, frame_then, frame_set_tail, frame_room}
use Rattle.columns.proofs.Lists.Swap.{once_few, insert_old, insert_new}
use Rattle.stage_runs.proofs.Laws.Plain.{row_high}
use Rattle.stage_sparse.proofs.Laws.Plain.{row_inside}
use Rattle.stage_ending.specs.Words.{is_end, Spots, Kept, WordAt, Worded, Pins, CellAt, words_at, Celled, RowAt, part, Rowed, UpAt, words_from, Rising, Upped}
use Rattle.stage_tree.proofs.Bits.Cells.{get_d_any}

-- ---- frames

-- nothing changed, so nothing but the tail's first numbers did
pub kept_none : {m : ℕ} {w : List ℕ} → Kept m w w
kept_none = record { frame = frame_none; past = λ j h. refl }

-- two changes of the tail's first numbers are one
pub kept_then : {m : ℕ} {u v w : List ℕ} → Kept m u v → Kept m v w → Kept m u w
kept_then a b = record { frame = frame_then a.frame b.frame; past = λ j h. b.past j h ∙ a.past j h }

-- a store to one of the tail's first numbers changes no others
pub kept_set : {m : ℕ} {w : List ℕ} (j v : ℕ) → j < 256 → Kept m w (set w (16 * m + j) v)
kept_set {m} {w} j v h = record { frame = frame_set_tail j v refl; past = λ i k. get_or-set_other w (16 * m + j) (16 * m + i) v 0 (λ e. omega arith) }

-- ---- one word

module _ {m n j : ℕ} {ws w : List ℕ} (a : WordAt m n j ws w) where
  -- at most 256 words are collected
  pub few : n ≤ 256
  few = omega (arith, once_few a.spots.once 256 a.spots.low, a.spots.count)

  -- a word with a place is collected
  pub word_in : (get_or w (16 * m + j) 0 ≡ 0 → ⊥) → In j ws
  word_in ne = split (mem j ws) (λ e. e) (λ o. absurd (ne (a.spots.none j a.word o)))

  spot_of : In j ws → (i : ℕ) × (i < n) × (get_or ws i 0 ≡ j)
  spot_of i = let t = get_or_in ws 0 j i in (t.0, omega (arith, t.1, a.spots.count), t.2)

  -- a word without a place is not collected
  pub word_out : get_or w (16 * m + j) 0 ≡ 0 → Out j ws
  word_out z = split (mem j ws) (λ i. let t = spot_of i in absurd (omega (arith, rw t.2 at (a.spots.spot t.0 t.1)))) (λ o. o)

  -- a word that is there changes nothing
  pub word_old : (get_or w (16 * m + j) 0 ≡ 0 → ⊥) → Worded m j ws w w n
  word_old ne = record { kept = kept_none; spots = rw (insert_old j ws (word_in ne)) a.spots }

  -- a new one goes behind the others
  pub word_new : get_or w (16 * m + j) 0 ≡ 0 → (w' : List ℕ) → w' ≡ set w (16 * m + j) (n + 1) → Worded m j ws w w' (n + 1)
  word_new z w' e =
      let o = word_out z in
      let k : Kept m w (set w (16 * m + j) (n + 1)) = kept_set j (n + 1) a.word in
      rw e (record {
        kept = k;
        spots = record {
          area = frame_room k.frame a.spots.area;
          count = rw (insert_new j ws o, length-append ws (j ∷ [])) (omega (arith, a.spots.count));
          once = once_insert j a.spots.once;
          low = λ i h. elim (insert_in i j ws h) [ inl d ↦ rw d a.word | inr d ↦ a.spots.low i d ];
          spot = λ i h. elim (ℕ_discrete i n) [
            | yes d ↦
                let q : get_or (ws ++ (j ∷ [])) i 0 ≡ j = rw (d, ← a.spots.count) (get_or-append_seam ws j [] 0) in
                rw (insert_new j ws o, q, d) (get_or-set_same w (16 * m + j) (n + 1) 0 (omega (arith, a.spots.area.room, a.word)))
            | no d ↦
                let q : get_or (ws ++ (j ∷ [])) i 0 ≡ get_or ws i 0 = get_or-append ws (j ∷ []) 0 i (omega (arith, a.spots.count)) in
                let ne : get_or ws i 0 ≢ j = λ r. true_false (rw r at (in_get_or ws i 0 (omega (arith, a.spots.count)))) o in
                rw (insert_new j ws o, q, get_or-set_other w (16 * m + j) (16 * m + get_or ws i 0) (n + 1) 0 (λ r. ne (omega arith))) (a.spots.spot i (omega arith))
          ];
          none = λ i h b.
              let ne : i ≢ j = λ r. true_false (subst (λ (x : ℕ). In x (insert j ws)) (sym r) (in_insert j ws)) b in
              rw (get_or-set_other w (16 * m + j) (16 * m + i) (n + 1) 0 (λ r. ne (omega arith))) (a.spots.none i h (split (mem i ws) (λ t. true_false (in_insert_old i j ws t) b) (λ t. t)));
        };
      })

-- ---- one cell

module _ {m n p : ℕ} {ws pl w : List ℕ} (a : CellAt m n p ws pl w) where
  same : get_or pl p empty ≡ get_or pl p 0
  same = get_d_any pl p empty 0 a.cell

  -- an empty cell has no word
  pub cell_none : get_or pl p 0 ≡ 4294967295 → Celled m p ws pl w w n
  unfolding words_at filled empty
  cell_none e = record { kept = kept_none; spots = rw (same, e, words_at) a.spots }

  -- a cell's word may be collected
  pub cell_at : WordAt m n (p / 32) ws w
  cell_at = record { spots = a.spots; word = omega (arith, a.high) }

  module _ (ne : get_or pl p 0 ≡ 4294967295 → ⊥) where
    full : filled (get_or pl p empty) ≡ true
    unfolding filled empty
    full = rw (same, ne_eqb (get_or pl p 0) 4294967295 ne) refl

    -- a cell of another pin adds no word
    pub cell_not : is_end m w (get_or pl p 0) ≡ false → Celled m p ws pl w w n
    unfolding words_at
    cell_not e = let f : is_end m w (get_or pl p empty) ≡ false = rw same e in record { kept = kept_none; spots = rw (full, f, words_at) a.spots }

    -- a cell of an endpoint that is looked for adds its word
    pub cell_end : is_end m w (get_or pl p 0) ≡ true → {w' : List ℕ} {r : ℕ} → Worded m (p / 32) ws w w' r → Celled m p ws pl w w' r
    unfolding words_at
    cell_end e W = let f : is_end m w (get_or pl p empty) ≡ true = rw same e in record { kept = W.kept; spots = rw (full, f, words_at) W.spots }

-- the test, column by column
flip : (b : Bool) → not b ≡ true → b ≡ false
flip true e = sym e
flip false e = refl

unflip : (b : Bool) → not b ≡ false → b ≡ true
unflip true e = refl
unflip false e = sym e

and_false : (b : Bool) → false ≡ (b && false)
and_false true = refl
and_false false = refl

and_true : (b : Bool) → b ≡ (b && true)
and_true true = refl
and_true false = refl

module _ (m : ℕ) (w : List ℕ) (c : ℕ) where
  -- a realised pin is not looked for
  pub end_real : not (eqb (get_or w (14 * m + c) 0) 0) ≡ true → false ≡ is_end m w c
  unfolding is_end
  end_real e = rw (flip (eqb (get_or w (14 * m + c) 0) 0) e) (and_false (not (eqb (get_or w (13 * m + c) 0) 0)))

  module _ (e : not (eqb (get_or w (14 * m + c) 0) 0) ≡ false) where
    -- a needed pin is not looked for either
    pub end_needed : not (eqb (get_or w (15 * m + c) 0) 0) ≡ true → false ≡ is_end m w c
    unfolding is_end
    end_needed d = rw (unflip (eqb (get_or w (14 * m + c) 0) 0) e, flip (eqb (get_or w (15 * m + c) 0) 0) d) (and_false (not (eqb (get_or w (13 * m + c) 0) 0)))

    -- any other pin is looked for if it waits
    pub end_rest : not (eqb (get_or w (15 * m + c) 0) 0) ≡ false → (r : Bool) → r ≡ not (eqb (get_or w (13 * m + c) 0) 0) → r ≡ is_end m w c
    unfolding is_end
    end_rest d r f = rw (unflip (eqb (get_or w (14 * m + c) 0) 0) e, unflip (eqb (get_or w (15 * m + c) 0) 0) d) (f ∙ and_true (not (eqb (get_or w (13 * m + c) 0) 0)))

-- the columns that the test reads are kept
pub end_kept : {m : ℕ} {w w' : List ℕ} → Kept m w w' → (c : ℕ) → c < m → is_end m w' c ≡ is_end m w c
unfolding is_end
end_kept k c h = rw (k.frame.cell 13 refl (omega arith) c h, k.frame.cell 14 refl (omega arith) c h, k.frame.cell 15 refl (omega arith) c h) refl

-- ---- a row

-- the words of two parts of a row, one after the other
pub words_append : (f : ℕ → Bool) (p : ℕ) (cs ds ws : List ℕ) → words_at f p (cs ++ ds) ws ≡ words_at f (length cs + p) ds (words_at f p cs ws)
unfolding words_at
words_append f p [] ds ws = let z : 0 + p ≡ p = omega arith in rw z refl
words_append f p (c ∷ cs) ds ws =
    let z : length cs + (suc p) ≡ suc (length cs) + p = omega arith in
    split (filled c && f c) (λ e. rw (e, words_at, ← z) (words_append f (suc p) cs ds (insert (p / 32) ws))) (λ e. rw (e, words_at, ← z) (words_append f (suc p) cs ds ws))

words_ext : (f g : ℕ → Bool) (p : ℕ) (cs ws : List ℕ) → ((c : ℕ) → In c cs → filled c ≡ true → f c ≡ g c) → words_at f p cs ws ≡ words_at g p cs ws
unfolding words_at
words_ext f g p [] ws h = refl
words_ext f g p (c ∷ cs) ws h = split (filled c)
    (λ e. let d : f c ≡ g c = h c (in_here c cs) e in split (g c)
    (λ k. rw (e, d, k, words_at) (words_ext f g (suc p) cs (insert (p / 32) ws) (λ x i. h x (in_there x c cs i))))
    (λ k. rw (e, d, k, words_at) (words_ext f g (suc p) cs ws (λ x i. h x (in_there x c cs i)))))
    (λ e. rw (e, words_at) (words_ext f g (suc p) cs ws (λ x i. h x (in_there x c cs i))))

part_more : (a p : ℕ) (pl : List ℕ) → a ≤ p → p < length pl → part a (p + 1) pl ≡ part a p pl ++ (get_or pl p empty ∷ [])
unfolding part
part_more a p pl h k =
    let z : p + 1 - a ≡ suc (p - a) = omega arith in
    let d : a + (p - a) ≡ p = omega arith in
    rw (z, take-suc (drop a pl) (p - a) empty (rw length-drop (omega arith)), get_or-drop a pl (p - a) empty, d) refl

-- two parts of a row one after the other
part_then : (a p q : ℕ) (pl : List ℕ) → a ≤ p → p ≤ q → part a q pl ≡ part a p pl ++ part p q pl
unfolding part
part_then a p q pl h k =
    let z : q - a ≡ (p - a) + (q - p) = omega arith in
    let y : a + (p - a) ≡ p = omega arith in
    rw (z, take-add (p - a) (q - p) (drop a pl), drop-drop (p - a) a pl, y) refl

part_length : (a p : ℕ) (pl : List ℕ) → a ≤ p → p ≤ length pl → length (part a p pl) ≡ p - a
unfolding part
part_length a p pl h k = rw (length-take, length-drop) (omega arith)

-- what is in a part of a plan is in the plan
pub part_in : (a e : ℕ) (pl : List ℕ) (c : ℕ) → In c (part a e pl) → In c pl
unfolding part
part_in a e pl c i =
    let d : take (e - a) (drop a pl) ++ drop (e - a) (drop a pl) ≡ drop a pl = take-append-drop (e - a) (drop a pl) in
    let f : take a pl ++ drop a pl ≡ pl = take-append-drop a pl in
    let j : In c (drop a pl) = rw d at (in_append_left c (take (e - a) (drop a pl)) (drop (e - a) (drop a pl)) i) in
    rw f at (in_append_right c (take a pl) (drop a pl) j)

-- what is filled in the plan is a pin of the area
pub pins_in : {m : ℕ} {pl : List ℕ} → Pins m pl → (c : ℕ) → In c pl → filled c ≡ true → c < m
unfolding filled empty
pins_in {m} {pl} P c i f =
    let t = get_or_in pl 0 c i in
    rw t.2 at (P.pin t.0 t.1 (λ z. true_false f (rw (← t.2, z) refl)))

-- where no cell is filled there are no words
words_idle : (f : ℕ → Bool) (p : ℕ) (cs ws : List ℕ) → count filled cs ≡ 0 → words_at f p cs ws ≡ ws
unfolding words_at count
words_idle f p [] ws z = refl
words_idle f p (c ∷ cs) ws z = split (filled c) (λ e. absurd (omega (arith, rw (e, count) at z))) (λ e. rw (e, words_at) (words_idle f (suc p) cs ws (rw (e, count) at z)))

-- a run without a filled cell is done at once
pub run_idle : {m n a : ℕ} {ws pl w : List ℕ} → RowAt m n a (a + 32) ws pl w → count filled (take 32 (drop a pl)) ≡ 0 → Rowed m a (a + 32) ws pl w w n
unfolding part
run_idle {m} {n} {a} {ws} {pl} {w} R z =
    let y : a + 32 - a ≡ 32 = omega arith in
    record { kept = kept_none; spots = rw (y, words_idle (is_end m w) a (take 32 (drop a pl)) ws z) R.spots }

-- the cells from a to p are done
pub record Going (m a e p : ℕ) (ws pl w w' : List ℕ) (n : ℕ) : Type 0 where
  pub from : a ≤ p
  pub upto : p ≤ e
  pub kept : Kept m w w'
  pub spots : Spots m n (words_at (is_end m w) a (part a p pl) ws) w'

module _ {m n a e : ℕ} {ws pl w : List ℕ} (R : RowAt m n a e ws pl w) where
  -- at the row's first cell nothing is done
  pub going_none : Going m a e a ws pl w w n
  unfolding part words_at
  going_none = let z : a - a ≡ 0 = omega arith in record { from = omega arith; upto = R.from; kept = kept_none; spots = rw (z, words_at) R.spots }

  module _ {p : ℕ} {w₁ : List ℕ} {k : ℕ} (G : Going m a e p ws pl w w₁ k) (h : p < e) where
    -- the next cell may be looked at
    pub row_cell : CellAt m k p (words_at (is_end m w) a (part a p pl) ws) pl w₁
    row_cell = record { spots = G.spots; pins = R.pins; cell = omega (arith, R.cells); high = omega (arith, R.high) }

    cell_below : (c : ℕ) → c ≡ get_or pl p empty → filled c ≡ true → c < m
    unfolding filled empty
    cell_below c d f =
        let q : c ≡ get_or pl p 0 = d ∙ same row_cell in
        rw q (R.pins.pin p (omega (arith, R.cells)) (λ z. true_false f (rw (q, z) refl)))

    -- one cell more of the row is done
    pub going_more : {w₂ : List ℕ} {r : ℕ} → Celled m p (words_at (is_end m w) a (part a p pl) ws) pl w₁ w₂ r → Going m a e (p + 1) ws pl w w₂ r
    going_more C = record {
      from = omega (arith, G.from);
      upto = omega arith;
      kept = kept_then G.kept C.kept;
      spots =
          let l : length (part a p pl) + a ≡ p = omega (arith, part_length a p pl G.from (omega (arith, R.cells)), G.from) in
          rw (part_more a p pl G.from (omega (arith, R.cells)), words_append, l)
          (rw (words_ext (is_end m w₁) (is_end m w) p (get_or pl p empty ∷ []) (words_at (is_end m w) a (part a p pl) ws)
          (λ c i f. elim (in_cons c (get_or pl p empty) [] i) [ inl d ↦ end_kept G.kept c (cell_below c d f) | inr d ↦ in_nil c d ])) at C.spots);
    }

  module _ {p q : ℕ} {w₁ : List ℕ} {k : ℕ} (G : Going m a e p ws pl w w₁ k) (h : p ≤ q) (l : q ≤ e) where
    -- some cells more may be looked at
    pub going_row : RowAt m k p q (words_at (is_end m w) a (part a p pl) ws) pl w₁
    going_row = record { spots = G.spots; pins = R.pins; from = h; cells = omega (arith, R.cells); high = omega (arith, R.high) }

    -- and are done
    pub going_part : {w₂ : List ℕ} {r : ℕ} → Rowed m p q (words_at (is_end m w) a (part a p pl) ws) pl w₁ w₂ r → Going m a e q ws pl w w₂ r
    going_part D = record {
      from = omega (arith, G.from);
      upto = l;
      kept = kept_then G.kept D.kept;
      spots =
          let d : length (part a p pl) + a ≡ p = omega (arith, part_length a p pl G.from (omega (arith, R.cells)), G.from) in
          rw (part_then a p q pl G.from h, words_append, d)
          (rw (words_ext (is_end m w₁) (is_end m w) p (part p q pl) (words_at (is_end m w) a (part a p pl) ws)
          (λ c i f. end_kept G.kept c (pins_in R.pins c (part_in p q pl c i) f))) at D.spots);
    }

  -- past its last cell the row is done
  pub going_done : {p : ℕ} {w₁ : List ℕ} {k : ℕ} → Going m a e p ws pl w w₁ k → e ≤ p → Rowed m a e ws pl w w₁ k
  going_done {p} G h = let z : p ≡ e = omega (arith, G.upto) in record { kept = G.kept; spots = rw z at G.spots }

-- ---- all levels

-- level h + 1's row, in a plan
module _ (K h : ℕ) (b : h < K) where
  -- the row one level up is half as long
  pub row_twice : row_at K h ≡ 2 * row_at K (h + 1)
  unfolding row_at
  row_twice = let e : K - h ≡ suc (K - (h + 1)) = omega arith in rw e (omega arith)

-- a level's row is the part from its start to twice that
pub row_part : (K h w : ℕ) (pl : List ℕ) → w ≡ row_at K h → part w (2 * w) pl ≡ row K h pl
unfolding part row
row_part K h w pl e = let z : 2 * w - w ≡ w = omega arith in rw (z, e) refl

from_more : (f : ℕ → Bool) (K n h : ℕ) (pl ws : List ℕ) → words_from f K (suc n) h pl ws ≡ words_at f (row_at K (n + h)) (row K (n + h) pl) (words_from f K n h pl ws)
unfolding words_from
from_more f K zero h pl ws = let z : 0 + h ≡ h = omega arith in rw z refl
from_more f K (suc n) h pl ws = let z : n + suc h ≡ suc n + h = omega arith in from_more f K n (suc h) pl (words_at f (row_at K h) (row K h pl) ws) ∙ rw z refl

module _ {m K half : ℕ} {pl w : List ℕ} (U : UpAt m K half pl w) where
  -- before level 1 nothing is collected
  pub rising_none : Rising m K 1 half pl w w 0
  unfolding words_from
  rising_none = record {
    from = omega arith;
    upto = omega (arith, U.low);
    wide = λ h. U.row;
    kept = kept_none;
    spots = record { area = U.area; count = refl; once = nobody; low = λ j i. in_nil j i; spot = λ i h. absurd (omega arith); none = λ j h o. U.clear j h };
  }

  module _ {h wd n : ℕ} {w₁ : List ℕ} (R : Rising m K h wd pl w w₁ n) (b : h ≤ K) where
    -- the next level's row may be gone through
    pub rising_row : RowAt m n wd (2 * wd) (words_from (is_end m w) K (h - 1) 1 pl []) pl w₁
    rising_row = record {
      spots = R.spots;
      pins = U.pins;
      from = omega arith;
      cells = rw (R.wide b) (row_inside K h (length pl) U.size);
      high = rw (R.wide b) (row_high K h R.from b U.high);
    }

    -- one level more is done
    pub rising_more : {w₂ : List ℕ} {r : ℕ} → Rowed m wd (2 * wd) (words_from (is_end m w) K (h - 1) 1 pl []) pl w₁ w₂ r → Rising m K (h + 1) (wd / 2) pl w w₂ r
    rising_more E =
        let z : h + 1 - 1 ≡ suc (h - 1) = omega (arith, R.from) in
        let y : h - 1 + 1 ≡ h = omega (arith, R.from) in
        record {
          from = omega arith;
          upto = omega arith;
          wide = λ c. omega (arith, R.wide b, row_twice K h (omega arith));
          kept = kept_then R.kept E.kept;
          spots =
              rw (z, from_more, y, ← row_part K h wd pl (R.wide b), ← R.wide b)
              (rw (words_ext (is_end m w₁) (is_end m w) wd (part wd (2 * wd) pl) (words_from (is_end m w) K (h - 1) 1 pl [])
              (λ c i f. end_kept R.kept c (pins_in U.pins c (part_in wd (2 * wd) pl c i) f))) at E.spots);
        }

  -- past the top level all words are collected
  pub rising_done : {h wd n : ℕ} {w₁ : List ℕ} → Rising m K h wd pl w w₁ n → K < h → Upped m K pl w w₁ n
  rising_done {h} R b = let z : h - 1 ≡ K = omega (arith, R.upto) in record { kept = R.kept; spots = rw z at R.spots }
