-- A stage's slots and entries, from the highest position down. Assumes nothing.
use Prim.Native.Nat.{ℕ, zero, suc, ◌+◌, ◌-◌, ◌*◌, ◌^◌, ◌≤◌, ◌<◌}
use mathlib.Core.Path.{◌≡◌, refl, sym, ◌∙◌, ap, ap₂}
use mathlib.Core.Bool.{false}
use mathlib.Core.List.{List, [], ◌∷◌, ◌++◌}
use native.Mathlib.Omega.{arith}
use lib.Dec.{eqb, ltb}
use lib.ListN.{length, get_or, set, drop, length-set}
use lib.Seq.{get_or-set_same, get_or-set_other, get_or-drop, drop-cons, drop-set-lt, drop-length}
use borrow.Author.Tests.{ltb-true, ltb-false}
use Rattle.rules.specs.Cells.{empty, filled}
use Rattle.rules.specs.Graph.{Node, gate}
use Rattle.rules.specs.Coded.{cell_pin}
use Rattle.rules.proofs.Lists.Members.{split, eqb_true, eqb_false}
use Rattle.rules.proofs.Fold.Bits.{lower_cells}
use Rattle.coded.proofs.Cells.{pin_empty}
use Rattle.fold_stage.specs.Bits.{UpAt}
use Rattle.fold_stage.proofs.Laws.Cells.{get_or_inside}
use Rattle.replay_form.specs.Tape.{Source, old, new, source_at, Made, put, scan, stage_made}
use Rattle.replay_tape.specs.declared.sources.Source as code
use Rattle.replay_tape.specs.declared.sources.Source.TheVariants.{Old, New}
use Rattle.replay_tape.specs.Running.{entries_of, Below}
use Rattle.replay_tape.specs.Sources.{load_in, source_for, AboveAt, SourceIs, PutAt, Puts, put_slot, put_tape, put_count}
use Rattle.replay_tape.specs.Stages.{made_of, RowLoaded, AndAt, Ands, StageIn, StageOut}
use Rattle.replay_tape.proofs.Laws.Running.{length_entries, entries_push, below_push}
use Rattle.replay_tape.proofs.Laws.Sources.{load_past, load_there, SourceBelow, source_below, source_same, source_row}

-- ---- level 0

-- the cells of level 0 below q are loaded
pub record RowTo (K : ℕ) (cells l w : List ℕ) (q : ℕ) (now : List ℕ) : Type 0 where
  pub len : length now ≡ length w
  pub low : 2 ^ K ≤ q
  pub high : q ≤ 2 ^ (K + 1)
  pub row : (x : ℕ) → 2 ^ K ≤ x → x < q → get_or now x 0 ≡ load_in l (cell_pin (get_or cells x empty))

module _ (K : ℕ) (cells l w : List ℕ) (A : UpAt K cells w) where
  -- none at the beginning
  pub row_none : (q : ℕ) → q ≡ 2 ^ K → RowTo K cells l w q w
  row_none q e = record { len = refl; low = omega arith; high = omega (arith, A.stage.double); row = λ x a b. absurd (omega arith) }

  module _ (q : ℕ) (now : List ℕ) (r : RowTo K cells l w q now) (h : q < length cells) where
    -- the position is there
    pub row_inside : q < length now
    row_inside = omega (arith, r.len, A.same)

    -- one cell more
    pub row_more : (v : ℕ) → v ≡ load_in l (cell_pin (get_or cells q 0)) → RowTo K cells l w (q + 1) (set now q v)
    row_more v ev =
        let k : load_in l (cell_pin (get_or cells q 0)) ≡ load_in l (cell_pin (get_or cells q empty)) = ap (λ (c : ℕ). load_in l (cell_pin c)) (get_or_inside cells q 0 empty h) in
        record {
          len = length-set now q v ∙ r.len;
          low = omega (arith, r.low);
          high = omega (arith, A.stage.size);
          row = λ y a b. split (eqb y q)
              (λ t. let e = eqb_true y q t in rw (e, get_or-set_same now q v 0 row_inside) (ev ∙ k))
              (λ t. get_or-set_other now q y v 0 (λ d. eqb_false y q t d) ∙ r.row y a (omega (arith, eqb_false y q t)));
        }

  -- all of level 0
  pub row_done : (q : ℕ) (now : List ℕ) → RowTo K cells l w q now → length cells ≤ q → RowLoaded K cells l w now
  row_done q now r h = record { len = r.len; row = λ x a b. r.row x a (omega (arith, A.stage.size)) }

-- ---- the slots from a position on

module _ (p q : ℕ) (w : List ℕ) (e : p ≡ suc q) (high : p ≤ length w) where
  part_cons : (u : List ℕ) → length u ≡ length w → drop q u ≡ get_or u q 0 ∷ drop p u
  part_cons u l = rw e (drop-cons u q 0 (omega arith))

  part_set : (v : ℕ) → drop q (set w q v) ≡ v ∷ drop p w
  part_set v = part_cons (set w q v) (length-set w q v) ∙ rw (get_or-set_same w q v 0 (omega arith), drop-set-lt p w q v (omega arith))

part_at : (p q : ℕ) (w : List ℕ) → p ≤ q → get_or (drop p w) (q - p) 0 ≡ get_or w q 0
part_at p q w a =
    let e : p + (q - p) ≡ q = omega arith in
    get_or-drop p w (q - p) 0 ∙ ap (λ (i : ℕ). get_or w i 0) e

-- ---- a position

module _ (m K : ℕ) (cells : List ℕ) (load : ℕ → ℕ) (T : List Node) (p q n : ℕ) (ep : p ≡ suc q) (en : 2 ^ (K + 1) - n ≡ p) (em : 2 ^ (K + 1) - suc n ≡ q) (w : List ℕ) (tape : List Node) where
  scan_next : scan n m K cells load T ≡ made_of (drop p w) tape → (x : Source) →
      x ≡ source_at K cells load (λ i. get_or (drop p w) (i - p) 0) q → scan (suc n) m K cells load T ≡ put m (made_of (drop p w) tape) x
  unfolding scan
  scan_next D x X =
      let r = made_of (drop p w) tape in
      ap (λ (r : Made). put m r (source_at K cells load (λ i. get_or r.slots (i - (2 ^ (K + 1) - n)) 0) (2 ^ (K + 1) - suc n))) D
      ∙ ap₂ (λ (a b : ℕ). put m r (source_at K cells load (λ i. get_or r.slots (i - a) 0) b)) en em
      ∙ ap (put m r) (sym X)

-- level 0 puts no entries
module _ (m K e : ℕ) (cells l w t u : List ℕ) (I : StageIn K m e cells l w t) (R : RowLoaded K cells l w u) (T : List Node) where
  size : length u ≡ 2 ^ (K + 1)
  size = R.len ∙ I.up.same ∙ I.up.stage.size

  row_zero : (q : ℕ) → filled (get_or cells q empty) ≡ false → load_in l (cell_pin (get_or cells q empty)) ≡ 0
  unfolding empty
  row_zero q t = sym (load_past l _ _ refl (omega (arith, I.pins, I.few, pin_empty (get_or cells q empty) t)))

  row_scans : (n : ℕ) → n ≤ 2 ^ K → scan n m K cells (load_in l) T ≡ made_of (drop (2 ^ (K + 1) - n) u) T
  unfolding scan put
  row_scans zero h = let e : 2 ^ (K + 1) - 0 ≡ length u = omega (arith, size) in rw (e, drop-length u)
  row_scans (suc n) h =
      let d = I.up.stage.double in
      let S = 2 ^ (K + 1) in
      let p = S - n in
      let q = S - suc n in
      let ep : p ≡ suc q = omega arith in
      let v = get_or u q 0 in
      let ev : v ≡ load_in l (cell_pin (get_or cells q empty)) = R.row q (omega arith) (omega arith) in
      scan_next m K cells (load_in l) T p q n ep refl refl u T (row_scans n (omega arith)) (old v)
      (sym (source_row K cells (load_in l) _ q (omega (arith, I.up.stage.low)) (omega arith) v ev (λ k. ev ∙ row_zero q k)))
      ∙ ap (λ (l : List ℕ). made_of l T) (sym (part_cons p q u ep (omega (arith, size)) u refl))

  row_scanned : scan (2 ^ K) m K cells (load_in l) T ≡ made_of (drop (2 ^ K) u) T
  row_scanned = let e : 2 ^ (K + 1) - 2 ^ K ≡ 2 ^ K = omega (arith, I.up.stage.double) in rw e at (row_scans (2 ^ K) (omega arith))

-- ---- empty cells

put_tail_lem : (m : ℕ) (r : Made) (x : Source) (k : ℕ) → get_or (put m r x).slots (suc k) 0 ≡ get_or r.slots k 0
unfolding put
put_tail_lem m r (old s) k = refl
put_tail_lem m r (new x) k = refl

module _ (m K : ℕ) (cells : List ℕ) (load : ℕ → ℕ) (T : List Node) where
  scan_empty : (n : ℕ) → n ≤ 2 ^ (K + 1) → (k : ℕ) → k < n → filled (get_or cells (2 ^ (K + 1) - n + k) empty) ≡ false → get_or (scan n m K cells load T).slots k 0 ≡ 0
  unfolding scan put source_at
  scan_empty zero h k b e = absurd (omega arith)
  scan_empty (suc n) h zero b e =
      let z : 2 ^ (K + 1) - suc n + 0 ≡ 2 ^ (K + 1) - suc n = omega arith in
      let d : filled (get_or cells (2 ^ (K + 1) - suc n) empty) ≡ false = rw z at e in
      rw (d, source_at)
  scan_empty (suc n) h (suc k) b e =
      let z : 2 ^ (K + 1) - suc n + suc k ≡ 2 ^ (K + 1) - n + k = omega arith in
      let r = scan n m K cells load T in
      put_tail_lem m r (source_at K cells load (λ q. get_or r.slots (q - (2 ^ (K + 1) - n)) 0) (2 ^ (K + 1) - suc n)) k ∙ scan_empty n (omega arith) k (omega arith) (rw z at e)

  -- an empty cell has slot 0
  pub empty_slot : (p : ℕ) → p < 2 ^ (K + 1) → filled (get_or cells p empty) ≡ false → get_or (stage_made m K cells load T).slots p 0 ≡ 0
  unfolding stage_made
  empty_slot zero h e = refl
  empty_slot (suc p) h e = let z : 2 ^ (K + 1) - (2 ^ (K + 1) - 1) + p ≡ suc p = omega arith in scan_empty (2 ^ (K + 1) - 1) (omega arith) p (omega arith) (rw z e)

-- ---- above level 0

-- the positions from p on have their slots and entries
pub record Making (K m : ℕ) (cells : List ℕ) (e : ℕ) (w t : List ℕ) (p : ℕ) (w' t' : List ℕ) (e' : ℕ) : Type 0 where
  pub wlen : length w' ≡ length w
  pub tlen : length t' ≡ length t
  pub low : 1 ≤ p
  pub high : p ≤ 2 ^ K
  pub more : e ≤ e'
  pub count : e' + p ≤ e + 2 ^ K
  pub all : (load : ℕ → ℕ) → scan (2 ^ K) m K cells load (entries_of e t) ≡ made_of (drop (2 ^ K) w) (entries_of e t) →
      scan (2 ^ (K + 1) - p) m K cells load (entries_of e t) ≡ made_of (drop p w') (entries_of e' t')
  pub small : (q : ℕ) → p ≤ q → q < 2 ^ (K + 1) → get_or w' q 0 < m + e'
  pub below : Below m e' t'

module _ (K m : ℕ) (cells : List ℕ) (e : ℕ) (w t : List ℕ) (A : AndAt K m e cells w t) where
  -- level 0 at the beginning
  pub making_none : (p : ℕ) → p ≡ 2 ^ K → Making K m cells e w t p w t e
  making_none p ep = record {
    wlen = refl;
    tlen = refl;
    low = omega (arith, A.up.stage.low);
    high = omega arith;
    more = omega arith;
    count = omega arith;
    all = λ load D. let s : 2 ^ (K + 1) - p ≡ 2 ^ K = omega (arith, A.up.stage.double) in rw (s, ep) D;
    small = λ q a b. A.small q (omega arith) b;
    below = A.below;
  }

  module _ (p : ℕ) (now tape : List ℕ) (count : ℕ) (M : Making K m cells e w t p now tape count) (h : 1 < p) where
    -- what is asked of the next cell
    pub making_above : AboveAt cells now (p - 1)
    making_above =
        let l = lower_cells K (p - 1) (omega arith) (omega (arith, M.high)) in
        record {
          here = omega (arith, M.high, A.up.stage.size, A.up.stage.double);
          above = l.above;
          first = omega (arith, l.next, l.inside, A.up.stage.size);
          beyond = omega (arith, l.above, l.next);
          second = omega (arith, l.inside, A.up.stage.size);
          few = omega (arith, A.up.stage.size, A.up.stage.double, A.up.stage.high);
          same = omega (arith, A.up.same, M.wlen);
          small = λ q a b. omega (arith, M.small q (omega arith) (omega (arith, A.up.stage.size)), A.fits, M.count);
        }

    -- there is room for its entry
    pub making_put : PutAt now tape (p - 1) m count
    making_put = record {
      here = omega (arith, A.up.same, A.up.stage.size, M.wlen, M.high, A.up.stage.double);
      room = omega (arith, A.space, M.tlen, M.count);
      fits = omega (arith, A.fits, M.count);
    }

    module _ (q : ℕ) (eq : p ≡ suc q) where
      size_now : length now ≡ 2 ^ (K + 1)
      size_now = M.wlen ∙ A.up.same ∙ A.up.stage.size

      inside : q < length now
      inside = omega (arith, size_now, M.high, A.up.stage.double)

      steps : (x : Source) → SourceIs cells now q x → (load : ℕ → ℕ) → scan (2 ^ K) m K cells load (entries_of e t) ≡ made_of (drop (2 ^ K) w) (entries_of e t) →
          scan (2 ^ (K + 1) - q) m K cells load (entries_of e t) ≡ put m (made_of (drop p now) (entries_of count tape)) x
      steps x X load D =
          let d = A.up.stage.double in
          let S = 2 ^ (K + 1) in
          let k = M.high in
          let s : S - q ≡ suc (S - p) = omega arith in
          rw s (scan_next m K cells load (entries_of e t) p q (S - p) eq (omega arith) (omega arith) now (entries_of count tape) (M.all load D) x
          (X.all K load (omega arith) ∙ source_same K cells load _ q (omega arith) _ (omega arith) (λ i a b. sym (part_at p i now (omega arith)))))

      slot_small : (v c : ℕ) → v < m + c → count ≤ c → (i : ℕ) → q ≤ i → i < 2 ^ (K + 1) → get_or (set now q v) i 0 < m + c
      slot_small v c l u i a b = split (eqb i q)
          (λ k. let d = eqb_true i q k in rw (d, get_or-set_same now q v 0 inside) l)
          (λ k. let d = eqb_false i q k in rw (get_or-set_other now q i v 0 (λ z. d (omega arith))) (omega (arith, M.small i (omega arith) b)))

      one_more : (r : code.Source) → SourceIs cells now q (source_for r) → SourceBelow (m + count) (source_for r) →
          Making K m cells e w t q (set now q (put_slot m count (source_for r))) (put_tape tape count (source_for r)) (put_count count (source_for r))
      unfolding source_for put_slot put_tape put_count put
      one_more (Old s) X B = record {
        wlen = length-set now q s ∙ M.wlen;
        tlen = M.tlen;
        low = omega arith;
        high = omega (arith, M.high);
        more = M.more;
        count = omega (arith, M.count);
        all = λ load D. steps (old s) X load D ∙ ap (λ (l : List ℕ). made_of l (entries_of count tape)) (sym (part_set p q now eq (omega (arith, size_now, M.high, A.up.stage.double)) s));
        small = slot_small s count B (omega arith);
        below = M.below;
      }
      one_more (New a b) X B =
          let room : 2 * count + 2 ≤ length tape = omega (arith, A.space, M.tlen, M.count) in
          record {
            wlen = length-set now q (m + count) ∙ M.wlen;
            tlen = length-set (set tape (2 * count) a) (2 * count + 1) b ∙ length-set tape (2 * count) a ∙ M.tlen;
            low = omega arith;
            high = omega (arith, M.high);
            more = omega (arith, M.more);
            count = omega (arith, M.count);
            all = λ load D. steps (new (gate a b)) X load D
                ∙ ap (λ (c : ℕ). made_of ((m + c) ∷ drop p now) (entries_of count tape ++ (gate a b ∷ []))) (length_entries count tape)
                ∙ ap₂ (λ (l : List ℕ) (z : List Node). made_of l z) (sym (part_set p q now eq (omega (arith, size_now, M.high, A.up.stage.double)) (m + count))) (sym (entries_push tape count a b room));
            small = slot_small (m + count) (count + 1) (omega arith) (omega arith);
            below = below_push tape count a b room m M.below B.0 B.1;
          }

      one_below : (x : Source) → SourceIs cells now q x → SourceBelow (m + count) x
      one_below x X = rw (X.all K (λ n. 0) (omega (arith, M.high))) (source_below K cells (λ n. 0) _ q (omega arith) (m + count) (omega (arith, M.high)) (omega (arith, A.one)) (λ i a b. M.small i (omega arith) b))

    -- one position more
    pub making_more : (r : code.Source) → SourceIs cells now (p - 1) (source_for r) → (now' tape' : List ℕ) (count' : ℕ) → Puts now tape (p - 1) m count (source_for r) now' tape' count' →
        Making K m cells e w t (p - 1) now' tape' count'
    making_more r X now' tape' count' P =
        let s : p ≡ suc (p - 1) = omega arith in
        rw (P.slot, P.entry, P.count) (one_more (p - 1) s r X (one_below (p - 1) s (source_for r) X))

  -- the whole stage
  pub making_done : (p : ℕ) (now tape : List ℕ) (count : ℕ) → Making K m cells e w t p now tape count → p ≤ 1 → Ands K m cells e w t (set now 0 0) tape count
  unfolding stage_made
  making_done p now tape count M h =
      let S = 2 ^ (K + 1) in
      let one : p ≡ 1 = omega (arith, M.low) in
      let d = A.up.stage.double in
      let size : length now ≡ S = M.wlen ∙ A.up.same ∙ A.up.stage.size in
      let inside : 0 < length now = omega (arith, size, A.up.stage.low) in
      let P : set now 0 0 ≡ 0 ∷ drop 1 now = part_set 1 0 now refl (omega arith) 0 in
      record {
        wlen = length-set now 0 0 ∙ M.wlen;
        tlen = M.tlen;
        more = M.more;
        count = omega (arith, M.count);
        all = λ load D. let E : scan (S - 1) m K cells load (entries_of e t) ≡ made_of (drop 1 now) (entries_of count tape) = rw one at (M.all load D) in
            ap (λ (r : Made). made_of (0 ∷ r.slots) r.tape) E ∙ ap (λ (l : List ℕ). made_of l (entries_of count tape)) (sym P);
        small = λ q b. split (eqb q 0)
            (λ k. let v = eqb_true q 0 k in rw (v, get_or-set_same now 0 0 0 inside) (omega (arith, A.one)))
            (λ k. let v = eqb_false q 0 k in rw (get_or-set_other now 0 q 0 0 (λ c. v c)) (M.small q (omega (arith, v)) b));
        below = M.below;
      }

-- ---- a stage

module _ (K m e : ℕ) (cells l w t : List ℕ) (I : StageIn K m e cells l w t) (u : List ℕ) (R : RowLoaded K cells l w u) where
  load_small : (n : ℕ) → load_in l n < m + e
  load_small n = split (ltb n m)
      (λ k. let h = ltb-true n m k in rw (sym (load_there l n n refl)) (I.small n h))
      (λ k. rw (sym (load_past l n n refl (omega (arith, I.pins, ltb-false n m k)))) (omega (arith, I.one)))

  -- what is asked of the cells above level 0 once level 0 is loaded
  pub stage_and : AndAt K m e cells u t
  stage_and = record {
    up = record { stage = I.up.stage; same = R.len ∙ I.up.same };
    space = I.space;
    fits = I.fits;
    one = I.one;
    small = λ q a b. rw (R.row q a b) (load_small _);
    below = I.below;
  }

  -- then the stage is made
  pub stage_out : (w' t' : List ℕ) (e' : ℕ) → Ands K m cells e u t w' t' e' → StageOut K m cells l e w t w' t' e'
  stage_out w' t' e' N = record {
    wlen = N.wlen ∙ R.len;
    tlen = N.tlen;
    more = N.more;
    count = N.count;
    made = N.all (load_in l) (row_scanned m K e cells l w t u I R (entries_of e t));
    small = N.small;
    below = N.below;
  }
