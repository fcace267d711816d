-- A stage that a build makes, coded: its pins are the plan's, and each cell says what it does. Assumes nothing.
use Prim.Native.Nat.{ℕ, zero, suc, ◌+◌, ◌-◌, ◌^◌, ◌≤◌, ◌<◌}
use mathlib.Core.Path.{◌≡◌, refl, sym, ◌∙◌, ap}
use mathlib.Core.Bool.{true, false, not}
use mathlib.Core.List.{List, [], ◌∷◌, map}
use native.Mathlib.Omega.{arith}
use lib.Dec.{eqb, ltb}
use lib.ListN.{length, get_or, take, drop, length-map, length-take, length-drop, get_or-map}
use lib.Seq.{ext_get_or, get_or-take, get_or-drop}
use borrow.Author.Tests.{ltb-true, ltb-false, not-false}
use Rattle.rules.specs.Lists.{found, up_to, In}
use Rattle.rules.specs.Cells.{filled, empty, stage_size, first_lower, second_lower, row_at, row, first_empty}
use Rattle.rules.specs.Graph.{Node, leaf, gate, pin_of}
use Rattle.rules.specs.Placing.{tree}
use Rattle.rules.specs.Build.{Stage}
use Rattle.rules.specs.Fold.{first_at, lowest}
use Rattle.rules.proofs.Lists.Members.{split, eqb_true, eqb_same}
use Rattle.rules.proofs.Stage.Staged.{two_step}
use Rattle.rules.specs.Inside.Walks.{rank}
use Rattle.rules.proofs.Tree.Held.{tree_in}
use Rattle.rules.proofs.Fold.Folds.{falls_first}
use Rattle.rules.proofs.Demand.{graph}
use Rattle.rules.proofs.Fold.Whole.{above_zero}
use Rattle.rules.specs.Loops.{Valid}
use Rattle.rules.specs.Coded.{cell_pin, and_cell, coded_cell, coded_at, coded, pins}
use Rattle.rules.specs.Faults.{is_found, held_in}
use Rattle.coded.proofs.Cells.{pin_empty, filled_pin, pin_plain, pin_and}
use Rattle.rules.proofs.Fold.Bits.{get_or-up_to}
use Rattle.rules.proofs.Build.Coding.{length_coded}
use Rattle.coded.proofs.Bits.{pin_at}
use Rattle.coded.proofs.Tests.{Does, Fit, lt_true, lt_false}
use Rattle.coded.proofs.Tests as tests
use Rattle.coded.proofs.Shapes.{Acts, copies, joins, Shape}

-- what is not filled is the empty mark
pub not_filled : (c : ℕ) → filled c ≡ false → c ≡ empty
unfolding filled
not_filled c e = eqb_true c empty (not-false (eqb c empty) e)

-- ---- the four kinds of cells

module _ (K : ℕ) (g : List Node) (pl : List ℕ) (p : ℕ) where
  -- an empty cell stays empty
  pub coded_empty : filled (get_or pl p empty) ≡ false → coded_at K g pl p ≡ empty
  unfolding coded_at coded_cell
  coded_empty e = rw (e, coded_cell)

  module _ (k : filled (get_or pl p empty) ≡ true) where
    -- at level 0 a pin stays
    pub coded_load : 2 ^ K ≤ p → coded_at K g pl p ≡ get_or pl p empty
    unfolding coded_at coded_cell
    coded_load h = rw (k, lt_false p (2 ^ K) h, coded_cell)

    -- and so does one whose first lower cell holds it
    pub coded_copy : p < 2 ^ K → get_or pl (first_lower p) empty ≡ get_or pl p empty → coded_at K g pl p ≡ get_or pl p empty
    unfolding coded_at coded_cell
    coded_copy h e = let d : eqb (get_or pl (first_lower p) empty) (get_or pl p empty) ≡ true = ap (λ (x : ℕ). eqb x (get_or pl p empty)) e ∙ eqb_same (get_or pl p empty) in rw (k, lt_true p (2 ^ K) h, d, coded_cell)

    -- any other ANDs as its node says
    pub coded_and : p < 2 ^ K → eqb (get_or pl (first_lower p) empty) (get_or pl p empty) ≡ false → coded_at K g pl p ≡ and_cell (get_or pl p empty) (get_or g (get_or pl p empty) leaf)
    unfolding coded_at coded_cell
    coded_and h e = rw (k, lt_true p (2 ^ K) h, e, coded_cell)

-- ---- where a pin stands

first_has : (n i : ℕ) (cs : List ℕ) (k : ℕ) → k < length cs → get_or cs k empty ≡ n → is_found (first_at n i cs) ≡ true
unfolding first_at is_found
first_has n i [] k h e = absurd (omega arith)
first_has n i (x ∷ cs) zero h e = let d : eqb x n ≡ true = rw e (eqb_same n) in rw (d, first_at)
first_has n i (x ∷ cs) (suc k) h e = split (eqb x n) (λ d. rw (d, first_at)) (λ d. rw (d, first_at) (first_has n (suc i) cs k (omega arith) e))

-- a pin that stands above level 0 is found
pub lowest_has : (K : ℕ) (pl : List ℕ) (n i : ℕ) → 2 ^ K ≤ length pl → 1 ≤ i → i < 2 ^ K → get_or pl i empty ≡ n → is_found (lowest K pl n) ≡ true
unfolding lowest
lowest_has K pl n i l a b e =
    let len : i - 1 < length (take (2 ^ K - 1) (drop 1 pl)) = simp (length-take, length-drop) (omega arith) in
    let z : 1 + (i - 1) ≡ i = omega arith in
    first_has n 1 (take (2 ^ K - 1) (drop 1 pl)) (i - 1) len
    (get_or-take (2 ^ K - 1) (drop 1 pl) (i - 1) empty (omega arith) ∙ get_or-drop 1 pl (i - 1) empty ∙ ap (λ (u : ℕ). get_or pl u empty) z ∙ e)

-- ---- the empty cells

-- the empty cells of cells are those of their pins
pub empty_same : (i : ℕ) (cs : List ℕ) → first_empty i (pins cs) ≡ first_empty i cs
unfolding first_empty pins
empty_same i [] = refl
empty_same i (c ∷ cs) = split (filled c) (λ e. rw (filled_pin c, e, first_empty) (empty_same (suc i) cs)) (λ e. rw (filled_pin c, e, first_empty))

map-take : (f : ℕ → ℕ) (n : ℕ) (cs : List ℕ) → take n (map f cs) ≡ map f (take n cs)
map-take f zero cs = refl
map-take f (suc n) [] = refl
map-take f (suc n) (c ∷ cs) = ap (λ (xs : List ℕ). f c ∷ xs) (map-take f n cs)

map-drop : (f : ℕ → ℕ) (n : ℕ) (cs : List ℕ) → drop n (map f cs) ≡ map f (drop n cs)
map-drop f zero cs = refl
map-drop f (suc n) [] = refl
map-drop f (suc n) (c ∷ cs) = map-drop f n cs

-- a row's pins
pub row_same : (K h : ℕ) (cl : List ℕ) → row K h (pins cl) ≡ pins (row K h cl)
unfolding row pins
row_same K h cl = ap (take (row_at K h)) (map-drop cell_pin (row_at K h) cl) ∙ map-take cell_pin (row_at K h) (drop (row_at K h) cl)

-- ---- a stage

module _ (K : ℕ) (g : List Node) (ok : Valid g) (few : length g ≤ 65536) (given : List ℕ) (held : ℕ → Type 0) (room : ℕ) (s : Stage) (H : Shape K g given held room s) where
  abbrev pl : List ℕ
  pl = s.plan

  abbrev cl : List ℕ
  cl = coded K g s.plan

  cell_at : (p : ℕ) → p < 2 ^ (K + 1) → get_or cl p empty ≡ coded_at K g pl p
  unfolding coded
  cell_at p h =
      ap (λ (d : ℕ). get_or cl p d) (sym (coded_empty K g pl 0 H.zeroth)) ∙ get_or-map (coded_at K g pl) (up_to (stage_size K) 0) p 0
      ∙ ap (coded_at K g pl) (get_or-up_to (stage_size K) 0 p 0 h ∙ omega arith)

  apart : (p a b : ℕ) → get_or g (get_or pl p empty) leaf ≡ gate a b → get_or pl (first_lower p) empty ≡ pin_of a → eqb (get_or pl (first_lower p) empty) (get_or pl p empty) ≡ false
  apart p a b e u = split (eqb (get_or pl (first_lower p) empty) (get_or pl p empty))
      (λ d. absurd (let z : rank g (pin_of a) ≡ rank g (get_or pl p empty) = ap (rank g) (sym u ∙ eqb_true (get_or pl (first_lower p) empty) (get_or pl p empty) d) in omega (arith, (falls_first g (rank g) (graph g ok) given [] (get_or pl p empty) a b e).0))) (λ d. d)

  -- an AND's cell
  and_at : (p a b : ℕ) → p < 2 ^ K → filled (get_or pl p empty) ≡ true → get_or g (get_or pl p empty) leaf ≡ gate a b → get_or pl (first_lower p) empty ≡ pin_of a → coded_at K g pl p ≡ and_cell (get_or pl p empty) (gate a b)
  and_at p a b h k e u = coded_and K g pl p k h (apart p a b e u) ∙ ap (and_cell (get_or pl p empty)) e

  pin_coded : (p : ℕ) → p < 2 ^ (K + 1) → cell_pin (coded_at K g pl p) ≡ get_or pl p empty
  unfolding filled empty
  pin_coded p h = split (filled (get_or pl p empty))
      (λ k.
      let n : get_or pl p empty < 65536 = omega (arith, (H.names p k).1) in
      split (ltb p (2 ^ K))
      (λ d. go k n (ltb-true p (2 ^ K) d) (H.acts p (above_zero pl p (get_or pl p empty) H.zeroth refl k) (ltb-true p (2 ^ K) d) k))
      (λ d. rw (coded_load K g pl p k (ltb-false p (2 ^ K) d)) (pin_plain (get_or pl p empty) n)))
      (λ k. rw (coded_empty K g pl p k) (pin_empty empty refl ∙ sym (not_filled (get_or pl p empty) k)))
    where
      go : filled (get_or pl p empty) ≡ true → get_or pl p empty < 65536 → p < 2 ^ K → Acts g given pl p → cell_pin (coded_at K g pl p) ≡ get_or pl p empty
      go k n d (copies c) = rw (coded_copy K g pl p k d c) (pin_plain (get_or pl p empty) n)
      go k n d (joins a b o c u v) = rw (and_at p a b d k c u) (pin_and (get_or pl p empty) a b n)

  -- decoding gives the plan
  pub pins_coded : pins cl ≡ pl
  unfolding pins
  pins_coded = ext_get_or empty (pins cl) pl (length-map cl cell_pin ∙ length_coded K g pl ∙ sym H.size)
      (λ p h. let b : p < 2 ^ (K + 1) = omega (arith, length-map cl cell_pin, length_coded K g pl) in pin_at cl p ∙ ap cell_pin (cell_at p b) ∙ pin_coded p b)

  -- cell by cell
  pub pin_is : (p : ℕ) → cell_pin (get_or cl p empty) ≡ get_or pl p empty
  pin_is p = sym (pin_at cl p) ∙ ap (λ (xs : List ℕ). get_or xs p empty) pins_coded

  -- and a cell is filled where its pin's is
  pub filled_same : (p : ℕ) → filled (get_or cl p empty) ≡ filled (get_or pl p empty)
  filled_same p = sym (filled_pin (get_or cl p empty)) ∙ ap filled (pin_is p)

  -- every filled cell does what it should
  pub fits : (may : ℕ → Type 0) → ((n : ℕ) → held n → may n) → (p : ℕ) → 1 ≤ p → p < 2 ^ (K + 1) → filled (get_or cl p empty) ≡ true → Fit K g given may cl p
  fits may right p a b f =
      let k : filled (get_or pl p empty) ≡ true = sym (filled_same p) ∙ f in
      let n = H.names p k in
      record {
        above = rw (pin_is p) n.0;
        below = rw (pin_is p) n.1;
        does = split (ltb p (2 ^ K))
            (λ d. go k (ltb-true p (2 ^ K) d) (H.acts p a (ltb-true p (2 ^ K) d) k))
            (λ d. let h : 2 ^ K ≤ p = ltb-false p (2 ^ K) d in
            tests.loads h (cell_at p b ∙ coded_load K g pl p k h ∙ sym (pin_is p)) (rw (pin_is p) (right (get_or pl p empty) (H.loads p h k))));
      }
    where
      go : filled (get_or pl p empty) ≡ true → p < 2 ^ K → Acts g given pl p → Does K g given may cl p
      go k d (copies c) = tests.copies d (cell_at p b ∙ coded_copy K g pl p k d c ∙ sym (pin_is p)) (pin_is (first_lower p) ∙ c ∙ sym (pin_is p))
      go k d (joins x y o c u v) = tests.joins x y d (rw (pin_is p) o) (rw (pin_is p) c) (cell_at p b ∙ and_at p x y d k c u ∙ ap (λ (n : ℕ). and_cell n (gate x y)) (sym (pin_is p)))
          (pin_is (first_lower p) ∙ u) (pin_is (second_lower p) ∙ v)

  -- level 1 keeps its empty cell
  pub free_coded : (c : ℕ) × (first_empty 0 (row K 1 cl) ≡ found c)
  free_coded = (H.free.0, sym (empty_same 0 (row K 1 cl)) ∙ ap (first_empty 0) (sym (row_same K 1 cl)) ∙ ap (λ (xs : List ℕ). first_empty 0 (row K 1 xs)) pins_coded ∙ H.free.1)

  -- and a pin of the tree is held above level 0
  pub held_coded : (n : ℕ) → In n (tree K pl) → held_in K cl n ≡ true
  unfolding held_in
  held_coded n i =
      let t = tree_in K pl n i in
      rw pins_coded (lowest_has K pl n t.0 (omega (arith, H.size, two_step K)) (above_zero pl t.0 n H.zeroth t.3 t.4) t.1 t.3)
