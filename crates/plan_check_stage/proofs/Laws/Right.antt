-- A cell's test, by what the code tests, and the first cell that fails. Assumes nothing.
use Prim.Native.Nat.{ℕ, suc, ◌+◌, ◌-◌, ◌^◌, ◌≤◌, ◌<◌}
use mathlib.Core.Path.{◌≡◌, refl, sym, ◌∙◌, ap}
use mathlib.Core.Bool.{Bool, true, false, not, ◌&&◌}
use mathlib.Core.List.{List}
use native.Mathlib.Omega.{arith}
use lib.Dec.{eqb, ltb}
use lib.ListN.{length, get_or}
use borrow.Author.Tests.{lt-ltb, le-ltb, eq-eqb, ne_eqb, not-true, not-false}
use Rattle.std.specs.Prelude.{Some, None}
use Rattle.rules.specs.Lists.{mem}
use Rattle.rules.specs.Cells.{is_height, empty, filled, width, stage_size, first_lower, second_lower}
use Rattle.rules.specs.Graph.{Node, leaf, gate, pin_of, inversion_of, graph_of, pin_count}
use Rattle.rules.specs.Fold.{is_leaf}
use Rattle.rules.specs.Coded.{cell_pin, and_of, and_cell}
use Rattle.rules.specs.Faults.{splits, right_above, right_at, first_not, first_may}
use Rattle.rules.proofs.Fold.Bits.{lower_cells}
use Rattle.graph.specs.declared.Node as graph
use Rattle.graph.specs.declared.Node.TheVariants.{Leaf, Gate}
use Rattle.graph.specs.Values.{node_for}
use Rattle.graph.proofs.Gates.{graph_length}
use Rattle.cells.specs.Answers.{or_zero}
use Rattle.cells.proofs.Heights.{or_zero_true}
use Rattle.plan_check_stage.specs.Marks.{marked}
use Rattle.plan_check_stage.specs.Cells.{Gives, may_of, StageHere, CellHere, Above, Loadable, Loads, CellRight, place_of, FirstWrong}
use Rattle.plan_check_stage.proofs.Laws.Marks.{get_or_inside}

-- what a test for the empty mark tells
pub none : {t b : Bool} → t ≡ not b → t ≡ true → b ≡ false
none {t} {b} e h = not-true b (sym e ∙ h)

-- and where it fails
pub some : {t b : Bool} → t ≡ not b → t ≡ false → b ≡ true
some {t} {b} e h = not-false b (sym e ∙ h)

-- a filled cell's pin has 16 bits
pub pin_small : (c : ℕ) → filled c ≡ true → cell_pin c < 65536
unfolding cell_pin
pin_small c e = rw (e, cell_pin) (omega arith)

-- an inversion is 0 or 1
pub inversion_small : (i l : ℕ) → i ≡ inversion_of l → i < 2
unfolding inversion_of
inversion_small i l e = omega arith

-- ---- a gate's cell

module _ (n c x y a b r m i j : ℕ) (er : r ≡ and_of m i j) (em : m ≡ n) (ei : i ≡ inversion_of a) (ej : j ≡ inversion_of b) where
  right_is : r ≡ and_cell n (gate a b)
  unfolding and_cell
  right_is = er ∙ rw (em, ei, ej)

  -- another cell
  pub splits_other : (c ≡ r → ⊥) → false ≡ splits (gate a b) n c x y
  unfolding splits
  splits_other d = rw (ne_eqb c (and_cell n (gate a b)) (λ e. d (e ∙ sym right_is)))

  module _ (same : c ≡ r) (pa : ℕ) (ea : pa ≡ pin_of a) where
    -- a first lower cell of another pin
    pub splits_first : (x ≡ pa → ⊥) → false ≡ splits (gate a b) n c x y
    unfolding splits
    splits_first d = rw (eq-eqb c (and_cell n (gate a b)) (same ∙ right_is), ne_eqb x (pin_of a) (λ e. d (e ∙ sym ea)))

    -- then the second decides
    pub splits_second : x ≡ pa → (pb : ℕ) → pb ≡ pin_of b → eqb y pb ≡ splits (gate a b) n c x y
    unfolding splits
    splits_second d pb eb = rw (eq-eqb c (and_cell n (gate a b)) (same ∙ right_is), eq-eqb x (pin_of a) (d ∙ ea), eb)

-- ---- a cell above level 0

module _ (g : List Node) (marks : List ℕ) (c x y p : ℕ) (ep : p ≡ cell_pin c) where
  -- a copy
  pub above_copies : c ≡ p → Above g marks c x y (eqb x p)
  unfolding right_above
  above_copies e = record { is = λ given G. rw (eq-eqb c (cell_pin c) (e ∙ ep), ep, right_above) }

  module _ (other : c ≡ p → ⊥) (t : Bool) (et : t ≡ marked marks p) where
    ands : eqb c (cell_pin c) ≡ false
    ands = ne_eqb c (cell_pin c) (λ e. other (e ∙ sym ep))

    test : (given : List ℕ) → Gives given marks → mem (cell_pin c) given ≡ t
    test given G = ap (λ (n : ℕ). mem n given) (sym ep) ∙ sym (G.says p) ∙ sym et

    -- an AND at a given pin
    pub above_given : t ≡ true → Above g marks c x y false
    unfolding right_above
    above_given e = record { is = λ given G. let z : mem (cell_pin c) given ≡ true = test given G ∙ e in rw (ands, z, right_above) }

    -- an AND at another
    pub above_ands : t ≡ false → (r : Bool) (n : Node) → n ≡ get_or g p leaf → r ≡ splits n (cell_pin c) c x y → Above g marks c x y r
    unfolding right_above
    above_ands e r n en er = record {
      is = λ given G.
          let z : mem (cell_pin c) given ≡ false = test given G ∙ e in
          rw (ands, z, right_above) (er ∙ ap (λ (k : Node). splits k (cell_pin c) c x y) (en ∙ ap (λ (k : ℕ). get_or g k leaf) ep));
    }

-- ---- a load

-- a leaf, or a gate
pub leaf_there : (g : List Node) (n : ℕ) (k : Node) → k ≡ get_or g n leaf → (r : Bool) → r ≡ is_leaf k → Loadable g n r
leaf_there g n k e r d = record { is = d ∙ ap is_leaf e }

-- what is no leaf is a gate
pub gate_there : (k : graph.Node) → (k ≡ Leaf → ⊥) → false ≡ is_leaf (node_for k)
unfolding node_for is_leaf
gate_there Leaf h = absurd (h refl)
gate_there (Gate a b) h = refl

module _ (g : List Node) (marks looks : List ℕ) (first : Bool) (n : ℕ) where
  -- in a later stage
  pub loads_later : first ≡ false → (r : Bool) → r ≡ marked looks n → Loads g marks looks first n r
  unfolding may_of
  loads_later e r er = record { is = λ given G. rw e er }

  module _ (one : first ≡ true) (t : Bool) (et : t ≡ marked marks n) where
    -- a given pin
    pub loads_given : t ≡ true → Loads g marks looks first n true
    unfolding may_of first_may
    loads_given e = record { is = λ given G. let z : mem n given ≡ true = sym (G.says n) ∙ sym et ∙ e in rw (one, z) }

    -- a leaf
    pub loads_leaf : t ≡ false → (r : Bool) → Loadable g n r → Loads g marks looks first n r
    unfolding may_of first_may
    loads_leaf e r L = record { is = λ given G. let z : mem n given ≡ false = sym (G.says n) ∙ sym et ∙ e in rw (one, z) L.is }

-- ---- a cell

module _ (K : ℕ) (g : List Node) (given : List ℕ) (may : ℕ → Bool) (cl : List ℕ) (p : ℕ) where
  empty_right : filled (get_or cl p empty) ≡ false → right_at K g given may cl p ≡ true
  unfolding right_at
  empty_right k = rw (k, right_at)

  module _ (k : filled (get_or cl p empty) ≡ true) where
    unnamed_wrong : (ltb 0 (cell_pin (get_or cl p empty)) && ltb (cell_pin (get_or cl p empty)) (length g)) ≡ false → right_at K g given may cl p ≡ false
    unfolding right_at
    unnamed_wrong e = rw (k, e, right_at)

    module _ (a : ltb 0 (cell_pin (get_or cl p empty)) ≡ true) (b : ltb (cell_pin (get_or cl p empty)) (length g) ≡ true) where
      upper_right : ltb p (width K) ≡ true → right_at K g given may cl p ≡ right_above g given (get_or cl p empty) (cell_pin (get_or cl (first_lower p) empty)) (cell_pin (get_or cl (second_lower p) empty))
      unfolding right_at
      upper_right d = rw (k, a, b, d, right_at)

      lower_right : ltb p (width K) ≡ false → right_at K g given may cl p ≡ (eqb (get_or cl p empty) (cell_pin (get_or cl p empty)) && may (cell_pin (get_or cl p empty)))
      unfolding right_at
      lower_right d = rw (k, a, b, d, right_at)

module _ (K : ℕ) (gates marks looks : List ℕ) (first : Bool) (cells : List ℕ) (p : ℕ) (H : CellHere K cells p) where
  abbrev g : List Node
  g = graph_of gates

  here : get_or cells p 0 ≡ get_or cells p empty
  here = get_or_inside cells p 0 empty H.here

  -- an empty cell
  pub cell_empty : filled (get_or cells p 0) ≡ false → CellRight K g marks looks first cells p true
  cell_empty e = record { is = λ given G. sym (empty_right K g given _ cells p (ap filled (sym here) ∙ e)) }

  module _ (full : filled (get_or cells p 0) ≡ true) (n i : ℕ) (en : n ≡ cell_pin (get_or cells p 0)) (ei : i ≡ n) where
    full_here : filled (get_or cells p empty) ≡ true
    full_here = ap filled (sym here) ∙ full

    pin_here : i ≡ cell_pin (get_or cells p empty)
    pin_here = ei ∙ en ∙ ap cell_pin here

    -- of pin 0
    pub cell_zero : i ≡ 0 → CellRight K g marks looks first cells p false
    cell_zero e = record { is = λ given G. sym (unnamed_wrong K g given _ cells p full_here (rw (sym pin_here ∙ e))) }

    module _ (some : i ≡ 0 → ⊥) (m : ℕ) (em : m ≡ pin_count gates) where
      above : ltb 0 (cell_pin (get_or cells p empty)) ≡ true
      above = rw (← pin_here) (lt-ltb 0 i (omega arith))

      -- past the graph
      pub cell_past : m ≤ i → CellRight K g marks looks first cells p false
      cell_past h = record {
        is = λ given G. sym (unnamed_wrong K g given _ cells p full_here
            (let b : ltb (cell_pin (get_or cells p empty)) (length g) ≡ false = rw (← pin_here) (le-ltb i (length g) (omega (arith, graph_length gates))) in rw (above, b)));
      }

      module _ (inside : i < m) where
        below : ltb (cell_pin (get_or cells p empty)) (length g) ≡ true
        below = rw (← pin_here) (lt-ltb i (length g) (omega (arith, graph_length gates)))

        module _ (w : ℕ) (ew : w ≡ or_zero (is_height K) (2 ^ K)) where
          wide : w ≡ 2 ^ K
          wide = rw (H.stage.tall.height, or_zero_true (2 ^ K)) at ew

          -- above level 0
          pub cell_above : p < w → (a b x y : ℕ) → a ≡ first_lower p → b ≡ second_lower p → x ≡ cell_pin (get_or cells a 0) → y ≡ cell_pin (get_or cells b 0) → (r : Bool) →
              Above g marks (get_or cells p 0) x y r → CellRight K g marks looks first cells p r
          cell_above h a b x y ea eb ex ey r A = record {
            is = λ given G.
                let l = lower_cells K p H.one (omega (arith, wide)) in
                let s = H.stage.size in
                let c = upper_right K g given (may_of first g given looks) cells p full_here above below (lt-ltb p (2 ^ K) (omega (arith, wide))) in
                let fx : x ≡ cell_pin (get_or cells (first_lower p) empty) = ex ∙ ap cell_pin (ap (λ (k : ℕ). get_or cells k 0) ea ∙ get_or_inside cells (first_lower p) 0 empty (omega (arith, l.next, l.inside))) in
                let fy : y ≡ cell_pin (get_or cells (second_lower p) empty) = ey ∙ ap cell_pin (ap (λ (k : ℕ). get_or cells k 0) eb ∙ get_or_inside cells (second_lower p) 0 empty (omega (arith, l.inside))) in
                A.is given G ∙ (λ k. right_above g given (here k) (fx k) (fy k)) ∙ sym c;
          }

          lower : (given : List ℕ) → w ≤ p → right_at K g given (may_of first g given looks) cells p ≡ (eqb (get_or cells p empty) (cell_pin (get_or cells p empty)) && may_of first g given looks (cell_pin (get_or cells p empty)))
          lower given h = lower_right K g given (may_of first g given looks) cells p full_here above below (le-ltb p (2 ^ K) (omega (arith, wide)))

          -- at level 0: more than a pin
          pub cell_more : w ≤ p → (get_or cells p 0 ≡ n → ⊥) → CellRight K g marks looks first cells p false
          cell_more h d = record {
            is = λ given G. sym (lower given h ∙
                (let z : eqb (get_or cells p empty) (cell_pin (get_or cells p empty)) ≡ false = ne_eqb (get_or cells p empty) (cell_pin (get_or cells p empty)) (λ e. d (here ∙ e ∙ sym pin_here ∙ ei)) in rw z));
          }

          -- a pin
          pub cell_load : w ≤ p → get_or cells p 0 ≡ n → (r : Bool) → Loads g marks looks first n r → CellRight K g marks looks first cells p r
          cell_load h d r L = record {
            is = λ given G. L.is given G ∙ sym (lower given h ∙
                (let z : eqb (get_or cells p empty) (cell_pin (get_or cells p empty)) ≡ true = eq-eqb (get_or cells p empty) (cell_pin (get_or cells p empty)) (sym here ∙ d ∙ sym ei ∙ pin_here) in
                rw z (ap (λ (k : ℕ). may_of first g given looks k) (sym pin_here ∙ ei))));
          }

-- the lower cells of a position above level 0 stand in the stage
pub lower_inside : (K : ℕ) (cells : List ℕ) (p : ℕ) → CellHere K cells p → (w : ℕ) → w ≡ or_zero (is_height K) (2 ^ K) → p < w → (first_lower p < length cells) × (second_lower p < length cells)
lower_inside K cells p H w ew h =
    let e : w ≡ 2 ^ K = rw (H.stage.tall.height, or_zero_true (2 ^ K)) at ew in
    let l = lower_cells K p H.one (omega arith) in
    (omega (arith, l.next, l.inside, H.stage.size), omega (arith, l.inside, H.stage.size))

-- ---- the first cell that fails

-- those before p pass
pub record WrongFrom (K : ℕ) (g : List Node) (marks looks : List ℕ) (first : Bool) (cells : List ℕ) (p : ℕ) : Type 0 where
  pub one : 1 ≤ p
  pub upto : p ≤ length cells
  pub same : (given : List ℕ) → Gives given marks →
      first_not (right_at K g given (may_of first g given looks) cells) (stage_size K - 1) 1 ≡ first_not (right_at K g given (may_of first g given looks) cells) (length cells - p) p

module _ (K : ℕ) (g : List Node) (marks looks : List ℕ) (first : Bool) (cells : List ℕ) (S : StageHere K cells) where
  -- at the beginning
  pub wrong_none : WrongFrom K g marks looks first cells 1
  wrong_none = record {
    one = omega arith;
    upto = omega (arith, S.size, S.tall.double, S.tall.low);
    same = λ given G. ap (λ (n : ℕ). first_not (right_at K g given (may_of first g given looks) cells) (n - 1) 1) (sym S.size);
  }

  module _ (p : ℕ) (W : WrongFrom K g marks looks first cells p) (h : p < length cells) (r : Bool) (R : CellRight K g marks looks first cells p r) where
    -- the cell at p is right
    pub wrong_more : r ≡ true → WrongFrom K g marks looks first cells (p + 1)
    unfolding first_not
    wrong_more e = record {
      one = omega arith;
      upto = omega arith;
      same = λ given G.
          let n : length cells - p ≡ suc (length cells - (p + 1)) = omega arith in
          let s : suc p ≡ p + 1 = omega arith in
          let t : right_at K g given (may_of first g given looks) cells p ≡ true = sym (R.is given G) ∙ e in
          W.same given G ∙ rw (n, t, first_not, s);
    }

    -- it is not
    pub wrong_here : r ≡ false → FirstWrong K g marks looks first cells (Some p)
    unfolding first_not place_of
    wrong_here e = record {
      is = λ given G.
          let n : length cells - p ≡ suc (length cells - (p + 1)) = omega arith in
          let t : right_at K g given (may_of first g given looks) cells p ≡ false = sym (R.is given G) ∙ e in
          W.same given G ∙ rw (n, t, first_not);
    }

  -- all are right
  pub wrong_done : (p : ℕ) → WrongFrom K g marks looks first cells p → length cells ≤ p → FirstWrong K g marks looks first cells None
  unfolding first_not place_of
  wrong_done p W h = record { is = λ given G. let n : length cells - p ≡ 0 = omega arith in W.same given G ∙ rw n }
