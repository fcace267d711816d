-- A cell is emptied: the counts afterwards. Assumes nothing.
use Prim.Native.Nat.{ℕ, suc, ◌+◌, ◌-◌, ◌*◌, ◌<◌}
use mathlib.Core.Path.{◌≡◌, refl, sym, ap, ◌∙◌}
use mathlib.Core.Logic.{◌≢◌}
use mathlib.Core.Bool.{true, false}
use mathlib.Core.List.{List, [], ◌∷◌}
use native.Mathlib.Omega.{arith}
use native.Mathlib.Decide.{ℕ_discrete}
use lib.Dec.{eqb, ltb}
use lib.ListN.{length, get_or, set, length-set}
use lib.Seq.{get_or-set_same, get_or-set_other, set-set, set-get_or}
use borrow.Author.Tests.{lt-ltb, le-ltb, ne_eqb, eq-eqb}
use Rattle.rules.specs.Lists.{count, mem, In, Out}
use Rattle.rules.specs.Cells.{empty, filled, row, row_at}
use Rattle.rules.specs.Placing.{tree, tree_of}
use Rattle.rules.specs.Inside.Lean.{cells_holding}
use Rattle.rules.proofs.Lists.Members.{split, in_nil}
use Rattle.rules.proofs.Tree.Loads.{rows}
use Rattle.rules.proofs.Tree.Tally.{bit, cells_set, tree_cells, size_new, size_old, row_set, row_set_above}
use Rattle.columns.specs.Fields.{CELLS, ONES, PINS}
use Rattle.stage_walk.specs.Stands.{Context}
use Rattle.stage_tree.specs.Counts.{UncountAt, OneMore}
use Rattle.stage_tree.specs.Bits.{EmptyAt, Emptied}
use Rattle.stage_tree.proofs.Counts.Kept.{inner_none, inner_then, inner_unpin, inner_ones}
use Rattle.stage_tree.proofs.Counts.Pins.{above_zero}
use Rattle.stage_tree.proofs.Bits.Cells.{get_d_any, not_full, row_top, above_one, spot_upper, spot_in}
use Rattle.stage_tree.proofs.Bits.Fills.{low_tally}

some_in : (n : ℕ) (xs : List ℕ) → In n xs → 0 < length xs
some_in n [] i = in_nil n i
some_in n (x ∷ xs) i = omega arith

module _ {C : Context} {m h p n : ℕ} {pl u : List ℕ} (A : EmptyAt C m h p n pl u) where
  abbrev K : ℕ
  K = C.X.K

  -- the stage without the pin
  abbrev pl0 : List ℕ
  pl0 = set pl p empty

  inside : p < length pl
  inside = spot_in A.spot

  -- the cell to be emptied holds the pin
  pub empty_holds : get_or pl p empty ≡ n
  empty_holds = get_d_any pl p empty 0 inside ∙ sym A.is

  -- the cell to be emptied is filled
  pub empty_full : filled n ≡ true
  unfolding filled empty
  empty_full = rw (ne_eqb n empty A.full, filled) refl

  -- the pin in it is a pin of the area
  pub empty_pin : n < m
  empty_pin =
      let k : In (get_or pl p empty) C.X.seen = (A.tall h (row_at K h) p (rows K h A.spot.high) A.spot.from A.spot.to (rw empty_holds empty_full)).0 in
      omega (arith, C.S.bound n (rw empty_holds at k), A.spot.size)

  refill : set pl0 p n ≡ pl
  refill = set-set pl p empty n ∙ ap (set pl p) (sym empty_holds) ∙ set-get_or pl p empty

  -- at level 0 no count changes
  pub emptied_low : h ≡ 0 → Emptied C m p pl u pl0 u
  emptied_low z = record { plan = refl; kept = inner_none; tally = low_tally A.spot z empty }

  module _ (pos : 0 < h) where
    cells_step : (x : ℕ) → x < m → cells_holding K pl0 x + bit (eqb n x) ≡ cells_holding K pl x
    unfolding empty
    cells_step x b = omega (arith, rw (empty_holds, ne_eqb empty x (λ e. omega (arith, A.spot.area.small))) at (cells_set K pl p empty x (spot_upper A.spot pos) inside))

    one_step : cells_holding K pl0 n + 1 ≡ cells_holding K pl n
    one_step = rw (eq-eqb n n refl) at (cells_step n empty_pin)

    free0 : filled (get_or pl0 p empty) ≡ false
    free0 = rw (get_or-set_same pl p empty empty inside) not_full

    in0 : p < length pl0
    in0 = rw length-set inside

    grown_new : Out n (tree K pl0) → length (tree K pl) ≡ suc (length (tree K pl0))
    grown_new o = rw refill at (size_new K pl0 p n (spot_upper A.spot pos) in0 free0 empty_full o)

    grown_old : In n (tree K pl0) → length (tree K pl) ≡ length (tree K pl0)
    grown_old i = rw refill at (size_old K pl0 p n (spot_upper A.spot pos) in0 free0 empty_full i)

    in_tree : mem n (tree K pl0) ≡ ltb 0 (cells_holding K pl0 n)
    in_tree = tree_cells K pl0 n empty_full

    size_pos : 0 < get_or u (16 * m + PINS) 0
    unfolding tree_of
    size_pos = split (mem n (tree K pl0)) (λ i. omega (arith, A.spot.tally.pins, grown_old i, some_in n (tree K pl0) i)) (λ o. omega (arith, A.spot.tally.pins, grown_new o))

    -- above it the pin can be counted once less
    pub empty_count : UncountAt m n u
    empty_count = record { area = A.spot.area; pin = empty_pin; cells = omega (arith, A.spot.tally.cells n empty_pin, one_step); pins = size_pos }

    row_step : h ≡ 1 → count filled (row K 1 pl0) + 1 ≡ count filled (row K 1 pl)
    row_step e = omega (arith, rw (empty_holds, empty_full, not_full) at (row_set K 1 pl p empty (rw e at A.spot.from) (rw e at A.spot.to) inside))

    module _ {u1 : List ℕ} (O : OneMore m n u1 u) where
      cells_after : (x : ℕ) → x < m → get_or u1 (CELLS * m + x) 0 ≡ cells_holding K pl0 x
      cells_after x b = go (ℕ_discrete x n)
        where
          go : Dec (x ≡ n) → get_or u1 (CELLS * m + x) 0 ≡ cells_holding K pl0 x
          go (yes e) = rw e (omega (arith, O.at, A.spot.tally.cells n empty_pin, one_step))
          go (no e) = sym (O.other (CELLS * m + x) (λ d. e (omega arith)) (λ d. omega arith)) ∙ omega (arith, A.spot.tally.cells x b, rw (ne_eqb n x (λ d. e (sym d))) at (cells_step x b))

      pins_after : get_or u1 (16 * m + PINS) 0 ≡ length (tree_of C.X pl0)
      unfolding tree_of
      pins_after = go (ℕ_discrete (get_or u1 (CELLS * m + n) 0) 0)
        where
          go : Dec (get_or u1 (CELLS * m + n) 0 ≡ 0) → get_or u1 (16 * m + PINS) 0 ≡ length (tree K pl0)
          go (yes e) = omega (arith, O.new e, A.spot.tally.pins, grown_new (in_tree ∙ le-ltb 0 (cells_holding K pl0 n) (omega (arith, cells_after n empty_pin))))
          go (no e) = omega (
            arith,
            O.old e,
            A.spot.tally.pins,
            grown_old (in_tree ∙ lt-ltb 0 (cells_holding K pl0 n) (omega (arith, cells_after n empty_pin, above_zero (get_or u1 (CELLS * m + n) 0) e))),
          )

      ones_same : get_or u1 (16 * m + ONES) 0 ≡ get_or u (16 * m + ONES) 0
      ones_same = sym (O.other (16 * m + ONES) (λ d. omega (arith, empty_pin)) (λ d. omega arith))

      -- above level 1 that is all
      pub emptied_upper : h ≢ 1 → Emptied C m p pl u pl0 u1
      emptied_upper ne = record {
        plan = refl;
        kept = inner_unpin empty_pin O;
        tally = record {
          cells = cells_after;
          ones = ones_same ∙ A.spot.tally.ones ∙ ap (count filled) (sym (row_set_above K 1 pl p empty (omega (arith, row_top K h (above_one h pos ne) A.spot.high, A.spot.to))));
          pins = pins_after;
        };
      }

      -- at level 1 the filled cells can be counted one less
      pub ones_pos : h ≡ 1 → 0 < get_or u1 (16 * m + ONES) 0
      ones_pos e = omega (arith, ones_same, A.spot.tally.ones, row_step e)

      -- at level 1 the filled cells are counted one less
      pub emptied_one : h ≡ 1 → Emptied C m p pl u pl0 (set u1 (16 * m + ONES) (get_or u1 (16 * m + ONES) 0 - 1))
      emptied_one e =
          let k : ℕ = get_or u1 (16 * m + ONES) 0 - 1 in
          record {
            plan = refl;
            kept = inner_then (inner_unpin empty_pin O) (inner_ones k);
            tally = record {
              cells = λ x b. get_or-set_other u1 (16 * m + ONES) (CELLS * m + x) k 0 (λ d. omega arith) ∙ cells_after x b;
              ones = get_or-set_same u1 (16 * m + ONES) k 0 (omega (arith, O.len, A.spot.area.room)) ∙ omega (arith, ones_same, A.spot.tally.ones, row_step e);
              pins = get_or-set_other u1 (16 * m + ONES) (16 * m + PINS) k 0 (λ d. omega arith) ∙ pins_after;
            };
          }
