-- A cell is filled: the counts afterwards. Assumes nothing.
use Prim.Native.Nat.{ℕ, ◌+◌, ◌*◌, ◌^◌, ◌≤◌, ◌<◌}
use mathlib.Core.Path.{◌≡◌, refl, sym, ap, ◌∙◌}
use mathlib.Core.Logic.{◌≢◌}
use mathlib.Core.Bool.{true}
use mathlib.Core.List.{List}
use native.Mathlib.Omega.{arith}
use native.Mathlib.Decide.{ℕ_discrete}
use lib.Dec.{eqb, ltb}
use lib.ListN.{length, get_or, set}
use lib.Seq.{get_or-set_same, get_or-set_other}
use borrow.Author.Tests.{lt-ltb, le-ltb, ne_eqb, eq-eqb}
use Rattle.rules.specs.Lists.{count, mem}
use Rattle.rules.specs.Cells.{empty, filled, row}
use Rattle.rules.specs.Placing.{tree, tree_of}
use Rattle.rules.specs.Inside.Lean.{cells_holding}
use Rattle.rules.proofs.Tree.Fair.{listed_filled}
use Rattle.rules.proofs.Tree.Tally.{bit, cells_set, cells_set_low, size_new, size_old, tree_set_low, row_set, row_set_above, row_set_below}
use Rattle.rules.proofs.Tree.Back.{not_filled}
use Rattle.columns.specs.Fields.{CELLS, ONES, PINS}
use Rattle.stage_walk.specs.Stands.{Context}
use Rattle.stage_walk.proofs.Contexts.{work}
use Rattle.stage_tree.specs.Counts.{Counts, CountAt, OneMore}
use Rattle.stage_tree.specs.Bits.{Spot, FillAt, Filled}
use Rattle.stage_tree.proofs.Counts.Kept.{inner_none, inner_then, inner_pin, inner_ones}
use Rattle.stage_tree.proofs.Counts.Sizes.{few}
use Rattle.stage_tree.proofs.Counts.Pins.{above_zero}
use Rattle.stage_tree.proofs.Counts.Rooms.{in_tree}
use Rattle.stage_tree.proofs.Bits.Cells.{row_one, row_top, above_one, spot_zero, spot_upper, spot_in}

-- nothing is counted at level 0, whatever is stored there
pub low_tally : {C : Context} {m h p : ℕ} {pl u : List ℕ} → Spot C m h p pl u → h ≡ 0 → (v : ℕ) → Counts C m (set pl p v) u
unfolding tree_of
low_tally {C} {m} {h} {p} {pl} A z v =
    let b : 2 ^ C.X.K ≤ p = spot_zero A z in
    record {
      cells = λ x c. A.tally.cells x c ∙ sym (cells_set_low C.X.K pl p v x b);
      ones = A.tally.ones ∙ ap (count filled) (sym (row_set_below C.X.K 1 pl p v (omega (arith, row_one C.X.K (omega (arith, C.low))))));
      pins = A.tally.pins ∙ ap length (sym (tree_set_low C.X.K pl p v b));
    }

module _ {C : Context} {m h p n : ℕ} {pl u : List ℕ} (A : FillAt C m h p n pl u) where
  abbrev K : ℕ
  K = C.X.K

  -- the pin to be filled in is a pin of the area
  pub fill_pin : n < m
  fill_pin = omega (arith, C.S.bound n A.listed, A.spot.size)

  -- the pin to be filled in can be counted once more
  pub fill_count : CountAt m n u
  fill_count = let f = few A.spot.tally in record { area = A.spot.area; pin = fill_pin; cells = omega (arith, f.cells n fill_pin); pins = omega (arith, f.pins) }

  full : filled n ≡ true
  full = listed_filled (work C) n A.listed

  -- at level 0 no count changes
  pub filled_low : h ≡ 0 → Filled C m p n pl u (set pl p n) u
  filled_low z = record { plan = refl; kept = inner_none; tally = low_tally A.spot z n }

  module _ (pos : 0 < h) {u1 : List ℕ} (O : OneMore m n u u1) where
    cells_step : (x : ℕ) → x < m → cells_holding K (set pl p n) x ≡ cells_holding K pl x + bit (eqb n x)
    unfolding empty
    cells_step x b = omega (
      arith,
      rw (not_filled (get_or pl p empty) A.free, ne_eqb empty x (λ e. omega (arith, A.spot.area.small))) at (cells_set K pl p n x (spot_upper A.spot pos) (spot_in A.spot)),
    )

    cells_after : (x : ℕ) → x < m → get_or u1 (CELLS * m + x) 0 ≡ cells_holding K (set pl p n) x
    cells_after x b = go (ℕ_discrete x n)
      where
        go : Dec (x ≡ n) → get_or u1 (CELLS * m + x) 0 ≡ cells_holding K (set pl p n) x
        go (yes e) = rw e (omega (arith, O.at, A.spot.tally.cells n fill_pin, rw (eq-eqb n n refl) at (cells_step n fill_pin)))
        go (no e) = O.other (CELLS * m + x) (λ d. e (omega arith)) (λ d. omega arith) ∙ omega (arith, A.spot.tally.cells x b, rw (ne_eqb n x (λ d. e (sym d))) at (cells_step x b))

    held : mem n (tree K pl) ≡ ltb 0 (get_or u (CELLS * m + n) 0)
    unfolding tree_of
    held = in_tree A.spot.tally n fill_pin A.listed

    pins_after : get_or u1 (16 * m + PINS) 0 ≡ length (tree_of C.X (set pl p n))
    unfolding tree_of
    pins_after = go (ℕ_discrete (get_or u (CELLS * m + n) 0) 0)
      where
        go : Dec (get_or u (CELLS * m + n) 0 ≡ 0) → get_or u1 (16 * m + PINS) 0 ≡ length (tree K (set pl p n))
        go (yes e) = omega (arith, O.new e, A.spot.tally.pins, size_new K pl p n (spot_upper A.spot pos) (spot_in A.spot) A.free full (held ∙ le-ltb 0 (get_or u (CELLS * m + n) 0) (omega arith)))
        go (no e) = omega (
          arith,
          O.old e,
          A.spot.tally.pins,
          size_old K pl p n (spot_upper A.spot pos) (spot_in A.spot) A.free full (held ∙ lt-ltb 0 (get_or u (CELLS * m + n) 0) (above_zero (get_or u (CELLS * m + n) 0) e)),
        )

    ones_same : get_or u1 (16 * m + ONES) 0 ≡ get_or u (16 * m + ONES) 0
    ones_same = O.other (16 * m + ONES) (λ d. omega (arith, fill_pin)) (λ d. omega arith)

    -- the count of filled cells of level 1 stays small
    pub ones_fit : get_or u1 (16 * m + ONES) 0 ≤ 8192
    ones_fit = omega (arith, ones_same, (few A.spot.tally).ones)

    -- above level 1 the pin's count is all that changes
    pub filled_upper : h ≢ 1 → Filled C m p n pl u (set pl p n) u1
    filled_upper ne = record {
      plan = refl;
      kept = inner_pin fill_pin O;
      tally = record {
        cells = cells_after;
        ones = ones_same ∙ A.spot.tally.ones ∙ ap (count filled) (sym (row_set_above K 1 pl p n (omega (arith, row_top K h (above_one h pos ne) A.spot.high, A.spot.to))));
        pins = pins_after;
      };
    }

    -- at level 1 the filled cells are counted one more
    pub filled_one : h ≡ 1 → Filled C m p n pl u (set pl p n) (set u1 (16 * m + ONES) (get_or u1 (16 * m + ONES) 0 + 1))
    filled_one e =
        let k : ℕ = get_or u1 (16 * m + ONES) 0 + 1 in
        let s : count filled (row K 1 (set pl p n)) + 0 ≡ count filled (row K 1 pl) + 1 = rw (A.free, full) at (row_set K 1 pl p n (rw e at A.spot.from) (rw e at A.spot.to) (spot_in A.spot)) in
        record {
          plan = refl;
          kept = inner_then (inner_pin fill_pin O) (inner_ones k);
          tally = record {
            cells = λ x b. get_or-set_other u1 (16 * m + ONES) (CELLS * m + x) k 0 (λ d. omega arith) ∙ cells_after x b;
            ones = get_or-set_same u1 (16 * m + ONES) k 0 (omega (arith, O.len, A.spot.area.room)) ∙ omega (arith, ones_same, A.spot.tally.ones, s);
            pins = get_or-set_other u1 (16 * m + ONES) (16 * m + PINS) k 0 (λ d. omega arith) ∙ pins_after;
          };
        }
