-- Placing, branch by branch. Assumes nothing.
use Prim.Native.Nat.{ℕ, zero, suc, ◌+◌, ◌-◌, ◌*◌, ◌≤◌, ◌<◌}
use mathlib.Core.Path.{◌≡◌, refl, sym, ap, ◌∙◌}
use mathlib.Core.List.{List}
use native.Mathlib.Omega.{arith}
use lib.Dec.{ltb}
use lib.Pow.{pow_mono}
use lib.ListN.{length, get_or, set, length-set}
use lib.Seq.{get_or-set_same, get_or-set_other, set-set, set-get_or}
use borrow.Author.Tests.{lt-ltb, le-ltb}
use Rattle.rules.specs.Cells.{empty}
use Rattle.rules.specs.Graph.{leaf, gate, pin_of}
use Rattle.rules.specs.Traversal.{Setting, level_at}
use Rattle.rules.specs.Placing.{place, cost}
use Rattle.rules.proofs.Lists.Members.{split}
use Rattle.rules.specs.Inside.Plans.{Under}
use Rattle.rules.proofs.Tree.Fair.{apart}
use Rattle.rules.proofs.Tree.Sane.{frame}
use Rattle.rules.proofs.Tree.Held.{node}
use Rattle.rules.proofs.Tree.Cost.{cost_few}
use Rattle.rules.proofs.Stage.Lengths.{len_place}
use Rattle.columns.specs.Fields.{LEVEL}
use Rattle.stage_walk.specs.Stands.{Context}
use Rattle.stage_tree.specs.Bits.{FillAt, Filled, BitAt, SplitAt, BitPlaced}
use Rattle.stage_tree.proofs.Counts.Kept.{inner_none, inner_then, base_frame, levelled_frame}
use Rattle.stage_tree.proofs.Bits.Cells.{spot_in, spot_small, spot_after, lower_in, lower_spot, lower_row}
use Rattle.stage_tree.proofs.Bits.Graphs.{level_at_lem, Operands, operands}

-- ---- the definition, branch by branch
module _ (X : Setting) (w p n : ℕ) (pl : List ℕ) where
  place_zero : (h : ℕ) → h ≡ 0 → place X h w p n pl ≡ set pl p n
  unfolding place
  place_zero h e = rw (e, place) refl

  place_pass : (h : ℕ) → 0 < h → level_at X n < h → place X h w p n pl ≡ place X (h - 1) (2 * w) (p + w) n (set pl p n)
  unfolding place
  place_pass zero b l = absurd (omega arith)
  place_pass (suc h) b l = let z : suc h - 1 ≡ h = omega arith in rw (z, lt-ltb (level_at X n) (suc h) l, place) refl

  place_split : (h : ℕ) → 0 < h → h ≤ level_at X n → (x y : ℕ) → get_or X.g n leaf ≡ gate x y →
      place X h w p n pl ≡ place X (h - 1) (2 * w) (p + 2 * w) (pin_of y) (place X (h - 1) (2 * w) (p + w) (pin_of x) (set pl p n))
  unfolding place
  place_split zero b l x y e = absurd (omega arith)
  place_split (suc h) b l x y e = let z : suc h - 1 ≡ h = omega arith in rw (z, le-ltb (level_at X n) (suc h) l, e, place) refl

  cost_zero : (h : ℕ) → h ≡ 0 → cost X h n ≡ 1
  unfolding cost
  cost_zero h e = rw (e, cost) refl

  cost_pass : (h : ℕ) → 0 < h → level_at X n < h → cost X h n ≡ suc (cost X (h - 1) n)
  unfolding cost
  cost_pass zero b l = absurd (omega arith)
  cost_pass (suc h) b l = let z : suc h - 1 ≡ h = omega arith in rw (z, lt-ltb (level_at X n) (suc h) l, cost) refl

  cost_split : (h : ℕ) → 0 < h → h ≤ level_at X n → (x y : ℕ) → get_or X.g n leaf ≡ gate x y → cost X h n ≡ suc (cost X (h - 1) (pin_of x) + cost X (h - 1) (pin_of y))
  unfolding cost
  cost_split zero b l x y e = absurd (omega arith)
  cost_split (suc h) b l x y e = let z : suc h - 1 ≡ h = omega arith in rw (z, le-ltb (level_at X n) (suc h) l, e, cost) refl

  -- placing begins by filling the cell, so a filled one makes no difference
  place_again : (h : ℕ) → place X h w p n (set pl p n) ≡ place X h w p n pl
  unfolding place
  place_again zero = set-set pl p n n
  place_again (suc h) =
      let s : set (set pl p n) p n ≡ set pl p n = set-set pl p n n in
      split (ltb (level_at X n) (suc h)) (λ d. rw (d, place) (rw s refl)) (λ d. node (get_or X.g n leaf) (λ c. rw (d, c, place) s) (λ x y c. rw (d, c, place) (rw s refl)))

-- a sum of what placing reports never overflows
pub placed_few : {C : Context} {m h w p n k : ℕ} {pl u pl1 u1 : List ℕ} → h ≤ C.X.K → BitPlaced C m h w p n k pl u pl1 u1 → k ≤ 16384
placed_few {C} {h = h} {n = n} b P = omega (arith, P.cells, cost_few C.X h n, pow_mono {i = suc h} {j = 14} (omega (arith, C.high)))

-- under a cell with nothing in it or under it the lower cells have nothing either
under_first : (w p n : ℕ) (pl : List ℕ) → 0 < w → Under w p pl → Under (2 * w) (p + w) (set pl p n)
under_first w p n pl pos k j =
    let z : p + (1 + 2 * j) * w ≡ p + w + j * (2 * w) = omega arith in
    rw (get_or-set_other pl p (p + w + j * (2 * w)) n empty (λ e. omega arith)) (rw z at (k (1 + 2 * j)))

under_second : (w p n : ℕ) (pl : List ℕ) → 0 < w → Under w p pl → Under (2 * w) (p + 2 * w) (set pl p n)
under_second w p n pl pos k j =
    let z : p + (2 + 2 * j) * w ≡ p + 2 * w + j * (2 * w) = omega arith in
    rw (get_or-set_other pl p (p + 2 * w + j * (2 * w)) n empty (λ e. omega arith)) (rw z at (k (2 + 2 * j)))

module _ {C : Context} {m h w p n : ℕ} {gates pl u : List ℕ} (A : BitAt C m h w p n gates pl u) where
  -- the cell to be placed at may be filled
  pub place_fill : FillAt C m h p n pl u
  place_fill = record { spot = A.spot; free = let z : p + 0 * w ≡ p = omega arith in rw z at (A.under 0); listed = A.listed }

  -- the pin to be placed is a pin of the area
  pub place_pin : n < m
  place_pin = omega (arith, C.S.bound n A.listed, A.base.size)

  -- the lower cells stand in the stage
  pub place_low : 0 < h → p + 2 * w < 16384
  place_low pos = omega (arith, lower_in A.spot pos, spot_small A.spot, A.row)

  row_pos : 0 < w
  row_pos = omega (arith, A.row, A.spot.from, A.spot.to)

  -- the cell is filled
  module _ {pl1 u1 : List ℕ} (M : Filled C m p n pl u pl1 u1) where
    len1 : length pl1 ≡ length pl
    len1 = rw M.plan (length-set pl p n)

    -- at level 0 placing ends with the cell
    pub placed_zero : h ≡ 0 → BitPlaced C m h w p n 1 pl u pl1 u1
    placed_zero z = record { plan = M.plan ∙ sym (place_zero C.X w p n pl h z); cells = sym (cost_zero C.X w p n pl h z); kept = M.kept; tally = M.tally }

    -- the level read is the pin's
    pub level_read : (v : ℕ) → v ≡ get_or u1 (LEVEL * m + n) 0 → v ≡ level_at C.X n
    level_read v e = e ∙ level_at_lem (levelled_frame M.kept.frame refl A.levelled) n place_pin

    module _ (pos : 0 < h) where
      -- above it the pin may go to the first lower cell
      pub pass_at : BitAt C m (h - 1) (2 * w) (p + w) n gates pl1 u1
      pass_at = record {
        spot = lower_spot A.spot pos M.kept M.tally len1 (p + w) (omega (arith, A.row)) (omega (arith, A.row));
        base = base_frame M.kept.frame A.base;
        levelled = levelled_frame M.kept.frame refl A.levelled;
        row = lower_row A.spot pos A.row;
        under = rw M.plan (under_first w p n pl row_pos A.under);
        listed = A.listed;
      }

      -- a pin of a lower level is passed down there
      pub passed : level_at C.X n < h → {k : ℕ} {pl2 u2 : List ℕ} → BitPlaced C m (h - 1) (2 * w) (p + w) n k pl1 u1 pl2 u2 → BitPlaced C m h w p n (1 + k) pl u pl2 u2
      passed l P = record {
        plan = P.plan ∙ rw M.plan (sym (place_pass C.X w p n pl h pos l));
        cells = omega (arith, P.cells, cost_pass C.X w p n pl h pos l);
        kept = inner_then M.kept P.kept;
        tally = P.tally;
      }

      -- a gate of the cell's level or more may be split
      pub split_at : h ≤ level_at C.X n → SplitAt C m h w p n gates pl1 u1
      split_at l = record {
        spot = spot_after A.spot M.kept M.tally len1;
        base = base_frame M.kept.frame A.base;
        levelled = levelled_frame M.kept.frame refl A.levelled;
        row = A.row;
        holds = rw M.plan (get_or-set_same pl p n empty (spot_in A.spot));
        first = rw M.plan (under_first w p n pl row_pos A.under);
        second = rw M.plan (under_second w p n pl row_pos A.under);
        listed = A.listed;
        above = pos;
        level = l;
      }

    -- the split gate is placed
    pub parted : {k : ℕ} {pl2 u2 : List ℕ} → BitPlaced C m h w p n k pl1 u1 pl2 u2 → BitPlaced C m h w p n k pl u pl2 u2
    parted P = record { plan = P.plan ∙ rw M.plan (place_again C.X w p n pl h); cells = P.cells; kept = inner_then M.kept P.kept; tally = P.tally }

module _ {C : Context} {m h w p n : ℕ} {gates pl u : List ℕ} (A : SplitAt C m h w p n gates pl u) where
  -- its lower cells stand in the stage
  pub split_low : p + 2 * w < 16384
  split_low = omega (arith, lower_in A.spot A.above, spot_small A.spot, A.row)

  row_pos' : 0 < w
  row_pos' = omega (arith, A.row, A.spot.from, A.spot.to)

  -- the operands' pins as the code reads them
  pub split_pins : (a b : ℕ) → a ≡ pin_of (get_or gates (2 * n) 0) → b ≡ pin_of (get_or gates (2 * n + 1) 0) → Operands C n a b
  split_pins = operands A.base n A.listed (omega (arith, A.above, A.level))

  module _ {a b : ℕ} (O : Operands C n a b) where
    -- the first operand may be placed at the first lower cell
    pub split_first : BitAt C m (h - 1) (2 * w) (p + w) a gates pl u
    split_first = record {
      spot = lower_spot A.spot A.above inner_none A.spot.tally refl (p + w) (omega (arith, A.row)) (omega (arith, A.row));
      base = A.base;
      levelled = A.levelled;
      row = lower_row A.spot A.above A.row;
      under = A.first;
      listed = O.one;
    }

    module _ {k : ℕ} {pl1 u1 : List ℕ} (P : BitPlaced C m (h - 1) (2 * w) (p + w) a k pl u pl1 u1) where
      -- the first operand's cells are none of the second's
      second_free : Under (2 * w) (p + 2 * w) pl1
      second_free j = rw P.plan (rw (frame C.X (h - 1) (2 * w) (p + w) a pl (p + 2 * w + j * (2 * w)) (apart (2 * w) (p + w) (p + 2 * w) (omega (arith, row_pos')) (omega (
        arith,
        row_pos',
      )) (λ e. omega (arith, row_pos')) j)) (A.second j))

      -- then the second operand at the second lower cell
      pub split_second : BitAt C m (h - 1) (2 * w) (p + 2 * w) b gates pl1 u1
      split_second = record {
        spot = lower_spot A.spot A.above P.kept P.tally (rw P.plan (len_place C.X (h - 1) (2 * w) (p + w) a pl)) (p + 2 * w) (omega (arith, A.row)) (omega (arith, A.row));
        base = base_frame P.kept.frame A.base;
        levelled = levelled_frame P.kept.frame refl A.levelled;
        row = lower_row A.spot A.above A.row;
        under = second_free;
        listed = O.two;
      }

      -- with both operands placed the gate is split
      pub split_both : {j : ℕ} {pl2 u2 : List ℕ} → BitPlaced C m (h - 1) (2 * w) (p + 2 * w) b j pl1 u1 pl2 u2 → BitPlaced C m h w p n (1 + (k + j)) pl u pl2 u2
      split_both Q =
          let s : set pl p n ≡ pl = ap (set pl p) (sym A.holds) ∙ set-get_or pl p empty in
          record {
            plan = Q.plan ∙ rw (P.plan, O.left, O.right) (sym (place_split C.X w p n pl h A.above A.level O.x O.y O.is ∙ rw s refl));
            cells = rw (P.cells, Q.cells, O.left, O.right) (omega (arith, cost_split C.X w p n pl h A.above A.level O.x O.y O.is));
            kept = inner_then P.kept Q.kept;
            tally = Q.tally;
          }
