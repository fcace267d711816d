-- Where a level's cells stand. Assumes nothing.
use Prim.Native.Nat.{ℕ, zero, suc, ◌+◌, ◌-◌, ◌*◌, ◌^◌, ◌≤◌, ◌<◌}
use mathlib.Core.Path.{◌≡◌, refl, sym, ◌∙◌}
use mathlib.Core.Bool.{false}
use mathlib.Core.List.{List, [], ◌∷◌}
use native.Mathlib.Omega.{arith}
use native.Mathlib.Nat.{pow-succ'}
use borrow.Author.Tests.{eq-eqb}
use lib.ListN.{length, get_or}
use Rattle.rules.specs.Cells.{empty, filled, row_at}
use Rattle.rules.proofs.Stage.Staged.{two_step}
use Rattle.columns.proofs.Area.Frames.{frame_room}
use Rattle.stage_walk.specs.Stands.{Context}
use Rattle.stage_tree.specs.Counts.{Inner, Counts}
use Rattle.stage_tree.specs.Bits.{Spot}
use Rattle.stage_tree.proofs.Counts.Sizes.{width_few}

-- what stands inside a list does not depend on what stands for the outside
pub get_d_any : (l : List ℕ) (i a b : ℕ) → i < length l → get_or l i a ≡ get_or l i b
get_d_any [] i a b h = absurd (omega arith)
get_d_any (x ∷ l) zero a b h = refl
get_d_any (x ∷ l) (suc i) a b h = get_d_any l i a b (omega arith)

-- the empty mark fills no cell
pub not_full : filled empty ≡ false
unfolding filled
not_full = rw (eq-eqb empty empty refl, filled) refl

-- the row one level down is twice as long
pub row_step : (K h : ℕ) → suc h ≤ K → row_at K h ≡ 2 * row_at K (suc h)
unfolding row_at
row_step K h b = let z : K - h ≡ suc (K - suc h) = omega arith in rw (z, pow-succ' 2 (K - suc h)) refl

-- the row one level down is twice as long, level counted down
pub row_down : (K h : ℕ) → 0 < h → h ≤ K → row_at K (h - 1) ≡ 2 * row_at K h
row_down K zero a b = absurd (omega arith)
row_down K (suc h) a b = let z : suc h - 1 ≡ h = omega arith in rw z (row_step K h b)

-- level 0 is as wide as the tree
pub row_zero : (K : ℕ) → row_at K 0 ≡ 2 ^ K
unfolding row_at
row_zero K = let z : K - 0 ≡ K = omega arith in rw z

-- rows above level 0, and above level 1, end early
pub row_upper : (K h : ℕ) → 0 < h → h ≤ K → row_at K h + row_at K h ≤ 2 ^ K
row_upper K zero a b = absurd (omega arith)
row_upper K (suc zero) a b = omega (arith, row_step K 0 b, row_zero K)
row_upper K (suc (suc h)) a b = omega (arith, row_step K (suc h) b, row_upper K (suc h) (omega arith) (omega arith))

-- level 1 ends where level 0 begins
pub row_one : (K : ℕ) → 1 ≤ K → row_at K 1 + row_at K 1 ≡ 2 ^ K
row_one K b = omega (arith, row_step K 0 b, row_zero K)

-- higher rows end before level 1
pub row_top : (K h : ℕ) → 1 < h → h ≤ K → row_at K h + row_at K h ≤ row_at K 1
row_top K h a b = omega (arith, row_down K h (omega arith) b, row_upper K (h - 1) (omega arith) (omega arith), row_one K (omega arith))

-- a level above 0 that is not 1 is above 1
pub above_one : (h : ℕ) → 0 < h → (h ≡ 1 → ⊥) → 1 < h
above_one zero a b = absurd (omega arith)
above_one (suc zero) a b = absurd (b refl)
above_one (suc (suc h)) a b = omega arith

module _ {C : Context} {m h p : ℕ} {pl u : List ℕ} (A : Spot C m h p pl u) where
  abbrev K : ℕ
  K = C.X.K

  -- a stage is twice its width long
  pub spot_width : length pl ≡ 2 * 2 ^ K
  spot_width = A.len ∙ two_step K

  -- a cell of level 0, and one above
  pub spot_zero : h ≡ 0 → 2 ^ K ≤ p
  spot_zero e = let z : row_at K 0 ≤ p = rw e at A.from in omega (arith, row_zero K)

  -- a cell above level 0 stands below the width
  pub spot_upper : 0 < h → p < 2 ^ K
  spot_upper pos = omega (arith, row_upper K h pos A.high, A.to)

  -- a cell stands in its stage
  pub spot_in : p < length pl
  spot_in = go h refl
    where
      go : (j : ℕ) → h ≡ j → p < length pl
      go zero e = let z : p < row_at K 0 + row_at K 0 = rw e at A.to in omega (arith, spot_width, row_zero K)
      go (suc j) e = omega (arith, spot_width, spot_upper (omega arith))

  -- a cell's lower cells stand in its stage
  pub lower_in : 0 < h → p + 2 * row_at K h < length pl
  lower_in pos = omega (arith, spot_width, row_upper K h pos A.high, A.to)

  -- a stage has at most 16,384 numbers
  pub spot_small : length pl ≤ 16384
  spot_small = omega (arith, spot_width, width_few C)

  -- the cell, and a lower one, after the counts changed
  module _ {pl' u' : List ℕ} (k : Inner m u u') (t : Counts C m pl' u') (l : length pl' ≡ length pl) where
    -- the cell is one after its stage and counts changed
    pub spot_after : Spot C m h p pl' u'
    spot_after = record { area = frame_room k.frame A.area; size = A.size; tally = t; len = l ∙ A.len; high = A.high; from = A.from; to = A.to }

  -- the row of the lower cells begins at twice its start
  pub lower_row : 0 < h → {w : ℕ} → w ≡ row_at K h → 2 * w ≡ row_at K (h - 1)
  lower_row pos e = rw e (sym (row_down K h pos A.high))

  -- a lower cell is a cell of the level below
  pub lower_spot : 0 < h → {pl' u' : List ℕ} → Inner m u u' → Counts C m pl' u' → length pl' ≡ length pl → (q : ℕ) → p + row_at K h ≤ q → q ≤ p + 2 * row_at K h → Spot C m (h - 1) q pl' u'
  lower_spot pos k t l q a b = record {
    area = frame_room k.frame A.area;
    size = A.size;
    tally = t;
    len = l ∙ A.len;
    high = omega (arith, A.high);
    from = omega (arith, row_down K h pos A.high, A.from);
    to = omega (arith, row_down K h pos A.high, A.to);
  }
