-- The fold position by position: a cell by its lower cells, a pin by where it stands first, a plan stage by stage. Assumes nothing.
use Prim.Native.Nat.{ℕ, zero, suc, ◌+◌, ◌-◌, ◌*◌, ◌/◌, ◌^◌, ◌≤◌, ◌<◌}
use mathlib.Core.Path.{◌≡◌, refl, sym, ◌∙◌, ap}
use mathlib.Core.Bool.{Bool, true, false, ◌&&◌}
use mathlib.Core.List.{List, [], ◌++◌}
use native.Mathlib.Omega.{arith}
use native.Mathlib.Nat.{pow-succ', div-eq-sub-div, zero-div}
use native.Mathlib.Numerals.{add-one}
use lib.Dec.{eqb}
use lib.Pow.{pow_mono, pow_pos}
use lib.ListN.{length, get_or, take, drop, length-take, length-drop, get_or-eq_default, get_or-map}
use lib.Seq.{get_or-take, get_or-drop}
use Rattle.rules.specs.Lists.{nothing, found, up_to}
use Rattle.rules.specs.Cells.{filled, empty, row_at, row_start, level_of, first_lower, second_lower, stage_size, rooms}
use Rattle.rules.specs.Graph.{Node, leaf, gate_bit}
use Rattle.rules.specs.Fold.{cell_bit, bit_at, lowest, load_from, as_number, stage_bits, fold_from}
use Rattle.rules.proofs.Lists.Members.{split, eqb_true}
use Rattle.rules.proofs.Cells.Positions.{Placed, position_placed, level_one}
use Rattle.rules.proofs.Stage.Puts.{cell}
use Rattle.rules.proofs.Stage.Staged.{two_step}
use Rattle.rules.proofs.Fold.Folds.{first_at_found}

-- ---- positions

-- the lower cells of a position above level 0 are of the level below
pub record Lower (K p : ℕ) : Type 0 where
  pub h : ℕ
  pub level : level_of K p ≡ suc h
  pub first_level : level_of K (first_lower p) ≡ h
  pub first_row : row_start (first_lower p) ≡ 2 * row_start p
  pub second_level : level_of K (second_lower p) ≡ h
  pub second_row : row_start (second_lower p) ≡ 2 * row_start p
  pub above : p < first_lower p
  pub next : first_lower p < second_lower p
  pub inside : second_lower p < 2 ^ (K + 1)

lower_at : (K p h : ℕ) → 1 ≤ p → p < 2 ^ K → level_of K p ≡ h → Placed K h (row_start p) p → Lower K p
unfolding first_lower second_lower row_at
lower_at K p zero low high e t = absurd (omega (arith, t.rows, t.row))
lower_at K p (suc h) low high e t =
    let d : K - h ≡ suc (K - suc h) = omega (arith, t.upto) in
    let r : row_at K h ≡ 2 * row_start p = ap (λ (n : ℕ). 2 ^ n) d ∙ pow-succ' 2 (K - suc h) ∙ omega (arith, t.starts) in
    let k : 2 ^ (K - h) ≤ 2 ^ K = pow_mono (omega arith) in
    let one : 1 ≤ row_start p = omega (arith, t.starts, pow_pos (K - suc h)) in
    let a = level_one K (p + row_start p) (omega arith) (omega (arith, two_step K, t.row, t.end)) h (omega (arith, t.upto)) (omega (arith, t.row)) (omega (arith, t.end)) in
    let b = level_one K (p + 2 * row_start p) (omega arith) (omega (arith, two_step K, t.row, t.end)) h (omega (arith, t.upto)) (omega (arith, t.row)) (omega (arith, t.end)) in
    record {
      h = h;
      level = e;
      first_level = a.0;
      first_row = a.1 ∙ r;
      second_level = b.0;
      second_row = b.1 ∙ r;
      above = omega arith;
      next = omega arith;
      inside = omega (arith, two_step K, t.row, t.end);
    }

-- a position above level 0 has both its lower cells one level down, inside the stage
pub lower_cells : (K p : ℕ) → 1 ≤ p → p < 2 ^ K → Lower K p
lower_cells K p low high = lower_at K p (level_of K p) low high refl (position_placed K p low (omega (arith, two_step K)))

-- ---- bits

module _ (K : ℕ) (g : List Node) (pl : List ℕ) (load : ℕ → Bool) where
  bit_cell : (p : ℕ) → 1 ≤ p → bit_at K g pl load p ≡ cell_bit g pl load (level_of K p) (row_start p) p
  unfolding bit_at
  bit_cell zero a = absurd (omega arith)
  bit_cell (suc p) a = refl

  cell_empty : (h w p : ℕ) → filled (get_or pl p empty) ≡ false → cell_bit g pl load h w p ≡ false
  unfolding cell_bit
  cell_empty zero w p e = rw (e, cell_bit)
  cell_empty (suc h) w p e = rw (e, cell_bit)

  -- an empty cell folds to 0
  pub bit_empty : (p : ℕ) → filled (get_or pl p empty) ≡ false → bit_at K g pl load p ≡ false
  unfolding bit_at
  bit_empty zero e = refl
  bit_empty (suc p) e = cell_empty (level_of K (suc p)) (row_start (suc p)) (suc p) e

  -- level 0
  pub bit_load : (p : ℕ) → 2 ^ K ≤ p → p < 2 ^ (K + 1) → filled (get_or pl p empty) ≡ true → bit_at K g pl load p ≡ load (get_or pl p empty)
  unfolding row_at cell_bit
  bit_load p low high e =
      let r : row_at K 0 ≡ 2 ^ K = ap (λ (n : ℕ). 2 ^ n) (omega arith) in
      let l : level_of K p ≡ 0 = (level_one K p (omega (arith, pow_pos K)) high 0 (omega arith) (omega arith) (omega (arith, two_step K))).0 in
      bit_cell p (omega (arith, pow_pos K)) ∙ rw (l, e, cell_bit)

  -- above level 0
  module _ (p : ℕ) (low : 1 ≤ p) (high : p < 2 ^ K) where
    cell_above : (l : Lower K p) → bit_at K g pl load p ≡ cell_bit g pl load (suc l.h) (row_start p) p
    cell_above l = bit_cell p low ∙ ap (λ (n : ℕ). cell_bit g pl load n (row_start p) p) l.level

    cell_first : (l : Lower K p) → bit_at K g pl load (first_lower p) ≡ cell_bit g pl load l.h (2 * row_start p) (first_lower p)
    cell_first l = bit_cell (first_lower p) (omega (arith, l.above)) ∙ rw (l.first_level, l.first_row)

    cell_second : (l : Lower K p) → bit_at K g pl load (second_lower p) ≡ cell_bit g pl load l.h (2 * row_start p) (second_lower p)
    cell_second l = bit_cell (second_lower p) (omega (arith, l.above, l.next)) ∙ rw (l.second_level, l.second_row)

    module _ (k : filled (get_or pl p empty) ≡ true) where
      -- a filled cell whose first lower cell holds the same pin copies that cell's bit
      pub bit_copies : eqb (get_or pl (first_lower p) empty) (get_or pl p empty) ≡ true → bit_at K g pl load p ≡ bit_at K g pl load (first_lower p)
      unfolding cell_bit first_lower
      bit_copies e = let l = lower_cells K p low high in cell_above l ∙ rw (k, e, cell_bit) (sym (cell_first l))

      module _ (e : eqb (get_or pl (first_lower p) empty) (get_or pl p empty) ≡ false) where
        -- one that doesn't copy folds to 0 where a lower cell is empty
        pub bit_lacks : filled (get_or pl (first_lower p) empty) && filled (get_or pl (second_lower p) empty) ≡ false → bit_at K g pl load p ≡ false
        unfolding cell_bit first_lower second_lower
        bit_lacks b = let l = lower_cells K p low high in cell_above l ∙ rw (k, e, b, cell_bit)

        -- and else to the AND of both lower cells, inverted as its pin's gate says
        pub bit_splits : filled (get_or pl (first_lower p) empty) && filled (get_or pl (second_lower p) empty) ≡ true →
            bit_at K g pl load p ≡ gate_bit (bit_at K g pl load (first_lower p)) (bit_at K g pl load (second_lower p)) (get_or g (get_or pl p empty) leaf)
        unfolding cell_bit first_lower second_lower
        bit_splits b =
            let l = lower_cells K p low high in
            cell_above l ∙ rw (k, e, b, cell_bit) (λ i. gate_bit (sym (cell_first l) i) (sym (cell_second l) i) (get_or g (get_or pl p empty) leaf))

  -- a pin above N has no bit and no gate
  module _ (none : (n : ℕ) → length g ≤ n → load n ≡ false) where
    gate_past : (x y : Bool) (n : ℕ) → length g ≤ n → gate_bit x y (get_or g n leaf) ≡ false
    unfolding gate_bit
    gate_past x y n h = rw (get_or-eq_default g leaf h)

    cell_past : (h w p : ℕ) → length g ≤ get_or pl p empty → cell_bit g pl load h w p ≡ false
    unfolding cell_bit
    cell_past zero w p b = split (filled (get_or pl p empty)) (λ k. rw (k, cell_bit) (none (get_or pl p empty) b)) (λ k. rw (k, cell_bit))
    cell_past (suc h) w p b = split (filled (get_or pl p empty))
        (λ k. split (eqb (get_or pl (p + w) empty) (get_or pl p empty))
        (λ e. rw (k, e, cell_bit) (cell_past h (2 * w) (p + w) (omega (arith, eqb_true (get_or pl (p + w) empty) (get_or pl p empty) e))))
        (λ e. split (filled (get_or pl (p + w) empty) && filled (get_or pl (p + 2 * w) empty))
        (λ f. rw (k, e, f, cell_bit) (gate_past (cell_bit g pl load h (2 * w) (p + w)) (cell_bit g pl load h (2 * w) (p + 2 * w)) (get_or pl p empty) b))
        (λ f. rw (k, e, f, cell_bit))))
        (λ k. rw (k, cell_bit))

    -- a cell that holds no pin of the graph folds to 0, if nothing past the graph is loaded
    pub bit_past : (p : ℕ) → length g ≤ get_or pl p empty → bit_at K g pl load p ≡ false
    unfolding bit_at
    bit_past zero b = refl
    bit_past (suc p) b = cell_past (level_of K (suc p)) (row_start (suc p)) (suc p) b

-- ---- where a pin stands first

-- pin n stands at position p, above level 0
pub record Stands (K : ℕ) (pl : List ℕ) (n p : ℕ) : Type 0 where
  pub low : 1 ≤ p
  pub high : p < 2 ^ K
  pub pin : get_or pl p empty ≡ n

-- the lowest position that is found for a pin is above level 0 and holds it
pub lowest_stands : (K : ℕ) (pl : List ℕ) (n p : ℕ) → lowest K pl n ≡ found p → Stands K pl n p
unfolding lowest
lowest_stands K pl n p e =
    let t = first_at_found n 1 (take (2 ^ K - 1) (drop 1 pl)) p e in
    let b : t.0 < 2 ^ K - 1 = omega (arith, t.2, length-take (2 ^ K - 1) (drop 1 pl)) in
    record {
      low = omega (arith, t.1);
      high = omega (arith, t.1);
      pin = ap (λ (u : ℕ). get_or pl u empty) t.1 ∙ sym (get_or-take (2 ^ K - 1) (drop 1 pl) t.0 empty b ∙ get_or-drop 1 pl t.0 empty) ∙ t.3;
    }

module _ (K : ℕ) (g : List Node) (pl : List ℕ) (load : ℕ → Bool) where
  -- a pin that is found nowhere is loaded as 0
  pub load_none : (n : ℕ) → lowest K pl n ≡ nothing → load_from K g pl load n ≡ false
  unfolding load_from
  load_none n e = rw (e, load_from)

  -- a pin that is found is loaded with the bit of that position
  pub load_found : (n p : ℕ) → lowest K pl n ≡ found p → load_from K g pl load n ≡ bit_at K g pl load p
  unfolding load_from
  load_found n p e = rw (e, load_from)

  -- a stage that loads nothing past the graph hands nothing past it to the next
  pub load_past : ((n : ℕ) → length g ≤ n → load n ≡ false) → (n : ℕ) → length g ≤ n → load_from K g pl load n ≡ false
  load_past none n b = cell (lowest K pl n) (λ e. load_none n e)
      (λ p e. load_found n p e ∙ bit_past K g pl load none p (omega (arith, (lowest_stands K pl n p e).pin)))

-- ---- a stage's bits, and a plan's

-- the k-th of the numbers from i on
pub get_or-up_to : (n i k d : ℕ) → k < n → get_or (up_to n i) k d ≡ i + k
unfolding up_to
get_or-up_to zero i k d h = absurd (omega arith)
get_or-up_to (suc n) i zero d h = omega arith
get_or-up_to (suc n) i (suc k) d h = get_or-up_to n (suc i) k d (omega arith) ∙ omega arith

-- a stage's bits stand at their positions
pub get_or-stage_bits : (K : ℕ) (g : List Node) (pl : List ℕ) (load : ℕ → Bool) (p : ℕ) → p < 2 ^ (K + 1) → get_or (stage_bits K g pl load) p 0 ≡ as_number (bit_at K g pl load p)
unfolding stage_bits bit_at as_number
get_or-stage_bits K g pl load p h =
    let e : get_or (up_to (stage_size K) 0) p 0 ≡ p = get_or-up_to (stage_size K) 0 p 0 h ∙ omega arith in
    get_or-map (λ (q : ℕ). as_number (bit_at K g pl load q)) (up_to (stage_size K) 0) p 0 ∙ ap (λ (q : ℕ). as_number (bit_at K g pl load q)) e

-- all the stages of a plan
unfoldable pub folded : ℕ → List Node → (ℕ → Bool) → List ℕ → List ℕ
folded K g load plan = fold_from (rooms K (length plan)) K g load plan

module _ (K : ℕ) (g : List Node) (load : ℕ → Bool) where
  -- the fold of a plan: the bits of its first stage, then the fold of the rest, loaded from that stage
  pub folded_step : (plan : List ℕ) → 2 ^ (K + 1) ≤ length plan →
      folded K g load plan ≡ stage_bits K g (take (2 ^ (K + 1)) plan) load ++ folded K g (load_from K g (take (2 ^ (K + 1)) plan) load) (drop (2 ^ (K + 1)) plan)
  unfolding folded rooms fold_from
  folded_step plan h =
      let e : length plan / 2 ^ (K + 1) ≡ suc ((length plan - 2 ^ (K + 1)) / 2 ^ (K + 1)) = div-eq-sub-div (pow_pos (K + 1)) h ∙ add-one ((length plan - 2 ^ (K + 1)) / 2 ^ (K + 1)) in
      rw (e, length-drop (2 ^ (K + 1)) plan)

  -- a plan of no stages folds to nothing
  pub folded_none : folded K g load [] ≡ []
  unfolding folded rooms fold_from
  folded_none = rw zero-div
