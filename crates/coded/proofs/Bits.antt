-- The fold of cells position by position. Assumes nothing.
use Prim.Native.Nat.{ℕ, zero, suc, ◌+◌, ◌-◌, ◌*◌, ◌/◌, ◌^◌, ◌≤◌, ◌<◌}
use mathlib.Core.Path.{◌≡◌, refl, sym, ◌∙◌, ap}
use mathlib.Core.Bool.{Bool, true, false, ◌&&◌}
use mathlib.Core.List.{List, [], ◌++◌}
use native.Mathlib.Omega.{arith}
use native.Mathlib.Nat.{div-eq-sub-div, zero-div}
use native.Mathlib.Numerals.{add-one}
use lib.Pow.{pow_pos}
use lib.ListN.{length, get_or, take, drop, length-map, length-drop, get_or-map}
use Rattle.rules.specs.Lists.{nothing, found, up_to}
use Rattle.rules.specs.Cells.{filled, empty, row_at, row_start, level_of, first_lower, second_lower, stage_size, rooms}
use Rattle.rules.specs.Graph.{literal_bit}
use Rattle.rules.specs.Fold.{lowest, as_number}
use Rattle.rules.proofs.Lists.Lengths.{length-up_to}
use Rattle.rules.proofs.Cells.Positions.{level_one}
use Rattle.rules.proofs.Stage.Staged.{two_step}
use Rattle.rules.proofs.Lists.Members.{split}
use Rattle.rules.proofs.Stage.Puts.{cell}
use Rattle.rules.proofs.Fold.Bits.{Lower, lower_cells, lowest_stands, get_or-up_to}
use Rattle.rules.specs.Coded.{cell_pin, ands, first_inversion, second_inversion, pins, coded_bit, bit_of, load_of, cell_bits, fold_stages}
use Rattle.coded.proofs.Cells.{pin_filled, pin_empty}

module _ (K : ℕ) (cl : List ℕ) (load : ℕ → Bool) where
  bit_cell : (p : ℕ) → 1 ≤ p → bit_of K cl load p ≡ coded_bit cl load (level_of K p) (row_start p) p
  unfolding bit_of
  bit_cell zero a = absurd (omega arith)
  bit_cell (suc p) a = refl

  cell_empty : (h w p : ℕ) → filled (get_or cl p empty) ≡ false → coded_bit cl load h w p ≡ false
  unfolding coded_bit
  cell_empty zero w p e = rw (e, coded_bit)
  cell_empty (suc h) w p e = rw (e, coded_bit)

  -- an empty cell folds to 0
  pub bit_empty : (p : ℕ) → filled (get_or cl p empty) ≡ false → bit_of K cl load p ≡ false
  unfolding bit_of
  bit_empty zero e = refl
  bit_empty (suc p) e = cell_empty (level_of K (suc p)) (row_start (suc p)) (suc p) e

  -- a cell of level 0 takes what its pin loads
  pub bit_load : (p : ℕ) → 2 ^ K ≤ p → p < 2 ^ (K + 1) → filled (get_or cl p empty) ≡ true → bit_of K cl load p ≡ load (cell_pin (get_or cl p empty))
  unfolding row_at coded_bit
  bit_load p low high e =
      let r : row_at K 0 ≡ 2 ^ K = ap (λ (n : ℕ). 2 ^ n) (omega arith) in
      let l : level_of K p ≡ 0 = (level_one K p (omega (arith, pow_pos K)) high 0 (omega arith) (omega arith) (omega (arith, two_step K))).0 in
      bit_cell p (omega (arith, pow_pos K)) ∙ rw (l, e, coded_bit)

  -- above level 0
  module _ (p : ℕ) (low : 1 ≤ p) (high : p < 2 ^ K) where
    cell_above : (l : Lower K p) → bit_of K cl load p ≡ coded_bit cl load (suc l.h) (row_start p) p
    cell_above l = bit_cell p low ∙ ap (λ (n : ℕ). coded_bit cl load n (row_start p) p) l.level

    cell_first : (l : Lower K p) → bit_of K cl load (first_lower p) ≡ coded_bit cl load l.h (2 * row_start p) (first_lower p)
    cell_first l = bit_cell (first_lower p) (omega (arith, l.above)) ∙ rw (l.first_level, l.first_row)

    cell_second : (l : Lower K p) → bit_of K cl load (second_lower p) ≡ coded_bit cl load l.h (2 * row_start p) (second_lower p)
    cell_second l = bit_cell (second_lower p) (omega (arith, l.above, l.next)) ∙ rw (l.second_level, l.second_row)

    module _ (k : filled (get_or cl p empty) ≡ true) where
      -- a cell that does not AND copies its first lower cell
      pub bit_copies : ands (get_or cl p empty) ≡ false → bit_of K cl load p ≡ bit_of K cl load (first_lower p)
      unfolding coded_bit first_lower
      bit_copies e = let l = lower_cells K p low high in cell_above l ∙ rw (k, e, coded_bit) (sym (cell_first l))

      -- one that does folds to 0 where a lower cell is empty
      pub bit_lacks : ands (get_or cl p empty) ≡ true → filled (get_or cl (first_lower p) empty) && filled (get_or cl (second_lower p) empty) ≡ false → bit_of K cl load p ≡ false
      unfolding coded_bit first_lower second_lower
      bit_lacks e b = let l = lower_cells K p low high in cell_above l ∙ rw (k, e, b, coded_bit)

      -- and else takes both, inverted as it says
      pub bit_ands : ands (get_or cl p empty) ≡ true → filled (get_or cl (first_lower p) empty) ≡ true → filled (get_or cl (second_lower p) empty) ≡ true →
          bit_of K cl load p ≡ (literal_bit (first_inversion (get_or cl p empty)) (bit_of K cl load (first_lower p)) && literal_bit (second_inversion (get_or cl p empty)) (bit_of K cl load (second_lower p)))
      unfolding coded_bit first_lower second_lower
      bit_ands e a b =
          let l = lower_cells K p low high in
          cell_above l ∙ rw (k, e, a, b, coded_bit)
          (λ i. literal_bit (first_inversion (get_or cl p empty)) (sym (cell_first l) i) && literal_bit (second_inversion (get_or cl p empty)) (sym (cell_second l) i))

  -- a pin that is found nowhere is loaded as 0
  pub load_none : (n : ℕ) → lowest K (pins cl) n ≡ nothing → load_of K cl load n ≡ false
  unfolding load_of
  load_none n e = rw (e, load_of)

  -- a pin that is found is loaded with the bit of that position
  pub load_found : (n p : ℕ) → lowest K (pins cl) n ≡ found p → load_of K cl load n ≡ bit_of K cl load p
  unfolding load_of
  load_found n p e = rw (e, load_of)

  -- a bit a position
  pub length-cell_bits : length (cell_bits K cl load) ≡ 2 ^ (K + 1)
  unfolding cell_bits
  length-cell_bits = length-map (up_to (stage_size K) 0) (λ p. as_number (bit_of K cl load p)) ∙ length-up_to (stage_size K) 0

-- a stage's bits stand at their positions
pub get_or-cell_bits : (K : ℕ) (cl : List ℕ) (load : ℕ → Bool) (p : ℕ) → p < 2 ^ (K + 1) → get_or (cell_bits K cl load) p 0 ≡ as_number (bit_of K cl load p)
unfolding cell_bits bit_of as_number
get_or-cell_bits K cl load p h =
    let e : get_or (up_to (stage_size K) 0) p 0 ≡ p = get_or-up_to (stage_size K) 0 p 0 h ∙ omega arith in
    get_or-map (λ (q : ℕ). as_number (bit_of K cl load q)) (up_to (stage_size K) 0) p 0 ∙ ap (λ (q : ℕ). as_number (bit_of K cl load q)) e

-- the pin at a position is its cell's
pub pin_at : (cl : List ℕ) (p : ℕ) → get_or (pins cl) p empty ≡ cell_pin (get_or cl p empty)
unfolding pins filled empty
pin_at cl p = ap (λ (d : ℕ). get_or (pins cl) p d) (sym (pin_empty empty refl)) ∙ get_or-map cell_pin cl p empty

-- what is no pin of 16 bits is loaded as 0: no filled cell holds it
pub load_past : (K : ℕ) (cl : List ℕ) (load : ℕ → Bool) (n : ℕ) → 65536 ≤ n → load_of K cl load n ≡ false
load_past K cl load n h = cell (lowest K (pins cl) n) (λ e. load_none K cl load n e)
    (λ p e.
    let z : cell_pin (get_or cl p empty) ≡ n = sym (pin_at cl p) ∙ (lowest_stands K (pins cl) n p e).pin in
    load_found K cl load n p e ∙ bit_empty K cl load p (split (filled (get_or cl p empty)) (λ k. absurd (omega (arith, pin_filled (get_or cl p empty) k))) (λ k. k)))

-- ---- all the stages of a plan

unfoldable pub folded : ℕ → (ℕ → Bool) → List ℕ → List ℕ
folded K load plan = fold_stages (rooms K (length plan)) K load plan

module _ (K : ℕ) (load : ℕ → Bool) where
  -- the fold of a plan: the bits of its first stage, then the fold of the rest, loaded from that stage
  pub folded_step : (plan : List ℕ) → 2 ^ (K + 1) ≤ length plan →
      folded K load plan ≡ cell_bits K (take (2 ^ (K + 1)) plan) load ++ folded K (load_of K (take (2 ^ (K + 1)) plan) load) (drop (2 ^ (K + 1)) plan)
  unfolding folded rooms fold_stages
  folded_step plan h =
      let e : length plan / 2 ^ (K + 1) ≡ suc ((length plan - 2 ^ (K + 1)) / 2 ^ (K + 1)) = div-eq-sub-div (pow_pos (K + 1)) h ∙ add-one ((length plan - 2 ^ (K + 1)) / 2 ^ (K + 1)) in
      rw (e, length-drop (2 ^ (K + 1)) plan)

  -- a plan of no stages folds to nothing
  pub folded_none : folded K load [] ≡ []
  unfolding folded rooms fold_stages
  folded_none = rw zero-div
