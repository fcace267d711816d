-- Cells with their inversions: a cell's parts, a stage's plan of pins as cells, and the fold of cells, which needs no graph. Assumes nothing.
use Rattle.std.specs.Prelude.{ℕ, zero, suc, ◌+◌, ◌*◌, ◌/◌, ◌%◌, Bool, true, false, ◌&&◌, List, [], ◌++◌, map, leb, ltb, eqb, length, get_or, take, drop, replicate}
use Rattle.rules.specs.Lists.{nothing, found, up_to, laid_over}
use Rattle.rules.specs.Cells.{empty, filled, is_height, width, stage_size, rooms, level_of, row_start, first_lower}
use Rattle.rules.specs.Graph.{Node, leaf, gate, inversion_of, own_bit, literal_bit}
use Rattle.rules.specs.Checks.{plan_sized}
use Rattle.rules.specs.Fold.{lowest, as_number}

-- ---- a cell

-- the empty mark, or pin + 65,536 × AND + 131,072 × first inversion + 262,144 × second inversion; a load and a copy are the pin itself.
-- The low 16 bits of the empty mark are a pin's too, so its own test comes first
unfoldable pub cell_pin : ℕ → ℕ
cell_pin c = elim (filled c) [ true ↦ c % 65536 | false ↦ empty ]

-- of a filled cell
unfoldable pub ands : ℕ → Bool
ands c = eqb (c / 65536 % 2) 1

unfoldable pub first_inversion : ℕ → ℕ
first_inversion c = c / 131072 % 2

unfoldable pub second_inversion : ℕ → ℕ
second_inversion c = c / 262144 % 2

-- the cell of pin n that ANDs with these inversions
unfoldable pub and_of : ℕ → ℕ → ℕ → ℕ
and_of n i j = n + 65536 + 131072 * i + 262144 * j

-- as the node of the pin says: no gate drives a leaf, so it has no inversions
unfoldable pub and_cell : ℕ → Node → ℕ
and_cell n leaf = and_of n 0 0
and_cell n (gate a b) = and_of n (inversion_of a) (inversion_of b)

-- ---- a stage's plan of pins, coded

-- the cell of pin c at position p, whose first lower cell holds pin x: above level 0 it copies if that is the same pin, else it ANDs
unfoldable pub coded_cell : ℕ → List Node → ℕ → ℕ → ℕ → ℕ
coded_cell K g p c x =
    elim (filled c) [
      | false ↦ empty
      | true ↦ elim (ltb p (width K)) [
        | false ↦ c
        | true ↦ elim (eqb x c) [ true ↦ c | false ↦ and_cell c (get_or g c leaf) ]
      ]
    ]

unfoldable pub coded_at : ℕ → List Node → List ℕ → ℕ → ℕ
coded_at K g pl p = coded_cell K g p (get_or pl p empty) (get_or pl (first_lower p) empty)

unfoldable pub coded : ℕ → List Node → List ℕ → List ℕ
coded K g pl = map (coded_at K g pl) (up_to (stage_size K) 0)

-- and back: the pins of cells
unfoldable pub pins : List ℕ → List ℕ
pins cl = map cell_pin cl

-- ---- the fold of cells

-- the cell at position p of level h, w being its row's start: level 0 takes what is loaded by pin. A cell that doesn't AND copies its first
-- lower cell; one that does takes both, inverted as it says, if both are filled
unfoldable pub coded_bit : List ℕ → (ℕ → Bool) → ℕ → ℕ → ℕ → Bool
coded_bit cl load zero w p = elim (filled (get_or cl p empty)) [ true ↦ load (cell_pin (get_or cl p empty)) | false ↦ false ]
coded_bit cl load (suc h) w p =
    elim (filled (get_or cl p empty)) [
      | false ↦ false
      | true ↦ elim (ands (get_or cl p empty)) [
        | false ↦ coded_bit cl load h (2 * w) (p + w)
        | true ↦ elim (filled (get_or cl (p + w) empty) && filled (get_or cl (p + 2 * w) empty)) [
          | true ↦ literal_bit (first_inversion (get_or cl p empty)) (coded_bit cl load h (2 * w) (p + w)) && literal_bit (second_inversion (get_or cl p empty)) (coded_bit cl load h (2 * w) (p + 2 * w))
          | false ↦ false
        ]
      ]
    ]

-- the bit of position p; position 0 is no cell
unfoldable pub bit_of : ℕ → List ℕ → (ℕ → Bool) → ℕ → Bool
bit_of K cl load zero = false
bit_of K cl load (suc p) = coded_bit cl load (level_of K (suc p)) (row_start (suc p)) (suc p)

-- what a stage loads from the stage before, `cl` with its own loads: the bit of the lowest cell above level 0 that holds the pin
unfoldable pub load_of : ℕ → List ℕ → (ℕ → Bool) → ℕ → Bool
load_of K cl load n = elim (lowest K (pins cl) n) [ nothing ↦ false | found p ↦ bit_of K cl load p ]

-- one bit a position
unfoldable pub cell_bits : ℕ → List ℕ → (ℕ → Bool) → List ℕ
cell_bits K cl load = map (λ p. as_number (bit_of K cl load p)) (up_to (stage_size K) 0)

-- n stages of a plan, the first with what it loads
unfoldable pub fold_stages : ℕ → ℕ → (ℕ → Bool) → List ℕ → List ℕ
fold_stages zero K load plan = []
fold_stages (suc n) K load plan =
    cell_bits K (take (stage_size K) plan) load ++ fold_stages n K (load_of K (take (stage_size K) plan) load) (drop (stage_size K) plan)

-- stage 1 loads from the bits: pin 0's is 0, and so is that of a pin past them
unfoldable pub fold_cells : ℕ → (plan bits : List ℕ) → List ℕ
fold_cells K plan bits = fold_stages (rooms K (length plan)) K (own_bit bits) plan

-- plan, result and work have a right size: a number a position, and in the work area a number for each pin that a cell may hold
unfoldable pub fold_sized : ℕ → (plan result work : ℕ) → Bool
fold_sized K plan result work = plan_sized K plan && leb plan result && leb 65536 work

-- 1 or 2, else 0
unfoldable pub fold_refusal : ℕ → (plan result work : ℕ) → ℕ
fold_refusal K plan result work = elim (is_height K) [ false ↦ 1 | true ↦ elim (fold_sized K plan result work) [ false ↦ 2 | true ↦ 0 ] ]

-- the number and the lent areas at exit
pub record FoldOutcome : Type 0 where
  pub number : ℕ
  pub result : List ℕ
  pub work : List ℕ

-- a refusal changes nothing; else the bits lie over the result area, and 0 over the numbers for looking up
unfoldable pub folder : ℕ → (plan bits result work : List ℕ) → FoldOutcome
folder K plan bits result work =
    elim (fold_refusal K (length plan) (length result) (length work)) [
      | zero ↦ record { number = 0; result = laid_over (fold_cells K plan bits) result; work = laid_over (replicate 65536 0) work }
      | suc n ↦ record { number = suc n; result = result; work = work }
    ]
