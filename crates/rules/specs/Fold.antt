-- The fold of a plan of pins with its graph: what the rules' plans mean, and what the fold of cells equals on the plans of a build. Assumes nothing.
use Rattle.std.specs.Prelude.{ℕ, zero, suc, ◌+◌, ◌-◌, ◌*◌, Bool, true, false, ◌&&◌, ◌||◌, List, [], ◌∷◌, ◌++◌, map, eqb, length, get_or, take, drop}
use Rattle.rules.specs.Lists.{Found, nothing, found, mem, up_to}
use Rattle.rules.specs.Cells.{empty, filled, width, stage_size, rooms, level_of, row_start}
use Rattle.rules.specs.Graph.{Node, leaf, gate, own_bit, gate_bit, graph_of, pin_count}

-- the cell at position p of level h, w being its row's start: level 0 takes what is loaded by pin. A filled cell above level 0 whose first
-- lower cell holds the same pin copies it; otherwise it ANDs both lower cells, if both are filled and a gate drives its pin
unfoldable pub cell_bit : List Node → List ℕ → (ℕ → Bool) → ℕ → ℕ → ℕ → Bool
cell_bit g pl load zero w p = elim (filled (get_or pl p empty)) [ true ↦ load (get_or pl p empty) | false ↦ false ]
cell_bit g pl load (suc h) w p =
    elim (filled (get_or pl p empty)) [
      | false ↦ false
      | true ↦ elim (eqb (get_or pl (p + w) empty) (get_or pl p empty)) [
        | true ↦ cell_bit g pl load h (2 * w) (p + w)
        | false ↦ elim (filled (get_or pl (p + w) empty) && filled (get_or pl (p + 2 * w) empty)) [
          | true ↦ gate_bit (cell_bit g pl load h (2 * w) (p + w)) (cell_bit g pl load h (2 * w) (p + 2 * w)) (get_or g (get_or pl p empty) leaf)
          | false ↦ false
        ]
      ]
    ]

-- the bit of position p; position 0 is no cell
unfoldable pub bit_at : ℕ → List Node → List ℕ → (ℕ → Bool) → ℕ → Bool
bit_at K g pl load zero = false
bit_at K g pl load (suc p) = cell_bit g pl load (level_of K (suc p)) (row_start (suc p)) (suc p)

unfoldable pub is_leaf : Node → Bool
is_leaf leaf = true
is_leaf (gate a b) = false

-- what stage 1 loads: leaves and given pins
unfoldable pub first_load : List Node → List ℕ → List ℕ → ℕ → Bool
first_load g given bits n = (mem n given || is_leaf (get_or g n leaf)) && own_bit bits n

-- where a pin stands first in a list of cells that begins at position i
unfoldable pub first_at : ℕ → ℕ → List ℕ → Found
first_at n i [] = nothing
first_at n i (c ∷ cs) = elim (eqb c n) [ true ↦ found i | false ↦ first_at n (suc i) cs ]

-- the lowest position above level 0 that holds a pin
unfoldable pub lowest : ℕ → List ℕ → ℕ → Found
lowest K pl n = first_at n 1 (take (width K - 1) (drop 1 pl))

-- what a stage loads from the stage before, `pl` with its own loads
unfoldable pub load_from : ℕ → List Node → List ℕ → (ℕ → Bool) → ℕ → Bool
load_from K g pl load n = elim (lowest K pl n) [ nothing ↦ false | found p ↦ bit_at K g pl load p ]

unfoldable pub as_number : Bool → ℕ
as_number true = 1
as_number false = 0

-- one bit a position
unfoldable pub stage_bits : ℕ → List Node → List ℕ → (ℕ → Bool) → List ℕ
stage_bits K g pl load = map (λ p. as_number (bit_at K g pl load p)) (up_to (stage_size K) 0)

-- n stages of a plan, the first with what it loads
unfoldable pub fold_from : ℕ → ℕ → List Node → (ℕ → Bool) → List ℕ → List ℕ
fold_from zero K g load plan = []
fold_from (suc n) K g load plan =
    stage_bits K g (take (stage_size K) plan) load ++ fold_from n K g (load_from K g (take (stage_size K) plan) load) (drop (stage_size K) plan)

unfoldable pub fold_bits : ℕ → (plan gates given bits : List ℕ) → List ℕ
fold_bits K plan gates given bits = fold_from (rooms K (length plan)) K (graph_of gates) (first_load (graph_of gates) given (take (pin_count gates) bits)) plan
