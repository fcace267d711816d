-- The first fault of a plan of cells made elsewhere, by stage and position. Assumes nothing.
use Rattle.std.specs.Prelude.{ℕ, zero, suc, ◌-◌, ◌*◌, Bool, true, false, not, ◌&&◌, ◌||◌, List, [], ◌∷◌, map, leb, ltb, eqb, length, get_or, take, drop}
use Rattle.rules.specs.Lists.{Found, nothing, found, mem, every, up_to}
use Rattle.rules.specs.Cells.{empty, filled, width, stage_size, word_limit, word_fits, first_lower, second_lower, row, first_empty}
use Rattle.rules.specs.Graph.{Node, leaf, gate, pin_of, graph_of}
use Rattle.rules.specs.Records.{Group, groups_of, waiting_of}
use Rattle.rules.specs.Reservation.{reserved, reservable}
use Rattle.rules.specs.Build.{Stage}
use Rattle.rules.specs.Fold.{is_leaf, lowest}
use Rattle.rules.specs.Coded.{cell_pin, and_cell, pins}

-- no fault, or the first one: its stage from 1 and its position; stage 0, position 0 for the reservation or a missing endpoint
pub data Fault : Type 0 where
  faultless : Fault
  fault_at : (stage position : ℕ) → Fault

unfoldable pub is_found : Found → Bool
is_found nothing = false
is_found (found p) = true

-- a cell c of pin n over lower cells of pins x and y ANDs as its gate says
unfoldable pub splits : Node → ℕ → ℕ → ℕ → ℕ → Bool
splits leaf n c x y = false
splits (gate a b) n c x y = eqb c (and_cell n (gate a b)) && (eqb x (pin_of a) && eqb y (pin_of b))

-- a cell c above level 0: one that is its pin alone copies; any other ANDs, and its pin isn't given
unfoldable pub right_above : List Node → List ℕ → ℕ → ℕ → ℕ → Bool
right_above g given c x y =
    elim (eqb c (cell_pin c)) [
      | true ↦ eqb x (cell_pin c)
      | false ↦ not (mem (cell_pin c) given) && splits (get_or g (cell_pin c) leaf) (cell_pin c) c x y
    ]

-- the cell at position p, if it is filled: a pin from 1 to N; at level 0 nothing but a pin that may be loaded
unfoldable pub right_at : ℕ → List Node → List ℕ → (ℕ → Bool) → List ℕ → ℕ → Bool
right_at K g given may cl p =
    elim (filled (get_or cl p empty)) [
      | false ↦ true
      | true ↦ (ltb 0 (cell_pin (get_or cl p empty)) && ltb (cell_pin (get_or cl p empty)) (length g))
          && elim (ltb p (width K)) [
            | true ↦ right_above g given (get_or cl p empty) (cell_pin (get_or cl (first_lower p) empty)) (cell_pin (get_or cl (second_lower p) empty))
            | false ↦ eqb (get_or cl p empty) (cell_pin (get_or cl p empty)) && may (cell_pin (get_or cl p empty))
          ]
    ]

-- the first of n positions from i on that fails a test
unfoldable pub first_not : (ℕ → Bool) → ℕ → ℕ → Found
first_not f zero i = nothing
first_not f (suc n) i = elim (f i) [ true ↦ first_not f n (suc i) | false ↦ found i ]

-- what stands at position 0: it is empty, level 1 keeps an empty cell, and the words are words of level 1 upward, no more than may be written
unfoldable pub end_right : ℕ → ℕ → Stage → Bool
end_right K room s =
    not (filled (get_or s.plan 0 empty)) && (is_found (first_empty 0 (row K 1 s.plan)) && (every (word_fits K) s.words && leb (length s.words) room))

-- what stage 1 may load: leaves and given pins; and a later one: pins held above level 0 in the stage before
unfoldable pub first_may : List Node → List ℕ → ℕ → Bool
first_may g given n = mem n given || is_leaf (get_or g n leaf)

unfoldable pub held_in : ℕ → List ℕ → ℕ → Bool
held_in K cl n = is_found (lowest K (pins cl) n)

-- stage k and what follows it, with `room` words that may still be written
unfoldable pub fault_from : ℕ → List Node → List ℕ → (ℕ → Bool) → ℕ → ℕ → List Stage → Fault
fault_from K g given may room k [] = faultless
fault_from K g given may room k (s ∷ ss) =
    elim (first_not (right_at K g given may s.plan) (stage_size K - 1) 1) [
      | found p ↦ fault_at k p
      | nothing ↦ elim (end_right K room s) [
        | false ↦ fault_at k 0
        | true ↦ fault_from K g given (held_in K s.plan) (room - length s.words) (suc k) ss
      ]
    ]

-- a written word of a stage, or of one of some stages, holds pin q
unfoldable pub holds_in : ℕ → List ℕ → List ℕ → Bool
holds_in q cl [] = false
holds_in q cl (w ∷ ws) = mem q (take 32 (drop (32 * w) (pins cl))) || holds_in q cl ws

unfoldable pub written_in : ℕ → List Stage → Bool
written_in q [] = false
written_in q (s ∷ ss) = holds_in q s.plan s.words || written_in q ss

-- last of all: the reservation fits, and every endpoint pin but the constant is written
unfoldable pub last_right : ℕ → List Group → List Stage → Bool
last_right K groups ss = reservable K groups && every (λ q. written_in q ss) (waiting_of groups [])

-- with a reservation of W words or more none is left
unfoldable pub fault_of : ℕ → List Node → List ℕ → List Group → List Stage → Fault
fault_of K g given groups ss =
    elim (fault_from K g given (first_may g given) (word_limit K - reserved groups) 1 ss) [
      | fault_at k p ↦ fault_at k p
      | faultless ↦ elim (last_right K groups ss) [ true ↦ faultless | false ↦ fault_at 0 0 ]
    ]

-- so many stages of the lent areas, with as many words as the counts say; words that aren't there are the empty mark, which is no word
unfoldable pub cut : ℕ → ℕ → (plan words counts : List ℕ) → List Stage
cut zero K plan words counts = []
cut (suc n) K plan words counts =
    record { plan = take (stage_size K) plan; words = map (λ i. get_or words i empty) (up_to (get_or counts 0 0) 0) }
    ∷ cut n K (drop (stage_size K) plan) (drop (get_or counts 0 0) words) (drop 1 counts)

unfoldable pub fault : ℕ → (gates given records plan words counts : List ℕ) → ℕ → Fault
fault K gates given records plan words counts n = fault_of K (graph_of gates) given (groups_of records) (cut n K plan words counts)
