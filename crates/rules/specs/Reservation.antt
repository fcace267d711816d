-- "Reservation": activations, duplicates, the words set aside, refusal 6. Assumes nothing.
use Rattle.std.specs.Prelude.{ℕ, suc, pred, ◌+◌, ◌*◌, ◌/◌, Bool, true, false, ◌&&◌, List, [], ◌∷◌, map, leb, ltb, eqb, length}
use Rattle.rules.specs.Lists.{insert, distinct}
use Rattle.rules.specs.Cells.{word_limit}
use Rattle.rules.specs.Graph.{pin_of, inversion_of}
use Rattle.rules.specs.Records.{Group, output, flip_flop, memory, staged_pin}

-- an activation: a pin and a number
pub record Activation : Type 0 where
  pub pin : ℕ
  pub code : ℕ

-- a flip-flop at its data pin: 2 × enable literal + data inversion; an output: 2 + inversion; a staged pin: 2
unfoldable pub activations : List Group → List Activation
activations [] = []
activations (output l ∷ xs) = record { pin = pin_of l; code = 2 + inversion_of l } ∷ activations xs
activations (flip_flop e d ∷ xs) = record { pin = pin_of d; code = 2 * e + inversion_of d } ∷ activations xs
activations (memory ls ∷ xs) = activations xs
activations (staged_pin p ∷ xs) = record { pin = p; code = 2 } ∷ activations xs

-- the distinct numbers at pin p, behind those already met
unfoldable pub codes_at : ℕ → List Activation → List ℕ → List ℕ
codes_at p [] cs = cs
codes_at p (a ∷ ys) cs = elim (eqb a.pin p) [ true ↦ codes_at p ys (insert a.code cs) | false ↦ codes_at p ys cs ]

-- the sum of (activations - 1) over some pins
unfoldable pub extra_at : List ℕ → List Activation → ℕ
extra_at [] ys = 0
extra_at (p ∷ ps) ys = pred (length (codes_at p ys [])) + extra_at ps ys

-- d, the constant pin included
unfoldable pub duplicates : List Group → ℕ
duplicates xs = let ys = activations xs in extra_at (distinct (map (λ a. a.pin) ys)) ys

-- m
unfoldable pub memories : List Group → ℕ
memories [] = 0
memories (output l ∷ xs) = memories xs
memories (flip_flop e d ∷ xs) = memories xs
memories (memory ls ∷ xs) = suc (memories xs)
memories (staged_pin p ∷ xs) = memories xs

-- m + ceil(d / 32)
unfoldable pub reserved : List Group → ℕ
reserved xs = memories xs + (duplicates xs + 31) / 32

-- refused if reserved >= W or 4m + d > W
unfoldable pub reservable : ℕ → List Group → Bool
reservable K xs = ltb (reserved xs) (word_limit K) && leb (4 * memories xs + duplicates xs) (word_limit K)
