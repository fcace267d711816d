-- "Cells and positions": heights, positions, the row of a level. Assumes nothing.
use Rattle.std.specs.Prelude.{ℕ, zero, suc, ◌+◌, ◌-◌, ◌*◌, ◌/◌, ◌^◌, Bool, true, false, not, ◌&&◌, List, [], ◌∷◌, leb, ltb, eqb, length, take, drop}
use Rattle.rules.specs.Lists.{Found, nothing, found}

-- the empty mark
unfoldable pub empty : ℕ
empty = 4294967295

unfoldable pub filled : ℕ → Bool
filled c = not (eqb c empty)

-- a height is K from 6 to 13
unfoldable pub is_height : ℕ → Bool
is_height K = leb 6 K && leb K 13

-- the cells of level 0
abbrev pub width : ℕ → ℕ
width K = 2 ^ K

-- the cells of level 1
abbrev pub level_one_size : ℕ → ℕ
level_one_size K = 2 ^ (K - 1)

-- the numbers of a stage
abbrev pub stage_size : ℕ → ℕ
stage_size K = 2 ^ (K + 1)

-- the word limit W
unfoldable pub word_limit : ℕ → ℕ
word_limit K = 2 ^ (K - 5)

-- a word is below it
unfoldable pub word_fits : ℕ → ℕ → Bool
word_fits K w = ltb w (word_limit K)

-- level h has 2^(K-h) cells, and its row begins at the position of the same number
unfoldable pub row_at : ℕ → ℕ → ℕ
row_at K h = 2 ^ (K - h)

-- cell j of level h
unfoldable pub position : ℕ → ℕ → ℕ → ℕ
position K h j = j + row_at K h

-- the logarithm of the greatest power of two not above p, from 2 ^ j on; p is fuel enough
unfoldable pub log_from : ℕ → ℕ → ℕ → ℕ
log_from zero j p = j
log_from (suc f) j p = elim (ltb p (2 ^ suc j)) [ true ↦ j | false ↦ log_from f (suc j) p ]

unfoldable pub log2 : ℕ → ℕ
log2 p = log_from p 0 p

-- w: the greatest power of two not above p
unfoldable pub row_start : ℕ → ℕ
row_start p = 2 ^ log2 p

unfoldable pub level_of : ℕ → ℕ → ℕ
level_of K p = K - log2 p

unfoldable pub cell_of : ℕ → ℕ
cell_of p = p - row_start p

unfoldable pub first_lower : ℕ → ℕ
first_lower p = p + row_start p

unfoldable pub second_lower : ℕ → ℕ
second_lower p = p + 2 * row_start p

-- the row of level h in a stage
unfoldable pub row : ℕ → ℕ → List ℕ → List ℕ
row K h stage = take (row_at K h) (drop (row_at K h) stage)

-- the rooms of a plan area
unfoldable pub rooms : ℕ → ℕ → ℕ
rooms K size = size / stage_size K

-- stage s, from 1, of a plan
unfoldable pub stage_of : ℕ → ℕ → List ℕ → List ℕ
stage_of K s plan = take (stage_size K) (drop ((s - 1) * stage_size K) plan)

-- is there such a stage and level
unfoldable pub has_row : ℕ → ℕ → ℕ → ℕ → Bool
has_row K s h size = is_height K && leb 1 s && leb (s * stage_size K) size && leb h K

-- one level's row of the caller's plan; an empty part for a bad height, stage or level
unfoldable pub row_of : ℕ → ℕ → ℕ → List ℕ → List ℕ
row_of K s h plan = elim (has_row K s h (length plan)) [ true ↦ row K h (stage_of K s plan) | false ↦ [] ]

-- the place of the first empty cell in a row that begins at i
unfoldable pub first_empty : ℕ → List ℕ → Found
first_empty i [] = nothing
first_empty i (c ∷ cs) = elim (filled c) [ true ↦ first_empty (suc i) cs | false ↦ found i ]
