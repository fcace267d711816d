-- The rebuild of a damaged plan, stage by stage, from the top down. Assumes nothing.
use Rattle.std.specs.Prelude.{ℕ, zero, suc, ◌-◌, Bool, true, false, ◌&&◌, List, [], ◌∷◌, ◌++◌, ltb, eqb, length, get_or, set, take, drop, replicate}
use Rattle.rules.specs.Lists.{keep, distinct}
use Rattle.rules.specs.Cells.{empty, filled, width, stage_size, level_of, first_lower, second_lower}
use Rattle.rules.specs.Graph.{Node, leaf, gate, pin_of}
use Rattle.rules.specs.Depth.{depth}
use Rattle.rules.specs.Coded.{cell_pin, and_cell, pins}
use Rattle.rules.specs.Build.{Stage}

-- a pin's level, stopping at some pins
abbrev pub level_in : List Node → List ℕ → ℕ → ℕ
level_in g stop n = depth (length g) g stop n

-- ---- a cell

-- what becomes of a cell: it is kept whole, stands at level 0, copies, or ANDs as its gate says
pub data Deed : Type 0 where
  kept : Deed
  stands : ℕ → Deed
  copies : ℕ → Deed
  joins : (n a b : ℕ) → Deed

-- pin n, driven by x, at a cell whose level is the pin's; a leaf's level is 0, so that none is kept here
unfoldable pub same : ℕ → Node → ℕ → Deed
same zero x n = stands n
same (suc h) leaf n = kept
same (suc h) (gate a b) n = joins n a b

-- pin n of level l, driven by x, at a cell of level h
unfoldable pub fitting : ℕ → ℕ → Node → ℕ → Deed
fitting h l x n = elim (ltb l h) [ true ↦ copies n | false ↦ elim (eqb l h) [ true ↦ same h x n | false ↦ kept ] ]

-- a cell's pin: what a cell above fixed for it, else its own. The empty mark, the pin of an empty cell, is no pin of the graph
unfoldable pub pin_for : ℕ → ℕ → ℕ
pin_for c f = elim (filled f) [ true ↦ f | false ↦ cell_pin c ]

-- a pin from 1 to N
unfoldable pub in_graph : List Node → ℕ → Bool
in_graph g n = ltb 0 n && ltb n (length g)

-- pin n at position p
unfoldable pub pin_deed : ℕ → List Node → List ℕ → ℕ → ℕ → Deed
pin_deed K g stop p n = elim (in_graph g n) [ true ↦ fitting (level_of K p) (level_in g stop n) (get_or g n leaf) n | false ↦ kept ]

-- the cell c at position p, for which f is fixed, or nothing: the empty mark
unfoldable pub deed : ℕ → List Node → List ℕ → ℕ → ℕ → ℕ → Deed
deed K g stop p c f = pin_deed K g stop p (pin_for c f)

-- the cell that comes of it
unfoldable pub mended : Deed → ℕ → ℕ
mended kept c = c
mended (stands n) c = n
mended (copies n) c = n
mended (joins n a b) c = and_cell n (gate a b)

-- what it fixes of the cells under it; a copy says nothing of its second lower cell
unfoldable pub fixing : ℕ → Deed → List ℕ → List ℕ
fixing p kept fx = fx
fixing p (stands n) fx = fx
fixing p (copies n) fx = set fx (first_lower p) n
fixing p (joins n a b) fx = set (set fx (first_lower p) (pin_of a)) (second_lower p) (pin_of b)

-- ---- a stage

-- the cells from position p on, with what is fixed by position. Lower cells stand behind, so a cell is fixed before it is met
unfoldable pub mend_from : ℕ → List Node → List ℕ → ℕ → List ℕ → List ℕ → List ℕ
mend_from K g stop p fx [] = []
mend_from K g stop p fx (c ∷ cs) =
    mended (deed K g stop p c (get_or fx p empty)) c ∷ mend_from K g stop (suc p) (fixing p (deed K g stop p c (get_or fx p empty)) fx) cs

-- what is fixed for each of these cells when it is met: the empty mark at the tops of trees
unfoldable pub fixed_from : ℕ → List Node → List ℕ → ℕ → List ℕ → List ℕ → List ℕ
fixed_from K g stop p fx [] = []
fixed_from K g stop p fx (c ∷ cs) = get_or fx p empty ∷ fixed_from K g stop (suc p) (fixing p (deed K g stop p c (get_or fx p empty)) fx) cs

-- before the first cell
unfoldable pub nothing_fixed : ℕ → List ℕ
nothing_fixed K = replicate (stage_size K) empty

-- position 0 is no cell
unfoldable pub mend_stage : ℕ → List Node → List ℕ → List ℕ → List ℕ
mend_stage K g stop [] = []
mend_stage K g stop (c ∷ cs) = c ∷ mend_from K g stop 1 (nothing_fixed K) cs

-- what is fixed in it, by position
unfoldable pub fixed_stage : ℕ → List Node → List ℕ → List ℕ → List ℕ
fixed_stage K g stop [] = []
fixed_stage K g stop (c ∷ cs) = empty ∷ fixed_from K g stop 1 (nothing_fixed K) cs

-- ---- all stages

-- the pins that a stage holds above level 0, position 0 being no cell, each once
unfoldable pub held_pins : ℕ → List ℕ → List ℕ
held_pins K cl = distinct (keep filled (take (width K - 1) (drop 1 (pins cl))))

-- once a stage is mended those that it holds are stopped at
unfoldable pub stop_after : ℕ → List ℕ → List ℕ → List ℕ
stop_after K cl stop = held_pins K cl ++ stop

-- the words stay as they are
unfoldable pub mend_stages : ℕ → List Node → List ℕ → List Stage → List Stage
mend_stages K g stop [] = []
mend_stages K g stop (s ∷ ss) =
    record { plan = mend_stage K g stop s.plan; words = s.words } ∷ mend_stages K g (stop_after K (mend_stage K g stop s.plan) stop) ss
