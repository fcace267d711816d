-- Rules 2 to 7: choosing, placing, taking back, needed pins, and the loop over them. Assumes nothing.
use Rattle.std.specs.Prelude.{ℕ, zero, suc, ◌+◌, ◌*◌, min, max, Bool, true, false, not, ◌&&◌, List, [], ◌∷◌, map, ltb, eqb, length, get_or, set, take, replicate}
use Rattle.rules.specs.Lists.{Found, nothing, found, mem, keep, distinct, count, gather}
use Rattle.rules.specs.Cells.{empty, filled, width, level_one_size, stage_size, row_at, row, first_empty}
use Rattle.rules.specs.Graph.{leaf, gate, pin_of, below}
use Rattle.rules.specs.Traversal.{Setting, level_at, greatest, reverse_levels}

-- the pins in the tree above level 0, which are the placed ones, each once: positions below the width are above level 0
unfoldable pub tree : ℕ → List ℕ → List ℕ
tree K plan = distinct (keep filled (take (width K) plan))

-- 4. the unplaced pin of level h with the greatest reverse level, earliest on a tie: `best` holds its reverse level and itself
unfoldable pub choose : Setting → List ℕ → List ℕ → ℕ → List ℕ → ℕ → Found → Found
choose X tr rl h [] top best = best
choose X tr rl h (p ∷ ps) top best =
    elim (eqb (level_at X p) h && ltb top (get_or rl p 0) && not (mem p tr)) [
      | true ↦ choose X tr rl h ps (get_or rl p 0) (found p)
      | false ↦ choose X tr rl h ps top best
    ]

-- 5. placing pin n at the cell at position p of level h, whose row begins at w. A leaf's level is 0, so a pin that reaches the split is a gate
unfoldable pub place : Setting → ℕ → ℕ → ℕ → ℕ → List ℕ → List ℕ
place X zero w p n plan = set plan p n
place X (suc h) w p n plan =
    elim (ltb (level_at X n) (suc h)) [
      | true ↦ place X h (2 * w) (p + w) n (set plan p n)
      | false ↦ elim (get_or X.g n leaf) [
        | leaf ↦ set plan p n
        | gate a b ↦ place X h (2 * w) (p + 2 * w) (pin_of b) (place X h (2 * w) (p + w) (pin_of a) (set plan p n))
      ]
    ]

-- how many cells that fills: at every level down to 0
unfoldable pub cost : Setting → ℕ → ℕ → ℕ
cost X zero n = 1
cost X (suc h) n =
    elim (ltb (level_at X n) (suc h)) [
      | true ↦ suc (cost X h n)
      | false ↦ elim (get_or X.g n leaf) [ leaf ↦ 1 | gate a b ↦ suc (cost X h (pin_of a) + cost X h (pin_of b)) ]
    ]

-- 7. taking back what stands at a cell and under it; of a pin just placed that is the plan from before (proofs/Tree/Back.antt)
unfoldable pub take_back : ℕ → ℕ → ℕ → List ℕ → List ℕ
take_back zero w p plan = set plan p empty
take_back (suc h) w p plan =
    elim (filled (get_or plan p empty)) [
      | true ↦ take_back h (2 * w) (p + 2 * w) (take_back h (2 * w) (p + w) (set plan p empty))
      | false ↦ plan
    ]

-- how many cells that empties; of a pin just placed as many as it filled (proofs/Tree/Cost.antt)
unfoldable pub freed : ℕ → ℕ → ℕ → List ℕ → ℕ
freed zero w p plan = elim (filled (get_or plan p empty)) [ true ↦ 1 | false ↦ 0 ]
freed (suc h) w p plan =
    elim (filled (get_or plan p empty)) [
      | true ↦ suc (freed h (2 * w) (p + w) (set plan p empty) + freed h (2 * w) (p + 2 * w) (take_back h (2 * w) (p + w) (set plan p empty)))
      | false ↦ 0
    ]

-- 6. what an unplaced pin with a reverse level makes needed, by its level: itself at level 1, or at level 0 where it waits; else its unplaced operands of level 0
unfoldable pub asked : Setting → List ℕ → ℕ → ℕ → List ℕ
asked X tr p zero = keep (λ q. mem q X.waiting) (p ∷ [])
asked X tr p (suc zero) = p ∷ []
asked X tr p (suc (suc l)) = keep (λ q. eqb (level_at X q) 0 && not (mem q tr)) (below X.g X.done p)

unfoldable pub asks : Setting → List ℕ → List ℕ → ℕ → List ℕ
asks X tr rl p = elim (ltb 0 (get_or rl p 0) && not (mem p tr)) [ true ↦ asked X tr p (level_at X p) | false ↦ [] ]

-- the needed pins, each once, in traversal order
unfoldable pub needed : Setting → List ℕ → List ℕ → List ℕ
needed X tr rl = distinct (gather (asks X tr rl) X.order)

-- the pins in the tree, the reverse levels and the needed pins of a plan
unfoldable pub tree_of : Setting → List ℕ → List ℕ
tree_of X pl = tree X.K pl

unfoldable pub reverse_of : Setting → List ℕ → List ℕ
reverse_of X pl = reverse_levels X (tree_of X pl)

unfoldable pub needed_of : Setting → List ℕ → List ℕ
needed_of X pl = needed X (tree_of X pl) (reverse_of X pl)

-- 7. does a plan leave room at level 1 for the needed pins
unfoldable pub roomy : Setting → List ℕ → Bool
roomy X pl = ltb (length (needed_of X pl) + max (count filled (row X.K 1 pl)) (length (tree_of X pl))) (level_one_size X.K)

-- 4. the cell and the pin
unfoldable pub cell_at : Setting → ℕ → List ℕ → Found
cell_at X h pl = first_empty (row_at X.K h) (row X.K h pl)

unfoldable pub pin_at : Setting → ℕ → List ℕ → Found
pin_at X h pl = choose X (tree_of X pl) (reverse_of X pl) h X.order 0 nothing

unfoldable pub placed : Setting → ℕ → ℕ → ℕ → List ℕ → List ℕ
placed X h p n pl = place X h (row_at X.K h) p n pl

-- 2 to 7: from level h down to 2. A pin that leaves no room is taken back. Each turn fills a cell or goes a level down, so the fuel of `filled_plan` does not run out (proofs/Stage/Fuel.antt)
unfoldable pub fill : Setting → ℕ → ℕ → List ℕ → List ℕ
fill X zero h pl = pl
fill X (suc f) zero pl = pl
fill X (suc f) (suc zero) pl = pl
fill X (suc f) (suc (suc l)) pl =
    elim (cell_at X (suc (suc l)) pl) [
      | nothing ↦ fill X f (suc l) pl
      | found p ↦ elim (pin_at X (suc (suc l)) pl) [
        | nothing ↦ fill X f (suc l) pl
        | found n ↦ elim (roomy X (placed X (suc (suc l)) p n pl)) [
          | true ↦ fill X f (suc (suc l)) (placed X (suc (suc l)) p n pl)
          | false ↦ fill X f (suc l) pl
        ]
      ]
    ]

-- the plan when the loop ends
unfoldable pub filled_plan : Setting → List ℕ
filled_plan X = fill X (width X.K + X.K) (min (greatest (map (level_at X) X.order) 0) X.K) (replicate (stage_size X.K) empty)
