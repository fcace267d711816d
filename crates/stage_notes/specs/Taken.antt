-- The pins that rule 7 takes back in a stage, each with its three counts. Assumes nothing.
use Rattle.std.specs.Prelude.{ℕ, zero, suc, ◌+◌, min, true, false, List, [], ◌∷◌, map, length, replicate}
use Rattle.rules.specs.Lists.{nothing, found, count}
use Rattle.rules.specs.Cells.{empty, filled, width, stage_size, row}
use Rattle.rules.specs.Traversal.{Setting, level_at, greatest}
use Rattle.rules.specs.Placing.{tree_of, needed_of, roomy, cell_at, pin_at, placed}

-- 7. a pin, and the counts while it is placed: needed pins, level-1 cells filled, distinct pins above level 0
pub record Taken : Type 0 where
  pub pin : ℕ
  pub needed : ℕ
  pub ones : ℕ
  pub pins : ℕ

unfoldable pub counted : Setting → ℕ → List ℕ → Taken
counted X n pl = record { pin = n; needed = length (needed_of X pl); ones = count filled (row X.K 1 pl); pins = length (tree_of X pl) }

-- 2 to 7: the loop of `fill`, turn for turn
unfoldable pub took : Setting → ℕ → ℕ → List ℕ → List Taken
took X zero h pl = []
took X (suc f) zero pl = []
took X (suc f) (suc zero) pl = []
took X (suc f) (suc (suc l)) pl =
    elim (cell_at X (suc (suc l)) pl) [
      | nothing ↦ took X f (suc l) pl
      | found p ↦ elim (pin_at X (suc (suc l)) pl) [
        | nothing ↦ took X f (suc l) pl
        | found n ↦ elim (roomy X (placed X (suc (suc l)) p n pl)) [
          | true ↦ took X f (suc (suc l)) (placed X (suc (suc l)) p n pl)
          | false ↦ counted X n (placed X (suc (suc l)) p n pl) ∷ took X f (suc l) pl
        ]
      ]
    ]

-- in the order reached
unfoldable pub taken_back : Setting → List Taken
taken_back X = took X (width X.K + X.K) (min (greatest (map (level_at X) X.order) 0) X.K) (replicate (stage_size X.K) empty)
