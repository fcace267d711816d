-- Explanations at height 6, in one computed table that carries one claim. Assumes nothing.
use Prim.Native.Nat.{ℕ, suc, ◌*◌}
use mathlib.Core.Bool.{Bool, true, false, ◌&&◌}
use mathlib.Core.List.{List, [], ◌∷◌, ◌++◌, map}
use lib.Dec.{T}
use lib.ListN.{replicate}
use Rattle.rules.specs.Lists.{same_list, up_to, gather}
use Rattle.rules.specs.Cells.{empty, stage_size, word_limit}
use Rattle.rules.specs.Checks.{work_size}
use Rattle.rules.specs.Traversal.{WordRule, every_run, needed_runs}
use Rattle.rules.specs.Capacity.{crowd, ones_then, needs_left}
use Rattle.stage_notes.specs.Taken.{counted, took, taken_back}
use Rattle.rules.specs.Build.{Areas}
use Rattle.why_form.specs.Why.{numbers, numbers_of, sixth, seventh, eighth, over_line, back_lines, why_from, why, why_of, Explained, explainer}
use Rattle.rules.specs.Inside.Opened.{everything}

-- a row: what the definitions give, and what is said
record Row : Type 0 where
  gives : List ℕ
  says : List ℕ

abbrev right : List Row → Bool
right [] = true
right (r ∷ rs) = same_list r.gives r.says && right rs

abbrev leaves : ℕ → List ℕ
leaves n = replicate (2 * suc n) empty

abbrev outputs : List ℕ → List ℕ
outputs ls = gather (λ l. 1 ∷ l ∷ []) ls

abbrev leaf_outputs : ℕ → List ℕ
leaf_outputs n = outputs (map (λ p. 2 * p) (up_to n 1))

-- r rooms, all numbers 7
abbrev sevens : ℕ → ℕ → Areas
sevens r n = record { plan = replicate (r * stage_size 6) 7; words = replicate (word_limit 6) 7; counts = replicate r 7; work = replicate n 7 }

-- number and stage of the answer, how many lines, the list, of a list of n sevens
abbrev told : WordRule → ℕ → List ℕ → List ℕ → ℕ → List ℕ
told rule r gates records n =
    let o = explainer rule 6 gates [] records (replicate n 7) (sevens r (work_size gates records)) in
    o.reply.number ∷ o.reply.stage ∷ o.lines ∷ o.list

abbrev first : List ℕ
first = leaves 4 ++ (2 ∷ 4 ∷ 6 ∷ 9 ∷ 10 ∷ 12 ∷ [])

-- some leaves, and a gate of level 2 over four of them
abbrev gated : List ℕ
gated = leaves 29 ++ (2 ∷ 4 ∷ 6 ∷ 8 ∷ 60 ∷ 62 ∷ [])

abbrev gated2 : List ℕ
gated2 = leaves 30 ++ (2 ∷ 4 ∷ 6 ∷ 8 ∷ 62 ∷ 64 ∷ [])

abbrev table : List Row
table =
    -- 7, by the rule that writes idle runs: a word wanted, none left
    record { gives = told every_run 4 first (outputs (14 ∷ 15 ∷ [])) 7; says = 7 ∷ 2 ∷ 1 ∷ 7 ∷ 2 ∷ 0 ∷ 1 ∷ 0 ∷ 0 ∷ 7 ∷ [] }
    -- 7, by the rule that writes none: leaf output 2 takes the one word that outputs 14 and 15 leave, so that pin 7 has none in stage 2
    ∷ record { gives = told needed_runs 4 first (outputs (2 ∷ 14 ∷ 15 ∷ [])) 7; says = 7 ∷ 2 ∷ 1 ∷ 7 ∷ 2 ∷ 0 ∷ 1 ∷ 0 ∷ 0 ∷ 7 ∷ [] }
    -- 8: 32 pins, against 31
    ∷ record { gives = told needed_runs 4 (leaves 32) (leaf_outputs 32) 6; says = 8 ∷ 1 ∷ 1 ∷ 8 ∷ 1 ∷ 31 ∷ 32 ∷ 32 ∷ 0 ∷ [] }
    -- 6: a memory, 4 against 2
    ∷ record { gives = told needed_runs 4 first (3 ∷ replicate 91 0) 6; says = 6 ∷ 0 ∷ 1 ∷ 6 ∷ 0 ∷ 2 ∷ 4 ∷ 1 ∷ 0 ∷ [] }
    -- accepted: pin 32 was taken back, with 29 needed pins, 2 level-1 cells, 3 pins above level 0
    ∷ record { gives = told needed_runs 4 gated (leaf_outputs 29 ++ outputs (64 ∷ [])) 6; says = 0 ∷ 0 ∷ 1 ∷ 1 ∷ 1 ∷ 32 ∷ 29 ∷ 2 ∷ 3 ∷ [] }
    -- one room only: 9, and the same pin
    ∷ record { gives = told needed_runs 1 gated (leaf_outputs 29 ++ outputs (64 ∷ [])) 6; says = 9 ∷ 2 ∷ 1 ∷ 1 ∷ 1 ∷ 32 ∷ 29 ∷ 2 ∷ 3 ∷ [] }
    -- one leaf output more: its level-1 gates have no cell. Refused in the stage that took the pin back
    ∷ record { gives = told needed_runs 4 gated2 (leaf_outputs 30 ++ outputs (66 ∷ [])) 12; says = 8 ∷ 1 ∷ 2 ∷ 1 ∷ 1 ∷ 33 ∷ 30 ∷ 2 ∷ 3 ∷ 8 ∷ 1 ∷ 31 ∷ 32 ∷ 0 ∷ 32 ∷ [] }
    -- a list one number too short: 21, unchanged
    ∷ record { gives = told needed_runs 4 gated2 (leaf_outputs 30 ++ outputs (66 ∷ [])) 11; says = 21 ∷ 0 ∷ 0 ∷ replicate 11 7 }
    -- accepted with nothing taken back: no line
    ∷ record { gives = told needed_runs 4 first (outputs (14 ∷ [])) 0; says = 0 ∷ 0 ∷ 0 ∷ [] }
    ∷ []

pub explanations : T (right table)
unfolding everything counted took taken_back crowd ones_then needs_left numbers numbers_of sixth seventh eighth over_line back_lines why_from why why_of explainer
explanations = tt
