-- The first bench example's sheets, both ways, and each refusal, in one computed table that carries one claim. Assumes nothing.
use Prim.Native.Nat.{ℕ, ◌+◌}
use mathlib.Core.Bool.{Bool, true, false, ◌&&◌}
use mathlib.Core.List.{List, [], ◌∷◌, ◌++◌}
use lib.Dec.{T}
use lib.ListN.{take, drop, set, replicate}
use Rattle.rules.specs.Lists.{same_list}
use Rattle.rules.specs.Cells.{empty}
use Rattle.rules.specs.Traversal.{every_run}
use Rattle.rules.specs.Build as build
use Rattle.rules.specs.Build.{placer}
use Rattle.rules.specs.Job.{no_file, file}
use Rattle.sheet_form.specs.Forms.{Form, sheet_one, sheet_two}
use Rattle.sheet_form.specs.Sheets.{Sheet, write_sheet, refused, sheet}
use Rattle.sheet_form.specs.Lifting.{read_either}
use Rattle.sheet_form.specs.Calls.{Areas, Written, writer, Loaded, reader}
use Rattle.sheet_form.specs.Opened.{all_of_sheets}

abbrev same_lists : List (List ℕ) → List (List ℕ) → Bool
same_lists [] [] = true
same_lists [] (y ∷ ys) = false
same_lists (x ∷ xs) [] = false
same_lists (x ∷ xs) (y ∷ ys) = same_list x y && same_lists xs ys

record Row : Type 0 where
  gives : List (List ℕ)
  says : List (List ℕ)

abbrev right : List Row → Bool
right [] = true
right (r ∷ rs) = same_lists r.gives r.says && right rs

-- sheet 1 of the first example, as it was archived
abbrev one : List ℕ
one = 1 ∷ 96 ∷ 0 ∷ 16 ∷ 0 ∷ 32 ∷ 16 ∷ 0 ∷ 0 ∷ 16 ∷ 0 ∷ 112 ∷ 0 ∷ 16 ∷ 0 ∷ 80 ∷ 0 ∷ 16 ∷ 0 ∷ 96 ∷ 0 ∷ 16 ∷ 0 ∷ 16 ∷ 0 ∷ 16 ∷ 0 ∷ 48 ∷ 0 ∷ 16 ∷ 0 ∷ 32 ∷ 0 ∷ 16 ∷ 0 ∷ 64 ∷ 0 ∷ 0 ∷ []

-- its sheet 2
abbrev two : List ℕ
two = 2 ∷ 96 ∷ 0 ∷ 16 ∷ 0 ∷ 32 ∷ 16 ∷ 0 ∷ 0 ∷ 16 ∷ 0 ∷ 120 ∷ 0 ∷ 2 ∷ 0 ∷ 11 ∷ 0 ∷ 0 ∷ 64 ∷ 1 ∷ 168 ∷ 0 ∷ 8 ∷ 0 ∷ 8 ∷ 0 ∷ 1 ∷ 0 ∷ 3 ∷ 0 ∷ 0 ∷ 32 ∷ 0 ∷ 64 ∷ 0 ∷ 4 ∷ 0 ∷ 16 ∷ 0 ∷ 0 ∷ []

abbrev word_two : List ℕ
word_two = 2 ∷ 96 ∷ 0 ∷ 16 ∷ 0 ∷ 16 ∷ 32 ∷ 0 ∷ 0 ∷ 0 ∷ 0 ∷ 0 ∷ 0 ∷ 0 ∷ 0 ∷ 0 ∷ 0 ∷ 0 ∷ 0 ∷ 0 ∷ 0 ∷ 0 ∷ 0 ∷ []

abbrev pin_none : ℕ → List ℕ
pin_none n = n ∷ 96 ∷ 0 ∷ 16 ∷ 0 ∷ 8 ∷ 0 ∷ 0 ∷ 0 ∷ 0 ∷ 0 ∷ 0 ∷ 0 ∷ 0 ∷ 0 ∷ 0 ∷ 0 ∷ 0 ∷ 0 ∷ 0 ∷ 0 ∷ 0 ∷ 0 ∷ 0 ∷ []

-- the first example, as the placer leaves its areas
abbrev gates : List ℕ
gates = replicate 10 empty ++ (2 ∷ 4 ∷ 6 ∷ 9 ∷ 10 ∷ 12 ∷ [])

abbrev left : build.Outcome
left = placer every_run 6 gates [] (1 ∷ 14 ∷ []) (record { plan = replicate 256 7; words = replicate 3 7; counts = replicate 3 7; work = replicate 656 7 })

abbrev areas : Areas
areas = record { plan = left.areas.plan; words = left.areas.words; counts = left.areas.counts }

abbrev sevens : ℕ → ℕ → ℕ → Areas
sevens p w c = record { plan = replicate p 7; words = replicate w 7; counts = replicate c 7 }

-- a plan of one stage with one cell filled
abbrev cell : ℕ → ℕ → List ℕ
cell p c = set (replicate 128 empty) p c

abbrev plain : ℕ → List ℕ → List ℕ → Sheet
plain K words plan = record { height = K; stages = record { plan = plan; words = words } ∷ [] }

abbrev wrote : Written → List (List ℕ)
wrote w = (w.number ∷ w.length ∷ []) ∷ w.bytes ∷ []

abbrev shown : Loaded → List (List ℕ)
shown l = (l.reply.number ∷ l.reply.height ∷ l.reply.stages ∷ l.reply.words ∷ []) ∷ l.areas.plan ∷ l.areas.words ∷ l.areas.counts ∷ []

abbrev kept : ℕ → Areas → List (List ℕ)
kept n a = (n ∷ 0 ∷ 0 ∷ 0 ∷ []) ∷ a.plan ∷ a.words ∷ a.counts ∷ []

-- 0 for what can be written or read, else the number
abbrev writes : Form → Sheet → ℕ
writes F S = elim (write_sheet F S) [ no_file ↦ 15 | file bs ↦ 0 ]

abbrev reads : (gates bytes : List ℕ) → ℕ
reads g bs = elim (read_either g bs) [ refused n ↦ n | sheet S ↦ 0 ]

abbrev table : List Row
table =
    record { gives = wrote (writer sheet_two 6 1 areas (replicate 42 7)); says = (0 ∷ 40 ∷ []) ∷ (two ++ (7 ∷ 7 ∷ [])) ∷ [] }
    -- the same areas from sheet 2, with any graph or none, and from sheet 1 with its graph
    ∷ record { gives = shown (reader [] two (sevens 256 3 3)); says = (0 ∷ 6 ∷ 1 ∷ 2 ∷ []) ∷ areas.plan ∷ areas.words ∷ areas.counts ∷ [] }
    ∷ record { gives = shown (reader (7 ∷ []) two (sevens 256 3 3)); says = (0 ∷ 6 ∷ 1 ∷ 2 ∷ []) ∷ areas.plan ∷ areas.words ∷ areas.counts ∷ [] }
    ∷ record { gives = shown (reader gates one (sevens 256 3 3)); says = (0 ∷ 6 ∷ 1 ∷ 2 ∷ []) ∷ areas.plan ∷ areas.words ∷ areas.counts ∷ [] }
    -- writing: 17, and 15 for a stage too many
    ∷ record { gives = wrote (writer sheet_two 6 1 areas (replicate 39 7)); says = (17 ∷ 0 ∷ []) ∷ replicate 39 7 ∷ [] }
    ∷ record { gives = wrote (writer sheet_two 6 3 areas (replicate 42 7)); says = (15 ∷ 0 ∷ []) ∷ replicate 42 7 ∷ [] }
    -- 15 for heights 5 and 14, position 0, pin 0, word W, size, words
    ∷ record {
      gives = (writes sheet_two (plain 6 (1 ∷ []) (cell 1 65535)) ∷ writes sheet_two (plain 5 [] (replicate 64 empty)) ∷ writes sheet_two (plain 14 [] []) ∷ writes sheet_two (plain 6 [] (cell 0 7)) ∷ writes sheet_two (plain 6 [] (cell 1 0))
          ∷ writes sheet_two (plain 6 (2 ∷ []) (cell 1 7)) ∷ writes sheet_two (plain 6 [] (replicate 127 empty)) ∷ writes sheet_two (plain 6 (replicate 65536 0) (cell 1 7)) ∷ []) ∷ [];
      says = (0 ∷ 15 ∷ 15 ∷ 15 ∷ 15 ∷ 15 ∷ 15 ∷ 15 ∷ []) ∷ [];
    }
    -- an AND with both inversions above level 0; 15 for an AND of pin 0, one at level 0, either inversion of a copy, no cell; sheet 1 holds pins alone
    ∷ record {
      gives = (writes sheet_two (plain 6 [] (cell 63 (7 + 458752))) ∷ writes sheet_two (plain 6 [] (cell 63 65536)) ∷ writes sheet_two (plain 6 [] (cell 64 (7 + 65536))) ∷ writes sheet_two (plain 6 [] (cell 1 (7 + 131072)))
          ∷ writes sheet_two (plain 6 [] (cell 1 (7 + 262144))) ∷ writes sheet_two (plain 6 [] (cell 1 (7 + 524288))) ∷ writes sheet_one (plain 6 [] (cell 1 65535)) ∷ writes sheet_one (plain 6 [] (cell 1 0)) ∷ writes sheet_one (plain 6 [] (cell 1 (7 + 65536))) ∷ []) ∷ [];
      says = (0 ∷ 15 ∷ 15 ∷ 15 ∷ 15 ∷ 15 ∷ 0 ∷ 15 ∷ 15 ∷ []) ∷ [];
    }
    -- reading: no byte; unknown numbers; cut, heights 5 and 14, padding, leftover byte, word W, pin 0
    ∷ record {
      gives = (reads [] two ∷ reads gates [] ∷ reads gates (0 ∷ []) ∷ reads gates (3 ∷ drop 1 two) ∷ reads gates (2 ∷ []) ∷ reads gates (take 39 two) ∷ reads gates (set two 1 80) ∷ reads gates (set two 1 224)
          ∷ reads gates (set two 39 1) ∷ reads gates (two ++ (0 ∷ [])) ∷ reads gates word_two ∷ reads gates (pin_none 2) ∷ []) ∷ [];
      says = (0 ∷ 15 ∷ 16 ∷ 16 ∷ 15 ∷ 15 ∷ 15 ∷ 15 ∷ 15 ∷ 15 ∷ 15 ∷ 15 ∷ []) ∷ [];
    }
    -- an AND and an inversion at level 0, an inversion of a copy; an AND that copies instead is another sheet
    ∷ record { gives = (reads [] (set two 24 12) ∷ reads [] (set two 24 10) ∷ reads [] (set two 20 136) ∷ reads [] (set two 11 112) ∷ []) ∷ []; says = (15 ∷ 15 ∷ 15 ∷ 0 ∷ []) ∷ [] }
    -- sheet 1 with the graph, without, under number 2, cut, pin 0, a pin that isn't in the graph, a leaf that would AND
    ∷ record {
      gives = (reads gates one ∷ reads [] one ∷ reads gates (2 ∷ drop 1 one) ∷ reads gates (take 37 one) ∷ reads gates (pin_none 1) ∷ reads (take 14 gates) one ∷ reads (replicate 16 empty) one ∷ reads [] (1 ∷ []) ∷ []) ∷ [];
      says = (0 ∷ 16 ∷ 15 ∷ 15 ∷ 15 ∷ 15 ∷ 15 ∷ 16 ∷ []) ∷ [];
    }
    -- and 17 where an area is too short, nothing changed
    ∷ record { gives = shown (reader [] two (sevens 127 3 3)); says = kept 17 (sevens 127 3 3) }
    ∷ record { gives = shown (reader [] two (sevens 256 1 3)); says = kept 17 (sevens 256 1 3) }
    ∷ record { gives = shown (reader [] two (sevens 256 3 1)); says = kept 17 (sevens 256 3 1) }
    ∷ record { gives = shown (reader gates (take 37 one) (sevens 127 1 1)); says = kept 15 (sevens 127 1 1) }
    ∷ record { gives = shown (reader [] one (sevens 127 1 1)); says = kept 16 (sevens 127 1 1) }
    ∷ []

-- the first bench example's sheets and the refusals come out as document 02 says
pub examples : T (right table)
unfolding all_of_sheets
examples = tt
