-- The first bench example coded, folded and checked; damaged cells and words, with their faults. Assumes nothing.
use Prim.Native.Nat.{ℕ}
use mathlib.Core.Bool.{◌&&◌}
use mathlib.Core.List.{List, [], ◌∷◌, ◌++◌, map}
use lib.Dec.{T}
use lib.ListN.{get_or, set, replicate}
use Rattle.rules.specs.Lists.{same_list}
use Rattle.rules.specs.Cells.{empty}
use Rattle.rules.specs.Graph.{graph_of}
use Rattle.rules.specs.Traversal.{needed_runs}
use Rattle.rules.specs.Build.{stages_of, coded_stages, answer_of, cells_of}
use Rattle.rules.specs.Fold.{fold_bits}
use Rattle.rules.specs.Coded.{coded, pins, fold_cells}
use Rattle.rules.specs.Faults.{Fault, faultless, fault_at, fault}
use Rattle.rules.specs.Inside.Opened.{everything}

-- pins 1-4 leaves, 5 = (2,4), 6 = (6,9), 7 = (10,12), output 14
abbrev gates : List ℕ
gates = replicate 10 empty ++ (2 ∷ 4 ∷ 6 ∷ 9 ∷ 10 ∷ 12 ∷ [])

abbrev records : List ℕ
records = 1 ∷ 14 ∷ []

abbrev memory : List ℕ
memory = 3 ∷ replicate 91 0

abbrev plan : List ℕ
plan = cells_of (stages_of (answer_of needed_runs 6 gates [] records 128))

abbrev cells : List ℕ
cells = cells_of (coded_stages 6 (graph_of gates) (stages_of (answer_of needed_runs 6 gates [] records 128)))

-- the bits 1, 1, 1, 0 of the leaves
abbrev bits : List ℕ
bits = 0 ∷ 1 ∷ 1 ∷ 1 ∷ 0 ∷ 0 ∷ 0 ∷ 0 ∷ []

abbrev shown : Fault → List ℕ
shown faultless = []
shown (fault_at k p) = k ∷ p ∷ []

-- with cell p changed to c, with some words
abbrev fault_with : ℕ → ℕ → List ℕ → ℕ → List ℕ
fault_with p c words count = shown (fault 6 gates [] records (set cells p c) words (count ∷ []) 1)

abbrev some : List ℕ → List ℕ
some xs = map (λ p. get_or xs p 9) (16 ∷ 32 ∷ 48 ∷ 64 ∷ 80 ∷ 96 ∷ 112 ∷ 0 ∷ [])

abbrev both : List ℕ
both = 1 ∷ 0 ∷ []

pub examples : T (
    same_list (some cells) (65543 ∷ 65541 ∷ 327686 ∷ 1 ∷ 3 ∷ 2 ∷ 4 ∷ empty ∷ [])
    && same_list (pins cells) plan
    -- a pin over itself is copied, over another it ANDs
    && same_list (some (coded 6 (graph_of gates) (set (set (replicate 128 empty) 32 1) 64 1))) (empty ∷ 1 ∷ empty ∷ 1 ∷ empty ∷ empty ∷ empty ∷ empty ∷ [])
    && same_list (some (coded 6 (graph_of gates) (set (set (replicate 128 empty) 32 6) 64 3))) (empty ∷ 327686 ∷ empty ∷ 3 ∷ empty ∷ empty ∷ empty ∷ empty ∷ [])
    && same_list (some (fold_cells 6 cells bits)) (1 ∷ 1 ∷ 1 ∷ 1 ∷ 1 ∷ 1 ∷ 0 ∷ 0 ∷ [])
    && same_list (fold_cells 6 cells bits) (fold_bits 6 plan gates [] bits)
    && same_list (fault_with 0 empty both 2) []
    -- an inversion left out; an AND at level 0; a lower cell lost; a leaf that ANDs; a filled position 0
    && same_list (fault_with 48 65542 both 2) (1 ∷ 48 ∷ [])
    && same_list (fault_with 80 65539 both 2) (1 ∷ 80 ∷ [])
    && same_list (fault_with 96 empty both 2) (1 ∷ 32 ∷ [])
    && same_list (fault_with 33 65537 both 2) (1 ∷ 33 ∷ [])
    && same_list (fault_with 0 1 both 2) (1 ∷ 0 ∷ [])
    -- operands in the other order; of two faults the first; what the stage before last holds, and what the stage before does
    && same_list (shown (fault 6 gates [] records (set (set cells 64 2) 96 1) both (2 ∷ []) 1)) (1 ∷ 32 ∷ [])
    && same_list (shown (fault 6 gates [] records (set (set cells 48 65542) 80 65539) both (2 ∷ []) 1)) (1 ∷ 48 ∷ [])
    && same_list (shown (fault 6 gates [] records (cells ++ (replicate 128 empty ++ set (replicate 128 empty) 64 5)) both (2 ∷ 0 ∷ 0 ∷ []) 3)) (3 ∷ 64 ∷ [])
    && same_list (shown (fault 6 gates [] records (cells ++ set (replicate 128 empty) 64 5) both (2 ∷ 0 ∷ []) 2)) []
    -- word 0, which holds the output, left out; a word that isn't one; a word too many
    && same_list (fault_with 0 empty (1 ∷ []) 1) (0 ∷ 0 ∷ [])
    && same_list (fault_with 0 empty (1 ∷ 2 ∷ []) 2) (1 ∷ 0 ∷ [])
    && same_list (fault_with 0 empty (1 ∷ 0 ∷ 0 ∷ []) 3) (1 ∷ 0 ∷ [])
    -- pin 1 copied all over level 1; a reservation over; one that leaves no word; a given pin that ANDs, and one that is loaded
    && same_list (shown (fault 6 gates [] [] (replicate 32 empty ++ (replicate 64 1 ++ replicate 32 empty)) [] [] 1)) (1 ∷ 0 ∷ [])
    && same_list (shown (fault 6 gates [] memory [] [] [] 0)) (0 ∷ 0 ∷ [])
    && same_list (shown (fault 6 gates [] (memory ++ memory) cells both (2 ∷ []) 1)) (1 ∷ 0 ∷ [])
    && same_list (shown (fault 6 gates (6 ∷ []) records cells both (2 ∷ []) 1)) (1 ∷ 48 ∷ [])
    && same_list (shown (fault 6 gates (6 ∷ []) records (set (set cells 48 6) 80 6) both (2 ∷ []) 1)) []
    )
unfolding everything
examples = tt
