-- Small plans damaged and mended, in one computed table: among them an accepted plan of another make that the rebuild alone would change. Assumes nothing.
use Prim.Native.Nat.{ℕ, ◌+◌}
use mathlib.Core.Bool.{Bool, true, false, ◌&&◌}
use mathlib.Core.List.{List, [], ◌∷◌, ◌++◌, map}
use lib.Dec.{T, eqb}
use lib.ListN.{length, get_or, set, replicate}
use Rattle.rules.specs.Lists.{same_list}
use Rattle.rules.specs.Cells.{empty}
use Rattle.rules.specs.Graph.{graph_of}
use Rattle.rules.specs.Traversal.{every_run, needed_runs}
use Rattle.rules.specs.Build.{Stage, stages_of, answer_of, cells_of, words_of, counts_of, coded_stages}
use Rattle.rules.specs.Inside.Opened.{everything}
use Rattle.mending.specs.Mend.{same, fitting, pin_for, in_graph, pin_deed, deed, mended, fixing, mend_from, nothing_fixed, mend_stage, held_pins, stop_after, mend_stages}
use Rattle.mending.specs.Changes.{change_at, changes_from, changes, numbers_of}
use Rattle.mending.specs.Call.{Outcome, answer, rebuilt, listed, tested, mending, mender}

-- pins 1-4 leaves, 5 = (2,4), 6 = (6,9), 7 = (10,12), output 14
abbrev gates : List ℕ
gates = replicate 10 empty ++ (2 ∷ 4 ∷ 6 ∷ 9 ∷ 10 ∷ 12 ∷ [])

abbrev records : List ℕ
records = 1 ∷ 14 ∷ []

-- 16: pin 7 ANDs; 32 and 48: pins 5 and 6; 64, 96, 80, 112: pins 1, 2, 3, 4
abbrev cells : List ℕ
cells = cells_of (coded_stages 6 (graph_of gates) (stages_of (answer_of needed_runs 6 gates [] records 128)))

abbrev work : List ℕ
work = 7 ∷ 7 ∷ 7 ∷ []

-- number, stage, position, pin, count, then the list
abbrev ended : Outcome → List ℕ
ended o = o.reply.number ∷ o.reply.stage ∷ o.reply.position ∷ o.reply.pin ∷ o.reply.count ∷ o.list

abbrev run : List ℕ → List ℕ → Outcome
run plan list = mender 6 2 true gates [] records plan (1 ∷ 0 ∷ []) (2 ∷ []) list work 1

-- the plan after, the plan and the list before, the answer and the list after; of three numbers of work area two count
abbrev right : List ℕ → (plan list answered : List ℕ) → Bool
right new plan list answered = same_list (run plan list).plan new && same_list (ended (run plan list)) answered && same_list (run plan list).work (0 ∷ 0 ∷ 7 ∷ [])

-- room for two changes, and for one
abbrev two : List ℕ
two = 9 ∷ 9 ∷ 9 ∷ 9 ∷ 9 ∷ 9 ∷ 9 ∷ 9 ∷ []

abbrev one : List ℕ
one = 9 ∷ 9 ∷ 9 ∷ 9 ∷ []

-- pins 1 and 2 leaves, 3 = (2,4), output 6: it ANDs at level 2, over copies; accepted, though the rebuild copies there and ANDs below
abbrev small : List ℕ
small = replicate 6 empty ++ (2 ∷ 4 ∷ [])

abbrev wide : List ℕ
wide = set (set (set (set (set (replicate 128 empty) 16 (3 + 65536)) 32 1) 48 2) 64 1) 80 2

abbrev narrow : List ℕ
narrow = set (set (set wide 16 3) 32 (3 + 65536)) 96 2

-- two stages: pins 1 and 2 leaves, 3 = (2,4), and each pin from 4 to 10 an AND of the one before and pin 1; output 20
abbrev chain : List ℕ
chain = replicate 6 empty ++ (2 ∷ 4 ∷ 6 ∷ 2 ∷ 8 ∷ 2 ∷ 10 ∷ 2 ∷ 12 ∷ 2 ∷ 14 ∷ 2 ∷ 16 ∷ 2 ∷ 18 ∷ 2 ∷ [])

abbrev links : List Stage
links = stages_of (answer_of needed_runs 6 chain [] (1 ∷ 20 ∷ []) 256)

abbrev sheet : List ℕ
sheet = cells_of (coded_stages 6 (graph_of chain) links)

abbrev follow : List ℕ → List ℕ → Outcome
follow plan list = mender 6 2 true chain [] (1 ∷ 20 ∷ []) plan (words_of links) (counts_of links) list work 2

-- the first graph with pin 5 given: at 32 it copies, from 64
abbrev given : List ℕ
given = cells_of (coded_stages 6 (graph_of gates) (stages_of (answer_of needed_runs 6 gates (5 ∷ []) records 128)))

abbrev stopped : List ℕ → List ℕ → Outcome
stopped plan list = mender 6 2 true gates (5 ∷ []) records plan (1 ∷ 0 ∷ []) (2 ∷ []) list work 1

-- gates in another order: pin 1 = (4,7), pin 3 = (8,10), leaves 2, 4 and 5, output 2
abbrev shuffled : List ℕ
shuffled = empty ∷ empty ∷ 4 ∷ 7 ∷ empty ∷ empty ∷ 8 ∷ 10 ∷ empty ∷ empty ∷ empty ∷ empty ∷ []

abbrev turned : List Stage
turned = stages_of (answer_of every_run 6 shuffled [] (1 ∷ 2 ∷ []) 128)

abbrev turn : List ℕ → List ℕ → Outcome
turn plan list = mender 6 2 true shuffled [] (1 ∷ 2 ∷ []) plan (words_of turned) (counts_of turned) list work 1

-- pins 1 and 2 drive each other
abbrev looped : List ℕ
looped = empty ∷ empty ∷ 4 ∷ 4 ∷ 2 ∷ 2 ∷ []

-- a refusal by the checks: plan, list and work area as they were
abbrev refused : Outcome → List ℕ → Bool
refused o answered = same_list o.plan cells && same_list (ended o) answered && same_list o.work work

-- what the definitions give of them, computed
pub examples : T (
    -- 1, 2 and 23
    refused (mender 5 2 true gates [] records cells (1 ∷ 0 ∷ []) (2 ∷ []) one work 1) (1 ∷ 0 ∷ 0 ∷ 0 ∷ 0 ∷ one)
    && refused (mender 6 2 false gates [] records cells (1 ∷ 0 ∷ []) (2 ∷ []) one work 1) (2 ∷ 0 ∷ 0 ∷ 0 ∷ 0 ∷ one)
    && refused (mender 6 2 true looped [] (1 ∷ 2 ∷ []) cells (1 ∷ 0 ∷ []) (2 ∷ []) one work 1) (23 ∷ 0 ∷ 0 ∷ 1 ∷ 0 ∷ one)
    -- nothing wrong
    && right cells cells two (0 ∷ 0 ∷ 0 ∷ 0 ∷ 0 ∷ two)
    -- a lower cell with another pin, lost, or with a flipped inversion; two at once
    && right cells (set cells 48 4) two (0 ∷ 0 ∷ 0 ∷ 0 ∷ 1 ∷ 1 ∷ 48 ∷ 4 ∷ 327686 ∷ 9 ∷ 9 ∷ 9 ∷ 9 ∷ [])
    && right cells (set cells 96 empty) one (0 ∷ 0 ∷ 0 ∷ 0 ∷ 1 ∷ 1 ∷ 96 ∷ empty ∷ 2 ∷ [])
    && right cells (set cells 48 65542) one (0 ∷ 0 ∷ 0 ∷ 0 ∷ 1 ∷ 1 ∷ 48 ∷ 65542 ∷ 327686 ∷ [])
    && right cells (set (set cells 112 3) 32 empty) two (0 ∷ 0 ∷ 0 ∷ 0 ∷ 2 ∷ 1 ∷ 32 ∷ empty ∷ 65541 ∷ 1 ∷ 112 ∷ 3 ∷ 4 ∷ [])
    -- the top cell's kind lost; its pin changed to 5, which copies: pin 7 is written nowhere; to 8, no pin: kept
    && right cells (set cells 16 7) one (0 ∷ 0 ∷ 0 ∷ 0 ∷ 1 ∷ 1 ∷ 16 ∷ 7 ∷ 65543 ∷ [])
    && right (set cells 16 5) (set cells 16 5) two (22 ∷ 0 ∷ 0 ∷ 0 ∷ 0 ∷ two)
    && right (set cells 16 8) (set cells 16 8) two (22 ∷ 1 ∷ 16 ∷ 0 ∷ 0 ∷ two)
    -- pin 7, of level 2, at a free cell of level 1: kept, and what lies under it stays empty; a kind at level 0
    && right (set cells 33 7) (set cells 33 7) two (22 ∷ 1 ∷ 33 ∷ 0 ∷ 0 ∷ two)
    && right cells (set cells 64 65537) one (0 ∷ 0 ∷ 0 ∷ 0 ∷ 1 ∷ 1 ∷ 64 ∷ 65537 ∷ 1 ∷ [])
    -- a filled position 0; a list too short
    && right (set cells 0 1) (set cells 0 1) two (22 ∷ 1 ∷ 0 ∷ 0 ∷ 0 ∷ two)
    && right (set (set cells 112 3) 32 empty) (set (set cells 112 3) 32 empty) one (24 ∷ 0 ∷ 0 ∷ 0 ∷ 0 ∷ one)
    -- a free cell filled by mistake is a top: its tree is filled in
    && right (set (set (set (set cells 17 5) 33 65541) 65 1) 97 2) (set cells 17 5) (two ++ one) (0 ∷ 0 ∷ 0 ∷ 0 ∷ 3 ∷ 1 ∷ 33 ∷ empty ∷ 65541 ∷ 1 ∷ 65 ∷ empty ∷ 1 ∷ 1 ∷ 97 ∷ empty ∷ 2 ∷ [])
    -- stage 2 stops at the pins that stage 1 holds: its pin 8 at position 64 is of level 0
    && eqb (length links) 2
    && same_list (map (λ p. get_or sheet (128 + p) 9) (16 ∷ 32 ∷ 64 ∷ [])) (65546 ∷ 65545 ∷ 8 ∷ [])
    && same_list (follow (set (set sheet 192 3) 160 5) two).plan sheet
    && same_list (ended (follow (set (set sheet 192 3) 160 5) two)) (0 ∷ 0 ∷ 0 ∷ 0 ∷ 2 ∷ 2 ∷ 32 ∷ 5 ∷ 65545 ∷ 2 ∷ 64 ∷ 3 ∷ 8 ∷ [])
    -- a given pin is of level 0: it copies where the gate that drives it would AND
    && same_list (map (λ p. get_or given p 9) (16 ∷ 32 ∷ 48 ∷ 64 ∷ 96 ∷ [])) (65543 ∷ 5 ∷ 327686 ∷ 5 ∷ empty ∷ [])
    && same_list (stopped (set given 32 65541) one).plan given
    && same_list (ended (stopped (set given 32 65541) one)) (0 ∷ 0 ∷ 0 ∷ 0 ∷ 1 ∷ 1 ∷ 32 ∷ 65541 ∷ 5 ∷ [])
    -- gates in any order, of a plan by the old word rule
    && same_list (turn (set (set (cells_of (coded_stages 6 (graph_of shuffled) turned)) 48 empty) 80 2) two).plan (cells_of (coded_stages 6 (graph_of shuffled) turned))
    && same_list (ended (turn (set (set (cells_of (coded_stages 6 (graph_of shuffled) turned)) 48 empty) 80 2) two)) (0 ∷ 0 ∷ 0 ∷ 0 ∷ 2 ∷ 1 ∷ 48 ∷ empty ∷ 65539 ∷ 1 ∷ 80 ∷ 2 ∷ 4 ∷ [])
    -- accepted, though the rebuild alone would change it
    && same_list (mender 6 2 true small [] (1 ∷ 6 ∷ []) wide (0 ∷ []) (1 ∷ []) [] work 1).plan wide
    && same_list (ended (mender 6 2 true small [] (1 ∷ 6 ∷ []) wide (0 ∷ []) (1 ∷ []) [] work 1)) (0 ∷ 0 ∷ 0 ∷ 0 ∷ 0 ∷ [])
    && same_list (rebuilt 6 small [] wide (0 ∷ []) (1 ∷ []) 1) narrow
    )
unfolding everything same fitting pin_for in_graph pin_deed deed mended fixing mend_from nothing_fixed mend_stage held_pins stop_after mend_stages change_at changes_from changes numbers_of answer rebuilt listed tested mending mender
examples = tt
