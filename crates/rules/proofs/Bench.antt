-- The document's examples marked P, in one computed table that carries one claim. Assumes nothing.
use Prim.Native.Nat.{ℕ, suc, ◌+◌, ◌*◌}
use mathlib.Core.Bool.{Bool, true, false, not, ◌&&◌}
use mathlib.Core.List.{List, [], ◌∷◌, ◌++◌, map}
use lib.Dec.{T}
use lib.ListN.{take, replicate}
use Rattle.rules.specs.Lists.{same_list, up_to, gather, swap_out}
use Rattle.rules.specs.Cells.{empty, stage_size, word_limit, level_of, cell_of, first_lower, second_lower, row_of}
use Rattle.rules.specs.Graph.{graph_of}
use Rattle.rules.specs.Records.{groups_of}
use Rattle.rules.specs.Depth.{deepest}
use Rattle.rules.specs.Traversal.{WordRule, every_run, needed_runs, setting}
use Rattle.rules.specs.Placing.{place, take_back, filled_plan}
use Rattle.rules.specs.Checks.{work_size, pin_shown}
use Rattle.rules.specs.Build.{Areas, Outcome, placer}
use Rattle.rules.specs.Coded.{fold_cells}
use Rattle.rules.specs.Merge.{MergeOutcome, merger, begun}
use Rattle.rules.specs.Job.{Job?, no_job, job, read_job, File?, no_file, file, write_job}
use Rattle.rules.specs.Listing.{text, printed}
use Rattle.rules.specs.Inside.Lean.{blank, lean_plan}
use Rattle.rules.specs.Inside.Opened.{everything}

abbrev same_lists : List (List ℕ) → List (List ℕ) → Bool
same_lists [] [] = true
same_lists [] (y ∷ ys) = false
same_lists (x ∷ xs) [] = false
same_lists (x ∷ xs) (y ∷ ys) = same_list x y && same_lists xs ys

-- a row: what the definitions give, and what the document says
record Row : Type 0 where
  gives : List (List ℕ)
  says : List (List ℕ)

abbrev right : List Row → Bool
right [] = true
right (r ∷ rs) = same_lists r.gives r.says && right rs

-- graphs and records as they are lent: n leaves
abbrev pub leaves : ℕ → List ℕ
leaves n = replicate (2 * suc n) empty

-- primary outputs of some literals
abbrev pub outputs : List ℕ → List ℕ
outputs ls = gather (λ l. 1 ∷ l ∷ []) ls

-- 5 = (2, 4), 6 = (6, 9), 7 = (10, 12)
abbrev pub first : List ℕ
first = leaves 4 ++ (2 ∷ 4 ∷ 6 ∷ 9 ∷ 10 ∷ 12 ∷ [])

-- 9 = (2, 4), 10 = (18, 6), and so on to 15 = (28, 16)
abbrev pub chain : List ℕ
chain = leaves 8 ++ (2 ∷ 4 ∷ 18 ∷ 6 ∷ 20 ∷ 8 ∷ 22 ∷ 10 ∷ 24 ∷ 12 ∷ 26 ∷ 14 ∷ 28 ∷ 16 ∷ [])

-- from the output down: 1 = (6, 4), 2 = (12, 15), 3 = (8, 10), pins 4-7 leaves
abbrev turned : List ℕ
turned = leaves 0 ++ (6 ∷ 4 ∷ 12 ∷ 15 ∷ 8 ∷ 10 ∷ replicate 8 empty)

-- 1 = (8, 4), 2 a leaf, 3 = (10, 4), 4 = (10, 4), 5 = (6, 4): pins 3 and 5 are on a loop, pins 1 and 4 above it
abbrev looped : List ℕ
looped = leaves 0 ++ (8 ∷ 4 ∷ empty ∷ empty ∷ 10 ∷ 4 ∷ 10 ∷ 4 ∷ 6 ∷ 4 ∷ [])

-- 1 a leaf, 2 = (2, 4)
abbrev own : List ℕ
own = leaves 1 ++ (2 ∷ 4 ∷ [])

-- 3 = (2, 4), 4 = (2, 6): the longer chain goes by the second operand
abbrev aside : List ℕ
aside = leaves 2 ++ (2 ∷ 4 ∷ 2 ∷ 6 ∷ [])

-- D of outputs, for some given pins
abbrev deep : (gates ls given : List ℕ) → ℕ
deep gates ls given = deepest (graph_of gates) given (groups_of (outputs ls))

-- r rooms and a work area that counts at n, full of sevens, each area but the plan with a number past its size
abbrev pub sevens : ℕ → ℕ → ℕ → Areas
sevens K r n = record {
  plan = replicate (r * stage_size K) 7;
  words = replicate (suc (word_limit K)) 7;
  counts = replicate (suc r) 7;
  work = replicate (suc n) 7;
}

-- the reply, the words and the counts
abbrev shown : Outcome → List (List ℕ)
shown o = (o.reply.number ∷ o.reply.stages ∷ o.reply.words ∷ o.reply.stage ∷ []) ∷ o.areas.words ∷ o.areas.counts ∷ []

abbrev built : WordRule → ℕ → ℕ → List ℕ → List ℕ → List (List ℕ)
built rule K r gates records = shown (placer rule K gates [] records (sevens K r (work_size gates records)))

-- a refusal of 6 to 9: words the empty mark, counts 0
abbrev refused_at : ℕ → ℕ → ℕ → List (List ℕ)
refused_at r n k = (n ∷ 0 ∷ 0 ∷ k ∷ []) ∷ (empty ∷ empty ∷ 7 ∷ []) ∷ (replicate r 0 ++ (7 ∷ [])) ∷ []

-- a refusal of 1 to 5 or 23, with four rooms
abbrev unchanged : ℕ → List (List ℕ)
unchanged n = (n ∷ 0 ∷ 0 ∷ 0 ∷ []) ∷ (7 ∷ 7 ∷ 7 ∷ []) ∷ (7 ∷ 7 ∷ 7 ∷ 7 ∷ 7 ∷ []) ∷ []

-- the first example's plan of cells and work area at exit, its row of level 2, and its fold where all leaves are 1
abbrev first_areas : List (List ℕ)
first_areas =
    let o = placer every_run 6 first [] (outputs (14 ∷ [])) (sevens 6 2 656) in
    take 17 o.areas.plan ∷ take 2 (row_of 6 1 4 o.areas.plan) ∷ row_of 6 3 4 o.areas.plan ∷ o.areas.work
    ∷ take 49 (fold_cells 6 o.areas.plan (replicate 8 1)) ∷ []

abbrev first_job : List ℕ
first_job = 96 ∷ 0 ∷ 112 ∷ 128 ∷ 0 ∷ 128 ∷ 0 ∷ 144 ∷ 0 ∷ 48 ∷ 0 ∷ 38 ∷ 0 ∷ 10 ∷ 0 ∷ 6 ∷ 0 ∷ 0 ∷ 0 ∷ 0 ∷ 144 ∷ 0 ∷ 112 ∷ []

abbrev file_bytes : File? → List ℕ
file_bytes no_file = []
file_bytes (file bs) = bs

abbrev job_lists : Job? → List (List ℕ)
job_lists no_job = []
job_lists (job J) = (J.height ∷ []) ∷ J.gates ∷ J.given ∷ J.records ∷ []

abbrev merged_lists : MergeOutcome → List (List ℕ)
merged_lists o =
    (o.reply.number ∷ o.reply.stages ∷ o.reply.words ∷ o.reply.partitions ∷ o.reply.trials ∷ o.reply.refused ∷ [])
    ∷ o.groups.indices ∷ o.groups.lengths ∷ o.groups.stages ∷ o.areas.words ∷ []

-- one answer under both word rules
abbrev both : (WordRule → List (List ℕ)) → List (List ℕ) → List Row
both f says = record { gives = f every_run; says = says } ∷ record { gives = f needed_runs; says = says } ∷ []

abbrev table : List Row
table =
    record {
      gives = printed every_run first_job ∷ file_bytes (write_job (record { height = 6; gates = first; given = []; records = outputs (14 ∷ []) })) ∷ job_lists (read_job first_job);
      says = text "plan height 6 stages 1\nstage 1 cells 7 words 1 0\n16 7\n32 5\n48 6\n64 1\n80 3\n96 2\n112 4\nend\n" ∷ first_job ∷ (6 ∷ []) ∷ first ∷ [] ∷ (1 ∷ 14 ∷ []) ∷ [];
    }
    ∷ record {
      gives = first_areas;
      says = (replicate 16 empty ++ (65543 ∷ [])) ∷ (empty ∷ empty ∷ []) ∷ [] ∷ (replicate 656 0 ++ (7 ∷ [])) ∷ (replicate 32 0 ++ (1 ∷ replicate 16 0)) ∷ [];
    }
    ∷ record { gives = built every_run 6 4 first (outputs (14 ∷ 15 ∷ [])); says = refused_at 4 7 2 }
    -- the word rule that is the default: no idle run is written
    ∷ record {
      gives = printed needed_runs first_job ∷ [];
      says = text "plan height 6 stages 1\nstage 1 cells 7 words 0\n16 7\n32 5\n48 6\n64 1\n80 3\n96 2\n112 4\nend\n" ∷ [];
    }
    ∷ record { gives = built needed_runs 6 4 first (outputs (14 ∷ 15 ∷ [])); says = (0 ∷ 1 ∷ 1 ∷ 0 ∷ []) ∷ (0 ∷ empty ∷ 7 ∷ []) ∷ (1 ∷ 0 ∷ 0 ∷ 0 ∷ 7 ∷ []) ∷ [] }
    -- what both rules say
    ∷ both (λ rule. built rule 6 4 (leaves 31) (outputs (map (λ p. 2 * p) (up_to 31 1)))) ((0 ∷ 1 ∷ 1 ∷ 0 ∷ []) ∷ (1 ∷ empty ∷ 7 ∷ []) ∷ (1 ∷ 0 ∷ 0 ∷ 0 ∷ 7 ∷ []) ∷ [])
    ++ both (λ rule. built rule 6 4 (leaves 32) (outputs (map (λ p. 2 * p) (up_to 32 1)))) (refused_at 4 8 1)
    ++ both (λ rule. built rule 6 4 chain (outputs (30 ∷ []))) ((0 ∷ 2 ∷ 1 ∷ 0 ∷ []) ∷ (1 ∷ empty ∷ 7 ∷ []) ∷ (0 ∷ 1 ∷ 0 ∷ 0 ∷ 7 ∷ []) ∷ [])
    ++ both (λ rule. built rule 6 0 first []) ((0 ∷ 0 ∷ 0 ∷ 0 ∷ []) ∷ (empty ∷ empty ∷ 7 ∷ []) ∷ (7 ∷ []) ∷ [])
    ++ both (λ rule. built rule 6 0 first (outputs (0 ∷ []))) ((0 ∷ 0 ∷ 0 ∷ 0 ∷ []) ∷ (empty ∷ empty ∷ 7 ∷ []) ∷ (7 ∷ []) ∷ [])
    ++ both (λ rule. built rule 6 4 first (3 ∷ replicate 91 0)) (refused_at 4 6 0)
    ++ both (λ rule. built rule 5 4 first (outputs (14 ∷ []))) ((1 ∷ 0 ∷ 0 ∷ 0 ∷ []) ∷ (7 ∷ 7 ∷ []) ∷ (7 ∷ 7 ∷ 7 ∷ 7 ∷ 7 ∷ []) ∷ [])
    ++ both (λ rule. built rule 6 0 first (outputs (14 ∷ []))) (refused_at 0 9 1)
    ++ both
    (λ rule. merged_lists (merger rule 6 (leaves 2) [] (outputs (2 ∷ 4 ∷ [])) (record { indices = 0 ∷ 1 ∷ []; lengths = 1 ∷ 1 ∷ []; stages = 7 ∷ 7 ∷ [] }) 0 (sevens 6 4 (48 + 32 + 512 + 32))))
    ((0 ∷ 1 ∷ 1 ∷ 1 ∷ 1 ∷ 0 ∷ []) ∷ (0 ∷ 1 ∷ []) ∷ (2 ∷ 0 ∷ []) ∷ (1 ∷ 0 ∷ []) ∷ (empty ∷ empty ∷ 7 ∷ []) ∷ [])
    -- gates in any order: the first example from its output down, then loops: with a leaf below and a gate above, of one gate that is given, and none where 3 applies
    ++ both (λ rule. built rule 6 4 (leaves 0 ++ (4 ∷ 0 ∷ 2 ∷ 2 ∷ [])) []) (unchanged 3)
    ++ both (λ rule. built rule 6 4 (2 ∷ 2 ∷ empty ∷ empty ∷ []) []) (unchanged 3)
    ++ both (λ rule. built rule 6 4 looped (outputs (0 ∷ [])) ++ ((pin_shown 23 looped ∷ pin_shown 3 looped ∷ []) ∷ [])) (unchanged 23 ++ ((3 ∷ 0 ∷ []) ∷ []))
    ++ both (λ rule. shown (placer rule 6 own (2 ∷ []) [] (sevens 6 4 (work_size own []))) ++ ((pin_shown 23 own ∷ []) ∷ [])) (unchanged 23 ++ ((2 ∷ []) ∷ []))
    ++ both (λ rule. printed rule (file_bytes (write_job (record { height = 6; gates = looped; given = []; records = [] }))) ∷ []) (text "refused 23 stage 0 pin 3\n" ∷ [])
    ++ (record { gives = built every_run 6 4 turned (outputs (2 ∷ [])); says = (0 ∷ 1 ∷ 2 ∷ 0 ∷ []) ∷ (1 ∷ 0 ∷ 7 ∷ []) ∷ (2 ∷ 0 ∷ 0 ∷ 0 ∷ 7 ∷ []) ∷ [] }
    ∷ record { gives = built needed_runs 6 4 turned (outputs (2 ∷ [])); says = (0 ∷ 1 ∷ 1 ∷ 0 ∷ []) ∷ (0 ∷ empty ∷ 7 ∷ []) ∷ (1 ∷ 0 ∷ 0 ∷ 0 ∷ 7 ∷ []) ∷ [] }
    -- D of the chain's output: to the leaves; to a given pin on the way, which is the endpoint too or not; 0 where the endpoint is given; and by a second operand
    ∷ record {
      gives = (deep chain (30 ∷ []) [] ∷ deep chain (30 ∷ []) (12 ∷ []) ∷ deep chain (30 ∷ 24 ∷ []) (12 ∷ []) ∷ deep chain (30 ∷ []) (15 ∷ []) ∷ deep chain (0 ∷ []) [] ∷ deep aside (8 ∷ []) [] ∷ []) ∷ [];
      says = (7 ∷ 3 ∷ 3 ∷ 0 ∷ 0 ∷ 2 ∷ []) ∷ [];
    }
    -- errors that look right: a word listed once, a waiting list shifted down, lower cells 2p and 2p+1; and where blocks start
    ∷ record { gives = built every_run 7 1 first (outputs (14 ∷ 10 ∷ [])); says = (0 ∷ 1 ∷ 4 ∷ 0 ∷ []) ∷ (2 ∷ 3 ∷ 2 ∷ 1 ∷ 7 ∷ []) ∷ (4 ∷ 7 ∷ []) ∷ [] }
    ∷ record { gives = swap_out 2 (1 ∷ 2 ∷ 3 ∷ 4 ∷ []) ∷ []; says = (1 ∷ 4 ∷ 3 ∷ []) ∷ [] }
    ∷ record { gives = (first_lower 6 ∷ second_lower 6 ∷ level_of 6 6 ∷ cell_of 6 ∷ []) ∷ []; says = (10 ∷ 14 ∷ 4 ∷ 2 ∷ []) ∷ [] }
    ∷ record { gives = (begun 60 20 0 4 ∷ begun 60 60 0 4 ∷ []) ∷ []; says = (28 ∷ 124 ∷ []) ∷ [] }
    ∷ [])

-- taking a pin back leaves the plan as it was
abbrev back : Bool
back = let X = setting every_run 6 (graph_of first) [] (7 ∷ []) in let pl = replicate 128 empty in same_list (take_back 2 16 16 (place X 2 16 16 7 pl)) pl

-- the lean loop gives the plan
abbrev quick : Bool
quick = let X = setting every_run 6 (graph_of chain) [] (15 ∷ 12 ∷ []) in same_list (lean_plan X) (filled_plan X) && not (same_list (lean_plan X) (blank X))

-- every row of the table comes out as it says, a pin is taken back whole, the lean loop gives the plan
pub examples : T (right table && back && quick)
unfolding everything
examples = tt
