-- Computed examples of a replay, in one table that carries one claim. Assumes nothing.
use Prim.Native.Nat.{ℕ, suc, ◌+◌, ◌*◌}
use mathlib.Core.Bool.{Bool, true, false, ◌&&◌}
use mathlib.Core.List.{List, [], ◌∷◌, ◌++◌}
use lib.Dec.{T}
use lib.ListN.{length, replicate}
use Rattle.rules.specs.Lists.{same_list, gather, up_to}
use Rattle.rules.specs.Cells.{empty, stage_size, word_limit}
use Rattle.rules.specs.Graph.{pin_count}
use Rattle.rules.specs.Checks.{work_size}
use Rattle.rules.specs.Traversal.{needed_runs}
use Rattle.rules.specs.Build.{stages_of}
use Rattle.replay_form.specs.Clocks.{Ran, plain_run}
use Rattle.replay_form.specs.Tape.{made, tape_run}
use Rattle.replay_form.specs.Calls.{Job, Lent, Outcome, circuit_of, slots_size, bits_size, cell_stages, built_of, replay}
use Rattle.replay_form.specs.Opened.{opened}

abbrev same_lists : List (List ℕ) → List (List ℕ) → Bool
same_lists [] [] = true
same_lists [] (y ∷ ys) = false
same_lists (x ∷ xs) [] = false
same_lists (x ∷ xs) (y ∷ ys) = same_list x y && same_lists xs ys

-- a row: what the definitions give, and what is meant
record Row : Type 0 where
  gives : List (List ℕ)
  says : List (List ℕ)

abbrev right : List Row → Bool
right [] = true
right (r ∷ rs) = same_lists r.gives r.says && right rs

abbrev leaves : ℕ → List ℕ
leaves n = replicate (2 * suc n) empty

-- two rooms, areas full of sevens, and so many numbers for the bits handed out and the end bits
abbrev sevens : Job → ℕ → ℕ → Lent
sevens J out end = record {
  build = record {
    plan = replicate (2 * stage_size J.height) 7;
    words = replicate (suc (word_limit J.height)) 7;
    counts = replicate 3 7;
    work = replicate (work_size J.gates J.records) 7;
  };
  tape = replicate (2 * stage_size J.height) 7;
  slots = replicate (slots_size J.records (2 * stage_size J.height)) 7;
  bits = replicate (bits_size J.gates (2 * stage_size J.height)) 7;
  out = replicate out 7;
  end = replicate end 7;
}

abbrev job : (gates given records driven starting : List ℕ) → ℕ → List ℕ → Job
job gates given records driven starting lines recording = record { height = 6; gates = gates; given = given; records = records; driven = driven; starting = starting; lines = lines; recording = recording }

-- the reply, the bits handed out and the end bits
abbrev shown : Job → ℕ → ℕ → List (List ℕ)
shown J out end = let o = replay needed_runs J (sevens J out end) in (o.reply.number ∷ o.reply.stages ∷ o.reply.words ∷ o.reply.stage ∷ o.reply.pin ∷ []) ∷ o.lent.out ∷ o.lent.end ∷ []

abbrev plainly : Job → List (List ℕ)
plainly J = let r = plain_run (circuit_of J) J.lines J.recording J.starting in r.out ∷ r.end ∷ []

-- the same run by the tape, and how many entries that has
abbrev taped : Job → List (List ℕ)
taped J =
    let ss = cell_stages J (stages_of (built_of needed_runs J (sevens J 0 0))) in
    let size = 2 * stage_size J.height in
    let m = pin_count J.gates in
    let r = tape_run J.height m size ss (circuit_of J) J.lines J.recording J.starting in
    r.out ∷ r.end ∷ (length (made J.height m size ss).tape ∷ []) ∷ []

-- leaf 1 driven by a flip-flop whose enable is the constant true and whose data is leaf 1 inverted
abbrev toggle : Job
toggle = job (leaves 1) [] (2 ∷ 1 ∷ 3 ∷ []) (1 ∷ []) (0 ∷ []) 3 []

-- leaf 1 enables the flip-flop, which drives leaf 2 and takes its inversion; gate 3 is leaf 1 and not leaf 2, an output. Starting bit 9 is a 1
abbrev enabled_from : (starting : List ℕ) → ℕ → List ℕ → Job
enabled_from starting lines recording = job (leaves 2 ++ (2 ∷ 5 ∷ [])) [] (2 ∷ 2 ∷ 5 ∷ 1 ∷ 6 ∷ []) (2 ∷ []) starting lines recording

-- a chain of seven gates over eight leaves, the last inverted, which takes two stages
abbrev chain : Job
chain = job (leaves 8 ++ (2 ∷ 4 ∷ 18 ∷ 6 ∷ 20 ∷ 8 ∷ 22 ∷ 10 ∷ 24 ∷ 12 ∷ 26 ∷ 14 ∷ 28 ∷ 17 ∷ [])) [] (1 ∷ 30 ∷ []) [] [] 2 (1 ∷ 1 ∷ 1 ∷ 1 ∷ 1 ∷ 1 ∷ 1 ∷ 0 ∷ 1 ∷ 1 ∷ 1 ∷ 1 ∷ 1 ∷ 1 ∷ 1 ∷ 1 ∷ [])

abbrev refused_with : ℕ → ℕ → List (List ℕ)
refused_with n k = (n ∷ 0 ∷ 0 ∷ 0 ∷ 0 ∷ []) ∷ replicate k 7 ∷ replicate 2 7 ∷ []

abbrev table : List Row
table =
    record { gives = shown toggle 7 2; says = (0 ∷ 1 ∷ 1 ∷ 0 ∷ 0 ∷ []) ∷ (1 ∷ 1 ∷ 1 ∷ 0 ∷ 1 ∷ 1 ∷ 7 ∷ []) ∷ (1 ∷ 7 ∷ []) ∷ [] }
    ∷ record { gives = plainly toggle; says = (1 ∷ 1 ∷ 1 ∷ 0 ∷ 1 ∷ 1 ∷ []) ∷ (1 ∷ []) ∷ [] }
    ∷ record { gives = shown (enabled_from (9 ∷ []) 3 (0 ∷ 1 ∷ 5 ∷ [])) 9 2; says = (0 ∷ 1 ∷ 1 ∷ 0 ∷ 0 ∷ []) ∷ (0 ∷ 0 ∷ 0 ∷ 1 ∷ 0 ∷ 0 ∷ 1 ∷ 1 ∷ 1 ∷ []) ∷ (1 ∷ 7 ∷ []) ∷ [] }
    ∷ record { gives = taped toggle; says = (1 ∷ 1 ∷ 1 ∷ 0 ∷ 1 ∷ 1 ∷ []) ∷ (1 ∷ []) ∷ (0 ∷ []) ∷ [] }
    ∷ record { gives = taped (enabled_from (9 ∷ []) 3 (0 ∷ 1 ∷ 5 ∷ [])); says = (0 ∷ 0 ∷ 0 ∷ 1 ∷ 0 ∷ 0 ∷ 1 ∷ 1 ∷ 1 ∷ []) ∷ (1 ∷ []) ∷ (1 ∷ []) ∷ [] }
    -- two stages
    ∷ record { gives = shown chain 2 0; says = (0 ∷ 2 ∷ 1 ∷ 0 ∷ 0 ∷ []) ∷ (1 ∷ 0 ∷ []) ∷ [] ∷ [] }
    ∷ record { gives = taped chain; says = (1 ∷ 0 ∷ []) ∷ [] ∷ (7 ∷ []) ∷ [] }
    -- cut after the first line
    ∷ record { gives = shown (enabled_from (9 ∷ []) 1 (0 ∷ [])) 3 1; says = (0 ∷ 1 ∷ 1 ∷ 0 ∷ 0 ∷ []) ∷ (0 ∷ 0 ∷ 0 ∷ []) ∷ (1 ∷ []) ∷ [] }
    ∷ record { gives = shown (enabled_from (1 ∷ []) 2 (1 ∷ 5 ∷ [])) 6 1; says = (0 ∷ 1 ∷ 1 ∷ 0 ∷ 0 ∷ []) ∷ (1 ∷ 0 ∷ 0 ∷ 1 ∷ 1 ∷ 1 ∷ []) ∷ (1 ∷ []) ∷ [] }
    -- no lines: the starting bits come back, each 0 or 1
    ∷ record { gives = shown (enabled_from (9 ∷ []) 0 []) 0 1; says = (0 ∷ 1 ∷ 1 ∷ 0 ∷ 0 ∷ []) ∷ [] ∷ (1 ∷ []) ∷ [] }
    -- refusals
    ∷ record { gives = shown (job (leaves 1) (1 ∷ []) (2 ∷ 1 ∷ 3 ∷ []) (0 ∷ []) [] 3 []) 1 2; says = refused_with 18 1 }
    ∷ record { gives = shown (job (leaves 1) [] (3 ∷ replicate 91 0) [] [] 3 []) 1 2; says = refused_with 18 1 }
    ∷ record { gives = shown (job (leaves 1) [] (2 ∷ 1 ∷ 3 ∷ []) (0 ∷ []) [] 3 []) 1 2; says = refused_with 19 1 }
    ∷ record { gives = shown (job (leaves 1) [] (2 ∷ 1 ∷ 3 ∷ []) (1 ∷ 1 ∷ []) [] 3 []) 1 2; says = refused_with 19 1 }
    ∷ record { gives = shown (job (leaves 1) [] (2 ∷ 1 ∷ 3 ∷ []) (1 ∷ []) [] 3 []) 1 2; says = refused_with 20 1 }
    ∷ record { gives = shown (enabled_from (0 ∷ []) 3 (0 ∷ 1 ∷ [])) 1 2; says = refused_with 20 1 }
    ∷ record { gives = shown toggle 5 2; says = refused_with 17 5 }
    ∷ record { gives = shown (job (leaves 1) [] (2 ∷ 1 ∷ 6 ∷ []) (1 ∷ []) (0 ∷ []) 3 []) 6 2; says = refused_with 4 6 }
    -- gate 2 is its own operand; the pin is shown, before the given pin is looked at
    ∷ record { gives = shown (job (leaves 1 ++ (2 ∷ 4 ∷ [])) (1 ∷ []) (1 ∷ 4 ∷ []) [] [] 1 (1 ∷ [])) 1 2; says = (23 ∷ 0 ∷ 0 ∷ 0 ∷ 2 ∷ []) ∷ (7 ∷ []) ∷ (7 ∷ 7 ∷ []) ∷ [] }
    -- no room for the stage of a plan: no bit either
    ∷ record { gives = shown (job (leaves 32) [] (gather (λ i. 1 ∷ 2 * suc i ∷ []) (up_to 32 0)) [] [] 1 (replicate 32 1)) 32 2; says = (8 ∷ 0 ∷ 0 ∷ 1 ∷ 0 ∷ []) ∷ replicate 32 7 ∷ (7 ∷ 7 ∷ []) ∷ [] }
    ∷ []

-- what the definitions give is what is meant, in every row
pub examples : T (right table)
unfolding opened
examples = tt
