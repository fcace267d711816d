-- "Job program": the listing, and what the program prints for a file's bytes. Assumes nothing.
use Rattle.std.specs.Prelude.{ℕ, zero, suc, ◌+◌, ◌/◌, ◌%◌, true, false, List, [], ◌∷◌, ◌++◌, ltb, length}
use Prim.Native.Char.{code}
use Prim.Native.String.{String, [] as nothing-more, ◌∷◌ as ◌and◌}
use Rattle.rules.specs.Lists.{count}
use Rattle.rules.specs.Cells.{filled}
use Rattle.rules.specs.Graph.{graph_of}
use Rattle.rules.specs.Records.{groups_of}
use Rattle.rules.specs.Checks.{refusal_of, pin_shown}
use Rattle.rules.specs.Traversal.{WordRule}
use Rattle.rules.specs.Coded.{cell_pin}
use Rattle.rules.specs.Build.{Stage, Answer, refusal, whole, build}
use Rattle.rules.specs.Job.{Job, no_job, job, read_job, job_rooms}

-- the bytes of a text
unfoldable pub text : String → List ℕ
text nothing-more = []
text (c and s) = code c ∷ text s

-- a number in decimal digits; one digit a step, so a fuel of n + 1 is enough
unfoldable pub digits : ℕ → ℕ → List ℕ
digits zero n = []
digits (suc f) n = elim (ltb n 10) [ true ↦ (48 + n) ∷ [] | false ↦ digits f (n / 10) ++ ((48 + n % 10) ∷ []) ]

unfoldable pub decimal : ℕ → List ℕ
decimal n = digits (suc n) n

unfoldable pub spaced : List ℕ → List ℕ
spaced [] = []
spaced (w ∷ ws) = text " " ++ decimal w ++ spaced ws

-- no words prints `-`
unfoldable pub words_text : List ℕ → List ℕ
words_text [] = text " -"
words_text (w ∷ ws) = spaced (w ∷ ws)

-- a line a filled position: the position and its pin
unfoldable pub cell_lines : ℕ → List ℕ → List ℕ
cell_lines p [] = []
cell_lines p (c ∷ cs) = elim (filled c) [ true ↦ decimal p ++ text " " ++ decimal (cell_pin c) ++ text "\n" ++ cell_lines (suc p) cs | false ↦ cell_lines (suc p) cs ]

unfoldable pub stage_lines : ℕ → Stage → List ℕ
stage_lines k s =
    text "stage " ++ decimal k ++ text " cells " ++ decimal (count filled s.plan) ++ text " words" ++ words_text s.words ++ text "\n"
    ++ cell_lines 0 s.plan

unfoldable pub stages_lines : ℕ → List Stage → List ℕ
stages_lines k [] = []
stages_lines k (s ∷ ss) = stage_lines k s ++ stages_lines (suc k) ss

unfoldable pub listing : ℕ → List Stage → List ℕ
listing K ss = text "plan height " ++ decimal K ++ text " stages " ++ decimal (length ss) ++ text "\n" ++ stages_lines 1 ss ++ text "end\n"

-- the pin shown with a refusal, if there is one
unfoldable pub pin_text : ℕ → List ℕ
pin_text zero = []
pin_text (suc p) = text " pin " ++ decimal (suc p)

unfoldable pub refused_line : ℕ → ℕ → ℕ → List ℕ
refused_line n k p = text "refused " ++ decimal n ++ text " stage " ++ decimal k ++ pin_text p ++ text "\n"

unfoldable pub answer_text : ℕ → Answer → List ℕ
answer_text K (refusal n k) = refused_line n k 0
answer_text K (whole ss) = listing K ss

-- the program's own areas have the right sizes
unfoldable pub job_text : WordRule → Job → List ℕ
job_text rule J =
    elim (refusal_of J.height true J.gates J.given J.records) [
      | zero ↦ answer_text J.height (build rule J.height (graph_of J.gates) J.given (groups_of J.records) job_rooms)
      | suc n ↦ refused_line (suc n) 0 (pin_shown (suc n) J.gates)
    ]

-- 11 comes before all
unfoldable pub printed : WordRule → List ℕ → List ℕ
printed rule bytes = elim (read_job bytes) [ no_job ↦ refused_line 11 0 0 | job J ↦ job_text rule J ]
