-- A build's answer by its cases, and how many words an accepted build writes. Assumes nothing.
use Prim.Native.Nat.{ℕ, zero, suc, ◌-◌, ◌≤◌}
use mathlib.Core.Path.{◌≡◌, refl}
use mathlib.Core.List.{List, [], ◌∷◌, ◌++◌}
use native.Mathlib.Omega.{arith}
use lib.ListN.{length, length-append}
use Rattle.rules.specs.Cells.{word_limit}
use Rattle.rules.specs.Graph.{Node}
use Rattle.rules.specs.Records.{Group, waiting_of}
use Rattle.rules.specs.Reservation.{reserved, reservable}
use Rattle.rules.specs.Traversal.{WordRule, setting}
use Rattle.rules.specs.Placing.{filled_plan}
use Rattle.rules.specs.Ending.{one_stage}
use Rattle.rules.specs.Build.{Stage, Answer, refusal, whole, more, stages, build, words_of}
use Rattle.rules.proofs.Lists.Members.{split}
use Rattle.rules.proofs.Stage.Depth.{stage_cases}
use Rattle.rules.proofs.Build.Lengths.{words_fit}

-- an answer is a refusal, or whole
pub answer_cases : {P : Type 0} (a : Answer) → ((n k : ℕ) → a ≡ refusal n k → P) → ((ss : List Stage) → a ≡ whole ss → P) → P
answer_cases (refusal n k) f h = f n k refl
answer_cases (whole ss) f h = h ss refl

-- a whole plan with a stage in front has it first
pub more_is : (s : Stage) (a : Answer) (ss : List Stage) → more s a ≡ whole ss → (ts : List Stage) × (a ≡ whole ts) × (ss ≡ s ∷ ts)
unfolding more
more_is s (refusal n k) ss e = absurd (let z : ◌≡◌ {A = ℕ} 0 1 = cc in omega arith)
more_is s (whole ts) ss e = (ts, refl, cc)

-- the stages of an accepted build write no more words than they may
pub stages_words : (rule : WordRule) (K : ℕ) (g : List Node) (rooms k : ℕ) (done waiting : List ℕ) (room : ℕ) (ss : List Stage) → stages rule K g rooms k done waiting room ≡ whole ss → length (words_of ss) ≤ room
unfolding stages words_of one_stage
stages_words rule K g zero k done [] room ss e = let z : ss ≡ [] = cc in rw z (omega arith)
stages_words rule K g zero k done (w ∷ ws) room ss e = absurd (let z : ◌≡◌ {A = ℕ} 0 1 = cc in omega arith)
stages_words rule K g (suc r) k done [] room ss e = let z : ss ≡ [] = cc in rw z (omega arith)
stages_words rule K g (suc r) k done (w ∷ ws) room ss e = stage_cases (one_stage rule K g done (w ∷ ws) room)
    (λ n d. absurd (let c : refusal n k ≡ whole ss = rw (d, stages) at e in let z : ◌≡◌ {A = ℕ} 0 1 = cc in omega arith))
    (λ plan words realised waiting d.
    let t = more_is (record { plan = plan; words = words }) (stages rule K g r (suc k) (realised ++ done) waiting (room - length words)) ss (rw (d, stages) at e) in
    let f = words_fit (setting rule K g done (w ∷ ws)) room (filled_plan (setting rule K g done (w ∷ ws))) plan words realised waiting d in
    rw (t.2, length-append words (words_of t.0)) (omega (arith, f, stages_words rule K g r (suc k) (realised ++ done) waiting (room - length words) t.0 t.1)))

-- an accepted build writes at most W words
pub build_words : (rule : WordRule) (K : ℕ) (g : List Node) (given : List ℕ) (gs : List Group) (rooms : ℕ) (ss : List Stage) → build rule K g given gs rooms ≡ whole ss → length (words_of ss) ≤ word_limit K
unfolding build
build_words rule K g given gs rooms ss e = split (reservable K gs)
    (λ t. let h = stages_words rule K g rooms 1 given (waiting_of gs []) (word_limit K - reserved gs) ss (rw (t, build) at e) in omega (arith, h))
    (λ t. absurd (let c : refusal 6 0 ≡ whole ss = rw (t, build) at e in let z : ◌≡◌ {A = ℕ} 0 1 = cc in omega arith))
