-- How many cells a build can fill, whatever it is handed: no more than its stages have. Assumes nothing.
use Prim.Native.Nat.{ℕ, zero, suc, ◌+◌, ◌-◌, ◌*◌, ◌^◌, ◌≤◌}
use mathlib.Core.Bool.{Bool, ◌||◌}
use mathlib.Core.List.{List, [], ◌∷◌, ◌++◌}
use mathlib.Core.Path.{◌≡◌, refl, ◌∙◌}
use native.Mathlib.Omega.{arith}
use native.Mathlib.Nat.{suc-mul, mul-le-mul}
use lib.Pow.{pow_mono}
use lib.ListN.{length, get_or, length-append}
use Rattle.rules.specs.Lists.{mem}
use Rattle.rules.specs.Cells.{empty, filled, row_at, row, first_empty}
use Rattle.rules.specs.Graph.{Node}
use Rattle.rules.specs.Records.{Group, waiting_of}
use Rattle.rules.specs.Reservation.{reserved, reservable}
use Rattle.rules.specs.Cells.{word_limit}
use Rattle.rules.specs.Traversal.{WordRule, Setting, setting}
use Rattle.rules.specs.Placing.{place, tree, needed_of, filled_plan}
use Rattle.rules.specs.Ending.{Put, meet, fill_in, put_cell, put_cells, Sparse, put_run, goes_on, put_runs, Plan?, full, plan, put_rest, in_need, last_stage, written, rest, sparse_runs, stage, one_stage}
use Rattle.rules.specs.Build.{Stage, Answer, refusal, whole, stages, build, cells_of, refuse, reply}
use Rattle.rules.proofs.Lists.Members.{split}
use Rattle.rules.proofs.Stage.Fuel.{count-length}
use Rattle.rules.proofs.Stage.Puts.{list, cell}
use Rattle.rules.proofs.Stage.Depth.{stage_cases}
use Rattle.rules.proofs.Stage.Staged.{finished, length-filled_plan}
use Rattle.rules.proofs.Tree.Held.{length_place1}
use Rattle.rules.proofs.Build.Words.{more_is}

module _ (X : Setting) where
  cell_length : (p : ℕ) (s : Put) → length (put_cell X p s).plan ≡ length s.plan
  unfolding put_cell meet fill_in
  cell_length p s = list s.left (λ e. rw (e, put_cell))
      (λ y ys e. split (filled (get_or s.plan p empty)) (λ b. rw (e, b, put_cell)) (λ b. rw (e, b, put_cell) (length_place1 X (row_at X.K 1) p y s.plan)))

  cells_length : (n p : ℕ) (s : Put) → length (put_cells X n p s).plan ≡ length s.plan
  unfolding put_cells
  cells_length zero p s = refl
  cells_length (suc n) p s = cells_length n (suc p) (put_cell X p s) ∙ cell_length p s

  runs_length : (last : Bool) (rs : List Sparse) (s : Put) → length (put_runs X last rs s).plan ≡ length s.plan
  unfolding put_runs put_run
  runs_length last [] s = refl
  runs_length last (r ∷ rs) s = split (goes_on X.rule last r.filled (length s.left))
      (λ e. rw (e, put_runs) (runs_length last rs (put_run X r s) ∙ cells_length 32 (row_at X.K 1 + r.start) s))
      (λ e. rw (e, put_runs))

  rest_length : (ps real pl pl2 : List ℕ) → put_rest X ps real pl ≡ plan pl2 → length pl2 ≡ length pl
  unfolding put_rest
  rest_length [] real pl pl2 e = let d : pl2 ≡ pl = cc in rw d
  rest_length (p ∷ ps) real pl pl2 e = split (mem p real || mem p (tree X.K pl))
      (λ b. rest_length ps real pl pl2 (rw (b, put_rest) at e))
      (λ b. cell (first_empty (row_at X.K 1) (row X.K 1 pl))
      (λ n. absurd (let z : ◌≡◌ {A = Plan?} full (plan pl2) = rw (b, n, put_rest) at e in let y : ◌≡◌ {A = ℕ} 0 1 = cc in omega arith))
      (λ c n. rest_length ps real (place X 1 (row_at X.K 1) c p pl) pl2 (rw (b, n, put_rest) at e) ∙ length_place1 X (row_at X.K 1) c p pl))

-- a completed stage has a number a position
stage_long : (rule : WordRule) (K : ℕ) (g : List Node) (done waiting : List ℕ) (room : ℕ) (plan2 words realised waiting2 : List ℕ) → one_stage rule K g done waiting room ≡ stage plan2 words realised waiting2 → length plan2 ≡ 2 ^ (K + 1)
unfolding one_stage setting rest written
stage_long rule K g done waiting room plan2 words realised waiting2 e =
    let X : Setting = setting rule K g done waiting in
    let E = finished X room (filled_plan X) plan2 words realised waiting2 e in
    rest_length X (needed_of X (filled_plan X)) (written X (filled_plan X)).real (written X (filled_plan X)).plan plan2 E.rested
    ∙ runs_length X (last_stage X (filled_plan X)) (sparse_runs X.K (filled_plan X)) (record { plan = filled_plan X; left = in_need X (filled_plan X); real = []; words = [] })
    ∙ length-filled_plan X

stages_long : (rule : WordRule) (K : ℕ) (g : List Node) (rooms k : ℕ) (done waiting : List ℕ) (room : ℕ) (ss : List Stage) → stages rule K g rooms k done waiting room ≡ whole ss → length (cells_of ss) ≡ length ss * 2 ^ (K + 1)
unfolding stages cells_of
stages_long rule K g zero k done [] room ss e = let z : ss ≡ [] = cc in rw z (omega arith)
stages_long rule K g zero k done (w ∷ ws) room ss e = absurd (let z : ◌≡◌ {A = ℕ} 0 1 = cc in omega arith)
stages_long rule K g (suc r) k done [] room ss e = let z : ss ≡ [] = cc in rw z (omega arith)
stages_long rule K g (suc r) k done (w ∷ ws) room ss e = stage_cases (one_stage rule K g done (w ∷ ws) room)
    (λ n d. absurd (let c : refusal n k ≡ whole ss = rw (d, stages) at e in let z : ◌≡◌ {A = ℕ} 0 1 = cc in omega arith))
    (λ plan2 words realised waiting d.
    let t = more_is (record { plan = plan2; words = words }) (stages rule K g r (suc k) (realised ++ done) waiting (room - length words)) ss (rw (d, stages) at e) in
    rw (t.2, length-append plan2 (cells_of t.0), suc-mul (length t.0) (2 ^ (K + 1))) (omega (arith, stage_long rule K g done (w ∷ ws) room plan2 words realised waiting d, stages_long rule K g r (suc k) (realised ++ done) waiting (room - length words) t.0 t.1)))

few_of : (K : ℕ) (a : Answer) → ((ss : List Stage) → a ≡ whole ss → length (cells_of ss) ≡ length ss * 2 ^ (K + 1)) → (reply a).cells ≤ (reply a).stages * 2 ^ (K + 1)
unfolding reply refuse
few_of K (refusal n k) h = omega arith
few_of K (whole ss) h = omega (arith, h ss refl, count-length filled (cells_of ss))

-- a build of s stages fills at most 16,384 cells in each
pub cells_few : (rule : WordRule) (K : ℕ) → K ≤ 13 → (g : List Node) (given : List ℕ) (gs : List Group) (rooms s : ℕ) → (reply (build rule K g given gs rooms)).stages ≤ s → (reply (build rule K g given gs rooms)).cells ≤ s * 16384
unfolding build
cells_few rule K h g given gs rooms s b =
    let f : (reply (build rule K g given gs rooms)).cells ≤ (reply (build rule K g given gs rooms)).stages * 2 ^ (K + 1) = few_of K (build rule K g given gs rooms) (λ ss e. split (reservable K gs)
    (λ t. stages_long rule K g rooms 1 given (waiting_of gs []) (word_limit K - reserved gs) ss (rw (t, build) at e))
    (λ t. absurd (let c : refusal 6 0 ≡ whole ss = rw (t, build) at e in let z : ◌≡◌ {A = ℕ} 0 1 = cc in omega arith))) in
    omega (arith, f, mul-le-mul b (pow_mono {i = K + 1} {j = 14} (omega arith)))
