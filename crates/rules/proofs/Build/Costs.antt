-- The filled cells of an accepted build are what its kept pins cost, stage by stage; the lent plan has so many. Assumes nothing.
use Prim.Native.Nat.{ℕ, zero, suc, ◌-◌, ◌≤◌}
use mathlib.Core.Path.{◌≡◌, refl}
use mathlib.Core.List.{List, [], ◌∷◌, ◌++◌, map}
use native.Mathlib.Omega.{arith}
use lib.ListN.{length, replicate}
use Rattle.rules.specs.Lists.{count, sum, padded}
use Rattle.rules.specs.Cells.{empty, filled, word_limit}
use Rattle.rules.specs.Graph.{Node}
use Rattle.rules.specs.Records.{Group, waiting_of}
use Rattle.rules.specs.Reservation.{reserved, reservable}
use Rattle.rules.specs.Traversal.{WordRule, setting}
use Rattle.rules.specs.Ending.{one_stage, stage}
use Rattle.rules.specs.Build.{Stage, refusal, whole, stages, build, cells_of, reply}
use Rattle.rules.specs.Cost.{Placings, Costs, none, more}
use Rattle.rules.specs.Inside.Lean.{blank}
use Rattle.rules.specs.Inside.Walks.{Graph, Ready}
use Rattle.rules.proofs.Lists.Members.{split, count-append}
use Rattle.rules.proofs.Needed.Needs.{setting_sound}
use Rattle.rules.proofs.Stage.Staged.{the_end}
use Rattle.rules.proofs.Stage.Depth.{still_ready, stage_cases}
use Rattle.rules.proofs.Tree.Cost.{none_filled, rest_costs}
use Rattle.rules.proofs.Fold.Whole.{mark}
use Rattle.rules.proofs.Build.Words.{more_is}

-- stage by stage
pub cells_sum : (ss : List Stage) → count filled (cells_of ss) ≡ sum (map (λ s. count filled s.plan) ss)
unfolding cells_of sum count
cells_sum [] = refl
cells_sum (s ∷ ss) = omega (arith, count-append filled s.plan (cells_of ss), cells_sum ss)

-- in the lent plan, whose unused cells are empty
pub padded_count : (n : ℕ) (xs : List ℕ) → count filled (padded n empty xs) ≡ count filled xs
unfolding padded
padded_count n xs = omega (arith, count-append filled xs (replicate (n - length xs) empty), none_filled (n - length xs))

module _ (rule : WordRule) (K : ℕ) (g : List Node) (r : ℕ → ℕ) (G : Graph g r) (tall : 6 ≤ K) (small : length g ≤ empty) where
  -- a completed stage: its kept pins cost as many cells as it has filled
  pub stage_costs : (done waiting : List ℕ) → Ready g r waiting → (room : ℕ) (plan2 words realised waiting2 : List ℕ) → one_stage rule K g done waiting room ≡ stage plan2 words realised waiting2 →
      Placings (setting rule K g done waiting) (blank (setting rule K g done waiting)) (count filled plan2) plan2
  unfolding setting
  stage_costs done waiting R room plan2 words realised waiting2 e =
      rest_costs (record { X = setting rule K g done waiting; r = r; f = length g; S = setting_sound rule K g r G done waiting R.bounded; M = mark g r G small; small = small }) (omega arith) plan2
      (the_end rule K g r G (omega arith) small done waiting R.bounded room plan2 words realised waiting2 e).rested

  -- the stages of an accepted build
  pub stages_cost : (rooms k : ℕ) (done waiting : List ℕ) → Ready g r waiting → (room : ℕ) (ss : List Stage) → stages rule K g rooms k done waiting room ≡ whole ss → Costs rule K g done waiting room ss (count filled (cells_of ss))
  unfolding stages cells_of count
  stages_cost zero k done [] R room ss e = let z : ss ≡ [] = cc in rw z none
  stages_cost zero k done (w ∷ ws) R room ss e = absurd (let z : ◌≡◌ {A = ℕ} 0 1 = cc in omega arith)
  stages_cost (suc rooms) k done [] R room ss e = let z : ss ≡ [] = cc in rw z none
  stages_cost (suc rooms) k done (w ∷ ws) R room ss e = stage_cases (one_stage rule K g done (w ∷ ws) room)
      (λ n d. absurd (let c : refusal n k ≡ whole ss = rw (d, stages) at e in let z : ◌≡◌ {A = ℕ} 0 1 = cc in omega arith))
      (λ plan2 words realised waiting2 d.
      let t = more_is (record { plan = plan2; words = words }) (stages rule K g rooms (suc k) (realised ++ done) waiting2 (room - length words)) ss (rw (d, stages) at e) in
      rw (t.2, count-append filled plan2 (cells_of t.0)) (more d (stage_costs done (w ∷ ws) R room plan2 words realised waiting2 d)
      (stages_cost rooms (suc k) (realised ++ done) waiting2 (still_ready rule K g r G tall small done (w ∷ ws) R room plan2 words realised waiting2 d) (room - length words) t.0 t.1)))

  -- an accepted build: the cells of its answer are what all pins kept cost
  pub build_costs : (given : List ℕ) (groups : List Group) → Ready g r (waiting_of groups []) → (rooms : ℕ) (ss : List Stage) → build rule K g given groups rooms ≡ whole ss →
      Costs rule K g given (waiting_of groups []) (word_limit K - reserved groups) ss (reply (build rule K g given groups rooms)).cells
  unfolding build reply
  build_costs given groups R rooms ss e = rw e (split (reservable K groups)
      (λ c. stages_cost rooms 1 given (waiting_of groups []) R (word_limit K - reserved groups) ss (rw (c, build) at e))
      (λ c. absurd (let d : refusal 6 0 ≡ whole ss = rw (c, build) at e in let z : ◌≡◌ {A = ℕ} 0 1 = cc in omega arith)))
