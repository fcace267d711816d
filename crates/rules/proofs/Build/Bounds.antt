-- How long a whole plan can be: a stage lowers what is left, so it has at most N + 1 stages, and at most W words. Assumes nothing.
use Prim.Native.Nat.{ℕ, zero, suc, pred, ◌-◌, ◌≤◌, ◌<◌}
use mathlib.Core.Path.{◌≡◌, refl}
use mathlib.Core.Logic.{◌⊎◌, inl, inr}
use mathlib.Core.List.{List, [], ◌∷◌, ◌++◌}
use native.Mathlib.Omega.{arith}
use lib.Dec.{eqb}
use lib.ListN.{length}
use Rattle.rules.specs.Cells.{empty, word_limit}
use Rattle.rules.specs.Graph.{Node, below}
use Rattle.rules.specs.Records.{Group, waiting_of}
use Rattle.rules.specs.Reservation.{reserved, reservable}
use Rattle.rules.specs.Traversal.{WordRule}
use Rattle.rules.specs.Ending.{one_stage}
use Rattle.rules.specs.Depth.{depth, remaining}
use Rattle.rules.specs.Build.{Stage, Answer, refusal, whole, stages, build, reply, refuse}
use Rattle.rules.proofs.Lists.Members.{in_here, split, eqb_true, eqb_false}
use Rattle.rules.specs.Inside.Walks.{Ranked, Graph, Ready}
use Rattle.rules.proofs.Walk.Levels.{over_least}
use Rattle.rules.proofs.Needed.Needs.{falls_always}
use Rattle.rules.proofs.Stage.Staged.{remaining_least}
use Rattle.rules.proofs.Stage.Depth.{still_ready, falls, ends, stage_cases}
use Rattle.rules.proofs.Written.Writes.{more_whole}
use Rattle.rules.proofs.Build.Words.{stages_words}

-- a pin is no deeper than its rank
pub depth_rank : (g : List Node) (stop : List ℕ) (r : ℕ → ℕ) → Ranked g stop r → (f p : ℕ) → depth f g stop p ≤ r p
unfolding depth
depth_rank g stop r k zero p = omega arith
depth_rank g stop r k (suc f) p = over_least (depth f g stop) (below g stop p) (r p) (λ x i. omega (arith, depth_rank g stop r k f x, k p x i))

-- an answer of no more than that
pub record Few (K : ℕ) (g : List Node) (a : Answer) : Type 0 where
  pub stages_most : (reply a).stages ≤ length g
  pub words_most : (reply a).words ≤ word_limit K

module _ (rule : WordRule) (K : ℕ) (g : List Node) (r : ℕ → ℕ) (G : Graph g r) (tall : 6 ≤ K) (small : length g ≤ empty) where
  -- fewer than d deep, or none: at most d stages
  pub stages_few : (rooms k : ℕ) (done waiting : List ℕ) → Ready g r waiting → (room d : ℕ) → (waiting ≡ []) ⊎ (remaining (length g) g done waiting < d) → (ss : List Stage) → stages rule K g rooms k done waiting room ≡ whole ss → length ss ≤ d
  unfolding stages
  stages_few zero k done [] R room d h ss e = let z : ss ≡ [] = cc in rw z (omega arith)
  stages_few zero k done (w ∷ ws) R room d h ss e = absurd (let z : ◌≡◌ {A = ℕ} 0 1 = cc in omega arith)
  stages_few (suc rooms) k done [] R room d h ss e = let z : ss ≡ [] = cc in rw z (omega arith)
  stages_few (suc rooms) k done (w ∷ ws) R room d (inl a) ss e = absurd (let z : ◌≡◌ {A = ℕ} 0 1 = cc in omega arith)
  stages_few (suc rooms) k done (w ∷ ws) R room d (inr a) ss e = stage_cases (one_stage rule K g done (w ∷ ws) room)
      (λ n b. absurd (let c : refusal n k ≡ whole ss = rw (b, stages) at e in let z : ◌≡◌ {A = ℕ} 0 1 = cc in omega arith))
      (λ plan2 words realised waiting2 b.
      let m = more_whole rule K g r G tall small (record { plan = plan2; words = words }) (stages rule K g rooms (suc k) (realised ++ done) waiting2 (room - length words)) ss (rw (b, stages) at e) in
      let f : remaining (length g) g (realised ++ done) waiting2 ≤ pred (remaining (length g) g done (w ∷ ws)) = falls rule K g r G tall small done (w ∷ ws) R room plan2 words realised waiting2 b in
      let l : length m.0 ≤ d - 1 = stages_few rooms (suc k) (realised ++ done) waiting2 (still_ready rule K g r G tall small done (w ∷ ws) R room plan2 words realised waiting2 b) (room - length words) (d - 1)
      (split (eqb (remaining (length g) g done (w ∷ ws)) 0)
      (λ c. inl (ends rule K g r G tall small done (w ∷ ws) R room plan2 words realised waiting2 b (eqb_true _ 0 c)))
      (λ c. inr (omega (arith, eqb_false (remaining (length g) g done (w ∷ ws)) 0 c))))
      m.0 m.1 in
      rw m.2 (omega arith))

  module _ (given : List ℕ) (groups : List Group) (R : Ready g r (waiting_of groups [])) where
    abbrev waits : List ℕ
    waits = waiting_of groups []

    deep : (ws : List ℕ) → Ready g r ws → (ws ≡ []) ⊎ (remaining (length g) g given ws < length g)
    deep [] S = inl refl
    deep (w ∷ ws) S =
        let h : 0 < length g = omega (arith, (S.bounded w (in_here w ws)).0) in
        let b : remaining (length g) g given (w ∷ ws) ≤ length g - 1 = remaining_least (length g) g given (w ∷ ws) (length g - 1)
        (λ x i. omega (arith, depth_rank g given r (falls_always g r G given) (length g) x, (S.bounded x i).1)) in
        inr (omega arith)

    refused_few : (n k : ℕ) → Few K g (refusal n k)
    unfolding reply refuse
    refused_few n k = record { stages_most = omega arith; words_most = omega arith }

    whole_few : (rooms : ℕ) (a : Answer) → stages rule K g rooms 1 given waits (word_limit K - reserved groups) ≡ a → Few K g a
    unfolding reply
    whole_few rooms (refusal n k) e = refused_few n k
    whole_few rooms (whole ss) e = record {
      stages_most = stages_few rooms 1 given waits R (word_limit K - reserved groups) (length g) (deep waits R) ss e;
      words_most = omega (arith, stages_words rule K g rooms 1 given waits (word_limit K - reserved groups) ss e);
    }

    -- every build answers with no more stages than pins of the graph, pin 0 counted, and at most W words
    pub build_few : (rooms : ℕ) → Few K g (build rule K g given groups rooms)
    unfolding build
    build_few rooms = split (reservable K groups)
        (λ c. rw (c, build) (whole_few rooms (stages rule K g rooms 1 given waits (word_limit K - reserved groups)) refl))
        (λ c. rw (c, build) (refused_few 6 0))
