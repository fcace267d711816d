-- Demand 3, depth: after s stages what is left is at most D - s deep, and D + 1 rooms are enough. Assumes nothing.
use Prim.Native.Nat.{ℕ, zero, suc, pred, ◌-◌, ◌*◌, ◌/◌, ◌≤◌, ◌<◌, zero-le}
use mathlib.Core.Path.{◌≡◌, refl, sym, ◌∙◌}
use mathlib.Core.Logic.{◌⊎◌, inl, inr, ◌≢◌}
use mathlib.Core.List.{List, [], ◌∷◌, ◌++◌}
use native.Mathlib.Omega.{arith}
use lib.Dec.{eqb}
use lib.ListN.{length}
use Rattle.rules.specs.Cells.{empty, row_at}
use Rattle.rules.specs.Graph.{Node}
use Rattle.rules.specs.Traversal.{WordRule, setting}
use Rattle.rules.specs.Placing.{filled_plan}
use Rattle.rules.specs.Ending.{Stage?, refused, stage, one_stage}
use Rattle.rules.specs.Build.{Stage, Answer, refusal, whole, more, stages}
use Rattle.rules.specs.States.{state, after_from}
use Rattle.rules.specs.Depth.{remaining}
use Rattle.rules.proofs.Lists.Members.{split, eqb_true, eqb_false}
use Rattle.rules.specs.Inside.Walks.{Graph, Ready}
use Rattle.rules.proofs.Needed.Needs.{setting_sound}
use Rattle.rules.proofs.Stage.Staged.{half_height, remaining_above, remaining_falls, waits_less, the_end}
use Rattle.rules.proofs.Stage.Over.{seven_or_eight}
use Rattle.rules.proofs.Stage.Last.{once_swap_out_all}
use Rattle.rules.proofs.Stage.Flat.{none_wait}

-- a stage is refused, or completed
pub stage_cases : {P : Type 0} (x : Stage?) → ((n : ℕ) → x ≡ refused n → P) → ((plan2 words realised waiting2 : List ℕ) → x ≡ stage plan2 words realised waiting2 → P) → P
stage_cases (refused n) f h = f n refl
stage_cases (stage a b c d) f h = h a b c d refl

-- level 1 is whole runs of 32 cells
pub multiple : (K : ℕ) → 6 ≤ K → row_at K 1 ≡ 32 * (row_at K 1 / 32)
unfolding row_at
multiple K h = let e : K - 1 ≡ suc (suc (suc (suc (suc (K - 6))))) = omega arith in rw e (omega arith)

-- a refusal with a stage in front is that of what follows
pub more_refused : (s : Stage) (a : Answer) (n k : ℕ) → more s a ≡ refusal n k → a ≡ refusal n k
unfolding more
more_refused s (refusal m j) n k e = e
more_refused s (whole ss) n k e = absurd (let z : ◌≡◌ {A = ℕ} 0 1 = cc in omega arith)

module _ (rule : WordRule) (K : ℕ) (g : List Node) (r : ℕ → ℕ) (G : Graph g r) (tall : 6 ≤ K) (small : length g ≤ empty) where
  module _ (done waiting : List ℕ) (R : Ready g r waiting) (room : ℕ) (plan2 words realised waiting2 : List ℕ) (e : one_stage rule K g done waiting room ≡ stage plan2 words realised waiting2) where
    low : 1 ≤ K
    low = omega arith

    -- after a completed stage each waiting pin stands once and is a pin of the graph
    pub still_ready : Ready g r waiting2
    unfolding setting
    still_ready = record {
      once = rw (the_end rule K g r G low small done waiting R.bounded room plan2 words realised waiting2 e).waits (once_swap_out_all _ R.once);
      bounded = λ x i. R.bounded x (waits_less rule K g r G low small done waiting R.bounded room plan2 words realised waiting2 e x i);
    }

    -- after a completed stage what is left is one less deep
    pub falls : remaining (length g) g (realised ++ done) waiting2 ≤ pred (remaining (length g) g done waiting)
    falls = remaining_falls rule K g r G low small done waiting R.bounded room plan2 words realised waiting2 e

    -- and where no depth was left nothing waits
    pub ends : remaining (length g) g done waiting ≡ 0 → waiting2 ≡ []
    unfolding setting
    ends z = none_wait (setting rule K g done waiting) r (length g) (setting_sound rule K g r G done waiting R.bounded) (half_height K low) small (multiple K tall) R.once
        (λ x i. omega (arith, remaining_above (length g) g done waiting x i)) plan2 realised waiting2 (the_end rule K g r G low small done waiting R.bounded room plan2 words realised waiting2 e)

  -- what is left after s completed stages is s less deep
  pub record Shallow (s : ℕ) (done waiting done2 waiting2 : List ℕ) : Type 0 where
    pub ready : Ready g r waiting2
    pub depth : remaining (length g) g done2 waiting2 ≤ remaining (length g) g done waiting - s
    pub few : waiting2 ≢ [] → s ≤ remaining (length g) g done waiting

  shallow_step : {s : ℕ} {done waiting done2 waiting2 done3 waiting3 : List ℕ} → remaining (length g) g done2 waiting2 ≤ pred (remaining (length g) g done waiting) →
      (remaining (length g) g done waiting ≡ 0 → waiting3 ≡ []) → Shallow s done2 waiting2 done3 waiting3 → Shallow (suc s) done waiting done3 waiting3
  shallow_step {done = done} {waiting = waiting} f z h = record {
    ready = h.ready;
    depth = omega (arith, h.depth);
    few = λ n. split (eqb (remaining (length g) g done waiting) 0)
        (λ b. absurd (n (z (eqb_true _ 0 b))))
        (λ b. omega (arith, h.few n, eqb_false (remaining (length g) g done waiting) 0 b));
  }

  -- where no pin waits no stage follows
  none_after : (s : ℕ) (done waiting : List ℕ) (room : ℕ) {done2 waiting2 : List ℕ} {room2 : ℕ} → waiting ≡ [] → after_from rule K g s done waiting room ≡ state done2 waiting2 room2 → waiting2 ≡ []
  unfolding after_from
  none_after zero done waiting room {waiting2 = v} z e = let d : waiting ≡ v = cc in sym d ∙ z
  none_after (suc s) done [] room z e = absurd (let y : ◌≡◌ {A = ℕ} 0 1 = cc in omega arith)
  none_after (suc s) done (w ∷ ws) room z e = absurd (let y : ◌≡◌ {A = ℕ} 0 1 = cc in omega arith)

  -- every state that completed stages leave is so
  pub shallow : (s : ℕ) (done waiting : List ℕ) → Ready g r waiting → (room : ℕ) {done2 waiting2 : List ℕ} {room2 : ℕ} → after_from rule K g s done waiting room ≡ state done2 waiting2 room2 → Shallow s done waiting done2 waiting2
  unfolding after_from
  shallow zero done waiting R room {done2} {waiting2} e =
      let d : done ≡ done2 = cc in
      let w : waiting ≡ waiting2 = cc in
      rw (← d, ← w) (record { ready = R; depth = omega arith; few = λ n. zero-le })
  shallow (suc s) done [] R room e = absurd (let z : ◌≡◌ {A = ℕ} 0 1 = cc in omega arith)
  shallow (suc s) done (w ∷ ws) R room e = stage_cases (one_stage rule K g done (w ∷ ws) room)
      (λ n d. absurd (let c = rw (d, after_from) at e in let z : ◌≡◌ {A = ℕ} 0 1 = cc in omega arith))
      (λ plan2 words realised waiting2 d.
      let c = rw (d, after_from) at e in
      shallow_step (falls done (w ∷ ws) R room plan2 words realised waiting2 d) (λ z. none_after s (realised ++ done) waiting2 (room - length words) (ends done (w ∷ ws) R room plan2 words realised waiting2 d z) c)
      (shallow s (realised ++ done) waiting2 (still_ready done (w ∷ ws) R room plan2 words realised waiting2 d) (room - length words) c))

  -- with more rooms than the depth that is left, the rooms are enough
  pub rooms_suffice : (rooms k : ℕ) (done waiting : List ℕ) → Ready g r waiting → (room : ℕ) → (waiting ≡ []) ⊎ (remaining (length g) g done waiting < rooms) →
      (n j : ℕ) → stages rule K g rooms k done waiting room ≡ refusal n j → (n ≡ 7) ⊎ (n ≡ 8)
  unfolding stages one_stage
  rooms_suffice zero k done [] R room h n j e = absurd (let z : ◌≡◌ {A = ℕ} 0 1 = cc in omega arith)
  rooms_suffice zero k done (w ∷ ws) R room (inl a) n j e = absurd (let z : ◌≡◌ {A = ℕ} 0 1 = cc in omega arith)
  rooms_suffice zero k done (w ∷ ws) R room (inr a) n j e = absurd (omega arith)
  rooms_suffice (suc rooms) k done [] R room h n j e = absurd (let z : ◌≡◌ {A = ℕ} 0 1 = cc in omega arith)
  rooms_suffice (suc rooms) k done (w ∷ ws) R room (inl a) n j e = absurd (let z : ◌≡◌ {A = ℕ} 0 1 = cc in omega arith)
  rooms_suffice (suc rooms) k done (w ∷ ws) R room (inr a) n j e = stage_cases (one_stage rule K g done (w ∷ ws) room)
      (λ m d. let c : refusal m k ≡ refusal n j = rw (d, stages) at e in let b : n ≡ m = cc in rw b (seven_or_eight (setting rule K g done (w ∷ ws)) room (filled_plan (setting rule K g done (w ∷ ws))) m d))
      (λ plan2 words realised waiting2 d.
      let f : remaining (length g) g (realised ++ done) waiting2 ≤ pred (remaining (length g) g done (w ∷ ws)) = falls done (w ∷ ws) R room plan2 words realised waiting2 d in
      rooms_suffice rooms (suc k) (realised ++ done) waiting2 (still_ready done (w ∷ ws) R room plan2 words realised waiting2 d) (room - length words)
      (split (eqb (remaining (length g) g done (w ∷ ws)) 0)
      (λ b. inl (ends done (w ∷ ws) R room plan2 words realised waiting2 d (eqb_true _ 0 b)))
      (λ b. inr (omega (arith, eqb_false (remaining (length g) g done (w ∷ ws)) 0 b))))
      n j (more_refused _ _ n j (rw (d, stages) at e)))
