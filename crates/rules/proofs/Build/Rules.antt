-- The new word rule never costs a job: what the old one accepts it accepts, with no more stages. Assumes nothing.
use Prim.Native.Nat.{ℕ, zero, suc, ◌-◌, ◌≤◌}
use mathlib.Core.Path.{◌≡◌, refl, ap}
use mathlib.Core.Logic.{◌⊎◌, inl, inr}
use mathlib.Core.Bool.{true, not}
use mathlib.Core.List.{List, [], ◌∷◌, ◌++◌}
use native.Mathlib.Omega.{arith}
use lib.ListN.{length}
use Rattle.rules.specs.Lists.{mem, In}
use Rattle.rules.specs.Cells.{empty, word_limit}
use Rattle.rules.specs.Graph.{Node, below}
use Rattle.rules.specs.Records.{Group, waiting_of}
use Rattle.rules.specs.Reservation.{reserved, reservable}
use Rattle.rules.specs.Traversal.{WordRule, every_run, needed_runs, over, Setting, setting}
use Rattle.rules.specs.Placing.{tree_of, needed_of, filled_plan}
use Rattle.rules.specs.Ending.{in_need, last_stage, stage, one_stage}
use Rattle.rules.specs.Depth.{depth, remaining}
use Rattle.rules.specs.Build.{Stage, Answer, refusal, whole, more, stages, build}
use Rattle.rules.proofs.Lists.Members.{split, and_true, keep_in, in_append_left}
use Rattle.rules.specs.Inside.Walks.{Graph, Ready}
use Rattle.rules.proofs.Needed.Needs.{setting_sound}
use Rattle.rules.proofs.Needed.Lower.{Served}
use Rattle.rules.proofs.Stage.Staged.{Ended, served, the_end, waits_less, remaining_least, half_height, two_step, length-filled_plan}
use Rattle.rules.proofs.Stage.Depth.{stage_cases, still_ready, ends}
use Rattle.rules.proofs.Stage.Same.{same_plan}
use Rattle.rules.proofs.Stage.Under.{last_cases, Kept, kept}
use Rattle.rules.proofs.Written.Writes.{more_whole}

-- whole, with no more stages than ss
abbrev pub NoMore : Answer → List Stage → Type 0
NoMore a ss = (ts : List Stage) × (a ≡ whole ts) × (length ts ≤ length ss)

-- a pin to stop at has no depth
depth_stop : (f : ℕ) (g : List Node) (stop : List ℕ) (p : ℕ) → In p stop → depth f g stop p ≡ 0
unfolding depth below over
depth_stop zero g stop p i = refl
depth_stop (suc f) g stop p i = let b : below g stop p ≡ [] = rw (i, below) in rw b

none_left : (rule : WordRule) (K : ℕ) (g : List Node) (rooms k : ℕ) (done : List ℕ) (room : ℕ) → stages rule K g rooms k done [] room ≡ whole []
unfolding stages
none_left rule K g zero k done room = refl
none_left rule K g (suc rooms) k done room = refl

module _ (K : ℕ) (g : List Node) (r : ℕ → ℕ) (G : Graph g r) (tall : 6 ≤ K) (small : length g ≤ empty) where
  low : 1 ≤ K
  low = omega arith

  -- after a stage that leaves nothing untouched, what waits is realised: no depth remains
  flat : (done waiting : List ℕ) → Ready g r waiting → (room : ℕ) (plan2 words realised waiting2 : List ℕ) → one_stage every_run K g done waiting room ≡ stage plan2 words realised waiting2 →
      last_stage (setting every_run K g done waiting) (filled_plan (setting every_run K g done waiting)) ≡ true → remaining (length g) g (realised ++ done) waiting2 ≡ 0
  unfolding setting tree_of in_need
  flat done waiting R room plan2 words realised waiting2 e l =
      let X : Setting = setting every_run K g done waiting in
      let E : Ended X (filled_plan X) plan2 realised waiting2 = the_end every_run K g r G low small done waiting R.bounded room plan2 words realised waiting2 e in
      let H : Served X (filled_plan X) plan2 = served X r (length g) (setting_sound every_run K g r G done waiting R.bounded) (half_height K low) small (filled_plan X) plan2
      (rw length-filled_plan (omega (arith, two_step K))) E.rested in
      let h : remaining (length g) g (realised ++ done) waiting2 ≤ 0 = remaining_least (length g) g (realised ++ done) waiting2 0 (λ x i.
      let w : In x waiting = waits_less every_run K g r G low small done waiting R.bounded room plan2 words realised waiting2 e x i in
      let t : In x realised = rw E.realises (elim (last_cases X (filled_plan X) l x w) [ inl a ↦ H.grows x a | inr a ↦ H.all x (and_true (not (mem x (tree_of X (filled_plan X)))) (mem x (needed_of X (filled_plan X))) (keep_in _ x waiting a).1).1 ]) in
      omega (arith, depth_stop (length g) g (realised ++ done) x (in_append_left x realised done t))) in
      omega arith

  -- between stages the same pins wait; the new rule has as many words left, or more where no depth remains
  pub no_more : (rooms k : ℕ) (done waiting : List ℕ) → Ready g r waiting → (room room2 : ℕ) → (room ≡ room2) ⊎ ((room ≤ room2) × (remaining (length g) g done waiting ≡ 0)) →
      (ss : List Stage) → stages every_run K g rooms k done waiting room ≡ whole ss → NoMore (stages needed_runs K g rooms k done waiting room2) ss
  unfolding stages one_stage setting more
  no_more zero k done [] R room room2 I ss e = ([], refl, omega arith)
  no_more zero k done (w ∷ ws) R room room2 I ss e = absurd (let z : ◌≡◌ {A = ℕ} 0 1 = cc in omega arith)
  no_more (suc rooms) k done [] R room room2 I ss e = ([], refl, omega arith)
  no_more (suc rooms) k done (w ∷ ws) R room room2 I ss e = stage_cases (one_stage every_run K g done (w ∷ ws) room)
      (λ n d. absurd (let c : refusal n k ≡ whole ss = rw (d, stages) at e in let z : ◌≡◌ {A = ℕ} 0 1 = cc in omega arith))
      (λ plan2 words realised waiting2 d.
      let X : Setting = setting every_run K g done (w ∷ ws) in
      let m = more_whole every_run K g r G tall small (record { plan = plan2; words = words }) (stages every_run K g rooms (suc k) (realised ++ done) waiting2 (room - length words)) ss (rw (d, stages) at e) in
      let a : room ≤ room2 = elim I [ inl h ↦ omega arith | inr h ↦ h.0 ] in
      let t : Kept X room room2 (filled_plan X) plan2 words realised waiting2 = kept X (half_height K low) R.once (filled_plan X) room room2 a plan2 words realised waiting2 d in
      let N : one_stage needed_runs K g done (w ∷ ws) room2 ≡ stage plan2 t.words2 realised t.waiting3 = rw (same_plan needed_runs X) t.stays in
      let s : Stage = record { plan = plan2; words = t.words2 } in
      let R2 : Ready g r waiting2 = still_ready every_run K g r G tall small done (w ∷ ws) R room plan2 words realised waiting2 d in
      let on : NoMore (stages needed_runs K g rooms (suc k) (realised ++ done) t.waiting3 (room2 - length t.words2)) m.0 → NoMore (stages needed_runs K g (suc rooms) k done (w ∷ ws) room2) ss
      = λ h. (s ∷ h.0, rw (N, stages) (ap (more s) h.1), rw m.2 (omega (arith, h.2))) in
      let last : t.waiting3 ≡ [] → NoMore (stages needed_runs K g (suc rooms) k done (w ∷ ws) room2) ss = λ z. on (rw z ([], none_left needed_runs K g rooms (suc k) (realised ++ done) _, omega arith)) in
      elim I [
        | inl q ↦ elim (t.next q) [
          | inl z ↦ last z
          | inr h ↦ on (rw h.0 (no_more rooms (suc k) (realised ++ done) waiting2 R2 (room - length words) (room2 - length t.words2)
              (elim h.2 [ inl l ↦ inr (omega (arith, h.1), flat done (w ∷ ws) R room plan2 words realised waiting2 d l) | inr l ↦ inl (omega arith) ]) m.0 m.1))
        ]
        | inr q ↦ last (ends needed_runs K g r G tall small done (w ∷ ws) R room2 plan2 t.words2 realised t.waiting3 N q.1)
      ])

  -- a build that the old rule accepts the new one accepts, with no more stages
  pub build_no_more : (given : List ℕ) (groups : List Group) → Ready g r (waiting_of groups []) → (rooms : ℕ) (ss : List Stage) → build every_run K g given groups rooms ≡ whole ss → NoMore (build needed_runs K g given groups rooms) ss
  unfolding build
  build_no_more given groups R rooms ss e = split (reservable K groups)
      (λ c. rw (c, build) (no_more rooms 1 given (waiting_of groups []) R (word_limit K - reserved groups) (word_limit K - reserved groups) (inl refl) ss (rw (c, build) at e)))
      (λ c. absurd (let d : refusal 6 0 ≡ whole ss = rw (c, build) at e in let z : ◌≡◌ {A = ℕ} 0 1 = cc in omega arith))
