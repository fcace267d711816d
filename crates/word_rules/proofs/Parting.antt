-- Before the first stage that the two word rules finish differently they build the same; if there is none, they build the same altogether. Assumes nothing.
use Prim.Native.Nat.{ℕ, zero, suc, ◌+◌, ◌-◌, ◌≤◌, ◌<◌}
use mathlib.Core.Path.{◌≡◌, refl, sym, ◌∙◌, ap}
use mathlib.Core.Bool.{true, false}
use mathlib.Core.List.{List, [], ◌∷◌, ◌++◌}
use native.Mathlib.Omega.{arith}
use lib.ListN.{length, take, length-take}
use Rattle.rules.specs.Lists.{nothing, found}
use Rattle.rules.specs.Cells.{word_limit}
use Rattle.rules.specs.Graph.{Node}
use Rattle.rules.specs.Records.{Group, waiting_of}
use Rattle.rules.specs.Reservation.{reserved, reservable}
use Rattle.rules.specs.Traversal.{WordRule, every_run, needed_runs}
use Rattle.rules.specs.Ending.{stage, one_stage}
use Rattle.rules.specs.Build.{Stage, whole, more, stages, build, cells_of}
use Rattle.rules.specs.States.{state, after_from, after, first_from, first_stages}
use Rattle.rules.proofs.Lists.Members.{split}
use Rattle.rules.proofs.Stage.Depth.{stage_cases}
use Rattle.rules.proofs.Stage.Refusals.{first_stages_lem}
use Rattle.word_rules.specs.Parting.{alike, parts_from, parts}
use Rattle.word_rules.proofs.Stages.{parting_cells, alike_same}

never : {P : Type 0} {k : ℕ} → found k ≡ nothing → P
never {P} {k} e = absurd (let z : ◌≡◌ {A = ℕ} 0 1 = cc in omega arith)

either : (P : WordRule → Type 0) → P every_run → P needed_runs → (rule : WordRule) → P rule
either P a b every_run = a
either P a b needed_runs = b

-- what s stages leave, the same under both rules: cells and words of each, then the given and realised pins, the waiting pins in order, the words left
pub record SameSoFar (K : ℕ) (g : List Node) (given : List ℕ) (groups : List Group) (s : ℕ) : Type 0 where
  pub stages : first_stages every_run K g given groups s ≡ first_stages needed_runs K g given groups s
  pub state : after every_run K g given groups s ≡ after needed_runs K g given groups s

-- stage k of a build within so many rooms, and that the rules finish it differently from the state before it
pub record Parting (K : ℕ) (g : List Node) (given : List ℕ) (groups : List Group) (rooms k : ℕ) : Type 0 where
  pub first : 1 ≤ k
  pub within : k ≤ rooms
  pub done : List ℕ
  pub waiting : List ℕ
  pub room : ℕ
  pub comes : (rule : WordRule) → after rule K g given groups (k - 1) ≡ state done waiting room
  pub differs : alike (one_stage every_run K g done waiting room) (one_stage needed_runs K g done waiting room) ≡ false

module _ (K : ℕ) (g : List Node) where
  never_from : (r k : ℕ) (done waiting : List ℕ) (room : ℕ) → parts_from K g r k done waiting room ≡ nothing → stages every_run K g r k done waiting room ≡ stages needed_runs K g r k done waiting room
  unfolding parts_from stages
  never_from zero k done [] room e = refl
  never_from zero k done (w ∷ ws) room e = refl
  never_from (suc r) k done [] room e = refl
  never_from (suc r) k done (w ∷ ws) room e = split (alike (one_stage every_run K g done (w ∷ ws) room) (one_stage needed_runs K g done (w ∷ ws) room))
      (λ a.
      let q = alike_same K g done (w ∷ ws) room a in
      stage_cases (one_stage needed_runs K g done (w ∷ ws) room)
      (λ n d. rw (q, d, stages))
      (λ p us rs vs d. rw (q, d, stages) (ap (more (record { plan = p; words = us })) (never_from r (suc k) (rs ++ done) vs (room - length us) (rw (a, d, parts_from) at e)))))
      (λ a. never (rw (a, parts_from) at e))

  same_from : (s r k : ℕ) (done waiting : List ℕ) (room j : ℕ) → parts_from K g r k done waiting room ≡ found j → k + s ≤ j →
      (first_from every_run K g s done waiting room ≡ first_from needed_runs K g s done waiting room) × (after_from every_run K g s done waiting room ≡ after_from needed_runs K g s done waiting room)
  unfolding parts_from first_from after_from
  same_from zero r k done waiting room j e h = (refl, refl)
  same_from (suc s) zero k done waiting room j e h = never (sym e)
  same_from (suc s) (suc r) k done [] room j e h = never (sym e)
  same_from (suc s) (suc r) k done (w ∷ ws) room j e h = split (alike (one_stage every_run K g done (w ∷ ws) room) (one_stage needed_runs K g done (w ∷ ws) room))
      (λ a.
      let q = alike_same K g done (w ∷ ws) room a in
      stage_cases (one_stage needed_runs K g done (w ∷ ws) room)
      (λ n d. never (sym (rw (a, d, parts_from) at e)))
      (λ p us rs vs d.
      let t = same_from s r (suc k) (rs ++ done) vs (room - length us) j (rw (a, d, parts_from) at e) (omega arith) in
      rw (q, d, first_from, after_from) (ap (λ (ss : List Stage). record { plan = p; words = us } ∷ ss) t.0, t.1)))
      (λ a. let f : found k ≡ found j = rw (a, parts_from) at e in let i : k ≡ j = cc in absurd (omega arith))

  -- the stage where they part counted: its cells are the same too, where both rules finish it
  cells_from : (s r k : ℕ) (done waiting : List ℕ) (room j : ℕ) → parts_from K g r k done waiting room ≡ found j → j ≡ k + s →
      length (first_from every_run K g (suc s) done waiting room) ≡ suc s → length (first_from needed_runs K g (suc s) done waiting room) ≡ suc s →
      cells_of (first_from every_run K g (suc s) done waiting room) ≡ cells_of (first_from needed_runs K g (suc s) done waiting room)
  unfolding parts_from first_from cells_of
  cells_from s zero k done waiting room j e h l m = never (sym e)
  cells_from s (suc r) k done [] room j e h l m = never (sym e)
  cells_from zero (suc r) k done (w ∷ ws) room j e h l m = stage_cases (one_stage every_run K g done (w ∷ ws) room)
      (λ n d. absurd (let z = rw (d, first_from) at l in omega arith))
      (λ p us rs vs d. stage_cases (one_stage needed_runs K g done (w ∷ ws) room)
      (λ n c. absurd (let z = rw (c, first_from) at m in omega arith))
      (λ p2 us2 rs2 vs2 c. rw (d, c, first_from) (ap (λ (cs : List ℕ). cs ++ []) (parting_cells K g done (w ∷ ws) room d c).0)))
  cells_from (suc s) (suc r) k done (w ∷ ws) room j e h l m = split (alike (one_stage every_run K g done (w ∷ ws) room) (one_stage needed_runs K g done (w ∷ ws) room))
      (λ a.
      let q = alike_same K g done (w ∷ ws) room a in
      stage_cases (one_stage needed_runs K g done (w ∷ ws) room)
      (λ n d. never (sym (rw (a, d, parts_from) at e)))
      (λ p us rs vs d.
      let l2 = rw (q, d, first_from) at l in
      let m2 = rw (d, first_from) at m in
      rw (q, d, first_from) (ap (λ (cs : List ℕ). p ++ cs) (cells_from s r (suc k) (rs ++ done) vs (room - length us) j (rw (a, d, parts_from) at e) (omega arith) (omega arith) (omega arith)))))
      (λ a. let f : found k ≡ found j = rw (a, parts_from) at e in let i : k ≡ j = cc in absurd (omega arith))

  -- what `Parting` says, s stages on from a state
  record From (r k : ℕ) (done waiting : List ℕ) (room j : ℕ) : Type 0 where
    s : ℕ
    number : j ≡ k + s
    within : s < r
    done2 : List ℕ
    waiting2 : List ℕ
    room2 : ℕ
    comes : (rule : WordRule) → after_from rule K g s done waiting room ≡ state done2 waiting2 room2
    differs : alike (one_stage every_run K g done2 waiting2 room2) (one_stage needed_runs K g done2 waiting2 room2) ≡ false

  parts_from_lem : (r k : ℕ) (done waiting : List ℕ) (room j : ℕ) → parts_from K g r k done waiting room ≡ found j → From r k done waiting room j
  unfolding parts_from after_from
  parts_from_lem zero k done waiting room j e = never (sym e)
  parts_from_lem (suc r) k done [] room j e = never (sym e)
  parts_from_lem (suc r) k done (w ∷ ws) room j e = split (alike (one_stage every_run K g done (w ∷ ws) room) (one_stage needed_runs K g done (w ∷ ws) room))
      (λ a.
      let q = alike_same K g done (w ∷ ws) room a in
      stage_cases (one_stage needed_runs K g done (w ∷ ws) room)
      (λ n d. never (sym (rw (a, d, parts_from) at e)))
      (λ p us rs vs d.
      let t : From r (suc k) (rs ++ done) vs (room - length us) j = parts_from_lem r (suc k) (rs ++ done) vs (room - length us) j (rw (a, d, parts_from) at e) in
      let i : (rule : WordRule) → one_stage rule K g done (w ∷ ws) room ≡ stage p us rs vs = either (λ rule. one_stage rule K g done (w ∷ ws) room ≡ stage p us rs vs) (q ∙ d) d in
      record {
        s = suc t.s;
        number = omega (arith, t.number);
        within = omega (arith, t.within);
        done2 = t.done2;
        waiting2 = t.waiting2;
        room2 = t.room2;
        comes = λ rule. rw (i rule, after_from) (t.comes rule);
        differs = t.differs;
      }))
      (λ a.
      let f : found k ≡ found j = rw (a, parts_from) at e in
      let i : k ≡ j = cc in
      record { s = 0; number = omega arith; within = omega arith; done2 = done; waiting2 = w ∷ ws; room2 = room; comes = λ rule. refl; differs = a })

  module _ (given : List ℕ) (groups : List Group) (rooms : ℕ) where
    -- where the rules never part they build the same, refused or whole
    pub never_parts : parts K g given groups rooms ≡ nothing → build every_run K g given groups rooms ≡ build needed_runs K g given groups rooms
    unfolding parts build
    never_parts e = split (reservable K groups)
        (λ c. rw (c, build) (never_from rooms 1 given (waiting_of groups []) (word_limit K - reserved groups) (rw (c, parts) at e))) (λ c. rw (c, build))

    module _ (k : ℕ) (parted : parts K g given groups rooms ≡ found k) where
      begun : (reservable K groups ≡ true) × (parts_from K g rooms 1 given (waiting_of groups []) (word_limit K - reserved groups) ≡ found k)
      unfolding parts
      begun = split (reservable K groups) (λ c. (c, rw (c, parts) at parted)) (λ c. never (sym (rw (c, parts) at parted)))

      -- before the stage where they part everything is the same: cells, words, stage order, endpoint order
      pub before_parting : (s : ℕ) → s < k → SameSoFar K g given groups s
      unfolding first_stages after
      before_parting s h =
          let t = same_from s rooms 1 given (waiting_of groups []) (word_limit K - reserved groups) k begun.1 (omega arith) in
          record { stages = rw (begun.0, first_stages) t.0; state = rw (begun.0, after) t.1 }

      -- the stage is reached under both rules, from one state, and they finish it differently
      pub parts_there : Parting K g given groups rooms k
      unfolding after
      parts_there =
          let t : From rooms 1 given (waiting_of groups []) (word_limit K - reserved groups) k = parts_from_lem rooms 1 given (waiting_of groups []) (word_limit K - reserved groups) k begun.1 in
          let n : k - 1 ≡ t.s = omega (arith, t.number) in
          record {
            first = omega (arith, t.number);
            within = omega (arith, t.number, t.within);
            done = t.done2;
            waiting = t.waiting2;
            room = t.room2;
            comes = λ rule. rw (begun.0, after, n) (t.comes rule);
            differs = t.differs;
          }

      module _ (ss ts : List Stage) (before : build every_run K g given groups rooms ≡ whole ss) (now : build needed_runs K g given groups rooms ≡ whole ts) where
        -- two whole plans have the same stages before that one
        pub plans_same : take (k - 1) ss ≡ take (k - 1) ts
        plans_same = sym (first_stages_lem every_run K g given groups rooms (k - 1) ss before) ∙ (before_parting (k - 1) (omega (arith, parts_there.first))).stages ∙ first_stages_lem needed_runs K g given groups rooms (k - 1) ts now

        -- and the same cells up to its end
        pub cells_same : k ≤ length ss → k ≤ length ts → cells_of (take k ss) ≡ cells_of (take k ts)
        unfolding first_stages
        cells_same h i = counted (k - 1) (omega (arith, parts_there.first))
          where
            counted : (s : ℕ) → k ≡ suc s → cells_of (take k ss) ≡ cells_of (take k ts)
            counted s n =
                let ws : List ℕ = waiting_of groups [] in
                let room : ℕ = word_limit K - reserved groups in
                let a : first_from every_run K g (suc s) given ws room ≡ take (suc s) ss = rw (begun.0, first_stages) at (first_stages_lem every_run K g given groups rooms (suc s) ss before) in
                let b : first_from needed_runs K g (suc s) given ws room ≡ take (suc s) ts = rw (begun.0, first_stages) at (first_stages_lem needed_runs K g given groups rooms (suc s) ts now) in
                let l : length (take (suc s) ss) ≡ suc s = simp length-take (omega arith) in
                let m : length (take (suc s) ts) ≡ suc s = simp length-take (omega arith) in
                rw (n, ← a, ← b) (cells_from s rooms 1 given ws room k begun.1 (omega arith) (ap length a ∙ l) (ap length b ∙ m))
