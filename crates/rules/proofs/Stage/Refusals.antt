-- Where a build stops: the stages completed until then, and the test that its next stage fails. Assumes nothing.
use Prim.Native.Nat.{ℕ, zero, suc, ◌+◌, ◌-◌, ◌*◌, ◌≤◌, ◌<◌}
use mathlib.Core.Path.{◌≡◌, refl, ◌∙◌, ap}
use mathlib.Core.Logic.{◌⊎◌, inl, inr, ◌≢◌}
use mathlib.Core.Bool.{false}
use mathlib.Core.List.{List, [], ◌∷◌, ◌++◌}
use native.Mathlib.Omega.{arith}
use lib.Dec.{ltb, leb}
use lib.ListN.{length, take, length-append}
use Rattle.rules.specs.Cells.{word_limit}
use Rattle.rules.specs.Graph.{Node}
use Rattle.rules.specs.Records.{Group, waiting_of}
use Rattle.rules.specs.Reservation.{memories, duplicates, reserved, reservable}
use Rattle.rules.specs.Traversal.{WordRule, setting}
use Rattle.rules.specs.Placing.{filled_plan}
use Rattle.rules.specs.Ending.{refused, one_stage}
use Rattle.rules.specs.Build.{Stage, refusal, whole, more, before, stages, build, words_of}
use Rattle.rules.specs.States.{state, after_from, after, first_from, first_stages, SoFar}
use Rattle.rules.specs.Capacity.{ReservationOver, no_word_left, over_limit}
use Rattle.rules.proofs.Lists.Members.{split, true_false}
use borrow.Author.Tests.{leb-true, leb-false, ltb-true, ltb-false}
use Rattle.rules.proofs.Stage.Over.{seven_or_eight}
use Rattle.rules.proofs.Stage.Depth.{stage_cases, more_refused}
use Rattle.rules.proofs.Build.Lengths.{words_fit}
use Rattle.rules.proofs.Build.Words.{more_is}

-- ---- the stages completed so far

-- s stages completed from a state on: they stand in front of what the rules make of the state that they left, and their words are spent
pub record Completed (rule : WordRule) (K : ℕ) (g : List Node) (rooms k s : ℕ) (done waiting : List ℕ) (room : ℕ) (done2 waiting2 : List ℕ) (room2 : ℕ) : Type 0 where
  pub count : length (first_from rule K g s done waiting room) ≡ s
  pub same : stages rule K g rooms k done waiting room ≡ before (first_from rule K g s done waiting room) (stages rule K g (rooms - s) (k + s) done2 waiting2 room2)
  pub left : length (words_of (first_from rule K g s done waiting room)) + room2 ≡ room

-- what stops a build after s stages: no room is left, or the next stage is refused
pub data Stops (rule : WordRule) (K : ℕ) (g : List Node) (rooms s : ℕ) (done waiting : List ℕ) (room : ℕ) : ℕ → Type 0 where
  no_room : s ≡ rooms → Stops rule K g rooms s done waiting room 9
  no_stage : {n : ℕ} → s < rooms → one_stage rule K g done waiting room ≡ refused n → Stops rule K g rooms s done waiting room n

-- a refusal stays the same with stages in front
pub before_refusal : (ss : List Stage) (n k : ℕ) → before ss (refusal n k) ≡ refusal n k
unfolding before more
before_refusal [] n k = refl
before_refusal (s ∷ ss) n k = rw (before_refusal ss n k)

module _ (rule : WordRule) (K : ℕ) (g : List Node) where
  -- so every state that completed stages leave
  pub completes : (s rooms k : ℕ) (done waiting : List ℕ) (room : ℕ) {done2 waiting2 : List ℕ} {room2 : ℕ} → s ≤ rooms → after_from rule K g s done waiting room ≡ state done2 waiting2 room2 →
      Completed rule K g rooms k s done waiting room done2 waiting2 room2
  unfolding after_from first_from stages before words_of one_stage
  completes zero rooms k done waiting room {done2} {waiting2} {room2} h e =
      let d : done ≡ done2 = cc in
      let w : waiting ≡ waiting2 = cc in
      let r : room ≡ room2 = cc in
      let z : k + 0 ≡ k = omega arith in
      let y : rooms - 0 ≡ rooms = omega arith in
      record { count = refl; same = rw (← d, ← w, ← r, z, y) refl; left = omega arith }
  completes (suc s) zero k done waiting room h e = absurd (omega arith)
  completes (suc s) (suc rooms) k done [] room h e = absurd (let z : ◌≡◌ {A = ℕ} 0 1 = cc in omega arith)
  completes (suc s) (suc rooms) k done (w ∷ ws) room h e = stage_cases (one_stage rule K g done (w ∷ ws) room)
      (λ n d. absurd (let c = rw (d, after_from) at e in let z : ◌≡◌ {A = ℕ} 0 1 = cc in omega arith))
      (λ plan words realised waiting3 d.
      let t = completes s rooms (suc k) (realised ++ done) waiting3 (room - length words) (omega arith) (rw (d, after_from) at e) in
      let x : suc k + s ≡ k + suc s = omega arith in
      let y : rooms - s ≡ suc rooms - suc s = omega arith in
      let f : length words ≤ room = words_fit (setting rule K g done (w ∷ ws)) room (filled_plan (setting rule K g done (w ∷ ws))) plan words realised waiting3 d in
      record {
        count = rw (d, first_from) (ap suc t.count);
        same = rw (d, stages, first_from) (ap (more (record { plan = plan; words = words })) (t.same ∙ rw (x, y) refl));
        left = rw (d, first_from, length-append words (words_of (first_from rule K g s (realised ++ done) waiting3 (room - length words)))) (omega (arith, t.left));
      })

  -- of a whole plan they are the first s stages, or all where it has fewer
  pub first_take : (s rooms k : ℕ) (done waiting : List ℕ) (room : ℕ) (ss : List Stage) → stages rule K g rooms k done waiting room ≡ whole ss → first_from rule K g s done waiting room ≡ take s ss
  unfolding first_from stages
  first_take zero rooms k done waiting room ss e = refl
  first_take (suc s) zero k done [] room ss e = let z : ss ≡ [] = cc in rw z refl
  first_take (suc s) zero k done (w ∷ ws) room ss e = absurd (let z : ◌≡◌ {A = ℕ} 0 1 = cc in omega arith)
  first_take (suc s) (suc rooms) k done [] room ss e = let z : ss ≡ [] = cc in rw z refl
  first_take (suc s) (suc rooms) k done (w ∷ ws) room ss e = stage_cases (one_stage rule K g done (w ∷ ws) room)
      (λ n d. absurd (let c : refusal n k ≡ whole ss = rw (d, stages) at e in let z : ◌≡◌ {A = ℕ} 0 1 = cc in omega arith))
      (λ plan words realised waiting3 d.
      let m = more_is (record { plan = plan; words = words }) (stages rule K g rooms (suc k) (realised ++ done) waiting3 (room - length words)) ss (rw (d, stages) at e) in
      rw (d, m.2, first_from) (ap (λ (ts : List Stage). record { plan = plan; words = words } ∷ ts) (first_take s rooms (suc k) (realised ++ done) waiting3 (room - length words) m.0 m.1)))

  -- ---- what stops them

  -- what stops the stages from k on: a state that they reach while pins wait, and why no stage follows
  pub record StopsFrom (rooms k : ℕ) (done waiting : List ℕ) (room n j : ℕ) : Type 0 where
    pub s : ℕ
    pub done2 : List ℕ
    pub waiting2 : List ℕ
    pub room2 : ℕ
    pub completed : after_from rule K g s done waiting room ≡ state done2 waiting2 room2
    pub wait : waiting2 ≢ []
    pub stage : j ≡ k + s
    pub stops : Stops rule K g rooms s done2 waiting2 room2 n

  some : {w : ℕ} {ws : List ℕ} → w ∷ ws ≢ []
  some e = let z : ◌≡◌ {A = ℕ} 0 1 = cc in omega arith

  one_later : {rooms s n room : ℕ} {done waiting : List ℕ} → Stops rule K g rooms s done waiting room n → Stops rule K g (suc rooms) (suc s) done waiting room n
  one_later (no_room e) = no_room (ap suc e)
  one_later (no_stage h c) = no_stage (omega arith) c

  within : {rooms s n room : ℕ} {done waiting : List ℕ} → Stops rule K g rooms s done waiting room n → s ≤ rooms
  within (no_room e) = omega arith
  within (no_stage h c) = omega arith

  from_zero : {rooms s n room : ℕ} {done waiting : List ℕ} → Stops rule K g rooms s done waiting room n → Stops rule K g (rooms - s) 0 done waiting room n
  from_zero (no_room e) = no_room (omega arith)
  from_zero (no_stage h c) = no_stage (omega arith) c

  -- a refusal comes from such a stop
  pub stops_where : (rooms k : ℕ) (done waiting : List ℕ) (room n j : ℕ) → stages rule K g rooms k done waiting room ≡ refusal n j → StopsFrom rooms k done waiting room n j
  unfolding stages after_from
  stops_where zero k done [] room n j e = absurd (let z : ◌≡◌ {A = ℕ} 0 1 = cc in omega arith)
  stops_where zero k done (w ∷ ws) room n j e =
      let a : 9 ≡ n = cc in
      let b : k ≡ j = cc in
      rw (← a) (record { s = 0; done2 = done; waiting2 = w ∷ ws; room2 = room; completed = refl; wait = some; stage = omega arith; stops = no_room refl })
  stops_where (suc rooms) k done [] room n j e = absurd (let z : ◌≡◌ {A = ℕ} 0 1 = cc in omega arith)
  stops_where (suc rooms) k done (w ∷ ws) room n j e = stage_cases (one_stage rule K g done (w ∷ ws) room)
      (λ m d.
      let c : refusal m k ≡ refusal n j = rw (d, stages) at e in
      let a : m ≡ n = cc in
      let b : k ≡ j = cc in
      rw (← a) (record {
        s = 0;
        done2 = done;
        waiting2 = w ∷ ws;
        room2 = room;
        completed = refl;
        wait = some;
        stage = omega arith;
        stops = no_stage (omega arith) d;
      }))
      (λ plan words realised waiting3 d.
      let t = stops_where rooms (suc k) (realised ++ done) waiting3 (room - length words) n j (more_refused _ _ n j (rw (d, stages) at e)) in
      record { s = suc t.s; done2 = t.done2; waiting2 = t.waiting2; room2 = t.room2; completed = rw (d, after_from) t.completed; wait = t.wait; stage = omega (arith, t.stage); stops = one_later t.stops })

  -- and what stops them refuses them
  stop : (rooms k : ℕ) (done waiting : List ℕ) (room n : ℕ) → waiting ≢ [] → Stops rule K g rooms 0 done waiting room n → stages rule K g rooms k done waiting room ≡ refusal n k
  unfolding stages
  stop rooms k done [] room n h c = absurd (h refl)
  stop zero k done (w ∷ ws) room n h (no_room e) = refl
  stop zero k done (w ∷ ws) room n h (no_stage l c) = absurd (omega arith)
  stop (suc rooms) k done (w ∷ ws) room n h (no_room e) = absurd (omega arith)
  stop (suc rooms) k done (w ∷ ws) room n h (no_stage l c) = rw (c, stages)

  -- where there is such a stop the stages are refused
  pub stops_there : (rooms k : ℕ) (done waiting : List ℕ) (room n j : ℕ) → StopsFrom rooms k done waiting room n j → stages rule K g rooms k done waiting room ≡ refusal n j
  stops_there rooms k done waiting room n j t =
      let f = completes t.s rooms k done waiting room (within t.stops) t.completed in
      f.same ∙ rw (stop (rooms - t.s) (k + t.s) t.done2 t.waiting2 t.room2 n t.wait (from_zero t.stops), ← t.stage) (before_refusal (first_from rule K g t.s done waiting room) n j)

-- ---- the build

-- what is not reservable is over
pub reservation_over : (K : ℕ) (groups : List Group) → reservable K groups ≡ false → ReservationOver K groups
unfolding reservable
reservation_over K groups e = split (ltb (reserved groups) (word_limit K))
    (λ a. split (leb (4 * memories groups + duplicates groups) (word_limit K)) (λ b. true_false (rw (a, b, reservable)) e) (λ b. over_limit (leb-false (4 * memories groups + duplicates groups) (word_limit K) b)))
    (λ a. no_word_left (ltb-false (reserved groups) (word_limit K) a))

-- and what is over is not reservable
pub over_reservation : (K : ℕ) (groups : List Group) → ReservationOver K groups → reservable K groups ≡ false
unfolding reservable
over_reservation K groups (no_word_left h) = split (ltb (reserved groups) (word_limit K)) (λ a. absurd (omega (arith, ltb-true (reserved groups) (word_limit K) a))) (λ a. rw (a, reservable))
over_reservation K groups (over_limit h) = split (leb (4 * memories groups + duplicates groups) (word_limit K))
    (λ a. absurd (omega (arith, leb-true (4 * memories groups + duplicates groups) (word_limit K) a)))
    (λ a. split (ltb (reserved groups) (word_limit K)) (λ b. rw (a, b, reservable)) (λ b. rw (a, b, reservable)))

stops_some : {rule : WordRule} {K rooms s room n : ℕ} {g : List Node} {done waiting : List ℕ} → Stops rule K g rooms s done waiting room n → n ≢ 0
unfolding one_stage
stops_some (no_room h) z = omega arith
stops_some {rule} {K} {room = room} {n = n} {g = g} {done = done} {waiting = waiting} (no_stage h c) z =
    elim (seven_or_eight (setting rule K g done waiting) room (filled_plan (setting rule K g done waiting)) n c) [ inl d ↦ omega arith | inr d ↦ omega arith ]

-- a build stops in stage k with number n
pub record Stopped (rule : WordRule) (K : ℕ) (g : List Node) (given : List ℕ) (groups : List Group) (rooms n k : ℕ) : Type 0 where
  pub s : ℕ
  pub done : List ℕ
  pub waiting : List ℕ
  pub room : ℕ
  pub completed : after rule K g given groups s ≡ state done waiting room
  pub wait : waiting ≢ []
  pub stage : k ≡ suc s
  pub stops : Stops rule K g rooms s done waiting room n

module _ (rule : WordRule) (K : ℕ) (g : List Node) (given : List ℕ) (groups : List Group) (rooms : ℕ) where
  -- a refused build: the reservation is over, or it stops
  pub build_refused : (n k : ℕ) → build rule K g given groups rooms ≡ refusal n k → ((n ≡ 6) × (k ≡ 0) × ReservationOver K groups) ⊎ Stopped rule K g given groups rooms n k
  unfolding build after
  build_refused n k e = split (reservable K groups)
      (λ c.
      let t = stops_where rule K g rooms 1 given (waiting_of groups []) (word_limit K - reserved groups) n k (rw (c, build) at e) in
      inr (record { s = t.s; done = t.done2; waiting = t.waiting2; room = t.room2; completed = rw (c, after) t.completed; wait = t.wait; stage = omega (arith, t.stage); stops = t.stops }))
      (λ c. let d : refusal 6 0 ≡ refusal n k = rw (c, build) at e in inl (cc, cc, reservation_over K groups c))

  -- no refusal has number 0
  pub refused_some : (n k : ℕ) → build rule K g given groups rooms ≡ refusal n k → n ≢ 0
  refused_some n k e = elim (build_refused n k e) [ inl a ↦ λ z. omega (arith, a.0) | inr a ↦ stops_some a.stops ]

  -- where the reservation is over the build is refused with 6
  pub six_build : ReservationOver K groups → build rule K g given groups rooms ≡ refusal 6 0
  unfolding build
  six_build h = rw (over_reservation K groups h, build)

  -- where a stage stops the build, it is refused with that stage and number
  pub refused_build : (n k : ℕ) → Stopped rule K g given groups rooms n k → build rule K g given groups rooms ≡ refusal n k
  unfolding build after
  refused_build n k t = split (reservable K groups)
      (λ c. rw (c, build) (stops_there rule K g rooms 1 given (waiting_of groups []) (word_limit K - reserved groups) n k
      (record { s = t.s; done2 = t.done; waiting2 = t.waiting; room2 = t.room; completed = rw (c, after) at t.completed; wait = t.wait; stage = omega (arith, t.stage); stops = t.stops })))
      (λ c. absurd (let d = rw (c, after) at t.completed in let z : ◌≡◌ {A = ℕ} 0 1 = cc in omega arith))

  -- the completed stages are the build's first
  pub so_far : (s : ℕ) (done waiting : List ℕ) (room : ℕ) → s ≤ rooms → after rule K g given groups s ≡ state done waiting room → SoFar rule K g given groups rooms s done waiting room
  unfolding build after first_stages
  so_far s done waiting room h e = split (reservable K groups)
      (λ c.
      let f = completes rule K g s rooms 1 given (waiting_of groups []) (word_limit K - reserved groups) h (rw (c, after) at e) in
      let k : suc s ≡ 1 + s = omega arith in
      record { count = rw (c, first_stages) f.count; same = rw (c, k, build, first_stages) f.same; left = rw (c, first_stages) f.left })
      (λ c. absurd (let d = rw (c, after) at e in let z : ◌≡◌ {A = ℕ} 0 1 = cc in omega arith))

  -- and of a whole plan the first
  pub first_stages_lem : (s : ℕ) (ss : List Stage) → build rule K g given groups rooms ≡ whole ss → first_stages rule K g given groups s ≡ take s ss
  unfolding build first_stages
  first_stages_lem s ss e = split (reservable K groups)
      (λ c. rw (c, first_stages) (first_take rule K g s rooms 1 given (waiting_of groups []) (word_limit K - reserved groups) ss (rw (c, build) at e)))
      (λ c. absurd (let d : refusal 6 0 ≡ whole ss = rw (c, build) at e in let z : ◌≡◌ {A = ℕ} 0 1 = cc in omega arith))
