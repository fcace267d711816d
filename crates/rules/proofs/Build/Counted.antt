-- A build is refused exactly where what a person counts is over. Assumes nothing.
use Prim.Native.Nat.{ℕ, suc, ◌-◌, ◌≤◌}
use mathlib.Core.Path.{◌≡◌, refl}
use mathlib.Core.Logic.{inl, inr, ◌≢◌}
use mathlib.Core.List.{List, []}
use native.Mathlib.Omega.{arith}
use lib.ListN.{length}
use Rattle.rules.specs.Cells.{empty, word_limit}
use Rattle.rules.specs.Graph.{Node}
use Rattle.rules.specs.Records.{Group, waiting_of}
use Rattle.rules.specs.Reservation.{reserved, reservable}
use Rattle.rules.specs.Traversal.{WordRule}
use Rattle.rules.specs.Build.{refusal, build, words_of}
use Rattle.rules.specs.States.{state, after, first_stages}
use Rattle.rules.specs.Capacity.{Refused, six, over, nine}
use Rattle.rules.specs.Inside.Walks.{Graph, Ready}
use Rattle.rules.proofs.Lists.Members.{split}
use Rattle.rules.proofs.Stage.Depth.{shallow}
use Rattle.rules.proofs.Stage.Crowd.{refused_over, over_refused}
use Rattle.rules.proofs.Stage.Refusals.{Stops, no_room, no_stage, build_refused, six_build, refused_build, so_far}

module _ (rule : WordRule) (K : ℕ) (g : List Node) (r : ℕ → ℕ) (G : Graph g r) (tall : 6 ≤ K) (small : length g ≤ empty) (given : List ℕ) (groups : List Group) (R : Ready g r (waiting_of groups [])) (rooms : ℕ) where
  ready_after : (s : ℕ) {done waiting : List ℕ} {room : ℕ} → after rule K g given groups s ≡ state done waiting room → Ready g r waiting
  unfolding after
  ready_after s e = split (reservable K groups)
      (λ c. (shallow rule K g r G tall small s given (waiting_of groups []) R (word_limit K - reserved groups) (rw (c, after) at e)).ready)
      (λ c. absurd (let d = rw (c, after) at e in let z : ◌≡◌ {A = ℕ} 0 1 = cc in omega arith))

  abbrev limit : ℕ
  limit = word_limit K - reserved groups

  abbrev spent : ℕ → ℕ
  spent s = length (words_of (first_stages rule K g given groups s))

  counted : {n s room : ℕ} {done waiting : List ℕ} → after rule K g given groups s ≡ state done waiting room → waiting ≢ [] → Stops rule K g rooms s done waiting room n → Refused rule K g given groups rooms n (suc s)
  counted {room = room} e w (no_room z) = nine (record { room = room; completed = e; wait = w }) z
  counted {n = n} {s = s} {room = room} {done = done} {waiting = waiting} e w (no_stage h d) = over (record { room = room; completed = e; wait = w }) h
      (refused_over rule K g r G tall small done waiting (ready_after s e) limit (spent s) room (so_far rule K g given groups s s done waiting room (omega arith) e).left n d)

  -- a refused build has run out of capacity
  pub refused_where : (n k : ℕ) → build rule K g given groups rooms ≡ refusal n k → Refused rule K g given groups rooms n k
  refused_where n k e = elim (build_refused rule K g given groups rooms n k e) [
    | inl a ↦ rw (a.0, a.1) (six a.2)
    | inr t ↦ rw t.stage (counted t.completed t.wait t.stops)
  ]

  -- where it runs out of capacity it is refused
  pub refusal_given : {n k : ℕ} → Refused rule K g given groups rooms n k → build rule K g given groups rooms ≡ refusal n k
  refusal_given (six h) = six_build rule K g given groups rooms h
  refusal_given (over {n = n} {s = s} {done = done} {waiting = waiting} w h c) = refused_build rule K g given groups rooms n (suc s)
      (record {
        s = s;
        done = done;
        waiting = waiting;
        room = w.room;
        completed = w.completed;
        wait = w.wait;
        stage = refl;
        stops = no_stage h
            (over_refused rule K g r G tall small done waiting (ready_after s w.completed) limit (spent s) w.room (so_far rule K g given groups s s done waiting w.room (omega arith) w.completed).left c);
      })
  refusal_given (nine {s = s} {done = done} {waiting = waiting} w z) = refused_build rule K g given groups rooms 9 (suc s)
      (record { s = s; done = done; waiting = waiting; room = w.room; completed = w.completed; wait = w.wait; stage = refl; stops = no_room z })
