-- The word rules compared: the new one never costs a job. Assumes nothing.
use Prim.Native.Nat.{ℕ, zero, suc, ◌≤◌}
use mathlib.Core.Path.{◌≡◌, refl}
use mathlib.Core.List.{List}
use native.Mathlib.Omega.{arith}
use lib.ListN.{length}
use Rattle.rules.specs.Cells.{rooms}
use Rattle.rules.specs.Graph.{graph_of}
use Rattle.rules.specs.Records.{groups_of}
use Rattle.rules.specs.Traversal.{every_run, needed_runs}
use Rattle.rules.specs.Checks.{refusal_of}
use Rattle.rules.specs.Build.{Stage, Answer, refusal, whole, build, reply, refuse, refuse_checked, Areas, sizes_right, answer_of, placer}
use Rattle.rules.proofs.Stage.Refusals.{refused_some}
use Rattle.rules.proofs.Demand as demand
use Rattle.theorems.specs.Inputs.{Input, graph, groups, built, under}
use Rattle.theorems.proofs.Passing.{tall, small, valid, named}

-- Every single build that the old rule accepts is accepted by the new one, with no more stages, for every height, given the same rooms.
pub never_costs : (I : Input) (rooms : ℕ) (ss : List Stage) → built (under every_run I) rooms ≡ whole ss → (ts : List Stage) × (built (under needed_runs I) rooms ≡ whole ts) × (length ts ≤ length ss)
never_costs I rooms ss e = demand.never_costs I.K (graph I) (valid I) (tall I) (small I) I.given (groups I) (named I) rooms ss e

-- The same for a whole call of the rules: 0 stays 0, and the stages are no more.
module _ (K : ℕ) (gates given records : List ℕ) (a : Areas) where
  abbrev Better : Type 0
  Better = ((placer needed_runs K gates given records a).reply.number ≡ 0) × ((placer needed_runs K gates given records a).reply.stages ≤ (placer every_run K gates given records a).reply.stages)

  -- a call that the old rule answers with 0 the new one answers with 0, with no more stages
  pub call_never_costs : (placer every_run K gates given records a).reply.number ≡ 0 → Better
  unfolding placer answer_of reply refuse refuse_checked
  call_never_costs z = checked (refusal_of K (sizes_right K gates records a) gates given records) refl
    where
      checked : (n : ℕ) → refusal_of K (sizes_right K gates records a) gates given records ≡ n → Better
      checked (suc n) e = absurd (let d = rw (e, placer) at z in omega arith)
      checked zero e = answered (build every_run K (graph_of gates) given (groups_of records) (rooms K (length a.plan))) refl
        where
          answered : (b : Answer) → build every_run K (graph_of gates) given (groups_of records) (rooms K (length a.plan)) ≡ b → Better
          answered (refusal n k) d = absurd (refused_some every_run K (graph_of gates) given (groups_of records) (rooms K (length a.plan)) n k d (rw (e, d, placer) at z))
          answered (whole ss) d =
              let I : Input = record { rule = every_run; K = K; sized = sizes_right K gates records a; gates = gates; given = given; records = records; passes = e } in
              let t = never_costs I (rooms K (length a.plan)) ss d in
              rw (e, d, t.1, placer) (refl, t.2)
