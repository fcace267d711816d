-- For the placer: from passed checks and a cleared area to `begin`, and from there to the first stage's context. Assumes nothing.
use mathlib.Core.Path.{◌≡◌, refl, ap, ◌∙◌}
use mathlib.Core.Bool.{Bool}
use mathlib.Core.List.{List, []}
use Prim.Native.Nat.{ℕ, ◌≤◌, ◌<◌}
use native.Mathlib.Omega.{arith}
use borrow.Author.Tests.{leb-true}
use lib.Dec.{leb}
use lib.ListN.{length, replicate}
use Rattle.rules.specs.Lists.{laid_over}
use Rattle.rules.specs.Cells.{is_height}
use Rattle.rules.specs.Graph.{graph_of, pin_count}
use Rattle.rules.specs.Records.{Group, waiting_of}
use Rattle.rules.specs.Checks.{work_size}
use Rattle.rules.specs.Traversal.{needed_runs, setting}
use Rattle.rules.proofs.Lists.Members.{and_true}
use Rattle.rules.specs.Inside.Walks.{rank}
use Rattle.rules.proofs.Demand.{graph, graph_few}
use Rattle.rules.specs.Inside.Walks as spec-walks
use Rattle.checks.specs.Passed.{Passed}
use Rattle.columns.proofs.Area.Lent.{length_laid, at_laid}
use Rattle.columns.proofs.Lists.Entries.{holds_below}
use Rattle.stage_walk.specs.Stands.{Context, Begun}
use Rattle.stage_walk.proofs.Contexts.{context}
use Rattle.placer_start.specs.Waiting.{Readable}
use Rattle.placer_start.specs.Opening.{BeginAt, First}

-- ---- before `begin`

module _ {K : ℕ} {sized : Bool} {gates given records : List ℕ} (P : Passed K sized gates given records) where
  -- records that passed the checks can be read, with pins of the graph
  pub readable : Readable (pin_count gates) records
  readable = record { short = P.short; readable = P.readable; named = P.named }

  -- the area was v, and its first numbers were cleared
  pub begin_at : (v : List ℕ) {w : List ℕ} → work_size gates records ≤ length v → w ≡ laid_over (replicate (work_size gates records) 0) v → BeginAt (pin_count gates) given records w
  unfolding work_size
  begin_at v {w} h e =
      let l : length w ≡ length v = ap length e ∙ length_laid (work_size gates records) 0 v h in
      record {
        area = record { small = P.few; room = omega arith };
        room = omega arith;
        zeros = λ j k. rw e (at_laid (work_size gates records) 0 v j (omega arith));
        right = readable;
        given_named = P.given_named;
      }

-- ---- after it

module _ {K : ℕ} {sized : Bool} {gates given records : List ℕ} (P : Passed K sized gates given records) {n : ℕ} {gs : List Group} {w : List ℕ} (F : First (pin_count gates) n given gs w) where
  -- what the first stage starts from is a state between stages
  pub first_ready : spec-walks.Ready (graph_of gates) (rank (graph_of gates)) (waiting_of gs [])
  first_ready = record { once = F.waiting.once; bounded = λ x i. let h : x < length (graph_of gates) = rw P.pins (holds_below F.waiting.held x i) in (h, graph_few (graph_of gates) P.valid x h) }

  -- the height is at least 6
  pub first_low : 6 ≤ K
  unfolding is_height
  first_low = leb-true 6 K (and_true (leb 6 K) (leb K 13) P.height).0

  -- the height is at most 13
  pub first_high : K ≤ 13
  unfolding is_height
  first_high = leb-true K 13 (and_true (leb 6 K) (leb K 13) P.height).1

  -- the context of the first stage
  unfoldable pub first_context : Context
  first_context = context needed_runs K (graph_of gates) (rank (graph_of gates)) (graph (graph_of gates) P.valid) first_low first_high (rw P.pins P.few) given (waiting_of gs []) first_ready

  -- the first stage's setting is that of the given pins and the waiting list
  pub first_setting : first_context.X ≡ setting needed_runs K (graph_of gates) given (waiting_of gs [])
  unfolding first_context context
  first_setting = refl

  -- the columns stand for it
  pub first_begun : Begun first_context (pin_count gates) n gates w
  unfolding first_context context setting
  first_begun = record { base = record { area = F.area; size = P.pins; graph = refl; pair = P.even }; done = F.done; waiting = F.waiting }
