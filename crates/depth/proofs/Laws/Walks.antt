-- From a cleared area to D, walk after walk. Assumes nothing.
use Prim.Native.Nat.{ℕ, ◌*◌}
use mathlib.Core.Path.{◌≡◌, refl, sym, ap, ◌∙◌}
use mathlib.Core.List.{List, []}
use native.Mathlib.Omega.{arith}
use lib.ListN.{length, replicate, get_or-replicate, length-replicate}
use Rattle.rules.specs.Graph.{graph_of, pin_count}
use Rattle.rules.specs.Records.{Group, groups_of, waiting_of}
use Rattle.rules.specs.Checks.{work_size}
use Rattle.rules.specs.Traversal.{needed_runs, Setting, setting}
use Rattle.rules.specs.Depth.{remaining, deepest}
use Rattle.columns.proofs.Lists.Clears.{clear_frame}
use Rattle.stage_walk.specs.Stands.{Context}
use Rattle.stage_walk.specs.Machine.{TraverseAt, Traversed}
use Rattle.stage_walk.proofs.traversal.Loops.{begun_reads, begun_frame}
use Rattle.stage_levels.specs.Levels.{LevelsAt, Levels}
use Rattle.placer_start.specs.Given.{Given}
use Rattle.placer_start.specs.Waiting.{WaitAllAt, AllWait}
use Rattle.placer_start.specs.Opening.{Opens, First}
use Rattle.placer_start.proofs.Laws.Chains.{touched_none}
use Rattle.placer_start.proofs.Laws.Opening.{opened_room, opened_places, first_stage, begin_opens}
use Rattle.placer_start.proofs.Laws.First.{readable, first_context, first_setting, first_begun}
use Rattle.depth.specs.Walks.{WalkAt, MeasureAt}
use Rattle.depth.proofs.Laws.Deepest.{most_remains}

module _ {m : ℕ} {gates given records w : List ℕ} (A : WalkAt m gates given records w) where
  abbrev gs : List Group
  gs = groups_of records

  O : Opens m given w
  O = begin_opens A.begin

  module _ {w₁ : List ℕ} (G : Given m given w w₁) where
    -- with the given pins marked the endpoints may wait
    pub walk_wait : WaitAllAt m records w₁
    walk_wait = record { area = opened_room O {e = 0} touched_none G; right = A.begin.right; clear = opened_places O {e = 0} touched_none G }

    module _ {n : ℕ} {w₂ : List ℕ} (W : AllWait m gs w₁ w₂ n) where
      F : First m n given gs w₂
      F = first_stage O {e = 0} touched_none G W

      -- with its pins waiting a first stage could start
      pub first : First (pin_count gates) n given gs w₂
      first = rw (← A.pins) F

      -- the context in which the endpoints are traversed: a first stage's
      abbrev pub walked : Context
      walked = first_context A.passed first

      set_is : walked.X ≡ setting needed_runs A.K (graph_of gates) given (waiting_of gs [])
      set_is = first_setting A.passed first

      done_is : walked.X.done ≡ given
      unfolding setting
      done_is = ap (λ (X : Setting). X.done) set_is

      waiting_is : walked.X.waiting ≡ waiting_of gs []
      unfolding setting
      waiting_is = ap (λ (X : Setting). X.waiting) set_is

      -- the traversal may be made
      pub walk_traverse : TraverseAt walked m n gates w₂
      walk_traverse =
          let B = first_begun A.passed first in
          record {
            begun = record {
              base = record { area = F.area; size = B.base.size ∙ sym A.pins; graph = B.base.graph; pair = B.base.pair ∙ ap (λ (i : ℕ). 2 * i) (sym A.pins) };
              done = rw done_is F.done;
              waiting = rw waiting_is F.waiting;
            };
            clear = F.fresh.listed;
          }

      module _ {k : ℕ} {w₃ : List ℕ} (T : Traversed walked m w₂ w₃ k) where
        -- behind it the levels may be set
        pub walk_levels : LevelsAt walked m k gates w₃
        walk_levels = record {
          along = record { reads = begun_reads (begun_frame walk_traverse.begun T.frame refl refl refl); ordered = record { order = T.order } };
          clear = clear_frame F.fresh.levels T.frame refl (omega arith);
        }

        -- and the greatest is D
        pub walk_deepest : {w₄ : List ℕ} {top : ℕ} → Levels walked m w₃ w₄ top → top ≡ deepest (graph_of gates) given gs
        unfolding deepest setting
        walk_deepest L = L.most ∙ most_remains walked ∙ ap (λ (X : Setting). remaining (length X.g) X.g X.done X.waiting) set_is

-- a cleared area may be walked in
pub measure_walk : {gates given records w w₁ : List ℕ} {m : ℕ} → MeasureAt gates given records w → m ≡ pin_count gates → w₁ ≡ replicate (length w) 0 → WalkAt m gates given records w₁
unfolding work_size
measure_walk {w = w} {w₁ = w₁} A pins e =
    let l : length w₁ ≡ length w = ap length e ∙ length-replicate (length w) 0 in
    record {
      K = A.K;
      sized = A.sized;
      passed = A.passed;
      pins = pins;
      begin = rw pins (record {
        area = record { small = A.passed.few; room = omega (arith, A.size) };
        room = omega (arith, A.size);
        zeros = λ j k. rw e (get_or-replicate (length w) j 0 0 (omega (arith, A.size)));
        right = readable A.passed;
        given_named = A.passed.given_named;
      });
    }
