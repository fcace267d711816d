-- Of an input that passes the checks: what the lines say of the build's answer, and what the call leaves. Assumes nothing.
use Prim.Native.Nat.{ℕ, zero, suc, ◌+◌, ◌-◌, ◌*◌, ◌≤◌, ◌<◌}
use mathlib.Core.Path.{◌≡◌, refl, sym, ap, ◌∙◌}
use mathlib.Core.Logic.{◌≢◌}
use mathlib.Core.Bool.{Bool, true, false, ◌&&◌}
use mathlib.Core.List.{List, []}
use native.Mathlib.Omega.{arith}
use lib.Dec.{leb}
use lib.ListN.{length}
use borrow.Author.Tests.{leb-true, leb-false}
use Rattle.rules.specs.Lists.{laid_over}
use Rattle.rules.specs.Cells.{empty, rooms, is_height}
use Rattle.rules.specs.Graph.{graph_of}
use Rattle.rules.specs.Records.{groups_of}
use Rattle.rules.specs.Checks.{work_size, refusal_of}
use Rattle.rules.specs.Traversal.{WordRule}
use Rattle.rules.specs.Build.{Areas, reply, coded_stages, stages_of, areas_after, answer_of, sizes_right}
use Rattle.rules.specs.Inside.Walks.{rank}
use Rattle.rules.proofs.Lists.Members.{split, and_true}
use Rattle.rules.proofs.Demand.{graph, ready}
use Rattle.checks.specs.Passed.{Passed}
use Rattle.checks.proofs.Laws.Passed.{passed}
use Rattle.why_form.specs.Why.{Line, numbers_of, why_of, explainer}
use Rattle.why_form.proofs.Lines.{Tells, why_tells, why_few}
use Rattle.why_form.proofs.Told.{given_short}

-- what a call leaves that is not refused with 21: the build's answer and areas, the lines over the front of the list, and what they say of the answer
pub record Whole (rule : WordRule) (K : ℕ) (gates given records list : List ℕ) (a : Areas) : Type 0 where
  pub answer : (explainer rule K gates given records list a).reply ≡ reply (answer_of rule K gates given records (length a.plan))
  pub lines : (explainer rule K gates given records list a).lines ≡ length (why_of rule K gates given records (length a.plan))
  pub list_is : (explainer rule K gates given records list a).list ≡ laid_over (numbers_of (why_of rule K gates given records (length a.plan))) list
  pub areas_are : (explainer rule K gates given records list a).areas ≡ areas_after K (work_size gates records) (coded_stages K (graph_of gates) (stages_of (answer_of rule K gates given records (length a.plan)))) a
  pub tells : Tells (answer_of rule K gates given records (length a.plan)) (why_of rule K gates given records (length a.plan))

module _ (rule : WordRule) (K : ℕ) (gates given records list : List ℕ) (a : Areas) (fine : refusal_of K (sizes_right K gates records a) gates given records ≡ 0) where
  P : Passed K (sizes_right K gates records a) gates given records
  P = passed K (sizes_right K gates records a) gates given records fine

  tall : 6 ≤ K
  unfolding is_height
  tall = leb-true 6 K (and_true (leb 6 K) (leb K 13) P.height).0

  small : length (graph_of gates) ≤ empty
  unfolding empty
  small = omega (arith, P.few, P.pins)

  abbrev ls : List Line
  ls = why_of rule K gates given records (length a.plan)

  -- refused with 6, 7 or 8: the last line is that refusal's, with a count over its limit; all other lines are pins taken back
  pub lines_tell : Tells (answer_of rule K gates given records (length a.plan)) ls
  unfolding answer_of why_of
  lines_tell = why_tells rule K (graph_of gates) (rank (graph_of gates)) (graph (graph_of gates) P.valid) tall small given (groups_of records)
      (ready rule K (graph_of gates) P.valid tall small given [] (groups_of records) (λ q i. omega (arith, P.named q i, P.pins))) (rooms K (length a.plan))

  -- a list that is long enough
  pub told_whole : 6 * length ls ≤ length list → Whole rule K gates given records list a
  unfolding explainer
  told_whole h = split (leb (6 * length ls) (length list))
      (λ t. record { answer = rw (fine, t, explainer) refl; lines = rw (fine, t, explainer) refl; list_is = rw (fine, t, explainer) refl; areas_are = rw (fine, t, explainer) refl; tells = lines_tell })
      (λ t. absurd (omega (arith, leb-false (6 * length ls) (length list) t)))

  -- six numbers for each of K - 1 lines a room, and for one more, are always enough
  pub never_short : 6 * (rooms K (length a.plan) * (K - 1) + 1) ≤ length list → (explainer rule K gates given records list a).reply.number ≢ 21
  unfolding why_of
  never_short h e = omega (arith, given_short rule K gates given records list a fine e, why_few rule K (graph_of gates) given (groups_of records) (rooms K (length a.plan)))
