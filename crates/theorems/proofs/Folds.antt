-- A fold of the plan that a build left: the call by its contract, and that it is not refused. Assumes nothing.
use Prim.Native.Nat.{ℕ, ◌≤◌}
use mathlib.Core.Path.{◌≡◌, refl, ◌∙◌, ap}
use mathlib.Core.Bool.{true, ◌&&◌}
use mathlib.Core.List.{List}
use lib.Dec.{leb}
use lib.ListN.{length}
use Rattle.std.specs.Prelude.{Result}
use Rattle.rules.specs.Cells.{word_limit, rooms}
use Rattle.rules.specs.Checks.{plan_sized, areas_sized}
use Rattle.rules.specs.Build.{sizes_right}
use Rattle.rules.specs.Coded.{fold_sized, fold_refusal, FoldOutcome, folder}
use Rattle.rules.proofs.Lists.Members.{and_true}
use Rattle.rules.proofs.Needed.Lacks.{true_leb}
use Rattle.checks.proofs.Laws.Passed.{passed}
use Rattle.refusals.specs.declared.Refusal.{Refusal}
use Rattle.refusals.specs.Numbers.{number_said}
use Rattle.fold.specs.Answers.{outcome}
use Rattle.theorems.proofs.Folding.{area_length}
use Rattle.theorems.proofs.Calls.{Call, reply, input, whole}

-- a call of `fold` over the plan that a build left, for any bits on leaves and given pins, by its contract: the result area at entry and exit,
-- and the work area
pub record FoldCall (C : Call) : Type 0 where
  pub bits : List ℕ
  pub entry : List ℕ
  pub work : List ℕ
  pub answer : Result (Unit {0}) Refusal
  pub exit : List ℕ
  pub cleared : List ℕ
  pub ensures : outcome answer exit cleared ≡ folder C.height C.exit.plan bits entry work

-- The fold of a plan that an answer of 0 left answers 0 wherever its own areas are large enough: the result a number a position, the work area
-- 65,536.
pub folds : (C : Call) → (reply C).number ≡ 0 → (F : FoldCall C) → length C.exit.plan ≤ length F.entry → 65536 ≤ length F.work → number_said F.answer ≡ 0
unfolding outcome folder fold_refusal fold_sized sizes_right areas_sized
folds C z F r w =
    let W = whole C z in
    let I = input C W.passes in
    let l : length C.exit.plan ≡ length C.entry.plan = ap length W.plan ∙ area_length I (length C.entry.plan) W.ss W.built in
    let P = passed C.height _ C.gates C.given C.records W.passes in
    let s = (and_true (plan_sized C.height (length C.entry.plan) && leb (word_limit C.height) (length C.entry.words) && leb (rooms C.height (length C.entry.plan)) (length C.entry.counts))
    _ P.areas).0 in
    let t = (and_true (plan_sized C.height (length C.entry.plan) && leb (word_limit C.height) (length C.entry.words)) _ s).0 in
    let p : plan_sized C.height (length C.exit.plan) ≡ true = rw l (and_true (plan_sized C.height (length C.entry.plan)) _ t).0 in
    let n : fold_refusal C.height (length C.exit.plan) (length F.entry) (length F.work) ≡ 0 = rw (P.height, fold_refusal, p, fold_sized, true_leb _ _ r, true_leb _ _ w) refl in
    ap (λ (o : FoldOutcome). o.number) F.ensures ∙ rw (n, folder) refl
