-- The caller's list: six numbers a line, its length stays, and 21 is given exactly where it is too short. Assumes nothing.
use Prim.Native.Nat.{ℕ, zero, suc, ◌+◌, ◌*◌, ◌≤◌, ◌<◌}
use mathlib.Core.Path.{◌≡◌, refl, ◌∙◌}
use mathlib.Core.Logic.{inl, inr, ◌≢◌}
use mathlib.Core.Bool.{true, false}
use mathlib.Core.List.{List, [], ◌∷◌, ◌++◌}
use native.Mathlib.Omega.{arith}
use lib.Dec.{leb}
use lib.ListN.{length, length-append}
use borrow.Author.Tests.{leb-true, leb-false}
use Rattle.rules.specs.Cells.{rooms}
use Rattle.rules.specs.Graph.{Node, graph_of}
use Rattle.rules.specs.Records.{groups_of}
use Rattle.rules.specs.Checks.{refusal_of}
use Rattle.rules.specs.Build.{Answer, refusal, whole, build, refuse, refuse_checked, reply, Areas, answer_of, sizes_right}
use Rattle.rules.specs.Traversal.{WordRule, setting}
use Rattle.rules.specs.Placing.{filled_plan}
use Rattle.rules.specs.Ending.{refused, one_stage}
use Rattle.why_form.specs.Why as why
use Rattle.why_form.specs.Why.{Line, back, numbers, numbers_of, why_of, explainer}
use Rattle.rules.proofs.Lists.Members.{split}
use Rattle.rules.proofs.Build.Lengths.{length-laid_over}
use Rattle.rules.proofs.Stage.Over.{seven_or_eight}
use Rattle.rules.proofs.Stage.Refusals.{Stops, no_room, no_stage, build_refused}

six : (x : Line) → length (numbers x) ≡ 6
unfolding numbers
six (back k p n o d) = refl
six (why.over n k l c a b) = refl

pub numbers_length : (ls : List Line) → length (numbers_of ls) ≡ 6 * length ls
unfolding numbers_of
numbers_length [] = refl
numbers_length (x ∷ xs) = length-append (numbers x) (numbers_of xs) ∙ omega (arith, six x, numbers_length xs)

stage_number : (rule : WordRule) (K : ℕ) (g : List Node) (done waiting : List ℕ) (room n : ℕ) → one_stage rule K g done waiting room ≡ refused n → n ≢ 21
unfolding one_stage
stage_number rule K g done waiting room n e d = elim (seven_or_eight (setting rule K g done waiting) room (filled_plan (setting rule K g done waiting)) n e) [ inl b ↦ omega arith | inr b ↦ omega arith ]

module _ (rule : WordRule) (K : ℕ) (gates given records list : List ℕ) (a : Areas) where
  abbrev lines : List Line
  lines = why_of rule K gates given records (length a.plan)

  numbered : (n k : ℕ) → answer_of rule K gates given records (length a.plan) ≡ refusal n k → n ≢ 21
  unfolding answer_of
  numbered n k e z = elim (build_refused rule K (graph_of gates) given (groups_of records) (rooms K (length a.plan)) n k e) [
    | inl c ↦ omega (arith, c.0)
    | inr c ↦ small c.done c.waiting c.room c.stops z
  ]
    where
      small : {s m : ℕ} (done waiting : List ℕ) (room : ℕ) → Stops rule K (graph_of gates) (rooms K (length a.plan)) s done waiting room m → m ≢ 21
      small done waiting room (no_room e) d = omega arith
      small done waiting room (no_stage e c) d = stage_number rule K (graph_of gates) done waiting room _ c d

  answered : (b : Answer) → answer_of rule K gates given records (length a.plan) ≡ b → (reply b).number ≢ 21
  unfolding reply refuse
  answered (refusal n k) e z = numbered n k e z
  answered (whole ss) e z = omega arith

  -- records that pass checks 1 to 5
  module _ (fine : refusal_of K (sizes_right K gates records a) gates given records ≡ 0) where
    pub short_given : length list < 6 * length lines → (explainer rule K gates given records list a).reply.number ≡ 21
    unfolding explainer refuse
    short_given h = split (leb (6 * length lines) (length list)) (λ b. absurd (omega (arith, leb-true (6 * length lines) (length list) b))) (λ b. rw (fine, b, explainer))

    pub given_short : (explainer rule K gates given records list a).reply.number ≡ 21 → length list < 6 * length lines
    unfolding explainer
    given_short e = split (leb (6 * length lines) (length list))
        (λ b. absurd (answered (answer_of rule K gates given records (length a.plan)) refl (rw (fine, b, explainer) at e)))
        (λ b. leb-false (6 * length lines) (length list) b)

    pub list_length : length (explainer rule K gates given records list a).list ≡ length list
    unfolding explainer
    list_length = split (leb (6 * length lines) (length list))
        (λ b. rw (fine, b, explainer) (length-laid_over (numbers_of lines) list (omega (arith, numbers_length lines, leb-true (6 * length lines) (length list) b))))
        (λ b. rw (fine, b, explainer))
