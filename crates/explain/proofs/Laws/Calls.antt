-- What a call of `explain` means, by its contract. Assumes nothing.
use Prim.Native.Nat.{ℕ, ◌+◌, ◌-◌, ◌*◌, ◌≤◌, ◌<◌}
use mathlib.Core.Path.{◌≡◌, sym, ap, ◌∙◌}
use mathlib.Core.Logic.{◌≢◌}
use mathlib.Core.List.{List}
use lib.ListN.{length}
use Rattle.rules.specs.Lists.{laid_over}
use Rattle.rules.specs.Cells.{rooms}
use Rattle.rules.specs.Checks.{refusal_of}
use Rattle.rules.specs.Traversal.{needed_runs}
use Rattle.rules.specs.Build as rules
use Rattle.placer.specs.Answers.{told}
use Rattle.why_form.specs.Why as why
use Rattle.why_form.specs.Why.{Line, numbers_of, why_of, explainer}
use Rattle.why_form.proofs.Lines.{Tells}
use Rattle.why_form.proofs.Told.{short_given, given_short}
use Rattle.why_form.proofs.Calls.{told_whole, never_short}
use Rattle.explain_stages.specs.declared.Explanation.{Explanation}
use Rattle.explain.specs.Answers.{explained}

-- a call that met its contract
pub record Call : Type 0 where
  pub height : ℕ
  pub gates : List ℕ
  pub given : List ℕ
  pub records : List ℕ
  pub entry : rules.Areas
  pub list : List ℕ
  pub answer : Explanation
  pub plan : List ℕ
  pub words : List ℕ
  pub counts : List ℕ
  pub work : List ℕ
  pub list' : List ℕ
  pub met : explained answer plan words counts work list' ≡ explainer needed_runs height gates given records list entry

-- no check refuses the input
pub record Fine (C : Call) : Type 0 where
  pub none : refusal_of C.height (rules.sizes_right C.height C.gates C.records C.entry) C.gates C.given C.records ≡ 0

-- the build of the input, and the lines that explain it
unfoldable pub built_for : Call → rules.Answer
built_for C = rules.answer_of needed_runs C.height C.gates C.given C.records (length C.entry.plan)

unfoldable pub lines_for : Call → List Line
lines_for C = why_of needed_runs C.height C.gates C.given C.records (length C.entry.plan)

-- the build's answer, and its lines: the last is a refusal's with 6, 7 or 8, with that number, stage and a count over its limit; all others are pins taken back
pub record Says (C : Call) : Type 0 where
  pub answered : told C.answer.answer ≡ rules.reply (built_for C)
  pub lines : C.answer.lines ≡ length (lines_for C)
  pub listed : C.list' ≡ laid_over (numbers_of (lines_for C)) C.list
  pub tells : Tells (built_for C) (lines_for C)

module _ (C : Call) (F : Fine C) where
  number_is : (told C.answer.answer).number ≡ (explainer needed_runs C.height C.gates C.given C.records C.list C.entry).reply.number
  unfolding explained told
  number_is = ap (λ (e : why.Explained). e.reply.number) C.met

  -- 21 is given exactly where the list is too short for the lines
  pub short_refused : length C.list < 6 * length (lines_for C) → (told C.answer.answer).number ≡ 21
  unfolding lines_for
  short_refused h = number_is ∙ short_given needed_runs C.height C.gates C.given C.records C.list C.entry F.none h

  -- and nowhere else
  pub refused_short : (told C.answer.answer).number ≡ 21 → length C.list < 6 * length (lines_for C)
  unfolding lines_for
  refused_short e = given_short needed_runs C.height C.gates C.given C.records C.list C.entry F.none (sym number_is ∙ e)

  -- never where there is room for K - 1 lines a room and one more
  pub long_enough : 6 * (rooms C.height (length C.entry.plan) * (C.height - 1) + 1) ≤ length C.list → (told C.answer.answer).number ≢ 21
  long_enough h e = never_short needed_runs C.height C.gates C.given C.records C.list C.entry F.none h (sym number_is ∙ e)

  -- a list that is long enough holds the explanation
  pub says : 6 * length (lines_for C) ≤ length C.list → Says C
  unfolding explained lines_for built_for
  says h =
      let W = told_whole needed_runs C.height C.gates C.given C.records C.list C.entry F.none h in
      record { answered = ap (λ (e : why.Explained). e.reply) C.met ∙ W.answer; lines = ap (λ (e : why.Explained). e.lines) C.met ∙ W.lines; listed = ap (λ (e : why.Explained). e.list) C.met ∙ W.list_is; tells = W.tells }
