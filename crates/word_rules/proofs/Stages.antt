-- One stage under both word rules: the same cells where both finish it, and the same stage where no run is idle or the outcomes are alike. Assumes nothing.
use Prim.Native.Nat.{ℕ, ◌+◌}
use mathlib.Core.Path.{◌≡◌, refl, sym, ◌∙◌, ap}
use mathlib.Core.Bool.{true, false, ◌&&◌}
use mathlib.Core.List.{List, [], ◌∷◌}
use lib.Dec.{eqb, ltb, leb}
use lib.ListN.{length}
use Rattle.rules.specs.Lists.{same_list}
use Rattle.rules.specs.Cells.{row, first_empty}
use Rattle.rules.specs.Graph.{Node}
use Rattle.rules.specs.Traversal.{every_run, needed_runs, Setting, setting}
use Rattle.rules.specs.Placing.{tree, tree_of, filled_plan}
use Rattle.rules.specs.Ending.{sparse_runs, plan, Stage?, refused, stage, close, in_tree, in_need, last_stage, written, rest, more_words, finish, one_stage}
use Rattle.rules.proofs.Lists.Members.{split, true_false, and_true, eqb_true, eqb_same}
use Rattle.rules.proofs.Stage.Puts.{cell}
use Rattle.rules.proofs.Stage.Branches.{finish_seven, finish_full, finish_none, finish_last, finish_more}
use Rattle.rules.proofs.Stage.Staged.{rest_cases, Ended, finished}
use Rattle.rules.proofs.Stage.Depth.{stage_cases}
use Rattle.rules.proofs.Stage.Same.{same_need, same_plan}
use Rattle.rules.proofs.Stage.Under.{old, new, same_last, rests, mores}
use Rattle.word_rules.specs.Parting.{alike, idle, idle_stage}
use Rattle.word_rules.proofs.Runs.{Beside, beside}

-- ---- alike, as a test

pub list_same : (xs ys : List ℕ) → same_list xs ys ≡ true → xs ≡ ys
unfolding same_list
list_same [] [] e = refl
list_same [] (y ∷ ys) e = true_false e refl
list_same (x ∷ xs) [] e = true_false e refl
list_same (x ∷ xs) (y ∷ ys) e = split (eqb x y)
    (λ b. let t : xs ≡ ys = list_same xs ys (rw (b, same_list) at e) in rw (eqb_true x y b, t))
    (λ b. true_false (rw (b, same_list) at e) refl)

same_list_lem : (xs : List ℕ) → same_list xs xs ≡ true
unfolding same_list
same_list_lem [] = refl
same_list_lem (x ∷ xs) = rw (eqb_same x, same_list) (same_list_lem xs)

-- an outcome is like itself
pub alike_self : (x : Stage?) → alike x x ≡ true
unfolding alike
alike_self (refused n) = eqb_same n
alike_self (stage p ws rs vs) = rw (same_list_lem ws, same_list_lem vs)

-- ---- rules 8 to 11

module _ (X : Setting) (pl : List ℕ) where
  pub writes : Beside (idle (old X) pl) (written (new X) pl) (written (old X) pl)
  unfolding written in_need tree_of idle
  writes = rw (same_last X pl, same_need needed_runs (old X) pl) (beside X (last_stage (old X) pl) (sparse_runs X.K pl) _)

  module _ (room : ℕ) (none : idle (old X) pl ≡ false) where
    -- where no run is idle both rules finish alike, refusals among it
    pub same_finish : finish (old X) room pl ≡ finish (new X) room pl
    unfolding close in_tree tree_of
    same_finish =
        let w : (written (old X) pl).words ≡ (written (new X) pl).words = writes.words none in
        split (ltb room (length (written (old X) pl).words))
        (λ b. finish_seven (old X) room pl b ∙ sym (finish_seven (new X) room pl (rw (← w) b)))
        (λ b.
        let b2 : ltb room (length (written (new X) pl).words) ≡ false = rw (← w) b in
        rest_cases (rest (old X) pl)
        (λ r. finish_full (old X) room pl b r ∙ sym (finish_full (new X) room pl b2 (rests X pl ∙ r)))
        (λ pl2 r. cell (first_empty 0 (row X.K 1 pl2))
        (λ f. finish_none (old X) room pl b pl2 r f ∙ sym (finish_none (new X) room pl b2 pl2 (rests X pl ∙ r) f))
        (λ c f. split (last_stage (old X) pl && leb (length (written (old X) pl).words + length (more_words (old X) pl pl2)) room)
        (λ a. finish_last (old X) room pl b pl2 r c f a ∙ rw (w, ← mores X pl pl2, writes.real) (sym (finish_last (new X) room pl b2 pl2 (rests X pl ∙ r) c f (rw (same_last X pl, mores X pl pl2, ← w) a))))
        (λ a. finish_more (old X) room pl b pl2 r c f a ∙ rw (w, writes.real) (sym (finish_more (new X) room pl b2 pl2 (rests X pl ∙ r) c f (rw (same_last X pl, mores X pl pl2, ← w) a)))))))

-- ---- a stage from one state

module _ (K : ℕ) (g : List Node) (done waiting : List ℕ) (room : ℕ) where
  -- the stage's setting, and its plan after rule 7, which is the same under both
  abbrev X : Setting
  X = setting every_run K g done waiting

  abbrev pl : List ℕ
  pl = filled_plan X

  pub old_stage : one_stage every_run K g done waiting room ≡ finish (old X) room pl
  unfolding one_stage setting
  old_stage = refl

  pub new_stage : one_stage needed_runs K g done waiting room ≡ finish (new X) room pl
  unfolding one_stage setting
  new_stage = rw (same_plan needed_runs X)

  pub idle_is : idle_stage K g done waiting ≡ idle (old X) pl
  unfolding idle_stage setting
  idle_is = refl

  -- where no run is idle the rules make the same of the stage, refused or finished
  pub same_stage : idle_stage K g done waiting ≡ false → one_stage every_run K g done waiting room ≡ one_stage needed_runs K g done waiting room
  same_stage e = old_stage ∙ same_finish X pl room (sym idle_is ∙ e) ∙ sym new_stage

  -- a stage that both rules finish has the same cells under both, and the same pins above level 0 are realised for the next
  pub parting_cells : {plan1 words1 realised1 waiting1 plan2 words2 realised2 waiting2 : List ℕ} → one_stage every_run K g done waiting room ≡ stage plan1 words1 realised1 waiting1 →
      one_stage needed_runs K g done waiting room ≡ stage plan2 words2 realised2 waiting2 → (plan1 ≡ plan2) × (realised1 ≡ realised2)
  parting_cells {plan1} {words1} {realised1} {waiting1} {plan2} {words2} {realised2} {waiting2} d e =
      let A : Ended (old X) pl plan1 realised1 waiting1 = finished (old X) room pl plan1 words1 realised1 waiting1 (sym old_stage ∙ d) in
      let B : Ended (new X) pl plan2 realised2 waiting2 = finished (new X) room pl plan2 words2 realised2 waiting2 (sym new_stage ∙ e) in
      let r : plan plan1 ≡ plan plan2 = sym A.rested ∙ sym (rests X pl) ∙ B.rested in
      let p : plan1 ≡ plan2 = cc in
      (p, A.realises ∙ ap (tree X.K) p ∙ sym B.realises)

  -- outcomes that are alike are the same
  pub alike_same : alike (one_stage every_run K g done waiting room) (one_stage needed_runs K g done waiting room) ≡ true → one_stage every_run K g done waiting room ≡ one_stage needed_runs K g done waiting room
  unfolding alike
  alike_same a = stage_cases (one_stage every_run K g done waiting room)
      (λ m d. stage_cases (one_stage needed_runs K g done waiting room)
      (λ n e. rw (d, e) (ap refused (eqb_true m n (rw (d, e) at a))))
      (λ p2 ws2 rs2 vs2 e. true_false (rw (d, e) at a) refl))
      (λ p ws rs vs d. stage_cases (one_stage needed_runs K g done waiting room)
      (λ n e. true_false (rw (d, e) at a) refl)
      (λ p2 ws2 rs2 vs2 e.
      let t = and_true (same_list ws ws2) (same_list vs vs2) (rw (d, e) at a) in
      let c = parting_cells d e in
      rw (d, e, c.0, c.1, list_same ws ws2 t.0, list_same vs vs2 t.1)))
