-- Demand 3, written words: in a whole plan every endpoint pin stands in a written word. Assumes nothing.
use Prim.Native.Nat.{ℕ, zero, suc, ◌+◌, ◌-◌, ◌/◌, ◌%◌, ◌^◌, ◌≤◌}
use mathlib.Core.Path.{◌≡◌, refl}
use mathlib.Core.Logic.{inl, inr}
use mathlib.Core.Bool.{false, not}
use mathlib.Core.List.{List, [], ◌∷◌, ◌++◌}
use native.Mathlib.Omega.{arith}
use lib.ListN.{length, get_or}
use Rattle.rules.specs.Lists.{mem, keep, insert_all, In, Out, nobody}
use Rattle.rules.specs.Cells.{filled, empty, row_at}
use Rattle.rules.specs.Graph.{Node}
use Rattle.rules.specs.Traversal.{WordRule, Setting, setting}
use Rattle.rules.specs.Placing.{tree_of, needed_of, filled_plan}
use Rattle.rules.specs.Ending.{plan, in_need, in_tree, last_stage, written, rest, more_words, stage, one_stage}
use Rattle.rules.specs.Build.{Stage, Answer, refusal, whole, more, stages}
use Rattle.rules.proofs.Lists.Members.{split, true_false, and_true, in_nil, in_append_left, in_append_right, keep_in, in_keep, insert_all_in}
use Rattle.rules.specs.Inside.Walks.{Sound, Graph, Ready}
use Rattle.rules.proofs.Needed.Needs.{setting_sound}
use Rattle.rules.proofs.Tree.Held.{tree_in}
use Rattle.rules.proofs.Stage.Puts.{runs_fit}
use Rattle.rules.proofs.Stage.Staged.{half_height, two_step, length-filled_plan, written_keeps, need_filled, served}
use Rattle.rules.proofs.Stage.Flat.{blank_replicate}
use Rattle.rules.proofs.Stage.Depth.{still_ready, multiple, stage_cases}
use Rattle.rules.proofs.Tree.Invariant.{final}
use Rattle.rules.proofs.Fold.Whole.{zero_kept, above_zero}
use Rattle.rules.proofs.Written.Words.{Stands, Shows, runs_show, rest_stands, runs_aligned, words_up_has, Finished, finished_words, left_out, once_insert_all}

module _ (X : Setting) (r : ℕ → ℕ) (f : ℕ) (S : Sound X r f) (tall : 1 ≤ X.K) (half : 2 ^ X.K ≡ row_at X.K 1 + row_at X.K 1) (even : row_at X.K 1 % 32 ≡ 0) (small : length X.g ≤ empty) where
  abbrev pl : List ℕ
  pl = filled_plan X

  long : 2 ^ X.K ≤ length pl
  long = rw length-filled_plan (omega (arith, two_step X.K))

  shows : Shows X (written X pl).words (written X pl)
  unfolding written in_need
  shows = runs_show X half pl long even (last_stage X pl) (runs_fit X.K pl) (runs_aligned X.K pl) (record { plan = pl; left = in_need X pl; real = []; words = [] })
      (record { len = refl; grows = λ q e. e; real = λ q e. in_nil q e; fine = λ x e. need_filled X r f S half small pl x (and_true (not (mem x (tree_of X pl))) (mem x (needed_of X pl)) (keep_in _ x X.waiting e).1).1 })
      (record { shown = λ x e. in_nil x e; once = nobody; real = λ x e. in_nil x e; left = λ x e. (keep_in _ x X.waiting e).0 })

  module _ (pl2 : List ℕ) (e : rest X pl ≡ plan pl2) where
    early : (x : ℕ) → In x (written X pl).real → Stands X.K pl2 (written X pl).words x
    unfolding rest
    early x i = rest_stands X half pl long (needed_of X pl) (written X pl).real (written X pl).plan pl2 (rw (written_keeps X r f S half small pl long).len long) e (written X pl).words x (shows.shown x i)

    late : (x : ℕ) → In x (in_tree X pl) → Out x (written X pl).real → Stands X.K pl2 (more_words X pl pl2) x
    unfolding more_words in_tree tree_of
    late x i o =
        let fin = final X r f S tall (λ p. filled (get_or p 0 empty) ≡ false) (zero_kept X) (blank_replicate (2 ^ (X.K + 1)) 0) pl2 e in
        let t = tree_in X.K pl2 x ((served X r f S half small pl pl2 long e).grows x (keep_in _ x X.waiting i).1) in
        let m : In (get_or pl2 t.0 empty) (keep (λ p. not (mem p (written X pl).real)) (in_tree X pl)) = rw t.3 (in_keep _ x (in_tree X pl) i (rw o)) in
        (t.0, t.1, t.3, t.4, words_up_has X.K X.K 1 _ pl2 [] (omega arith) fin.0 t.0 (above_zero pl2 t.0 x fin.1 t.3 t.4) (let z : suc X.K - 1 ≡ X.K = omega arith in rw z t.1) m)

    tree_waits : (x : ℕ) → In x (in_tree X pl) → In x X.waiting
    unfolding in_tree
    tree_waits x i = (keep_in _ x X.waiting i).0

    -- a pin that leaves the waiting list stands in a written word
    pub leaves : (words waiting2 : List ℕ) → Finished X pl pl2 words waiting2 → (q : ℕ) → In q X.waiting → Out q waiting2 → Stands X.K pl2 words q
    leaves words waiting2 n q i o = elim n.either [
      | inl c ↦ split (mem q (written X pl).real)
          (λ a. let t = early q a in (t.0, t.1, t.2, t.3, rw c.0 (in_append_left (t.0 / 32) (written X pl).words (more_words X pl pl2) t.4)))
          (λ a. split (mem q (in_tree X pl))
          (λ b. let t = late q b a in (t.0, t.1, t.2, t.3, rw c.0 (in_append_right (t.0 / 32) (written X pl).words (more_words X pl pl2) t.4)))
          (λ b. true_false (rw c.1 (left_out (once_insert_all (in_tree X pl) shows.once) X.waiting
          (λ x d. elim (insert_all_in x (in_tree X pl) (written X pl).real d) [ inl y ↦ tree_waits x y | inr y ↦ shows.real x y ]) q i
          (split (mem q (insert_all (in_tree X pl) (written X pl).real)) (λ d. elim (insert_all_in q (in_tree X pl) (written X pl).real d) [ inl y ↦ true_false y b | inr y ↦ true_false y a ]) (λ d. d)))) o))
      | inr c ↦ split (mem q (written X pl).real)
          (λ a. let t = early q a in (t.0, t.1, t.2, t.3, rw c.0 t.4))
          (λ a. true_false (rw c.1 (left_out shows.once X.waiting shows.real q i a)) o)
    ]

-- over all stages
pub data Written (K q : ℕ) : List Stage → Type 0 where
  here : {s : Stage} {ss : List Stage} → Stands K s.plan s.words q → Written K q (s ∷ ss)
  there : {s : Stage} {ss : List Stage} → Written K q ss → Written K q (s ∷ ss)

module _ (rule : WordRule) (K : ℕ) (g : List Node) (r : ℕ → ℕ) (G : Graph g r) (tall : 6 ≤ K) (small : length g ≤ empty) where
  low : 1 ≤ K
  low = omega arith

  -- a pin that leaves the waiting list in a stage of a build stands in one of its written words
  pub stage_leaves : (done waiting : List ℕ) → Ready g r waiting → (room : ℕ) (plan2 words realised waiting2 : List ℕ) → one_stage rule K g done waiting room ≡ stage plan2 words realised waiting2 → (q : ℕ) → In q waiting → Out q waiting2 → Stands K plan2 words q
  unfolding one_stage setting
  stage_leaves done waiting R room plan2 words realised waiting2 e q i o =
      let n : Finished (setting rule K g done waiting) (filled_plan (setting rule K g done waiting)) plan2 words waiting2 = finished_words (setting rule K g done waiting) room (filled_plan (setting rule K g done waiting)) plan2 words realised waiting2 e in
      leaves (setting rule K g done waiting) r (length g) (setting_sound rule K g r G done waiting R.bounded) low (half_height K low) (omega (arith, multiple K tall)) small plan2 n.rested words waiting2 n q i o

  -- a whole plan with a stage in front is that stage and the whole plan behind it
  pub more_whole : (s : Stage) (a : Answer) (ss : List Stage) → more s a ≡ whole ss → (ts : List Stage) × (a ≡ whole ts) × (ss ≡ s ∷ ts)
  unfolding more
  more_whole s (refusal m j) ss e = absurd (let z : ◌≡◌ {A = ℕ} 0 1 = cc in omega arith)
  more_whole s (whole ts) ss e = (ts, refl, cc)

  -- in a whole plan every pin that waited stands in a written word
  pub all_written : (rooms k : ℕ) (done waiting : List ℕ) → Ready g r waiting → (room : ℕ) (ss : List Stage) → stages rule K g rooms k done waiting room ≡ whole ss → (q : ℕ) → In q waiting → Written K q ss
  unfolding stages
  all_written zero k done [] R room ss e q i = in_nil q i
  all_written zero k done (w ∷ ws) R room ss e q i = absurd (let z : ◌≡◌ {A = ℕ} 0 1 = cc in omega arith)
  all_written (suc rooms) k done [] R room ss e q i = in_nil q i
  all_written (suc rooms) k done (w ∷ ws) R room ss e q i = stage_cases (one_stage rule K g done (w ∷ ws) room)
      (λ n d. absurd (let c : refusal n k ≡ whole ss = rw (d, stages) at e in let z : ◌≡◌ {A = ℕ} 0 1 = cc in omega arith))
      (λ plan2 words realised waiting2 d.
      let s : Stage = record { plan = plan2; words = words } in
      let m = more_whole s (stages rule K g rooms (suc k) (realised ++ done) waiting2 (room - length words)) ss (rw (d, stages) at e) in
      rw m.2 (split (mem q waiting2)
      (λ a. there (all_written rooms (suc k) (realised ++ done) waiting2 (still_ready rule K g r G tall small done (w ∷ ws) R room plan2 words realised waiting2 d) (room - length words) m.0 m.1 q a))
      (λ a. here (stage_leaves done (w ∷ ws) R room plan2 words realised waiting2 d q i a))))
