-- The stages that the two word rules finish differently are those in which the old one writes an idle run, but for those that both refuse by one number. Assumes nothing.
use Prim.Native.Nat.{ℕ, zero, suc, ◌+◌, ◌-◌, ◌≤◌, ◌<◌}
use mathlib.Core.Path.{◌≡◌, refl, sym, ◌∙◌, ap}
use mathlib.Core.Logic.{inl, inr, ◌↔◌}
use mathlib.Core.Bool.{Bool, true, false, not, ◌&&◌}
use mathlib.Core.List.{List, [], ◌∷◌}
use native.Mathlib.Omega.{arith}
use lib.Dec.{eqb}
use lib.ListN.{length, get_or, length-append}
use Rattle.rules.specs.Lists.{mem, keep, insert_all, same_list, swap_out_all, In, Out, Sub, Once, nobody, one}
use Rattle.rules.specs.Cells.{empty, filled, row_at, row}
use Rattle.rules.specs.Graph.{Node}
use Rattle.rules.specs.Records.{Group}
use Rattle.rules.specs.Traversal.{every_run, needed_runs, Setting, setting}
use Rattle.rules.specs.Placing.{filled_plan}
use Rattle.rules.specs.Ending.{Sparse, Put, meet, fill_in, put_cell, put_cells, put_run, goes_on, put_runs, plan, words_in, words_up, refused, stage, in_tree, in_need, written, more_words, finish, one_stage}
use Rattle.rules.proofs.Lists.Members.{split, true_false, and_true, eqb_true, eqb_same, in_here, in_there, in_cons, in_nil, in_insert_all, in_insert_all_old, keep_in, insert_in, insert_all_in}
use Rattle.rules.proofs.Stage.Puts.{list}
use Rattle.rules.proofs.Stage.Last.{length-swap_out_all, once_length}
use Rattle.rules.proofs.Stage.Depth.{stage_cases}
use Rattle.rules.proofs.Stage.Under.{old, new, rests, mores}
use Rattle.rules.proofs.Written.Words.{once_insert, once_insert_all, Finished, finished_words}
use Rattle.word_rules.specs.Parting.{alike, idle, idle_stage}
use Rattle.word_rules.proofs.Stages.{list_same, alike_self, writes, old_stage, new_stage, idle_is, same_stage}
use Rattle.word_rules.proofs.Parting.{Parting}

-- ---- rule 8: the realised pins wait, each once, and so do the pins left

record Tidy (X : Setting) (s : Put) : Type 0 where
  once : Once s.real
  real : Sub s.real X.waiting
  left : Sub s.left X.waiting

module _ (X : Setting) where
  cell_tidy : (p : ℕ) (s : Put) → Tidy X s → Tidy X (put_cell X p s)
  unfolding put_cell meet fill_in
  cell_tidy p s c = list s.left (λ e. rw (e, put_cell) c)
      (λ y ys e. split (filled (get_or s.plan p empty))
      (λ b. let met : List ℕ = keep (λ q. mem q X.waiting) (get_or s.plan p empty ∷ []) in
      rw (e, b, put_cell) (record {
        once = once_insert_all met c.once;
        real = λ x i. elim (insert_all_in x met s.real i) [ inl a ↦ (keep_in _ x (get_or s.plan p empty ∷ []) a).1 | inr a ↦ c.real x a ];
        left = c.left;
      }))
      (λ b. rw (e, b, put_cell) (record {
        once = once_insert y c.once;
        real = λ x i. elim (insert_in x y s.real i) [ inl a ↦ rw a (c.left y (rw e (in_here y ys))) | inr a ↦ c.real x a ];
        left = λ x i. c.left x (rw e (in_there x y ys i));
      })))

  cells_tidy : (n p : ℕ) (s : Put) → Tidy X s → Tidy X (put_cells X n p s)
  unfolding put_cells
  cells_tidy zero p s c = c
  cells_tidy (suc n) p s c = cells_tidy n (suc p) (put_cell X p s) (cell_tidy p s c)

  runs_tidy : (last : Bool) (rs : List Sparse) (s : Put) → Tidy X s → Tidy X (put_runs X last rs s)
  unfolding put_runs put_run
  runs_tidy last [] s c = c
  runs_tidy last (r ∷ rs) s c = split (goes_on X.rule last r.filled (length s.left))
      (λ b. let t = cells_tidy 32 (row_at X.K 1 + r.start) s c in rw (b, put_runs) (runs_tidy last rs (put_run X r s) (record { once = t.once; real = t.real; left = t.left })))
      (λ b. rw (b, put_runs) c)

  written_tidy : (pl : List ℕ) → Tidy X (written X pl)
  unfolding written in_need
  written_tidy pl = runs_tidy _ _ _ (record { once = nobody; real = λ q i. in_nil q i; left = λ q i. (keep_in _ q X.waiting i).0 })

-- ---- rule 10: no pins, no words

no_words : (p : ℕ) (cs ws : List ℕ) → words_in [] p cs ws ≡ ws
unfolding words_in mem
no_words p [] ws = refl
no_words p (c ∷ cs) ws = no_words (suc p) cs ws

none_up : (K n h : ℕ) (pl ws : List ℕ) → words_up K n h [] pl ws ≡ ws
unfolding words_up
none_up K zero h pl ws = refl
none_up K (suc n) h pl ws = none_up K n (suc h) pl _ ∙ no_words (row_at K h) (row K h pl) ws

module _ (X : Setting) (pl : List ℕ) where
  -- so if rule 10 has words, it has an endpoint that rule 8 did not realise
  unrealised : (pl2 : List ℕ) → 0 < length (more_words X pl pl2) → (q : ℕ) × In q (in_tree X pl) × Out q (written X pl).real
  unfolding more_words
  unrealised pl2 h = list (keep (λ p. not (mem p (written X pl).real)) (in_tree X pl))
      (λ e. let z : more_words X pl pl2 ≡ [] = rw e (none_up X.K X.K 1 pl2 []) in absurd (omega (arith, ap length z)))
      (λ q qs e. let k = keep_in (λ p. not (mem p (written X pl).real)) q (in_tree X pl) (rw e (in_here q qs)) in (q, k.0, not_true (mem q (written X pl).real) k.1))
    where
      not_true : (b : Bool) → not b ≡ true → b ≡ false
      not_true true e = true_false e refl
      not_true false e = refl

  -- and to realise it leaves fewer waiting
  fewer : (q : ℕ) → In q (in_tree X pl) → Out q (written X pl).real →
      length (swap_out_all (insert_all (in_tree X pl) (written X pl).real) X.waiting) < length (swap_out_all (written X pl).real X.waiting)
  unfolding in_tree
  fewer q i o =
      let real : List ℕ = (written X pl).real in
      let T : Tidy X (written X pl) = written_tidy X pl in
      let a : length (q ∷ real) ≤ length X.waiting = once_length (one o T.once) X.waiting (λ x j. elim (in_cons x q real j) [ inl d ↦ rw d (keep_in _ q X.waiting i).0 | inr d ↦ T.real x d ]) in
      let b : length (q ∷ real) ≤ length (insert_all (in_tree X pl) real) = once_length (one o T.once) (insert_all (in_tree X pl) real)
      (λ x j. elim (in_cons x q real j) [ inl d ↦ rw d (in_insert_all q (in_tree X pl) real i) | inr d ↦ in_insert_all_old x (in_tree X pl) real d ]) in
      omega (arith, length-swap_out_all real X.waiting, length-swap_out_all (insert_all (in_tree X pl) real) X.waiting)

-- ---- a stage with an idle run

module _ (X : Setting) (pl : List ℕ) (some : idle (old X) pl ≡ true) (room : ℕ) where
  -- finished under both rules it has other words, or other endpoints are realised
  differ : {plan1 words1 realised1 waiting1 plan2 words2 realised2 waiting2 : List ℕ} → finish (old X) room pl ≡ stage plan1 words1 realised1 waiting1 →
      finish (new X) room pl ≡ stage plan2 words2 realised2 waiting2 → words1 ≡ words2 → waiting1 ≡ waiting2 → ⊥
  unfolding more_words in_tree
  differ {plan1} {words1} {realised1} {waiting1} {plan2} {words2} {realised2} {waiting2} d e v w =
      let A : Finished (old X) pl plan1 words1 waiting1 = finished_words (old X) room pl plan1 words1 realised1 waiting1 d in
      let B : Finished (new X) pl plan2 words2 waiting2 = finished_words (new X) room pl plan2 words2 realised2 waiting2 e in
      let wo : List ℕ = (written (old X) pl).words in
      let wn : List ℕ = (written (new X) pl).words in
      let few : length wn < length wo = ((writes X pl).more some).0 in
      let r : plan plan1 ≡ plan plan2 = sym A.rested ∙ sym (rests X pl) ∙ B.rested in
      let p : plan1 ≡ plan2 = cc in
      let m : length (more_words (new X) pl plan2) ≡ length (more_words (old X) pl plan1) = ap length (mores X pl plan2 ∙ ap (more_words (old X) pl) (sym p)) in
      let l : length words1 ≡ length words2 = ap length v in
      elim A.either [
        | inl a ↦ elim B.either [
          | inl b ↦ omega (arith, ap length a.0, ap length b.0, length-append wo (more_words (old X) pl plan1), length-append wn (more_words (new X) pl plan2))
          | inr b ↦ omega (arith, ap length a.0, ap length b.0, length-append wo (more_words (old X) pl plan1))
        ]
        | inr a ↦ elim B.either [
          | inl b ↦
              let n : length words2 ≡ length wn + length (more_words (new X) pl plan2) = ap length b.0 ∙ length-append wn (more_words (new X) pl plan2) in
              let u = unrealised (new X) pl plan2 (omega (arith, ap length a.0)) in
              omega (arith, fewer (new X) pl u.0 u.1 u.2, ap length (sym (a.1 ∙ ap (λ (ps : List ℕ). swap_out_all ps X.waiting) (writes X pl).real) ∙ w ∙ b.1))
          | inr b ↦ omega (arith, ap length a.0, ap length b.0)
        ]
      ]

module _ (K : ℕ) (g : List Node) (done waiting : List ℕ) (room : ℕ) where
  abbrev X : Setting
  X = setting every_run K g done waiting

  -- both rules refuse the stage, and by the same number
  abbrev pub SameRefusal : Type 0
  SameRefusal = (n : ℕ) × (one_stage every_run K g done waiting room ≡ refused n) × (one_stage needed_runs K g done waiting room ≡ refused n)

  apart : alike (one_stage every_run K g done waiting room) (one_stage needed_runs K g done waiting room) ≡ false → (idle_stage K g done waiting ≡ true) × (SameRefusal → ⊥)
  unfolding alike
  apart a = (
    split (idle_stage K g done waiting) (λ i. i) (λ i. true_false (alike_self (one_stage needed_runs K g done waiting room)) (rw (same_stage K g done waiting room i) at a)),
    λ s. true_false (eqb_same s.0) (rw (s.1, s.2) at a),
  )

  idle_apart : idle_stage K g done waiting ≡ true → (SameRefusal → ⊥) → alike (one_stage every_run K g done waiting room) (one_stage needed_runs K g done waiting room) ≡ false
  unfolding alike
  idle_apart i s = stage_cases (one_stage every_run K g done waiting room)
      (λ m d. stage_cases (one_stage needed_runs K g done waiting room)
      (λ n e. split (eqb m n) (λ b. absurd (s (m, d, e ∙ ap refused (sym (eqb_true m n b))))) (λ b. rw (d, e) b))
      (λ p2 ws2 rs2 vs2 e. rw (d, e)))
      (λ p ws rs vs d. stage_cases (one_stage needed_runs K g done waiting room)
      (λ n e. rw (d, e))
      (λ p2 ws2 rs2 vs2 e. split (same_list ws ws2 && same_list vs vs2)
      (λ b.
      let t = and_true (same_list ws ws2) (same_list vs vs2) b in
      absurd (differ X (filled_plan X) (sym (idle_is K g done waiting room) ∙ i) room (sym (old_stage K g done waiting room) ∙ d) (sym (new_stage K g done waiting room) ∙ e) (list_same ws ws2 t.0) (list_same vs vs2 t.1)))
      (λ b. rw (d, e) b)))

  -- the rules finish a stage differently exactly where the old one writes an idle run and they do not refuse it by the same number
  pub parts_where : (alike (one_stage every_run K g done waiting room) (one_stage needed_runs K g done waiting room) ≡ false) ↔ ((idle_stage K g done waiting ≡ true) × (SameRefusal → ⊥))
  parts_where = (apart, λ h. idle_apart h.0 h.1)

-- so the stage in which a build parts has an idle run
pub parting_idle : {K : ℕ} {g : List Node} {given : List ℕ} {groups : List Group} {rooms k : ℕ} (P : Parting K g given groups rooms k) → idle_stage K g P.done P.waiting ≡ true
parting_idle {K} {g} P = ((parts_where K g P.done P.waiting P.room).0 P.differs).0
