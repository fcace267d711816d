-- One stage under two word rules: rule 8 gives the same cells, what waits then is no more, and the default writes no more words. Assumes nothing.
use Prim.Native.Nat.{ℕ, zero, suc, ◌+◌, ◌-◌, ◌/◌, ◌^◌, ◌≤◌, ◌<◌}
use mathlib.Core.Path.{◌≡◌, refl, sym, ◌∙◌, ap}
use mathlib.Core.Logic.{◌⊎◌, inl, inr}
use mathlib.Core.Bool.{Bool, true, false, not, ◌&&◌, ◌||◌}
use mathlib.Core.List.{List, [], ◌∷◌, ◌++◌}
use native.Mathlib.Omega.{arith}
use lib.Dec.{ltb, leb, eqb}
use lib.ListN.{length, take, drop, length-append}
use borrow.Author.Tests.{ltb-true, ltb-false, leb-true, leb-false}
use Rattle.rules.specs.Lists.{mem, count, is_nil, insert_all, swap_out_all, In, Once}
use Rattle.rules.specs.Cells.{filled, level_one_size, row_at, row}
use Rattle.rules.specs.Traversal.{every_run, needed_runs, Setting}
use Rattle.rules.specs.Placing.{tree_of, needed_of}
use Rattle.rules.specs.Ending.{Sparse, add_sparse, sparse_from, sparse_runs, Put, put_cells, put_run, allows, goes_on, put_runs, plan, stage, finish, ending, close, in_tree, in_need, untouched, last_stage, written, rest, more_words}
use Rattle.rules.proofs.Lists.Members.{split, and_true, true_false, in_nil, in_keep, in_insert_all, in_insert_all_old}
use Rattle.rules.proofs.Stage.Puts.{list}
use Rattle.rules.proofs.Stage.Branches.{cells_idle, finish_last, finish_more}
use Rattle.rules.proofs.Stage.Last.{all_out}
use Rattle.rules.proofs.Stage.Runs.{runs_count}
use Rattle.rules.proofs.Stage.Staged.{not_refused}
use Rattle.rules.proofs.Stage.Same.{under, same_need, same_run, same_rest}

nil : (xs : List ℕ) → is_nil xs ≡ true → xs ≡ []
unfolding is_nil
nil [] e = refl
nil (x ∷ xs) e = true_false e refl

-- ---- a sparse record has an empty cell

pub data Gaps : List Sparse → Type 0 where
  none : Gaps []
  more : {r : Sparse} {rs : List Sparse} → r.filled < 32 → Gaps rs → Gaps (r ∷ rs)

add_run_gaps : (r : Sparse) → r.filled < 32 → {rs : List Sparse} → Gaps rs → Gaps (add_sparse r rs)
unfolding add_sparse
add_run_gaps r h none = more h none
add_run_gaps r h (more {r = s} {rs = ss} i k) = split (ltb s.filled r.filled || eqb s.filled r.filled && leb s.start r.start)
    (λ e. rw (e, add_sparse) (more i (add_run_gaps r h k))) (λ e. rw (e, add_sparse) (more h (more i k)))

runs_from_gaps : (n start : ℕ) (cells : List ℕ) {rs : List Sparse} → Gaps rs → Gaps (sparse_from n start cells rs)
unfolding sparse_from
runs_from_gaps zero start cells k = k
runs_from_gaps (suc n) start cells k = split (ltb (count filled (take 32 cells)) 10)
    (λ e. rw (e, sparse_from) (runs_from_gaps n (start + 32) (drop 32 cells) (add_run_gaps (record { filled = count filled (take 32 cells); start = start }) (omega (arith, ltb-true (count filled (take 32 cells)) 10 e)) k)))
    (λ e. rw (e, sparse_from) (runs_from_gaps n (start + 32) (drop 32 cells) k))

-- so the sparse runs of a plan have
pub runs_gaps : (K : ℕ) (pl : List ℕ) → Gaps (sparse_runs K pl)
unfolding sparse_runs
runs_gaps K pl = runs_from_gaps (level_one_size K / 32) 0 (row K 1 pl) none

-- ---- rule 8 under both: idle runs add words only

-- t has what s has, and as many words at least
pub record Idles (s t : Put) : Type 0 where
  pub plan : t.plan ≡ s.plan
  pub left : t.left ≡ s.left
  pub real : t.real ≡ s.real
  pub words : length s.words ≤ length t.words

module _ (X : Setting) where
  -- the setting under the old rule, which writes idle runs too
  abbrev pub old : Setting
  old = under every_run X

  -- and under the default, which writes none
  abbrev pub new : Setting
  new = under needed_runs X

  idle_runs : (last : Bool) (rs : List Sparse) (s : Put) → s.left ≡ [] → Idles s (put_runs old last rs s)
  unfolding put_runs put_run
  idle_runs last [] s e = record { plan = refl; left = refl; real = refl; words = omega arith }
  idle_runs last (r ∷ rs) s e = split (goes_on every_run last r.filled (length s.left))
      (λ b.
      let i : put_cells old 32 (row_at X.K 1 + r.start) s ≡ s = cells_idle old 32 (row_at X.K 1 + r.start) s e in
      let t : Put = put_run old r s in
      let w : length t.words ≡ length s.words + 1 = rw i (length-append s.words _) in
      let h = idle_runs last rs t (rw i e) in
      rw (b, put_runs) (record { plan = h.plan ∙ rw i; left = h.left ∙ rw i; real = h.real ∙ rw i; words = omega (arith, h.words) }))
      (λ b. rw (b, put_runs) (record { plan = refl; left = refl; real = refl; words = omega arith }))

  -- either they write as many words, or nothing is untouched and every needed waiting pin is placed
  pub record Compared (last : Bool) (s t : Put) : Type 0 where
    pub idles : Idles s t
    pub why : (length t.words ≡ length s.words) ⊎ ((last ≡ true) × (s.left ≡ []))

  same_put : (last : Bool) (s : Put) → Compared last s s
  same_put last s = record { idles = record { plan = refl; left = refl; real = refl; words = omega arith }; why = inl refl }

  -- a run with an empty cell is written with no pin left only where nothing is untouched
  pub no_gap : (last : Bool) (k : ℕ) → k < 32 → goes_on every_run last k 0 ≡ true → last ≡ true
  unfolding goes_on allows
  no_gap true k h e = refl
  no_gap false k h e = absurd (omega (arith, leb-true (32 - k) 0 e))

  compare_runs : (last : Bool) {rs : List Sparse} → Gaps rs → (s : Put) → Compared last (put_runs new last rs s) (put_runs old last rs s)
  unfolding put_runs goes_on allows
  compare_runs last none s = same_put last s
  compare_runs last (more {r = r} {rs = rs} h k) s = list s.left
      (λ e.
      let z : goes_on needed_runs last r.filled (length s.left) ≡ false = rw (e, goes_on, allows) in
      split (goes_on every_run last r.filled (length s.left))
      (λ b. rw (z, put_runs) (record { idles = idle_runs last (r ∷ rs) s e; why = inr (no_gap last r.filled h (rw e at b), e) }))
      (λ b. rw (z, b, put_runs) (same_put last s)))
      (λ y ys e.
      let z : goes_on needed_runs last r.filled (length s.left) ≡ goes_on every_run last r.filled (length s.left) = rw (e, goes_on, allows) in
      split (goes_on every_run last r.filled (length s.left))
      (λ b. rw (z, b, same_run needed_runs old r s, put_runs) (compare_runs last k (put_run old r s)))
      (λ b. rw (z, b, put_runs) (same_put last s)))

  -- ---- rules 8 to 11 under both

  -- the same pins are untouched
  pub same_last : (pl : List ℕ) → last_stage new pl ≡ last_stage old pl
  unfolding last_stage untouched tree_of
  same_last pl = rw (same_need needed_runs old pl)

  compare_written : (pl : List ℕ) → Compared (last_stage old pl) (written new pl) (written old pl)
  unfolding written in_need tree_of
  compare_written pl = rw (same_last pl, same_need needed_runs old pl) (compare_runs (last_stage old pl) (runs_gaps X.K pl) _)

  -- rule 9 leaves the same
  pub rests : (pl : List ℕ) → rest new pl ≡ rest old pl
  unfolding rest
  rests pl = let c = (compare_written pl).idles in rw (same_need needed_runs old pl, ← c.real, ← c.plan) (same_rest needed_runs old (needed_of old pl) (written old pl).real (written old pl).plan)

  -- rule 10 has the same words to write
  pub mores : (pl pl2 : List ℕ) → more_words new pl pl2 ≡ more_words old pl pl2
  unfolding more_words in_tree tree_of
  mores pl pl2 = let c = (compare_written pl).idles in rw (← c.real)

  -- where nothing is untouched every waiting pin is in the tree or needed
  pub last_cases : (pl : List ℕ) → last_stage X pl ≡ true → (q : ℕ) → In q X.waiting → In q (tree_of X pl) ⊎ In q (in_need X pl)
  unfolding last_stage untouched in_need
  last_cases pl e q i = split (mem q (tree_of X pl)) (λ a. inl a)
      (λ a. split (mem q (needed_of X pl)) (λ b. inr (in_keep _ q X.waiting i (rw (a, b))))
      (λ b. in_nil q (rw (nil (untouched X pl) e) at (in_keep (λ p. not (mem p (tree_of X pl)) && not (mem p (needed_of X pl))) q X.waiting i (rw (a, b))))))

-- a stage that the old rule completes: the new one completes it with the same cells. With as many words left, either nothing waits then, or the
-- same pins wait and it wrote no more words, and as many if something was untouched
pub record Kept (X : Setting) (room room2 : ℕ) (pl plan2 words realised waiting2 : List ℕ) : Type 0 where
  pub words2 : List ℕ
  pub waiting3 : List ℕ
  pub stays : finish (new X) room2 pl ≡ stage plan2 words2 realised waiting3
  pub next : room ≡ room2 → (waiting3 ≡ []) ⊎ ((waiting3 ≡ waiting2) × (length words2 ≤ length words) × ((last_stage (old X) pl ≡ true) ⊎ (length words2 ≡ length words)))

not_over : (m n : ℕ) → n ≤ m → ltb m n ≡ false
not_over m n h = split (ltb m n) (λ e. absurd (omega (arith, ltb-true m n e))) (λ e. e)

fits : (n m : ℕ) → n ≤ m → leb n m ≡ true
fits n m h = split (leb n m) (λ e. e) (λ e. absurd (omega (arith, leb-false n m e)))

module _ (X : Setting) (half : 2 ^ X.K ≡ row_at X.K 1 + row_at X.K 1) (once : Once X.waiting) (pl : List ℕ) where
  -- nothing untouched and no needed waiting pin left: rule 10 realises what rule 8 did not
  all_realised : last_stage (old X) pl ≡ true → (written (new X) pl).left ≡ [] → swap_out_all (insert_all (in_tree (new X) pl) (written (new X) pl).real) X.waiting ≡ []
  unfolding in_tree written
  all_realised e z = all_out once (insert_all (in_tree (new X) pl) (written (new X) pl).real)
      (λ q i. elim (last_cases (new X) pl (same_last X pl ∙ e) q i) [
        | inl a ↦ in_insert_all q (in_tree (new X) pl) _ (in_keep _ q X.waiting i a)
        | inr a ↦ elim (runs_count (new X) half (in_need (new X) pl) (last_stage (new X) pl) (sparse_runs X.K pl) (record { plan = pl; left = in_need (new X) pl; real = []; words = [] }) (λ x j. inr j) q a) [
          | inl b ↦ in_insert_all_old q (in_tree (new X) pl) _ b
          | inr b ↦ in_nil q (rw z at b)
        ]
      ])

  module _ (room room2 : ℕ) (more_Room : room ≤ room2) (plan2 words realised waiting2 : List ℕ) (e : finish (old X) room pl ≡ stage plan2 words realised waiting2) where
    -- every stage that the old rule completes is kept so, if the new one has no fewer words left
    pub kept : Kept X room room2 pl plan2 words realised waiting2
    unfolding ending close in_tree tree_of
    kept = not_refused (old X) room pl e (λ pl2 b r f d.
        let C = compare_written X pl in
        let I = C.idles in
        let wo : List ℕ = (written (old X) pl).words in
        let wn : List ℕ = (written (new X) pl).words in
        let m : List ℕ = more_words (old X) pl pl2 in
        let mn : more_words (new X) pl pl2 ≡ m = mores X pl pl2 in
        let b2 : ltb room2 (length wn) ≡ false = not_over room2 (length wn) (omega (arith, ltb-false room (length wo) b, I.words)) in
        let r2 : rest (new X) pl ≡ plan pl2 = rests X pl ∙ r in
        let same : last_stage (new X) pl ≡ last_stage (old X) pl = same_last X pl in
        split (last_stage (old X) pl && leb (length wo + length m) room)
        (λ a.
        let t = and_true (last_stage (old X) pl) (leb (length wo + length m) room) a in
        let c : close (old X) pl2 (wo ++ m) (insert_all (in_tree (old X) pl) (written (old X) pl).real) ≡ stage plan2 words realised waiting2 = rw (a, ending) at d in
        let p : pl2 ≡ plan2 = cc in
        let n : wo ++ m ≡ words = cc in
        let l : length wo + length m ≡ length words = sym (length-append wo m) ∙ ap length n in
        let v : last_stage (new X) pl && leb (length wn + length (more_words (new X) pl pl2)) room2 ≡ true = rw (mn, same, t.0) (fits (length wn + length m) room2 (omega (arith, leb-true (length wo + length m) room t.1, I.words))) in
        record {
          words2 = wn ++ m;
          waiting3 = waiting2;
          stays = finish_last (new X) room2 pl b2 pl2 r2 f.0 f.1 v ∙ rw (mn, ← I.real) cc;
          next = λ h. inr (refl, omega (arith, length-append wn m, I.words), inl t.0);
        })
        (λ a.
        let c : close (old X) pl2 wo (written (old X) pl).real ≡ stage plan2 words realised waiting2 = rw (a, ending) at d in
        let n : wo ≡ words = cc in
        let l : length wo ≡ length words = ap length n in
        split (last_stage (new X) pl && leb (length wn + length (more_words (new X) pl pl2)) room2)
        (λ v.
        let t = and_true (last_stage (new X) pl) (leb (length wn + length (more_words (new X) pl pl2)) room2) v in
        record {
          words2 = wn ++ m;
          waiting3 = swap_out_all (insert_all (in_tree (new X) pl) (written (new X) pl).real) X.waiting;
          stays = finish_last (new X) room2 pl b2 pl2 r2 f.0 f.1 v ∙ rw mn cc;
          next = λ h. inl (elim C.why [
            | inl u ↦ true_false (rw (sym same ∙ t.0) (fits (length wo + length m) room (omega (arith, leb-true (length wn + length (more_words (new X) pl pl2)) room2 t.1, ap length mn)))) a
            | inr u ↦ all_realised u.0 u.1
          ]);
        })
        (λ v. record {
          words2 = wn;
          waiting3 = waiting2;
          stays = finish_more (new X) room2 pl b2 pl2 r2 f.0 f.1 v ∙ rw (← I.real) cc;
          next = λ h. inr (refl, omega (arith, I.words), elim C.why [ inl u ↦ inr (omega arith) | inr u ↦ inl u.0 ]);
        })))
