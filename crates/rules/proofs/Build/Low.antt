-- Every word that a stage writes is below W. Assumes nothing.
use Prim.Native.Nat.{ℕ, zero, suc, ◌+◌, ◌-◌, ◌*◌, ◌/◌, ◌^◌, ◌≤◌, ◌<◌}
use mathlib.Core.Path.{◌≡◌, refl}
use mathlib.Core.Logic.{inl, inr}
use mathlib.Core.Bool.{Bool, true}
use mathlib.Core.List.{List, [], ◌∷◌, ◌++◌}
use native.Mathlib.Omega.{arith}
use lib.ListN.{length, take, drop, length-take}
use lib.Pow.{pow_mono, pow-add}
use borrow.Author.Tests.{lt-ltb}
use Rattle.rules.specs.Lists.{mem, every, insert}
use Rattle.rules.specs.Cells.{word_limit, word_fits, row_at, row}
use Rattle.rules.specs.Graph.{Node}
use Rattle.rules.specs.Traversal.{WordRule, Setting, setting}
use Rattle.rules.specs.Placing.{filled_plan}
use Rattle.rules.specs.Ending.{Put, put_cells, Sparse, put_run, goes_on, put_runs, written, words_in, words_up, more_words, stage, one_stage}
use Rattle.rules.proofs.Lists.Members.{split}
use Rattle.rules.proofs.Job.Fields.{every_cons, every_parts}
use Rattle.rules.specs.Inside.Counts.{Runs, none, more}
use Rattle.rules.proofs.Stage.Puts.{runs_fit}
use Rattle.rules.proofs.Stage.Staged.{half_height}
use Rattle.rules.proofs.Written.Words.{cells_words, finished_words}

every_append : (f : ℕ → Bool) (xs ys : List ℕ) → every f xs ≡ true → every f ys ≡ true → every f (xs ++ ys) ≡ true
unfolding every
every_append f [] ys e d = d
every_append f (x ∷ xs) ys e d = let h = every_parts f x xs e in every_cons f x (xs ++ ys) h.0 (every_append f xs ys h.1 d)

every_one : (f : ℕ → Bool) (x : ℕ) → f x ≡ true → every f (x ∷ []) ≡ true
unfolding every
every_one f x e = every_cons f x [] e refl

every_insert : (f : ℕ → Bool) (p : ℕ) (xs : List ℕ) → f p ≡ true → every f xs ≡ true → every f (insert p xs) ≡ true
unfolding insert
every_insert f p xs h e = split (mem p xs) (λ t. rw (t, insert) e) (λ t. rw (t, insert) (every_append f xs (p ∷ []) e (every_one f p h)))

-- the words of the positions above level 0
low_word : (K i : ℕ) → 6 ≤ K → i < 2 ^ K → word_fits K (i / 32) ≡ true
unfolding word_fits word_limit
low_word K i h b =
    let d : 5 + (K - 5) ≡ K = omega arith in
    let e : 2 ^ K ≡ 2 ^ 5 * 2 ^ (K - 5) = rw d at (pow-add 2 5 (K - 5)) in
    lt-ltb (i / 32) (2 ^ (K - 5)) (omega arith)

module _ (X : Setting) (tall : 6 ≤ X.K) where
  abbrev Low : List ℕ → Type 0
  Low ws = every (word_fits X.K) ws ≡ true

  run_low : (r : Sparse) → r.start + 32 ≤ row_at X.K 1 → (s : Put) → Low s.words → Low (put_run X r s).words
  unfolding put_run row_at
  run_low r h s e = every_append (word_fits X.K) (put_cells X 32 (2 ^ (X.K - 1) + r.start) s).words ((r.start + 2 ^ (X.K - 1)) / 32 ∷ []) (rw (cells_words X 32 (2 ^ (X.K - 1) + r.start) s) e)
      (every_one (word_fits X.K) ((r.start + 2 ^ (X.K - 1)) / 32) (low_word X.K (r.start + 2 ^ (X.K - 1)) tall (let z = half_height X.K (omega arith) in omega arith)))

  runs_low : (last : Bool) {rs : List Sparse} → Runs (row_at X.K 1) rs → (s : Put) → Low s.words → Low (put_runs X last rs s).words
  unfolding put_runs
  runs_low last none s e = e
  runs_low last (more {r = r} {rs = rs} h i) s e = split (goes_on X.rule last r.filled (length s.left))
      (λ t. rw (t, put_runs) (runs_low last i (put_run X r s) (run_low r h s e)))
      (λ t. rw (t, put_runs) e)

  written_low : (pl : List ℕ) → Low (written X pl).words
  unfolding written every
  written_low pl = runs_low _ (runs_fit X.K pl) _ refl

  in_low : (ps : List ℕ) (p : ℕ) (cs ws : List ℕ) → p + length cs ≤ 2 ^ X.K → Low ws → Low (words_in ps p cs ws)
  unfolding words_in
  in_low ps p [] ws h e = e
  in_low ps p (c ∷ cs) ws h e = split (mem c ps)
      (λ t. rw (t, words_in) (in_low ps (suc p) cs (insert (p / 32) ws) (omega arith) (every_insert (word_fits X.K) (p / 32) ws (low_word X.K p tall (omega arith)) e)))
      (λ t. rw (t, words_in) (in_low ps (suc p) cs ws (omega arith) e))

  up_low : (n h : ℕ) (ps pl ws : List ℕ) → 1 ≤ h → Low ws → Low (words_up X.K n h ps pl ws)
  unfolding words_up row row_at
  up_low zero h ps pl ws b e = e
  up_low (suc n) h ps pl ws b e = up_low n (suc h) ps pl _ (omega arith)
      (in_low ps (2 ^ (X.K - h)) (take (2 ^ (X.K - h)) (drop (2 ^ (X.K - h)) pl)) ws
      (let z = half_height X.K (omega arith) in omega (arith, length-take (2 ^ (X.K - h)) (drop (2 ^ (X.K - h)) pl), pow_mono {i = X.K - h} {j = X.K - 1} (omega arith))) e)

  more_low : (pl pl2 : List ℕ) → Low (more_words X pl pl2)
  unfolding more_words every
  more_low pl pl2 = up_low X.K 1 _ pl2 [] (omega arith) refl

-- the words of any stage that the rules complete are below W
pub words_low : (rule : WordRule) (K : ℕ) → 6 ≤ K → (g : List Node) (done waiting : List ℕ) (room : ℕ) (plan2 words realised waiting2 : List ℕ) → one_stage rule K g done waiting room ≡ stage plan2 words realised waiting2 → every (word_fits K) words ≡ true
unfolding one_stage setting
words_low rule K tall g done waiting room plan2 words realised waiting2 e =
    let X = setting rule K g done waiting in
    let pl = filled_plan X in
    elim (finished_words X room pl plan2 words realised waiting2 e).either [
      | inl c ↦ rw c.0 (every_append (word_fits K) (written X pl).words (more_words X pl plan2) (written_low X tall pl) (more_low X tall pl plan2))
      | inr c ↦ rw c.0 (written_low X tall pl)
    ]
