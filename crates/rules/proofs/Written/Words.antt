-- Demand 3, written words: a pin that leaves the waiting list stands in a written word. Assumes nothing.
use Prim.Native.Nat.{ℕ, zero, suc, ◌+◌, ◌-◌, ◌*◌, ◌/◌, ◌%◌, ◌^◌, ◌≤◌, ◌<◌}
use mathlib.Core.Path.{◌≡◌, refl, sym, ◌∙◌, ap, subst}
use mathlib.Core.Logic.{◌⊎◌, inl, inr, ◌≢◌}
use mathlib.Core.Bool.{Bool, true, false, ◌&&◌, ◌||◌}
use mathlib.Core.List.{List, [], ◌∷◌, ◌++◌, map}
use native.Mathlib.Omega.{arith}
use native.Mathlib.Nat.{mul-le-mul_left, one-le-pow}
use lib.Dec.{eqb, ltb, leb}
use lib.ListN.{length, get_or, take, drop, length-take, length-drop}
use lib.Seq.{get_or-set_same, get_or-set_other, get_or-take, get_or-drop}
use borrow.Author.Tests.{ltb-true, ltb-false}
use Rattle.rules.specs.Lists.{mem, keep, insert, insert_all, count, init, last_of, swap_out, swap_out_all, In, Out, Sub, Once, nobody, one}
use Rattle.rules.specs.Cells.{filled, empty, first_empty, row_at, row}
use Rattle.rules.specs.Traversal.{Setting}
use Rattle.rules.specs.Placing.{place, tree}
use Rattle.rules.specs.Ending.{Put, meet, fill_in, put_cell, put_cells, Sparse, put_run, goes_on, put_runs, add_sparse, sparse_from, sparse_runs, Plan?, full, plan, put_rest, in_tree, last_stage, written, rest, words_in, words_up, more_words, stage, ending, close, finish}
use Rattle.rules.proofs.Lists.Members.{split, true_false, eqb_true, in_here, in_there, in_cons, in_nil, in_append_left, in_append_right, out_append, eqb_same, out_head, out_tail, keep_in, insert_in, insert_all_in, in_insert, in_insert_old}
use Rattle.rules.proofs.Tree.Held.{length_place1, place1_other}
use Rattle.rules.specs.Inside.Counts.{Runs, none, more}
use Rattle.rules.proofs.Stage.Puts.{list, cell, Keeps, cell_keeps, cells_keep, lowest}
use Rattle.rules.proofs.Stage.Last.{swapped}
use Rattle.rules.proofs.Tree.Loads.{rows}
use Rattle.rules.proofs.Stage.Staged.{two_step, not_refused}

-- lists without repeats grow by inserting
once_behind : (p : ℕ) {xs : List ℕ} → Once xs → Out p xs → Once (xs ++ (p ∷ []))
unfolding mem
once_behind p nobody o = one refl nobody
once_behind p (one {x = x} {xs = xs} q k) o = one
    (out_append x xs (p ∷ []) q (split (mem x (p ∷ [])) (λ e. elim (in_cons x p [] e) [ inl d ↦ absurd (out_head p x xs o (sym d)) | inr d ↦ in_nil x d ]) (λ e. e)))
    (once_behind p k (out_tail p x xs o))

-- putting one number behind keeps each once
pub once_insert : (p : ℕ) {xs : List ℕ} → Once xs → Once (insert p xs)
unfolding insert
once_insert p {xs} k = split (mem p xs) (λ e. rw (e, insert) k) (λ e. rw (e, insert) (once_behind p k e))

-- and so does putting several
pub once_insert_all : (ps : List ℕ) {xs : List ℕ} → Once xs → Once (insert_all ps xs)
unfolding insert_all
once_insert_all [] k = k
once_insert_all (p ∷ ps) k = once_insert_all ps (once_insert p k)

-- a part of a list without repeats has none either
pub once_keep : (f : ℕ → Bool) {xs : List ℕ} → Once xs → Once (keep f xs)
unfolding keep
once_keep f nobody = nobody
once_keep f (one {x = x} {xs = xs} o k) = split (f x)
    (λ e. rw (e, keep) (one (split (mem x (keep f xs)) (λ i. true_false (keep_in f x xs i).0 o) (λ i. i)) (once_keep f k)))
    (λ e. rw (e, keep) (once_keep f k))

-- taking out takes out nothing else
in_map : (h : ℕ → ℕ) (x : ℕ) (xs : List ℕ) → In x xs → In (h x) (map h xs)
in_map h x [] e = in_nil x e
in_map h x (y ∷ ys) e = elim (in_cons x y ys e) [ inl d ↦ rw d (in_here (h y) (map h ys)) | inr d ↦ in_there (h x) (h y) (map h ys) (in_map h x ys d) ]

init_or_last : (q d : ℕ) (xs : List ℕ) → In q xs → In q (init xs) ⊎ (q ≡ last_of d xs)
unfolding init last_of
init_or_last q d [] e = in_nil q e
init_or_last q d (x ∷ []) e = elim (in_cons q x [] e) [ inl c ↦ inr c | inr c ↦ in_nil q c ]
init_or_last q d (x ∷ y ∷ ys) e = elim (in_cons q x (y ∷ ys) e) [
  | inl c ↦ inl (rw c (in_here x (init (y ∷ ys))))
  | inr c ↦ elim (init_or_last q x (y ∷ ys) c) [ inl b ↦ inl (in_there q x (init (y ∷ ys)) b) | inr b ↦ inr b ]
]

swap_same : (p z q : ℕ) → q ≢ p → swapped p z q ≡ q
swap_same p z q n = split (eqb q p) (λ e. absurd (n (eqb_true q p e))) (λ e. rw (e, swapped))

swap_last : (p z : ℕ) → swapped p z p ≡ z
swap_last p z = rw (eqb_same p, swapped)

-- taking a pin out leaves the others
pub swap_keeps : (p q : ℕ) (xs : List ℕ) → In p xs → In q xs → q ≢ p → In q (swap_out p xs)
unfolding swap_out last_of
swap_keeps p q [] i j n = in_nil q j
swap_keeps p q (x ∷ xs) i j n = elim (init_or_last q x (x ∷ xs) j) [
  | inl a ↦ subst (λ (u : ℕ). In u (map (swapped p (last_of x xs)) (init (x ∷ xs)))) (swap_same p (last_of x xs) q n) (in_map (swapped p (last_of x xs)) q (init (x ∷ xs)) a)
  | inr a ↦ elim (init_or_last p x (x ∷ xs) i) [
    | inl b ↦ subst (λ (u : ℕ). In u (map (swapped p (last_of x xs)) (init (x ∷ xs)))) (swap_last p (last_of x xs) ∙ sym a) (in_map (swapped p (last_of x xs)) p (init (x ∷ xs)) b)
    | inr b ↦ absurd (n (a ∙ sym b))
  ]
]

-- and so does taking out several
pub left_out : {ps : List ℕ} → Once ps → (xs : List ℕ) → Sub ps xs → (q : ℕ) → In q xs → Out q ps → In q (swap_out_all ps xs)
unfolding swap_out_all
left_out nobody xs h q i o = i
left_out (one {x = p} {xs = ps} a k) xs h q i o =
    left_out k (swap_out p xs) (λ y j. swap_keeps p y xs (h p (in_here p ps)) (h y (in_there y p ps j)) (λ e. true_false (rw e at j) a)) q
    (swap_keeps p q xs (h p (in_here p ps)) i (out_head q p ps o)) (out_tail q p ps o)

-- runs begin at whole words
pub data Aligned : List Sparse → Type 0 where
  no_run : Aligned []
  a_run : {r : Sparse} {rs : List Sparse} → r.start % 32 ≡ 0 → Aligned rs → Aligned (r ∷ rs)

add_run_aligned : (r : Sparse) → r.start % 32 ≡ 0 → {rs : List Sparse} → Aligned rs → Aligned (add_sparse r rs)
unfolding add_sparse
add_run_aligned r h no_run = a_run h no_run
add_run_aligned r h (a_run {r = s} {rs = ss} i k) = split (ltb s.filled r.filled || eqb s.filled r.filled && leb s.start r.start)
    (λ e. rw (e, add_sparse) (a_run i (add_run_aligned r h k))) (λ e. rw (e, add_sparse) (a_run h (a_run i k)))

runs_from_aligned : (n start : ℕ) (cells : List ℕ) → start % 32 ≡ 0 → {rs : List Sparse} → Aligned rs → Aligned (sparse_from n start cells rs)
unfolding sparse_from
runs_from_aligned zero start cells h k = k
runs_from_aligned (suc n) start cells h k = split (ltb (count filled (take 32 cells)) 10)
    (λ e. rw (e, sparse_from) (runs_from_aligned n (start + 32) (drop 32 cells) (omega arith) (add_run_aligned (record { filled = count filled (take 32 cells); start = start }) h k)))
    (λ e. rw (e, sparse_from) (runs_from_aligned n (start + 32) (drop 32 cells) (omega arith) k))

-- all sparse runs begin at whole words
pub runs_aligned : (K : ℕ) (pl : List ℕ) → Aligned (sparse_runs K pl)
unfolding sparse_runs
runs_aligned K pl = runs_from_aligned (2 ^ (K - 1) / 32) 0 (row K 1 pl) refl no_run

-- pin x stands in one of the words ws
abbrev pub Stands : ℕ → List ℕ → List ℕ → ℕ → Type 0
Stands K pl ws x = (p : ℕ) × (p < 2 ^ K) × (get_or pl p empty ≡ x) × (filled x ≡ true) × In (p / 32) ws

-- the realised pins wait, each once, and stand in one of the words; the pins left wait too
pub record Shows (X : Setting) (ws : List ℕ) (s : Put) : Type 0 where
  pub shown : (x : ℕ) → In x s.real → Stands X.K s.plan ws x
  pub once : Once s.real
  pub real : Sub s.real X.waiting
  pub left : Sub s.left X.waiting

cell_words : (X : Setting) (p : ℕ) (s : Put) → (put_cell X p s).words ≡ s.words
unfolding put_cell meet fill_in
cell_words X p s = list s.left (λ e. rw (e, put_cell)) (λ y ys e. split (filled (get_or s.plan p empty)) (λ b. rw (e, b, put_cell)) (λ b. rw (e, b, put_cell)))

-- cells are filled without a word being written
pub cells_words : (X : Setting) (n p : ℕ) (s : Put) → (put_cells X n p s).words ≡ s.words
unfolding put_cells
cells_words X zero p s = refl
cells_words X (suc n) p s = cells_words X n (suc p) (put_cell X p s) ∙ cell_words X p s

module _ (X : Setting) (half : 2 ^ X.K ≡ row_at X.K 1 + row_at X.K 1) (pl : List ℕ) (l : 2 ^ X.K ≤ length pl) where
  put_on : (p y : ℕ) (pl2 : List ℕ) → row_at X.K 1 ≤ p → filled (get_or pl2 p empty) ≡ false → (ws : List ℕ) (x : ℕ) → Stands X.K pl2 ws x → Stands X.K (place X 1 (row_at X.K 1) p y pl2) ws x
  put_on p y pl2 lo b ws x t =
      let f : filled (get_or pl2 t.0 empty) ≡ true = rw t.2 t.3 in
      let h : t.0 < 2 ^ X.K = t.1 in
      (t.0, h, place1_other X (row_at X.K 1) p y pl2 lo t.0 (omega arith) ∙ get_or-set_other pl2 p t.0 y empty (λ d. true_false (rw d at f) b) ∙ t.2, t.3, t.4)

  cell_shows : (p : ℕ) (s : Put) (ws : List ℕ) → row_at X.K 1 ≤ p → p < 2 ^ X.K → In (p / 32) ws → Keeps X half pl s → Shows X ws s → Shows X ws (put_cell X p s)
  unfolding put_cell meet fill_in
  cell_shows p s ws lo hi m k c = list s.left (λ e. rw (e, put_cell) c)
      (λ y ys e. split (filled (get_or s.plan p empty))
      (λ b. rw (e, b, put_cell) (record {
        shown = λ x i. elim (insert_all_in x (keep (λ q. mem q X.waiting) (get_or s.plan p empty ∷ [])) s.real i) [
          | inl a ↦ elim (in_cons x (get_or s.plan p empty) [] (keep_in _ x (get_or s.plan p empty ∷ []) a).0) [ inl d ↦ (p, hi, sym d, rw d b, m) | inr d ↦ in_nil x d ]
          | inr a ↦ c.shown x a
        ];
        once = once_insert_all (keep (λ q. mem q X.waiting) (get_or s.plan p empty ∷ [])) c.once;
        real = λ x i. elim (insert_all_in x (keep (λ q. mem q X.waiting) (get_or s.plan p empty ∷ [])) s.real i) [
          | inl a ↦ (keep_in _ x (get_or s.plan p empty ∷ []) a).1
          | inr a ↦ c.real x a
        ];
        left = c.left;
      }))
      (λ b. rw (e, b, put_cell) (record {
        shown = λ x i. elim (insert_in x y s.real i) [
          | inl a ↦ (p, hi, place1_other X (row_at X.K 1) p y s.plan lo p (omega arith) ∙ get_or-set_same s.plan p y empty (omega (arith, k.len)) ∙ sym a, rw a (k.fine y (rw e (in_here y ys))), m)
          | inr a ↦ put_on p y s.plan lo b ws x (c.shown x a)
        ];
        once = once_insert y c.once;
        real = λ x i. elim (insert_in x y s.real i) [ inl a ↦ rw a (c.left y (rw e (in_here y ys))) | inr a ↦ c.real x a ];
        left = λ x i. c.left x (rw e (in_there x y ys i));
      })))

  cells_show : (n p : ℕ) (s : Put) (ws : List ℕ) → row_at X.K 1 ≤ p → p + n ≤ 2 ^ X.K → ((j : ℕ) → p ≤ j → j < p + n → In (j / 32) ws) → Keeps X half pl s → Shows X ws s → Shows X ws (put_cells X n p s)
  unfolding put_cells
  cells_show zero p s ws lo hi m k c = c
  cells_show (suc n) p s ws lo hi m k c = cells_show n (suc p) (put_cell X p s) ws (omega arith) (omega arith) (λ j a b. m j (omega arith) (omega arith))
      (cell_keeps X half pl l p s lo (omega arith) k) (cell_shows p s ws lo (omega arith) (m p (omega arith) (omega arith)) k c)

  more_words_lem : (ws vs : List ℕ) (s : Put) → Shows X ws s → Shows X (ws ++ vs) s
  more_words_lem ws vs s c = record { shown = λ x i. let t = c.shown x i in (t.0, t.1, t.2, t.3, in_append_left (t.0 / 32) ws vs t.4); once = c.once; real = c.real; left = c.left }

  run_keeps : (r : Sparse) → r.start + 32 ≤ row_at X.K 1 → (s : Put) → Keeps X half pl s → Keeps X half pl (put_run X r s)
  unfolding put_run
  run_keeps r h s k =
      let kc : Keeps X half pl (put_cells X 32 (row_at X.K 1 + r.start) s) = cells_keep X half pl l 32 (row_at X.K 1 + r.start) s (omega arith) (omega arith) k in
      record { len = kc.len; grows = kc.grows; real = kc.real; fine = kc.fine }

  run_shows : row_at X.K 1 % 32 ≡ 0 → (r : Sparse) → r.start + 32 ≤ row_at X.K 1 → r.start % 32 ≡ 0 → (s : Put) → Keeps X half pl s → Shows X s.words s → Shows X (put_run X r s).words (put_run X r s)
  unfolding put_run row_at
  run_shows z r h al s k c =
      let p : ℕ = row_at X.K 1 + r.start in
      let wd : ℕ = (r.start + 2 ^ (X.K - 1)) / 32 in
      let sc : Shows X (s.words ++ (wd ∷ [])) (put_cells X 32 p s) = cells_show 32 p s (s.words ++ (wd ∷ [])) (omega arith) (omega arith)
      (λ t a b. let e : t / 32 ≡ wd = omega arith in rw e (in_append_right wd s.words (wd ∷ []) (in_here wd []))) k (more_words_lem s.words (wd ∷ []) s c) in
      let sw : Shows X ((put_cells X 32 p s).words ++ (wd ∷ [])) (put_cells X 32 p s) = subst (λ (v : List ℕ). Shows X (v ++ (wd ∷ [])) (put_cells X 32 p s)) (sym (cells_words X 32 p s)) sc in
      record { shown = sw.shown; once = sw.once; real = sw.real; left = sw.left }

  -- writing runs keeps every realised pin in a written word
  pub runs_show : row_at X.K 1 % 32 ≡ 0 → (last : Bool) {rs : List Sparse} → Runs (row_at X.K 1) rs → Aligned rs → (s : Put) → Keeps X half pl s → Shows X s.words s → Shows X (put_runs X last rs s).words (put_runs X last rs s)
  unfolding put_runs
  runs_show z last none no_run s k c = c
  runs_show z last (more {r = r} {rs = rs} h i) (a_run al j) s k c = split (goes_on X.rule last r.filled (length s.left))
      (λ e. rw (e, put_runs) (runs_show z last i j (put_run X r s) (run_keeps r h s k) (run_shows z r h al s k c)))
      (λ e. rw (e, put_runs) c)

  -- rule 9 leaves filled cells as they are
  pub rest_stands : (ps real pl1 pl2 : List ℕ) → 2 ^ X.K ≤ length pl1 → put_rest X ps real pl1 ≡ plan pl2 → (ws : List ℕ) (x : ℕ) → Stands X.K pl1 ws x → Stands X.K pl2 ws x
  unfolding put_rest
  rest_stands [] real pl1 pl2 w e ws x t = let d : pl2 ≡ pl1 = cc in rw d t
  rest_stands (p ∷ ps) real pl1 pl2 w e ws x t = split (mem p real || mem p (tree X.K pl1))
      (λ b. rest_stands ps real pl1 pl2 w (rw (b, put_rest) at e) ws x t)
      (λ b. cell (first_empty (row_at X.K 1) (row X.K 1 pl1))
      (λ n. absurd (let z : ◌≡◌ {A = Plan?} full (plan pl2) = rw (b, n, put_rest) at e in let y : ◌≡◌ {A = ℕ} 0 1 = cc in omega arith))
      (λ c n.
      let at = lowest X half pl1 c w n in
      rest_stands ps real (place X 1 (row_at X.K 1) c p pl1) pl2 (omega (arith, length_place1 X (row_at X.K 1) c p pl1)) (rw (b, n, put_rest) at e) ws x (put_on c p pl1 at.0 at.2 ws x t)))

-- rule 10: the words of all cells that hold one of some pins
words_in_old : (ps : List ℕ) (p : ℕ) (cs ws : List ℕ) (v : ℕ) → In v ws → In v (words_in ps p cs ws)
unfolding words_in
words_in_old ps p [] ws v i = i
words_in_old ps p (c ∷ cs) ws v i = split (mem c ps) (λ e. rw (e, words_in) (words_in_old ps (suc p) cs (insert (p / 32) ws) v (in_insert_old v (p / 32) ws i))) (λ e. rw (e, words_in) (words_in_old ps (suc p) cs ws v i))

words_in_has : (ps : List ℕ) (p : ℕ) (cs ws : List ℕ) (k : ℕ) → k < length cs → In (get_or cs k empty) ps → In ((p + k) / 32) (words_in ps p cs ws)
unfolding words_in
words_in_has ps p [] ws k b i = absurd (omega arith)
words_in_has ps p (c ∷ cs) ws zero b i = let z : p + 0 ≡ p = omega arith in rw (i, words_in) (rw z (words_in_old ps (suc p) cs (insert (p / 32) ws) (p / 32) (in_insert (p / 32) ws)))
words_in_has ps p (c ∷ cs) ws (suc k) b i =
    let z : p + suc k ≡ suc p + k = omega arith in
    split (mem c ps) (λ e. rw (e, words_in) (rw z (words_in_has ps (suc p) cs (insert (p / 32) ws) k (omega arith) i))) (λ e. rw (e, words_in) (rw z (words_in_has ps (suc p) cs ws k (omega arith) i)))

words_up_old : (K n h : ℕ) (ps pl ws : List ℕ) (v : ℕ) → In v ws → In v (words_up K n h ps pl ws)
unfolding words_up
words_up_old K zero h ps pl ws v i = i
words_up_old K (suc n) h ps pl ws v i = words_up_old K n (suc h) ps pl _ v (words_in_old ps (row_at K h) (row K h pl) ws v i)

-- rule 10 collects the word of every cell above level 0 that holds one of the pins
pub words_up_has : (K n h : ℕ) (ps pl ws : List ℕ) → h + n ≡ suc K → length pl ≡ 2 ^ (K + 1) → (i : ℕ) → 1 ≤ i → i < 2 ^ (suc K - h) → In (get_or pl i empty) ps → In (i / 32) (words_up K n h ps pl ws)
unfolding words_up row row_at
words_up_has K zero h ps pl ws e l i a b m = absurd (let d : suc K - h ≡ 0 = omega arith in let c : i < 2 ^ 0 = rw d at b in omega arith)
words_up_has K (suc n) h ps pl ws e l i a b m =
    let d : suc K - h ≡ suc (K - h) = omega arith in
    let c : i < 2 ^ suc (K - h) = rw d at b in
    let w : ℕ = 2 ^ (K - h) in
    let t : w * 2 ^ h ≡ 2 ^ K = rows K h (omega arith) in
    split (ltb i w)
    (λ x. let y : suc K - suc h ≡ K - h = omega arith in
    words_up_has K n (suc h) ps pl _ (omega arith) l i a (rw y (ltb-true i w x)) m)
    (λ x.
    let u : w ≤ i = ltb-false i w x in
    let y : w + (i - w) ≡ i = omega arith in
    let v : i - w < w = omega arith in
    let len : i - w < length (take w (drop w pl)) = simp (length-take, length-drop) (omega (arith, two_step K, mul-le-mul_left w (one-le-pow h 2 (omega arith)))) in
    let at : get_or (take w (drop w pl)) (i - w) empty ≡ get_or pl i empty = get_or-take w (drop w pl) (i - w) empty v ∙ get_or-drop w pl (i - w) empty ∙ ap (λ (z : ℕ). get_or pl z empty) y in
    let g : In ((w + (i - w)) / 32) (words_in ps w (take w (drop w pl)) ws) = words_in_has ps w (take w (drop w pl)) ws (i - w) len (rw at m) in
    words_up_old K n (suc h) ps pl _ (i / 32) (rw y at g))

-- the two ends of a stage
pub record Finished (X : Setting) (pl pl2 words waiting2 : List ℕ) : Type 0 where
  pub rested : rest X pl ≡ plan pl2
  pub either : ((words ≡ (written X pl).words ++ more_words X pl pl2) × (waiting2 ≡ swap_out_all (insert_all (in_tree X pl) (written X pl).real) X.waiting))
      ⊎ ((words ≡ (written X pl).words) × (waiting2 ≡ swap_out_all (written X pl).real X.waiting))

ended_words : (X : Setting) (room : ℕ) (pl pl2 plan2 words realised waiting2 : List ℕ) → rest X pl ≡ plan pl2 → ending X room pl pl2 ≡ stage plan2 words realised waiting2 → (plan2 ≡ pl2) × Finished X pl pl2 words waiting2
unfolding ending close
ended_words X room pl pl2 plan2 words realised waiting2 r e = split (last_stage X pl && leb (length (written X pl).words + length (more_words X pl pl2)) room)
    (λ b. let d : close X pl2 ((written X pl).words ++ more_words X pl pl2) (insert_all (in_tree X pl) (written X pl).real) ≡ stage plan2 words realised waiting2 = rw (b, ending) at e in
    (cc, record { rested = r; either = inl (cc, cc) }))
    (λ b. let d : close X pl2 (written X pl).words (written X pl).real ≡ stage plan2 words realised waiting2 = rw (b, ending) at e in
    (cc, record { rested = r; either = inr (cc, cc) }))

-- every completed stage has one of these two ends
pub finished_words : (X : Setting) (room : ℕ) (pl plan2 words realised waiting2 : List ℕ) → finish X room pl ≡ stage plan2 words realised waiting2 → Finished X pl plan2 words waiting2
finished_words X room pl plan2 words realised waiting2 e = not_refused X room pl e (λ pl2 b r f d. let h = ended_words X room pl pl2 plan2 words realised waiting2 r d in rw h.0 h.1)
