-- The runs of rule 8: a pin is realised or left, and where nothing is untouched none is left or every sparse run is filled. Assumes nothing.
use Prim.Native.Nat.{ℕ, zero, suc, ◌+◌, ◌*◌, ◌^◌, ◌≤◌, ◌<◌}
use mathlib.Core.Path.{◌≡◌, refl, ◌∙◌, ap}
use mathlib.Core.Logic.{◌⊎◌, inl, inr, ◌≢◌}
use mathlib.Core.Bool.{Bool, true, false, ◌&&◌, ◌||◌}
use mathlib.Core.List.{List, [], ◌∷◌}
use native.Mathlib.Omega.{arith}
use lib.Dec.{eqb, ltb, leb}
use lib.ListN.{length, get_or, take, drop}
use lib.Seq.{get_or-set_same, get_or-set_other, get_or-drop}
use Rattle.rules.specs.Lists.{count, In}
use Rattle.rules.specs.Cells.{filled, empty, row_at}
use Rattle.rules.specs.Traversal.{WordRule, every_run, needed_runs, Setting}
use Rattle.rules.specs.Ending.{Put, meet, fill_in, put_cell, put_cells, Sparse, put_run, allows, goes_on, put_runs, add_sparse, sparse_from}
use Rattle.rules.proofs.Lists.Members.{split, true_false, eqb_true, eqb_false, in_here, in_there, in_cons, in_nil, in_insert, in_insert_old, in_insert_all_old}
use Rattle.rules.proofs.Tree.Held.{place1_other}
use Rattle.rules.specs.Inside.Counts.{Runs, none, more}
use Rattle.rules.proofs.Stage.Puts.{list, Keeps, cell_keeps, cells_keep}
use Rattle.rules.proofs.Stage.Branches.{cells_idle}

-- every pin of ws is realised or left
abbrev pub Counts : List ℕ → Put → Type 0
Counts ws s = (x : ℕ) → In x ws → In x s.real ⊎ In x s.left

module _ (X : Setting) (half : 2 ^ X.K ≡ row_at X.K 1 + row_at X.K 1) (ws : List ℕ) where
  cell_counts : (p : ℕ) (s : Put) → Counts ws s → Counts ws (put_cell X p s)
  unfolding put_cell meet fill_in
  cell_counts p s c = list s.left (λ e. rw (e, put_cell) c)
      (λ y ys e. split (filled (get_or s.plan p empty))
      (λ b. rw (e, b, put_cell) (λ x i. elim (c x i) [ inl d ↦ inl (in_insert_all_old x _ s.real d) | inr d ↦ inr d ]))
      (λ b. rw (e, b, put_cell) (λ x i. elim (c x i) [
        | inl d ↦ inl (in_insert_old x y s.real d)
        | inr d ↦ elim (in_cons x y ys (rw e at d)) [ inl a ↦ inl (rw a (in_insert y s.real)) | inr a ↦ inr a ]
      ])))

  cells_count : (n p : ℕ) (s : Put) → Counts ws s → Counts ws (put_cells X n p s)
  unfolding put_cells
  cells_count zero p s c = c
  cells_count (suc n) p s c = cells_count n (suc p) (put_cell X p s) (cell_counts p s c)

  -- writing runs leaves every such pin realised or left
  pub runs_count : (last : Bool) (rs : List Sparse) (s : Put) → Counts ws s → Counts ws (put_runs X last rs s)
  unfolding put_runs put_run
  runs_count last [] s c = c
  runs_count last (r ∷ rs) s c = split (goes_on X.rule last r.filled (length s.left))
      (λ e. rw (e, put_runs) (runs_count last rs (put_run X r s) (λ x i. cells_count 32 (row_at X.K 1 + r.start) s c x i)))
      (λ e. rw (e, put_runs) c)

-- where nothing is untouched, a run is not written only if no pin is left
pub run_idle : (rule : WordRule) (k : ℕ) (left : List ℕ) → goes_on rule true k (length left) ≡ false → left ≡ []
unfolding goes_on allows
run_idle every_run k left e = true_false refl e
run_idle needed_runs k [] e = refl
run_idle needed_runs k (x ∷ xs) e = true_false refl e

-- where the runs of some records start
unfoldable pub starts : List Sparse → List ℕ
starts [] = []
starts (r ∷ rs) = r.start ∷ starts rs

-- the cells that are filled
abbrev pub Solid : ℕ → ℕ → List ℕ → Type 0
Solid p n pl = (i : ℕ) → p ≤ i → i < p + n → filled (get_or pl i empty) ≡ true

module _ (X : Setting) (half : 2 ^ X.K ≡ row_at X.K 1 + row_at X.K 1) (pl : List ℕ) (l : 2 ^ X.K ≤ length pl) where
  -- a cell above level 0 that is filled stays so
  cell_stays : (p : ℕ) (s : Put) → row_at X.K 1 ≤ p → p < 2 ^ X.K → Keeps X half pl s → (i : ℕ) → i < 2 ^ X.K → filled (get_or s.plan i empty) ≡ true → filled (get_or (put_cell X p s).plan i empty) ≡ true
  unfolding put_cell meet fill_in
  cell_stays p s lo hi k i h f = list s.left (λ e. rw (e, put_cell) f)
      (λ y ys e. split (filled (get_or s.plan p empty)) (λ b. rw (e, b, put_cell) f)
      (λ b. rw (e, b, put_cell, place1_other X (row_at X.K 1) p y s.plan lo i (omega arith), get_or-set_other s.plan p i y empty (λ d. true_false (rw d at f) b)) f))

  cells_stay : (n p : ℕ) (s : Put) → row_at X.K 1 ≤ p → p + n ≤ 2 ^ X.K → Keeps X half pl s → (i : ℕ) → i < 2 ^ X.K → filled (get_or s.plan i empty) ≡ true → filled (get_or (put_cells X n p s).plan i empty) ≡ true
  unfolding put_cells
  cells_stay zero p s lo hi k i h f = f
  cells_stay (suc n) p s lo hi k i h f = cells_stay n (suc p) (put_cell X p s) (omega arith) (omega arith) (cell_keeps X half pl l p s lo (omega arith) k) i h (cell_stays p s lo (omega arith) k i h f)

  -- a cell is filled after its turn, unless no pin was left
  cell_solid : (p : ℕ) (s : Put) → row_at X.K 1 ≤ p → p < 2 ^ X.K → Keeps X half pl s → (s.left ≡ []) ⊎ (filled (get_or (put_cell X p s).plan p empty) ≡ true)
  unfolding put_cell meet fill_in
  cell_solid p s lo hi k = list s.left (λ e. inl e)
      (λ y ys e. inr (split (filled (get_or s.plan p empty)) (λ b. rw (e, b, put_cell) b)
      (λ b. rw (e, b, put_cell, place1_other X (row_at X.K 1) p y s.plan lo p (omega arith), get_or-set_same s.plan p y empty (rw k.len (omega arith))) (k.fine y (rw e (in_here y ys))))))

  cells_solid : (n p : ℕ) (s : Put) → row_at X.K 1 ≤ p → p + n ≤ 2 ^ X.K → Keeps X half pl s → ((put_cells X n p s).left ≡ []) ⊎ Solid p n (put_cells X n p s).plan
  unfolding put_cells
  cells_solid zero p s lo hi k = inr (λ i a b. absurd (omega arith))
  cells_solid (suc n) p s lo hi k =
      let k1 : Keeps X half pl (put_cell X p s) = cell_keeps X half pl l p s lo (omega arith) k in
      elim (cell_solid p s lo (omega arith) k) [
        | inl e ↦ inl (ap (λ (t : Put). t.left) (cells_idle X (suc n) p s e) ∙ e)
        | inr b ↦ elim (cells_solid n (suc p) (put_cell X p s) (omega arith) (omega arith) k1) [
          | inl e ↦ inl e
          | inr h ↦ inr (λ i a c. split (eqb i p)
              (λ d. let z : i ≡ p = eqb_true i p d in rw z (cells_stay n (suc p) (put_cell X p s) (omega arith) (omega arith) k1 p (omega arith) b))
              (λ d. let z : i ≢ p = eqb_false i p d in h i (omega arith) (omega arith)))
        ]
      ]

  -- through all runs, when all are written
  runs_stay : {rs : List Sparse} → Runs (row_at X.K 1) rs → (s : Put) → Keeps X half pl s → (i : ℕ) → i < 2 ^ X.K → filled (get_or s.plan i empty) ≡ true → filled (get_or (put_runs X true rs s).plan i empty) ≡ true
  unfolding put_runs put_run
  runs_stay none s k i h f = f
  runs_stay (more {r = r} {rs = rs} b q) s k i h f =
      let c : Keeps X half pl (put_cells X 32 (row_at X.K 1 + r.start) s) = cells_keep X half pl l 32 (row_at X.K 1 + r.start) s (omega arith) (omega arith) k in
      split (goes_on X.rule true r.filled (length s.left))
      (λ e. rw (e, put_runs) (runs_stay q (put_run X r s) (record { len = c.len; grows = c.grows; real = c.real; fine = c.fine }) i h (cells_stay 32 (row_at X.K 1 + r.start) s (omega arith) (omega arith) k i h f)))
      (λ e. rw (e, put_runs) f)

  runs_nil : (rs : List Sparse) (s : Put) → s.left ≡ [] → (put_runs X true rs s).left ≡ []
  unfolding put_runs put_run
  runs_nil [] s e = e
  runs_nil (r ∷ rs) s e = split (goes_on X.rule true r.filled (length s.left))
      (λ b. rw (b, put_runs) (runs_nil rs (put_run X r s) (rw (cells_idle X 32 (row_at X.K 1 + r.start) s e) e))) (λ b. rw (b, put_runs) e)

  -- where nothing is untouched, no needed waiting pin is left or every sparse run is filled
  pub runs_solid : {rs : List Sparse} → Runs (row_at X.K 1) rs → (s : Put) → Keeps X half pl s →
      ((put_runs X true rs s).left ≡ []) ⊎ ((a : ℕ) → In a (starts rs) → Solid (row_at X.K 1 + a) 32 (put_runs X true rs s).plan)
  unfolding put_runs put_run starts
  runs_solid none s k = inr (λ a i. in_nil a i)
  runs_solid (more {r = r} {rs = rs} b q) s k =
      let p : ℕ = row_at X.K 1 + r.start in
      let c : Keeps X half pl (put_cells X 32 p s) = cells_keep X half pl l 32 p s (omega arith) (omega arith) k in
      let d : Keeps X half pl (put_run X r s) = record { len = c.len; grows = c.grows; real = c.real; fine = c.fine } in
      split (goes_on X.rule true r.filled (length s.left))
      (λ w. rw (w, put_runs) (elim (cells_solid 32 p s (omega arith) (omega arith) k) [
        | inl e ↦ inl (runs_nil rs (put_run X r s) e)
        | inr h ↦ elim (runs_solid q (put_run X r s) d) [
          | inl e ↦ inl e
          | inr t ↦ inr (λ a i. elim (in_cons a r.start (starts rs) i) [
            | inl z ↦ rw z (λ j x y. runs_stay q (put_run X r s) d j (omega arith) (h j x y))
            | inr z ↦ t a z
          ])
        ]
      ]))
      (λ w. rw (w, put_runs) (inl (run_idle X.rule r.filled s.left w)))

-- in an empty plan every run is sparse
abbrev pub Blank : List ℕ → Type 0
Blank cs = (i : ℕ) → filled (get_or cs i empty) ≡ false

count_blank : (cs : List ℕ) → Blank cs → count filled cs ≡ 0
unfolding count
count_blank [] h = refl
count_blank (c ∷ cs) h = rw (h 0, count) (count_blank cs (λ i. h (suc i)))

blank_nil : (i : ℕ) → filled (get_or {A = ℕ} [] i empty) ≡ false
unfolding filled empty
blank_nil i = refl

-- the first of some empty cells are empty
pub blank_take : (n : ℕ) (cs : List ℕ) → Blank cs → Blank (take n cs)
blank_take zero cs h i = blank_nil i
blank_take (suc n) [] h i = h i
blank_take (suc n) (c ∷ cs) h zero = h zero
blank_take (suc n) (c ∷ cs) h (suc i) = blank_take n cs (λ j. h (suc j)) i

-- and so are the others
pub blank_drop : (n : ℕ) (cs : List ℕ) → Blank cs → Blank (drop n cs)
blank_drop n cs h i = rw get_or-drop (h (n + i))

add_run_start : (r : Sparse) (rs : List Sparse) → In r.start (starts (add_sparse r rs))
unfolding add_sparse starts
add_run_start r [] = in_here r.start []
add_run_start r (s ∷ ss) = split (ltb s.filled r.filled || eqb s.filled r.filled && leb s.start r.start)
    (λ e. rw (e, add_sparse) (in_there r.start s.start _ (add_run_start r ss))) (λ e. rw (e, add_sparse) (in_here r.start _))

add_run_old : (a : ℕ) (r : Sparse) (rs : List Sparse) → In a (starts rs) → In a (starts (add_sparse r rs))
unfolding add_sparse starts
add_run_old a r [] i = in_nil a i
add_run_old a r (s ∷ ss) i = split (ltb s.filled r.filled || eqb s.filled r.filled && leb s.start r.start)
    (λ e. rw (e, add_sparse) (elim (in_cons a s.start (starts ss) i) [ inl d ↦ rw d (in_here s.start _) | inr d ↦ in_there a s.start _ (add_run_old a r ss d) ]))
    (λ e. rw (e, add_sparse) (in_there a r.start _ i))

runs_from_old : (a n start : ℕ) (cs : List ℕ) (rs : List Sparse) → In a (starts rs) → In a (starts (sparse_from n start cs rs))
unfolding sparse_from
runs_from_old a zero start cs rs i = i
runs_from_old a (suc n) start cs rs i = split (ltb (count filled (take 32 cs)) 10)
    (λ e. rw (e, sparse_from) (runs_from_old a n (start + 32) (drop 32 cs) _ (add_run_old a _ rs i))) (λ e. rw (e, sparse_from) (runs_from_old a n (start + 32) (drop 32 cs) rs i))

-- each of n runs of empty cells gets its record
pub runs_from_start : (n start : ℕ) (cs : List ℕ) (rs : List Sparse) → Blank cs → (j : ℕ) → j < n → In (start + 32 * j) (starts (sparse_from n start cs rs))
unfolding sparse_from
runs_from_start zero start cs rs h j b = absurd (omega arith)
runs_from_start (suc n) start cs rs h zero b =
    rw (count_blank (take 32 cs) (blank_take 32 cs h), sparse_from)
    (let z : start + 32 * 0 ≡ start = omega arith in rw z (runs_from_old start n (start + 32) (drop 32 cs) _ (add_run_start (record { filled = count filled (take 32 cs); start = start }) rs)))
runs_from_start (suc n) start cs rs h (suc j) b =
    rw (count_blank (take 32 cs) (blank_take 32 cs h), sparse_from)
    (let z : start + 32 * suc j ≡ start + 32 + 32 * j = omega arith in rw z (runs_from_start n (start + 32) (drop 32 cs) _ (blank_drop 32 cs h) j (omega arith)))
