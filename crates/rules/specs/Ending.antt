-- Rules 8 to 11: sparse runs and their words, the remaining needed pins, the last words, what is left to wait. Assumes nothing.
use Rattle.std.specs.Prelude.{ℕ, zero, suc, ◌+◌, ◌-◌, ◌/◌, Bool, true, false, not, ◌&&◌, ◌||◌, List, [], ◌∷◌, ◌++◌, leb, ltb, eqb, length, get_or, take, drop}
use Rattle.rules.specs.Lists.{nothing, found, mem, keep, insert, insert_all, count, is_nil, swap_out_all}
use Rattle.rules.specs.Cells.{empty, filled, level_one_size, row_at, row, first_empty}
use Rattle.rules.specs.Graph.{Node}
use Rattle.rules.specs.Traversal.{WordRule, every_run, needed_runs, Setting, setting}
use Rattle.rules.specs.Placing.{tree, tree_of, needed_of, place, filled_plan}

-- 8. a sparse record: how many cells of a run are filled, where the run starts
pub record Sparse : Type 0 where
  pub filled : ℕ
  pub start : ℕ

-- sorted by filled, then start
unfoldable pub add_sparse : Sparse → List Sparse → List Sparse
add_sparse r [] = r ∷ []
add_sparse r (s ∷ ss) = elim (ltb s.filled r.filled || eqb s.filled r.filled && leb s.start r.start) [
  | true ↦ s ∷ add_sparse r ss
  | false ↦ r ∷ s ∷ ss
]

-- n aligned runs of 32 cells; fewer than 10 filled is sparse
unfoldable pub sparse_from : ℕ → ℕ → List ℕ → List Sparse → List Sparse
sparse_from zero start cells rs = rs
sparse_from (suc n) start cells rs =
    let k = count filled (take 32 cells) in
    elim (ltb k 10) [
      | true ↦ sparse_from n (start + 32) (drop 32 cells) (add_sparse (record { filled = k; start = start }) rs)
      | false ↦ sparse_from n (start + 32) (drop 32 cells) rs
    ]

unfoldable pub sparse_runs : ℕ → List ℕ → List Sparse
sparse_runs K plan = sparse_from (level_one_size K / 32) 0 (row K 1 plan) []

-- what the writing of runs changes: the plan, the needed waiting pins left, the realised pins, the words
pub record Put : Type 0 where
  pub plan : List ℕ
  pub left : List ℕ
  pub real : List ℕ
  pub words : List ℕ

-- the cell at position p, filled: a waiting pin met there is realised
unfoldable pub meet : Setting → ℕ → Put → Put
meet X p s = record { plan = s.plan; left = s.left; real = insert_all (keep (λ q. mem q X.waiting) (get_or s.plan p empty ∷ [])) s.real; words = s.words }

-- the cell at position p, empty: the next pin goes there
unfoldable pub fill_in : Setting → ℕ → ℕ → List ℕ → Put → Put
fill_in X p e es s = record { plan = place X 1 (row_at X.K 1) p e s.plan; left = es; real = insert e s.real; words = s.words }

-- until no needed waiting pin is left
unfoldable pub put_cell : Setting → ℕ → Put → Put
put_cell X p s =
    elim s.left [
      | [] ↦ s
      | e ∷ es ↦ elim (filled (get_or s.plan p empty)) [ true ↦ meet X p s | false ↦ fill_in X p e es s ]
    ]

-- through n cells from position p
unfoldable pub put_cells : Setting → ℕ → ℕ → Put → Put
put_cells X zero p s = s
put_cells X (suc n) p s = put_cells X n (suc p) (put_cell X p s)

-- a run, and its word
unfoldable pub put_run : Setting → Sparse → Put → Put
put_run X r s =
    let t = put_cells X 32 (row_at X.K 1 + r.start) s in
    record { plan = t.plan; left = t.left; real = t.real; words = t.words ++ ((r.start + level_one_size X.K) / 32 ∷ []) }

-- the word rule: where so many needed waiting pins are left, may a run be written
unfoldable pub allows : WordRule → ℕ → Bool
allows every_run left = true
allows needed_runs zero = false
allows needed_runs (suc n) = true

-- is a run with so many filled cells written: either untouched is empty (`last`) or enough needed waiting pins are left
unfoldable pub goes_on : WordRule → Bool → ℕ → ℕ → Bool
goes_on rule last filled left = allows rule left && (last || leb (32 - filled) left)

-- while records last
unfoldable pub put_runs : Setting → Bool → List Sparse → Put → Put
put_runs X last [] s = s
put_runs X last (r ∷ rs) s =
    elim (goes_on X.rule last r.filled (length s.left)) [
      | true ↦ put_runs X last rs (put_run X r s)
      | false ↦ s
    ]

-- 9. the remaining needed pins, in the lowest empty level-1 cells
pub data Plan? : Type 0 where
  full : Plan?
  plan : List ℕ → Plan?

unfoldable pub put_rest : Setting → List ℕ → List ℕ → List ℕ → Plan?
put_rest X [] real pl = plan pl
put_rest X (p ∷ ps) real pl =
    elim (mem p real || mem p (tree X.K pl)) [
      | true ↦ put_rest X ps real pl
      | false ↦ elim (first_empty (row_at X.K 1) (row X.K 1 pl)) [
        | nothing ↦ full
        | found c ↦ put_rest X ps real (place X 1 (row_at X.K 1) c p pl)
      ]
    ]

-- 10. the words of the cells that hold one of the pins, levels 1 upward
unfoldable pub words_in : List ℕ → ℕ → List ℕ → List ℕ → List ℕ
words_in ps p [] ws = ws
words_in ps p (c ∷ cs) ws = elim (mem c ps) [ true ↦ words_in ps (suc p) cs (insert (p / 32) ws) | false ↦ words_in ps (suc p) cs ws ]

unfoldable pub words_up : ℕ → ℕ → ℕ → List ℕ → List ℕ → List ℕ → List ℕ
words_up K zero h ps pl ws = ws
words_up K (suc n) h ps pl ws = words_up K n (suc h) ps pl (words_in ps (row_at K h) (row K h pl) ws)

-- a stage, or the number that refuses it
pub data Stage? : Type 0 where
  refused : ℕ → Stage?
  stage : (plan words realised waiting : List ℕ) → Stage?

-- 11. all pins above level 0 are realised; realised endpoints leave the waiting list in the order they were first realised
unfoldable pub close : Setting → List ℕ → List ℕ → List ℕ → Stage?
close X pl words real = stage pl words (tree X.K pl) (swap_out_all real X.waiting)

-- 8. the waiting pins in the tree, needed, untouched, in list order
unfoldable pub in_tree : Setting → List ℕ → List ℕ
in_tree X pl = keep (λ p. mem p (tree_of X pl)) X.waiting

unfoldable pub in_need : Setting → List ℕ → List ℕ
in_need X pl = keep (λ p. not (mem p (tree_of X pl)) && mem p (needed_of X pl)) X.waiting

unfoldable pub untouched : Setting → List ℕ → List ℕ
untouched X pl = keep (λ p. not (mem p (tree_of X pl)) && not (mem p (needed_of X pl))) X.waiting

-- nothing is untouched
unfoldable pub last_stage : Setting → List ℕ → Bool
last_stage X pl = is_nil (untouched X pl)

-- the runs written
unfoldable pub written : Setting → List ℕ → Put
written X pl = put_runs X (last_stage X pl) (sparse_runs X.K pl) (record { plan = pl; left = in_need X pl; real = []; words = [] })

-- 9. the needed pins that rule 8 left
unfoldable pub rest : Setting → List ℕ → Plan?
rest X pl = put_rest X (needed_of X pl) (written X pl).real (written X pl).plan

-- 10. the words of the tree endpoints not yet realised
unfoldable pub more_words : Setting → List ℕ → List ℕ → List ℕ
more_words X pl pl2 = words_up X.K X.K 1 (keep (λ p. not (mem p (written X pl).real)) (in_tree X pl)) pl2 []

-- if all fit, they are written and all tree endpoints are realised
unfoldable pub ending : Setting → ℕ → List ℕ → List ℕ → Stage?
ending X room pl pl2 =
    elim (last_stage X pl && leb (length (written X pl).words + length (more_words X pl pl2)) room) [
      | true ↦ close X pl2 ((written X pl).words ++ more_words X pl pl2) (insert_all (in_tree X pl) (written X pl).real)
      | false ↦ close X pl2 (written X pl).words (written X pl).real
    ]

-- 8 to 11, given the plan of rules 2 to 7 and the words that may still be written: test 7, rule 9, test 8, rule 10
unfoldable pub finish : Setting → ℕ → List ℕ → Stage?
finish X room pl =
    elim (ltb room (length (written X pl).words)) [
      | true ↦ refused 7
      | false ↦ elim (rest X pl) [
        | full ↦ refused 8
        | plan pl2 ↦ elim (first_empty 0 (row X.K 1 pl2)) [ nothing ↦ refused 8 | found c ↦ ending X room pl pl2 ]
      ]
    ]

unfoldable pub one_stage : WordRule → ℕ → List Node → List ℕ → List ℕ → ℕ → Stage?
one_stage rule K g done waiting room =
    let X = setting rule K g done waiting in
    finish X room (filled_plan X)
