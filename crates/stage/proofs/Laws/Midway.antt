-- Between the rules 8 to 11: what the columns tell. Assumes nothing.
use mathlib.Core.Path.{◌≡◌, refl, sym, ap, ◌∙◌}
use mathlib.Core.Bool.{Bool, true, false, not, ◌&&◌}
use mathlib.Core.List.{List, [], ◌∷◌}
use Prim.Native.Nat.{ℕ, zero, suc, ◌+◌, ◌*◌, ◌<◌}
use native.Mathlib.Omega.{arith}
use lib.Dec.{eqb}
use lib.ListN.{length, get_or}
use borrow.Author.Tests.{ne_eqb}
use Rattle.rules.specs.Lists.{mem, keep, is_nil, In, Out}
use Rattle.rules.specs.Cells.{empty, filled, level_of, row_start}
use Rattle.rules.specs.Traversal.{Setting}
use Rattle.rules.specs.Placing.{tree, tree_of, needed_of}
use Rattle.rules.specs.Ending.{in_tree, in_need, untouched, last_stage, written, more_words}
use Rattle.rules.proofs.Lists.Members.{split, true_false, in_keep, keep_in, and_true, in_nil}
use Rattle.rules.proofs.Cells.Positions.{position_placed}
use Rattle.rules.proofs.Needed.Lacks.{keep_ext, same_truth}
use Rattle.rules.specs.Inside.Plans.{Fair}
use Rattle.rules.proofs.Tree.Held.{tree_in}
use Rattle.rules.proofs.Tree.Tally.{tree_cells}
use Rattle.rules.proofs.Stage.Staged.{two_step, small_filled}
use Rattle.columns.specs.Fields.{WAITING, CELLS}
use Rattle.columns.specs.Lists.{list, Marks}
use Rattle.columns.proofs.Lists.Entries.{holds_below}
use Rattle.columns.proofs.Lists.Marks.{marks_test}
use Rattle.columns.proofs.Lists.Places.{placed_test}
use Rattle.stage_walk.specs.Stands.{Context}
use Rattle.stage_walk.proofs.Contexts.{low_mark}
use Rattle.stage_tree.proofs.Bits.Cells.{get_d_any}
use Rattle.stage_runs.specs.declared.Spent.{Spent}
use Rattle.stage_runs.proofs.Laws.Plain.{not_not, not_zero}
use Rattle.stage_ending.specs.Close.{Within, is_tree}
use Rattle.stage_ending.specs.Words.{is_end, Pins}
use Rattle.stage_ending.specs.Last.{end_words}
use Rattle.stage_ending.proofs.Laws.Ends.{words_up_lem}
use Rattle.stage.specs.Finish.{Midway}
use Rattle.stage_loop.proofs.Laws.Turns.{marked_none}

-- ---- lists

-- a pin is kept if it is in the list and passes the test
pub mem_keep : (f : ℕ → Bool) (x : ℕ) (xs : List ℕ) → mem x (keep f xs) ≡ (mem x xs && f x)
mem_keep f x xs = same_truth (mem x (keep f xs)) (mem x xs && f x) (λ e. let t = keep_in f x xs e in rw (t.0, t.1) refl) (λ e. let t = and_true (mem x xs) (f x) e in in_keep f x xs t.0 t.1)

nil_none : {P : Type 0} (x : ℕ) (xs : List ℕ) → is_nil xs ≡ true → In x xs → P
unfolding is_nil
nil_none x [] e i = in_nil x i
nil_none x (y ∷ ys) e i = true_false e refl

swapped : (a b c : Bool) → (a && (b && c)) ≡ ((a && c) && b)
swapped true true true = refl
swapped true true false = refl
swapped true false true = refl
swapped true false false = refl
swapped false b c = refl

-- where nothing is untouched, a waiting pin is in the tree or needed
module _ (X : Setting) (pl : List ℕ) (last : last_stage X pl ≡ true) where
  -- in the last stage a waiting pin is in the tree exactly where it is not needed
  pub last_tree : (x : ℕ) → In x X.waiting → not (mem x (in_need X pl)) ≡ mem x (tree_of X pl)
  unfolding last_stage untouched in_need
  last_tree x i = rw (mem_keep (λ p. not (mem p (tree_of X pl)) && mem p (needed_of X pl)) x X.waiting, i) (split (mem x (tree_of X pl))
      (λ t. rw t refl)
      (λ t. split (mem x (needed_of X pl)) (λ d. rw (t, d) refl)
      (λ d. nil_none x (untouched X pl) last (in_keep (λ p. not (mem p (tree_of X pl)) && not (mem p (needed_of X pl))) x X.waiting i (rw (t, d) refl)))))

-- ---- marks

-- a mark of 0 tells that the pin is not in the list
pub unmarked : {g m : ℕ} {xs w : List ℕ} → Marks g m xs w → (p : ℕ) → p < m → eqb (get_or w (g * m + p) 0) 0 ≡ not (mem p xs)
unmarked {g} {m} {xs} {w} M p h = sym (not_not (eqb (get_or w (g * m + p) 0) 0)) ∙ ap not (marks_test M p h)

-- marks of some pins are 0 at all others
pub within_marks : {g m : ℕ} {xs ys w : List ℕ} → Marks g m xs w → ((x : ℕ) → In x xs → In x ys) → Within g m ys w
within_marks {g} {m} {xs} {ys} M sub = record { zero = λ p h o. M.mark p h ∙ split (mem p xs) (λ e. true_false (sub p e) o) (λ e. rw e refl) }

-- ---- the plan's cells hold listed pins

module _ (C : Context) {h : ℕ} {pl : List ℕ} (F : Fair C.X h pl) where
  -- a filled cell holds a listed pin
  pub cell_listed : (q : ℕ) → q < length pl → filled (get_or pl q empty) ≡ true → In (get_or pl q empty) C.X.seen
  cell_listed zero b e = true_false e F.zeroth
  cell_listed (suc q) b e =
      let P = position_placed C.X.K (suc q) (omega arith) (omega (arith, F.len, two_step C.X.K)) in
      (F.tall (level_of C.X.K (suc q)) (row_start (suc q)) (suc q) P.rows P.row P.end e).0

  -- so a pin of the tree is listed
  pub tree_listed : (x : ℕ) → In x (tree C.X.K pl) → In x C.X.seen
  tree_listed x i = let t = tree_in C.X.K pl x i in rw t.3 at (cell_listed t.0 t.2 (rw t.3 t.4))

  -- a filled cell holds a pin of the area
  pub cells_pins : {m : ℕ} → length C.X.g ≡ m → Pins m pl
  unfolding filled empty
  cells_pins s = record {
    pin = λ p b ne.
        let z : get_or pl p empty ≡ get_or pl p 0 = get_d_any pl p empty 0 b in
        omega (arith, C.S.bound (get_or pl p 0) (rw z at (cell_listed p b (rw (z, ne_eqb (get_or pl p 0) 4294967295 ne) refl))), s);
  }

module _ {C : Context} {pl : List ℕ} {m K half o n at room : ℕ} {s : Spent} {pl' w words : List ℕ} (A : Midway C pl m K half o n at room s pl' w words) where
  -- a listed pin is in the order
  pub seen_order : (x : ℕ) → In x C.X.seen → In x C.X.order
  seen_order x i = C.S.ordered x i

  -- a waiting pin is in the order
  pub waiting_order : (x : ℕ) → In x C.X.waiting → In x C.X.order
  waiting_order x i = seen_order x (C.S.visited.has x i)

  -- a waiting pin is one of the area
  pub waiting_below : (x : ℕ) → In x C.X.waiting → x < m
  waiting_below x i = holds_below A.waiting.held x i

  pin_filled : (x : ℕ) → x < m → filled x ≡ true
  pin_filled x b = small_filled x (omega (arith, low_mark C, A.graph))

  -- a count tells what is in the tree
  pub counts : (x : ℕ) → x < m → not (eqb (get_or w (CELLS * m + x) 0) 0) ≡ mem x (tree C.X.K pl')
  counts x b = rw (A.tally.cells x b, not_zero) (sym (tree_cells C.X.K pl' x (pin_filled x b)))

  -- only pins of the order have cells
  pub cells_within : Within CELLS m C.X.order w
  cells_within = record {
    zero = λ p b out. split (mem p (tree C.X.K pl'))
        (λ i. true_false (seen_order p (tree_listed C A.fair p i)) out)
        (λ e. marked_none (get_or w (CELLS * m + p) 0) (counts p b ∙ e));
  }

  -- a needed waiting pin waits
  pub need_waits : (x : ℕ) → In x (in_need C.X pl) → In x C.X.waiting
  unfolding in_need
  need_waits x i = (keep_in _ x C.X.waiting i).0

  -- ---- the last stage

  module _ (last : last_stage C.X pl ≡ true) where
    abbrev ends : List ℕ
    ends = keep (λ p. not (mem p (written C.X pl).real)) (in_tree C.X pl)

    test : (c : ℕ) → c < m → is_end m w c ≡ mem c ends
    unfolding is_end in_tree
    test c b = rw (
      placed_test A.waiting c b,
      unmarked A.realised.marks c b,
      unmarked A.needed c b,
      mem_keep (λ p. not (mem p (written C.X pl).real)) c (in_tree C.X pl),
      mem_keep (λ p. mem p (tree_of C.X pl)) c C.X.waiting,
    )
        (split (mem c C.X.waiting)
        (λ i. rw (last_tree C.X pl last c i) (swapped (mem c C.X.waiting) (not (mem c (written C.X pl).real)) (mem c (tree_of C.X pl))))
        (λ e. rw e refl))

    end_waits : (c : ℕ) → In c ends → In c C.X.waiting
    unfolding in_tree
    end_waits c i = (keep_in _ c C.X.waiting (keep_in _ c (in_tree C.X pl) i).0).0

    no_mark : Out empty ends
    no_mark = split (mem empty ends) (λ i. absurd (omega (arith, waiting_below empty (end_waits empty i), low_mark C, A.graph))) (λ e. e)

    -- the words that the columns tell are rule 10's
    pub end_words_lem : end_words m K pl' w ≡ more_words C.X pl pl'
    unfolding end_words more_words
    end_words_lem = rw A.height (words_up_lem (is_end m w) ends test no_mark C.X.K (cells_pins C A.fair A.graph) C.X.K 1 [])

    -- the tree endpoints that the columns tell are the rules'
    pub tree_ends : keep (is_tree m w) (list WAITING m n w) ≡ in_tree C.X pl
    unfolding is_tree in_tree
    tree_ends = rw A.waiting.held.is (keep_ext (is_tree m w) (λ p. mem p (tree_of C.X pl)) C.X.waiting (λ x i. unmarked A.needed x (waiting_below x i) ∙ last_tree C.X pl last x i))
