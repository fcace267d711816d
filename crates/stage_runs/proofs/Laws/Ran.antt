-- Rule 8 as a whole: the classes and what the runs leave. Assumes nothing.
use mathlib.Core.Path.{◌≡◌, refl, sym, ap, ◌∙◌}
use mathlib.Core.Logic.{◌≢◌, inl, inr}
use mathlib.Core.Bool.{Bool, false, not, ◌&&◌}
use mathlib.Core.List.{List, [], ◌∷◌, ◌++◌, append-nil, append_assoc, map}
use Prim.Native.Nat.{ℕ, ◌+◌, ◌*◌, ◌<◌, ◌≤◌}
use native.Mathlib.Omega.{arith}
use lib.Dec.{eqb, leb, ltb}
use lib.ListN.{get_or, take, length-map, length-take, length}
use lib.Seq.{length-take-le}
use borrow.Author.Tests.{ltb-true, ltb-false}
use Rattle.rules.specs.Lists.{mem, keep, is_nil, insert, insert_all, In, Out, Once, nobody, one}
use Rattle.rules.specs.Traversal.{level_at}
use Rattle.rules.specs.Placing.{tree_of}
use Rattle.rules.specs.Inside.Lean.{low_waiting, high_waiting}
use Rattle.rules.specs.Ending as rules
use Rattle.rules.proofs.Lists.Members.{split, in_here, in_there, in_cons, in_out, in_nil, out_append, keep_in, true_false, and_true}
use Rattle.rules.proofs.Stage.Puts.{runs_fit}
use Rattle.rules.proofs.Needed.Lacks.{keep_ext, same_truth, leb_true, true_leb, same_in_need, same_untouched}
use Rattle.rules.proofs.Tree.Tally.{tree_cells}
use Rattle.rules.proofs.Tree.Fair.{listed_filled}
use Rattle.rules.proofs.Written.Words.{once_keep}
use Rattle.columns.specs.Fields.{LEVEL, CELLS, WAITING, STACK, PHASE, MARK, SPARE}
use Rattle.columns.specs.Lists.{list, span, Marked}
use Rattle.columns.proofs.Area.Columns.{get_or_col}
use Rattle.columns.proofs.Area.Frames.{frame_then, frame_more}
use Rattle.columns.proofs.Lists.Entries.{holds_self}
use Rattle.columns.proofs.Lists.Marks.{marks_frame, marked_none}
use Rattle.columns.proofs.Lists.Places.{placed_frame}
use Rattle.columns.proofs.Lists.Swap.{insert_new}
use Rattle.stage_walk.specs.Stands.{Context}
use Rattle.stage_walk.proofs.Contexts.{work}
use Rattle.stage_tree.specs.Bits.{Standing}
use Rattle.stage_tree.proofs.Bits.Standing.{stands_frame}
use Rattle.stage_runs.specs.declared.puts.Written.{Written}
use Rattle.stage_sparse.specs.declared.Sparse.{Sparse}
use Rattle.stage_runs.specs.Classes.{is_needed, is_untouched, SplitAt, Classes}
use Rattle.stage_sparse.specs.Runs.{known, runs, listed, RunsAt, Sorted}
use Rattle.stage_runs.specs.Puts.{put_of, words_of, WriteAt, Wrote}
use Rattle.stage_runs.specs.Ran.{EndAt, Ran}
use Rattle.stage_runs.proofs.Laws.Plain.{not_not, not_zero}

-- ---- lists

out_one : (z x : ℕ) → z ≢ x → Out z (x ∷ [])
out_one z x n = split (mem z (x ∷ [])) (λ e. elim (in_cons z x [] e) [ inl d ↦ absurd (n d) | inr d ↦ in_nil z d ]) (λ e. e)

-- a list without repeats is what inserting its entries makes
insert_once : {xs : List ℕ} → Once xs → (ys : List ℕ) → ((x : ℕ) → In x xs → Out x ys) → insert_all xs ys ≡ ys ++ xs
unfolding insert_all
insert_once nobody ys h = sym (append-nil ys)
insert_once (one {x = x} {xs = xs} o k) ys h =
    let e : insert x ys ≡ ys ++ (x ∷ []) = insert_new x ys (h x (in_here x xs)) in
    rw e (insert_once k (ys ++ (x ∷ [])) (λ z i. out_append z ys (x ∷ []) (h z (in_there z x xs i)) (out_one z x (in_out z x xs i o))) ∙ append_assoc ys (x ∷ []) xs)

distinct_once : {xs : List ℕ} → Once xs → insert_all xs [] ≡ xs
unfolding mem
distinct_once k = insert_once k [] (λ x i. refl)

-- ---- the classes

module _ {C : Context} {m h : ℕ} {gates pl w : List ℕ} (A : Standing C m h gates pl w) (x : ℕ) (listed : In x C.X.seen) where
  pin_below : x < m
  pin_below = omega (arith, C.S.bound x listed, A.base.size)

  -- the counts tell what is in the tree
  pub counted : not (eqb (get_or w (CELLS * m + x) 0) 0) ≡ mem x (tree_of C.X pl)
  unfolding tree_of
  counted = rw (A.tally.cells x pin_below, not_zero) (sym (tree_cells C.X.K pl x (listed_filled (work C) x listed)))

  uncounted : eqb (get_or w (CELLS * m + x) 0) 0 ≡ not (mem x (tree_of C.X pl))
  uncounted = sym (not_not (eqb (get_or w (CELLS * m + x) 0) 0)) ∙ ap not counted

  level_is : get_or w (LEVEL * m + x) 0 ≡ level_at C.X x
  unfolding level_at
  level_is = sym (get_or_col LEVEL m w x pin_below) ∙ ap (λ (l : List ℕ). get_or l x 0) A.levelled.levels

  low_or_high : (l : ℕ) → not (ltb 1 l) ≡ leb l 1
  low_or_high l = split (ltb 1 l)
      (λ e. rw e (same_truth false (leb l 1) (λ d. true_false d refl) (λ d. absurd (omega (arith, ltb-true 1 l e, leb_true l 1 d)))))
      (λ e. rw e (sym (true_leb l 1 (ltb-false 1 l e))))

  -- the columns tell which waiting pin is needed
  pub needed_is : is_needed m w x ≡ (not (mem x (tree_of C.X pl)) && leb (level_at C.X x) 1)
  unfolding is_needed
  needed_is = rw (uncounted, level_is, low_or_high) refl

  -- the columns tell which waiting pin is untouched
  pub untouched_is : is_untouched m w x ≡ (not (mem x (tree_of C.X pl)) && ltb 1 (level_at C.X x))
  unfolding is_untouched
  untouched_is = rw (uncounted, level_is) refl

module _ {C : Context} {m K half n : ℕ} {at room : ℕ} {gates pl w words : List ℕ} (A : EndAt C m K half n at room gates pl w words) where
  abbrev low : List ℕ
  low = low_waiting C.X pl

  list_is : list WAITING m n w ≡ C.X.waiting
  list_is = A.begun.waiting.held.is

  seen : (x : ℕ) → In x C.X.waiting → In x C.X.seen
  seen x i = C.S.visited.has x i

  -- the waiting pins may be classed
  pub split_at : SplitAt m n w
  split_at = record { area = A.stands.base.area; waiting = rw list_is A.begun.waiting.held; clear = A.spare }

  in_need_lem : rules.in_need C.X pl ≡ low
  in_need_lem = same_in_need (work C) A.stands.fair

  module _ {w1 : List ℕ} {k : ℕ} {u : Bool} (S : Classes m n w w1 k u) where
    kept_low : keep (is_needed m w) (list WAITING m n w) ≡ low
    unfolding low_waiting
    kept_low = rw list_is (keep_ext (is_needed m w) (λ p. not (mem p (tree_of C.X pl)) && leb (level_at C.X p) 1) C.X.waiting (λ x i. needed_is A.stands x (seen x i)))

    needed_list : insert_all (keep (is_needed m w) (list WAITING m n w)) [] ≡ low
    unfolding low_waiting
    needed_list = rw kept_low (distinct_once (once_keep (λ p. not (mem p (tree_of C.X pl)) && leb (level_at C.X p) 1) A.begun.waiting.once))

    now : Marked PHASE SPARE m k low w1
    now = rw needed_list at S.now

    -- no untouched pin: it is the last stage
    pub last_is : not u ≡ rules.last_stage C.X pl
    unfolding rules.last_stage high_waiting
    last_is = rw (S.untouched, list_is, same_untouched (work C) A.stands.fair, not_not)
        (ap is_nil (keep_ext (is_untouched m w) (λ p. not (mem p (tree_of C.X pl)) && ltb 1 (level_at C.X p)) C.X.waiting (λ x i. untouched_is A.stands x (seen x i))))

    -- the sparse runs may be found
    pub runs_at : RunsAt K half pl
    runs_at = record { low = omega (arith, A.height, C.low); high = omega (arith, A.height, C.high); row = A.row; size = rw A.height A.stands.fair.len }

    module _ {records : List Sparse} {count : ℕ} (Q : Sorted K pl (runs records count)) where
      abbrev R : List Sparse
      R = take count records

      R_few : length R ≤ 128
      R_few = omega (arith, Q.few, length-take count records)

      runs_now : map known R ≡ rules.sparse_runs K pl
      unfolding listed
      runs_now = Q.now

      none_real : list STACK m 0 w1 ≡ []
      unfolding list
      none_real = refl

      low_pin : (x : ℕ) → In x low → In x C.X.waiting × (level_at C.X x ≤ 1)
      unfolding low_waiting
      low_pin x i =
          let t = keep_in (λ p. not (mem p (tree_of C.X pl)) && leb (level_at C.X p) 1) x C.X.waiting i in
          (t.0, leb_true (level_at C.X x) 1 (and_true (not (mem x (tree_of C.X pl))) (leb (level_at C.X x) 1) t.1).1)

      -- the sparse runs may be written
      pub write_at : WriteAt C m half k at room R gates pl w1 words
      write_at = record {
        now = record {
          stands = stands_frame S.frame refl refl refl A.stands;
          waiting = rw A.begun.waiting.held.count (placed_frame A.begun.waiting S.frame refl refl (omega arith) (omega arith));
          needed = holds_self now.held;
          low = rw now.held.is low_pin;
          upto = omega arith;
          real = rw none_real (marked_none (λ p b. S.frame.cell MARK refl (omega arith) p b ∙ A.marks p b));
          waits = λ x i. in_nil x (rw none_real at i);
        };
        row = A.row ∙ rw A.height refl;
        few = R_few;
        inside = rw (runs_now, A.row) (runs_fit K pl);
        ruled = A.ruled;
        fits = A.fits;
      }

      module _ {e : Written} {pl1 w2 words1 : List ℕ} (W : Wrote C m half k (not u) at room R gates pl w1 words e pl1 w2 words1) where
        abbrev ws : List ℕ
        ws = words_of half (take e.words (map known R))

        all_left : span PHASE m 0 k w1 ≡ rules.in_need C.X pl
        unfolding span
        all_left = now.held.is ∙ sym in_need_lem

        runs_are : map known R ≡ rules.sparse_runs C.X.K pl
        runs_are = runs_now ∙ ap (λ (K : ℕ). rules.sparse_runs K pl) A.height

        start_is : put_of m k (record { next = 0; real = 0 }) pl w1 [] ≡ record { plan = pl; left = rules.in_need C.X pl; real = []; words = [] }
        unfolding put_of
        start_is = rw (all_left, none_real) refl

        written_is : rules.written C.X pl ≡ put_of m k e.puts pl1 w2 ws
        unfolding rules.written
        written_is = rw runs_are (rw (last_is, runs_are, start_is) at W.is)

        plan_is : (rules.written C.X pl).plan ≡ pl1
        unfolding put_of
        plan_is = ap (λ (s : rules.Put). s.plan) written_is

        real_is : (rules.written C.X pl).real ≡ list STACK m e.puts.real w2
        unfolding put_of
        real_is = ap (λ (s : rules.Put). s.real) written_is

        words_are : (rules.written C.X pl).words ≡ ws
        unfolding put_of
        words_are = ap (λ (s : rules.Put). s.words) written_is

        -- classes, records and runs together are rule 8
        pub ran : Ran C m at room gates pl w words (record { last = not u; real = e.puts.real; words = e.words }) pl1 w2 words1
        unfolding words_of
        ran = record {
          touched = record {
            frame = frame_then (frame_more refl S.frame) (frame_more refl W.moved.frame);
            rest = λ j a b c d. W.moved.rest j a b c d ∙ S.frame.past refl j a;
          };
          stands = W.now.stands;
          size = W.size;
          is_plan = sym plan_is;
          is_last = last_is;
          needed = rw in_need_lem (marks_frame now.marks W.moved.frame refl (omega arith));
          realised = rw real_is W.now.real;
          waits = rw real_is W.now.waits;
          count = rw (words_are, length-map, length-take-le e.words (map known R) (rw length-map W.upto)) refl;
          few = omega (arith, W.upto, R_few);
          wrote = rw words_are W.wrote;
        }
