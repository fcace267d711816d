-- Refusals 7 and 8 as counts. Rules 8 and 9 keep the sum of the level-1 cells filled and the needed pins still to be put, so level 1 overflows exactly
-- where the sum after rules 2 to 7 reaches its size. Assumes nothing.
use Prim.Native.Nat.{ℕ, zero, suc, ◌+◌, ◌*◌, ◌^◌, ◌≤◌, ◌<◌}
use mathlib.Core.Path.{◌≡◌, refl, sym, ◌∙◌, ap}
use mathlib.Core.Logic.{inl, inr, ◌≢◌}
use mathlib.Core.Bool.{Bool, true, false, not, ◌&&◌, ◌||◌}
use mathlib.Core.List.{List, [], ◌∷◌}
use native.Mathlib.Omega.{arith}
use lib.Dec.{eqb, ltb}
use lib.ListN.{length, get_or, set, length-take, length-drop}
use borrow.Author.Tests.{not-true}
use Rattle.rules.specs.Lists.{mem, count, distinct, gather, nothing, found, In, Out, Sub, Once, nobody, one}
use Rattle.rules.specs.Cells.{filled, empty, first_empty, level_one_size, row_at, row}
use Rattle.rules.specs.Graph.{Node, leaf, pin_of, below}
use Rattle.rules.specs.Traversal.{WordRule, Setting, setting, level_at}
use Rattle.rules.specs.Placing.{place, tree, tree_of, reverse_of, needed, needed_of, asked, asks, filled_plan}
use Rattle.rules.specs.Ending.{Put, meet, fill_in, put_cell, put_cells, Sparse, put_run, goes_on, put_runs, Plan?, full, plan, put_rest, in_need, last_stage, written, rest, refused, one_stage}
use Rattle.rules.specs.Capacity.{crowd, ones_then, needs_left, StageOver, seven, eight}
use Rattle.rules.specs.Inside.Walks.{Sound, Graph, Ready}
use Rattle.rules.specs.Inside.Counts.{Runs, none, more}
use Rattle.rules.proofs.Lists.Members.{split, true_false, eqb_true, eqb_false, in_here, in_there, in_cons, in_nil, out_head, out_tail, keep_in, distinct_in, gather_in, and_true, or_true}
use Rattle.rules.proofs.Needed.Needs.{setting_sound}
use Rattle.rules.proofs.Needed.Lacks.{same_truth}
use Rattle.rules.proofs.Tree.Held.{node, length_place1}
use Rattle.rules.proofs.Tree.Tally.{bit, set_has, set_grows, set_only, tree_set_low, row_set, row_set_below}
use Rattle.rules.proofs.Stage.Puts.{list, cell, runs_fit, Keeps, cell_keeps, lowest}
use Rattle.rules.proofs.Stage.Staged.{rest_cases, need_filled, half_height, length-filled_plan, two_step}
use Rattle.rules.proofs.Stage.Fuel.{count-length}
use Rattle.rules.proofs.Stage.Over.{LevelOneFull, no_cell, none_empty, Fails, test_seven, test_eight, refused_fails, fails_refused}
use Rattle.rules.proofs.Written.Words.{once_insert_all, once_keep}

-- ---- the pins of a list that a tree lacks

abbrev lack : List ℕ → List ℕ → ℕ
lack ns tr = count (λ p. not (mem p tr)) ns

-- a tree with one pin more
abbrev Plus : ℕ → List ℕ → List ℕ → Type 0
Plus e tr tr2 = In e tr2 × ((q : ℕ) → q ≢ e → mem q tr2 ≡ mem q tr)

lack_same : (e : ℕ) (ns tr tr2 : List ℕ) → Plus e tr tr2 → Out e ns → lack ns tr2 ≡ lack ns tr
unfolding count
lack_same e [] tr tr2 P o = refl
lack_same e (n ∷ ns) tr tr2 P o =
    let d : mem n tr2 ≡ mem n tr = P.1 n (λ z. out_head e n ns o (sym z)) in
    let t : lack ns tr2 ≡ lack ns tr = lack_same e ns tr tr2 P (out_tail e n ns o) in
    split (mem n tr) (λ b. rw (d, b, t, count)) (λ b. rw (d, b, t, count))

lack_falls : (e : ℕ) {ns : List ℕ} (tr tr2 : List ℕ) → Once ns → Plus e tr tr2 → In e ns → Out e tr → suc (lack ns tr2) ≡ lack ns tr
unfolding count
lack_falls e tr tr2 nobody P i o = in_nil e i
lack_falls e tr tr2 (one {x = n} {xs = ns} q k) P i o = split (eqb e n)
    (λ b.
    let z : e ≡ n = eqb_true e n b in
    let a : mem n tr ≡ false = rw z at o in
    let c : mem n tr2 ≡ true = rw z at P.0 in
    let t : lack ns tr2 ≡ lack ns tr = lack_same e ns tr tr2 P (rw z q) in
    rw (a, c, t, count))
    (λ b.
    let z : e ≢ n = eqb_false e n b in
    let d : mem n tr2 ≡ mem n tr = P.1 n (λ y. z (sym y)) in
    elim (in_cons e n ns i) [
      | inl y ↦ absurd (z y)
      | inr y ↦ let t : suc (lack ns tr2) ≡ lack ns tr = lack_falls e tr tr2 k P y o in split (mem n tr) (λ c. rw (d, c, count) t) (λ c. rw (d, c, count) (ap suc t))
    ])

lack_all : (ns tr : List ℕ) → ((x : ℕ) → In x ns → Out x tr) → lack ns tr ≡ length ns
unfolding count
lack_all [] tr h = refl
lack_all (n ∷ ns) tr h = rw (h n (in_here n ns), count) (ap suc (lack_all ns tr (λ x i. h x (in_there x n ns i))))

or_right : (a : Bool) {b : Bool} → b ≡ true → a || b ≡ true
or_right true h = refl
or_right false h = h

-- ---- an empty cell in a row

no_empty : (i : ℕ) (cs : List ℕ) → first_empty i cs ≡ nothing → count filled cs ≡ length cs
unfolding first_empty count
no_empty i [] e = refl
no_empty i (c ∷ cs) e = split (filled c) (λ b. rw (b, count) (ap suc (no_empty (suc i) cs (rw (b, first_empty) at e))))
    (λ b. absurd (let d : found i ≡ nothing = rw (b, first_empty) at e in let z : ◌≡◌ {A = ℕ} 0 1 = cc in omega arith))

some_empty : (i c : ℕ) (cs : List ℕ) → first_empty i cs ≡ found c → count filled cs < length cs
unfolding first_empty count
some_empty i c [] e = absurd (let z : ◌≡◌ {A = ℕ} 0 1 = cc in omega arith)
some_empty i c (x ∷ cs) e = split (filled x) (λ b. rw (b, count) (omega (arith, some_empty (suc i) c cs (rw (b, first_empty) at e)))) (λ b. rw (b, count) (omega (arith, count-length filled cs)))

-- ---- needed pins are not in the tree

asked_out : (X : Setting) (tr : List ℕ) (p l x : ℕ) → Out p tr → In x (asked X tr p l) → Out x tr
unfolding asked
asked_out X tr p zero x o e = elim (in_cons x p [] (keep_in _ x (p ∷ []) e).0) [ inl d ↦ rw d o | inr d ↦ in_nil x d ]
asked_out X tr p (suc zero) x o e = elim (in_cons x p [] e) [ inl d ↦ rw d o | inr d ↦ in_nil x d ]
asked_out X tr p (suc (suc l)) x o e = not-true (mem x tr) (and_true (eqb (level_at X x) 0) (not (mem x tr)) (keep_in _ x (below X.g X.done p) e).1).1

needed_out : (X : Setting) (pl : List ℕ) (x : ℕ) → In x (needed_of X pl) → Out x (tree_of X pl)
unfolding needed_of needed asks
needed_out X pl x e =
    let tr : List ℕ = tree_of X pl in
    let k = gather_in (asks X tr (reverse_of X pl)) x X.order (distinct_in x (gather (asks X tr (reverse_of X pl)) X.order) e) in
    split (ltb 0 (get_or (reverse_of X pl) k.0 0) && not (mem k.0 tr))
    (λ b. asked_out X tr k.0 (level_at X k.0) x (not-true (mem k.0 tr) (and_true (ltb 0 (get_or (reverse_of X pl) k.0 0)) (not (mem k.0 tr)) b).1) (rw (b, asks) at k.2))
    (λ b. in_nil x (rw (b, asks) at k.2))

needed_once : (X : Setting) (pl : List ℕ) → Once (needed_of X pl)
unfolding needed_of needed distinct
needed_once X pl = once_insert_all (gather (asks X (tree_of X pl) (reverse_of X pl)) X.order) nobody

-- ---- a pin into an empty cell of level 1

module _ (X : Setting) (half : 2 ^ X.K ≡ row_at X.K 1 + row_at X.K 1) where
  abbrev w1 : ℕ
  w1 = row_at X.K 1

  module _ (pl : List ℕ) (c e : ℕ) (lo : w1 ≤ c) where
    put_tree : tree X.K (place X 1 w1 c e pl) ≡ tree X.K (set pl c e)
    unfolding place
    put_tree = split (ltb (level_at X e) 1) (λ b. rw (b, place) (tree_set_low X.K (set pl c e) (c + w1) e (omega arith)))
        (λ b. node (get_or X.g e leaf) (λ d. rw (b, d, place))
        (λ x y d. rw (b, d, place) (tree_set_low X.K (set (set pl c e) (c + w1) (pin_of x)) (c + 2 * w1) (pin_of y) (omega arith) ∙ tree_set_low X.K (set pl c e) (c + w1) (pin_of x) (omega arith))))

    put_row : row X.K 1 (place X 1 w1 c e pl) ≡ row X.K 1 (set pl c e)
    unfolding place
    put_row = split (ltb (level_at X e) 1) (λ b. rw (b, place) (row_set_below X.K 1 (set pl c e) (c + w1) e (omega arith)))
        (λ b. node (get_or X.g e leaf) (λ d. rw (b, d, place))
        (λ x y d. rw (b, d, place) (row_set_below X.K 1 (set (set pl c e) (c + w1) (pin_of x)) (c + 2 * w1) (pin_of y) (omega arith) ∙ row_set_below X.K 1 (set pl c e) (c + w1) (pin_of x) (omega arith))))

    module _ (l : 2 ^ X.K ≤ length pl) (hi : c < 2 ^ X.K) (free : filled (get_or pl c empty) ≡ false) (full : filled e ≡ true) where
      one_more : count filled (row X.K 1 (place X 1 w1 c e pl)) ≡ suc (count filled (row X.K 1 pl))
      one_more =
          let t : count filled (row X.K 1 (set pl c e)) + bit (filled (get_or pl c empty)) ≡ count filled (row X.K 1 pl) + bit (filled e) = row_set X.K 1 pl c e lo (omega arith) (omega arith) in
          let s : count filled (row X.K 1 (set pl c e)) + 0 ≡ count filled (row X.K 1 pl) + 1 = rw (free, full) at t in
          rw put_row (omega arith)

      plus : Plus e (tree X.K pl) (tree X.K (place X 1 w1 c e pl))
      plus = rw put_tree (
        set_has X.K pl c e hi (omega arith) free full,
        λ q n. same_truth (mem q (tree X.K (set pl c e))) (mem q (tree X.K pl))
            (λ i. elim (set_only X.K pl c e hi (omega arith) free full q i) [ inl d ↦ absurd (n d) | inr d ↦ d ])
            (λ i. set_grows X.K pl c e hi (omega arith) free full q i),
      )

  -- ---- rule 8 keeps the sum

  module _ (pl : List ℕ) (l : 2 ^ X.K ≤ length pl) (ns : List ℕ) (once : Once ns) (total : ℕ) where
    record Even (s : Put) : Type 0 where
      sum : count filled (row X.K 1 s.plan) + lack ns (tree X.K s.plan) ≡ total
      keeps : Keeps X half pl s
      apart : (x : ℕ) → In x s.left → Out x (tree X.K s.plan)
      need : Sub s.left ns
      each : Once s.left

    cell_even : (p : ℕ) (s : Put) → w1 ≤ p → p < 2 ^ X.K → Even s → Even (put_cell X p s)
    unfolding put_cell meet fill_in
    cell_even p s lo hi v =
        let k : Keeps X half pl (put_cell X p s) = cell_keeps X half pl l p s lo hi v.keeps in
        list s.left (λ e. rw (e, put_cell) v)
        (λ y ys e. split (filled (get_or s.plan p empty))
        (λ b. rw (e, b, put_cell) (record { sum = v.sum; keeps = rw (e, b, put_cell) at k; apart = v.apart; need = v.need; each = v.each }))
        (λ b.
        let here : In y s.left = rw e (in_here y ys) in
        let long : 2 ^ X.K ≤ length s.plan = rw v.keeps.len l in
        let o : Out y (tree X.K s.plan) = v.apart y here in
        let P = plus s.plan p y lo long hi b (v.keeps.fine y here) in
        let c = one_more s.plan p y lo long hi b (v.keeps.fine y here) in
        let f = lack_falls y (tree X.K s.plan) (tree X.K (place X 1 w1 p y s.plan)) once P (v.need y here) o in
        let u : Once (y ∷ ys) = rw e at v.each in
        rw (e, b, put_cell) (record {
          sum = omega (arith, v.sum);
          keeps = rw (e, b, put_cell) at k;
          apart = λ x i. P.1 x (λ z. true_false (rw z at i) (head_out u)) ∙ v.apart x (rw e (in_there x y ys i));
          need = λ x i. v.need x (rw e (in_there x y ys i));
          each = tail_once u;
        })))
      where
        head_out : {y : ℕ} {ys : List ℕ} → Once (y ∷ ys) → Out y ys
        head_out (one o k) = o

        tail_once : {y : ℕ} {ys : List ℕ} → Once (y ∷ ys) → Once ys
        tail_once (one o k) = k

    cells_even : (n p : ℕ) (s : Put) → w1 ≤ p → p + n ≤ 2 ^ X.K → Even s → Even (put_cells X n p s)
    unfolding put_cells
    cells_even zero p s lo hi v = v
    cells_even (suc n) p s lo hi v = cells_even n (suc p) (put_cell X p s) (omega arith) (omega arith) (cell_even p s lo (omega arith) v)

    runs_even : (last : Bool) {rs : List Sparse} → Runs w1 rs → (s : Put) → Even s → Even (put_runs X last rs s)
    unfolding put_runs put_run
    runs_even last none s v = v
    runs_even last (more {r = r} {rs = rs} h i) s v =
        let c : Even (put_cells X 32 (w1 + r.start) s) = cells_even 32 (w1 + r.start) s (omega arith) (omega arith) v in
        let k : Keeps X half pl (put_cells X 32 (w1 + r.start) s) = c.keeps in
        split (goes_on X.rule last r.filled (length s.left))
        (λ e. rw (e, put_runs) (runs_even last i (put_run X r s) (record { sum = c.sum; keeps = record { len = k.len; grows = k.grows; real = k.real; fine = k.fine }; apart = c.apart; need = c.need; each = c.each })))
        (λ e. rw (e, put_runs) v)

  -- ---- rule 9 fills the sum up, or overflows

  rest_counts : {ps : List ℕ} (real pl pl2 : List ℕ) → Once ps → 2 ^ X.K ≤ length pl → Sub real (tree X.K pl) → ((x : ℕ) → In x ps → filled x ≡ true) → put_rest X ps real pl ≡ plan pl2 →
      (count filled (row X.K 1 pl2) ≡ count filled (row X.K 1 pl) + lack ps (tree X.K pl)) × (length pl2 ≡ length pl)
  unfolding put_rest count
  rest_counts real pl pl2 nobody l k fine e = let d : pl2 ≡ pl = cc in rw d (omega arith, refl)
  rest_counts real pl pl2 (one {x = p} {xs = ps} o u) l k fine e = split (mem p real || mem p (tree X.K pl))
      (λ b.
      let i : In p (tree X.K pl) = elim (or_true (mem p real) (mem p (tree X.K pl)) b) [ inl a ↦ k p a | inr a ↦ a ] in
      rw (i, count) (rest_counts real pl pl2 u l k (λ x j. fine x (in_there x p ps j)) (rw (b, put_rest) at e)))
      (λ b. cell (first_empty w1 (row X.K 1 pl))
      (λ n. absurd (let z : ◌≡◌ {A = Plan?} full (plan pl2) = rw (b, n, put_rest) at e in let y : ◌≡◌ {A = ℕ} 0 1 = cc in omega arith))
      (λ c n.
      let at = lowest X half pl c l n in
      let out : Out p (tree X.K pl) = split (mem p (tree X.K pl)) (λ i. true_false (or_right (mem p real) i) b) (λ i. i) in
      let pl1 : List ℕ = place X 1 w1 c p pl in
      let len : length pl1 ≡ length pl = length_place1 X w1 c p pl in
      let P = plus pl c p at.0 l at.1 at.2 (fine p (in_here p ps)) in
      let m : count filled (row X.K 1 pl1) ≡ suc (count filled (row X.K 1 pl)) = one_more pl c p at.0 l at.1 at.2 (fine p (in_here p ps)) in
      let s : lack ps (tree X.K pl1) ≡ lack ps (tree X.K pl) = lack_same p ps (tree X.K pl) (tree X.K pl1) P o in
      let h = rest_counts real pl1 pl2 u (omega arith) (λ q i. split (eqb q p) (λ z. let y : q ≡ p = eqb_true q p z in rw y P.0) (λ z. P.1 q (eqb_false q p z) ∙ k q i)) (λ x i. fine x (in_there x p ps i)) (rw (b, n, put_rest) at e) in
      rw (out, count) (omega (arith, h.0), h.1 ∙ len)))

  row_size : (pl : List ℕ) → 2 ^ X.K ≤ length pl → length (row X.K 1 pl) ≡ w1
  unfolding row
  row_size pl l = simp (length-take, length-drop) (omega arith)

  rest_over : {ps : List ℕ} (real pl : List ℕ) → Once ps → 2 ^ X.K ≤ length pl → Sub real (tree X.K pl) → ((x : ℕ) → In x ps → filled x ≡ true) → put_rest X ps real pl ≡ full →
      w1 < count filled (row X.K 1 pl) + lack ps (tree X.K pl)
  unfolding put_rest count
  rest_over real pl nobody l k fine e = absurd (let z : ◌≡◌ {A = ℕ} 0 1 = cc in omega arith)
  rest_over real pl (one {x = p} {xs = ps} o u) l k fine e = split (mem p real || mem p (tree X.K pl))
      (λ b.
      let i : In p (tree X.K pl) = elim (or_true (mem p real) (mem p (tree X.K pl)) b) [ inl a ↦ k p a | inr a ↦ a ] in
      rw (i, count) (rest_over real pl u l k (λ x j. fine x (in_there x p ps j)) (rw (b, put_rest) at e)))
      (λ b.
      let out : Out p (tree X.K pl) = split (mem p (tree X.K pl)) (λ i. true_false (or_right (mem p real) i) b) (λ i. i) in
      cell (first_empty w1 (row X.K 1 pl))
      (λ n. rw (out, count) (omega (arith, no_empty w1 (row X.K 1 pl) n, row_size pl l)))
      (λ c n.
      let at = lowest X half pl c l n in
      let pl1 : List ℕ = place X 1 w1 c p pl in
      let len : length pl1 ≡ length pl = length_place1 X w1 c p pl in
      let P = plus pl c p at.0 l at.1 at.2 (fine p (in_here p ps)) in
      let m : count filled (row X.K 1 pl1) ≡ suc (count filled (row X.K 1 pl)) = one_more pl c p at.0 l at.1 at.2 (fine p (in_here p ps)) in
      let s : lack ps (tree X.K pl1) ≡ lack ps (tree X.K pl) = lack_same p ps (tree X.K pl) (tree X.K pl1) P o in
      let h = rest_over real pl1 u (omega arith) (λ q i. split (eqb q p) (λ z. let y : q ≡ p = eqb_true q p z in rw y P.0) (λ z. P.1 q (eqb_false q p z) ∙ k q i)) (λ x i. fine x (in_there x p ps i)) (rw (b, n, put_rest) at e) in
      rw (out, count) (omega arith)))

count_same : (f h : ℕ → Bool) (ns : List ℕ) → ((x : ℕ) → f x ≡ h x) → count f ns ≡ count h ns
unfolding count
count_same f h [] k = refl
count_same f h (n ∷ ns) k = let t : count f ns ≡ count h ns = count_same f h ns k in split (h n) (λ b. rw (k n, b, t, count)) (λ b. rw (k n, b, t, count))

-- ---- a stage

module _ (X : Setting) (r : ℕ → ℕ) (f : ℕ) (S : Sound X r f) (half : 2 ^ X.K ≡ row_at X.K 1 + row_at X.K 1) (small : length X.g ≤ empty) (each : Once X.waiting) (pl : List ℕ) (l : 2 ^ X.K ≤ length pl) where
  written_even : Even X half pl l (needed_of X pl) (needed_once X pl) (crowd X pl) (written X pl)
  unfolding written in_need crowd tree_of
  written_even = runs_even X half pl l (needed_of X pl) (needed_once X pl) (crowd X pl) (last_stage X pl) (runs_fit X.K pl) (record { plan = pl; left = in_need X pl; real = []; words = [] }) (record {
    sum = rw (lack_all (needed_of X pl) (tree X.K pl) (needed_out X pl)) refl;
    keeps = record { len = refl; grows = λ q e. e; real = λ q e. in_nil q e; fine = λ x e. need_filled X r f S half small pl x (needs x e) };
    apart = λ x e. needed_out X pl x (needs x e);
    need = needs;
    each = once_keep (λ p. not (mem p (tree_of X pl)) && mem p (needed_of X pl)) each;
  })
    where
      needs : (x : ℕ) → In x (in_need X pl) → In x (needed_of X pl)
      needs x e = (and_true (not (mem x (tree_of X pl))) (mem x (needed_of X pl)) (keep_in _ x X.waiting e).1).1

  long : 2 ^ X.K ≤ length (written X pl).plan
  long = rw written_even.keeps.len l

  -- where rule 9 starts the sum is the same
  pub left_crowd : ones_then X pl + needs_left X pl ≡ crowd X pl
  unfolding ones_then needs_left
  left_crowd = ap (λ (n : ℕ). count filled (row X.K 1 (written X pl).plan) + n) (count_same _ _ (needed_of X pl) (λ x. ap not (absorbed (written X pl).real (tree X.K (written X pl).plan) written_even.keeps.real x))) ∙ written_even.sum
    where
      absorbed : (xs ys : List ℕ) → Sub xs ys → (x : ℕ) → mem x xs || mem x ys ≡ mem x ys
      absorbed xs ys h x = split (mem x xs) (λ b. rw (b, h x b)) (λ b. rw b)

  -- what rule 9 leaves at level 1
  rest_crowd : (pl2 : List ℕ) → rest X pl ≡ plan pl2 → (count filled (row X.K 1 pl2) ≡ crowd X pl) × (length (row X.K 1 pl2) ≡ row_at X.K 1)
  unfolding rest
  rest_crowd pl2 e =
      let v = written_even in
      let h = rest_counts X half (written X pl).real (written X pl).plan pl2 (needed_once X pl) long v.keeps.real (need_filled X r f S half small pl) e in
      (h.0 ∙ v.sum, row_size X half pl2 (omega (arith, h.1, long)))

  full_crowd : rest X pl ≡ full → row_at X.K 1 < crowd X pl
  unfolding rest
  full_crowd e =
      let v = written_even in
      omega (arith, rest_over X half (written X pl).real (written X pl).plan (needed_once X pl) long v.keeps.real (need_filled X r f S half small pl) e, v.sum)

  -- level 1 is full exactly where the count reaches its size
  full_counts : LevelOneFull X pl → row_at X.K 1 ≤ crowd X pl
  full_counts (no_cell e) = omega (arith, full_crowd e)
  full_counts (none_empty pl2 e n) = let h = rest_crowd pl2 e in omega (arith, no_empty 0 (row X.K 1 pl2) n, h.0, h.1)

  counts_full : row_at X.K 1 ≤ crowd X pl → LevelOneFull X pl
  counts_full c = rest_cases (rest X pl) no_cell
      (λ pl2 e. cell (first_empty 0 (row X.K 1 pl2)) (none_empty pl2 e) (λ i n. absurd (let h = rest_crowd pl2 e in omega (arith, some_empty 0 i (row X.K 1 pl2) n, h.0, h.1))))

-- a stage of a build, with so many words left of the limit
module _ (rule : WordRule) (K : ℕ) (g : List Node) (r : ℕ → ℕ) (G : Graph g r) (tall : 6 ≤ K) (small : length g ≤ empty) (done waiting : List ℕ) (R : Ready g r waiting) (limit spent room : ℕ) (left : spent + room ≡ limit) where
  abbrev the : Setting
  the = setting rule K g done waiting

  abbrev planned : List ℕ
  planned = filled_plan (setting rule K g done waiting)

  long_enough : 2 ^ K ≤ length planned
  unfolding setting
  long_enough = rw length-filled_plan (omega (arith, two_step K))

  over_counts : LevelOneFull the planned → level_one_size K ≤ crowd the planned
  unfolding setting row_at
  over_counts = full_counts the r (length g) (setting_sound rule K g r G done waiting R.bounded) (half_height K (omega arith)) small R.once planned long_enough

  counts_over : level_one_size K ≤ crowd the planned → LevelOneFull the planned
  unfolding setting row_at
  counts_over = counts_full the r (length g) (setting_sound rule K g r G done waiting R.bounded) (half_height K (omega arith)) small R.once planned long_enough

  counted : {n : ℕ} → Fails the room planned n → StageOver the limit spent planned n
  unfolding setting
  counted (test_seven h) = seven (omega arith)
  counted (test_eight h f) = eight (omega arith) (over_counts f)

  -- a stage that is refused is over by what a person counts
  pub refused_over : (n : ℕ) → one_stage rule K g done waiting room ≡ refused n → StageOver the limit spent planned n
  unfolding one_stage
  refused_over n e = counted (refused_fails the room planned n e)

  -- and a stage that is over is refused
  pub over_refused : {n : ℕ} → StageOver the limit spent planned n → one_stage rule K g done waiting room ≡ refused n
  unfolding one_stage setting
  over_refused (seven h) = fails_refused the room planned (test_seven (omega arith))
  over_refused (eight h c) = fails_refused the room planned (test_eight (omega arith) (counts_over c))
