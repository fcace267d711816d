-- S5, S2, S4: which pins are needed needs no reverse levels, placing adds none, and of the waiting pins the level decides. Assumes nothing.
use Prim.Native.Nat.{ℕ, zero, suc, ◌≤◌, ◌<◌}
use mathlib.Core.Path.{◌≡◌, refl, sym, ◌∙◌, ap}
use mathlib.Core.Logic.{inl, inr}
use mathlib.Core.Bool.{Bool, true, false, not}
use mathlib.Core.List.{List, [], ◌∷◌}
use native.Mathlib.Omega.{arith}
use lib.Dec.{eqb, ltb, leb, lt→ltb, le→leb, leb→le}
use lib.ListN.{length, get_or}
use borrow.Author.Tests.{ltb-true, ltb-false}
use Rattle.rules.specs.Cells.{empty}
use Rattle.rules.specs.Lists.{mem, keep, distinct, is_nil, gather, In, Out, Sub, nobody}
use Rattle.rules.specs.Graph.{below}
use Rattle.rules.specs.Traversal.{Setting, level_at}
use Rattle.rules.specs.Placing.{asked, asks, needed, tree_of, reverse_of, needed_of}
use Rattle.rules.specs.Ending.{in_need, untouched}
use Rattle.rules.specs.Inside.Lean.{lacks, lacking, noted, wanted, low_waiting, high_waiting}
use Rattle.rules.proofs.Lists.Members.{split, T→true, true→T, true_false, and_true, in_here, in_there, in_nil, in_keep, keep_in, in_distinct, distinct_in, in_gather, gather_in}
use Rattle.rules.specs.Loops.{start}
use Rattle.rules.proofs.Walk.Reverse.{out_sub, nat, reached}
use Rattle.rules.specs.Inside.Walks.{Sound, Marked, Work}
use Rattle.rules.proofs.Needed.Needs.{asked_low}
use Rattle.rules.proofs.Stage.Last.{once_length}
use Rattle.rules.proofs.Written.Words.{once_insert_all}
use Rattle.rules.proofs.Tree.Cone.{unplaced}
use Rattle.rules.specs.Inside.Plans.{Fair}

-- what is gathered depends only on what each entry gives
pub gather_ext : (f g : ℕ → List ℕ) (xs : List ℕ) → ((x : ℕ) → In x xs → f x ≡ g x) → gather f xs ≡ gather g xs
unfolding gather
gather_ext f g [] h = refl
gather_ext f g (x ∷ xs) h = rw (h x (in_here x xs), gather_ext f g xs (λ y i. h y (in_there y x xs i)))

-- what is kept depends only on how each entry tests
pub keep_ext : (f g : ℕ → Bool) (xs : List ℕ) → ((x : ℕ) → In x xs → f x ≡ g x) → keep f xs ≡ keep g xs
unfolding keep
keep_ext f g [] h = refl
keep_ext f g (x ∷ xs) h =
    let t : keep f xs ≡ keep g xs = keep_ext f g xs (λ y i. h y (in_there y x xs i)) in
    let e : f x ≡ g x = h x (in_here x xs) in
    split (g x) (λ d. let c : f x ≡ true = e ∙ d in rw (c, d, keep, t)) (λ d. let c : f x ≡ false = e ∙ d in rw (c, d, keep, t))

-- entries that give nothing may be left out
gather_keep : (t : ℕ → Bool) (f : ℕ → List ℕ) (xs : List ℕ) → ((x : ℕ) → t x ≡ false → f x ≡ []) → gather f (keep t xs) ≡ gather f xs
unfolding gather keep
gather_keep t f [] h = refl
gather_keep t f (x ∷ xs) h = split (t x) (λ e. rw (e, keep, gather, gather_keep t f xs h)) (λ e. rw (e, keep, h x e, gather_keep t f xs h))

-- what is part of an empty list is empty
sub_nil : (xs ys : List ℕ) → Sub xs ys → not (is_nil ys) ≡ false → xs ≡ []
unfolding is_nil
sub_nil [] ys h e = refl
sub_nil (x ∷ xs) [] h e = in_nil x (h x (in_here x xs))
sub_nil (x ∷ xs) (y ∷ ys) h e = true_false refl e

-- two tests that pass in the same cases are the same
pub same_truth : (a b : Bool) → (a ≡ true → b ≡ true) → (b ≡ true → a ≡ true) → a ≡ b
same_truth true b h k = sym (h refl)
same_truth false true h k = k refl
same_truth false false h k = refl

-- what tests at most is at most
pub leb_true : (m n : ℕ) → leb m n ≡ true → m ≤ n
leb_true m n e = leb→le m n (true→T e)

-- and what is at most tests so
pub true_leb : (m n : ℕ) → m ≤ n → leb m n ≡ true
true_leb m n h = T→true _ (le→leb m n h)

-- what is below tests below
pub true_ltb : (m n : ℕ) → m < n → ltb m n ≡ true
true_ltb m n h = T→true _ (lt→ltb m n h)

-- and what isn't doesn't
pub false_ltb : (m n : ℕ) → n ≤ m → ltb m n ≡ false
false_ltb m n h = split (ltb m n) (λ e. absurd (omega (arith, ltb-true m n e))) (λ e. e)

above_one : (l : ℕ) → ltb 1 l ≡ not (leb l 1)
above_one l = split (leb l 1) (λ e. rw (e, false_ltb 1 l (leb_true l 1 e))) (λ e. split (ltb 1 l) (λ d. rw (e, d)) (λ d. true_false (true_leb l 1 (ltb-false 1 l d)) e))

-- what an unplaced pin asks for shrinks as the tree grows, and is low
module _ (X : Setting) where
  asked_falls : (tr tr2 : List ℕ) → Sub tr tr2 → (p l x : ℕ) → In x (asked X tr2 p l) → In x (asked X tr p l)
  unfolding asked
  asked_falls tr tr2 h p zero x e = e
  asked_falls tr tr2 h p (suc zero) x e = e
  asked_falls tr tr2 h p (suc (suc l)) x e =
      let k = keep_in _ x (below X.g X.done p) e in
      split (mem x tr)
      (λ d. let b : mem x tr2 ≡ true = h x d in true_false (and_true (eqb (level_at X x) 0) (not (mem x tr2)) k.1).1 (rw b))
      (λ d. in_keep _ x (below X.g X.done p) k.0 (rw ((and_true (eqb (level_at X x) 0) (not (mem x tr2)) k.1).0, d)))

  -- what a pin lacks, it lacks before anything is placed
  lacks_falls : (tr : List ℕ) (p : ℕ) → Sub (lacks X tr p) (lacks X [] p)
  unfolding lacks mem
  lacks_falls tr p x e = split (mem p tr) (λ d. in_nil x (rw (d, lacks) at e)) (λ d. asked_falls [] tr (λ q i. in_nil q i) p (level_at X p) x (rw (d, lacks) at e))

  -- so the noted pins make the same pins needed as the whole order, in the same order
  pub noted_wanted : (pl : List ℕ) → distinct (gather (lacks X (tree_of X pl)) (noted X)) ≡ wanted X pl
  unfolding wanted noted lacking
  noted_wanted pl = ap distinct (gather_keep (lacking X) (lacks X (tree_of X pl)) X.order (λ p e. sub_nil (lacks X (tree_of X pl) p) (lacks X [] p) (lacks_falls (tree_of X pl) p) e))

  -- a needed pin is asked for by an unplaced one
  pub wanted_in : (pl : List ℕ) (x : ℕ) → In x (wanted X pl) → (p : ℕ) × In p X.order × Out p (tree_of X pl) × In x (asked X (tree_of X pl) p (level_at X p))
  unfolding wanted lacks
  wanted_in pl x e =
      let k = gather_in (lacks X (tree_of X pl)) x X.order (distinct_in x (gather (lacks X (tree_of X pl)) X.order) e) in
      split (mem k.0 (tree_of X pl)) (λ d. in_nil x (rw (d, lacks) at k.2)) (λ d. (k.0, k.1, d, rw (d, lacks) at k.2))

  -- and what an unplaced pin asks for is needed
  pub in_wanted : (pl : List ℕ) (x p : ℕ) → In p X.order → Out p (tree_of X pl) → In x (asked X (tree_of X pl) p (level_at X p)) → In x (wanted X pl)
  unfolding wanted lacks
  in_wanted pl x p i o e = in_distinct x (gather (lacks X (tree_of X pl)) X.order) (in_gather (lacks X (tree_of X pl)) x p X.order i (rw (o, lacks) e))

  -- S2: a tree that holds more leaves no more needed
  pub wanted_falls : (pl pl2 : List ℕ) → Sub (tree_of X pl) (tree_of X pl2) → Sub (wanted X pl2) (wanted X pl)
  wanted_falls pl pl2 h x e =
      let k = wanted_in pl2 x e in
      in_wanted pl x k.0 k.1 (out_sub (tree_of X pl) (tree_of X pl2) h k.0 k.2) (asked_falls (tree_of X pl) (tree_of X pl2) h k.0 (level_at X k.0) x k.3)

  -- so there are no more of them
  pub fewer : (pl pl2 : List ℕ) → Sub (tree_of X pl) (tree_of X pl2) → length (wanted X pl2) ≤ length (wanted X pl)
  unfolding wanted distinct
  fewer pl pl2 h = once_length (once_insert_all (gather (lacks X (tree_of X pl2)) X.order) nobody) (wanted X pl) (wanted_falls pl pl2 h)

  -- needed pins are of level 0 or 1
  pub wanted_low : (pl : List ℕ) (x : ℕ) → In x (wanted X pl) → level_at X x ≤ 1
  wanted_low pl x e = let k = wanted_in pl x e in asked_low X (tree_of X pl) k.0 (level_at X k.0) x refl k.3

  -- a low waiting pin asks for itself
  asks_itself : (tr : List ℕ) (p l : ℕ) → In p X.waiting → l ≤ 1 → In p (asked X tr p l)
  unfolding asked
  asks_itself tr p zero i b = in_keep _ p (p ∷ []) (in_here p []) i
  asks_itself tr p (suc zero) i b = in_here p []
  asks_itself tr p (suc (suc l)) i b = absurd (omega arith)

  asks_nothing : (tr : List ℕ) (p : ℕ) → Out p X.waiting → level_at X p ≡ 0 → asked X tr p (level_at X p) ≡ []
  unfolding asked keep
  asks_nothing tr p o z = rw (z, o, keep)

module _ (W : Work) where
  abbrev X : Setting
  X = W.X

  abbrev r : ℕ → ℕ
  r = W.r

  abbrev f : ℕ
  f = W.f

  abbrev S : Sound X r f
  S = W.S

  abbrev M : Marked X
  M = W.M

  abbrev small : length X.g ≤ empty
  small = W.small

  -- an unplaced listed pin has a reverse level if it is a gate, or waits
  pub has_level_lem : {h : ℕ} {pl : List ℕ} → Fair X h pl → (p : ℕ) → In p X.seen → Out p (tree_of X pl) → 1 ≤ level_at X p → 0 < get_or (reverse_of X pl) p 0
  unfolding reverse_of tree_of
  has_level_lem {h} {pl} k p i o l = reached X S.visited.topo S.bound S.visited.has (tree_of X pl)
      (unplaced X r f S M pl k.len k.sane k.tall k.zeroth (elim (S.visited.new p i) [ inl c ↦ in_nil p c | inr c ↦ c ]) l o)

  waits_level : (pl : List ℕ) (p : ℕ) → In p X.waiting → 0 < get_or (reverse_of X pl) p 0
  unfolding reverse_of
  waits_level pl p i = reached X S.visited.topo S.bound S.visited.has (tree_of X pl) (start i)

  same_asks : {h : ℕ} {pl : List ℕ} → Fair X h pl → (p : ℕ) → In p X.seen → asks X (tree_of X pl) (reverse_of X pl) p ≡ lacks X (tree_of X pl) p
  unfolding asks lacks
  same_asks {h} {pl} k p i = split (mem p (tree_of X pl))
      (λ e. split (ltb 0 (get_or (reverse_of X pl) p 0)) (λ d. rw (d, e, asks, lacks)) (λ d. rw (d, e, asks, lacks)))
      (λ e. nat X.g [] (level_at X p)
      (λ z. split (mem p X.waiting)
      (λ w. rw (true_ltb 0 (get_or (reverse_of X pl) p 0) (waits_level pl p w), e, asks, lacks))
      (λ w. split (ltb 0 (get_or (reverse_of X pl) p 0)) (λ d. rw (d, e, asks, lacks)) (λ d. rw (d, e, asks, lacks) (sym (asks_nothing X (tree_of X pl) p w z)))))
      (λ m z. rw (true_ltb 0 (get_or (reverse_of X pl) p 0) (has_level_lem k p i e (omega arith)), e, asks, lacks)))

  -- S5
  pub same_needed : {h : ℕ} {pl : List ℕ} → Fair X h pl → needed_of X pl ≡ wanted X pl
  unfolding needed_of needed wanted
  same_needed {h} {pl} k = ap distinct (gather_ext (asks X (tree_of X pl) (reverse_of X pl)) (lacks X (tree_of X pl)) X.order (λ p i. same_asks k p (S.listed p i)))

  -- S4
  by_level : (pl : List ℕ) (p : ℕ) → In p X.waiting → Out p (tree_of X pl) → mem p (wanted X pl) ≡ leb (level_at X p) 1
  by_level pl p i o = same_truth (mem p (wanted X pl)) (leb (level_at X p) 1) (λ e. true_leb (level_at X p) 1 (wanted_low X pl p e))
      (λ e. in_wanted X pl p p (S.ordered p (S.visited.has p i)) o (asks_itself X (tree_of X pl) p (level_at X p) i (leb_true (level_at X p) 1 e)))

  -- S4: the needed waiting pins are the unplaced ones of level 0 and 1
  pub same_in_need : {h : ℕ} {pl : List ℕ} → Fair X h pl → in_need X pl ≡ low_waiting X pl
  unfolding in_need low_waiting
  same_in_need {h} {pl} k = rw (same_needed k) (keep_ext _ _ X.waiting (λ p i. split (mem p (tree_of X pl)) (λ e. rw e) (λ e. rw (e, by_level pl p i e))))

  -- and the untouched ones those of level 2 and above
  pub same_untouched : {h : ℕ} {pl : List ℕ} → Fair X h pl → untouched X pl ≡ high_waiting X pl
  unfolding untouched high_waiting
  same_untouched {h} {pl} k = rw (same_needed k) (keep_ext _ _ X.waiting (λ p i. split (mem p (tree_of X pl)) (λ e. rw e) (λ e. rw (e, by_level pl p i e, above_one (level_at X p)))))
