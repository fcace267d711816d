-- Counts that the code keeps while it sets one cell after another: cells by pin, pins in the tree, filled cells of level 1. Assumes nothing.
use Prim.Native.Nat.{ℕ, zero, suc, ◌+◌, ◌-◌, ◌^◌, ◌≤◌, ◌<◌}
use mathlib.Core.Path.{◌≡◌, sym, ◌∙◌, ap, subst}
use mathlib.Core.Logic.{◌⊎◌, inl, inr, ◌≢◌}
use mathlib.Core.Bool.{Bool, true, false}
use mathlib.Core.List.{List, [], ◌∷◌}
use native.Mathlib.Omega.{arith}
use lib.Dec.{eqb, ltb}
use lib.ListN.{length, get_or, set, take, drop, length-set, length-take, length-drop}
use lib.Seq.{get_or-set_same, get_or-set_other, take-set-lt, take-set-le, drop-set-lt, drop-set-add, get_or-take, get_or-drop}
use borrow.Author.Tests.{ltb-true}
use Rattle.rules.specs.Lists.{mem, keep, distinct, count, In, Out, Sub, Once, nobody, one}
use Rattle.rules.specs.Cells.{empty, filled, row_at, row}
use Rattle.rules.specs.Placing.{tree}
use Rattle.rules.specs.Inside.Lean.{cells_holding}
use Rattle.rules.proofs.Lists.Members.{split, true_false, eqb_true, eqb_false, in_here, in_there, in_cons, in_nil, in_keep, keep_in, in_distinct, distinct_in}
use Rattle.rules.proofs.Tree.Held.{in_tree, tree_in}
use Rattle.rules.proofs.Stage.Last.{once_length}
use Rattle.rules.proofs.Written.Words.{once_insert_all}
use Rattle.rules.proofs.Tree.Loads.{set_either}
use Rattle.rules.proofs.Needed.Lacks.{same_truth, true_ltb}

-- 1 for what is counted, else 0
abbrev pub bit : Bool → ℕ
bit true = 1
bit false = 0

-- one entry is set
pub count_set : (f : ℕ → Bool) (xs : List ℕ) (k n d : ℕ) → k < length xs → count f (set xs k n) + bit (f (get_or xs k d)) ≡ count f xs + bit (f n)
unfolding count
count_set f [] k n d b = absurd (omega arith)
count_set f (x ∷ xs) zero n d b = split (f x)
    (λ e. split (f n) (λ c. rw (e, c, count)) (λ c. rw (e, c, count) (omega arith)))
    (λ e. split (f n) (λ c. rw (e, c, count) (omega arith)) (λ c. rw (e, c, count)))
count_set f (x ∷ xs) (suc k) n d b =
    let ih : count f (set xs k n) + bit (f (get_or xs k d)) ≡ count f xs + bit (f n) = count_set f xs k n d (omega arith) in
    split (f x) (λ e. rw (e, count) (omega arith)) (λ e. rw (e, count) ih)

-- cells by pin
pub cells_set : (K : ℕ) (pl : List ℕ) (p n x : ℕ) → p < 2 ^ K → p < length pl → cells_holding K (set pl p n) x + bit (eqb (get_or pl p empty) x) ≡ cells_holding K pl x + bit (eqb n x)
unfolding cells_holding
cells_set K pl p n x b l = rw (take-set-lt (2 ^ K) pl p n b, ← get_or-take (2 ^ K) pl p empty b) (count_set (λ c. eqb c x) (take (2 ^ K) pl) p n empty (rw length-take (omega arith)))

-- a cell of level 0 is not counted
pub cells_set_low : (K : ℕ) (pl : List ℕ) (p n x : ℕ) → 2 ^ K ≤ p → cells_holding K (set pl p n) x ≡ cells_holding K pl x
unfolding cells_holding
cells_set_low K pl p n x b = rw (take-set-le (2 ^ K) pl p n b)

count_pos : (x : ℕ) (xs : List ℕ) → In x xs → 0 < count (λ c. eqb c x) xs
unfolding count
count_pos x [] e = in_nil x e
count_pos x (y ∷ ys) e = split (eqb y x) (λ d. rw (d, count) (omega arith))
    (λ d. rw (d, count) (elim (in_cons x y ys e) [ inl c ↦ absurd (eqb_false y x d (sym c)) | inr c ↦ count_pos x ys c ]))

pos_count : (x : ℕ) (xs : List ℕ) → 0 < count (λ c. eqb c x) xs → In x xs
unfolding count
pos_count x [] h = absurd (omega arith)
pos_count x (y ∷ ys) h = split (eqb y x) (λ d. let z : y ≡ x = eqb_true y x d in rw z (in_here x ys)) (λ d. in_there x y ys (pos_count x ys (rw (d, count) at h)))

-- a pin is in the tree if a cell holds it
pub tree_cells : (K : ℕ) (pl : List ℕ) (x : ℕ) → filled x ≡ true → mem x (tree K pl) ≡ ltb 0 (cells_holding K pl x)
unfolding tree cells_holding
tree_cells K pl x g = same_truth (mem x (tree K pl)) (ltb 0 (cells_holding K pl x))
    (λ e. true_ltb 0 (cells_holding K pl x) (count_pos x (take (2 ^ K) pl) (keep_in filled x (take (2 ^ K) pl) (distinct_in x (keep filled (take (2 ^ K) pl)) e)).0))
    (λ e. in_distinct x (keep filled (take (2 ^ K) pl)) (in_keep filled x (take (2 ^ K) pl) (pos_count x (take (2 ^ K) pl) (ltb-true 0 (cells_holding K pl x) e)) g))

once_tree : (K : ℕ) (pl : List ℕ) → Once (tree K pl)
unfolding tree distinct
once_tree K pl = once_insert_all (keep filled (take (2 ^ K) pl)) nobody

-- pins in the tree: pin n into the empty cell p above level 0
module _ (K : ℕ) (pl : List ℕ) (p n : ℕ) (high : p < 2 ^ K) (inside : p < length pl) (free : filled (get_or pl p empty) ≡ false) (full : filled n ≡ true) where
  long : p < length (set pl p n)
  long = rw length-set inside

  -- a pin set into an empty cell above level 0 is in the tree
  pub set_has : In n (tree K (set pl p n))
  set_has = in_tree K (set pl p n) p n high long (get_or-set_same pl p n empty inside) full

  -- no pin leaves the tree by it
  pub set_grows : Sub (tree K pl) (tree K (set pl p n))
  set_grows q e =
      let t = tree_in K pl q e in
      let o : t.0 ≢ p = λ d. true_false t.4 (subst (λ (x : ℕ). filled x ≡ false) (ap (λ (i : ℕ). get_or pl i empty) (sym d) ∙ t.3) free) in
      in_tree K (set pl p n) t.0 q t.1 (rw length-set t.2) (get_or-set_other pl p t.0 n empty o ∙ t.3) t.4

  -- and no other comes in
  pub set_only : (q : ℕ) → In q (tree K (set pl p n)) → (q ≡ n) ⊎ In q (tree K pl)
  set_only q e =
      let t = tree_in K (set pl p n) q e in
      let l : t.0 < length pl = rw length-set at t.2 in
      elim (set_either pl p n t.0 empty) [ inl d ↦ inl (sym t.3 ∙ d.1) | inr d ↦ inr (in_tree K pl t.0 q t.1 l (sym d ∙ t.3) t.4) ]

  -- the tree has one pin more where it did not hold that pin
  pub size_new : Out n (tree K pl) → length (tree K (set pl p n)) ≡ suc (length (tree K pl))
  size_new o =
      let a : suc (length (tree K pl)) ≤ length (tree K (set pl p n)) = once_length (one o (once_tree K pl)) (tree K (set pl p n)) (λ q e. elim (in_cons q n (tree K pl) e) [ inl d ↦ rw d set_has | inr d ↦ set_grows q d ]) in
      let b : length (tree K (set pl p n)) ≤ length (n ∷ tree K pl) = once_length (once_tree K (set pl p n)) (n ∷ tree K pl) (λ q e. elim (set_only q e) [ inl d ↦ rw d (in_here n (tree K pl)) | inr d ↦ in_there q n (tree K pl) d ]) in
      omega arith

  -- and as many where it did
  pub size_old : In n (tree K pl) → length (tree K (set pl p n)) ≡ length (tree K pl)
  size_old i =
      let a : length (tree K pl) ≤ length (tree K (set pl p n)) = once_length (once_tree K pl) (tree K (set pl p n)) set_grows in
      let b : length (tree K (set pl p n)) ≤ length (tree K pl) = once_length (once_tree K (set pl p n)) (tree K pl) (λ q e. elim (set_only q e) [ inl d ↦ rw d i | inr d ↦ d ]) in
      omega arith

-- at level 0 the tree stays
pub tree_set_low : (K : ℕ) (pl : List ℕ) (p n : ℕ) → 2 ^ K ≤ p → tree K (set pl p n) ≡ tree K pl
unfolding tree
tree_set_low K pl p n b = rw (take-set-le (2 ^ K) pl p n b)

-- filled cells of a row
pub row_set : (K h : ℕ) (pl : List ℕ) (p n : ℕ) → row_at K h ≤ p → p < row_at K h + row_at K h → p < length pl → count filled (row K h (set pl p n)) + bit (filled (get_or pl p empty)) ≡ count filled (row K h pl) + bit (filled n)
unfolding row
row_set K h pl p n a b l =
    let w : ℕ = row_at K h in
    let z : p ≡ w + (p - w) = omega arith in
    let s : take w (drop w (set pl p n)) ≡ set (take w (drop w pl)) (p - w) n =
    ap (λ (i : ℕ). take w (drop w (set pl i n))) z ∙ ap (take w) (drop-set-add w pl (p - w) n) ∙ take-set-lt w (drop w pl) (p - w) n (omega arith) in
    let g : get_or (take w (drop w pl)) (p - w) empty ≡ get_or pl p empty = get_or-take w (drop w pl) (p - w) empty (omega arith) ∙ get_or-drop w pl (p - w) empty ∙ ap (λ (i : ℕ). get_or pl i empty) (sym z) in
    rw (s, ← g) (count_set filled (take w (drop w pl)) (p - w) n empty (simp (length-take, length-drop) (omega arith)))

-- a cell of a higher level leaves a row as it is
pub row_set_above : (K h : ℕ) (pl : List ℕ) (p n : ℕ) → p < row_at K h → row K h (set pl p n) ≡ row K h pl
unfolding row
row_set_above K h pl p n a = rw (drop-set-lt (row_at K h) pl p n a)

-- and so does a cell of a lower one
pub row_set_below : (K h : ℕ) (pl : List ℕ) (p n : ℕ) → row_at K h + row_at K h ≤ p → row K h (set pl p n) ≡ row K h pl
unfolding row
row_set_below K h pl p n a =
    let w : ℕ = row_at K h in
    let z : p ≡ w + (p - w) = omega arith in
    ap (λ (i : ℕ). take w (drop w (set pl i n))) z ∙ ap (take w) (drop-set-add w pl (p - w) n) ∙ take-set-le w (drop w pl) (p - w) n (omega arith)
