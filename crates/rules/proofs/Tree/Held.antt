-- The pins in the tree, and a pin placed in an empty cell of level 1. Assumes nothing.
use Prim.Native.Nat.{ℕ, suc, ◌+◌, ◌*◌, ◌^◌, ◌≤◌, ◌<◌, min}
use mathlib.Core.Path.{◌≡◌, refl, sym, ◌∙◌, ap, subst}
use mathlib.Core.Logic.{◌≢◌}
use mathlib.Core.Bool.{true, false}
use mathlib.Core.List.{List, [], ◌∷◌}
use native.Mathlib.Omega.{arith}
use lib.Dec.{ltb}
use lib.ListN.{length, get_or, set, take, length-set, length-take}
use lib.Seq.{get_or-set_other, get_or-take}
use Rattle.rules.specs.Lists.{keep, found, In, Sub}
use Rattle.rules.specs.Cells.{filled, empty, first_empty}
use Rattle.rules.specs.Graph.{Node, leaf, gate, pin_of}
use Rattle.rules.specs.Traversal.{Setting, level_at}
use Rattle.rules.specs.Placing.{place, tree}
use Rattle.rules.proofs.Lists.Members.{split, true_false, in_keep, keep_in, in_distinct, distinct_in, in_get_or, get_or_in}

-- a pin that stands above level 0 is in the tree
pub in_tree : (K : ℕ) (pl : List ℕ) (i q : ℕ) → i < 2 ^ K → i < length pl → get_or pl i empty ≡ q → filled q ≡ true → In q (tree K pl)
unfolding tree
in_tree K pl i q h l e b = in_distinct q (keep filled (take (2 ^ K) pl)) (in_keep filled q (take (2 ^ K) pl)
    (subst (λ (x : ℕ). In x (take (2 ^ K) pl)) (get_or-take (2 ^ K) pl i empty h ∙ e) (in_get_or (take (2 ^ K) pl) i empty (rw length-take (omega arith)))) b)

-- and a pin in the tree stands at some position above level 0
pub tree_in : (K : ℕ) (pl : List ℕ) (q : ℕ) → In q (tree K pl) → (i : ℕ) × (i < 2 ^ K) × (i < length pl) × (get_or pl i empty ≡ q) × (filled q ≡ true)
unfolding tree
tree_in K pl q e =
    let k = keep_in filled q (take (2 ^ K) pl) (distinct_in q (keep filled (take (2 ^ K) pl)) e) in
    let h = get_or_in (take (2 ^ K) pl) empty q k.0 in
    let l : h.0 < min (2 ^ K) (length pl) = rw length-take at h.1 in
    (h.0, omega arith, omega arith, sym (get_or-take (2 ^ K) pl h.0 empty (omega arith)) ∙ h.2, k.1)

-- one empty cell more is filled
pub tree_grows : (K : ℕ) (pl pl2 : List ℕ) (c : ℕ) → length pl2 ≡ length pl → filled (get_or pl c empty) ≡ false → ((i : ℕ) → i < 2 ^ K → i ≢ c → get_or pl2 i empty ≡ get_or pl i empty) → Sub (tree K pl) (tree K pl2)
tree_grows K pl pl2 c l b h q e =
    let t = tree_in K pl q e in
    let n : t.0 ≢ c = λ d. true_false t.4 (subst (λ (x : ℕ). filled x ≡ false) (ap (λ (i : ℕ). get_or pl i empty) (sym d) ∙ t.3) b) in
    in_tree K pl2 t.0 q t.1 (rw l t.2) (h t.0 t.1 n ∙ t.3) t.4

-- a pin is a leaf or a gate
pub node : {P : Type 0} (x : Node) → (x ≡ leaf → P) → ((a b : ℕ) → x ≡ gate a b → P) → P
node leaf l k = l refl
node (gate a b) l k = k a b refl

-- placing at level 1: above level 0 only the cell itself changes
module _ (X : Setting) (w p n : ℕ) (pl : List ℕ) where
  -- placing at level 1 keeps a plan's length
  pub length_place1 : length (place X 1 w p n pl) ≡ length pl
  unfolding place
  length_place1 = split (ltb (level_at X n) 1) (λ e. rw (e, place) (simp length-set))
      (λ e. node (get_or X.g n leaf) (λ d. rw (e, d, place) (simp length-set)) (λ a b d. rw (e, d, place) (simp length-set)))

  -- placing at level 1 changes one cell above level 0
  pub place1_other : w ≤ p → (i : ℕ) → i < w + w → get_or (place X 1 w p n pl) i empty ≡ get_or (set pl p n) i empty
  unfolding place
  place1_other h i b = split (ltb (level_at X n) 1) (λ e. rw (e, place) (get_or-set_other (set pl p n) (p + w) i n empty (omega arith)))
      (λ e. node (get_or X.g n leaf) (λ d. rw (e, d, place))
      (λ x y d. rw (e, d, place) (get_or-set_other (set (set pl p n) (p + w) (pin_of x)) (p + 2 * w) i (pin_of y) empty (omega arith) ∙ get_or-set_other (set pl p n) (p + w) i (pin_of x) empty (omega arith))))

-- the first empty cell of a row
pub first_empty_found : (i : ℕ) (cs : List ℕ) (c : ℕ) → first_empty i cs ≡ found c → (k : ℕ) × (c ≡ i + k) × (k < length cs) × (filled (get_or cs k empty) ≡ false)
unfolding first_empty
first_empty_found i [] c e = absurd (let z : ◌≡◌ {A = ℕ} 0 1 = cc in omega arith)
first_empty_found i (x ∷ cs) c e = split (filled x)
    (λ b. let h = first_empty_found (suc i) cs c (rw (b, first_empty) at e) in (suc h.0, omega (arith, h.1), omega (arith, h.2), h.3))
    (λ b. let d : found i ≡ found c = rw (b, first_empty) at e in let z : i ≡ c = cc in (0, omega arith, omega arith, b))
