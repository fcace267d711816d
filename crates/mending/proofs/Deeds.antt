-- What becomes of a cell: the cases, and that a mended cell mends to itself. Assumes nothing.
use Prim.Native.Nat.{ℕ, zero, suc, ◌≤◌, ◌<◌}
use mathlib.Core.Path.{◌≡◌, refl, sym, ◌∙◌, ap}
use mathlib.Core.Logic.{◌⊎◌, inl, inr}
use mathlib.Core.Bool.{true, false}
use mathlib.Core.List.{List}
use native.Mathlib.Omega.{arith}
use lib.Dec.{eqb, ltb}
use lib.ListN.{length, get_or}
use borrow.Author.Tests.{ltb-true, ltb-false}
use Rattle.rules.specs.Lists.{mem}
use Rattle.rules.specs.Cells.{empty, filled, level_of}
use Rattle.rules.specs.Graph.{Node, leaf, gate, operands, below}
use Rattle.rules.specs.Traversal.{over}
use Rattle.rules.specs.Depth.{depth}
use Rattle.rules.proofs.Lists.Members.{split, true_false, and_true, eqb_true, eqb_same}
use Rattle.rules.specs.Coded.{cell_pin}
use Rattle.coded.proofs.Cells.{pin_plain, pin_and}
use Rattle.coded.proofs.Tests.{and_both, lt_true, lt_false}
use Rattle.mending.specs.Mend.{level_in, Deed, kept, stands, copies, joins, same, fitting, pin_for, in_graph, pin_deed, deed, mended}

-- a pin from 1 to N, as a test
pub in_graph_lem : (g : List Node) (n : ℕ) → in_graph g n ≡ true → (0 < n) × (n < length g)
unfolding in_graph
in_graph_lem g n e = let h = and_true (ltb 0 n) (ltb n (length g)) e in (ltb-true 0 n h.0, ltb-true n (length g) h.1)

-- and back
pub graph_in : (g : List Node) (n : ℕ) → 0 < n → n < length g → in_graph g n ≡ true
unfolding in_graph
graph_in g n a b = and_both (lt_true 0 n a) (lt_true n (length g) b)

-- the empty mark is no pin
pub no_pin : (g : List Node) → length g ≤ 65536 → in_graph g empty ≡ false
unfolding empty
no_pin g few = split (in_graph g empty) (λ e. absurd (omega (arith, (in_graph_lem g empty e).1))) (λ e. e)

leaf_depth : (f : ℕ) (g : List Node) (stop : List ℕ) (n : ℕ) → get_or g n leaf ≡ leaf → depth f g stop n ≡ 0
unfolding depth below operands over
leaf_depth zero g stop n e = refl
leaf_depth (suc f) g stop n e = split (mem n stop) (λ d. rw (d, below)) (λ d. rw (d, below, e))

-- a leaf's level is 0
pub leaf_level : (g : List Node) (stop : List ℕ) (n : ℕ) → get_or g n leaf ≡ leaf → level_in g stop n ≡ 0
leaf_level g stop n e = leaf_depth (length g) g stop n e

fit_less : (h l n : ℕ) (x : Node) → l < h → fitting h l x n ≡ copies n
unfolding fitting
fit_less h l n x a = rw (lt_true l h a, fitting)

fit_same : (h l n : ℕ) (x : Node) → l ≡ h → fitting h l x n ≡ same h x n
unfolding fitting
fit_same h l n x e =
    let a : ltb l h ≡ false = lt_false l h (omega arith) in
    let b : eqb l h ≡ true = ap (λ (y : ℕ). eqb y h) e ∙ eqb_same h in
    rw (a, b, fitting)

fit_over : (h l n : ℕ) (x : Node) → ltb l h ≡ false → eqb l h ≡ false → fitting h l x n ≡ kept
unfolding fitting
fit_over h l n x a b = rw (a, b, fitting)

over_it : (h l : ℕ) → ltb l h ≡ false → eqb l h ≡ false → h < l
over_it h l a b = split (ltb h l) (λ t. ltb-true h l t)
    (λ t. let z : l ≡ h = omega (arith, ltb-false l h a, ltb-false h l t) in true_false (rw z (eqb_same h)) b)

-- the cases, for pin n at position p
pub data Case (K : ℕ) (g : List Node) (stop : List ℕ) (p n : ℕ) : Deed → Type 0 where
  is_kept : (in_graph g n ≡ false) ⊎ (level_of K p < level_in g stop n) → Case K g stop p n kept
  is_stands : in_graph g n ≡ true → level_of K p ≡ 0 → level_in g stop n ≡ 0 → Case K g stop p n (stands n)
  is_copies : in_graph g n ≡ true → level_in g stop n < level_of K p → Case K g stop p n (copies n)
  is_joins : {a b : ℕ} → in_graph g n ≡ true → 0 < level_of K p → level_in g stop n ≡ level_of K p → get_or g n leaf ≡ gate a b → Case K g stop p n (joins n a b)

module _ (K : ℕ) (g : List Node) (stop : List ℕ) (p n : ℕ) where
  at_level : (h : ℕ) (x : Node) → in_graph g n ≡ true → level_of K p ≡ h → level_in g stop n ≡ h → get_or g n leaf ≡ x → Case K g stop p n (same h x n)
  unfolding same
  at_level zero x i a b c = is_stands i a b
  at_level (suc h) leaf i a b c = absurd (omega (arith, leaf_level g stop n c))
  at_level (suc h) (gate x y) i a b c = is_joins i (omega arith) (b ∙ sym a) c

  -- the deeds by their reasons
  pub deed_kept : in_graph g n ≡ false → pin_deed K g stop p n ≡ kept
  unfolding pin_deed
  deed_kept i = rw (i, pin_deed)

  in_deed : in_graph g n ≡ true → pin_deed K g stop p n ≡ fitting (level_of K p) (level_in g stop n) (get_or g n leaf) n
  unfolding pin_deed
  in_deed i = rw (i, pin_deed)

  -- each deed is one of them
  pub which : Case K g stop p n (pin_deed K g stop p n)
  which =
      let h : ℕ = level_of K p in
      let l : ℕ = level_in g stop n in
      let x : Node = get_or g n leaf in
      split (in_graph g n)
      (λ i. split (ltb l h)
      (λ a. rw (in_deed i, fit_less h l n x (ltb-true l h a)) (is_copies i (ltb-true l h a)))
      (λ a. split (eqb l h)
      (λ b. rw (in_deed i, fit_same h l n x (eqb_true l h b)) (at_level h x i refl (eqb_true l h b) refl))
      (λ b. rw (in_deed i, fit_over h l n x a b) (is_kept (inr (over_it h l a b))))))
      (λ i. rw (deed_kept i) (is_kept (inl i)))

  -- a pin of a lower level copies
  pub deed_copies : in_graph g n ≡ true → level_in g stop n < level_of K p → pin_deed K g stop p n ≡ copies n
  deed_copies i a = in_deed i ∙ fit_less (level_of K p) (level_in g stop n) n (get_or g n leaf) a

  -- at level 0 a pin of level 0 stands
  pub deed_stands : in_graph g n ≡ true → level_of K p ≡ 0 → level_in g stop n ≡ 0 → pin_deed K g stop p n ≡ stands n
  unfolding same
  deed_stands i a b = in_deed i ∙ fit_same (level_of K p) (level_in g stop n) n (get_or g n leaf) (b ∙ sym a) ∙ ap (λ (h : ℕ). same h (get_or g n leaf) n) a

  -- above it a gate's pin of the same level ANDs
  pub deed_joins : (h a b : ℕ) → in_graph g n ≡ true → level_of K p ≡ suc h → level_in g stop n ≡ suc h → get_or g n leaf ≡ gate a b → pin_deed K g stop p n ≡ joins n a b
  unfolding same
  deed_joins h a b i c d e = in_deed i ∙ fit_same (level_of K p) (level_in g stop n) n (get_or g n leaf) (d ∙ sym c) ∙ (λ j. same (c j) (e j) n)

  -- a pin that fits rewrites the cell whatever stood there
  pub rewrites : in_graph g n ≡ true → level_in g stop n ≤ level_of K p → (c d : ℕ) → mended (pin_deed K g stop p n) c ≡ mended (pin_deed K g stop p n) d
  unfolding mended
  rewrites i a c d = go (pin_deed K g stop p n) which
    where
      go : (x : Deed) → Case K g stop p n x → mended x c ≡ mended x d
      go x (is_kept (inl j)) = true_false i j
      go x (is_kept (inr j)) = absurd (omega arith)
      go x (is_stands j k l) = refl
      go x (is_copies j k) = refl
      go x (is_joins j k l m) = refl

  -- a mended cell holds the pin, or is as it was
  pub mended_pin : length g ≤ 65536 → (c : ℕ) → cell_pin c ≡ n → cell_pin (mended (pin_deed K g stop p n) c) ≡ n
  unfolding mended
  mended_pin few c e = go (pin_deed K g stop p n) which
    where
      go : (x : Deed) → Case K g stop p n x → cell_pin (mended x c) ≡ n
      go x (is_kept j) = e
      go x (is_stands j k l) = pin_plain n (omega (arith, (in_graph_lem g n j).1))
      go x (is_copies j k) = pin_plain n (omega (arith, (in_graph_lem g n j).1))
      go x (is_joins {a} {b} j k l m) = pin_and n a b (omega (arith, (in_graph_lem g n j).1))

-- what is fixed is the pin
pub for_fixed : (c f : ℕ) → filled f ≡ true → pin_for c f ≡ f
unfolding pin_for
for_fixed c f e = rw (e, pin_for)

-- else the cell's own is
pub for_free : (c f : ℕ) → filled f ≡ false → pin_for c f ≡ cell_pin c
unfolding pin_for
for_free c f e = rw (e, pin_for)

-- the same deed twice
pub mended_twice : (x : Deed) (c : ℕ) → mended x (mended x c) ≡ mended x c
unfolding mended
mended_twice kept c = refl
mended_twice (stands n) c = refl
mended_twice (copies n) c = refl
mended_twice (joins n a b) c = refl

-- the deed at a mended cell is the same
pub same_deed : (K : ℕ) (g : List Node) (stop : List ℕ) (p c f : ℕ) → length g ≤ 65536 → deed K g stop p (mended (deed K g stop p c f) c) f ≡ deed K g stop p c f
unfolding deed
same_deed K g stop p c f few = ap (pin_deed K g stop p) (split (filled f)
    (λ e. for_fixed _ f e ∙ sym (for_fixed c f e))
    (λ e. for_free _ f e ∙ ap (λ (n : ℕ). cell_pin (mended (pin_deed K g stop p n) c)) (for_free c f e) ∙ mended_pin K g stop p (cell_pin c) few c refl ∙ sym (for_free c f e)))
