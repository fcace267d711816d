-- Marks of the latches' pins, which are different leaves. Assumes nothing.
use Prim.Native.Nat.{ℕ, ◌+◌, ◌≤◌, ◌<◌}
use mathlib.Core.Path.{◌≡◌, refl, sym, ap, ◌∙◌}
use mathlib.Core.Logic.{inl, inr}
use mathlib.Core.Bool.{true, false, not, ◌&&◌}
use mathlib.Core.List.{List, [], ◌∷◌}
use native.Mathlib.Numerals.{add-one}
use native.Mathlib.Omega.{arith}
use lib.Dec.{ltb, eqb}
use lib.ListN.{length, get_or, set, drop, length-set, drop_of_length-le}
use lib.Seq.{drop-cons, get_or-set_same, get_or-set_other}
use borrow.Author.Tests.{lt-ltb, le-ltb, ltb-true, eq-eqb, ne_eqb, not-true}
use Rattle.rules.specs.Lists.{mem, every, In}
use Rattle.rules.specs.Graph.{Node, leaf, gate}
use Rattle.rules.proofs.Bools.{and_none}
use Rattle.rules.proofs.Lists.Members.{split, true_false, and_true, eqb_true, eqb_false, in_here, in_there, in_cons, in_nil, in_out}
use Rattle.aiger_form.specs.Aag.{is_leaf_pin, different}
use Rattle.aiger_write.specs.Jobs.{marked, markable, Marked}

-- ---- a leaf, from what the code tests

module _ (g : List Node) (p : ℕ) where
  leaf_by : (x : Node) → get_or g p leaf ≡ x → is_leaf_pin g p ≡ elim x [ leaf ↦ ltb 0 p && ltb p (length g) | gate a b ↦ false ]
  unfolding is_leaf_pin
  leaf_by x e = rw (e, is_leaf_pin) refl

  out_by : ltb 0 p && ltb p (length g) ≡ false → (x : Node) → get_or g p leaf ≡ x → false ≡ is_leaf_pin g p
  out_by f leaf e = sym (leaf_by leaf e ∙ f)
  out_by f (gate a b) e = sym (leaf_by (gate a b) e)

  -- pin 0 is none
  pub leaf_zero : p ≡ 0 → false ≡ is_leaf_pin g p
  leaf_zero z = out_by (rw (le-ltb 0 p (omega arith)) refl) (get_or g p leaf) refl

  -- nor a gate's
  pub leaf_gate : {a b : ℕ} → gate a b ≡ get_or g p leaf → false ≡ is_leaf_pin g p
  leaf_gate {a} {b} e = sym (leaf_by (gate a b) (sym e))

  -- a leaf of the graph above pin 0 is one
  pub leaf_is : 0 < p → leaf ≡ get_or g p leaf → ltb p (length g) ≡ is_leaf_pin g p
  leaf_is h e = sym (leaf_by leaf (sym e) ∙ rw (lt-ltb 0 p h) refl)

  -- a leaf's pin is above 0 and at most N
  pub leaf_inside : is_leaf_pin g p ≡ true → p < length g
  leaf_inside t = at (get_or g p leaf) refl
    where
      at : (x : Node) → get_or g p leaf ≡ x → p < length g
      at leaf e = ltb-true p (length g) (and_true (ltb 0 p) (ltb p (length g)) (sym (leaf_by leaf e) ∙ t)).1
      at (gate a b) e = true_false t (leaf_by (gate a b) e)

-- ---- mark after mark

-- i latches are marked
pub record Marking (g : List Node) (ps m₀ : List ℕ) (i : ℕ) (m : List ℕ) : Type 0 where
  pub long : length m ≡ length m₀
  pub test : markable g ps m₀ ≡ markable g (drop i ps) m
  pub marks : marked ps m₀ ≡ marked (drop i ps) m

-- at first none is
pub marking_start : {g : List Node} {ps m : List ℕ} → Marking g ps m 0 m
marking_start = record { long = refl; test = refl; marks = refl }

module _ {g : List Node} {ps m₀ m : List ℕ} {i : ℕ} (M : Marking g ps m₀ i m) where
  front : i < length ps → markable g ps m₀ ≡ (is_leaf_pin g (get_or ps i 0) && eqb (get_or m (get_or ps i 0) 0) 0) && markable g (drop (i + 1) ps) (set m (get_or ps i 0) 1)
  unfolding markable
  front h = M.test ∙ rw (drop-cons ps i 0 h, add-one i) refl

  -- no leaf
  pub marking_other : i < length ps → is_leaf_pin g (get_or ps i 0) ≡ false → Marked g ps m₀ false m
  marking_other h f = record { test = sym (front h ∙ rw f refl); marks = λ e. true_false e refl }

  -- a mark already
  pub marking_twice : i < length ps → (get_or m (get_or ps i 0) 0 ≡ 0 → ⊥) → Marked g ps m₀ false m
  marking_twice h n = record { test = sym (front h ∙ rw (ne_eqb (get_or m (get_or ps i 0) 0) 0 n, and_none (is_leaf_pin g (get_or ps i 0))) refl); marks = λ e. true_false e refl }

  -- one mark more
  pub marking_more : i < length ps → is_leaf_pin g (get_or ps i 0) ≡ true → get_or m (get_or ps i 0) 0 ≡ 0 → Marking g ps m₀ (i + 1) (set m (get_or ps i 0) 1)
  unfolding marked
  marking_more h t z = record {
    long = length-set m (get_or ps i 0) 1 ∙ M.long;
    test = front h ∙ rw (t, eq-eqb (get_or m (get_or ps i 0) 0) 0 z) refl;
    marks = M.marks ∙ rw (drop-cons ps i 0 h, add-one i) refl;
  }

  -- all are marked
  pub marking_end : length ps ≤ i → Marked g ps m₀ true m
  unfolding markable marked
  marking_end h = let d : drop i ps ≡ [] = drop_of_length-le ps {i = i} (omega arith) in record { test = sym (M.test ∙ rw d refl); marks = λ e. sym (M.marks ∙ rw d refl) }

-- ---- what the marks say

-- different leaves, none of them marked before
pub record Fresh (g : List Node) (ps m : List ℕ) : Type 0 where
  pub leaves : every (is_leaf_pin g) ps ≡ true
  pub differ : different ps ≡ true
  pub unmarked : (q : ℕ) → In q ps → get_or m q 0 ≡ 0

-- such pass the test
pub fresh_markable : (g : List Node) (ps m : List ℕ) → Fresh g ps m → markable g ps m ≡ true
unfolding markable every different
fresh_markable g [] m F = refl
fresh_markable g (p ∷ ps) m F =
    let w = and_true (not (mem p ps)) (different ps) F.differ in
    let o = not-true (mem p ps) w.0 in
    split (is_leaf_pin g p)
    (λ t. rw (t, eq-eqb (get_or m p 0) 0 (F.unmarked p (in_here p ps))) (fresh_markable g ps (set m p 1) (record {
      leaves = rw (t, every) at F.leaves;
      differ = w.1;
      unmarked = λ q i. get_or-set_other m p q 1 0 (in_out q p ps i o) ∙ F.unmarked q (in_there q p ps i);
    })))
    (λ f. true_false F.leaves (rw (f, every) refl))

-- and no others
pub markable_fresh : (g : List Node) (ps m : List ℕ) → length g ≤ length m → markable g ps m ≡ true → Fresh g ps m
unfolding markable every different
markable_fresh g [] m h t = record { leaves = refl; differ = refl; unmarked = λ q i. in_nil q i }
markable_fresh g (p ∷ ps) m h t =
    let w = and_true (is_leaf_pin g p && eqb (get_or m p 0) 0) (markable g ps (set m p 1)) t in
    let v = and_true (is_leaf_pin g p) (eqb (get_or m p 0) 0) w.0 in
    let F = markable_fresh g ps (set m p 1) (omega (arith, length-set m p 1)) w.1 in
    let same : get_or (set m p 1) p 0 ≡ 1 = get_or-set_same m p 1 0 (omega (arith, leaf_inside g p v.0)) in
    let o : mem p ps ≡ false = split (mem p ps) (λ i. absurd (omega (arith, same, F.unmarked p i))) (λ i. i) in
    record {
      leaves = rw (v.0, every) F.leaves;
      differ = rw o F.differ;
      unmarked = λ q i. elim (in_cons q p ps i) [ inl e ↦ rw e (eqb_true (get_or m p 0) 0 v.1) | inr j ↦ sym (get_or-set_other m p q 1 0 (in_out q p ps j o)) ∙ F.unmarked q j ];
    }

-- a pin has no mark where it is no latch's and had none before
pub unmarked_at : (ps m : List ℕ) (q : ℕ) → q < length m → eqb (get_or (marked ps m) q 0) 0 ≡ not (mem q ps) && eqb (get_or m q 0) 0
unfolding marked mem
unmarked_at [] m q h = refl
unmarked_at (p ∷ ps) m q h =
    unmarked_at ps (set m p 1) q (omega (arith, length-set m p 1))
    ∙ split (eqb q p)
    (λ t. let e = eqb_true q p t in rw (t, mem, ap (λ (i : ℕ). get_or (set m p 1) i 0) e ∙ get_or-set_same m p 1 0 (omega (arith, e))) (and_none (not (mem q ps))))
    (λ f. rw (f, mem, get_or-set_other m p q 1 0 (eqb_false q p f)) refl)
