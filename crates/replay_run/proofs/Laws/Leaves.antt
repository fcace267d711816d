-- The leaves of a line, pin after pin. Assumes nothing.
use Prim.Native.Nat.{ℕ, zero, suc, ◌+◌, ◌-◌, ◌≤◌, ◌<◌}
use mathlib.Core.Path.{◌≡◌, refl, sym, ◌∙◌, ap}
use mathlib.Core.Bool.{Bool, true, false, not, ◌&&◌}
use mathlib.Core.List.{List, ◌∷◌, ◌++◌, append_assoc, append-nil}
use native.Mathlib.Omega.{arith}
use native.Mathlib.Numerals.{add-one}
use lib.Dec.{eqb}
use lib.ListN.{length, get_or, set, take, drop, length-set}
use lib.Seq.{take-suc-set, get_or-set_same, get_or-set_other, drop-cons, drop-length}
use borrow.Author.Tests.{ne_eqb, lt-ltb}
use Rattle.rules.specs.Lists.{keep, up_to, mem}
use Rattle.rules.specs.Graph.{Node, leaf, graph_of, pin_count}
use Rattle.rules.specs.Fold.{is_leaf}
use Rattle.rules.proofs.Lists.Members.{split, eqb_true, eqb_false}
use Rattle.graph.proofs.Gates.{graph_length}
use Rattle.replay_form.specs.Clocks.{is_one, leaf_pin, line_leaves}
use Rattle.replay_run.specs.Leaves.{line_leaf, leaf_of, LeafPut, LeavesIn, LeavesPut, mark_or, Marked}

-- ---- a pin

and_false : (b : Bool) → false ≡ b && false
and_false true = refl
and_false false = refl

and-true₂ : (b : Bool) → b ≡ b && true
and-true₂ true = refl
and-true₂ false = refl

module _ (g : List Node) (marks : List ℕ) (p : ℕ) where
  -- pin 0 is no leaf
  pub leaf_zero : p ≡ 0 → false ≡ line_leaf g marks p
  unfolding line_leaf leaf_pin
  leaf_zero e = rw e

  -- a marked pin is none of a line's
  pub leaf_driven : (get_or marks p 0 ≡ 0 → ⊥) → false ≡ line_leaf g marks p
  unfolding line_leaf is_one
  leaf_driven e = rw (ne_eqb (get_or marks p 0) 0 e) (and_false (leaf_pin g p))

  module _ (some : p ≡ 0 → ⊥) (there : p < length g) (free : get_or marks p 0 ≡ 0) where
    -- another is one where no gate drives it
    pub leaf_by : (b : Bool) → b ≡ is_leaf (get_or g p leaf) → b ≡ line_leaf g marks p
    unfolding line_leaf leaf_pin is_one
    leaf_by b e =
        let l : leaf_pin g p ≡ b = rw (lt-ltb 0 p (omega (arith, some)), lt-ltb p (length g) there) (sym e) in
        rw (free, l) (and-true₂ b)

-- a leaf is put
pub leaf_put : (b : Bool) (n p : ℕ) (leaves : List ℕ) → n < length leaves → b ≡ true → LeafPut b n p leaves (set leaves n p) (n + 1)
unfolding leaf_of
leaf_put b n p leaves h e = record { len = length-set leaves n p; count = omega arith; is = rw (e, add-one n) (take-suc-set leaves n p h) }

-- another pin is not
pub leaf_none : (b : Bool) (n p : ℕ) (leaves : List ℕ) → b ≡ false → LeafPut b n p leaves leaves n
unfolding leaf_of
leaf_none b n p leaves e = record { len = refl; count = omega arith; is = rw e (sym (append-nil (take n leaves))) }

-- ---- all pins

keep_front : (f : ℕ → Bool) (x : ℕ) (xs : List ℕ) (b : Bool) → f x ≡ b → keep f (x ∷ xs) ≡ leaf_of b x ++ keep f xs
unfolding keep leaf_of
keep_front f x xs true e = rw (e, keep)
keep_front f x xs false e = rw (e, keep)

-- the pins below p have been looked at
pub record LeavesTo (gates marks leaves : List ℕ) (p n : ℕ) (now : List ℕ) : Type 0 where
  pub upto : p ≤ pin_count gates
  pub few : n ≤ p
  pub len : length now ≡ length leaves
  pub is : keep (line_leaf (graph_of gates) marks) (up_to (pin_count gates) 0) ≡ take n now ++ keep (line_leaf (graph_of gates) marks) (up_to (pin_count gates - p) p)

module _ (gates marks leaves : List ℕ) (A : LeavesIn gates marks leaves) where
  -- none at the beginning
  pub leaves_none : LeavesTo gates marks leaves 0 0 leaves
  leaves_none = let z : pin_count gates - 0 ≡ pin_count gates = omega arith in record { upto = omega arith; few = omega arith; len = refl; is = rw z }

  -- one pin more
  pub leaves_more : (p n : ℕ) (now : List ℕ) → LeavesTo gates marks leaves p n now → p < pin_count gates → (b : Bool) → b ≡ line_leaf (graph_of gates) marks p → (now' : List ℕ) (r : ℕ) →
      LeafPut b n p now now' r → LeavesTo gates marks leaves (p + 1) r now'
  unfolding up_to
  leaves_more p n now R h b eb now' r P =
      let f = line_leaf (graph_of gates) marks in
      let m : pin_count gates - p ≡ suc (pin_count gates - (p + 1)) = omega arith in
      let s : suc p ≡ p + 1 = omega arith in
      let u : up_to (pin_count gates - p) p ≡ p ∷ up_to (pin_count gates - (p + 1)) (p + 1) = ap (λ (k : ℕ). up_to k p) m ∙ ap (λ (k : ℕ). p ∷ up_to (pin_count gates - (p + 1)) k) s in
      record {
        upto = omega arith;
        few = omega (arith, R.few, P.count);
        len = P.len ∙ R.len;
        is = R.is ∙ ap (λ (l : List ℕ). take n now ++ keep f l) u ∙ ap (λ (l : List ℕ). take n now ++ l) (keep_front f p (up_to (pin_count gates - (p + 1)) (p + 1)) b (sym eb))
            ∙ sym (append_assoc (take n now) (leaf_of b p) _) ∙ ap (λ (l : List ℕ). l ++ keep f (up_to (pin_count gates - (p + 1)) (p + 1))) (sym P.is);
      }

  -- all pins
  pub leaves_done : (p n : ℕ) (now : List ℕ) → LeavesTo gates marks leaves p n now → pin_count gates ≤ p → LeavesPut gates marks leaves now n
  unfolding up_to keep
  leaves_done p n now R h =
      let z : pin_count gates - p ≡ 0 = omega arith in
      let e : take n now ++ keep (line_leaf (graph_of gates) marks) (up_to (pin_count gates - p) p) ≡ take n now = rw z (append-nil (take n now)) in
      record { len = R.len; count = omega (arith, R.few, R.upto); is = sym (ap (λ (k : ℕ). keep (line_leaf (graph_of gates) marks) (up_to k 0)) (graph_length gates) ∙ R.is ∙ e) }

-- ---- what that is of the definitions

keep_same : (f h : ℕ → Bool) (n i : ℕ) → ((p : ℕ) → p < i + n → f p ≡ h p) → keep f (up_to n i) ≡ keep h (up_to n i)
unfolding keep up_to
keep_same f h zero i e = refl
keep_same f h (suc n) i e =
    let r : keep f (up_to n (suc i)) ≡ keep h (up_to n (suc i)) = keep_same f h n (suc i) (λ p b. e p (omega arith)) in
    keep_front f i (up_to n (suc i)) (h i) (e i (omega arith)) ∙ ap (λ (l : List ℕ). leaf_of (h i) i ++ l) r ∙ sym (keep_front h i (up_to n (suc i)) (h i) refl)

-- Where the marks are those of the driven pins, the leaves are those of a line.
pub leaves_are : (g : List Node) (driven marks : List ℕ) → ((p : ℕ) → p < length g → is_one (get_or marks p 0) ≡ mem p driven) → keep (line_leaf g marks) (up_to (length g) 0) ≡ line_leaves g driven
unfolding line_leaf line_leaves
leaves_are g driven marks e = keep_same (line_leaf g marks) (λ p. leaf_pin g p && not (mem p driven)) (length g) 0 (λ p b. ap (λ (m : Bool). leaf_pin g p && not m) (e p (omega arith)))

-- ---- the marks

-- those from the i-th on are marked
pub record MarkedTo (driven marks : List ℕ) (i : ℕ) (now : List ℕ) : Type 0 where
  pub upto : i ≤ length driven
  pub marked : Marked (drop i driven) marks now

module _ (driven marks : List ℕ) where
  -- none at the beginning
  pub marked_none : MarkedTo driven marks (length driven) marks
  unfolding mem mark_or
  marked_none = record { upto = omega arith; marked = record { len = refl; each = λ p h. rw (drop-length driven) } }

  -- one more
  pub marked_more : (i : ℕ) (now : List ℕ) → MarkedTo driven marks i now → 0 < i → (d : ℕ) → d ≡ get_or driven (i - 1) 0 → MarkedTo driven marks (i - 1) (set now d 1)
  unfolding mem mark_or
  marked_more i now R h d ed =
      let s : suc (i - 1) ≡ i = omega arith in
      let e : drop (i - 1) driven ≡ d ∷ drop i driven = drop-cons driven (i - 1) 0 (omega (arith, R.upto)) ∙ rw (s, ed) in
      record {
        upto = omega (arith, R.upto);
        marked = record {
          len = length-set now d 1 ∙ R.marked.len;
          each = λ p b. rw e (split (eqb p d)
              (λ t. let q = eqb_true p d t in rw (t, mem) (ap (λ (k : ℕ). get_or (set now d 1) k 0) q ∙ get_or-set_same now d 1 0 (omega (arith, R.marked.len))))
              (λ t. rw (t, mem) (get_or-set_other now d p 1 0 (eqb_false p d t) ∙ R.marked.each p b)));
        };
      }

  -- all of them
  pub marked_done : (i : ℕ) (now : List ℕ) → MarkedTo driven marks i now → i ≤ 0 → Marked driven marks now
  marked_done i now R h = let e : i ≡ 0 = omega arith in record { len = R.marked.len; each = λ p b. R.marked.each p b ∙ rw e }

  -- Marks that were 0 are those of the driven pins.
  pub marks_are : (now : List ℕ) → Marked driven marks now → (p : ℕ) → p < length marks → get_or marks p 0 ≡ 0 → is_one (get_or now p 0) ≡ mem p driven
  unfolding is_one mark_or
  marks_are now R p h z = ap is_one (R.each p h ∙ ap (mark_or (mem p driven)) z) ∙ both (mem p driven)
    where
      both : (b : Bool) → is_one (mark_or b 0) ≡ b
      both true = refl
      both false = refl
