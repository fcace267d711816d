-- Driven pins, from the last down. Assumes nothing.
use Prim.Native.Nat.{ℕ, zero, suc, ◌-◌, ◌≤◌, ◌<◌}
use mathlib.Core.Path.{◌≡◌, refl, sym, ◌∙◌}
use mathlib.Core.Bool.{Bool, true, false, not, ◌&&◌}
use mathlib.Core.List.{List, [], ◌∷◌}
use native.Mathlib.Omega.{arith}
use lib.Dec.{ltb}
use lib.ListN.{length, get_or, set, drop}
use lib.Seq.{drop-cons, drop-length}
use borrow.Author.Tests.{le-ltb}
use Rattle.rules.specs.Lists.{mem, every}
use Rattle.rules.specs.Graph.{Node, leaf, graph_of, pin_count}
use Rattle.rules.specs.Fold.{is_leaf}
use Rattle.rules.proofs.Lists.Members.{split, and_true, true_false}
use Rattle.graph.proofs.Gates.{graph_length}
use Rattle.replay_form.specs.Clocks.{is_one, leaf_pin}
use Rattle.replay_form.specs.Calls.{once, driven_right}
use Rattle.replay_run.specs.Leaves.{line_leaf}
use Rattle.replay_run.proofs.Laws.Leaves.{MarkedTo, marked_none, marked_more, marked_done, marks_are}
use Rattle.replay_checks.specs.Values.{MarksAt, LeavesMarked}

module _ (g : List Node) (x : ℕ) (xs : List ℕ) where
  right_cons : leaf_pin g x ≡ true → mem x xs ≡ false → driven_right g xs ≡ true → driven_right g (x ∷ xs) ≡ true
  unfolding driven_right every once
  right_cons a b c = let t = and_true (every (leaf_pin g) xs) (once xs) c in rw (a, b, t.0, t.1, every)

  right_tail : driven_right g (x ∷ xs) ≡ true → driven_right g xs ≡ true
  unfolding driven_right every once
  right_tail c =
      let t = and_true (every (leaf_pin g) (x ∷ xs)) (once (x ∷ xs)) c in
      let u = and_true (not (mem x xs)) (once xs) t.1 in
      let e : every (leaf_pin g) xs ≡ true = split (leaf_pin g x) (λ k. rw (k, every) at t.0) (λ k. true_false t.0 (rw (k, every))) in
      rw (e, u.1)

  wrong_leaf : leaf_pin g x ≡ false → driven_right g (x ∷ xs) ≡ false
  unfolding driven_right every
  wrong_leaf e = rw (e, every)

  wrong_twice : mem x xs ≡ true → driven_right g (x ∷ xs) ≡ false
  unfolding driven_right once
  wrong_twice e = split (every (leaf_pin g) (x ∷ xs)) (λ k. rw (k, e)) (λ k. rw k)

-- a list whose end is wrong is wrong
wrong_end : (g : List Node) (k : ℕ) (xs : List ℕ) → driven_right g (drop k xs) ≡ false → driven_right g xs ≡ false
wrong_end g zero xs e = e
wrong_end g (suc k) [] e = e
wrong_end g (suc k) (x ∷ xs) e = split (driven_right g (x ∷ xs)) (λ t. true_false (right_tail g x xs t) (wrong_end g k xs e)) (λ t. t)

-- those from the i-th on are right, and marked
pub record RightTo (g : List Node) (driven marks : List ℕ) (i : ℕ) (now : List ℕ) : Type 0 where
  pub marked : MarkedTo driven marks i now
  pub right : driven_right g (drop i driven) ≡ true

line_parts : (g : List Node) (marks : List ℕ) (p : ℕ) → line_leaf g marks p ≡ true → (leaf_pin g p ≡ true) × (is_one (get_or marks p 0) ≡ false)
unfolding line_leaf
line_parts g marks p e =
    let t = and_true (leaf_pin g p) (not (is_one (get_or marks p 0))) e in
    (t.0, split (is_one (get_or marks p 0)) (λ k. true_false t.1 (rw k)) (λ k. k))

line_wrong : (g : List Node) (marks : List ℕ) (p : ℕ) → line_leaf g marks p ≡ false → leaf_pin g p ≡ true → is_one (get_or marks p 0) ≡ true
unfolding line_leaf
line_wrong g marks p e l = split (is_one (get_or marks p 0)) (λ k. k) (λ k. true_false (rw (l, k)) e)

module _ (gates driven marks : List ℕ) (A : MarksAt gates marks) where
  abbrev g : List Node
  g = graph_of gates

  -- none at the beginning
  pub right_none : RightTo g driven marks (length driven) marks
  unfolding driven_right every once
  right_none = record { marked = marked_none driven marks; right = rw (drop-length driven) }

  module _ (i : ℕ) (now : List ℕ) (R : RightTo g driven marks i now) (h : 0 < i) (d : ℕ) (ed : d ≡ get_or driven (i - 1) 0) where
    next : drop (i - 1) driven ≡ d ∷ drop i driven
    next = let s : suc (i - 1) ≡ i = omega arith in drop-cons driven (i - 1) 0 (omega (arith, R.marked.upto)) ∙ rw (s, ed)

    -- a pin above N is no leaf
    pub right_past : (m : ℕ) → m ≡ pin_count gates → m ≤ d → LeavesMarked g driven marks now false
    unfolding leaf_pin
    right_past m em l =
        let k : leaf_pin g d ≡ false = rw (le-ltb d (length g) (omega (arith, graph_length gates))) (fails (ltb 0 d)) in
        record {
          len = R.marked.marked.len;
          right = sym (wrong_end g (i - 1) driven (rw next (wrong_leaf g d (drop i driven) k)));
          marked = λ t. true_false refl (sym t);
        }
      where
        fails : (b : Bool) → b && false && is_leaf (get_or g d leaf) ≡ false
        fails true = refl
        fails false = refl

    module _ (m : ℕ) (em : m ≡ pin_count gates) (there : d < m) where
      seen : is_one (get_or now d 0) ≡ mem d (drop i driven)
      seen = marks_are (drop i driven) marks now R.marked.marked d (omega (arith, A.room)) (A.none d)

      -- a pin that is no leaf or is driven further on
      pub right_wrong : line_leaf g now d ≡ false → LeavesMarked g driven marks now false
      right_wrong e = record {
        len = R.marked.marked.len;
        right = sym (wrong_end g (i - 1) driven (rw next (split (leaf_pin g d) (λ k. wrong_twice g d (drop i driven) (sym seen ∙ line_wrong g now d e k)) (λ k. wrong_leaf g d (drop i driven) k))));
        marked = λ t. true_false refl (sym t);
      }

      -- another is marked
      pub right_more : line_leaf g now d ≡ true → RightTo g driven marks (i - 1) (set now d 1)
      right_more e =
          let t = line_parts g now d e in
          record { marked = marked_more driven marks i now R.marked h d ed; right = rw next (right_cons g d (drop i driven) t.0 (sym seen ∙ t.1) R.right) }

  -- all are right
  pub right_done : (i : ℕ) (now : List ℕ) → RightTo g driven marks i now → i ≤ 0 → LeavesMarked g driven marks now true
  right_done i now R h =
      let e : i ≡ 0 = omega arith in
      record { len = R.marked.marked.len; right = sym (rw e at R.right); marked = λ t. marked_done driven marks i now R.marked h }
