-- Rule 6: which pins are needed, and what a stage that places them all leaves to do. Assumes nothing.
use Prim.Native.Nat.{ℕ, zero, suc, ◌<◌, ◌≤◌}
use mathlib.Core.Path.{◌≡◌}
use mathlib.Core.Logic.{inl, inr}
use mathlib.Core.Bool.{true, not, ◌&&◌}
use mathlib.Core.List.{List, [], ◌∷◌, ◌++◌}
use lib.Dec.{ltb, lt→ltb, eqb}
use lib.ListN.{length, get_or}
use Rattle.rules.specs.Lists.{mem, gather, In, Out, Sub}
use Rattle.rules.specs.Graph.{Node, below}
use Rattle.rules.specs.Traversal.{WordRule, traverse, Setting, setting, level_at, reverse_levels}
use Rattle.rules.specs.Placing.{asked, asks, needed, tree_of, reverse_of, needed_of}
use Rattle.rules.proofs.Lists.Members.{split, T→true, in_cons, in_nil, in_append_right, in_distinct, in_gather, in_reverse, reverse_in, keep_in, gather_in, distinct_in, eqb_true, and_true}
use Rattle.rules.specs.Loops.{From, start, step}
use Rattle.rules.specs.Inside.Walks.{Ranked, Visited, Sound, Graph}
use Rattle.rules.proofs.Walk.Traverse.{traverse_good, from_rank}
use Rattle.rules.proofs.Walk.Levels.{levels_good}
use Rattle.rules.proofs.Walk.Reverse.{below_sub, from_sub, from_in, topo_closed, reached}
use native.Mathlib.Omega.{arith}

nothing_in : (ys : List ℕ) → Sub [] ys
nothing_in ys q e = in_nil q e

-- ranks that fall along operands fall whichever pins stop
pub falls_always : (g : List Node) (r : ℕ → ℕ) → Graph g r → (stop : List ℕ) → Ranked g stop r
falls_always g r G stop p x e = G.falls p x (below_sub g [] stop (nothing_in stop) p x e)

from_inside : (g : List Node) (r : ℕ → ℕ) → Graph g r → (stop ps : List ℕ) → ((x : ℕ) → In x ps → x < length g) → {q : ℕ} → From g stop ps q → q < length g
from_inside g r G stop ps h (start {q = q} e) = h q e
from_inside g r G stop ps h (step {q = q} {x = x} f e) = G.inside q x (below_sub g [] stop (nothing_in stop) q x e)

-- what a stage starts from is sound: its traversal, order and levels
pub setting_sound : (rule : WordRule) (K : ℕ) (g : List Node) (r : ℕ → ℕ) → Graph g r → (done waiting : List ℕ) → ((x : ℕ) → In x waiting → (x < length g) × (r x < length g)) → Sound (setting rule K g done waiting) r (length g)
unfolding setting level_at
setting_sound rule K g r G done waiting h =
    let k : Ranked g done r = falls_always g r G done in
    let v : Visited g done waiting [] (traverse (length g) g done waiting) = traverse_good g done r k (length g) waiting (λ p e. (h p e).1) in
    let reach : (q : ℕ) → In q (traverse (length g) g done waiting) → From g done waiting q = λ q e. elim (v.new q e) [ inl d ↦ in_nil q d | inr d ↦ d ] in
    let bound : (q : ℕ) → In q (traverse (length g) g done waiting) → q < length g = λ q e. from_inside g r G done waiting (λ x d. (h x d).0) (reach q e) in
    let fuel : (q : ℕ) → In q (traverse (length g) g done waiting) → r q < length g = λ q e. from_rank g done waiting r k (length g) (λ x d. (h x d).1) (reach q e) in
    record {
      ranked = k;
      visited = v;
      ordered = λ q e. in_reverse q (traverse (length g) g done waiting) e;
      listed = λ q e. reverse_in q (traverse (length g) g done waiting) e;
      bound = bound;
      fuel = fuel;
      level = λ q e. levels_good g done r k v.topo bound (length g) q e (fuel q e);
    }

module _ (X : Setting) (r : ℕ → ℕ) (f : ℕ) (S : Sound X r f) where
  -- a pin that is reached past no placed pin, itself unplaced, makes needed what its level says
  pub need : (pl : List ℕ) (p : ℕ) → From X.g (tree_of X pl ++ X.done) X.waiting p → Out p (tree_of X pl) →
      (x : ℕ) → In x (asked X (tree_of X pl) p (level_at X p)) → In x (needed_of X pl)
  unfolding needed_of needed reverse_of asks
  need pl p fr o x e =
      let tr : List ℕ = tree_of X pl in
      let rl : List ℕ = reverse_levels X tr in
      let pos : ltb 0 (get_or rl p 0) ≡ true = T→true _ (lt→ltb 0 (get_or rl p 0) (reached X S.visited.topo S.bound S.visited.has tr fr)) in
      let listed : In p X.seen = from_in X.g X.done X.waiting S.visited.topo S.visited.has (from_sub X.g X.done (tr ++ X.done) X.waiting X.waiting (λ y d. in_append_right y tr X.done d) (λ y d. d) fr) in
      in_distinct x (gather (asks X tr rl) X.order) (in_gather (asks X tr rl) x p X.order (S.ordered p listed) (rw (pos, o, asks) e))

  -- and only listed pins are needed
  pub asked_listed : (tr : List ℕ) (p l x : ℕ) → In p X.seen → In x (asked X tr p l) → In x X.seen
  unfolding asked
  asked_listed tr p zero x i e = elim (in_cons x p [] (keep_in _ x (p ∷ []) e).0) [ inl d ↦ rw d i | inr d ↦ in_nil x d ]
  asked_listed tr p (suc zero) x i e = elim (in_cons x p [] e) [ inl d ↦ rw d i | inr d ↦ in_nil x d ]
  asked_listed tr p (suc (suc l)) x i e = topo_closed X.g X.done S.visited.topo p x i (keep_in _ x (below X.g X.done p) e).0

  -- so every needed pin is listed
  pub need_listed : (pl : List ℕ) (x : ℕ) → In x (needed_of X pl) → In x X.seen
  unfolding needed_of needed asks
  need_listed pl x e =
      let tr : List ℕ = tree_of X pl in
      let k = gather_in (asks X tr (reverse_of X pl)) x X.order (distinct_in x (gather (asks X tr (reverse_of X pl)) X.order) e) in
      split (ltb 0 (get_or (reverse_of X pl) k.0 0) && not (mem k.0 tr))
      (λ b. asked_listed tr k.0 (level_at X k.0) x (S.listed k.0 k.1) (rw (b, asks) at k.2))
      (λ b. in_nil x (rw (b, asks) at k.2))

-- such pins are of level 0 or 1
pub asked_low : (X : Setting) (tr : List ℕ) (p l x : ℕ) → level_at X p ≡ l → In x (asked X tr p l) → level_at X x ≤ 1
unfolding asked
asked_low X tr p zero x z e = elim (in_cons x p [] (keep_in _ x (p ∷ []) e).0) [ inl d ↦ rw d (omega arith) | inr d ↦ in_nil x d ]
asked_low X tr p (suc zero) x z e = elim (in_cons x p [] e) [ inl d ↦ rw d (omega arith) | inr d ↦ in_nil x d ]
asked_low X tr p (suc (suc l)) x z e = omega (arith, eqb_true (level_at X x) 0 (and_true (eqb (level_at X x) 0) (not (mem x tr)) (keep_in _ x (below X.g X.done p) e).1).0)
