-- Rule 3: every pin that is reached from a waiting pin past no placed pin has a reverse level. Assumes nothing.
use Prim.Native.Nat.{ℕ, zero, suc, ◌≤◌, ◌<◌, max}
use mathlib.Core.Path.{◌≡◌, refl, ◌∙◌}
use mathlib.Core.Logic.{inl, inr}
use mathlib.Core.List.{List, [], ◌∷◌, ◌++◌}
use native.Mathlib.Omega.{arith}
use lib.ListN.{length, get_or, set, replicate, length-set, length-replicate}
use lib.Seq.{get_or-set_same, get_or-set_other}
use Rattle.rules.specs.Lists.{mem, In, Out, Sub}
use Rattle.rules.specs.Graph.{Node, leaf, operands, below}
use Rattle.rules.specs.Traversal.{thread, raise, lift, Setting, reverse_levels}
use Rattle.rules.proofs.Lists.Members.{split, true_false, in_there, in_cons, in_nil, out_head, out_tail, in_append_right}
use Rattle.rules.specs.Inside.Walks.{Topo, none, more}
use Rattle.rules.specs.Loops.{From, start, step}

-- what is followed from a pin when more pins stop
pub below_in : (g : List Node) (stop : List ℕ) (p x : ℕ) → In x (below g stop p) → Out p stop × In x (operands (get_or g p leaf))
unfolding below
below_in g stop p x e = split (mem p stop) (λ d. in_nil x (rw (d, below) at e)) (λ d. (d, rw (d, below) at e))

-- an operand of a pin that doesn't stop is followed
pub in_below : (g : List Node) (stop : List ℕ) (p x : ℕ) → Out p stop → In x (operands (get_or g p leaf)) → In x (below g stop p)
unfolding below
in_below g stop p x d e = rw (d, below) e

-- what is out of a list is out of its parts
pub out_sub : (xs ys : List ℕ) → Sub xs ys → (q : ℕ) → Out q ys → Out q xs
out_sub xs ys h q d = split (mem q xs) (λ e. true_false (h q e) d) (λ e. e)

-- where more pins stop, nothing else is followed
pub below_sub : (g : List Node) (done stop : List ℕ) → Sub done stop → (p x : ℕ) → In x (below g stop p) → In x (below g done p)
below_sub g done stop h p x e = let b = below_in g stop p x e in in_below g done p x (out_sub done stop h p b.0) b.1

-- where more pins stop, a traversal's order is still one
pub topo_sub : (g : List Node) (done stop : List ℕ) → Sub done stop → {s : List ℕ} → Topo g done s → Topo g stop s
topo_sub g done stop h none = none
topo_sub g done stop h (more {p = p} o c t) = more o (λ x e. c x (below_sub g done stop h p x e)) (topo_sub g done stop h t)

-- where fewer pins stop and more are started from, all that was reached is reached
pub from_sub : (g : List Node) (done stop ps qs : List ℕ) → Sub done stop → Sub ps qs → {q : ℕ} → From g stop ps q → From g done qs q
from_sub g done stop ps qs h i (start {q = q} e) = start (i q e)
from_sub g done stop ps qs h i (step {q = q} {x = x} f e) = step (from_sub g done stop ps qs h i f) (below_sub g done stop h q x e)

-- what is followed from a pin of a traversal is in it
pub topo_closed : (g : List Node) (stop : List ℕ) {s : List ℕ} → Topo g stop s → (q x : ℕ) → In q s → In x (below g stop q) → In x s
topo_closed g stop none q x e d = in_nil q e
topo_closed g stop (more {p = p} {s = s} o c t) q x e d = elim (in_cons q p s e) [
  | inl a ↦ in_there x p s (c x (rw a at d))
  | inr a ↦ in_there x p s (topo_closed g stop t q x a d)
]

-- and so is all that is reached from its pins
pub from_in : (g : List Node) (stop ps : List ℕ) {s : List ℕ} → Topo g stop s → Sub ps s → {q : ℕ} → From g stop ps q → In q s
from_in g stop ps t h (start {q = q} e) = h q e
from_in g stop ps t h (step {q = q} {x = x} f e) = topo_closed g stop t q x (from_in g stop ps t h f) e

-- raising
rise : (rl : List ℕ) (p n q : ℕ) → get_or rl q 0 ≤ get_or (set rl p (max n (get_or rl p 0))) q 0
rise [] p n q = omega arith
rise (x ∷ rl) zero n zero = omega arith
rise (x ∷ rl) zero n (suc q) = omega arith
rise (x ∷ rl) (suc p) n zero = omega arith
rise (x ∷ rl) (suc p) n (suc q) = rise rl p n q

length_raise : (n : ℕ) (ps rl : List ℕ) → length (raise n ps rl) ≡ length rl
unfolding raise
length_raise n [] rl = refl
length_raise n (p ∷ ps) rl = length_raise n ps _ ∙ length-set rl p _

raise_mono : (n : ℕ) (ps rl : List ℕ) (q : ℕ) → get_or rl q 0 ≤ get_or (raise n ps rl) q 0
unfolding raise
raise_mono n [] rl q = omega arith
raise_mono n (p ∷ ps) rl q = omega (arith, rise rl p n q, raise_mono n ps (set rl p (max n (get_or rl p 0))) q)

-- a raised pin gets at least that number
pub raise_in : (n : ℕ) (ps rl : List ℕ) (q : ℕ) → In q ps → q < length rl → n ≤ get_or (raise n ps rl) q 0
unfolding raise
raise_in n [] rl q e h = in_nil q e
raise_in n (p ∷ ps) rl q e h = elim (in_cons q p ps e) [
  | inl d ↦ let hp : p < length rl = rw d at h in
      rw d (omega (arith, raise_mono n ps (set rl p (max n (get_or rl p 0))) p, get_or-set_same rl p (max n (get_or rl p 0)) 0 hp))
  | inr d ↦ raise_in n ps (set rl p (max n (get_or rl p 0))) q d (rw length-set h)
]

-- another pin keeps its own
pub raise_out : (n : ℕ) (ps rl : List ℕ) (q : ℕ) → Out q ps → get_or (raise n ps rl) q 0 ≡ get_or rl q 0
unfolding raise
raise_out n [] rl q e = refl
raise_out n (p ∷ ps) rl q e = raise_out n ps _ q (out_tail q p ps e) ∙ get_or-set_other rl p q _ 0 (out_head q p ps e)

-- lifting what a pin follows
module _ (g : List Node) (stop : List ℕ) where
  -- a number is 0 or one more than another
  pub nat : {P : Type 0} (n : ℕ) → (n ≡ 0 → P) → ((m : ℕ) → n ≡ suc m → P) → P
  nat zero z s = z refl
  nat (suc m) z s = s m refl

  -- raising along operands keeps the table's length
  pub length_lift : (p : ℕ) (rl : List ℕ) → length (lift g stop p rl) ≡ length rl
  unfolding lift
  length_lift p rl = nat (get_or rl p 0) (λ e. rw (e, lift)) (λ m e. rw (e, lift) (length_raise (suc (suc m)) (below g stop p) rl))

  lift_mono : (p : ℕ) (rl : List ℕ) (q : ℕ) → get_or rl q 0 ≤ get_or (lift g stop p rl) q 0
  unfolding lift
  lift_mono p rl q = nat (get_or rl p 0) (λ e. rw (e, lift) (omega arith)) (λ m e. rw (e, lift) (raise_mono (suc (suc m)) (below g stop p) rl q))

  lift_in : (p : ℕ) (rl : List ℕ) (x : ℕ) → 0 < get_or rl p 0 → In x (below g stop p) → x < length rl → 0 < get_or (lift g stop p rl) x 0
  unfolding lift
  lift_in p rl x h e b = nat (get_or rl p 0) (λ d. absurd (omega arith)) (λ m d. rw (d, lift) (omega (arith, raise_in (suc (suc m)) (below g stop p) rl x e b)))

  -- raising along operands changes only the pins that are followed
  pub lift_out : (p : ℕ) (rl : List ℕ) (q : ℕ) → Out q (below g stop p) → get_or (lift g stop p rl) q 0 ≡ get_or rl q 0
  unfolding lift
  lift_out p rl q o = nat (get_or rl p 0) (λ e. rw (e, lift)) (λ m e. rw (e, lift) (raise_out (suc (suc m)) (below g stop p) rl q o))

  lifts_mono : (s rl : List ℕ) (q : ℕ) → get_or rl q 0 ≤ get_or (thread (lift g stop) s rl) q 0
  unfolding thread
  lifts_mono [] rl q = omega arith
  lifts_mono (p ∷ s) rl q = omega (arith, lift_mono p rl q, lifts_mono s (lift g stop p rl) q)

  lifts_out : {s : List ℕ} → Topo g stop s → (rl : List ℕ) (q : ℕ) → Out q s → get_or (thread (lift g stop) s rl) q 0 ≡ get_or rl q 0
  unfolding thread
  lifts_out none rl q o = refl
  lifts_out (more {p = p} {s = s} f c t) rl q o =
      lifts_out t (lift g stop p rl) q (out_tail q p s o) ∙ lift_out p rl q (out_sub (below g stop p) s c q (out_tail q p s o))

  lifts_closed : {s : List ℕ} → Topo g stop s → (rl : List ℕ) → ((x : ℕ) → In x s → x < length rl) → (q x : ℕ) → In q s → 0 < get_or (thread (lift g stop) s rl) q 0 → In x (below g stop q) → 0 < get_or (thread (lift g stop) s rl) x 0
  unfolding thread
  lifts_closed none rl b q x e h d = in_nil q e
  lifts_closed (more {p = p} {s = s} o c t) rl b q x e h d = elim (in_cons q p s e) [
    | inl a ↦
        let dp : In x (below g stop p) = rw a at d in
        let hp : 0 < get_or (thread (lift g stop) s (lift g stop p rl)) p 0 = rw a at h in
        let z : 0 < get_or rl p 0 = omega (arith, lifts_out t (lift g stop p rl) p o, lift_out p rl p (out_sub (below g stop p) s c p o)) in
        omega (arith, lift_in p rl x z dp (b x (in_there x p s (c x dp))), lifts_mono s (lift g stop p rl) x)
    | inr a ↦ lifts_closed t (lift g stop p rl) (λ y i. rw length_lift (b y (in_there y p s i))) q x a h d
  ]

-- with a traversal
module _ (X : Setting) (t : Topo X.g X.done X.seen) (bound : (x : ℕ) → In x X.seen → x < length X.g) (has : Sub X.waiting X.seen) where
  -- every pin that is reached past no placed one has a reverse level
  pub reached : (tr : List ℕ) {q : ℕ} → From X.g (tr ++ X.done) X.waiting q → 0 < get_or (reverse_levels X tr) q 0
  unfolding reverse_levels
  reached tr (start {q = q} e) =
      let rl : List ℕ = replicate (length X.g) 0 in
      omega (arith, raise_in 1 X.waiting rl q e (rw length-replicate (bound q (has q e))), lifts_mono X.g (tr ++ X.done) X.seen (raise 1 X.waiting rl) q)
  reached tr (step {q = q} {x = x} f e) =
      let stop : List ℕ = tr ++ X.done in
      let ts : Topo X.g stop X.seen = topo_sub X.g X.done stop (λ y d. in_append_right y tr X.done d) t in
      lifts_closed X.g stop ts (raise 1 X.waiting (replicate (length X.g) 0)) (λ y i. rw (length_raise, length-replicate) (bound y i)) q x
      (from_in X.g stop X.waiting ts has f) (reached tr f) e
