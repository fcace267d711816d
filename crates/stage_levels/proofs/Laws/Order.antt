-- Along the order: what stands before a pin is a traversal too, and holds all that is followed from it; levels stay below the pins' number. Assumes nothing.
use mathlib.Core.Path.{◌≡◌, refl, sym, ◌∙◌, ap}
use mathlib.Core.Logic.{inl, inr}
use mathlib.Core.List.{List, [], ◌∷◌, ◌++◌, reverse, reverse-append, reverse-reverse}
use Prim.Native.Nat.{ℕ, suc, ◌<◌, ◌≤◌}
use native.Mathlib.Omega.{arith}
use lib.ListN.{length, get_or, take, drop, take-append-drop, length-reverse, get_or-replicate}
use lib.Seq.{take-suc, take_all, length-take-le, get_or-set_same, get_or-set_other}
use Rattle.rules.specs.Graph.{Node, below}
use Rattle.rules.specs.Traversal.{levels, setting, level_at}
use Rattle.rules.specs.Lists.{In, Out}
use Rattle.rules.proofs.Lists.Members.{in_here, in_there, in_cons, in_nil, in_out, out_head, out_tail, in_append_right}
use Rattle.rules.specs.Inside.Walks.{Ranked, Topo, none, more}
use Rattle.rules.proofs.Walk.Levels.{over_least, length_levels}
use Rattle.stage_walk.specs.Stands.{Context}
use Rattle.stage_walk.proofs.Contexts.{order_is}

topo_right : (g : List Node) (done xs : List ℕ) {ys : List ℕ} → Topo g done (xs ++ ys) → Topo g done ys
topo_right g done [] t = t
topo_right g done (x ∷ xs) (more o h t) = topo_right g done xs t

-- what is followed from the first pin of a traversal is in the rest
pub topo_next : (g : List Node) (done : List ℕ) {p : ℕ} {s : List ℕ} → Topo g done (p ∷ s) → (x : ℕ) → In x (below g done p) → In x s
topo_next g done (more o h t) = h

-- levels are below the number of pins
pub levels_few : (g : List Node) (done : List ℕ) (r : ℕ → ℕ) → Ranked g done r → {s : List ℕ} → Topo g done s → ((p : ℕ) → In p s → p < length g) → (q : ℕ) → In q s →
    get_or (levels g done s) q 0 < length s
unfolding levels
levels_few g done r k none b q e = in_nil q e
levels_few g done r k (more {p = p} {s = s} o c t) b q e =
    let ih : (x : ℕ) → In x s → get_or (levels g done s) x 0 < length s = levels_few g done r k t (λ x d. b x (in_there x p s d)) in
    elim (in_cons q p s e) [
      | inl d ↦ rw (d, get_or-set_same (levels g done s) p _ 0 (rw (length_levels g done r k s) (b p (in_here p s))))
          (omega (arith, over_least (λ (x : ℕ). get_or (levels g done s) x 0) (below g done p) (length s) (λ x a. ih x (c x a))))
      | inr d ↦ rw (get_or-set_other (levels g done s) p q _ 0 (in_out q p s d o)) (omega (arith, ih q d))
    ]

-- and 0 at pins that are not listed
levels_out : (g : List Node) (done s : List ℕ) (q : ℕ) → q < length g → Out q s → get_or (levels g done s) q 0 ≡ 0
unfolding levels
levels_out g done [] q h o = get_or-replicate (length g) q 0 0 h
levels_out g done (p ∷ s) q h o = get_or-set_other (levels g done s) p q _ 0 (out_head q p s o) ∙ levels_out g done s q h (out_tail q p s o)

module _ (C : Context) where
  -- the first i pins, the last first
  abbrev pub before : ℕ → List ℕ
  before i = reverse (take i C.X.order)

  -- one pin more of the order stands before the others
  pub before_next : (i : ℕ) → i < length C.X.order → before (suc i) ≡ get_or C.X.order i 0 ∷ before i
  before_next i h = ap reverse (take-suc C.X.order i 0 h) ∙ reverse-append (take i C.X.order) (get_or C.X.order i 0 ∷ [])

  seen_is : reverse C.X.order ≡ C.X.seen
  seen_is = ap reverse (order_is C) ∙ reverse-reverse C.X.seen

  -- all pins are the traversal, last first
  pub before_all_lem : (i : ℕ) → length C.X.order ≤ i → before i ≡ C.X.seen
  before_all_lem i h = ap reverse (take_all i C.X.order h) ∙ seen_is

  parts : (i : ℕ) → reverse (drop i C.X.order) ++ before i ≡ C.X.seen
  parts i = sym (reverse-append (take i C.X.order) (drop i C.X.order)) ∙ ap reverse (take-append-drop i C.X.order) ∙ seen_is

  -- the first i pins are a traversal themselves
  pub before_topo : (i : ℕ) → Topo C.X.g C.X.done (before i)
  before_topo i = topo_right C.X.g C.X.done (reverse (drop i C.X.order)) (rw (parts i) C.S.visited.topo)

  -- the first i pins are listed
  pub before_seen : (i p : ℕ) → In p (before i) → In p C.X.seen
  before_seen i p e = rw (← parts i) (in_append_right p (reverse (drop i C.X.order)) (before i) e)

  -- the first i pins are pins of the graph
  pub before_pin : (i p : ℕ) → In p (before i) → p < length C.X.g
  before_pin i p e = C.S.bound p (before_seen i p e)

  -- up to the order's length the first i pins are i
  pub before_length : (i : ℕ) → i ≤ length C.X.order → length (before i) ≡ i
  before_length i h = length-reverse (take i C.X.order) ∙ length-take-le i C.X.order h

  -- the levels of the setting are those of the whole traversal
  pub lv_is : levels C.X.g C.X.done C.X.seen ≡ C.X.lv
  unfolding setting
  lv_is = rw C.is refl

  -- a level is below the number of listed pins
  pub level_few : (p : ℕ) → In p C.X.seen → level_at C.X p < length C.X.seen
  unfolding level_at
  level_few p e = rw (← lv_is) (levels_few C.X.g C.X.done C.r C.S.ranked C.S.visited.topo C.S.bound p e)

  -- a pin that is not listed has level 0
  pub level_out : (p : ℕ) → p < length C.X.g → Out p C.X.seen → get_or C.X.lv p 0 ≡ 0
  level_out p h o = rw (← lv_is) (levels_out C.X.g C.X.done C.X.seen p h o)
