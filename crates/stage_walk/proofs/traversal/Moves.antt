-- The steps of the stack: each leaves the same to do. Under the top ranks rise, so the stack is no longer than the graph. Assumes nothing.
use mathlib.Core.Path.{◌≡◌, refl, ap}
use mathlib.Core.Logic.{inl, inr}
use mathlib.Core.List.{List, [], ◌∷◌}
use Prim.Native.Nat.{ℕ, zero, suc, ◌+◌, ◌*◌, ◌<◌, ◌≤◌}
use native.Mathlib.Omega.{arith}
use lib.ListN.{length, drop}
use Rattle.rules.specs.Lists.{mem, In, Out}
use Rattle.rules.specs.Graph.{Node, below}
use Rattle.rules.specs.Traversal.{thread, visit}
use Rattle.rules.proofs.Lists.Members.{split, true_false, in_cons}
use Rattle.rules.specs.Inside.Walks.{Ranked}
use Rattle.stage_walk.specs.Machine.{Item, item, rest, finish, phases, Chain, bottom, above, Stack, none, some}
use Rattle.stage_walk.proofs.traversal.Fuel.{visit_seen, visit_open}

module _ (g : List Node) (done : List ℕ) (r : ℕ → ℕ) (R : Ranked g done r) where
  rest_open : (f p k : ℕ) (seen : List ℕ) → r p < f → (k ≡ 0 → Out p seen) → rest f g done p k seen ≡ p ∷ thread (visit f g done) (drop k (below g done p)) seen
  unfolding rest
  rest_open f p zero seen h o = visit_open g done r R f p seen h (o refl)
  rest_open f p (suc k) seen h o = refl

  module _ (f p k : ℕ) (s : List Item) (seen : List ℕ) where
    -- a listed pin on top adds nothing to do
    pub finish_seen : k ≡ 0 → In p seen → finish f g done s seen ≡ finish f g done (item p k ∷ s) seen
    unfolding finish rest
    finish_seen e i = rw (e, visit_seen g done r R f p seen i)

    module _ (h : r p < f) (o : k ≡ 0 → Out p seen) where
      -- a pin listed once no more is followed from it leaves the same to do
      pub finish_list : drop k (below g done p) ≡ [] → finish f g done s (p ∷ seen) ≡ finish f g done (item p k ∷ s) seen
      unfolding finish thread
      finish_list e = rw (rest_open f p k seen h o, e)

      -- a followed pin put on leaves the same to do
      pub finish_on : (q : ℕ) → drop k (below g done p) ≡ q ∷ drop (suc k) (below g done p) → finish f g done (item q 0 ∷ item p (suc k) ∷ s) seen ≡ finish f g done (item p k ∷ s) seen
      unfolding finish thread rest
      finish_on q e = rw (rest_open f p k seen h o, e)

module _ (g : List Node) (done : List ℕ) (r : ℕ → ℕ) where
  -- the stack under the top is shorter than the graph
  pub chain_few : {seen : List ℕ} {b : ℕ} {s : List Item} → b < length g → Chain g done r seen b s → b + length s < length g
  chain_few h bottom = omega arith
  chain_few h (above l k o c) = omega (arith, chain_few k.1 c)

  -- a pin of lower rank is listed
  pub chain_list : (q : ℕ) {seen : List ℕ} {b : ℕ} {s : List Item} → r q ≤ b → Chain g done r seen b s → Chain g done r (q ∷ seen) b s
  chain_list q h bottom = bottom
  chain_list q {seen = seen} h (above {p = p} l k o c) = above l k (record { most = o.most; fresh = fresh }) (chain_list q (omega arith) c)
    where
      fresh : Out p (q ∷ seen)
      fresh = split (mem p (q ∷ seen)) (λ e. elim (in_cons p q seen e) [ inl d ↦ absurd (omega (arith, ap r d)) | inr d ↦ true_false d o.fresh ]) (λ e. e)

  -- without its top a stack is still one
  pub pop : {seen : List ℕ} {b : ℕ} {s : List Item} → Chain g done r seen b s → Stack g done r seen s
  pop bottom = none
  pop (above l k o c) = some (record { pin = k.0; rank = k.1; opened = o; under = c })

  -- an item's phase is at most 2
  pub phases_most : ((p : ℕ) → length (below g done p) ≤ 2) → {seen : List ℕ} {b : ℕ} {s : List Item} → Chain g done r seen b s → phases s ≤ 2 * length s
  unfolding phases
  phases_most two bottom = omega arith
  phases_most two (above {p = p} l k o c) = omega (arith, two p, o.most, phases_most two c)
