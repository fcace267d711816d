-- A stage that places all needed pins lowers every depth that is left, and holds every pin that the next stage starts from. Assumes nothing.
use Prim.Native.Nat.{ℕ, zero, suc, pred, ◌≤◌, ◌<◌}
use mathlib.Core.Path.{◌≡◌, refl}
use mathlib.Core.Logic.{inl, inr}
use mathlib.Core.List.{List, [], ◌∷◌, ◌++◌}
use native.Mathlib.Omega.{arith}
use Rattle.rules.specs.Lists.{mem, In, Out, Sub}
use Rattle.rules.specs.Graph.{below}
use Rattle.rules.specs.Traversal.{over, Setting}
use Rattle.rules.specs.Placing.{asked, tree_of, needed_of}
use Rattle.rules.specs.Depth.{depth}
use Rattle.rules.proofs.Lists.Members.{split, true_false, in_here, in_append_left, in_append_right, in_append, out_append, in_keep}
use Rattle.rules.specs.Loops.{From, start, step}
use Rattle.rules.specs.Inside.Walks.{Ranked, Sound}
use Rattle.rules.proofs.Walk.Levels.{depth_at, over_above, over_least}
use Rattle.rules.proofs.Walk.Reverse.{out_sub, below_in, in_below, below_sub, from_sub, from_in}
use Rattle.rules.proofs.Needed.Needs.{need}

-- pl2 holds what pl holds, and all that pl leaves needed
pub record Served (X : Setting) (pl pl2 : List ℕ) : Type 0 where
  pub grows : Sub (tree_of X pl) (tree_of X pl2)
  pub all : Sub (needed_of X pl) (tree_of X pl2)

module _ (X : Setting) (r : ℕ → ℕ) (f : ℕ) (S : Sound X r f) (pl pl2 : List ℕ) (H : Served X pl pl2) where
  abbrev stop : List ℕ
  stop = tree_of X pl2 ++ X.done

  done_stop : Sub X.done stop
  done_stop q e = in_append_right q (tree_of X pl2) X.done e

  stop_sub : Sub (tree_of X pl ++ X.done) stop
  stop_sub q e = elim (in_append q (tree_of X pl) X.done e) [
    | inl d ↦ in_append_left q (tree_of X pl2) X.done (H.grows q d)
    | inr d ↦ done_stop q d
  ]

  stops : Ranked X.g stop r
  stops p x e = S.ranked p x (below_sub X.g X.done stop done_stop p x e)

  module _ (ws : List ℕ) (less : Sub ws X.waiting) where
    listed : {q : ℕ} → From X.g stop ws q → In q X.seen
    listed fr = from_in X.g X.done X.waiting S.visited.topo S.visited.has (from_sub X.g X.done stop ws X.waiting done_stop less fr)

    -- what an unplaced pin asks for is placed
    given : (p : ℕ) → From X.g stop ws p → Out p (tree_of X pl2) → (l : ℕ) → depth f X.g X.done p ≡ l → (x : ℕ) → In x (asked X (tree_of X pl) p l) → In x (tree_of X pl2)
    given p fr o l e x a = H.all x (need X r f S pl p
        (from_sub X.g (tree_of X pl ++ X.done) stop ws X.waiting stop_sub less fr) (out_sub (tree_of X pl) (tree_of X pl2) H.grows p o) x
        (rw (S.level p (listed fr), e) a))

    out_left : (p : ℕ) → Out p stop → Out p (tree_of X pl2)
    out_left p o = out_sub (tree_of X pl2) stop (λ q e. in_append_left q (tree_of X pl2) X.done e) p o

    low : (q : ℕ) → From X.g stop ws q → Out q stop → ((x : ℕ) → In x (below X.g stop q) → depth f X.g stop x ≤ pred (depth f X.g X.done x)) →
        (l : ℕ) → depth f X.g X.done q ≡ l → ((x : ℕ) → In x (below X.g stop q) → depth f X.g X.done x < l) → over (depth f X.g stop) (below X.g stop q) ≤ pred l
    unfolding asked
    low q fr o ih zero e up = over_least (depth f X.g stop) (below X.g stop q) 0 (λ x d. absurd (omega (arith, up x d)))
    low q fr o ih (suc zero) e up = true_false (given q fr (out_left q o) 1 e q (in_here q [])) (out_left q o)
    low q fr o ih (suc (suc m)) e up = over_least (depth f X.g stop) (below X.g stop q) (suc m) (λ x d. omega (arith, ih x d, up x d))

    above : (q : ℕ) → From X.g stop ws q → (x : ℕ) → In x (below X.g stop q) → depth f X.g X.done x < depth f X.g X.done q
    above q fr x d = rw (depth_at X.g X.done r S.ranked f q (S.fuel q (listed fr)))
        (over_above (depth f X.g X.done) (below X.g X.done q) x (below_sub X.g X.done stop done_stop q x d))

    lowers_to : (n q : ℕ) → r q < n → From X.g stop ws q → depth f X.g stop q ≤ pred (depth f X.g X.done q)
    lowers_to zero q b fr = absurd (omega arith)
    lowers_to (suc n) q b fr = split (mem q stop)
        (λ e. rw (depth_at X.g stop r stops f q (S.fuel q (listed fr)))
        (omega (arith, over_least (depth f X.g stop) (below X.g stop q) 0 (λ x d. true_false e (below_in X.g stop q x d).0))))
        (λ e. rw (depth_at X.g stop r stops f q (S.fuel q (listed fr)))
        (low q fr e (λ x d. lowers_to n x (omega (arith, stops q x d)) (step fr d)) (depth f X.g X.done q) refl (above q fr)))

    -- every pin that is still reached from what waits is one less deep, if it had any depth
    pub lowers : (q : ℕ) → From X.g stop ws q → depth f X.g stop q ≤ pred (depth f X.g X.done q)
    lowers q fr = lowers_to f q (S.fuel q (listed fr)) fr

    -- a pin at which the next stage starts, and that this stage did not hold, would have been at level 0 in this stage too
    flat : (x : ℕ) → From X.g stop ws x → depth f X.g stop x ≡ 0 → Out x (tree_of X pl2) → depth f X.g X.done x ≡ 0
    flat x fr z o =
        let h : r x < f = S.fuel x (listed fr) in
        let e : over (depth f X.g X.done) (below X.g X.done x) ≤ 0 =
        over_least (depth f X.g X.done) (below X.g X.done x) 0 (λ y d.
        let b = below_in X.g X.done x y d in
        let i : In y (below X.g stop x) = in_below X.g stop x y (out_append x (tree_of X pl2) X.done o b.0) b.1 in
        absurd (omega (arith, depth_at X.g stop r stops f x h, over_above (depth f X.g stop) (below X.g stop x) y i)))
        in
        omega (arith, depth_at X.g X.done r S.ranked f x h)

    held : (x : ℕ) → From X.g stop ws x → depth f X.g X.done x ≡ 0 → Out x (tree_of X pl2) → (l q : ℕ) → From X.g stop ws q → depth f X.g X.done q ≡ l → In x (below X.g stop q) → In x (tree_of X pl2)
    unfolding asked
    held x fx z o zero q fr e d = absurd (omega (arith, above q fr x d))
    held x fx z o (suc zero) q fr e d = let c : Out q (tree_of X pl2) = out_left q (below_in X.g stop q x d).0 in true_false (given q fr c 1 e q (in_here q [])) c
    held x fx z o (suc (suc m)) q fr e d =
        given q fr (out_left q (below_in X.g stop q x d).0) (suc (suc m)) e x
        (in_keep _ x (below X.g X.done q) (below_sub X.g X.done stop done_stop q x d)
        (rw (S.level x (listed fx), z, out_sub (tree_of X pl) (tree_of X pl2) H.grows x o)))

    hold : (x : ℕ) → From X.g stop ws x → depth f X.g X.done x ≡ 0 → Out x (tree_of X pl2) → In x (tree_of X pl2)
    unfolding asked
    hold x (start e) z o = given x (start e) o 0 z x (in_keep _ x (x ∷ []) (in_here x []) (less x e))
    hold x (step {q = q} fr d) z o = held x (step fr d) z o (depth f X.g X.done q) q fr refl d

    -- a pin of depth 0 that is still reached is in the tree
    pub holds : (x : ℕ) → From X.g stop ws x → depth f X.g stop x ≡ 0 → In x (tree_of X pl2)
    holds x fr z = split (mem x (tree_of X pl2)) (λ e. e) (λ o. hold x fr (flat x fr z o) o)
