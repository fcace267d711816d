-- The classes of the waiting pins, branch by branch. Assumes nothing.
use mathlib.Core.Path.{◌≡◌, refl, sym, ap, ◌∙◌}
use mathlib.Core.Bool.{Bool, true, false, not, ◌||◌}
use mathlib.Core.List.{List, [], ◌∷◌, ◌++◌}
use Prim.Native.Nat.{ℕ, ◌+◌, ◌*◌, ◌<◌, ◌≤◌}
use native.Mathlib.Omega.{arith}
use native.Mathlib.Numerals.{add-one}
use lib.ListN.{get_or, take}
use lib.Seq.{take-suc}
use borrow.Author.Tests.{eq-eqb, ne_eqb, lt-ltb, le-ltb}
use Rattle.rules.specs.Lists.{keep, is_nil, insert_all}
use Rattle.rules.proofs.Lists.Members.{split, keep_append, insert_all-append}
use Rattle.columns.specs.Fields.{LEVEL, CELLS, PHASE, SPARE, WAITING}
use Rattle.columns.specs.Lists.{list, Enlisted}
use Rattle.columns.proofs.Area.Frames.{frame_none, frame_then, frame_room}
use Rattle.columns.proofs.Lists.Entries.{holds_at}
use Rattle.columns.proofs.Lists.Marks.{marked_none}
use Rattle.stage_runs.specs.Classes.{is_needed, is_untouched, ClassAt, Classed, SplitAt, Splitting}

-- ---- lists

any_append : (f : ℕ → Bool) (xs : List ℕ) (x : ℕ) → not (is_nil (keep f (xs ++ (x ∷ [])))) ≡ (not (is_nil (keep f xs)) || f x)
unfolding keep is_nil
any_append f [] x = split (f x) (λ e. rw (e, keep)) (λ e. rw (e, keep))
any_append f (y ∷ xs) x = split (f y) (λ e. rw (e, keep)) (λ e. rw (e, keep) (any_append f xs x))

or_none : (t : Bool) → (t || false) ≡ t
or_none true = refl
or_none false = refl

-- anything or a truth is true
pub or_some : (t : Bool) → (t || true) ≡ true
or_some true = refl
or_some false = refl

-- ---- one pin

module _ {m n p : ℕ} {w : List ℕ} (a : ClassAt m n p w) (t : Bool) where
  abbrev cells : ℕ
  cells = get_or w (CELLS * m + p) 0

  abbrev level : ℕ
  level = get_or w (LEVEL * m + p) 0

  -- nothing is listed
  stays : is_needed m w p ≡ false → (u : Bool) → u ≡ (t || is_untouched m w p) → Classed m n t p w w n u
  unfolding keep insert_all
  stays e u d = record { frame = frame_none; now = rw (e, keep) a.now; untouched = d }

  -- a waiting pin in the tree is in neither of the other classes
  pub class_tree : (cells ≡ 0 → ⊥) → Classed m n t p w w n t
  unfolding is_needed is_untouched
  class_tree ne = let z = ne_eqb cells 0 ne in stays (rw z) t (rw z (sym (or_none t)))

  -- a waiting pin without a cell and of a level above 1 is untouched
  pub class_untouched : cells ≡ 0 → 1 < level → Classed m n t p w w n true
  unfolding is_needed is_untouched
  class_untouched e h = let z = eq-eqb cells 0 e in let y = lt-ltb 1 level h in stays (rw (z, y)) true (rw (z, y) (sym (or_some t)))

  -- a waiting pin without a cell and of level 0 or 1 is needed
  pub class_needed : cells ≡ 0 → level ≤ 1 → {w' : List ℕ} {r : ℕ} → Enlisted PHASE SPARE m n p w w' r → Classed m n t p w w' r t
  unfolding is_needed is_untouched keep insert_all
  class_needed e h E =
      let z = eq-eqb cells 0 e in
      let y = le-ltb 1 level h in
      record { frame = E.frame; now = rw (z, y, keep) E.now; untouched = rw (z, y) (sym (or_none t)) }

-- ---- all of them

-- at the first waiting pin none is classed
pub splitting_none : {m n : ℕ} {w : List ℕ} → SplitAt m n w → Splitting m n 0 w w 0 false
unfolding keep insert_all is_nil
splitting_none a = record { upto = omega arith; frame = frame_none; now = marked_none a.clear; untouched = refl }

module _ {m n i : ℕ} {w w₁ : List ℕ} {r : ℕ} {u : Bool} (a : SplitAt m n w) (S : Splitting m n i w w₁ r u) (h : i < n) where
  abbrev xs : List ℕ
  xs = list WAITING m n w

  pin_is : get_or w₁ (WAITING * m + i) 0 ≡ get_or xs i 0
  pin_is = S.frame.cell WAITING refl (omega arith) i (omega (arith, a.waiting.few)) ∙ holds_at a.waiting i h

  -- the next waiting pin is a pin of the area
  pub pin_below : get_or w₁ (WAITING * m + i) 0 < m
  pin_below = rw pin_is (a.waiting.pins i h)

  -- the next waiting pin may be classed
  pub class_at : (p : ℕ) → p ≡ get_or w₁ (WAITING * m + i) 0 → ClassAt m r p w₁
  class_at p e = record { area = frame_room S.frame a.area; pin = rw e pin_below; now = rw S.now.held.is S.now }

  test_same : (p : ℕ) → p < m → (is_needed m w₁ p ≡ is_needed m w p) × (is_untouched m w₁ p ≡ is_untouched m w p)
  unfolding is_needed is_untouched
  test_same p b = let c = S.frame.cell CELLS refl (omega arith) p b in let l = S.frame.cell LEVEL refl (omega arith) p b in (rw (c, l), rw (c, l))

  next : take (i + 1) xs ≡ take i xs ++ (get_or xs i 0 ∷ [])
  next = rw (add-one i) (take-suc xs i 0 (omega (arith, a.waiting.count)))

  -- one more waiting pin is classed
  pub splitting_more : (p : ℕ) → p ≡ get_or w₁ (WAITING * m + i) 0 → {w₂ : List ℕ} {r₂ : ℕ} {u₂ : Bool} → Classed m r u p w₁ w₂ r₂ u₂ → Splitting m n (i + 1) w w₂ r₂ u₂
  unfolding keep
  splitting_more p e {w₂} {r₂} {u₂} C =
      let b : p < m = rw e pin_below in
      let q : p ≡ get_or xs i 0 = e ∙ pin_is in
      let k : keep (is_needed m w₁) (p ∷ []) ≡ keep (is_needed m w) (get_or xs i 0 ∷ []) = rw (keep, (test_same p b).0) (ap (λ (x : ℕ). keep (is_needed m w) (x ∷ [])) q) in
      record {
        upto = omega arith;
        frame = frame_then S.frame C.frame;
        now = rw (next, keep_append, insert_all-append, ← k, ← S.now.held.is) C.now;
        untouched = C.untouched ∙ rw (S.untouched, (test_same p b).1, q, next, any_append) refl;
      }
