-- Every filled cell above level 0 copies its first lower cell, or holds a gate whose operands stand in both lower cells. Assumes nothing.
use Prim.Native.Nat.{ℕ, zero, suc, ◌+◌, ◌*◌, ◌^◌, ◌≤◌, ◌<◌}
use mathlib.Core.Path.{◌≡◌, refl, sym, ◌∙◌, ap, subst}
use mathlib.Core.Logic.{◌⊎◌, inl, inr, ◌≢◌}
use mathlib.Core.Bool.{true, false}
use mathlib.Core.List.{List}
use native.Mathlib.Omega.{arith}
use native.Mathlib.Nat.{pow-succ'}
use lib.Dec.{eqb, ltb}
use lib.ListN.{length, get_or, set, replicate, length-set}
use lib.Seq.{get_or-set_same, get_or-set_other}
use borrow.Author.Tests.{ltb-true, ltb-false}
use Rattle.rules.specs.Cells.{filled, empty, row_at}
use Rattle.rules.specs.Graph.{leaf, pin_of}
use Rattle.rules.specs.Traversal.{Setting, level_at}
use Rattle.rules.specs.Placing.{place}
use Rattle.rules.specs.Lists.{In}
use Rattle.rules.proofs.Lists.Members.{split, true_false, eqb_true, eqb_false}
use Rattle.rules.specs.Inside.Walks.{Sound, Marked}
use Rattle.rules.specs.Inside.Plans.{Placeable, Step, copies, splits, Sane}
use Rattle.rules.proofs.Stage.Flat.{blank_replicate}
use Rattle.rules.proofs.Stage.Staged.{two_step}
use Rattle.rules.proofs.Stage.Lengths.{len_place}
use Rattle.rules.proofs.Tree.Loads.{wide, rows, first, second, leaf_level, not_done}
use Rattle.rules.proofs.Tree.Held.{node}

-- two rows are the same, or one is at least twice as long
pub same_row : (m h k w v : ℕ) → w * 2 ^ h ≡ m → v * 2 ^ k ≡ m → ((w ≡ v) × (h ≡ k)) ⊎ ((w + w ≤ v) ⊎ (v + v ≤ w))
same_row m zero zero w v d e = inl (omega arith, refl)
same_row m zero (suc k) w v d e = let a : v * (2 * 2 ^ k) ≡ m = rw (pow-succ' 2 k) at e in inr (inr (omega (arith, wide v k)))
same_row m (suc h) zero w v d e = let a : w * (2 * 2 ^ h) ≡ m = rw (pow-succ' 2 h) at d in inr (inl (omega (arith, wide w h)))
same_row m (suc h) (suc k) w v d e =
    let a : w * (2 * 2 ^ h) ≡ m = rw (pow-succ' 2 h) at d in
    let b : v * (2 * 2 ^ k) ≡ m = rw (pow-succ' 2 k) at e in
    elim (same_row m h k (2 * w) (2 * v) (omega arith) (omega arith)) [
      | inl c ↦ inl (omega arith, omega arith)
      | inr c ↦ elim c [ inl x ↦ inr (inl (omega arith)) | inr x ↦ inr (inr (omega arith)) ]
    ]

-- placing changes only cells under the cell
pub frame : (X : Setting) (h w p n : ℕ) (pl : List ℕ) (q : ℕ) → ((i : ℕ) → q ≢ p + i * w) → get_or (place X h w p n pl) q empty ≡ get_or pl q empty
unfolding place
frame X zero w p n pl q off = get_or-set_other pl p q n empty (λ e. off 0 (omega arith))
frame X (suc h) w p n pl q off =
    let s : get_or (set pl p n) q empty ≡ get_or pl q empty = get_or-set_other pl p q n empty (λ e. off 0 (omega arith)) in
    let n1 : (i : ℕ) → q ≢ p + w + i * (2 * w) = λ i e. off (1 + 2 * i) (omega arith) in
    let n2 : (i : ℕ) → q ≢ p + 2 * w + i * (2 * w) = λ i e. off (2 + 2 * i) (omega arith) in
    split (ltb (level_at X n) (suc h))
    (λ d. rw (d, place) (frame X h (2 * w) (p + w) n (set pl p n) q n1 ∙ s))
    (λ d. node (get_or X.g n leaf) (λ c. rw (d, c, place) s)
    (λ x y c. rw (d, c, place) (frame X h (2 * w) (p + 2 * w) (pin_of y) _ q n2 ∙ frame X h (2 * w) (p + w) (pin_of x) (set pl p n) q n1 ∙ s)))

-- and the cell holds the pin
pub head : (X : Setting) (h w p n : ℕ) (pl : List ℕ) → 0 < w → p < length pl → get_or (place X h w p n pl) p empty ≡ n
unfolding place
head X zero w p n pl b l = get_or-set_same pl p n empty l
head X (suc h) w p n pl b l =
    let s : get_or (set pl p n) p empty ≡ n = get_or-set_same pl p n empty l in
    let n1 : (i : ℕ) → p ≢ p + w + i * (2 * w) = λ i e. omega arith in
    let n2 : (i : ℕ) → p ≢ p + 2 * w + i * (2 * w) = λ i e. omega arith in
    split (ltb (level_at X n) (suc h))
    (λ d. rw (d, place) (frame X h (2 * w) (p + w) n (set pl p n) p n1 ∙ s))
    (λ d. node (get_or X.g n leaf) (λ c. rw (d, c, place) s)
    (λ x y c. rw (d, c, place) (frame X h (2 * w) (p + 2 * w) (pin_of y) _ p n2 ∙ frame X h (2 * w) (p + w) (pin_of x) (set pl p n) p n1 ∙ s)))

-- the cell p is empty, or the cells above it are exempt
abbrev Free : Setting → (ℕ → Type 0) → List ℕ → ℕ → Type 0
Free X E pl p = (filled (get_or pl p empty) ≡ false) ⊎ ((h w q : ℕ) → w * 2 ^ suc h ≡ 2 ^ X.K → w ≤ q → q < w + w → (q + w ≡ p) ⊎ (q + 2 * w ≡ p) → E q)

module _ (X : Setting) (r : ℕ → ℕ) (f : ℕ) (S : Sound X r f) (M : Marked X) where
  not_there : (E : ℕ → Type 0) (pl : List ℕ) (p : ℕ) → Free X E pl p → (h w q c v : ℕ) → w * 2 ^ suc h ≡ 2 ^ X.K → w ≤ q → q < w + w → (E q → ⊥) → (q + w ≡ c) ⊎ (q + 2 * w ≡ c) → get_or pl c empty ≡ v → filled v ≡ true → c ≢ p
  not_there E pl p (inl fr) h w q c v e a b x k d g z = true_false (subst (λ (u : ℕ). filled u ≡ true) (sym d ∙ ap (λ (u : ℕ). get_or pl u empty) z) g) fr
  not_there E pl p (inr up) h w q c v e a b x k d g z = x (up h w q e a b (elim k [ inl y ↦ inl (y ∙ z) | inr y ↦ inr (y ∙ z) ]))

  set_sane : (E : ℕ → Type 0) (pl : List ℕ) (p n : ℕ) → Sane X E pl → Free X E pl p → Sane X (λ q. E q ⊎ (q ≡ p)) (set pl p n)
  set_sane E pl p n k fr h w q e a b x g =
      let here : get_or (set pl p n) q empty ≡ get_or pl q empty = get_or-set_other pl p q n empty (λ z. x (inr z)) in
      let g0 : filled (get_or pl q empty) ≡ true = rw here at g in
      go here g0 (k h w q e a b (λ z. x (inl z)) g0)
    where
      go : get_or (set pl p n) q empty ≡ get_or pl q empty → filled (get_or pl q empty) ≡ true → Step X pl w q → Step X (set pl p n) w q
      go here g0 (copies c) = copies (get_or-set_other pl p (q + w) n empty (not_there E pl p fr h w q (q + w) (get_or pl q empty) e a b (λ z. x (inl z)) (inl refl) c g0) ∙ c ∙ sym here)
      go here g0 (splits {a = i} {b = j} o c y z) = splits {a = i} {b = j} (rw here o) (rw here c)
          (get_or-set_other pl p (q + w) n empty (not_there E pl p fr h w q (q + w) (pin_of i) e a b (λ u. x (inl u)) (inl refl) y (M _ i j c).0) ∙ y)
          (get_or-set_other pl p (q + 2 * w) n empty (not_there E pl p fr h w q (q + 2 * w) (pin_of j) e a b (λ u. x (inl u)) (inr refl) z (M _ i j c).1) ∙ z)

  -- a cell's lower cells lie under no other cell
  parent : (h k w v p q : ℕ) → w * 2 ^ suc h ≡ 2 ^ X.K → v * 2 ^ suc k ≡ 2 ^ X.K → w ≤ p → p < w + w → v ≤ q → q < v + v →
      (c : ℕ) → (p + w ≡ c) ⊎ (p + 2 * w ≡ c) → (q + v ≡ c) ⊎ (q + 2 * v ≡ c) → q ≡ p
  parent h k w v p q d e a b i j c x y = elim (same_row (2 ^ X.K) (suc h) (suc k) w v d e) [
    | inl z ↦ elim x [ inl u ↦ elim y [ inl t ↦ omega arith | inr t ↦ omega arith ] | inr u ↦ elim y [ inl t ↦ omega arith | inr t ↦ omega arith ] ]
    | inr z ↦ elim x [
      | inl u ↦ elim y [ inl t ↦ elim z [ inl s ↦ omega arith | inr s ↦ omega arith ] | inr t ↦ elim z [ inl s ↦ omega arith | inr s ↦ omega arith ] ]
      | inr u ↦ elim y [ inl t ↦ elim z [ inl s ↦ omega arith | inr s ↦ omega arith ] | inr t ↦ elim z [ inl s ↦ omega arith | inr s ↦ omega arith ] ]
    ]
  ]

  -- the exempt cell does right too
  mend : (E : ℕ → Type 0) (pl : List ℕ) (h w p : ℕ) → w * 2 ^ suc h ≡ 2 ^ X.K → w ≤ p → p < w + w → Sane X (λ q. E q ⊎ (q ≡ p)) pl → Step X pl w p → Sane X E pl
  mend E pl h w p e a b k t h2 w2 q e2 a2 b2 x g = split (eqb q p)
      (λ z. let y : q ≡ p = eqb_true q p z in
      let u : w2 ≡ w = elim (same_row (2 ^ X.K) (suc h) (suc h2) w w2 e e2) [ inl c ↦ sym c.0 | inr c ↦ elim c [ inl d ↦ absurd (omega arith) | inr d ↦ absurd (omega arith) ] ] in
      rw (y, u) t)
      (λ z. k h2 w2 q e2 a2 b2 (λ c. elim c [ inl d ↦ x d | inr d ↦ eqb_false q p z d ]) g)

  place_sane : (h w p n : ℕ) (pl : List ℕ) (E : ℕ → Type 0) → w * 2 ^ h ≡ 2 ^ X.K → w ≤ p → p < w + w → length pl ≡ 2 ^ (X.K + 1) → In n X.seen → level_at X n ≤ h →
      Sane X E pl → Free X E pl p → Sane X E (place X h w p n pl)
  unfolding place
  place_sane zero w p n pl E e a b l i v k fr = λ h2 w2 q e2 a2 b2 x g.
      let e3 : w2 * (2 * 2 ^ h2) ≡ 2 ^ X.K = rw (pow-succ' 2 h2) at e2 in
      set_sane E pl p n k fr h2 w2 q e2 a2 b2 (λ z. elim z [ inl y ↦ x y | inr y ↦ omega (arith, wide w2 h2) ]) g
  place_sane (suc h) w p n pl E e a b l i v k fr =
      let e1 : w * (2 * 2 ^ h) ≡ 2 ^ X.K = rw (pow-succ' 2 h) at e in
      let e2 : (2 * w) * 2 ^ h ≡ 2 ^ X.K = omega arith in
      let long : length (set pl p n) ≡ 2 * 2 ^ X.K = length-set pl p n ∙ l ∙ two_step X.K in
      let tall : w + w ≤ 2 ^ X.K = omega (arith, wide w h) in
      let s : Sane X (λ q. E q ⊎ (q ≡ p)) (set pl p n) = set_sane E pl p n k fr in
      let up : (c : ℕ) → (p + w ≡ c) ⊎ (p + 2 * w ≡ c) → (ys : List ℕ) → Free X (λ q. E q ⊎ (q ≡ p)) ys c = λ c t ys. inr (λ h2 w2 q d y z u. inr (parent h h2 w w2 p q e d a b y z c t u)) in
      split (ltb (level_at X n) (suc h))
      (λ d.
      let pl1 : List ℕ = place X h (2 * w) (p + w) n (set pl p n) in
      let k1 : Sane X (λ q. E q ⊎ (q ≡ p)) pl1 = place_sane h (2 * w) (p + w) n (set pl p n) (λ q. E q ⊎ (q ≡ p)) e2 (omega arith) (omega arith) (length-set pl p n ∙ l) i (omega (arith, ltb-true (level_at X n) (suc h) d)) s (up (p + w) (inl refl) (set pl p n)) in
      let top : get_or pl1 p empty ≡ n = frame X h (2 * w) (p + w) n (set pl p n) p (λ j c. omega arith) ∙ get_or-set_same pl p n empty (omega (arith, length-set pl p n)) in
      let one : get_or pl1 (p + w) empty ≡ n = head X h (2 * w) (p + w) n (set pl p n) (omega arith) (omega arith) in
      rw (d, place) (mend E pl1 h w p e a b k1 (copies (one ∙ sym top))))
      (λ d.
      let lv : suc h ≤ level_at X n = ltb-false (level_at X n) (suc h) d in
      node (get_or X.g n leaf) (λ c. absurd (omega (arith, leaf_level X r f S n i c)))
      (λ x y c.
      let m1 = first X r f S n x y i (omega arith) c in
      let m2 = second X r f S n x y i (omega arith) c in
      let pl1 : List ℕ = place X h (2 * w) (p + w) (pin_of x) (set pl p n) in
      let pl2 : List ℕ = place X h (2 * w) (p + 2 * w) (pin_of y) pl1 in
      let l1 : length pl1 ≡ length (set pl p n) = len_place X h (2 * w) (p + w) (pin_of x) (set pl p n) in
      let k1 : Sane X (λ q. E q ⊎ (q ≡ p)) pl1 = place_sane h (2 * w) (p + w) (pin_of x) (set pl p n) (λ q. E q ⊎ (q ≡ p)) e2 (omega arith) (omega arith) (length-set pl p n ∙ l) m1.0 (omega (arith, m1.1)) s (up (p + w) (inl refl) (set pl p n)) in
      let k2 : Sane X (λ q. E q ⊎ (q ≡ p)) pl2 = place_sane h (2 * w) (p + 2 * w) (pin_of y) pl1 (λ q. E q ⊎ (q ≡ p)) e2 (omega arith) (omega arith) (l1 ∙ length-set pl p n ∙ l) m2.0 (omega (arith, m2.1)) k1 (up (p + 2 * w) (inr refl) pl1) in
      let top : get_or pl2 p empty ≡ n = frame X h (2 * w) (p + 2 * w) (pin_of y) pl1 p (λ j t. omega arith) ∙ frame X h (2 * w) (p + w) (pin_of x) (set pl p n) p (λ j t. omega arith) ∙ get_or-set_same pl p n empty (omega (arith, length-set pl p n)) in
      let one : get_or pl2 (p + w) empty ≡ pin_of x = frame X h (2 * w) (p + 2 * w) (pin_of y) pl1 (p + w) (λ j t. omega arith) ∙ head X h (2 * w) (p + w) (pin_of x) (set pl p n) (omega arith) (omega arith) in
      let two : get_or pl2 (p + 2 * w) empty ≡ pin_of y = head X h (2 * w) (p + 2 * w) (pin_of y) pl1 (omega arith) (omega arith) in
      rw (d, c, place) (mend E pl2 h w p e a b k2 (splits {a = x} {b = y} (rw top (not_done X r f S n i (omega arith))) (rw top c) one two))))

  -- every filled cell above level 0, none exempt
  abbrev pub Always : List ℕ → Type 0
  Always pl = Sane X (λ q. ⊥) pl

  -- placing keeps every filled cell so
  pub sane_kept : (pl : List ℕ) (h p n : ℕ) → length pl ≡ 2 ^ (X.K + 1) → Always pl → Placeable X pl h p n → Always (place X h (row_at X.K h) p n pl)
  sane_kept pl h p n l k a = place_sane h (row_at X.K h) p n pl (λ q. ⊥) (rows X.K h a.high) a.row a.end l a.listed a.level k (inl a.free)

  -- and the empty plan is so
  pub sane_first : (m : ℕ) → Always (replicate m empty)
  sane_first m h w q e a b x g = true_false g (blank_replicate m q)
