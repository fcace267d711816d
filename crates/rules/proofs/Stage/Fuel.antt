-- The loop of rules 2 to 7 ends before its fuel: more fuel gives the same plan. Assumes nothing.
use Prim.Native.Nat.{ℕ, zero, suc, ◌+◌, ◌-◌, ◌*◌, ◌^◌, ◌≤◌, ◌<◌, min}
use mathlib.Core.Path.{◌≡◌, refl, sym, ◌∙◌, ap}
use mathlib.Core.Logic.{inl, inr, ◌≢◌}
use mathlib.Core.Bool.{Bool, true, false, not}
use mathlib.Core.List.{List, [], ◌∷◌, map}
use native.Mathlib.Omega.{arith}
use native.Mathlib.Nat.{pow-succ', mul-le-mul_left, one-le-pow}
use lib.ListN.{length, get_or, drop, replicate, length-take, length-drop, length-replicate}
use lib.Seq.{get_or-take, get_or-drop, ext_get_or}
use Rattle.rules.specs.Lists.{count, nothing, In}
use Rattle.rules.specs.Cells.{filled, empty, row_at, row}
use Rattle.rules.specs.Traversal.{Setting, level_at, greatest}
use Rattle.rules.specs.Placing.{place, placed, tree_of, reverse_of, cell_at, pin_at, roomy, fill, filled_plan}
use Rattle.rules.proofs.Lists.Members.{split}
use Rattle.rules.specs.Inside.Walks.{Sound}
use Rattle.rules.proofs.Stage.Puts.{cell}
use Rattle.rules.proofs.Stage.Lengths.{len_place}
use Rattle.rules.proofs.Stage.Staged.{two_step, small_filled}
use Rattle.rules.proofs.Tree.Loads.{rows, wide}
use Rattle.rules.proofs.Tree.Sane.{frame, head}
use Rattle.rules.proofs.Tree.Invariant.{row_empty, choose_good}

-- no more entries are counted than there are
pub count-length : (f : ℕ → Bool) (xs : List ℕ) → count f xs ≤ length xs
unfolding count
count-length f [] = omega arith
count-length f (x ∷ xs) = split (f x) (λ e. rw (e, count) (omega (arith, count-length f xs))) (λ e. rw (e, count) (omega (arith, count-length f xs)))

-- one entry less that passes
count_falls : (f : ℕ → Bool) (d : ℕ) (xs ys : List ℕ) (k : ℕ) → length ys ≡ length xs → k < length xs → ((i : ℕ) → i < length xs → i ≢ k → get_or ys i d ≡ get_or xs i d) → f (get_or xs k d) ≡ true → f (get_or ys k d) ≡ false → suc (count f ys) ≡ count f xs
unfolding count
count_falls f d [] ys k l b h a c = absurd (omega arith)
count_falls f d (x ∷ xs) [] k l b h a c = absurd (omega arith)
count_falls f d (x ∷ xs) (y ∷ ys) zero l b h a c = rw (a, c, count) (ap suc (ap (count f) (ext_get_or d ys xs (omega arith) (λ i g. h (suc i) (omega arith) (omega arith)))))
count_falls f d (x ∷ xs) (y ∷ ys) (suc k) l b h a c =
    let s : y ≡ x = h 0 (omega arith) (omega arith) in
    let t : suc (count f ys) ≡ count f xs = count_falls f d xs ys k (omega arith) (omega arith) (λ i g n. h (suc i) (omega arith) (λ e. n (omega arith))) a c in
    split (f x) (λ e. let e2 : f y ≡ true = rw s e in rw (e, e2, count) (ap suc t)) (λ e. let e2 : f y ≡ false = rw s e in rw (e, e2, count) t)

-- is a cell empty
abbrev pub vacant : ℕ → Bool
vacant c = not (filled c)

module _ (X : Setting) (r : ℕ → ℕ) (f : ℕ) (S : Sound X r f) (small : length X.g ≤ empty) where
  -- empty cells of a row
  abbrev pub vacancies : ℕ → List ℕ → ℕ
  vacancies h pl = count vacant (row X.K h pl)

  -- a row has the cells of its level
  pub row_length : (h : ℕ) (pl : List ℕ) → h ≤ X.K → length pl ≡ 2 ^ (X.K + 1) → length (row X.K h pl) ≡ row_at X.K h
  unfolding row
  row_length h pl b l = simp (length-take, length-drop) (omega (arith, two_step X.K, rows X.K h b, mul-le-mul_left (row_at X.K h) (one-le-pow h 2 (omega arith))))

  -- a row's cells are those of the plan from the row's start on
  pub row_at_lem : (h : ℕ) (pl : List ℕ) (i : ℕ) → i < row_at X.K h → get_or (row X.K h pl) i empty ≡ get_or pl (row_at X.K h + i) empty
  unfolding row
  row_at_lem h pl i b = get_or-take (row_at X.K h) (drop (row_at X.K h) pl) i empty b ∙ get_or-drop (row_at X.K h) pl i empty

  -- placing a pin leaves one empty cell less in the row
  pub one_filled : (h p n : ℕ) (pl : List ℕ) → h ≤ X.K → length pl ≡ 2 ^ (X.K + 1) → row_at X.K h ≤ p → p < row_at X.K h + row_at X.K h → filled (get_or pl p empty) ≡ false → filled n ≡ true →
      suc (vacancies h (place X h (row_at X.K h) p n pl)) ≡ vacancies h pl
  one_filled h p n pl b l lo hi e g =
      let w : ℕ = row_at X.K h in
      let pl2 : List ℕ = place X h w p n pl in
      let k : ℕ = p - w in
      let l2 : length pl2 ≡ 2 ^ (X.K + 1) = len_place X h w p n pl ∙ l in
      let z : w + k ≡ p = omega arith in
      let a1 : get_or (row X.K h pl) k empty ≡ get_or pl p empty = row_at_lem h pl k (omega arith) ∙ ap (λ (x : ℕ). get_or pl x empty) z in
      let a2 : get_or (row X.K h pl2) k empty ≡ n = row_at_lem h pl2 k (omega arith) ∙ ap (λ (x : ℕ). get_or pl2 x empty) z ∙ head X h w p n pl (omega arith) (omega (arith, two_step X.K, rows X.K h b, mul-le-mul_left w (one-le-pow h 2 (omega arith)))) in
      count_falls vacant empty (row X.K h pl) (row X.K h pl2) k (row_length h pl2 b l2 ∙ sym (row_length h pl b l)) (omega (arith, row_length h pl b l))
      (λ i c d. row_at_lem h pl2 i (omega (arith, row_length h pl b l)) ∙ frame X h w p n pl (w + i) (apart w p i (omega (arith, row_length h pl b l)) lo (λ t. d (omega arith))) ∙ sym (row_at_lem h pl i (omega (arith, row_length h pl b l))))
      (rw (a1, e)) (rw (a2, g))
    where
      apart : (w p i : ℕ) → i < w → w ≤ p → (w + i ≢ p) → (j : ℕ) → w + i ≢ p + j * w
      apart w p i a b c zero t = c (omega arith)
      apart w p i a b c (suc j) t = omega arith

  row_twice : (h : ℕ) → suc h ≤ X.K → (row_at X.K h ≡ row_at X.K (suc h) + row_at X.K (suc h)) × (row_at X.K (suc h) + row_at X.K (suc h) ≤ 2 ^ X.K)
  unfolding row_at
  row_twice h b =
      let e : X.K - h ≡ suc (X.K - suc h) = omega arith in
      let z : row_at X.K (suc h) * (2 * 2 ^ h) ≡ 2 ^ X.K = rw (pow-succ' 2 h) at (rows X.K (suc h) b) in
      (rw e (omega arith), omega (arith, wide (row_at X.K (suc h)) h))

  -- turns that are left at most
  abbrev pub turns : ℕ → List ℕ → ℕ
  turns h pl = h + vacancies h pl + (2 ^ X.K - 2 * row_at X.K h)

  -- fewer turns are left one level down
  pub down : (h : ℕ) (pl : List ℕ) → suc (suc h) ≤ X.K → length pl ≡ 2 ^ (X.K + 1) → turns (suc h) pl < turns (suc (suc h)) pl
  down h pl b l = omega (arith, (row_twice (suc h) b).0, (row_twice h (omega arith)).1, count-length vacant (row X.K (suc h) pl), row_length (suc h) pl (omega arith) l)

  -- with fuel for the turns that are left, one more gives the same plan
  pub fill_more : (t h : ℕ) (pl : List ℕ) → h ≤ X.K → length pl ≡ 2 ^ (X.K + 1) → turns h pl ≤ t → fill X (suc t) h pl ≡ fill X t h pl
  unfolding fill placed cell_at pin_at
  fill_more zero zero pl b l m = refl
  fill_more zero (suc h) pl b l m = absurd (omega arith)
  fill_more (suc t) zero pl b l m = refl
  fill_more (suc t) (suc zero) pl b l m = refl
  fill_more (suc t) (suc (suc h)) pl b l m = cell (cell_at X (suc (suc h)) pl)
      (λ e. rw (e, fill) (fill_more t (suc h) pl (omega arith) l (omega (arith, down h pl b l))))
      (λ p e. cell (pin_at X (suc (suc h)) pl) (λ d. rw (e, d, fill) (fill_more t (suc h) pl (omega arith) l (omega (arith, down h pl b l))))
      (λ n d. split (roomy X (placed X (suc (suc h)) p n pl))
      (λ q.
      let c = row_empty X.K (suc (suc h)) pl p e in
      let o : In n X.order = elim (choose_good X (tree_of X pl) (reverse_of X pl) (suc (suc h)) X.order 0 nothing n d) [ inl z ↦ absurd (let y : ◌≡◌ {A = ℕ} 0 1 = cc in omega arith) | inr z ↦ z.0 ] in
      let v : suc (vacancies (suc (suc h)) (place X (suc (suc h)) (row_at X.K (suc (suc h))) p n pl)) ≡ vacancies (suc (suc h)) pl =
      one_filled (suc (suc h)) p n pl b l c.0 c.1 c.2 (small_filled n (omega (arith, S.bound n (S.listed n o)))) in
      rw (e, d, q, fill) (fill_more t (suc (suc h)) (place X (suc (suc h)) (row_at X.K (suc (suc h))) p n pl) b (len_place X (suc (suc h)) (row_at X.K (suc (suc h))) p n pl ∙ l) (omega arith)))
      (λ q. rw (e, d, q, fill) (fill_more t (suc h) pl (omega arith) l (omega (arith, down h pl b l))))))

  -- and so does any more fuel
  pub fill_any : (k t h : ℕ) (pl : List ℕ) → h ≤ X.K → length pl ≡ 2 ^ (X.K + 1) → turns h pl ≤ t → fill X (k + t) h pl ≡ fill X t h pl
  fill_any zero t h pl b l m = let z : 0 + t ≡ t = omega arith in rw z
  fill_any (suc k) t h pl b l m = let z : suc k + t ≡ suc (k + t) = omega arith in rw z (fill_more (k + t) h pl b l (omega arith) ∙ fill_any k t h pl b l m)

  -- any fuel from 2^K + K on gives the plan
  pub fuel_enough : (k : ℕ) → fill X (k + (2 ^ X.K + X.K)) (min (greatest (map (level_at X) X.order) 0) X.K) (replicate (2 ^ (X.K + 1)) empty) ≡ filled_plan X
  unfolding filled_plan
  fuel_enough k =
      let h : ℕ = min (greatest (map (level_at X) X.order) 0) X.K in
      let pl : List ℕ = replicate (2 ^ (X.K + 1)) empty in
      let l : length pl ≡ 2 ^ (X.K + 1) = length-replicate (2 ^ (X.K + 1)) empty in
      fill_any k (2 ^ X.K + X.K) h pl (omega arith) l (omega (arith, count-length vacant (row X.K h pl), row_length h pl (omega arith) l, rows X.K h (omega arith), mul-le-mul_left (row_at X.K h) (one-le-pow h 2 (omega arith))))
