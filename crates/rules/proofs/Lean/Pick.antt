-- S3: the pin that rule 4 chooses is the first unplaced one of its level's ranked list. Assumes nothing.
use Prim.Native.Nat.{ℕ, ◌≤◌, ◌<◌}
use mathlib.Core.Path.{◌≡◌, refl, ◌∙◌}
use mathlib.Core.Logic.{◌⊎◌, inl, inr}
use mathlib.Core.Bool.{Bool, true, false, ◌&&◌}
use mathlib.Core.List.{List, [], ◌∷◌, ◌++◌}
use native.Mathlib.Omega.{arith}
use lib.Dec.{eqb, ltb}
use lib.ListN.{length, get_or}
use borrow.Author.Tests.{ltb-true, ltb-false}
use Rattle.rules.specs.Lists.{mem, keep, Found, nothing, found, In, Out}
use Rattle.rules.specs.Cells.{empty}
use Rattle.rules.specs.Traversal.{Setting, level_at}
use Rattle.rules.specs.Placing.{choose, tree_of, reverse_of, pin_at}
use Rattle.rules.specs.Inside.Lean.{start_levels, rank_in, rank, level_list, candidates, scan, first_free}
use Rattle.rules.proofs.Lists.Members.{split, eqb_true, in_here, in_there, in_cons, in_nil, keep_in}
use Rattle.rules.specs.Inside.Walks.{Sound, Marked, Work}
use Rattle.rules.proofs.Stage.Puts.{cell}
use Rattle.rules.specs.Inside.Plans.{Fair}
use Rattle.rules.proofs.Tree.Fair.{same_reverse}
use Rattle.rules.proofs.Needed.Lacks.{true_ltb, false_ltb, has_level_lem}

and_no : (b : Bool) → b && false ≡ false
and_no true = refl
and_no false = refl

-- rule 4's choice is a scan of the level's list, by other reverse levels that agree at its unplaced pins
choose_scan : (X : Setting) (tr rl rl0 : List ℕ) (h : ℕ) (ps : List ℕ) → ((p : ℕ) → In p ps → level_at X p ≡ h → Out p tr → get_or rl p 0 ≡ get_or rl0 p 0) →
    (top : ℕ) (best : Found) → choose X tr rl h ps top best ≡ scan tr rl0 (keep (λ p. eqb (level_at X p) h) ps) top best
unfolding choose scan keep
choose_scan X tr rl rl0 h [] a top best = refl
choose_scan X tr rl rl0 h (p ∷ ps) a top best =
    let ih : (top : ℕ) (best : Found) → choose X tr rl h ps top best ≡ scan tr rl0 (keep (λ p. eqb (level_at X p) h) ps) top best = choose_scan X tr rl rl0 h ps (λ q i. a q (in_there q p ps i)) in
    split (eqb (level_at X p) h)
    (λ e. split (mem p tr)
    (λ d. rw (e, d, and_no (ltb top (get_or rl p 0)), and_no (ltb top (get_or rl0 p 0)), choose, keep, scan) (ih top best))
    (λ d. let s : get_or rl p 0 ≡ get_or rl0 p 0 = a p (in_here p ps) (eqb_true (level_at X p) h e) d in
    split (ltb top (get_or rl0 p 0)) (λ c. let b : ltb top (get_or rl p 0) ≡ true = rw s c in rw (e, d, b, c, choose, keep, scan) (rw s (ih (get_or rl0 p 0) (found p)))) (λ c. rw (e, d, s, c, choose, keep, scan) (ih top best))))
    (λ e. rw (e, choose, keep) (ih top best))

-- a list by falling reverse level
pub data Falling (rl : List ℕ) : List ℕ → Type 0 where
  none : Falling rl []
  more : {x : ℕ} {xs : List ℕ} → ((y : ℕ) → In y xs → get_or rl y 0 ≤ get_or rl x 0) → Falling rl xs → Falling rl (x ∷ xs)

module _ (rl : List ℕ) where
  rank_in_in : (p : ℕ) (xs : List ℕ) (y : ℕ) → In y (rank_in rl p xs) → (y ≡ p) ⊎ In y xs
  unfolding rank_in
  rank_in_in p [] y e = in_cons y p [] e
  rank_in_in p (x ∷ xs) y e = split (ltb (get_or rl p 0) (get_or rl x 0))
      (λ d. elim (in_cons y x (rank_in rl p xs) (rw (d, rank_in) at e)) [
        | inl c ↦ inr (rw c (in_here x xs))
        | inr c ↦ elim (rank_in_in p xs y c) [ inl b ↦ inl b | inr b ↦ inr (in_there y x xs b) ]
      ])
      (λ d. in_cons y p (x ∷ xs) (rw (d, rank_in) at e))

  rank_in_falling : (p : ℕ) {xs : List ℕ} → Falling rl xs → Falling rl (rank_in rl p xs)
  unfolding rank_in
  rank_in_falling p none = more (λ y e. in_nil y e) none
  rank_in_falling p (more {x = x} {xs = xs} h t) = split (ltb (get_or rl p 0) (get_or rl x 0))
      (λ d. rw (d, rank_in) (more {x = x} (λ y e. elim (rank_in_in p xs y e) [ inl c ↦ rw c (omega (arith, ltb-true (get_or rl p 0) (get_or rl x 0) d)) | inr c ↦ h y c ]) (rank_in_falling p t)))
      (λ d. rw (d, rank_in) (more {x = p} (λ y e. elim (in_cons y x xs e) [ inl c ↦ rw c (ltb-false (get_or rl p 0) (get_or rl x 0) d) | inr c ↦ omega (arith, h y c, ltb-false (get_or rl p 0) (get_or rl x 0) d) ]) (more h t)))

  -- a ranked list falls
  pub rank_falling : (ps : List ℕ) → Falling rl (rank rl ps)
  unfolding rank
  rank_falling [] = none
  rank_falling (p ∷ ps) = rank_in_falling p (rank_falling ps)

  -- ranking adds no pin
  pub rank_in_lem : (ps : List ℕ) (y : ℕ) → In y (rank rl ps) → In y ps
  unfolding rank
  rank_in_lem [] y e = e
  rank_in_lem (p ∷ ps) y e = elim (rank_in_in p (rank rl ps) y e) [ inl d ↦ rw d (in_here p ps) | inr d ↦ in_there y p ps (rank_in_lem ps y d) ]

-- the first unplaced pin of a list
pub free_in : (tr xs : List ℕ) (q : ℕ) → first_free tr xs ≡ found q → In q xs × Out q tr
unfolding first_free
free_in tr [] q e = absurd (let z : ◌≡◌ {A = ℕ} 0 1 = cc in omega arith)
free_in tr (x ∷ xs) q e = split (mem x tr)
    (λ d. let k = free_in tr xs q (rw (d, first_free) at e) in (in_there q x xs k.0, k.1))
    (λ d. let c : found x ≡ found q = rw (d, first_free) at e in let b : x ≡ q = cc in rw (← b) (in_here x xs, d))

-- pins that are all placed are passed over
pub free_past : (tr xs ys : List ℕ) → ((x : ℕ) → In x xs → In x tr) → first_free tr (xs ++ ys) ≡ first_free tr ys
unfolding first_free
free_past tr [] ys h = refl
free_past tr (x ∷ xs) ys h = rw (h x (in_here x xs), first_free) (free_past tr xs ys (λ y i. h y (in_there y x xs i)))

-- the choice between a pin and what was best
unfoldable better : List ℕ → ℕ → Found → Found → Found
better rl top best nothing = best
better rl top best (found q) = elim (ltb top (get_or rl q 0)) [ true ↦ found q | false ↦ best ]

module _ (tr rl : List ℕ) where
  free_skip : (p : ℕ) (xs : List ℕ) → In p tr → first_free tr (rank_in rl p xs) ≡ first_free tr xs
  unfolding first_free rank_in
  free_skip p [] e = rw (e, first_free)
  free_skip p (x ∷ xs) e = split (ltb (get_or rl p 0) (get_or rl x 0))
      (λ d. split (mem x tr) (λ c. rw (d, rank_in, c, first_free) (free_skip p xs e)) (λ c. rw (d, rank_in, c, first_free)))
      (λ d. rw (d, rank_in, e, first_free))

  free_put : (p : ℕ) {xs : List ℕ} → Out p tr → Falling rl xs → first_free tr (rank_in rl p xs) ≡ better rl (get_or rl p 0) (found p) (first_free tr xs)
  unfolding first_free rank_in better
  free_put p o none = rw (o, first_free)
  free_put p o (more {x = x} {xs = xs} h t) = split (ltb (get_or rl p 0) (get_or rl x 0))
      (λ d. split (mem x tr) (λ c. rw (d, rank_in, c, first_free) (free_put p o t)) (λ c. rw (d, rank_in, c, first_free) (rw (d, better))))
      (λ d. rw (d, rank_in, o, first_free) (cell (first_free tr (x ∷ xs)) (λ c. rw c)
      (λ q c.
      let i : In q (x ∷ xs) = (free_in tr (x ∷ xs) q c).0 in
      let b : get_or rl q 0 ≤ get_or rl x 0 = elim (in_cons q x xs i) [ inl a ↦ rw a (omega arith) | inr a ↦ h q a ] in
      rw (c, better, false_ltb (get_or rl p 0) (get_or rl q 0) (omega (arith, ltb-false (get_or rl p 0) (get_or rl x 0) d))))))

  better_twice : (p top : ℕ) (best F : Found) → ltb top (get_or rl p 0) ≡ true → better rl (get_or rl p 0) (found p) F ≡ better rl top best (better rl (get_or rl p 0) (found p) F)
  unfolding better
  better_twice p top best nothing e = rw (e, better)
  better_twice p top best (found q) e = split (ltb (get_or rl p 0) (get_or rl q 0))
      (λ d. rw (d, better, true_ltb top (get_or rl q 0) (omega (arith, ltb-true top (get_or rl p 0) e, ltb-true (get_or rl p 0) (get_or rl q 0) d))))
      (λ d. rw (d, better, e))

  better_once : (p top : ℕ) (best F : Found) → ltb top (get_or rl p 0) ≡ false → better rl top best F ≡ better rl top best (better rl (get_or rl p 0) (found p) F)
  unfolding better
  better_once p top best nothing e = rw (e, better)
  better_once p top best (found q) e = split (ltb (get_or rl p 0) (get_or rl q 0))
      (λ d. rw (d, better))
      (λ d. rw (d, better, e, false_ltb top (get_or rl q 0) (omega (arith, ltb-false top (get_or rl p 0) e, ltb-false (get_or rl p 0) (get_or rl q 0) d))))

  scan_rank : (ps : List ℕ) (top : ℕ) (best : Found) → scan tr rl ps top best ≡ better rl top best (first_free tr (rank rl ps))
  unfolding scan rank first_free better
  scan_rank [] top best = refl
  scan_rank (p ∷ ps) top best = split (mem p tr)
      (λ e. rw (e, and_no (ltb top (get_or rl p 0)), scan, free_skip p (rank rl ps) e) (scan_rank ps top best))
      (λ e. rw (free_put p e (rank_falling rl ps)) (split (ltb top (get_or rl p 0))
      (λ d. rw (e, d, scan) (scan_rank ps (get_or rl p 0) (found p) ∙ better_twice p top best (first_free tr (rank rl ps)) d))
      (λ d. rw (e, d, scan) (scan_rank ps top best ∙ better_once p top best (first_free tr (rank rl ps)) d))))

  first_best : (F : Found) → ((q : ℕ) → F ≡ found q → 0 < get_or rl q 0) → better rl 0 nothing F ≡ F
  unfolding better
  first_best nothing h = refl
  first_best (found q) h = rw (true_ltb 0 (get_or rl q 0) (h q refl), better)

module _ (W : Work) where
  abbrev X : Setting
  X = W.X

  abbrev r : ℕ → ℕ
  r = W.r

  abbrev f : ℕ
  f = W.f

  abbrev S : Sound X r f
  S = W.S

  abbrev M : Marked X
  M = W.M

  abbrev small : length X.g ≤ empty
  small = W.small

  -- the pins of a level's list are listed pins of that level
  pub level_in : (h q : ℕ) → In q (level_list X h) → In q X.seen × (level_at X q ≡ h)
  unfolding level_list
  level_in h q e = let k = keep_in _ q X.order e in (S.listed q k.0, eqb_true (level_at X q) h k.1)

  -- and so are the level's candidates
  pub candidate : (h q : ℕ) → In q (candidates X h) → In q X.seen × (level_at X q ≡ h)
  unfolding candidates
  candidate h q e = level_in h q (rank_in_lem (start_levels X) (level_list X h) q e)

  -- by a scan
  pub pin_scan : {k : ℕ} {pl : List ℕ} → Fair X k pl → (h : ℕ) → 1 ≤ h → pin_at X h pl ≡ scan (tree_of X pl) (start_levels X) (level_list X h) 0 nothing
  unfolding pin_at level_list
  pin_scan {k} {pl} F h b = choose_scan X (tree_of X pl) (reverse_of X pl) (start_levels X) h X.order (λ p i l o. same_reverse W F p (omega arith) o) 0 nothing

  -- in the ranked list
  pub pin_first : {k : ℕ} {pl : List ℕ} → Fair X k pl → (h : ℕ) → 1 ≤ h → pin_at X h pl ≡ first_free (tree_of X pl) (candidates X h)
  unfolding candidates
  pin_first {k} {pl} F h b = pin_scan F h b ∙ scan_rank (tree_of X pl) (start_levels X) (level_list X h) 0 nothing ∙
      first_best (tree_of X pl) (start_levels X) (first_free (tree_of X pl) (rank (start_levels X) (level_list X h)))
      (λ q e.
      let i = free_in (tree_of X pl) (rank (start_levels X) (level_list X h)) q e in
      let c = level_in h q (rank_in_lem (start_levels X) (level_list X h) q i.0) in
      let l : 1 ≤ level_at X q = omega (arith, c.1) in
      omega (arith, has_level_lem W F q c.0 i.1 l, same_reverse W F q l i.1))
