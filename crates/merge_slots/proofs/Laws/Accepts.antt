-- An accepted union: slot i is the union, slot j is empty, the others are as they were; and keys that stand for ranks. Assumes nothing.
use Prim.Native.Nat.{ℕ, ◌+◌, ◌<◌}
use mathlib.Core.Bool.{Bool, true, false, not, ◌&&◌, ◌||◌}
use mathlib.Core.List.{List, [], ◌++◌}
use mathlib.Core.Logic.{◌≢◌}
use mathlib.Core.Path.{◌≡◌, refl, sym, ◌∙◌}
use native.Mathlib.Omega.{arith}
use lib.Dec.{eqb, ltb}
use lib.ListN.{length, get_or, set, length-set}
use lib.Seq.{get_or-set_same, get_or-set_other}
use borrow.Author.Tests.{eq-eqb, ne_eqb, eqb-true, eqb-false}
use Rattle.merge_slots.specs.Rounds.{Ready}
use Rattle.rules.specs.Build.{Answer, reply}
use Rattle.rules.specs.Merge.{Common, Part, Rank, before, rank_of, part_of, split_by}
use Rattle.rules.proofs.Lists.Members.{split}
use Rattle.merge_slots.specs.Slots.{own, ahead, held, full, but}
use Rattle.merge_slots.specs.Moves.{Taken}
use Rattle.merge_slots.proofs.Laws.Best.{but_same, but_other}
use Rattle.merge_slots.proofs.Laws.Splits.{length_split}

-- ---- keys

same_order : (o : ℕ → ℕ) (u : ℕ → ℕ) (a b : Rank) (s t : ℕ) → o s ≡ a.grows → u s ≡ a.union → s ≡ a.part.nr → o t ≡ b.grows → u t ≡ b.union → t ≡ b.part.nr
    → (ltb (o t) (o s) || eqb (o t) (o s) && (ltb (u t) (u s) || eqb (u t) (u s) && ltb t s)) ≡ before b a
unfolding before
same_order o u a b s t ag au an bg bu bn = rw (← ag, ← au, ← an, ← bg, ← bu, ← bn) refl

-- slots rank by their keys as the rules rank their partitions
pub keys_agree : (J : Common) (p : Part) (P : ℕ → Part) → ((s : ℕ) → (P s).nr ≡ s) → (n : ℕ) (o : List ℕ) (s t : ℕ) → Ready J p P n o s → Ready J p P n o t → ahead n o t s ≡ before (rank_of J p (P t)) (rank_of J p (P s))
unfolding ahead rank_of
keys_agree J p P numbered n o s t x y = same_order (λ z. own 5 n o z) (λ z. own 6 n o z) (rank_of J p (P s)) (rank_of J p (P t)) s t x.grows x.union (sym (numbered s)) y.grows y.union (sym (numbered t))

-- ---- the slots afterwards

module _ {i j : ℕ} {xs ls xs' ls' : List ℕ} (order : i < j) (inside : j < length ls) (T : Taken i j xs ls xs' ls') where
  abbrev hs : List (List ℕ)
  hs = split_by ls xs

  abbrev both : List ℕ
  both = get_or hs i [] ++ get_or hs j []

  many : length hs ≡ length ls
  many = length_split ls xs

  -- slot i has its own groups and then those of slot j
  pub taken_has : get_or (split_by ls' xs') i [] ≡ both
  taken_has = rw T.groups (get_or-set_other (set hs i both) j i [] [] (λ z. omega arith) ∙ get_or-set_same hs i both [] (omega (arith, many)))

  -- other slots have the groups that they had
  pub other_has : (s : ℕ) → s ≢ i → s ≢ j → get_or (split_by ls' xs') s [] ≡ get_or hs s []
  other_has s a b = rw T.groups (get_or-set_other (set hs i both) j s [] [] b ∙ get_or-set_other hs i s both [] a)

  -- slot j is empty now, the others are as full as before
  pub taken_full : full ls i ≡ true → (s : ℕ) → full ls' s ≡ but j (full ls) s
  unfolding full
  taken_full f s = rw T.lengths (split (eqb s j)
      (λ t. let d = eqb-true s j t in
      rw (d, get_or-set_same (set ls i (get_or ls i 0 + get_or ls j 0)) j 0 0 (omega (arith, length-set ls i (get_or ls i 0 + get_or ls j 0)))) (sym (but_same j (λ z. not (eqb (get_or ls z 0) 0)) j refl)))
      (λ t. let d = eqb-false s j t in
      rw (get_or-set_other (set ls i (get_or ls i 0 + get_or ls j 0)) j s 0 0 d, but_other j (λ z. not (eqb (get_or ls z 0) 0)) s d) (split (eqb s i)
      (λ u. let e = eqb-true s i u in
      rw (e, get_or-set_same ls i (get_or ls i 0 + get_or ls j 0) 0 (omega arith), ne_eqb (get_or ls i 0 + get_or ls j 0) 0 (λ z. nonzero (omega arith))) (sym f))
      (λ u. rw (get_or-set_other ls i s (get_or ls i 0 + get_or ls j 0) 0 (eqb-false s i u)) refl))))
    where
      nonzero : get_or ls i 0 ≡ 0 → ⊥
      nonzero z = let q : not (eqb (get_or ls i 0) 0) ≡ false = rw (eq-eqb (get_or ls i 0) 0 z) refl in let y : ◌≡◌ {A = Bool} true false = sym f ∙ q in let x : ◌≡◌ {A = ℕ} 0 1 = cc in omega arith

  -- own numbers n to a column: the union's size, stages, words and cells stand for slot i, the other slots' stay
  module _ (n : ℕ) (o o' : List ℕ) (a : Answer) (size : own 0 n o' i ≡ own 6 n o j) (stages : own 1 n o' i ≡ (reply a).stages) (words : own 2 n o' i ≡ (reply a).words) (cells : own 3 n o' i ≡ (reply a).cells) where
    -- slot i's partition is the union
    pub taken_part : held n ls' xs' o' i ≡ part_of i both (own 6 n o j) a
    unfolding held part_of
    taken_part = rw (taken_has, size, stages, words, cells) refl

  -- other slots' partitions stay
  pub other_part : (n : ℕ) (o o' : List ℕ) (s : ℕ) → s ≢ i → s ≢ j → ((f : ℕ) → f < 4 → own f n o' s ≡ own f n o s) → held n ls' xs' o' s ≡ held n ls xs o s
  unfolding held
  other_part n o o' s a b e = rw (other_has s a b, e 0 (omega arith), e 1 (omega arith), e 2 (omega arith), e 3 (omega arith)) refl
