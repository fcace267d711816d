-- The definition of the originals, slot after slot. Assumes nothing.
use Prim.Native.Nat.{ℕ, zero, suc, ◌+◌, ◌<◌, ◌≤◌, max}
use mathlib.Core.Bool.{true}
use mathlib.Core.List.{List, [], ◌∷◌}
use mathlib.Core.Logic.{◌≢◌}
use mathlib.Core.Path.{◌≡◌, refl, sym, ap, ◌∙◌}
use native.Mathlib.Omega.{arith}
use lib.ListN.{length, get_or, drop, drop_of_length-le, get_or-map}
use lib.Seq.{drop-cons}
use borrow.Author.Tests.{eq-eqb, ne_eqb}
use Rattle.rules.specs.Lists.{sum}
use Rattle.rules.specs.Build.{Answer, refusal, whole, reply, refuse}
use Rattle.rules.specs.Merge.{Common, Part, bad, good, cons, built_of, size_for, part_of, named, original, most_stages, occupied, split_by}
use Rattle.rules.proofs.Stage.Refusals.{refused_some}
use Rattle.merge_slots.specs.Slots.{gathered, listed, held, full}
use Rattle.merge_slots.proofs.Laws.Best.{gathered_in, gathered_out}
use Rattle.merge_slots.proofs.Laws.Splits.{lengths_split}
use Rattle.merge_originals.specs.Originals.{all_held}

-- ---- one slot

module _ (J : Common) (i : ℕ) (is : List ℕ) (rest : List (List ℕ)) where
  step_refused : (a : Answer) → built_of J is ≡ a → (reply a).number ≢ 0 → original J i (is ∷ rest) ≡ bad (suc i) (reply a).number (reply a).stage
  unfolding original reply refuse
  step_refused (refusal n k) e h = rw (e, original) refl
  step_refused (whole ss) e h = absurd (h refl)

  step_whole : (a : Answer) → built_of J is ≡ a → (reply a).number ≡ 0 → original J i (is ∷ rest) ≡ cons (part_of i is (size_for J is) (built_of J is)) (original J (suc i) rest)
  unfolding original reply refuse built_of
  step_whole (refusal n k) e h = absurd (refused_some J.rule J.K J.g J.given (named J is) J.rooms n k e h)
  step_whole (whole ss) e h = rw (e, original) refl

-- slot t is built, and p is its partition
pub record Right (J : Common) (is : List ℕ) (t : ℕ) (p : Part) : Type 0 where
  pub whole : (reply (built_of J is)).number ≡ 0
  pub part : p ≡ part_of t is (size_for J is) (built_of J is)

-- ---- every slot

module _ (J : Common) (hs : List (List ℕ)) (P : ℕ → Part) where
  none_left : (i : ℕ) → length hs ≤ i → original J i (drop i hs) ≡ good []
  unfolding original
  none_left i h = rw (drop_of_length-le hs {i = i} h) refl

  right_step : (i : ℕ) → i < length hs → Right J (get_or hs i []) i (P i) → original J i (drop i hs) ≡ cons (P i) (original J (suc i) (drop (suc i) hs))
  right_step i h R = ap (original J i) (drop-cons hs i [] h) ∙ step_whole J i (get_or hs i []) (drop (suc i) hs) (built_of J (get_or hs i [])) refl R.whole ∙ ap (λ (p : Part). cons p (original J (suc i) (drop (suc i) hs))) (sym R.part)

  -- where every slot is built the partitions are those in the slots
  pub all_right : (k i : ℕ) → i + k ≡ length hs → ((t : ℕ) → i ≤ t → t < i + k → Right J (get_or hs t []) t (P t)) → original J i (drop i hs) ≡ good (listed P (λ _. true) k i)
  unfolding listed gathered cons
  all_right zero i e R = none_left i (omega arith)
  all_right (suc k) i e R = right_step i (omega arith) (R i (omega arith) (omega arith)) ∙ rw (all_right k (suc i) (omega arith) (λ t a b. R t (omega arith) (omega arith))) refl

  -- the first that is refused refuses the merge
  pub one_refused : (k i s : ℕ) → i + k ≡ s → s < length hs → ((t : ℕ) → i ≤ t → t < s → Right J (get_or hs t []) t (P t)) → (reply (built_of J (get_or hs s []))).number ≢ 0
      → original J i (drop i hs) ≡ bad (suc s) (reply (built_of J (get_or hs s []))).number (reply (built_of J (get_or hs s []))).stage
  unfolding cons
  one_refused zero i s e h R z =
      let d : i ≡ s = omega arith in
      rw d (ap (original J s) (drop-cons hs s [] h) ∙ step_refused J s (get_or hs s []) (drop (suc s) hs) (built_of J (get_or hs s [])) refl z)
  one_refused (suc k) i s e h R z = right_step i (omega arith) (R i (omega arith) (omega arith)) ∙ rw (one_refused k (suc i) s (omega arith) h (λ t a b. R t (omega arith) b) z) refl

-- ---- the greatest stage count

module _ (P : ℕ → Part) where
  -- one slot more, for the greatest count of stages
  pub most_next : (k i m : ℕ) → most_stages (listed P (λ _. true) (suc k) i) m ≡ max (P (i + k)).stages (most_stages (listed P (λ _. true) k i) m)
  unfolding listed gathered most_stages
  most_next zero i m = let z : i + 0 ≡ i = omega arith in rw z refl
  most_next (suc k) i m = let z : i + suc k ≡ suc i + k = omega arith in rw z (most_next k (suc i) (max (P i).stages m))

  -- k slots stand for k partitions
  pub listed_count : (k i : ℕ) → length (listed P (λ _. true) k i) ≡ k
  unfolding listed gathered
  listed_count zero i = refl
  listed_count (suc k) i = ap suc (listed_count k (suc i))

-- ---- the full slots

occupied_none : (p : Part) (ps : List Part) → p.has ≡ [] → occupied (p ∷ ps) ≡ occupied ps
unfolding occupied
occupied_none p ps e = rw (e, occupied) refl

occupied_some : (p : Part) (ps : List Part) (i : ℕ) (is : List ℕ) → p.has ≡ i ∷ is → occupied (p ∷ ps) ≡ p ∷ occupied ps
unfolding occupied
occupied_some p ps i is e = rw (e, occupied) (ap (λ (h : List ℕ). record { nr = p.nr; has = h; size = p.size; stages = p.stages; words = p.words; cells = p.cells } ∷ occupied ps) e)

module _ (P : ℕ → Part) (ls : List ℕ) (sizes : (t : ℕ) → length (P t).has ≡ get_or ls t 0) where
  one_occupied : (k i : ℕ) (h : List ℕ) → (P i).has ≡ h → occupied (listed P (λ _. true) k (suc i)) ≡ listed P (full ls) k (suc i) → occupied (listed P (λ _. true) (suc k) i) ≡ listed P (full ls) (suc k) i
  unfolding listed gathered full
  one_occupied k i [] e ih =
      let z : get_or ls i 0 ≡ 0 = sym (sizes i) ∙ ap length e in
      occupied_none (P i) _ e ∙ ih ∙ sym (gathered_out (λ p ps. p ∷ ps) P (full ls) k i (rw (eq-eqb (get_or ls i 0) 0 z) refl))
  one_occupied k i (x ∷ xs) e ih =
      let z : get_or ls i 0 ≡ suc (length xs) = sym (sizes i) ∙ ap length e in
      occupied_some (P i) _ x xs e ∙ ap (λ (l : List Part). P i ∷ l) ih ∙ sym (gathered_in (λ p ps. p ∷ ps) P (full ls) k i (rw (ne_eqb (get_or ls i 0) 0 (λ y. omega arith)) refl))

  -- the partitions with groups are those of the full slots
  pub occupied_full : (k i : ℕ) → occupied (listed P (λ _. true) k i) ≡ listed P (full ls) k i
  unfolding listed gathered occupied
  occupied_full zero i = refl
  occupied_full (suc k) i = one_occupied k i (P i).has refl (occupied_full k (suc i))

module _ (n : ℕ) (ls xs o : List ℕ) (all : sum ls ≡ length xs) where
  held_size : (t : ℕ) → length (held n ls xs o t).has ≡ get_or ls t 0
  unfolding held
  held_size t = sym (get_or-map length (split_by ls xs) t []) ∙ ap (λ (l : List ℕ). get_or l t 0) (lengths_split ls xs all)

  -- what a merge begins with: the full slots
  pub all_occupied : occupied (all_held n ls xs o) ≡ listed (held n ls xs o) (full ls) n 0
  unfolding all_held
  all_occupied = occupied_full (held n ls xs o) ls held_size n 0

  -- n slots hold n partitions
  pub all_count : length (all_held n ls xs o) ≡ n
  unfolding all_held
  all_count = listed_count (held n ls xs o) n 0
