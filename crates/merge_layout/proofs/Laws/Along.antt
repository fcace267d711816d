-- The partitions along an order: their groups, lengths, stages, words and filled cells. Assumes nothing.
use Prim.Native.Nat.{ℕ, zero, suc, ◌+◌, ◌<◌, ◌≤◌}
use mathlib.Core.Bool.{false}
use mathlib.Core.List.{List, [], ◌∷◌, ◌++◌, map}
use mathlib.Core.Path.{◌≡◌, refl, sym, ap, ◌∙◌}
use native.Mathlib.Omega.{arith}
use lib.Dec.{leb, eqb}
use lib.ListN.{length, get_or, take, drop, length-map, get_or-map}
use lib.Seq.{drop-cons, take_all}
use borrow.Author.Tests.{eqb-true, not-false}
use Rattle.rules.specs.Lists.{sum}
use Rattle.rules.specs.Merge.{Part, add_part, split_by, indices_of, lengths_of, stages_in, words_for, cells_for, joined}
use Rattle.rules.proofs.Lists.Members.{split}
use Rattle.merge_slots.specs.Slots.{gathered, own, full, held}
use Rattle.merge_slots.proofs.Laws.Best.{gathered_in, gathered_out}
use Rattle.merge_slots.proofs.Laws.Splits.{lengths_split}
use Rattle.merge_layout.specs.Layout.{owned, sorted}

lengths_add : (p : Part) (ps : List Part) → sum (lengths_of (add_part p ps)) ≡ length p.has + sum (lengths_of ps)
unfolding add_part lengths_of sum
lengths_add p [] = refl
lengths_add p (q ∷ qs) = split (leb q.stages p.stages) (λ e. rw (e, add_part) refl) (λ e. rw (e, add_part) (omega (arith, lengths_add p qs)))

sum-take_one : (ls : List ℕ) (k i : ℕ) → i < length ls → sum (take (suc k) (drop i ls)) ≡ get_or ls i 0 + sum (take k (drop (suc i) ls))
unfolding sum
sum-take_one ls k i h = rw (drop-cons ls i 0 h) refl

no_length : (ls : List ℕ) (s : ℕ) → full ls s ≡ false → get_or ls s 0 ≡ 0
unfolding full
no_length ls s e = eqb-true (get_or ls s 0) 0 (not-false (eqb (get_or ls s 0) 0) e)

all_lengths : (P : ℕ → Part) (ls : List ℕ) → ((s : ℕ) → length (P s).has ≡ get_or ls s 0) → (k i : ℕ) → i + k ≤ length ls → sum (lengths_of (gathered add_part P (full ls) k i)) ≡ sum (take k (drop i ls))
unfolding lengths_of sum gathered
all_lengths P ls e zero i h = refl
all_lengths P ls e (suc k) i h = split (full ls i)
    (λ t. rw (gathered_in add_part P (full ls) k i t, lengths_add (P i) (gathered add_part P (full ls) k (suc i)), e i, all_lengths P ls e k (suc i) (omega arith)) (sym (sum-take_one ls k i (omega arith))))
    (λ t. rw (gathered_out add_part P (full ls) k i t, all_lengths P ls e k (suc i) (omega arith)) (sym (sum-take_one ls k i (omega arith) ∙ omega (arith, no_length ls i t))))

map-map : {B : Type 0} (g : B → ℕ) (P : ℕ → B) (h : ℕ → ℕ) → ((s : ℕ) → g (P s) ≡ h s) → (js : List ℕ) → map g (map P js) ≡ map h js
map-map g P h e [] = refl
map-map g P h e (j ∷ js) = rw (e j, map-map g P h e js) refl

indices_along : (ls xs o js : List ℕ) → indices_of (map (held (length ls) ls xs o) js) ≡ joined (map (λ s. get_or (split_by ls xs) s []) js)
unfolding indices_of held joined
indices_along ls xs o [] = refl
indices_along ls xs o (j ∷ js) = ap (λ (l : List ℕ). get_or (split_by ls xs) j [] ++ l) (indices_along ls xs o js)

module _ (base : ℕ) (xs ls w : List ℕ) (all : sum ls ≡ length xs) where
  abbrev P : ℕ → Part
  P = held (length ls) ls xs (owned base (length ls) w)

  size_of : (s : ℕ) → length (get_or (split_by ls xs) s []) ≡ get_or ls s 0
  size_of s = sym (get_or-map length (split_by ls xs) s []) ∙ ap (λ (l : List ℕ). get_or l s 0) (lengths_split ls xs all)

  has_length : (s : ℕ) → length (P s).has ≡ get_or ls s 0
  unfolding held
  has_length s = size_of s

  -- the parts along an order
  module _ (ks : List ℕ) (e : sorted base xs ls w ≡ map P ks) where
    -- the indices are the groups of the slots along it
    pub groups_along : indices_of (sorted base xs ls w) ≡ joined (map (λ s. get_or (split_by ls xs) s []) ks)
    groups_along = ap indices_of e ∙ indices_along ls xs (owned base (length ls) w) ks

    -- the lengths are those of the slots along it
    pub lengths_along : lengths_of (sorted base xs ls w) ≡ map (λ s. get_or ls s 0) ks
    unfolding lengths_of
    lengths_along = ap lengths_of e ∙ map-map (λ (p : Part). length p.has) P (λ s. get_or ls s 0) has_length ks

    -- so are the stages
    pub stages_along : stages_in (sorted base xs ls w) ≡ map (λ s. own 1 (length ls) (owned base (length ls) w) s) ks
    unfolding stages_in held
    stages_along = ap stages_in e ∙ map-map (λ (p : Part). p.stages) P (λ s. own 1 (length ls) (owned base (length ls) w) s) (λ s. refl) ks

    -- and the words
    pub words_along : words_for (sorted base xs ls w) ≡ map (λ s. own 2 (length ls) (owned base (length ls) w) s) ks
    unfolding words_for held
    words_along = ap words_for e ∙ map-map (λ (p : Part). p.words) P (λ s. own 2 (length ls) (owned base (length ls) w) s) (λ s. refl) ks

    -- and the filled cells
    pub cells_along : cells_for (sorted base xs ls w) ≡ map (λ s. own 3 (length ls) (owned base (length ls) w) s) ks
    unfolding cells_for held
    cells_along = ap cells_for e ∙ map-map (λ (p : Part). p.cells) P (λ s. own 3 (length ls) (owned base (length ls) w) s) (λ s. refl) ks

    -- there are as many partitions as slots along it
    pub count_along : length (sorted base xs ls w) ≡ length ks
    count_along = ap length e ∙ length-map ks P

    -- the lengths along the order sum to all indices
    pub fits_along : sum (map (λ s. get_or ls s 0) ks) ≡ length xs
    unfolding sorted
    fits_along = ap sum (sym lengths_along) ∙ all_lengths P ls has_length (length ls) 0 (omega arith) ∙ ap sum (take_all (length ls) ls (omega arith)) ∙ all
