-- Rounds of merging, by slots: what the loops over ranks, rounds and slots keep. Assumes nothing.
use Prim.Native.Nat.{ℕ, zero, suc, ◌+◌, ◌-◌, ◌≤◌, ◌<◌}
use mathlib.Core.Bool.{Bool, true, false, not, ◌&&◌}
use mathlib.Core.List.{List, [], ◌∷◌, ◌++◌, append-nil}
use mathlib.Core.Path.{◌≡◌, refl, sym, ap, ◌∙◌}
use native.Mathlib.Omega.{arith}
use lib.Dec.{eqb}
use lib.ListN.{take}
use Rattle.merge_slots.specs.Rounds.{Bars, goes, Merging, onto, after}
use Rattle.rules.specs.Lists.{mem, nothing, found}
use Rattle.rules.specs.Merge.{Common, Part, Rank, before, add_rank, rank_of, ranking, accepted, built_of, part_of, none, some, attempt, without, add_part, Merged, rounds, Result, merging}
use Rattle.rules.proofs.Bools.{and_none, and_right}
use Rattle.rules.proofs.Lists.Members.{split}
use Rattle.merge_slots.specs.Slots.{gathered, listed, best, but}
use Rattle.merge_slots.proofs.Laws.Best.{Among, gathered_in, gathered_out, gathered_same}
use Rattle.merge_slots.proofs.Laws.Ranks.{ranking_slots, attempt_none, attempt_some, attempt_next}

-- ---- along the ranks

bar_more : (s b : ℕ) (barred : List ℕ) → not (mem s (b ∷ barred)) ≡ not (mem s barred) && not (eqb s b)
unfolding mem
bar_more s b barred = split (eqb s b) (λ e. rw (e, mem) (sym (and_none (not (mem s barred))))) (λ e. rw (e, mem) (sym (and_right (not (mem s barred)))))

and_move : (a b c : Bool) → (a && b) && c ≡ a && (b && c)
and_move true b c = refl
and_move false b c = refl

-- one slot more is barred
pub bars_more : {full opens : ℕ → Bool} {k i : ℕ} {barred : List ℕ} → Bars full opens k i barred → (b : ℕ) → Bars full (but b opens) k i (b ∷ barred)
unfolding but
bars_more {full} {opens} {barred = barred} B b = record { is = λ s l u. rw (B.is s l u, bar_more s b barred) (and_move (full s) (not (mem s barred)) (not (eqb s b))) }

-- slots that are as open as before are barred as before
pub bars_same : {full opens opens' : ℕ → Bool} {k i : ℕ} {barred : List ℕ} → Bars full opens k i barred → ((s : ℕ) → i ≤ s → s < i + k → opens' s ≡ opens s) → Bars full opens' k i barred
bars_same B e = record { is = λ s l u. e s l u ∙ B.is s l u }

-- where every full slot is open none is barred
pub bars_none : {full opens : ℕ → Bool} {k i : ℕ} → ((s : ℕ) → i ≤ s → s < i + k → opens s ≡ full s) → Bars full opens k i []
unfolding mem
bars_none {full} e = record { is = λ s l u. e s l u ∙ sym (and_right (full s)) }

module _ (J : Common) (p : Part) (P : ℕ → Part) (k i : ℕ) where
  module _ (numbered : (s : ℕ) → (P s).nr ≡ s) {full opens : ℕ → Bool} {barred : List ℕ} (B : Bars full opens k i barred) where
    -- a round's attempts are those over the open slots
    pub round_begins : (r t : ℕ) → attempt J p (take r (ranking J p barred (listed P full k i))) barred t ≡ goes J p P k i opens r barred t
    unfolding goes
    round_begins r t = rw (ranking_slots P numbered J p barred full k i) (ap (λ (l : List Rank). attempt J p (take r l) barred t) (gathered_same add_rank (λ s. rank_of J p (P s)) (λ s. rank_of J p (P s)) (λ s. full s && not (mem s barred)) opens k i (λ s l u. sym (B.is s l u)) (λ s l u e. refl)))

  module _ (less : ℕ → ℕ → Bool) (opens : ℕ → Bool) where
    -- no open slot: the round ends without a union
    pub round_none : (r : ℕ) (barred : List ℕ) (t : ℕ) → best less opens k i ≡ nothing → goes J p P k i opens r barred t ≡ none barred t
    unfolding goes
    round_none r barred t e = attempt_none J p P less opens k i r barred t e

    -- with no rank left the round ends without a union
    pub round_ends : (barred : List ℕ) (t : ℕ) → goes J p P k i opens 0 barred t ≡ none barred t
    unfolding goes attempt
    round_ends barred t = refl

    module _ (agrees : (s t : ℕ) → s < t → Among opens k i s → Among opens k i t → less t s ≡ before (rank_of J p (P t)) (rank_of J p (P s))) (b : ℕ) (e : best less opens k i ≡ found b) (r : ℕ) (barred : List ℕ) (t : ℕ) where
      -- the best slot's union, if accepted, is what the round takes
      pub round_takes : accepted J.cap (built_of J (p.has ++ (P b).has)) ≡ true
          → goes J p P k i opens (suc r) barred t ≡ some (P b).nr (part_of p.nr (p.has ++ (P b).has) (rank_of J p (P b)).union (built_of J (p.has ++ (P b).has))) barred (suc t)
      unfolding goes
      round_takes a = attempt_some J p P less opens k i agrees b e r barred t a

      -- a union that is not accepted bars its slot, with one rank less left
      pub round_bars : (P b).nr ≡ b → accepted J.cap (built_of J (p.has ++ (P b).has)) ≡ false → (opens' : ℕ → Bool) → ((s : ℕ) → i ≤ s → s < i + k → opens' s ≡ but b opens s)
          → goes J p P k i opens (suc r) barred t ≡ goes J p P k i opens' r (b ∷ barred) (suc t)
      unfolding goes
      round_bars n a opens' o =
          attempt_next J p P less opens k i agrees b e r barred t a
          ∙ ap (λ (x : ℕ). attempt J p (take r (gathered add_rank (λ s. rank_of J p (P s)) (but b opens) k i)) (x ∷ barred) (suc t)) n
          ∙ ap (λ (l : List Rank). attempt J p (take r l) (b ∷ barred) (suc t)) (gathered_same add_rank (λ s. rank_of J p (P s)) (λ s. rank_of J p (P s)) (but b opens) opens' k i (λ s l u. sym (o s l u)) (λ s l u z. refl))

-- ---- round after round

module _ (J : Common) (f : ℕ) (p : Part) (later : List Part) (barred : List ℕ) (t : ℕ) where
  -- a round without a union is the last
  pub rounds_none : (barred' : List ℕ) (t' : ℕ) → attempt J p (take J.ranks (ranking J p barred later)) barred t ≡ none barred' t' → rounds J (suc f) p later barred t ≡ record { part = p; later = later; trials = t' }
  unfolding rounds
  rounds_none barred' t' e = rw (e, rounds) refl

  -- a round with a union is followed by another
  pub rounds_some : (j : ℕ) (u : Part) (barred' : List ℕ) (t' : ℕ) → attempt J p (take J.ranks (ranking J p barred later)) barred t ≡ some j u barred' t' → rounds J (suc f) p later barred t ≡ rounds J f u (without j later) barred' t'
  unfolding rounds
  rounds_some j u barred' t' e = rw (e, rounds) refl

  -- without fuel nothing more is merged
  pub rounds_end : rounds J zero p later barred t ≡ record { part = p; later = later; trials = t }
  unfolding rounds
  rounds_end = refl

-- ---- slot after slot

onto_append : (ps qs rs : List Part) → onto (ps ++ qs) rs ≡ onto ps (onto qs rs)
unfolding onto
onto_append [] qs rs = refl
onto_append (p ∷ ps) qs rs = ap (add_part p) (onto_append ps qs rs)

listed_one : (P : ℕ → Part) (f : ℕ → Bool) (k i : ℕ) → f i ≡ true → listed P f (suc k) i ≡ P i ∷ listed P f k (suc i)
unfolding listed
listed_one P f k i e = gathered_in (λ p ps. p ∷ ps) P f k i e

listed_no : (P : ℕ → Part) (f : ℕ → Bool) (k i : ℕ) → f i ≡ false → listed P f (suc k) i ≡ listed P f k (suc i)
unfolding listed
listed_no P f k i e = gathered_out (λ p ps. p ∷ ps) P f k i e

-- slots that agree stand for the same partitions
pub listed_same : (P Q : ℕ → Part) (f g : ℕ → Bool) (k i : ℕ) → ((s : ℕ) → i ≤ s → s < i + k → f s ≡ g s) → ((s : ℕ) → i ≤ s → s < i + k → g s ≡ true → P s ≡ Q s) → listed P f k i ≡ listed Q g k i
unfolding listed
listed_same P Q f g k i = gathered_same (λ p ps. p ∷ ps) P Q f g k i

listed_last : (P : ℕ → Part) (f : ℕ → Bool) (k i : ℕ) → listed P f (suc k) i ≡ listed P f k i ++ listed P f 1 (i + k)
unfolding listed gathered
listed_last P f zero i = let z : i + 0 ≡ i = omega arith in rw z refl
listed_last P f (suc k) i =
    let z : i + suc k ≡ suc i + k = omega arith in
    split (f i)
    (λ t. listed_one P f (suc k) i t ∙ ap (λ (l : List Part). P i ∷ l) (listed_last P f k (suc i)) ∙ rw z (ap (λ (l : List Part). l ++ listed P f 1 (suc i + k)) (sym (listed_one P f k i t))))
    (λ t. listed_no P f (suc k) i t ∙ listed_last P f k (suc i) ∙ rw z (ap (λ (l : List Part). l ++ listed P f 1 (suc i + k)) (sym (listed_no P f k i t))))

one_no : (P : ℕ → Part) (f : ℕ → Bool) (i : ℕ) → f i ≡ false → listed P f 1 i ≡ []
unfolding listed gathered
one_no P f i e = listed_no P f 0 i e

one_yes : (P : ℕ → Part) (f : ℕ → Bool) (i : ℕ) → f i ≡ true → listed P f 1 i ≡ P i ∷ []
unfolding listed gathered
one_yes P f i e = listed_one P f 0 i e

onto_gathered : (P : ℕ → Part) (f : ℕ → Bool) (k i : ℕ) → onto (listed P f k i) [] ≡ gathered add_part P f k i
unfolding onto listed gathered
onto_gathered P f zero i = refl
onto_gathered P f (suc k) i = split (f i)
    (λ t. ap (λ (l : List Part). onto l []) (listed_one P f k i t) ∙ ap (add_part (P i)) (onto_gathered P f k (suc i)) ∙ sym (gathered_in add_part P f k i t))
    (λ t. ap (λ (l : List Part). onto l []) (listed_no P f k i t) ∙ onto_gathered P f k (suc i) ∙ sym (gathered_out add_part P f k i t))

merging_next : (J : Common) (f : ℕ) (p : Part) (ps : List Part) (t : ℕ) (m : Merged) → rounds J (suc f) p ps [] t ≡ m → merging J (suc f) (p ∷ ps) t ≡ after (m.part ∷ []) (merging J f m.later m.trials)
unfolding merging after onto
merging_next J f p ps t m e = rw e refl

nothing_merges : (J : Common) (P : ℕ → Part) (f : ℕ → Bool) (i a t : ℕ) → merging J a (listed P f 0 i) t ≡ record { parts = []; trials = t }
unfolding merging listed gathered
nothing_merges J P f i zero t = refl
nothing_merges J P f i (suc a) t = refl

after_after : (ps qs : List Part) (r : Result) → after ps (after qs r) ≡ after (ps ++ qs) r
unfolding after
after_after ps qs r = rw (onto_append ps qs r.parts) refl

-- before the first slot nothing is merged
pub merging_none : {J : Common} {n : ℕ} {P : ℕ → Part} {f : ℕ → Bool} → Merging J n (merging J n (listed P f n 0) 0) P f 0 n 0
unfolding listed gathered after onto
merging_none {n = n} = record { upto = omega arith; enough = omega arith; same = let z : n - 0 ≡ n = omega arith in rw z refl }

module _ {J : Common} {n : ℕ} {whole : Result} {P : ℕ → Part} {f : ℕ → Bool} {i left t : ℕ} (N : Merging J n whole P f i left t) where
  abbrev k : ℕ
  k = n - suc i

  -- an empty slot is passed over
  pub merging_empty : i < n → f i ≡ false → Merging J n whole P f (i + 1) left t
  merging_empty h e =
      let z : n - i ≡ suc k = omega arith in
      let y : n - (i + 1) ≡ k = omega arith in
      let x : i + 1 ≡ suc i = omega arith in
      let start : 0 + i ≡ i = omega arith in
      let w : listed P f (suc i) 0 ≡ listed P f i 0 = listed_last P f i 0 ∙ rw (start, one_no P f i e) (append-nil (listed P f i 0)) in
      record {
        upto = omega arith;
        enough = omega (arith, N.enough);
        same = rw (y, x, w) (N.same ∙ ap (λ (l : List Part). after (listed P f i 0) (merging J left l t)) (rw z (listed_no P f k i e)));
      }

  module _ (h : i < n) (e : f i ≡ true) {Q : ℕ → Part} {g : ℕ → Bool} {t' : ℕ} (d : g i ≡ true) (lower : (s : ℕ) → s < i → g s ≡ f s) (kept : (s : ℕ) → s < i → Q s ≡ P s)
      (r : rounds J left (P i) (listed P f k (suc i)) [] t ≡ record { part = Q i; later = listed Q g k (suc i); trials = t' }) where
    -- a full one is merged with what its rounds take
    pub merging_full : Merging J n whole Q g (i + 1) (left - 1) t'
    merging_full =
        let z : n - i ≡ suc k = omega arith in
        let y : n - (i + 1) ≡ k = omega arith in
        let x : i + 1 ≡ suc i = omega arith in
        let v : left ≡ suc (left - 1) = omega (arith, N.enough) in
        let r' : rounds J (suc (left - 1)) (P i) (listed P f k (suc i)) [] t ≡ record { part = Q i; later = listed Q g k (suc i); trials = t' } = ap (λ (a : ℕ). rounds J a (P i) (listed P f k (suc i)) [] t) (sym v) ∙ r in
        let m : merging J left (listed P f (n - i) i) t ≡ after (Q i ∷ []) (merging J (left - 1) (listed Q g k (suc i)) t') =
        ap (λ (a : ℕ). merging J left (listed P f a i) t) z ∙ ap (λ (l : List Part). merging J left l t) (listed_one P f k i e) ∙ ap (λ (a : ℕ). merging J a (P i ∷ listed P f k (suc i)) t) v ∙ merging_next J (left - 1) (P i) (listed P f k (suc i)) t _ r' in
        let start : 0 + i ≡ i = omega arith in
        let w : listed Q g (suc i) 0 ≡ listed P f i 0 ++ (Q i ∷ []) =
        listed_last Q g i 0 ∙ rw (start, one_yes Q g i d) (ap (λ (l : List Part). l ++ (Q i ∷ [])) (listed_same Q P g f i 0 (λ s a b. lower s (omega arith)) (λ s a b c. kept s (omega arith)))) in
        record {
          upto = omega arith;
          enough = omega (arith, N.enough);
          same = rw (y, x, w) (N.same ∙ ap (after (listed P f i 0)) m ∙ after_after (listed P f i 0) (Q i ∷ []) (merging J (left - 1) (listed Q g k (suc i)) t'));
        }

  -- past the last slot the partitions are the merge's, sorted
  pub merging_done : n ≤ i → whole ≡ record { parts = gathered add_part P f n 0; trials = t }
  unfolding after
  merging_done h =
      let z : n - i ≡ 0 = omega arith in
      let y : i ≡ n = omega (arith, N.upto) in
      N.same ∙ rw (z, y) (ap (after (listed P f n 0)) (nothing_merges J P f n left t) ∙ rw (onto_gathered P f n 0) refl)
