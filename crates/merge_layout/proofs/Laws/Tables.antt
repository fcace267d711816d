-- Lengths and stages in the final order: what the loops keep. Assumes nothing.
use Prim.Native.Nat.{ℕ, ◌+◌, ◌*◌, ◌<◌, ◌≤◌}
use mathlib.Core.List.{List}
use mathlib.Core.Logic.{inl, inr}
use mathlib.Core.Path.{◌≡◌, refl, ap, ◌∙◌}
use native.Mathlib.Omega.{arith}
use lib.ListN.{length, get_or, set, length-set}
use lib.Seq.{get_or-set_same, get_or-set_other}
use Rattle.merge_slots.specs.Slots.{own}
use Rattle.merge_slots.specs.Moves.{OwnAt}
use Rattle.merge_slots.proofs.Laws.Bars.{same_or}
use Rattle.merge_layout.specs.Layout.{Cleared, FillAt, TableAt, Tabled}

-- two stores, to place i of columns 4 and 5
module _ (n i v u : ℕ) (o : List ℕ) (inside : i < n) (room : length o ≡ 8 * n) where
  abbrev one : List ℕ
  one = set o (5 * n + i) v

  abbrev two : List ℕ
  two = set one (6 * n + i) u

  two_size : length two ≡ length o
  two_size = length-set one (6 * n + i) u ∙ length-set o (5 * n + i) v

  two_other : (x : ℕ) → (x ≡ 5 * n + i → ⊥) → (x ≡ 6 * n + i → ⊥) → get_or two x 0 ≡ get_or o x 0
  two_other x a b = get_or-set_other one (6 * n + i) x u 0 b ∙ get_or-set_other o (5 * n + i) x v 0 a

  two_fifth : get_or two (5 * n + i) 0 ≡ v
  two_fifth = get_or-set_other one (6 * n + i) (5 * n + i) u 0 (λ z. omega arith) ∙ get_or-set_same o (5 * n + i) v 0 (omega arith)

  two_sixth : get_or two (6 * n + i) 0 ≡ u
  two_sixth = get_or-set_same one (6 * n + i) u 0 (omega (arith, length-set o (5 * n + i) v))

-- ---- both columns 0

-- at the first place nothing is cleared
pub cleared_none : {n : ℕ} {o : List ℕ} → Cleared n 0 o o
cleared_none = record { size = refl; below = λ x h. refl; above = λ x h. refl; fifth = λ i h. absurd (omega arith); sixth = λ i h. absurd (omega arith) }

-- one more place of both columns is 0
pub cleared_more : {n k : ℕ} {o o' : List ℕ} → OwnAt n o → Cleared n k o o' → k < n → Cleared n (k + 1) o (set (set o' (5 * n + k) 0) (6 * n + k) 0)
unfolding own
cleared_more {n} {k} {o} {o'} A N h =
    let l : length o' ≡ 8 * n = N.size ∙ A.room in
    record {
      size = two_size n k 0 0 o' h l ∙ N.size;
      below = λ x b. two_other n k 0 0 o' h l x (λ z. omega arith) (λ z. omega arith) ∙ N.below x b;
      above = λ x b. two_other n k 0 0 o' h l x (λ z. omega arith) (λ z. omega arith) ∙ N.above x b;
      fifth = λ i b. elim (same_or i k b) [ inl e ↦ rw e (two_fifth n k 0 0 o' h l) | inr e ↦ two_other n k 0 0 o' h l (5 * n + i) (λ z. omega arith) (λ z. omega arith) ∙ N.fifth i e ];
      sixth = λ i b. elim (same_or i k b) [ inl e ↦ rw e (two_sixth n k 0 0 o' h l) | inr e ↦ two_other n k 0 0 o' h l (6 * n + i) (λ z. omega arith) (λ z. omega arith) ∙ N.sixth i e ];
    }

-- past the last place both columns are 0
pub cleared_done : {n k : ℕ} {o o' : List ℕ} → Cleared n k o o' → k ≤ n → n ≤ k → Cleared n n o o'
cleared_done {n} {k} N a b = let e : k ≡ n = omega arith in rw e at N

-- ---- the first i numbers of both columns are written

-- the first i lengths and stages stand in the final order, 0 behind them
pub record Tabling (ls : List ℕ) (k : ℕ) (o o' : List ℕ) (i : ℕ) : Type 0 where
  pub upto : i ≤ k
  pub size : length o' ≡ length o
  pub below : (x : ℕ) → x < 5 * length ls → get_or o' x 0 ≡ get_or o x 0
  pub above : (x : ℕ) → 7 * length ls ≤ x → get_or o' x 0 ≡ get_or o x 0
  pub lengths : (j : ℕ) → j < i → own 5 (length ls) o' j ≡ get_or ls (own 7 (length ls) o j) 0
  pub stages : (j : ℕ) → j < i → own 6 (length ls) o' j ≡ own 1 (length ls) o (own 7 (length ls) o j)
  pub no_lengths : (j : ℕ) → i ≤ j → j < length ls → own 5 (length ls) o' j ≡ 0
  pub no_stages : (j : ℕ) → i ≤ j → j < length ls → own 6 (length ls) o' j ≡ 0

-- before the first slot both columns are 0
pub tabling_none : {ls : List ℕ} {k : ℕ} {o : List ℕ} → FillAt ls k o → Tabling ls k o o 0
tabling_none A = record {
  upto = omega arith;
  size = refl;
  below = λ x h. refl;
  above = λ x h. refl;
  lengths = λ j h. absurd (omega arith);
  stages = λ j h. absurd (omega arith);
  no_lengths = λ j a b. A.fifth j b;
  no_stages = λ j a b. A.sixth j b;
}

module _ {ls : List ℕ} {k : ℕ} {o o' : List ℕ} {i : ℕ} (A : FillAt ls k o) (N : Tabling ls k o o' i) (h : i < k) {s : ℕ} (e : s ≡ get_or o' (7 * length ls + i) 0) where
  abbrev n : ℕ
  n = length ls

  inside : i < n
  inside = omega (arith, A.table.inside)

  long : length o' ≡ 8 * n
  long = N.size ∙ A.table.room

  named : s ≡ own 7 n o i
  unfolding own
  named = e ∙ N.above (7 * n + i) (omega arith)

  -- the next slot of the order is one
  pub tabling_slot : s < n
  tabling_slot = rw named (A.table.slots i h)

  abbrev v : ℕ
  v = get_or ls s 0

  abbrev u : ℕ
  u = get_or (set o' (5 * n + i) v) (1 * n + s) 0

  unit : u ≡ own 1 n o (own 7 n o i)
  unfolding own
  unit = get_or-set_other o' (5 * n + i) (1 * n + s) v 0 (λ z. omega (arith, tabling_slot)) ∙ N.below (1 * n + s) (omega (arith, tabling_slot)) ∙ ap (λ (x : ℕ). get_or o (1 * n + x) 0) named

  -- one more slot's length and stages are written
  pub tabling_more : Tabling ls k o (set (set o' (5 * n + i) v) (6 * n + i) u) (i + 1)
  unfolding own
  tabling_more = record {
    upto = omega arith;
    size = two_size n i v u o' inside long ∙ N.size;
    below = λ x b. two_other n i v u o' inside long x (λ z. omega arith) (λ z. omega arith) ∙ N.below x b;
    above = λ x b. two_other n i v u o' inside long x (λ z. omega (arith, inside)) (λ z. omega (arith, inside)) ∙ N.above x b;
    lengths = λ j b. elim (same_or j i b) [ inl d ↦ rw d (two_fifth n i v u o' inside long ∙ ap (λ (x : ℕ). get_or ls x 0) named) | inr d ↦ two_other n i v u o' inside long (5 * n + j) (λ z. omega arith) (λ z. omega (arith, inside)) ∙ N.lengths j d ];
    stages = λ j b. elim (same_or j i b) [ inl d ↦ rw d (two_sixth n i v u o' inside long ∙ unit) | inr d ↦ two_other n i v u o' inside long (6 * n + j) (λ z. omega (arith, inside)) (λ z. omega arith) ∙ N.stages j d ];
    no_lengths = λ j a b. two_other n i v u o' inside long (5 * n + j) (λ z. omega arith) (λ z. omega arith) ∙ N.no_lengths j (omega arith) b;
    no_stages = λ j a b. two_other n i v u o' inside long (6 * n + j) (λ z. omega (arith, inside)) (λ z. omega arith) ∙ N.no_stages j (omega arith) b;
  }

-- past the last slot both columns are whole
pub tabling_done : {ls : List ℕ} {k : ℕ} {o o' : List ℕ} {i : ℕ} → Tabling ls k o o' i → k ≤ i → Tabled ls k o o'
tabling_done N h = record {
  size = N.size;
  below = N.below;
  above = N.above;
  lengths = λ j b. N.lengths j (omega (arith, N.upto));
  stages = λ j b. N.stages j (omega (arith, N.upto));
  no_lengths = λ j b l. N.no_lengths j (omega (arith, N.upto)) l;
  no_stages = λ j b l. N.no_stages j (omega (arith, N.upto)) l;
}

-- ---- both loops

module _ {ls : List ℕ} {k : ℕ} {o o₁ : List ℕ} (A : TableAt ls k o) (C : Cleared (length ls) (length ls) o o₁) where
  ordered : (i : ℕ) → own 7 (length ls) o₁ i ≡ own 7 (length ls) o i
  unfolding own
  ordered i = C.above (7 * length ls + i) (omega arith)

  -- cleared columns may be filled
  pub fill_at : FillAt ls k o₁
  fill_at = record { table = record { few = A.few; room = C.size ∙ A.room; inside = A.inside; slots = λ i h. rw (ordered i) (A.slots i h) }; fifth = C.fifth; sixth = C.sixth }

  staged : (s : ℕ) → s < length ls → own 1 (length ls) o₁ s ≡ own 1 (length ls) o s
  unfolding own
  staged s h = C.below (1 * length ls + s) (omega arith)

  -- cleared and filled, they hold the lengths and stages in the final order
  pub tabled : {o₂ : List ℕ} → Tabled ls k o₁ o₂ → Tabled ls k o o₂
  tabled T = record {
    size = T.size ∙ C.size;
    below = λ x h. T.below x h ∙ C.below x h;
    above = λ x h. T.above x h ∙ C.above x h;
    lengths = λ i h. T.lengths i h ∙ ap (λ (s : ℕ). get_or ls s 0) (ordered i);
    stages = λ i h. T.stages i h ∙ ap (λ (s : ℕ). own 1 (length ls) o₁ s) (ordered i) ∙ staged (own 7 (length ls) o i) (A.slots i h);
    no_lengths = T.no_lengths;
    no_stages = T.no_stages;
  }
