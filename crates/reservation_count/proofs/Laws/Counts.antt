-- Counting all records. Assumes nothing.
use Prim.Native.Nat.{ℕ}
use mathlib.Core.Path.{◌≡◌, ◌∙◌, ap}
use mathlib.Core.List.{List}
use native.Mathlib.Omega.{arith}
use lib.Dec.{ltb}
use lib.ListN.{length, get_or, replicate, length-replicate, get_or-replicate, get_or-eq_default}
use borrow.Author.Tests.{ltb-true, ltb-false}
use Rattle.rules.proofs.Lists.Members.{split}
use Rattle.reservation_count.specs.Chains.{ChainsAt, Chained}
use Rattle.reservation_count.specs.Walks.{SumAt, Summed}
use Rattle.reservation_count.specs.Counts.{CountAt, Counted}

-- zeros
zeros : (n k : ℕ) → ◌≡◌ {A = ℕ} (get_or (replicate n 0) k 0) 0
zeros n k = split (ltb k n) (λ t. get_or-replicate n k 0 0 (ltb-true k n t)) (λ t. get_or-eq_default (replicate n 0) 0 {n = k} (omega (arith, length-replicate {A = ℕ} n 0, ltb-false k n t)))

module _ (records heads links stamps : List ℕ) (A : CountAt records heads links stamps) (h s : List ℕ) (eh : h ≡ replicate (length heads) 0) (es : s ≡ replicate (length stamps) 0) where
  len_h : length h ≡ length heads
  len_h = ap length eh ∙ length-replicate (length heads) 0

  len_s : length s ≡ length stamps
  len_s = ap length es ∙ length-replicate (length stamps) 0

  -- chains may be made
  pub chains_at : ChainsAt records h links
  chains_at = record { right = rw len_h A.right; room = A.room; none = λ p. rw eh (zeros (length heads) p) }

  module _ (h₁ l₁ : List ℕ) (m : ℕ) (C : Chained records h links h₁ l₁ m) where
    -- and walked
    pub sum_at : SumAt records h₁ l₁ s
    sum_at = record {
      right = let e : length h₁ ≡ length heads = C.heads_len ∙ len_h in rw e A.right;
      pins = omega (arith, A.pins, C.heads_len, len_h);
      room = omega (arith, A.room, C.links_len);
      same = omega (arith, len_s, len_h, A.same, C.heads_len);
      chains = C.chains;
      none = λ k. rw es (zeros (length stamps) k);
    }

    -- the counts
    pub counted : (s₁ : List ℕ) (d : ℕ) → Summed records s s₁ d → (h₂ l₂ s₂ : List ℕ) → h₂ ≡ replicate (length h₁) 0 → l₂ ≡ replicate (length l₁) 0 → s₂ ≡ replicate (length s₁) 0 →
        Counted records heads links stamps h₂ l₂ s₂ (record { memories = m; duplicates = d })
    counted s₁ d S h₂ l₂ s₂ zh zl zs = record {
      counts = record { memory = C.memory; double = S.double };
      few = record { few = omega (arith, C.few, S.few, A.right.short, A.pins, A.same, len_s) };
      heads_zero = zh ∙ ap (λ (n : ℕ). replicate n 0) (C.heads_len ∙ len_h);
      links_zero = zl ∙ ap (λ (n : ℕ). replicate n 0) C.links_len;
      stamps_zero = zs ∙ ap (λ (n : ℕ). replicate n 0) (S.len ∙ len_s);
    }
