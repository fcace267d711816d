-- Bytes, one after the other. Assumes nothing.
use Prim.Native.Nat.{ℕ, ◌+◌, ◌≤◌, ◌<◌}
use mathlib.Core.Path.{◌≡◌, refl, sym, ◌∙◌}
use mathlib.Core.List.{List}
use native.Mathlib.Omega.{arith}
use lib.Dec.{eqb}
use lib.ListN.{length, get_or, set, length-set}
use lib.Seq.{get_or-set_same, get_or-set_other, ext_get_or}
use Rattle.rules.specs.Fold.{as_number}
use Rattle.rules.proofs.Lists.Members.{split, eqb_true, eqb_false}
use Rattle.rules.proofs.Lists.Parts.{get_d_map}
use Rattle.replay_form.specs.Clocks.{is_one, ones}
use Rattle.replay_form.proofs.Lengths.{length_ones}

-- the first i bytes are those of a function
pub record Filled (f : ℕ → ℕ) (s : List ℕ) (i : ℕ) (now : List ℕ) : Type 0 where
  pub len : length now ≡ length s
  pub each : (k : ℕ) → k < i → get_or now k 0 ≡ f k

module _ (f : ℕ → ℕ) (s : List ℕ) where
  -- none at the beginning
  pub filled_none : Filled f s 0 s
  filled_none = record { len = refl; each = λ k h. absurd (omega arith) }

  -- one more
  pub filled_more : (i : ℕ) (now : List ℕ) → Filled f s i now → i < length now → (v : ℕ) → v ≡ f i → Filled f s (i + 1) (set now i v)
  filled_more i now F h v ev = record {
    len = length-set now i v ∙ F.len;
    each = λ k b. split (eqb k i)
        (λ t. let e = eqb_true k i t in rw (e, get_or-set_same now i v 0 h) ev)
        (λ t. let e = eqb_false k i t in get_or-set_other now i k v 0 e ∙ F.each k (omega (arith, e)));
  }

-- all are bits
pub copied : (from s : List ℕ) → length s ≡ length from → (i : ℕ) (now : List ℕ) → Filled (λ k. as_number (is_one (get_or from k 0))) s i now → length from ≤ i → now ≡ ones from
unfolding ones
copied from s e i now F h = ext_get_or 0 now (ones from) (F.len ∙ e ∙ sym (length_ones from))
    (λ k b. F.each k (omega (arith, F.len)) ∙ sym (get_d_map (λ x. as_number (is_one x)) from k (omega (arith, F.len))))
