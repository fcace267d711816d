-- The full slots in their final order: bars, keys and sort together. Assumes nothing.
use Prim.Native.Nat.{ℕ, ◌+◌, ◌-◌, ◌*◌, ◌<◌}
use mathlib.Core.List.{List}
use mathlib.Core.Path.{◌≡◌, refl, sym, ap, ◌∙◌}
use native.Mathlib.Omega.{arith}
use lib.ListN.{length, get_or}
use Rattle.rules.specs.Merge.{add_part}
use Rattle.merge_slots.specs.Slots.{own, free, full}
use Rattle.merge_slots.specs.Moves.{OpenAt, Opened}
use Rattle.merge_slots.specs.Sorts.{KeysAt, Keyed, SortAt, Sorted}
use Rattle.merge_slots.proofs.Laws.Best.{gathered_same}
use Rattle.merge_layout.specs.Layout.{OrderAt, Ordered}

module _ {ls o : List ℕ} (A : OrderAt ls o) where
  abbrev n : ℕ
  n = length ls

  -- the full slots may be opened
  pub open_at : OpenAt ls o
  open_at = record { few = A.few; room = A.room }

  module _ {o₁ : List ℕ} (B : Opened ls o o₁) where
    -- with the full slots open all slots may get keys
    pub keys_at : KeysAt n o₁
    keys_at = record { area = record { few = A.few; room = B.only.size ∙ A.room } }

    module _ {o₂ : List ℕ} (K : Keyed n n o₁ o₂) where
      same : (x : ℕ) → x < 4 * n → get_or o₂ x 0 ≡ get_or o x 0
      same x h = K.kept x (omega arith) ∙ B.only.below x h

      stages : (s : ℕ) → s < n → own 1 n o₂ s ≡ own 1 n o s
      unfolding own
      stages s h = same (1 * n + s) (omega arith)

      keyed : (s : ℕ) → s < n → own 5 n o₂ s ≡ 4294967295 - own 1 n o₂ s
      unfolding own
      keyed s h = K.grows s h ∙ ap (λ (x : ℕ). 4294967295 - x) (sym (K.kept (1 * n + s) (omega arith)))

      -- with keys the slots may be sorted
      pub sort_at : SortAt n o₂
      sort_at = record { area = record { few = A.few; room = K.size ∙ B.only.size ∙ A.room }; grows = keyed; union = K.union; small = λ s h. rw (stages s h) (A.small s h) }

      bars : (s : ℕ) → s < n → free n o₂ s ≡ free n o₁ s
      unfolding free own
      bars s h = rw (K.kept (4 * n + s) (omega arith)) refl

      -- the three leave the full slots in their final order
      pub ordered : {o₃ : List ℕ} {r : ℕ} → Sorted n o₂ o₃ r → Ordered ls o o₃ r
      ordered S = record {
        size = S.size ∙ K.size ∙ B.only.size;
        kept = λ x h. S.kept x h ∙ same x h;
        few = S.few;
        slots = S.slots;
        is = λ P e. sym (gathered_same add_part P P (free n o₂) (full ls) n 0 (λ s l u. bars s (omega arith) ∙ B.bars s (omega arith)) (λ s l u t. refl)) ∙ S.is P (λ s h. e s h ∙ sym (stages s h));
      }
