-- The line of a reservation that is over is the one that the rules give. Assumes nothing.
use Prim.Native.Nat.{ℕ, ◌+◌, ◌-◌, ◌*◌, ◌/◌, ◌≤◌, ◌<◌}
use mathlib.Core.Path.{◌≡◌, refl, ap, ◌∙◌}
use mathlib.Core.List.{List, [], ◌∷◌}
use lib.Dec.{ltb}
use borrow.Author.Tests.{lt-ltb, le-ltb}
use Rattle.rules.specs.Cells.{word_limit}
use Rattle.rules.specs.Records.{groups_of}
use Rattle.rules.specs.Reservation.{memories, duplicates, reserved}
use Rattle.rules.proofs.Lists.Members.{split}
use Rattle.placer_start.specs.declared.reservation.Count.{Count}
use Rattle.plan_check.specs.Room.{RoomCounted}
use Rattle.why_form.specs.Why.{numbers, sixth}
use Rattle.explain_lines.specs.Lines.{put_six, put_lines}
use Rattle.explain_build.specs.Six.{SixAt, six_of, TellAt, Told}

module _ (limit m d : ℕ) where
  -- the first test fails
  pub six_reserved : limit ≤ m + (d + 31) / 32 → 6 ∷ 0 ∷ (limit - 1) ∷ (m + (d + 31) / 32) ∷ m ∷ d ∷ [] ≡ six_of limit m d
  unfolding six_of
  six_reserved h = rw (le-ltb (m + (d + 31) / 32) limit h, six_of)

  -- it doesn't
  pub six_limit : m + (d + 31) / 32 < limit → 6 ∷ 0 ∷ limit ∷ (4 * m + d) ∷ m ∷ d ∷ [] ≡ six_of limit m d
  unfolding six_of
  six_limit h = rw (lt-ltb (m + (d + 31) / 32) limit h, six_of)

-- the reservation counted, its line may be made
pub six_at : {limit : ℕ} {gates records : List ℕ} {c : Count} → TellAt limit gates records → RoomCounted records c → SixAt limit c
six_at A R = record { low = A.low; high = A.high; few = R.few.few }

-- and is told
pub six_told : {limit : ℕ} {records list list' six : List ℕ} {c : Count} → RoomCounted records c → six ≡ six_of limit c.memories c.duplicates → list' ≡ put_six 0 six list → Told limit records list list'
unfolding six_of sixth numbers reserved put_lines
six_told {limit} {records} {list} {list'} {six} {c} R e d = record {
  is = λ K l. d ∙ ap (λ (xs : List ℕ). put_six 0 xs list) (e ∙ rw (l, ← R.counts.memory, ← R.counts.double) (same K));
}
  where
    same : (K : ℕ) → six_of (word_limit K) (memories (groups_of records)) (duplicates (groups_of records)) ≡ numbers (sixth K (groups_of records))
    same K = split (ltb (reserved (groups_of records)) (word_limit K)) (λ b. rw (b, six_of, sixth) refl) (λ b. rw (b, six_of, sixth) refl)
