-- Sizes taken off step by step. Assumes nothing.
use Prim.Native.Nat.{ℕ, ◌+◌, ◌-◌, ◌*◌, ◌/◌, ◌≤◌, ◌<◌}
use mathlib.Core.Path.{◌≡◌, sym}
use mathlib.Core.Bool.{true, false, ◌&&◌}
use mathlib.Core.List.{List}
use native.Mathlib.Omega.{arith}
use lib.Dec.{leb}
use lib.ListN.{length}
use borrow.Author.Tests.{le-leb, lt-leb, leb-true, leb-false}
use Rattle.rules.specs.Cells.{is_height}
use Rattle.rules.specs.Graph.{pin_count}
use Rattle.rules.specs.Checks.{work_size, areas_sized}
use Rattle.rules.proofs.Lists.Members.{split, and_true}
use Rattle.replay_form.specs.Calls.{slots_size, bits_size, replay_sized}
use Rattle.replay.specs.Sizes.{lists_sized}

module _ (gates records : List ℕ) (plan tape slots bits : ℕ) where
  -- a tape too short
  pub tape_short : tape < plan → false ≡ lists_sized gates records plan tape slots bits
  unfolding lists_sized
  tape_short h = rw (lt-leb plan tape h)

  module _ (t : plan ≤ tape) where
    -- too few slots
    pub slots_short : slots < plan + length records → false ≡ lists_sized gates records plan tape slots bits
    unfolding lists_sized slots_size
    slots_short h = rw (le-leb plan tape t, lt-leb (plan + length records) slots h)

    module _ (s : plan + length records ≤ slots) (m : ℕ) (em : m ≡ pin_count gates) where
      -- fewer bits than pins
      pub bits_short : bits < m → false ≡ lists_sized gates records plan tape slots bits
      unfolding lists_sized slots_size bits_size
      bits_short h = rw (le-leb plan tape t, le-leb (plan + length records) slots s, lt-leb (pin_count gates + plan / 2) bits (omega arith))

      -- else the bits left decide
      pub bits_left : m ≤ bits → leb (plan / 2) (bits - m) ≡ lists_sized gates records plan tape slots bits
      unfolding lists_sized slots_size bits_size
      bits_left h = rw (le-leb plan tape t, le-leb (plan + length records) slots s) (split (leb (plan / 2) (bits - m))
          (λ k. rw k (sym (le-leb (pin_count gates + plan / 2) bits (omega (arith, leb-true (plan / 2) (bits - m) k)))))
          (λ k. rw k (sym (lt-leb (pin_count gates + plan / 2) bits (omega (arith, leb-false (plan / 2) (bits - m) k))))))

module _ (K : ℕ) (gates records : List ℕ) (plan words counts work tape slots bits : ℕ) where
  -- the areas of the build
  pub build_wrong : is_height K && areas_sized K (16 * (length gates / 2) + 8 * length records + 512) plan words counts work ≡ false →
      false ≡ (is_height K && replay_sized K gates records plan words counts work tape slots bits)
  unfolding replay_sized work_size pin_count
  build_wrong e = split (is_height K) (λ h. let d : areas_sized K (16 * (length gates / 2) + 8 * length records + 512) plan words counts work ≡ false = rw h at e in rw (h, d)) (λ h. rw h)

  -- and the others
  pub build_right : is_height K && areas_sized K (16 * (length gates / 2) + 8 * length records + 512) plan words counts work ≡ true →
      lists_sized gates records plan tape slots bits ≡ (is_height K && replay_sized K gates records plan words counts work tape slots bits)
  unfolding replay_sized lists_sized work_size pin_count
  build_right e = let t = and_true (is_height K) _ e in rw (t.0, t.1)
