-- The entries of a build. Assumes nothing.
use Prim.Native.Nat.{ℕ, ◌≤◌}
use mathlib.Core.List.{List, [], ◌∷◌}
use mathlib.Core.Path.{◌≡◌, ◌∙◌}
use mathlib.Core.Logic.{◌≢◌}
use lib.ListN.{length}
use Rattle.rules.specs.Traversal.{needed_runs}
use Rattle.rules.specs.Build as rules
use Rattle.placer.specs.Answers.{areas}
use Rattle.entries.specs.Entry.{Entry, entry, written}
use Rattle.entries.specs.Build.{rest, built, built_by}
use Rattle.entries.specs.Rule.{Rule?, refusal_of}
use Rattle.entries.proofs.Laws.Entry.{entry_told, ruled_away, ruled_on}

module _ (K : ℕ) (gates given records pl ws cs w xs : List ℕ) where
  -- the build, its reply written
  pub entry_built : 6 ≤ length xs → (o : rules.Outcome) → o ≡ rules.placer needed_runs K gates given records (areas pl ws cs w) → {n : ℕ} → n ≡ o.reply.number → {ys : List ℕ}
      → ys ≡ written (o.reply.number ∷ rest o.reply) xs → entry n o.areas ys ≡ built K gates given records (areas pl ws cs w) xs
  unfolding built rest
  entry_built h o e p d = rw (← e, p) (entry_told (areas pl ws cs w) o.areas o.reply.number (rest o.reply) xs h d)

  -- the rule that is asked for
  module _ (r : Rule?) {k : ℕ} (e : k ≡ refusal_of r) where
    -- one that is refused turns the call away
    pub by_away : k ≢ 0 → (n : ℕ) (zs : List ℕ) → n ≡ k → zs ≡ written (n ∷ 0 ∷ 0 ∷ 0 ∷ 0 ∷ 0 ∷ []) xs → entry k (areas pl ws cs w) zs ≡ built_by r K gates given records (areas pl ws cs w) xs
    unfolding built_by rest rules.refuse
    by_away h n zs p q = rw (← e) (ruled_away (areas pl ws cs w) (0 ∷ 0 ∷ 0 ∷ 0 ∷ 0 ∷ []) xs (built K gates given records (areas pl ws cs w) xs) k h (rw p at q))

    -- else the call goes on
    pub by_on : k ≡ 0 → (E : Entry rules.Areas) → E ≡ built K gates given records (areas pl ws cs w) xs → E ≡ built_by r K gates given records (areas pl ws cs w) xs
    unfolding built_by rest rules.refuse
    by_on z E p = rw (← e) (p ∙ ruled_on (areas pl ws cs w) (0 ∷ 0 ∷ 0 ∷ 0 ∷ 0 ∷ []) xs (built K gates given records (areas pl ws cs w) xs) k z)
