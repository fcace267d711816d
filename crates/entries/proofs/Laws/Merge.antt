-- The entries of a merge. Assumes nothing.
use Prim.Native.Nat.{ℕ, ◌≤◌}
use mathlib.Core.List.{List, [], ◌∷◌}
use mathlib.Core.Path.{◌≡◌, ◌∙◌}
use mathlib.Core.Logic.{◌≢◌}
use lib.ListN.{length}
use Rattle.rules.specs.Traversal.{needed_runs}
use Rattle.rules.specs.Merge.{MergeOutcome, refuse_merge, merger}
use Rattle.merge_checks.specs.Values.{group_list, areas}
use Rattle.entries.specs.Entry.{Entry, entry, written}
use Rattle.entries.specs.Merge.{Lent, lent, rest, merged, merged_by}
use Rattle.entries.specs.Rule.{Rule?, refusal_of}
use Rattle.entries.proofs.Laws.Entry.{entry_told, ruled_away, ruled_on}

module _ (K : ℕ) (gates given records xs ls st : List ℕ) (extra : ℕ) (pl ws cs w ys : List ℕ) where
  -- the merge, its reply written
  pub entry_merged : 9 ≤ length ys → (o : MergeOutcome) → o ≡ merger needed_runs K gates given records (group_list xs ls st) extra (areas pl ws cs w) → {zs : List ℕ}
      → zs ≡ written (o.reply.number ∷ rest o.reply) ys
      → entry o.reply.number (record { groups = o.groups; areas = o.areas }) zs ≡ merged K gates given records extra (lent xs ls st pl ws cs w) ys
  unfolding merged rest lent
  entry_merged h o e d = rw (← e) (entry_told (lent xs ls st pl ws cs w) (record { groups = o.groups; areas = o.areas }) o.reply.number (rest o.reply) ys h d)

  -- the rule that is asked for
  module _ (r : Rule?) {k : ℕ} (e : k ≡ refusal_of r) where
    -- one that is refused turns the call away
    pub by_away : k ≢ 0 → (n : ℕ) (zs : List ℕ) → n ≡ k → zs ≡ written (n ∷ 0 ∷ 0 ∷ 0 ∷ 0 ∷ 0 ∷ 0 ∷ 0 ∷ 0 ∷ []) ys → entry k (lent xs ls st pl ws cs w) zs ≡ merged_by r K gates given records extra (lent xs ls st pl ws cs w) ys
    unfolding merged_by rest refuse_merge
    by_away h n zs p q = rw (← e) (ruled_away (lent xs ls st pl ws cs w) (0 ∷ 0 ∷ 0 ∷ 0 ∷ 0 ∷ 0 ∷ 0 ∷ 0 ∷ []) ys (merged K gates given records extra (lent xs ls st pl ws cs w) ys) k h (rw p at q))

    -- else the call goes on
    pub by_on : k ≡ 0 → (E : Entry Lent) → E ≡ merged K gates given records extra (lent xs ls st pl ws cs w) ys → E ≡ merged_by r K gates given records extra (lent xs ls st pl ws cs w) ys
    unfolding merged_by rest refuse_merge
    by_on z E p = rw (← e) (p ∙ ruled_on (lent xs ls st pl ws cs w) (0 ∷ 0 ∷ 0 ∷ 0 ∷ 0 ∷ 0 ∷ 0 ∷ 0 ∷ []) ys (merged K gates given records extra (lent xs ls st pl ws cs w) ys) k z)
