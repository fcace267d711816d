-- What the entries of a merge return and leave. Assumes nothing.
use Rattle.std.specs.Prelude.{List, [], ◌∷◌, ℕ}
use Rattle.rules.specs.Traversal.{needed_runs}
use Rattle.rules.specs.Build.{Areas}
use Rattle.rules.specs.Merge.{MergeReply, GroupList, refuse_merge, merger}
use Rattle.merge_checks.specs.Values.{group_list, areas}
use Rattle.entries.specs.Entry.{Entry, entered}
use Rattle.entries.specs.Rule.{Rule?, refusal_of, ruled}

-- the group list and the areas
pub record Lent : Type 0 where
  pub groups : GroupList
  pub areas : Areas

unfoldable pub lent : (indices lengths stages plan words counts work : List ℕ) → Lent
lent xs ls st pl ws cs w = record { groups = group_list xs ls st; areas = areas pl ws cs w }

-- what a reply has behind its number
unfoldable pub rest : MergeReply → List ℕ
rest r = r.stages ∷ r.words ∷ r.stage ∷ r.partitions ∷ r.trials ∷ r.refused ∷ r.pin ∷ r.cells ∷ []

unfoldable pub merged : ℕ → (gates given records : List ℕ) → ℕ → Lent → List ℕ → Entry Lent
merged K gates given records extra l xs =
    let o = merger needed_runs K gates given records l.groups extra l.areas in
    entered l (record { groups = o.groups; areas = o.areas }) o.reply.number (rest o.reply) xs

unfoldable pub merged_by : Rule? → ℕ → (gates given records : List ℕ) → ℕ → Lent → List ℕ → Entry Lent
merged_by r K gates given records extra l xs = ruled (refusal_of r) l (rest (refuse_merge (refusal_of r) 0 0)) xs (merged K gates given records extra l xs)
