-- The entry of a replay. Assumes nothing.
use Prim.Native.Nat.{ℕ, ◌≤◌}
use mathlib.Core.List.{List, ◌∷◌}
use mathlib.Core.Path.{◌≡◌}
use lib.ListN.{length}
use Rattle.rules.specs.Traversal.{needed_runs}
use Rattle.replay_form.specs.Calls as form
use Rattle.entries.specs.Entry.{entry, written}
use Rattle.entries.specs.Build.{rest}
use Rattle.entries.specs.Replay.{recording_replayed}
use Rattle.entries.proofs.Laws.Entry.{entry_told}

-- a recording replayed, the build's reply written
pub entry_replayed : (J : form.Job) (l : form.Lent) (xs : List ℕ) → 6 ≤ length xs → (o : form.Outcome) → o ≡ form.replay needed_runs J l → {n : ℕ} → n ≡ o.reply.number → {ys : List ℕ}
    → ys ≡ written (o.reply.number ∷ rest o.reply) xs → entry n o.lent ys ≡ recording_replayed J l xs
unfolding recording_replayed rest
entry_replayed J l xs h o e p d = rw (← e, p) (entry_told l o.lent o.reply.number (rest o.reply) xs h d)
