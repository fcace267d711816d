-- What the entry of a replay returns and leaves. Assumes nothing.
use Rattle.std.specs.Prelude.{List, ℕ}
use Rattle.rules.specs.Traversal.{needed_runs}
use Rattle.replay_form.specs.Calls.{Job, Lent, replay}
use Rattle.entries.specs.Entry.{Entry, entered}
use Rattle.entries.specs.Build.{rest}

-- a build's reply, and all areas
unfoldable pub recording_replayed : Job → Lent → List ℕ → Entry Lent
recording_replayed J l xs =
    let o = replay needed_runs J l in
    entered l o.lent o.reply.number (rest o.reply) xs
