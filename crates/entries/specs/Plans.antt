-- What the entries of plans made elsewhere return and leave. Assumes nothing.
use Rattle.std.specs.Prelude.{List, [], ◌∷◌, ℕ, length}
use Rattle.plan_check.specs.Answers.{Checked, plan_checker}
use Rattle.replay_form.specs.Calls.{Job}
use Rattle.replay_finished.specs.Calls.{Plan, Lent, finished_replay}
use Rattle.mending.specs.Call.{mender}
use Rattle.mend.specs.Calls.{mend_fits}
use Rattle.entries.specs.Entry.{Entry, entered}

-- what follows the number: where a fault is, and the pin on a loop
unfoldable pub place : Checked → List ℕ
place c = c.stage ∷ c.position ∷ c.pin ∷ []

-- the check, which is lent nothing to write but the answer
unfoldable pub plan_checked : ℕ → (gates given records plan words counts : List ℕ) → ℕ → List ℕ → Entry (Unit {0})
plan_checked K gates given records plan words counts n xs =
    let c = plan_checker K gates given records plan words counts n in
    entered tt tt c.number (place c) xs

-- the replay, and all areas
unfoldable pub plan_replayed : Job → Plan → Lent → List ℕ → Entry Lent
plan_replayed J p l xs =
    let o = finished_replay J p l in
    entered l o.lent o.reply.number (place o.reply) xs

-- the areas that mending writes
pub record Mend : Type 0 where
  pub plan : List ℕ
  pub list : List ℕ
  pub work : List ℕ

unfoldable pub mend_to : (plan list work : List ℕ) → Mend
mend_to plan list work = record { plan = plan; list = list; work = work }

-- the mending: its place, the pin on a loop and the changes, and all areas
unfoldable pub plan_mended : ℕ → (gates given records words counts : List ℕ) → ℕ → Mend → List ℕ → Entry Mend
plan_mended K gates given records words counts n l xs =
    let o = mender K (length l.plan) (mend_fits K (length l.plan) (length counts) (length l.work) n) gates given records l.plan words counts l.list l.work n in
    entered l (mend_to o.plan o.list o.work) o.reply.number (o.reply.stage ∷ o.reply.position ∷ o.reply.pin ∷ o.reply.count ∷ []) xs
