-- The entries of plans made elsewhere. Assumes nothing.
use Prim.Native.Nat.{ℕ, ◌≤◌}
use mathlib.Core.List.{List, [], ◌∷◌}
use mathlib.Core.Path.{◌≡◌}
use lib.ListN.{length}
use Rattle.plan_check.specs.Answers.{Checked, plan_checker}
use Rattle.replay_form.specs.Calls.{Job}
use Rattle.replay_finished.specs.Calls.{Plan, Lent, Outcome, finished_replay}
use Rattle.entries.specs.Entry.{entry, written}
use Rattle.mending.specs.Call as call
use Rattle.mending.specs.Call.{mender}
use Rattle.mend.specs.Calls.{mend_fits}
use Rattle.entries.specs.Plans.{place, mend_to, plan_checked, plan_replayed, plan_mended}
use Rattle.entries.proofs.Laws.Entry.{entry_told}

-- a plan checked, the answer written
pub entry_checked : (K : ℕ) (gates given records plan words counts : List ℕ) (n : ℕ) (xs : List ℕ) → 4 ≤ length xs → (o : Checked) → o ≡ plan_checker K gates given records plan words counts n → {m : ℕ} → m ≡ o.number
    → {ys : List ℕ} → ys ≡ written (o.number ∷ place o) xs → entry m tt ys ≡ plan_checked K gates given records plan words counts n xs
unfolding plan_checked place
entry_checked K gates given records plan words counts n xs h o e p d = rw (← e, p) (entry_told tt tt o.number (place o) xs h d)

-- a recording replayed over a plan
pub entry_finished : (J : Job) (p : Plan) (l : Lent) (xs : List ℕ) → 4 ≤ length xs → (o : Outcome) → o ≡ finished_replay J p l → {n : ℕ} → n ≡ o.reply.number
    → {ys : List ℕ} → ys ≡ written (o.reply.number ∷ place o.reply) xs → entry n o.lent ys ≡ plan_replayed J p l xs
unfolding plan_replayed place
entry_finished J p l xs h o e f d = rw (← e, f) (entry_told l o.lent o.reply.number (place o.reply) xs h d)

-- a plan mended
pub entry_mended : (K : ℕ) (gates given records plan words counts : List ℕ) (n : ℕ) (list work xs : List ℕ) → 5 ≤ length xs → (o : call.Outcome)
    → o ≡ mender K (length plan) (mend_fits K (length plan) (length counts) (length work) n) gates given records plan words counts list work n
    → {ys : List ℕ} → ys ≡ written (o.reply.number ∷ o.reply.stage ∷ o.reply.position ∷ o.reply.pin ∷ o.reply.count ∷ []) xs
    → entry o.reply.number (mend_to o.plan o.list o.work) ys ≡ plan_mended K gates given records words counts n (mend_to plan list work) xs
unfolding plan_mended mend_to
entry_mended K gates given records plan words counts n list work xs h o e d =
    rw (← e) (entry_told (mend_to plan list work) (mend_to o.plan o.list o.work) o.reply.number (o.reply.stage ∷ o.reply.position ∷ o.reply.pin ∷ o.reply.count ∷ []) xs h d)
