-- All stages with their lines. Assumes nothing.
use Prim.Native.Nat.{ℕ, zero, suc, ◌+◌, ◌-◌, ◌≤◌, ◌<◌}
use mathlib.Core.Path.{◌≡◌, refl, sym, ◌∙◌}
use mathlib.Core.Logic.{◌≢◌}
use mathlib.Core.List.{List, [], ◌∷◌}
use native.Mathlib.Omega.{arith}
use native.Mathlib.Numerals.{add-one}
use lib.ListN.{length}
use Rattle.rules.specs.Lists.{count}
use Rattle.rules.specs.Cells.{filled}
use Rattle.rules.specs.States.{state, after_from}
use Rattle.rules.proofs.Stage.Fuel.{count-length}
use Rattle.std.specs.Prelude.{Ok, Err}
use Rattle.refusals.specs.declared.Refusal.TheVariants.{NoRoom}
use Rattle.stage.specs.declared.finish.Outcome.{Outcome}
use Rattle.stage.specs.declared.finish.Stopped.{Stopped}
use Rattle.stage.specs.Stopped.{refusal_of}
use Rattle.placer.specs.Stages.{Course, Kept, StagesAt}
use Rattle.placer.proofs.Laws.Course.{next_at, rooms_nine, refused_told, no_pin, whole_told, whole_stands}
use Rattle.why_form.specs.Why.{why_from}
use Rattle.explain_lines.specs.Lines.{put_lines}
use Rattle.explain_stages.specs.declared.Step.{Step}
use Rattle.explain_stages.specs.Telling.{lines_after, TellAt, Tells, AllAt, AllTold}
use Rattle.explain_stages.proofs.Laws.Telling.{after_lines}

-- where no room is left, or no pin waits, there is no line more
no_rooms : (C : Course) (k : ℕ) {done waiting : List ℕ} {room : ℕ} → after_from C.rule C.K C.g k C.given C.waiting C.room ≡ state done waiting room → C.rooms - k ≡ 0 → lines_after C k ≡ []
unfolding why_from
no_rooms C k e z = after_lines C k e ∙ rw (z, why_from) refl

no_pins : (C : Course) (k : ℕ) (done waiting : List ℕ) (room : ℕ) → after_from C.rule C.K C.g k C.given C.waiting C.room ≡ state done waiting room → length waiting ≡ 0 → lines_after C k ≡ []
unfolding why_from
no_pins C k done [] room e z = after_lines C k e ∙ none (C.rooms - k)
  where
    none : (r : ℕ) → why_from C.rule C.K C.g r (suc k) done [] room ≡ []
    none zero = refl
    none (suc r) = refl
no_pins C k done (w ∷ ws) room e z = absurd (omega arith)

module _ {C : Course} {m K half : ℕ} {rooms k at n room lines : ℕ} {list₀ gates pl ws cs w list : List ℕ} (A : AllAt C m K half rooms k at n room lines list₀ gates pl ws cs w list) where
  abbrev S : StagesAt C m K half rooms k at n room gates pl ws cs w
  S = A.stands

  -- while pins wait and a room is left, the next stage may be told
  pub tell_at : {b : ℕ} → b ≡ room → 0 < n → k ≢ rooms → TellAt C m K half k n at (b - at) lines gates pl ws cs w
  tell_at e h r = record { one = next_at S e h r; bare = A.bare; few = A.few }

  -- what all lines come to where none is left
  ends : lines_after C k ≡ [] → (list ≡ put_lines 0 (lines_after C 0) list₀) × (lines ≡ length (lines_after C 0))
  unfolding put_lines
  ends e = (sym (A.same ∙ rw e refl), sym (A.count ∙ rw e (omega arith)))

  -- pins that wait without a room left
  pub told_nine : {pl₀ ws₀ cs₀ w₀ : List ℕ} → 0 < n → k ≡ rooms → Kept pl₀ ws₀ cs₀ w₀ pl ws cs w → AllTold C pl₀ ws₀ cs₀ w₀ list₀ (record { answer = Err (record { why = NoRoom; stage = k + 1 }); lines = lines }) pl ws cs w list
  told_nine h e kp =
      let q = ends (no_rooms C k S.now.reached (omega (arith, S.all))) in
      record { kept = kp; reply = refused_told C k NoRoom refl (rooms_nine S h e); whole = tt; lines = q.0; count = q.1 }

  -- no pin left: a whole plan
  pub told_whole : {pl₀ ws₀ cs₀ w₀ : List ℕ} → n ≡ 0 → {t : ℕ} → t ≡ count filled pl → Kept pl₀ ws₀ cs₀ w₀ pl ws cs w → AllTold C pl₀ ws₀ cs₀ w₀ list₀ (record { answer = Ok (record { stages = k; words = at; cells = t }); lines = lines }) pl ws cs w list
  told_whole z e kp =
      let q = ends (no_pins C k S.now.done S.now.waiting _ S.now.reached (omega (arith, S.now.work.waiting.held.count))) in
      record { kept = kp; reply = whole_told S z e; whole = whole_stands S z; lines = q.0; count = q.1 }

  module _ {s : Step} {pl1 ws1 cs1 w1 list1 : List ℕ} (T : Tells C m k at lines pl ws cs w list s pl1 ws1 cs1 w1 list1) where
    -- a stage that was stopped ends the build
    pub told_refused : {pl₀ ws₀ cs₀ w₀ : List ℕ} {e : Stopped} → s.outcome ≡ Err e → Kept pl₀ ws₀ cs₀ w₀ pl1 ws1 cs1 w1 → AllTold C pl₀ ws₀ cs₀ w₀ list₀ (record { answer = Err (record { why = refusal_of e; stage = k + 1 }); lines = s.lines }) pl1 ws1 cs1 w1 list1
    told_refused {e = e} z kp = record { kept = kp; reply = refused_told C k (refusal_of e) (no_pin e) (rw z at T.refused); whole = tt; lines = (rw z at T.last) ∙ sym A.same; count = (rw z at T.last_count) ∙ sym A.count }

    module _ {o : Outcome} (z : s.outcome ≡ Ok o) where
      -- after a whole stage the build goes on with the next
      pub all_on : {spent : ℕ} → spent ≡ at + o.words → AllAt C m K half rooms (k + 1) spent o.waiting room s.lines list₀ gates pl1 ws1 cs1 w1 list1
      all_on e = rw (e, add-one k) (record {
        stands = record { known = S.known; now = rw z at T.on; all = S.all; short = S.short; left = S.left };
        bare = rw z at T.bare;
        few = rw z at T.few;
        same = A.same ∙ (rw z at T.next);
        count = A.count ∙ (rw z at T.next_count);
      })

      -- with the stage's the filled cells are no more than the plan has
      pub cells_told : {t : ℕ} → t ≡ count filled pl → t + o.cells ≤ length pl
      cells_told e = omega (arith, rw z at T.more, T.kept.plan, count-length filled pl1)
