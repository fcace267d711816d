-- Rules 1 to 11 in order: what each part leaves is what the next one finds. Assumes nothing.
use Rattle.std.specs.Prelude.{Result, Ok, Err, IfOk}
use Rattle.std.proofs.lemmas.Result.{IfOk-weaker, IfErr-weaker}
use Rattle.stage_walk.specs.Stands.{Fresh}
use Rattle.stage_ending.specs.Close.{Gone}
use Prim.Native.Nat.{ℕ, ◌+◌, ◌*◌}
use mathlib.Core.List.{List}
use mathlib.Core.Path.{◌≡◌, refl, sym, ap, ◌∙◌}
use native.Mathlib.Omega.{arith}
use lib.ListN.{get_or}
use Rattle.rules.specs.Traversal.{Setting}
use Rattle.rules.specs.Placing.{filled_plan}
use Rattle.rules.specs.Ending.{finish, one_stage}
use Rattle.columns.proofs.Area.Frames.{frame_then, frame_more}
use Rattle.columns.proofs.Lists.Marks.{marks_frame}
use Rattle.columns.proofs.Lists.Places.{placed_frame}
use Rattle.columns.proofs.Lists.Clears.{clear_frame}
use Rattle.stage_walk.specs.Stands.{Context}
use Rattle.stage_prepare.specs.Prepared.{PrepareAt, Prepared, ForgetAt, Forgot}
use Rattle.stage_prepare.proofs.Forgets.{forget_at, forget_frame, listed_outside, level_outside, reverse_outside}
use Rattle.stage_ending.proofs.Laws.Close.{zeroed_clear}
use Rattle.stage_ending.proofs.Laws.Closed.{within_frame}
use Rattle.stage_notes.specs.Notes.{stage_notes}
use Rattle.stage_notes.proofs.Noting.{notes_same}
use Rattle.stage.specs.declared.finish.Outcome.{Outcome}
use Rattle.stage.specs.declared.finish.Stopped.{Stopped}
use Rattle.stage_loop.specs.Filling.{FillAt, FilledTree}
use Rattle.stage.specs.Finish.{FinishAt, Changed, Whole, Finished}
use Rattle.stage.specs.Stage.{StageAt, columns, built, Staged}
use Rattle.stage_loop.proofs.Laws.Tries.{set_kept}

-- the stage of a context is what rules 8 to 11 make of rules 2 to 7's plan
built_is : (C : Context) (room : ℕ) → finish C.X room (filled_plan C.X) ≡ built C room
unfolding built one_stage
built_is C room = ap (λ (X : Setting). finish X room (filled_plan X)) C.is

module _ {C : Context} {m K half n : ℕ} {at room : ℕ} {gates pl w words : List ℕ} (A : StageAt C m K half n at room gates pl w words) where
  -- at a stage's start the walks may be made
  pub stage_prepare_lem : PrepareAt C m n K gates w
  stage_prepare_lem = record { begun = A.begun; height = A.height; fresh = A.fresh }

  module _ {k top levels : ℕ} {w₁ : List ℕ} (P : Prepared C m n gates w w₁ k top levels) where
    tail_prepared : (j : ℕ) → get_or w₁ (16 * m + j) 0 ≡ get_or w (16 * m + j) 0
    tail_prepared j = P.frame.past refl (16 * m + j) (omega arith)

    -- behind the walks the loop of rules 2 to 7 may run
    pub stage_fill : FillAt C m n k top K gates pl w₁
    stage_fill = record {
      set = P.set;
      clear = clear_frame A.marks P.frame refl (omega arith);
      first = A.blank;
      cells = clear_frame A.cells P.frame refl (omega arith);
      ones = tail_prepared 256 ∙ A.tail 256 (omega arith);
      pins = tail_prepared 257 ∙ A.tail 257 (omega arith);
      total = tail_prepared 258 ∙ A.tail 258 (omega arith);
      most = P.most;
      height = A.height;
    }

    module _ {q : ℕ} {pl₁ w₂ : List ℕ} (F : FilledTree C m gates pl w₁ q pl₁ w₂) where
      -- behind the loop rules 8 to 11 may run
      pub stage_finish : FinishAt C m K half k n q at room gates pl₁ w₂ words
      stage_finish = record {
        stands = F.stands;
        set = set_kept F.kept P.set;
        needed = F.needed;
        ruled = A.ruled;
        marks = clear_frame (clear_frame A.marks P.frame refl (omega arith)) F.kept.frame refl (omega arith);
        spare = clear_frame (clear_frame A.fresh.spare P.frame refl (omega arith)) F.kept.frame refl (omega arith);
        tail = λ j h. F.kept.low j h ∙ tail_prepared j ∙ A.tail j (omega arith);
        height = A.height;
        row = A.row;
        fits = A.fits;
        small = A.small;
      }

      module _ {e : Result Outcome Stopped} {pl₂ w₃ words₁ : List ℕ} (E : Finished C m at room pl₁ pl₁ w₂ words e pl₂ w₃ words₁) where
        -- behind these the lists may be forgotten
        pub stage_forget : ForgetAt m levels w₃
        stage_forget = forget_frame (forget_frame (forget_at P) F.kept.frame refl refl) E.changed.frame refl refl

        module _ {w₄ : List ℕ} (G : Forgot m w₃ w₄) where
          is_built : finish C.X room pl₁ ≡ built C room
          is_built = rw F.is (built_is C room)

          changes : Changed columns 316 m at room pl w words pl₂ w₄ words₁
          changes = record {
            frame = frame_then (frame_more refl P.frame) (frame_then (frame_more refl F.kept.frame) (frame_then (frame_more refl E.changed.frame) (frame_more refl G.frame)));
            past = λ j h. G.frame.past refl (16 * m + j) (omega arith) ∙ E.changed.past j (omega arith) ∙ F.kept.past j h ∙ tail_prepared j;
            size = E.changed.size ∙ F.size;
            len = E.changed.len;
            before = E.changed.before;
            behind = E.changed.behind;
          }

          stands : (o : Outcome) → Whole C m at room (finish C.X room pl₁) words o pl₂ w₃ words₁ → Whole C m at room (built C room) words o pl₂ w₄ words₁
          stands o W =
              record {
                ws = W.ws;
                left = W.left;
                is = sym is_built ∙ W.is;
                count = W.count;
                total = W.total;
                fit = W.fit;
                wrote = W.wrote;
                done = marks_frame W.done G.frame refl (omega arith);
                waiting = placed_frame W.waiting G.frame refl refl (omega arith) (omega arith);
                cells = clear_frame W.cells G.frame refl (omega arith);
                marks = clear_frame W.marks G.frame refl (omega arith);
                spare = clear_frame W.spare G.frame refl (omega arith);
                tail = λ j h. G.frame.past refl (16 * m + j) (omega arith) ∙ W.tail j h;
              }

          fresh_now : (o : Outcome) → Whole C m at room (finish C.X room pl₁) words o pl₂ w₃ words₁ → Gone m C.X.order w₂ w₃ → Fresh m w₄
          fresh_now o W G₀ = record {
            listed = clear_frame (zeroed_clear (within_frame F.kept.frame refl (omega arith) (record { zero = listed_outside P })) G₀.listed) G.frame refl (omega arith);
            levels = clear_frame (zeroed_clear (within_frame F.kept.frame refl (omega arith) (record { zero = level_outside P })) G₀.levels) G.frame refl (omega arith);
            reverse = clear_frame (zeroed_clear (within_frame F.kept.frame refl (omega arith) (record { zero = reverse_outside P })) G₀.reverse) G.frame refl (omega arith);
            starts = G.starts;
            ends = G.ends;
            spare = clear_frame W.spare G.frame refl (omega arith);
          }

          fresh_then : (r : Result Outcome Stopped) → IfOk r (λ o. Whole C m at room (finish C.X room pl₁) words o pl₂ w₃ words₁) → IfOk r (λ o. Gone m C.X.order w₂ w₃) → IfOk r (λ o. Fresh m w₄)
          fresh_then (Ok o) W G₀ = fresh_now o W G₀
          fresh_then (Err z) W G₀ = tt

          -- together they are one stage, and the next one finds what this one found
          pub staged : Staged C m at room pl w words e pl₂ w₄ words₁
          staged = record {
            changed = changes;
            told = notes_same m w₂ w₄ (λ j a b. G.frame.past refl (16 * m + j) (omega arith) ∙ E.changed.past j (omega arith)) ∙ F.told ∙
                ap (stage_notes C.X) (notes_same m w w₁ (λ j a b. tail_prepared j));
            refuses = IfErr-weaker e _ _ (λ s d. let R = rw F.is at d in record { is = sym (built_is C room) ∙ R.is; tells = R.tells }) E.refuses;
            whole = IfOk-weaker e _ _ stands E.whole;
            fresh = fresh_then e E.whole E.gone;
          }
