-- From one walk to the next: what each leaves is what the next asks, and together they make a stage's setting. Assumes nothing.
use mathlib.Core.Path.{◌≡◌, refl, ◌∙◌}
use mathlib.Core.List.{List, ◌∷◌}
use Prim.Native.Nat.{ℕ}
use native.Mathlib.Omega.{arith}
use Rattle.rules.specs.Inside.Lean.{start_levels}
use Rattle.columns.specs.Area.{Frame}
use Rattle.columns.specs.Fields.{LEVEL, REVERSE}
use Rattle.columns.proofs.Area.Frames.{frame_then, frame_more, frame_col}
use Rattle.columns.proofs.Lists.Entries.{holds_frame}
use Rattle.columns.proofs.Lists.Marks.{marks_frame}
use Rattle.columns.proofs.Lists.Clears.{clear_frame}
use Rattle.stage_walk.specs.Stands.{Context, Begun}
use Rattle.stage_walk.specs.Machine.{walked, TraverseAt, Traversed}
use Rattle.stage_levels.specs.Levels.{Along, Becomes, LevelsAt, Levels, ReverseAt}
use Rattle.stage_prepare.specs.Ranking.{ListsAt, Lists}
use Rattle.stage_prepare.specs.Prepared.{PrepareAt, Prepared}
use Rattle.stage_walk.proofs.traversal.Loops.{begun_reads, begun_frame}
use Rattle.stage_levels.proofs.Laws.Rising.{along_frame}

-- at the start the traversal may be made
pub step_traverse : {C : Context} {m n K : ℕ} {gates w : List ℕ} → PrepareAt C m n K gates w → TraverseAt C m n gates w
step_traverse A = record { begun = A.begun; clear = A.fresh.listed }

module _ {C : Context} {m n k K : ℕ} {gates w w₁ : List ℕ} (A : PrepareAt C m n K gates w) (T : Traversed C m w w₁ k) where
  begun₁ : Begun C m n gates w₁
  begun₁ = begun_frame A.begun T.frame refl refl refl

  -- behind the traversal the levels
  pub step_levels : LevelsAt C m k gates w₁
  step_levels = record { along = record { reads = begun_reads begun₁; ordered = record { order = T.order } }; clear = clear_frame A.fresh.levels T.frame refl (omega arith) }

  module _ {top : ℕ} {w₂ : List ℕ} (L : Levels C m w₁ w₂ top) where
    frame₂ : Frame (LEVEL ∷ walked) m w w₂
    frame₂ = frame_then (frame_more refl T.frame) (frame_more refl L.column.frame)

    along₂ : Along C m k gates w₂
    along₂ = along_frame step_levels.along L.column.frame refl refl

    -- behind the levels the reverse levels
    pub step_reverse : ReverseAt C m n k gates w₂
    step_reverse = record { begun = begun_frame A.begun frame₂ refl refl refl; ordered = along₂.ordered; clear = clear_frame A.fresh.reverse frame₂ refl (omega arith) }

    module _ {w₃ : List ℕ} (R : Becomes REVERSE m w₂ w₃ (start_levels C.X)) where
      frame₃ : Frame (REVERSE ∷ LEVEL ∷ walked) m w w₃
      frame₃ = frame_then (frame_more refl frame₂) (frame_more refl R.frame)

      begun₃ : Begun C m n gates w₃
      begun₃ = begun_frame A.begun frame₃ refl refl refl

      -- behind the reverse levels the ranked lists
      pub step_lists : {most : ℕ} → most ≡ K → ListsAt C m k most w₃
      step_lists e = record {
        height = e ∙ A.height;
        area = begun₃.base.area;
        size = begun₃.base.size;
        ordered = (along_frame along₂ R.frame refl refl).ordered;
        levelled = record { levels = frame_col R.frame LEVEL refl (omega arith) ∙ L.column.is };
        reversed = record { reverse = R.is };
        starts = clear_frame A.fresh.starts frame₃ refl (omega arith);
        ends = clear_frame A.fresh.ends frame₃ refl (omega arith);
        spare = clear_frame A.fresh.spare frame₃ refl (omega arith);
      }

      module _ {w₄ : List ℕ} {levels : ℕ} (S : Lists C m w₃ w₄ levels) where
        -- together they are what a stage has before its first placing
        pub step_all : Prepared C m n gates w w₄ k top levels
        step_all = record {
          frame = frame_then (frame_more refl frame₃) (frame_more refl S.frame);
          set = record {
            begun = begun_frame begun₃ S.frame refl refl refl;
            ordered = record { order = holds_frame (step_lists refl).ordered.order S.frame refl (omega arith) };
            levelled = record { levels = frame_col S.frame LEVEL refl (omega arith) ∙ (step_lists refl).levelled.levels };
            listed = S.listed;
          };
          reversed = record { reverse = frame_col S.frame REVERSE refl (omega arith) ∙ R.is };
          marks = marks_frame (marks_frame (marks_frame T.marks L.column.frame refl (omega arith)) R.frame refl (omega arith)) S.frame refl (omega arith);
          most = L.most;
          few = S.few;
          beyond = S.beyond;
        }
