-- Rules 2 to 7 on an empty stage: where the loop starts, and what it comes to. Assumes nothing.
use Prim.Native.Nat.{ℕ, zero, suc, ◌+◌, ◌-◌, ◌*◌, ◌≤◌, ◌<◌, min}
use mathlib.Core.Path.{◌≡◌, refl, sym, ◌∙◌}
use mathlib.Core.List.{List, [], map}
use native.Mathlib.Omega.{arith}
use lib.ListN.{length}
use borrow.Author.Tests.{le-leb}
use Rattle.rules.specs.Lists.{mem}
use Rattle.rules.specs.Cells.{is_height, level_one_size, row_at}
use Rattle.rules.specs.Traversal.{Setting, level_at, greatest}
use Rattle.rules.specs.Placing.{needed_of}
use Rattle.rules.specs.Inside.Lean.{blank, wanted, lean, lean_plan}
use Rattle.rules.proofs.Walk.Levels.{greatest_most}
use Rattle.rules.proofs.Needed.Lacks.{same_needed}
use Rattle.rules.specs.Inside.Plans.{Fair}
use Rattle.rules.proofs.Lean.Lean.{lean_plan_lem, lean_tidy}
use Rattle.cells.specs.Answers.{or_zero, has_level}
use Rattle.cells.proofs.Heights.{or_zero_true, not_above, level_tested, tall_answer}
use Rattle.columns.specs.Fields.{STACK}
use Rattle.columns.specs.Lists.{Marks, Clear}
use Rattle.columns.proofs.Area.Frames.{frame_more}
use Rattle.columns.proofs.Lists.Marks.{marks_frame}
use Rattle.stage_walk.specs.Stands.{Context, Set, Tally}
use Rattle.stage_needed.specs.declared.Counts.{Counts}
use Rattle.stage_needed.specs.Needed.{Noted, CountAt, NeededAt, Needed}
use Rattle.stage_needed.proofs.Laws.Collecting.{asking_frame, step_needed}
use Rattle.stage_walk.proofs.Contexts.{level_below, work}
use Rattle.stage_tree.specs.Bits.{Standing}
use Rattle.stage_tree.proofs.Bits.Standing.{first_stands}
use Rattle.stage_notes.specs.Notes.{notes, lean_notes, stage_notes}
use Rattle.stage_notes.proofs.Noting.{notes_same}
use Rattle.stage_notes.proofs.Turns.{notes_low}
use Rattle.stage_loop.specs.Loop.{Changed, LeanAt, Leaned}
use Rattle.stage_loop.specs.Filling.{RowAt, GrowAt, Grown, FillAt, FilledTree}
use Rattle.stage_tree.proofs.Counts.Kept.{tally_frame}
use Rattle.stage_loop.proofs.Laws.Tries.{moved_none, moved_changed, changed_then, set_kept}

-- a row's start, from what a height answers
pub row_there : {K h r : ℕ} → RowAt K h → r ≡ or_zero (has_level K h) (row_at K h) → r ≡ row_at K h
row_there {K} {h} {r} A e =
    let t = not_above K A.least ∙ le-leb K 13 A.most in
    e ∙ rw (level_tested K h t, le-leb h K A.level) (or_zero_true (row_at K h))

-- a clear column marks no pin
pub clear_marks : {g m : ℕ} {w : List ℕ} → Clear g m w → Marks g m [] w
unfolding mem
clear_marks c = record { mark = λ p b. c.zero p b }

lean_low : (X : Setting) (h b : ℕ) (pl : List ℕ) → h < 2 → lean X h b pl ≡ pl
unfolding lean
lean_low X zero b pl l = refl
lean_low X (suc zero) b pl l = refl
lean_low X (suc (suc h)) b pl l = absurd (omega arith)

-- ---- from the level to start at

module _ {C : Context} {m n k h K : ℕ} {gates pl w : List ℕ} (A : GrowAt C m n k h K gates pl w) where
  abbrev b₀ : ℕ
  b₀ = length (wanted C.X (blank C.X))

  plan_is : lean_plan C.X ≡ lean C.X h b₀ pl
  unfolding lean_plan
  plan_is = rw (A.level, A.first)

  notes_are : lean_notes C.X h b₀ pl (notes m w) ≡ stage_notes C.X (notes m w)
  unfolding stage_notes
  notes_are = rw (A.level, A.first)

  -- the level to start at is one of the height
  pub row_at_lem : RowAt K h
  row_at_lem = record { least = omega (arith, A.height, C.low); most = omega (arith, A.height, C.high); level = omega (arith, A.level, A.height) }

  deep : h < m
  deep = omega (
    arith,
    A.low,
    A.level,
    A.set.begun.base.size,
    greatest_most (level_at C.X) (m - 1) 0 C.X.order (omega arith) (λ x i. omega (arith, level_below C x (C.S.listed x i), A.set.begun.base.size)),
  )

  -- the needed pins of the empty plan may be counted, and pins noted
  pub grow_note : NeededAt C pl m n k gates w
  grow_note = step_needed A.set pl A.tally.cells A.clear

  module _ {w1 : List ℕ} {c : Counts} {wd half : ℕ} (N : Noted C pl m w w1 c) (row : wd ≡ row_at K h) (one : half ≡ or_zero (is_height K) (level_one_size K)) where
    noting : Changed m w w1
    noting = record { frame = frame_more refl N.frame; low = λ j h. N.frame.past refl (16 * m + j) (omega arith); past = λ j h. N.frame.past refl (16 * m + j) (omega arith) }

    -- the notes are those before
    noted_before : notes m w1 ≡ notes m w
    noted_before = notes_same m w w1 (λ j a b. N.frame.past refl (16 * m + j) (omega arith))

    up : suc (h - 1) ≡ h
    up = omega (arith, A.low)

    -- the loop may start
    pub grow_lean : LeanAt C m n c.noted (h - 1) wd half gates pl w1 c.needed
    grow_lean =
        let S = set_kept noting A.set in
        record {
          plan = record {
            set = record { begun = S.begun; levelled = S.levelled; listed = S.listed; asking = N.asking };
            clear = marks_frame A.clear N.frame refl (omega arith);
            tally = tally_frame N.frame refl refl A.tally;
            fair = rw up A.fair;
          };
          wide = record { low = omega arith; high = omega (arith, up, A.level); row = rw (up, ← A.height) row };
          cap = rw A.height at (tall_answer K row_at_lem.least row_at_lem.most one);
          enough = omega (arith, N.list.count);
          few = N.list.few;
          deep = omega (arith, up, deep);
        }

    -- what the loop comes to is the plan of rules 2 to 7
    pub grown : {pl2 w2 : List ℕ} → Leaned C m (h - 1) pl w1 c.needed pl2 w2 → Grown C m w c.noted pl2 w2
    grown L = record {
      is = L.same ∙ rw (up, ← N.list.count) (let z : length (wanted C.X pl) ≡ b₀ = rw A.first refl in rw z (sym plan_is));
      told = L.told ∙ rw (up, ← N.list.count, noted_before) (let z : length (wanted C.X pl) ≡ b₀ = rw A.first refl in rw z notes_are);
      kept = changed_then noting (moved_changed L.kept);
      tally = L.tally;
      asking = asking_frame N.asking L.kept.frame refl;
    }

-- ---- the plan of the tree

module _ {C : Context} {m n k top K : ℕ} {gates pl w : List ℕ} (A : FillAt C m n k top K gates pl w) where
  stands : (h : ℕ) → Standing C m h gates pl w
  stands h = rw A.first (first_stands C m h gates w A.set.begun.base A.set.levelled A.cells.zero A.ones A.pins A.total)

  level_is : {h : ℕ} → h ≡ min top K → h ≡ min (greatest (map (level_at C.X) C.X.order) 0) C.X.K
  level_is e = e ∙ rw (A.most, A.height) refl

  -- the loop starts at the greatest level, or at the top of the tree if that is lower
  pub fill_grow : {h : ℕ} → h ≡ min top K → 2 ≤ h → GrowAt C m n k h K gates pl w
  fill_grow {h} e l = record {
    set = A.set;
    clear = clear_marks A.clear;
    tally = (stands h).tally;
    fair = (stands h).fair;
    first = A.first;
    level = level_is e;
    low = l;
    height = A.height;
  }

  -- where it doesn't start, the needed pins may be listed at once
  pub fill_none : NeededAt C pl m n k gates w
  fill_none = step_needed A.set pl (stands 1).tally.cells (clear_marks A.clear)

  module _ {pl1 w1 : List ℕ} (plan : pl1 ≡ lean_plan C.X) (tells : notes m w1 ≡ stage_notes C.X (notes m w)) (change : Changed m w w1) (tally : Tally C m pl1 w1) where
    listed : {w2 : List ℕ} {q : ℕ} → Needed C pl1 m w1 w2 q → FilledTree C m gates pl w q pl1 w2
    listed {w2} {q} N = record {
      is = plan ∙ lean_plan_lem (work C);
      told = notes_same m w1 w2 (λ j a b. N.frame.past refl (16 * m + j) (omega arith)) ∙ tells;
      size = fair.len ∙ sym (stands 1).fair.len;
      kept = kept;
      stands = record { base = last.begun.base; levelled = last.levelled; tally = tally_frame N.frame refl refl tally; fair = fair };
      needed = rw (← needs) at N.list;
    }
      where
        fair : Fair C.X 1 pl1
        fair = rw plan (lean_tidy (work C))

        needs : needed_of C.X pl1 ≡ wanted C.X pl1
        needs = same_needed (work C) fair

        kept : Changed m w w2
        kept = changed_then change (record { frame = frame_more refl N.frame; low = λ j h. N.frame.past refl (16 * m + j) (omega arith); past = λ j h. N.frame.past refl (16 * m + j) (omega arith) })

        last : Set C m n k gates w2
        last = set_kept kept A.set

  -- below level 2 nothing is placed
  pub filled_none : {h q : ℕ} {w2 : List ℕ} → h ≡ min top K → h < 2 → Needed C pl m w w2 q → FilledTree C m gates pl w q pl w2
  unfolding lean_plan stage_notes
  filled_none {h} e l = listed (rw (← level_is e, ← A.first) (sym (lean_low C.X h (length (wanted C.X pl)) pl l))) (rw (
    ← level_is e,
    ← A.first,
  ) (sym (notes_low C.X h (length (wanted C.X pl)) pl (notes m w) l))) (moved_changed (moved_none m w)) (stands 1).tally

  module _ {s : ℕ} {pl1 w1 : List ℕ} (G : Grown C m w s pl1 w1) where
    -- the needed pins of the plan may be listed by the noted pins
    pub fill_count : CountAt C pl1 m n STACK s gates w1
    fill_count =
        let S = set_kept G.kept A.set in
        record { begun = S.begun; asking = G.asking; levelled = S.levelled; cells = G.tally.cells; unmarked = marks_frame (clear_marks A.clear) G.kept.frame refl (omega arith) }

    -- the plan of rules 2 to 7, with its counts and its needed pins
    pub filled_tree : {w2 : List ℕ} {q : ℕ} → Needed C pl1 m w1 w2 q → FilledTree C m gates pl w q pl1 w2
    filled_tree = listed G.is G.told G.kept G.tally
