-- Rules 8 and 9 with the tests, then the rest. Assumes nothing.
use Rattle.std.specs.Prelude.{Result, Ok, Err}
use mathlib.Core.Path.{◌≡◌, refl, sym, ap, ◌∙◌}
use mathlib.Core.Logic.{inl, inr}
use mathlib.Core.Bool.{Bool, true, false}
use mathlib.Core.List.{List, []}
use Prim.Native.Nat.{ℕ, ◌+◌, ◌-◌, ◌*◌, ◌<◌, ◌≤◌}
use native.Mathlib.Omega.{arith}
use lib.Dec.{ltb}
use lib.Pow.{pow_mono}
use lib.ListN.{length, get_or, take, length-take}
use lib.Seq.{take_all}
use Rattle.stage_walk.proofs.Contexts.{work, low_mark}
use Rattle.rules.specs.Cells.{is_height, level_one_size, filled, row, row_at}
use Rattle.rules.specs.Placing.{needed_of}
use Rattle.rules.specs.Ending.{put_rest, written, rest}
use Rattle.rules.specs.Capacity.{crowd, ones_then, needs_left}
use Rattle.rules.specs.Lists.{In, laid_at}
use Rattle.rules.proofs.Needed.Needs.{need_listed}
use Rattle.rules.proofs.Needed.Lacks.{same_needed, wanted_low, true_ltb, false_ltb}
use Rattle.rules.proofs.Stage.Branches.{finish_seven, finish_full, finish_none}
use Rattle.rules.proofs.Stage.Staged.{half_height, two_step}
use Rattle.rules.proofs.Stage.Crowd.{left_crowd}
use Rattle.rules.proofs.Stage.Fuel.{count-length}
use Rattle.columns.specs.Fields.{NEEDED, ONES}
use Rattle.columns.specs.Lists.{list}
use Rattle.columns.proofs.Area.Frames.{frame_none, frame_then, frame_more, frame_room}
use Rattle.columns.proofs.Lists.Entries.{holds_self, holds_frame}
use Rattle.columns.proofs.Lists.Marks.{marks_frame, marked_frame}
use Rattle.columns.proofs.Lists.Places.{placed_frame}
use Rattle.stage_walk.specs.Stands.{Context}
use Rattle.stage_runs.specs.declared.Spent.{Spent}
use Rattle.stage_runs.specs.Laid.{noted}
use Rattle.stage_runs.specs.Ran.{EndAt, Ran}
use Rattle.cells.specs.Answers.{or_zero}
use Rattle.stage_runs.proofs.Laws.Half.{half_is}
use Rattle.stage_runs.proofs.Laws.Laid.{laid_length, laid_below, laid_past, laid_over_lem}
use Rattle.stage_ending.specs.Rest.{RestAt, Filled}
use Rattle.stage_ending.proofs.Laws.Close.{gone_frame}
use Rattle.stage.specs.declared.finish.Outcome.{Outcome}
use Rattle.stage.specs.declared.finish.Stopped.{Stopped}
use Rattle.stage.specs.declared.finish.Stopped.TheVariants.{OverWords, NoCell}
use Rattle.stage.specs.Finish.{FinishAt, Changed, touched, Finished, Midway, RestingAt, LastingAt, Ends}
use Rattle.rules.specs.Traversal.{level_at}

-- two changes that a stage may make are one
pub changed_then : {fs : List ℕ} {to m at room : ℕ} {pl w words pl1 w1 words1 pl2 w2 words2 : List ℕ} → Changed fs to m at room pl w words pl1 w1 words1 →
    Changed fs to m at room pl1 w1 words1 pl2 w2 words2 → Changed fs to m at room pl w words pl2 w2 words2
changed_then a b = record {
  frame = frame_then a.frame b.frame;
  past = λ j h. b.past j h ∙ a.past j h;
  size = b.size ∙ a.size;
  len = b.len ∙ a.len;
  before = λ i h. b.before i h ∙ a.before i h;
  behind = λ i h. b.behind i h ∙ a.behind i h;
}

-- ---- rule 9 and test 8

module _ {C : Context} {pl : List ℕ} {m K half o n q many at room : ℕ} {s : Spent} {gates pl1 w words : List ℕ} (A : RestingAt C pl m K half o n q many at room s gates pl1 w words) where
  abbrev M : Midway C pl m K half o n at room s pl1 w words
  M = A.mid

  -- after rule 8 the remaining needed pins may be placed
  pub rest_at : {r : ℕ} → r ≡ or_zero (is_height K) (level_one_size K) → RestAt C m r q gates pl1 w
  rest_at e = record {
    stands = A.stands;
    row = half_is (omega (arith, M.height, C.low)) (omega (arith, M.height, C.high)) e ∙ rw M.height refl;
    needed = holds_self A.list;
    pins = rw A.list.is A.pins;
  }

  -- where rule 9 starts
  ones_then_lem : {ones : ℕ} → ones ≡ get_or w (16 * m + ONES) 0 → ones ≡ ones_then C.X pl
  unfolding ones_then
  ones_then_lem d = d ∙ A.stands.tally.ones ∙ rw A.is_plan refl

  left_then : ones_then C.X pl + needs_left C.X pl ≡ crowd C.X pl
  left_then = left_crowd C.X C.r (length C.X.g) C.S (half_height C.X.K (omega (arith, C.low))) (low_mark C) C.R.once pl A.long

  -- the level-1 cells filled are some of the crowd
  pub ones_within : {ones : ℕ} → ones ≡ get_or w (16 * m + ONES) 0 → ones ≤ many
  ones_within d = omega (arith, ones_then_lem d, left_then, A.crowded)

  module _ {b : Bool} {pl2 w1 : List ℕ} (F : Filled C m q gates pl1 w b pl2 w1) where
    rest_is : put_rest C.X (list NEEDED m q w) (written C.X pl).real pl1 ≡ rest C.X pl
    unfolding rest
    rest_is = rw (A.list.is, A.is_plan) refl

    filling : Changed touched 259 m at room pl1 w words pl2 w1 words
    filling = record {
      frame = frame_more refl F.kept.frame;
      past = λ j h. F.kept.rest (16 * m + j) (omega arith) (λ e. omega arith) (λ e. omega arith) (λ e. omega arith);
      size = F.size;
      len = refl;
      before = λ i h. refl;
      behind = λ i h. refl;
    }

    fits : ltb room (length (written C.X pl).words) ≡ false
    fits = false_ltb room (length (written C.X pl).words) (omega (arith, M.fit, M.count))

    -- where test 8 fails the stage is refused with 8
    pub ends_eight : {ones : ℕ} → ones ≡ get_or w (16 * m + ONES) 0 → b ≡ false → Ends C pl m at room s pl1 w words (Err (NoCell ones (many - ones))) pl2 w1 words
    ends_eight d e = record {
      finished = record {
        changed = filling;
        refuses = record {
          is = elim (F.no e (written C.X pl).real M.realised.marks) [
            | inl d ↦ finish_full C.X room pl fits (sym rest_is ∙ d)
            | inr d ↦ finish_none C.X room pl fits pl2 (sym rest_is ∙ d.0) d.1
          ];
          tells = (ones_then_lem d, omega (arith, ones_then_lem d, left_then, A.crowded), omega (arith, A.few, ones_within d));
        };
        whole = tt;
        gone = tt;
      };
      longer = tt;
    }

    -- where it passes rule 10 may follow
    pub lasting_at : b ≡ true → LastingAt C pl m K half o n at room s pl2 w1 words
    lasting_at e =
        let fr = F.kept.frame in
        record {
          mid = record {
            area = frame_room fr M.area;
            graph = M.graph;
            tally = F.stands.tally;
            fair = F.stands.fair;
            done = marks_frame M.done fr refl (omega arith);
            waiting = placed_frame M.waiting fr refl refl (omega arith) (omega arith);
            order = holds_frame M.order fr refl (omega arith);
            is_last = M.is_last;
            needed = marks_frame M.needed fr refl (omega arith);
            realised = marked_frame M.realised fr refl refl (omega arith) (omega arith);
            waits = M.waits;
            count = M.count;
            fit = M.fit;
            wrote = M.wrote;
            tail = λ j h. F.kept.rest (16 * m + j) (omega arith) (λ d. omega arith) (λ d. omega arith) (λ d. omega arith) ∙ M.tail j h;
            height = M.height;
            row = M.row;
            fits = M.fits;
            small = M.small;
          };
          rested = sym rest_is ∙ (F.yes e).0 (written C.X pl).real M.realised.marks;
          free = (F.yes e).1;
        }

    -- what follows rule 9 ends what began before it
    pub ends_rest : {e : Result Outcome Stopped} {pl3 w2 words1 : List ℕ} → Ends C pl m at room s pl2 w1 words e pl3 w2 words1 → Ends C pl m at room s pl1 w words e pl3 w2 words1
    ends_rest {e = Ok o} E = record {
      finished = record {
        changed = changed_then filling E.finished.changed;
        refuses = tt;
        whole = E.finished.whole;
        gone = gone_frame F.kept.frame E.finished.gone (frame_none {fs = []}) refl refl refl refl refl refl;
      };
      longer = E.longer;
    }
    ends_rest {e = Err z} E = record {
      finished = record { changed = changed_then filling E.finished.changed; refuses = E.finished.refuses; whole = tt; gone = tt };
      longer = tt;
    }

-- ---- rule 8 and test 7

module _ {C : Context} {m K half o n q : ℕ} {at room : ℕ} {gates pl w words : List ℕ} (A : FinishAt C m K half o n q at room gates pl w words) where
  -- the same, where the room has another name
  pub room_as : {r : ℕ} → r ≡ room → FinishAt C m K half o n q at r gates pl w words
  room_as e = rw e A

  -- after the loop rule 8 may follow
  pub end_at : EndAt C m K half n at room gates pl w words
  end_at = record { stands = A.stands; begun = A.set.begun; height = A.height; row = A.row; ruled = A.ruled; marks = A.marks.zero; spare = A.spare.zero; fits = A.fits }

  -- level 1 has at most 4,096 cells
  row_few : length (row C.X.K 1 pl) ≤ 4096
  unfolding row row_at
  row_few = simp length-take (omega (arith, pow_mono {i = C.X.K - 1} {j = 12} (omega (arith, C.high))))

  low_needed : (x : ℕ) → In x (needed_of C.X pl) → In x C.X.seen × (level_at C.X x ≤ 1)
  low_needed x i = (need_listed C.X C.r (length C.X.g) C.S pl x i, wanted_low C.X pl x (rw (same_needed (work C) A.stands.fair) at i))

  module _ {s : Spent} {pl1 w1 words1 : List ℕ} (R : Ran C m at room gates pl w words s pl1 w1 words1) where
    abbrev early : List ℕ
    early = (written C.X pl).words

    abbrev some : List ℕ
    some = take room early

    few : at + length some ≤ length words
    few = omega (arith, A.fits, length-take room early)

    wrote_is : words1 ≡ laid_at at some words
    unfolding noted
    wrote_is = R.wrote

    running : Changed touched 259 m at room pl w words pl1 w1 words1
    running = record {
      frame = frame_more refl R.touched.frame;
      past = λ j h. R.touched.rest (16 * m + j) (omega arith) (λ e. omega arith) (λ e. omega arith) (λ e. omega arith);
      size = R.size;
      len = rw wrote_is (laid_length at words some few);
      before = λ i h. rw wrote_is (laid_below at words some few i h);
      behind = λ i h. rw wrote_is (laid_past at words some few i (omega (arith, length-take room early)));
    }

    -- more words than may be written: the stage is refused with 7
    pub finished_seven : room < s.words → Finished C m at room pl pl w words (Err (OverWords s.words)) pl1 w1 words1
    finished_seven h = record {
      changed = running;
      refuses = record { is = finish_seven C.X room pl (true_ltb room (length early) (omega (arith, R.count))); tells = (R.count, R.few) };
      whole = tt;
      gone = tt;
    }

    module _ (h : s.words ≤ room) where
      all_are : words1 ≡ laid_at at early words
      all_are = wrote_is ∙ rw (take_all room early (omega (arith, R.count))) refl

      stay : words1 ≡ laid_at at early words1
      stay = all_are ∙ sym (ap (laid_at at early) all_are ∙ laid_over_lem at words early early (omega (arith, A.fits, R.count)) (omega arith))

      -- no more: rule 9 may follow
      pub resting_at : {ones : ℕ} → ones ≡ get_or w (16 * m + ONES) 0 → RestingAt C pl m K half o n q (ones + q) at room s gates pl1 w1 words1
      unfolding crowd
      resting_at d =
          let fr = R.touched.frame in
          record {
            mid = record {
              area = frame_room fr A.stands.base.area;
              graph = A.stands.base.size;
              tally = R.stands.tally;
              fair = R.stands.fair;
              done = marks_frame A.set.begun.done fr refl (omega arith);
              waiting = placed_frame A.set.begun.waiting fr refl refl (omega arith) (omega arith);
              order = holds_frame A.set.ordered.order fr refl (omega arith);
              is_last = R.is_last;
              needed = R.needed;
              realised = R.realised;
              waits = R.waits;
              count = R.count;
              fit = h;
              wrote = stay;
              tail = λ j b. R.touched.rest (16 * m + j) (omega arith) (λ e. omega arith) (λ e. omega arith) (λ e. omega arith) ∙ A.tail j b;
              height = A.height;
              row = A.row;
              fits = rw running.len A.fits;
              small = rw running.len A.small;
            };
            stands = R.stands;
            is_plan = R.is_plan;
            list = holds_frame A.needed fr refl (omega arith);
            pins = low_needed;
            crowded = rw (d, A.stands.tally.ones, ← A.needed.count) refl;
            long = rw A.stands.fair.len (omega (arith, two_step C.X.K));
            few = omega (arith, d, A.stands.tally.ones, count-length filled (row C.X.K 1 pl), row_few, A.needed.few, A.stands.base.area.small);
          }

      -- what follows rule 8 ends the stage
      pub finished : {e : Result Outcome Stopped} {pl2 w2 words2 : List ℕ} → Ends C pl m at room s pl1 w1 words1 e pl2 w2 words2 → Finished C m at room pl pl w words e pl2 w2 words2
      finished {e = Ok o} E = record {
        changed = changed_then running E.finished.changed;
        refuses = tt;
        whole = let W = E.finished.whole in
            record {
              ws = W.ws;
              left = W.left;
              is = W.is;
              count = W.count;
              total = W.total;
              fit = W.fit;
              wrote = W.wrote ∙ rw all_are (laid_over_lem at words W.ws early (omega (arith, W.fit, A.fits)) (omega (arith, E.longer, W.count, R.count)));
              done = W.done;
              waiting = W.waiting;
              cells = W.cells;
              marks = W.marks;
              spare = W.spare;
              tail = W.tail;
            };
        gone = gone_frame R.touched.frame E.finished.gone (frame_none {fs = []}) refl refl refl refl refl refl;
      }
      finished {e = Err z} E = record { changed = changed_then running E.finished.changed; refuses = E.finished.refuses; whole = tt; gone = tt }

-- the stage is the same where the room has another name
pub finished_as : {C : Context} {m at room r : ℕ} {pl w words : List ℕ} {e : Result Outcome Stopped} {pl' w' words' : List ℕ} → r ≡ room →
    Finished C m at r pl pl w words e pl' w' words' → Finished C m at room pl pl w words e pl' w' words'
finished_as e F = rw (sym e) F

-- what fits the room fits it by its other name
pub fits_as : {n room r : ℕ} → r ≡ room → n ≤ room → n ≤ r
fits_as e h = omega (arith, e, h)
