-- Rule 11 after the others: the stage. Assumes nothing.
use Rattle.std.specs.Prelude.{Ok}
use mathlib.Core.Path.{◌≡◌, refl, ◌∙◌}
use mathlib.Core.Bool.{Bool, true, false, ◌&&◌}
use mathlib.Core.List.{List, [], ◌++◌}
use Prim.Native.Nat.{ℕ, ◌+◌, ◌*◌, ◌<◌, ◌≤◌}
use native.Mathlib.Omega.{arith}
use lib.ListN.{length, get_or}
use Rattle.rules.specs.Lists.{mem, swap_out_all, In}
use Rattle.rules.specs.Placing.{tree}
use Rattle.rules.specs.Ending.{close}
use Rattle.rules.proofs.Lists.Members.{split}
use Rattle.columns.specs.Fields.{ORDER, DONE, WAITING, CELLS, FILLED}
use Rattle.columns.specs.Lists.{list, bit}
use Rattle.columns.proofs.Area.Frames.{frame_none, frame_then, frame_more, frame_room}
use Rattle.columns.proofs.Lists.Entries.{holds_self, holds_frame}
use Rattle.columns.proofs.Lists.Marks.{marks_frame, marked_self}
use Rattle.columns.proofs.Lists.Places.{placed_frame, placed_self}
use Rattle.stage_walk.specs.Stands.{Context}
use Rattle.stage_runs.specs.declared.Spent.{Spent}
use Rattle.stage_runs.proofs.Laws.Laid.{laid_length, laid_below, laid_past}
use Rattle.stage_ending.specs.declared.last.Kept.{Kept}
use Rattle.stage_ending.specs.Close.{either, CloseAt, Closed}
use Rattle.stage_ending.proofs.Laws.Close.{mem-append, gone_frame}
use Rattle.stage_ending.proofs.Laws.Closed.{within_frame}
use Rattle.stage.specs.Finish.{Changed, touched, Midway, LastingAt, Lasting, Ends}
use Rattle.stage.proofs.Laws.Midway.{within_marks, tree_listed, waiting_order, counts, cells_within, need_waits}

module _ {C : Context} {pl : List ℕ} {m K half o n at room : ℕ} {s : Spent} {pl2 w words : List ℕ}
    (A : LastingAt C pl m K half o n at room s pl2 w words) {k : Kept} {w1 words1 : List ℕ} (L : Lasting C pl m at room s pl2 w words k w1 words1) where
  abbrev M : Midway C pl m K half o n at room s pl2 w words
  M = A.mid

  order_is : list ORDER m o w1 ≡ C.X.order
  order_is = (holds_frame M.order L.frame refl (omega arith)).is

  waiting_is : list WAITING m n w1 ≡ C.X.waiting
  waiting_is = (placed_frame M.waiting L.frame refl refl (omega arith) (omega arith)).held.is

  -- after rule 10 the stage may be closed
  pub close_at : CloseAt m o n k.real w1
  close_at = record {
    area = frame_room L.frame M.area;
    order = holds_self (holds_frame M.order L.frame refl (omega arith));
    waiting = placed_self (placed_frame M.waiting L.frame refl refl (omega arith) (omega arith));
    real = marked_self L.realised;
    waits = rw (L.realised.held.is, waiting_is) L.waits;
    cells = rw order_is (within_frame L.frame refl (omega arith) (cells_within M));
    marks = rw order_is (within_marks L.realised.marks (λ x i. waiting_order M x (L.waits x i)));
    spare = rw order_is (within_marks (marks_frame M.needed L.frame refl (omega arith)) (λ x i. waiting_order M x (need_waits M x i)));
  }

  module _ {w2 : List ℕ} {e : ℕ} (D : Closed m o n k.real w1 w2 e) where
    -- the pins of the tree are realised
    done_is : (p : ℕ) → p < m → get_or w2 (DONE * m + p) 0 ≡ bit (mem p (tree C.X.K pl2 ++ C.X.done))
    done_is p b =
        D.done p b
        ∙ rw (order_is, L.frame.cell CELLS refl (omega arith) p b, L.frame.cell DONE refl (omega arith) p b, counts M p b, M.done.mark p b, mem-append p (tree C.X.K pl2) C.X.done)
        (split (mem p (tree C.X.K pl2))
        (λ i. let j : In p C.X.order = C.S.ordered p (tree_listed C M.fair p i) in rw (i, j) refl)
        (λ t. rw t (none (mem p C.X.order) (bit (mem p C.X.done)))))
      where
        none : (b : Bool) (x : ℕ) → either (b && false) 1 x ≡ x
        none true x = refl
        none false x = refl

    laid : at + length L.ws ≤ length words
    laid = omega (arith, L.fit, M.fits)

    changed : Changed touched 259 m at room pl2 w words pl2 w2 words1
    changed = record {
      frame = frame_then (frame_more refl L.frame) (frame_more refl D.frame);
      past = λ j h. D.past j h ∙ L.past j (omega arith);
      size = refl;
      len = rw L.wrote (laid_length at words L.ws laid);
      before = λ i h. rw L.wrote (laid_below at words L.ws laid i h);
      behind = λ i h. rw L.wrote (laid_past at words L.ws laid i (omega (arith, L.fit)));
    }

    -- closed, it is the stage that the rules give
    pub ended : (t : ℕ) → t ≡ get_or w1 (16 * m + FILLED) 0 → Ends C pl m at room s pl2 w words (Ok (record { words = k.words; waiting = e; cells = t })) pl2 w2 words1
    unfolding close
    ended t r = record {
      finished = record {
        changed = changed;
        refuses = tt;
        whole = record {
          ws = L.ws;
          left = swap_out_all L.real C.X.waiting;
          is = L.is;
          count = L.count;
          total = r ∙ L.past FILLED (omega arith) ∙ M.tally.total;
          fit = L.fit;
          wrote = L.wrote;
          done = record { mark = done_is };
          waiting = rw (L.realised.held.is, waiting_is) at D.waiting;
          cells = D.cells;
          marks = D.marks;
          spare = D.spare;
          tail = D.tail;
        };
        gone = rw order_is at (gone_frame L.frame D.gone (frame_none {fs = []}) refl refl refl refl refl refl);
      };
      longer = L.longer;
    }
