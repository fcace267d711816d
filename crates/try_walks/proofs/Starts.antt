-- A stage's beginning: cleared columns, given pins marked, waiting pins listed. Assumes nothing.
use mathlib.Core.Path.{◌≡◌, refl, sym, ◌∙◌}
use mathlib.Core.Bool.{false}
use mathlib.Core.List.{List, [], ◌∷◌}
use Prim.Native.Nat.{ℕ, ◌+◌, ◌*◌, ◌<◌, ◌≤◌}
use native.Mathlib.Omega.{arith}
use lib.ListN.{length, get_or, set, replicate}
use lib.Seq.{take-nil}
use Rattle.rules.specs.Lists.{insert, count, laid_over}
use Rattle.rules.specs.Graph.{graph_of}
use Rattle.rules.specs.Traversal.{needed_runs, setting}
use Rattle.rules.specs.Inside.Lean.{cells_holding}
use Rattle.rules.specs.Inside.Walks.{rank}
use Rattle.rules.proofs.Demand.{graph, graph_few}
use Rattle.columns.specs.Area.{Room, Frame, among}
use Rattle.columns.specs.Fields.{DONE, LEVEL, WAITING, CELLS, STARTS, ENDS, REVERSE, LISTED, PLACE, MARK, SPARE}
use Rattle.columns.specs.Lists.{WaitAt as WaitOne, list, Waits, Clear}
use Rattle.columns.proofs.Area.Columns.{inside}
use Rattle.columns.proofs.Area.Lent.{length_laid, at_laid}
use Rattle.columns.proofs.Area.Frames.{frame_none, frame_then, frame_more, frame_set, frame_room}
use Rattle.columns.proofs.Lists.Entries.{holds_below}
use Rattle.columns.proofs.Lists.Marks.{marks_none, marks_insert, marks_frame}
use Rattle.columns.proofs.Lists.Clears.{clear_frame}
use Rattle.columns.proofs.Lists.Places.{placed_none, wait_at}
use Rattle.rules.specs.Inside.Some.{Some}
use Rattle.stage_walk.specs.Stands.{Context}
use Rattle.stage_needed.specs.Needed.{NeededAt}
use Rattle.stage_prepare.specs.Prepared.{Prepared}
use Rattle.stage_walk.proofs.Contexts.{context}
use Rattle.stage_needed.proofs.Laws.Collecting.{step_needed}
use Rattle.try_walks.specs.Shown.{StartAt, GiveAt, Given, WaitAt, Waiting, Started}
use Rattle.try_walks.proofs.Rights.{pins_right, length_graph, Right, graph_right_lem}

-- ---- given pins

module _ {m : ℕ} {given w₀ : List ℕ} (A : GiveAt m given w₀) where
  -- before the first given pin the area is as it was
  pub given_none : Given m w₀ w₀
  given_none = record { frame = frame_none; done = []; marks = marks_none A.zeros }

  -- one more given pin is marked
  pub given_more : {w : List ℕ} → Given m w₀ w → (p : ℕ) (w' : List ℕ) → p < m → w' ≡ set w (DONE * m + p) 1 → Given m w₀ w'
  given_more {w} U p w' h e = rw e (record {
    frame = frame_then U.frame (frame_set DONE p 1 h (omega arith) refl);
    done = insert p U.done;
    marks = marks_insert U.marks p h (omega (arith, (frame_room U.frame A.area).room));
  })

-- ---- waiting pins

module _ {m : ℕ} {waiting w₀ : List ℕ} (A : WaitAt m waiting w₀) where
  -- before the first waiting pin none waits
  pub waiting_none : Waiting m w₀ w₀ 0
  waiting_none = record { frame = frame_none; pins = []; placed = placed_none A.zeros }

  module _ {w : List ℕ} {n : ℕ} (U : Waiting m w₀ w n) where
    -- the next waiting pin may be listed
    pub waiting_at : (p : ℕ) → p < m → WaitOne m n p w
    waiting_at p h = wait_at U.placed (frame_room U.frame A.area) h

    -- one more waiting pin is listed
    pub waiting_more : (p : ℕ) {w' : List ℕ} {r : ℕ} → Waits m n p w w' r → Waiting m w₀ w' r
    waiting_more p s = record { frame = frame_then U.frame s.frame; pins = insert p (list WAITING m n w); placed = s.now }

-- ---- the beginning

-- there are few enough pins, and the area has room
pub small_pins : {m : ℕ} {gates given waiting w : List ℕ} → StartAt m gates given waiting w → (m ≤ 65536) × (16 * m + 512 ≤ length w)
small_pins {gates = gates} A = rw A.pins ((graph_right_lem gates A.show.graph A.show.free).small, A.show.room)

module _ {m : ℕ} {gates given waiting w : List ℕ} (A : StartAt m gates given waiting w) (v : List ℕ) (ev : v ≡ laid_over (replicate (16 * m) 0) w) where
  right : Right m gates
  right = rw A.pins (graph_right_lem gates A.show.graph A.show.free)

  long : 16 * m + 512 ≤ length w
  long = rw A.pins A.show.room

  area : Room m v
  area = record { small = right.small; room = rw (ev, length_laid (16 * m) 0 w (omega (arith, long))) long }

  zero_at : (j : ℕ) → j < 16 * m → get_or v j 0 ≡ 0
  zero_at j h = rw ev (at_laid (16 * m) 0 w j h)

  -- in a cleared area the given pins may be marked
  pub give_at : GiveAt m given v
  give_at = record { area = area; pins = rw A.pins (pins_right _ given A.show.gives); zeros = λ p h. zero_at (DONE * m + p) (omega arith) }

  module _ (u : List ℕ) (G : Given m v u) where
    -- with the given pins marked the waiting pins may be listed
    pub list_at : WaitAt m waiting u
    list_at = record {
      area = frame_room G.frame area;
      pins = rw A.pins (pins_right _ waiting A.show.waits);
      zeros = λ p h. G.frame.cell PLACE refl (omega arith) p h ∙ zero_at (PLACE * m + p) (omega arith);
    }

    -- with both done a stage may start
    pub started : (w' : List ℕ) (n : ℕ) → Waiting m u w' n → Some (λ C. Started C m n gates w')
    unfolding context setting
    started w' n W = record {
      it = C;
      at = record {
        prepare = record {
          height = refl;
          begun = record {
            base = record { area = frame_room frame area; size = size; graph = refl; pair = right.pair };
            done = marks_frame G.marks W.frame refl (omega arith);
            waiting = W.placed;
          };
          fresh = record {
            listed = clear LISTED refl (omega arith);
            levels = clear LEVEL refl (omega arith);
            reverse = clear REVERSE refl (omega arith);
            starts = clear STARTS refl (omega arith);
            ends = clear ENDS refl (omega arith);
            spare = clear SPARE refl (omega arith);
          };
        };
        cells = (clear CELLS refl (omega arith)).zero;
        marks = (clear MARK refl (omega arith)).zero;
      };
    }
      where
        frame : Frame (DONE ∷ WAITING ∷ PLACE ∷ []) m v w'
        frame = frame_then (frame_more refl G.frame) (frame_more refl W.frame)

        clear : (f : ℕ) → among (DONE ∷ WAITING ∷ PLACE ∷ []) f ≡ false → f < 16 → Clear f m w'
        clear f e h = clear_frame (record { zero = λ p l. zero_at (f * m + p) (omega (arith, inside f m h)) }) frame e h

        size : length (graph_of gates) ≡ m
        size = length_graph m gates right.pair

        C : Context
        C = context needed_runs 6 (graph_of gates) (rank (graph_of gates)) (graph (graph_of gates) right.valid) (omega arith) (omega arith) (rw size right.small) G.done W.pins
            (record { once = W.placed.once; bounded = λ x e. let h : x < length (graph_of gates) = rw size (holds_below W.placed.held x e) in (h, graph_few (graph_of gates) right.valid x h) })

-- ---- nothing is placed

no_cells : (K x : ℕ) → cells_holding K [] x ≡ 0
unfolding cells_holding count
no_cells K x = rw take-nil

-- with nothing placed the needed pins may be listed
pub needed_at : {C : Context} {m n k top levels : ℕ} {gates w w' : List ℕ} → Started C m n gates w → Prepared C m n gates w w' k top levels → NeededAt C [] m n k gates w'
needed_at {C} S P = step_needed P.set []
    (λ x h. P.frame.cell CELLS refl (omega arith) x h ∙ S.cells x h ∙ sym (no_cells C.X.K x))
    (marks_none (λ p h. P.frame.cell MARK refl (omega arith) p h ∙ S.marks p h))
