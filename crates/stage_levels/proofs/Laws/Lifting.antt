-- Rule 3 back along the order: each pin hands its reverse level down by two stores to the column. Assumes nothing.
use mathlib.Core.Path.{◌≡◌, refl, sym, ◌∙◌, ap}
use mathlib.Core.List.{List, [], ◌∷◌}
use Prim.Native.Nat.{ℕ, zero, suc, ◌+◌, ◌-◌, ◌*◌, ◌<◌, ◌≤◌, max}
use native.Mathlib.Omega.{arith}
use native.Mathlib.Numerals.{add-one}
use lib.ListN.{length, get_or, set, drop, replicate, get_or-replicate, drop_of_length-le}
use lib.Seq.{drop-cons}
use Rattle.rules.specs.Graph.{Node, below}
use Rattle.rules.specs.Traversal.{thread, raise, lift, reverse_levels}
use Rattle.rules.specs.Inside.Lean.{start_levels}
use Rattle.rules.specs.Lists.{Out}
use Rattle.rules.proofs.Lists.Members.{out_tail}
use Rattle.rules.specs.Inside.Walks.{Topo, none, more}
use Rattle.rules.proofs.Walk.Reverse.{out_sub, lift_out, raise_out}
use Rattle.rules.proofs.Walk.Bounds.{none_low, Low, raise_low, lift_low}
use Rattle.columns.specs.Area.{Room, col, Frame}
use Rattle.columns.specs.Fields.{ORDER, WAITING, REVERSE}
use Rattle.columns.specs.Lists.{list, Holds}
use Rattle.columns.proofs.Area.Columns.{get_or_col, col_set}
use Rattle.columns.proofs.Area.Frames.{frame_none, frame_then, frame_set, frame_room}
use Rattle.columns.proofs.Lists.Entries.{holds_frame, holds_self, holds_at, holds_pin}
use Rattle.columns.proofs.Lists.Clears.{clear_col}
use Rattle.stage_walk.specs.Stands.{Context}
use Rattle.stage_levels.specs.Levels.{Along, Becomes, WaitsAt, LiftAt, LowerAt, Lowered, ReverseAt}
use Rattle.stage_walk.proofs.Gates.{both_of}
use Rattle.stage_walk.proofs.traversal.Loops.{begun_reads}
use Rattle.stage_levels.proofs.Laws.Order.{before, before_next, before_all_lem}
use Rattle.stage_levels.proofs.Laws.Rising.{along_frame}

-- ---- reverse levels stay low

-- with the waiting pins raised none is above 1
pub waiting_low : (n : ℕ) (ps : List ℕ) → Low 1 (raise 1 ps (replicate n 0))
waiting_low n ps = raise_low 1 1 ps (replicate n 0) (omega arith) (λ q. omega (arith, none_low n q))

-- ---- and 0 at pins that are not listed

lifts_out : (g : List Node) (stop : List ℕ) {s : List ℕ} → Topo g stop s → (rl : List ℕ) (q : ℕ) → Out q s → get_or (thread (lift g stop) s rl) q 0 ≡ get_or rl q 0
unfolding thread
lifts_out g stop none rl q o = refl
lifts_out g stop (more {p = p} {s = s} f c t) rl q o = lifts_out g stop t (lift g stop p rl) q (out_tail q p s o) ∙ lift_out g stop p rl q (out_sub (below g stop p) s c q (out_tail q p s o))

-- a pin that is not listed has no reverse level
pub reverse_out : (C : Context) (p : ℕ) → p < length C.X.g → Out p C.X.seen → get_or (start_levels C.X) p 0 ≡ 0
unfolding start_levels reverse_levels
reverse_out C p h o = lifts_out C.X.g C.X.done C.S.visited.topo _ p o ∙ raise_out 1 C.X.waiting _ p (out_sub C.X.waiting C.X.seen C.S.visited.has p o) ∙ get_or-replicate (length C.X.g) p 0 0 h

-- ---- one lift

lift_none : (g : List Node) (stop : List ℕ) (p : ℕ) (rl : List ℕ) → get_or rl p 0 ≡ 0 → lift g stop p rl ≡ rl
unfolding lift
lift_none g stop p rl e = rw (e, lift)

lift_some : (g : List Node) (stop : List ℕ) (p : ℕ) (rl : List ℕ) (r : ℕ) → get_or rl p 0 ≡ r → (r ≡ 0 → ⊥) → lift g stop p rl ≡ raise (r + 1) (below g stop p) rl
unfolding lift
lift_some g stop p rl zero e n = absurd (n refl)
lift_some g stop p rl (suc r) e n = rw (e, add-one (suc r), lift)

-- ---- one store

module _ {m q : ℕ} (r : ℕ) {w : List ℕ} (room : Room m w) (pin : q < m) where
  -- one store raises one pin
  pub raised : (w' : List ℕ) → w' ≡ set w (REVERSE * m + q) (max r (get_or w (REVERSE * m + q) 0)) → Becomes REVERSE m w w' (set (col REVERSE m w) q (max r (get_or (col REVERSE m w) q 0)))
  raised w' e = rw e (record {
    frame = frame_set REVERSE q _ pin (omega arith) refl;
    is = rw (get_or_col REVERSE m w q pin) (col_set REVERSE m w q _ pin (omega (arith, room.room)));
  })

-- ---- one pin

module _ {C : Context} {m p : ℕ} {gates w : List ℕ} (A : LiftAt C m p gates w) (r : ℕ) (er : r ≡ get_or w (REVERSE * m + p) 0) where
  abbrev rl : List ℕ
  rl = col REVERSE m w

  here : get_or rl p 0 ≡ r
  here = get_or_col REVERSE m w p A.pin ∙ sym er

  stays : lift C.X.g C.X.done p rl ≡ rl → Becomes REVERSE m w w (lift C.X.g C.X.done p rl)
  stays e = record { frame = frame_none; is = sym e }

  -- a pin without a reverse level hands nothing down
  pub lifted_none : r ≡ 0 → Becomes REVERSE m w w (lift C.X.g C.X.done p rl)
  lifted_none z = stays (lift_none C.X.g C.X.done p rl (here ∙ z))

  module _ (ne : r ≡ 0 → ⊥) where
    -- a pin from which nothing is followed hands nothing down either
    pub lifted_leaf : below C.X.g C.X.done p ≡ [] → Becomes REVERSE m w w (lift C.X.g C.X.done p rl)
    unfolding raise
    lifted_leaf z = stays (lift_some C.X.g C.X.done p rl r here ne ∙ rw z)

    module _ (a b : ℕ) (e : below C.X.g C.X.done p ≡ a ∷ b ∷ []) where
      -- the two pins followed are pins of the area
      pub lift_pins : (a < m) × (b < m)
      lift_pins = let t = both_of C A.reads p a b e in (t.in_first, t.in_second)

      -- two stores hand a reverse level down to both
      pub lifted_both : (w₁ w₂ : List ℕ) → w₁ ≡ set w (REVERSE * m + a) (max (r + 1) (get_or w (REVERSE * m + a) 0)) →
          w₂ ≡ set w₁ (REVERSE * m + b) (max (r + 1) (get_or w₁ (REVERSE * m + b) 0)) → Becomes REVERSE m w w₂ (lift C.X.g C.X.done p rl)
      unfolding raise
      lifted_both w₁ w₂ e₁ e₂ =
          let B₁ = raised (r + 1) A.reads.base.area lift_pins.0 w₁ e₁ in
          let B₂ = raised (r + 1) (frame_room B₁.frame A.reads.base.area) lift_pins.1 w₂ e₂ in
          record {
            frame = frame_then B₁.frame B₂.frame;
            is = B₂.is ∙ rw (B₁.is, lift_some C.X.g C.X.done p rl r here ne, e);
          }

-- ---- the waiting pins

-- the first i waiting pins are raised
pub record Raised (m n i : ℕ) (w₀ w : List ℕ) : Type 0 where
  pub frame : Frame (REVERSE ∷ []) m w₀ w
  pub same : raise 1 (drop i (list WAITING m n w₀)) (col REVERSE m w) ≡ raise 1 (list WAITING m n w₀) (col REVERSE m w₀)

module _ {m n : ℕ} {w₀ : List ℕ} (A : WaitsAt m n w₀) where
  module _ {i : ℕ} {w : List ℕ} (U : Raised m n i w₀ w) where
    -- at the end all waiting pins are raised
    pub raised_end : n ≤ i → Becomes REVERSE m w₀ w (raise 1 (list WAITING m n w₀) (col REVERSE m w₀))
    unfolding raise
    raised_end h = record { frame = U.frame; is = rw (drop_of_length-le (list WAITING m n w₀) {i = i} (omega (arith, A.waiting.count))) at U.same }

    module _ (h : i < n) (p : ℕ) (ep : p ≡ get_or w (WAITING * m + i) 0) where
      held : Holds WAITING m n (list WAITING m n w₀) w
      held = holds_frame A.waiting U.frame refl (omega arith)

      -- a waiting pin is a pin of the area
      pub start_pin : p < m
      start_pin = rw ep (holds_pin held i h)

      next : drop i (list WAITING m n w₀) ≡ p ∷ drop (suc i) (list WAITING m n w₀)
      next = drop-cons (list WAITING m n w₀) i 0 (omega (arith, A.waiting.count)) ∙ ap (λ (x : ℕ). x ∷ drop (suc i) (list WAITING m n w₀)) (sym (ep ∙ holds_at held i h))

      -- one waiting pin more is raised
      pub raised_more : (w' : List ℕ) → w' ≡ set w (REVERSE * m + p) (max 1 (get_or w (REVERSE * m + p) 0)) → Raised m n (i + 1) w₀ w'
      unfolding raise
      raised_more w' e =
          let B = raised 1 (frame_room U.frame A.area) start_pin w' e in
          record { frame = frame_then U.frame B.frame; same = rw (add-one i, B.is) (rw next at U.same) }

-- ---- all

module _ {C : Context} {m k : ℕ} {gates w₀ : List ℕ} (A : LowerAt C m k gates w₀) where
  -- at the start no pin has handed anything down
  pub lowered_none : Lowered C m k k w₀ w₀
  lowered_none = record {
    frame = frame_none;
    low = λ q. omega (arith, A.low q);
    same = ap (λ (s : List ℕ). thread (lift C.X.g C.X.done) s (col REVERSE m w₀)) (before_all_lem C k (omega (arith, A.along.ordered.order.count)));
  }

  module _ {i : ℕ} {w : List ℕ} (U : Lowered C m k i w₀ w) where
    -- at the end all pins have handed theirs down
    pub lowered_end : i ≤ 0 → Becomes REVERSE m w₀ w (thread (lift C.X.g C.X.done) C.X.seen (col REVERSE m w₀))
    unfolding thread
    lowered_end h = let e : i ≡ 0 = omega arith in record { frame = U.frame; is = rw e at U.same }

    module _ (h : 0 < i) (l : i ≤ k) (p : ℕ) (ep : p ≡ get_or w (ORDER * m + (i - 1)) 0) where
      along : Along C m k gates w
      along = along_frame A.along U.frame refl refl

      -- the next pin, from the back, may hand down
      pub lift_at : LiftAt C m p gates w
      lift_at = let pin : p < m = rw ep (holds_pin along.ordered.order (i - 1) (omega arith)) in record {
        reads = along.reads;
        pin = pin;
        low = omega (arith, U.low p, get_or_col REVERSE m w p pin, along.ordered.order.few, along.reads.base.area.small);
      }

      back : before C i ≡ p ∷ before C (i - 1)
      back =
          let e : i ≡ suc (i - 1) = omega arith in
          ap (before C) e ∙ before_next C (i - 1) (omega (arith, along.ordered.order.count)) ∙ ap (λ (x : ℕ). x ∷ before C (i - 1)) (sym (ep ∙ holds_at along.ordered.order (i - 1) (omega arith)))

      -- one pin more has handed its reverse level down
      pub lowered_more : {w' : List ℕ} → Becomes REVERSE m w w' (lift C.X.g C.X.done p (col REVERSE m w)) → Lowered C m k (i - 1) w₀ w'
      unfolding thread
      lowered_more B = record {
        frame = frame_then U.frame B.frame;
        low = λ q. rw B.is (omega (arith, lift_low C.X.g C.X.done (k - i + 1) p (col REVERSE m w) U.low q));
        same = rw B.is (rw back at U.same);
      }

-- ---- the whole

module _ {C : Context} {m n k : ℕ} {gates w : List ℕ} (A : ReverseAt C m n k gates w) where
  -- the waiting pins stand in their column
  pub start_at : WaitsAt m n w
  start_at = record { area = A.begun.base.area; waiting = holds_self A.begun.waiting.held }

  module _ (u : List ℕ) (S : Becomes REVERSE m w u (raise 1 (list WAITING m n w) (col REVERSE m w))) where
    started : col REVERSE m u ≡ raise 1 C.X.waiting (replicate m 0)
    started = S.is ∙ rw (A.begun.waiting.held.is, clear_col A.clear)

    -- with the waiting pins raised the order may be gone back along
    pub lower_at : LowerAt C m k gates u
    lower_at = record {
      along = along_frame (record { reads = begun_reads A.begun; ordered = A.ordered }) S.frame refl refl;
      low = rw started (waiting_low m C.X.waiting);
    }

    -- both passes leave the reverse levels that a stage starts from
    pub reversed : {w' : List ℕ} → Becomes REVERSE m u w' (thread (lift C.X.g C.X.done) C.X.seen (col REVERSE m u)) → Becomes REVERSE m w w' (start_levels C.X)
    unfolding start_levels reverse_levels
    reversed B = record { frame = frame_then S.frame B.frame; is = B.is ∙ rw (started, A.begun.base.size) }
