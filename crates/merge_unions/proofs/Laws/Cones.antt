-- The cone of named groups is the start of that of more: the traversal from xs ++ ys is the one from ys going on from that of xs. Assumes nothing.
use mathlib.Core.Path.{◌≡◌, refl, sym, ap, ◌∙◌}
use mathlib.Core.Bool.{false}
use mathlib.Core.List.{List, [], ◌∷◌, ◌++◌, reverse, reverse-cons, reverse-reverse, append-nil, append_assoc}
use Prim.Native.Nat.{ℕ, zero, suc, ◌+◌, ◌*◌, ◌<◌, ◌≤◌}
use native.Mathlib.Omega.{arith}
use borrow.Author.Tests.{leb-true}
use lib.Dec.{leb}
use lib.ListN.{length, take, drop, length-append, length-reverse}
use lib.Seq.{take_at, drop_at}
use Rattle.rules.specs.Lists.{mem, insert, insert_all}
use Rattle.rules.specs.Cells.{is_height}
use Rattle.rules.specs.Graph.{Node, graph_of, below}
use Rattle.rules.specs.Records.{Group, groups_of, waiting_of}
use Rattle.rules.specs.Traversal.{needed_runs, setting, thread, visit, traverse}
use Rattle.rules.specs.Merge.{Common, size_for}
use Rattle.rules.specs.Inside.Walks as walked
use Rattle.rules.proofs.Lists.Members.{split, and_true}
use Rattle.rules.proofs.Demand.{graph, graph_few}
use Rattle.columns.specs.Fields.{ORDER, LEVEL, WAITING, CELLS, RANKED, STARTS, ENDS, REVERSE, LISTED, PLACE, MARK, SPARE}
use Rattle.columns.specs.Area.{Frame, among}
use Rattle.columns.specs.Lists.{Clear, Marked, Placed}
use Rattle.columns.proofs.Area.Frames.{frame_then, frame_more, frame_room}
use Rattle.columns.proofs.Lists.Clears.{clear_frame}
use Rattle.columns.proofs.Lists.Entries.{list_take, holds_below}
use Rattle.columns.proofs.Lists.Marks.{marks_frame, marked_none, marked_self, marked_frame}
use Rattle.columns.proofs.Lists.Places.{placed_none, placed_self, placed_frame}
use Rattle.stage_walk.specs.Stands.{Context}
use Rattle.stage_walk.specs.Machine.{GoOnAt, WentOn}
use Rattle.stage_walk.proofs.Contexts.{context}
use Rattle.placer_start.specs.Given.{GivenAt, Given}
use Rattle.merge_unions.specs.Names.{picked}
use Rattle.merge_unions.specs.Waiting.{PartAt, PartWaits}
use Rattle.merge_unions.specs.Sizing.{Both, BackAt, Back, CloseAt, Closed}
use Rattle.merge_unions.specs.Cones.{Ground, walks, Apart, waits, lists, Cone, Of, ConeAt, Coned, ExtendAt, Extended, Measures}
use Rattle.merge_unions.specs.Unions.{Leaves, Shares, SizeAt, Measured}
use Rattle.merge_unions.proofs.Laws.Table.{located_kept}
use Rattle.merge_unions.proofs.Laws.Names.{picked_append, waiting_append}
use Rattle.merge_unions.proofs.Laws.Opening.{named_picked}

-- ---- a list that starts with another

pub record Starts (xs ys : List ℕ) : Type 0 where
  pub rest : List ℕ
  pub is : ys ≡ xs ++ rest

starts_none : (xs : List ℕ) → Starts xs xs
starts_none xs = record { rest = []; is = sym (append-nil xs) }

starts_then : {xs ys zs : List ℕ} → Starts xs ys → Starts ys zs → Starts xs zs
starts_then {xs} A B = record { rest = A.rest ++ B.rest; is = B.is ∙ ap (λ (l : List ℕ). l ++ B.rest) A.is ∙ append_assoc xs A.rest B.rest }

module _ {xs ys : List ℕ} (S : Starts xs ys) (n : ℕ) (e : n ≡ length xs) where
  starts_take : take n ys ≡ xs
  starts_take = ap (take n) S.is ∙ take_at xs S.rest n (sym e)

  starts_drop : drop n ys ≡ S.rest
  starts_drop = ap (drop n) S.is ∙ drop_at xs S.rest n (sym e)

  starts_few : n ≤ length ys
  starts_few = omega (arith, ap length S.is, length-append xs S.rest)

-- ---- the waiting list

insert_starts : (p : ℕ) (xs : List ℕ) → Starts xs (insert p xs)
unfolding insert
insert_starts p xs = split (mem p xs) (λ e. rw (e, insert) (starts_none xs)) (λ e. rw (e, insert) (record { rest = p ∷ []; is = refl }))

insert_all_starts : (ps xs : List ℕ) → Starts xs (insert_all ps xs)
unfolding insert_all
insert_all_starts [] xs = starts_none xs
insert_all_starts (p ∷ ps) xs = starts_then (insert_starts p xs) (insert_all_starts ps (insert p xs))

waiting_starts : (gs : List Group) (xs : List ℕ) → Starts xs (waiting_of gs xs)
unfolding waiting_of
waiting_starts [] xs = starts_none xs
waiting_starts (g ∷ gs) xs = starts_then (insert_all_starts _ xs) (waiting_starts gs _)

-- ---- the traversal

thread_append : (v : ℕ → List ℕ → List ℕ) (xs ys s : List ℕ) → thread v (xs ++ ys) s ≡ thread v ys (thread v xs s)
unfolding thread
thread_append v [] ys s = refl
thread_append v (x ∷ xs) ys s = thread_append v xs ys (v x s)

thread_starts : (v : ℕ → List ℕ → List ℕ) → ((p : ℕ) (s : List ℕ) → Starts (reverse s) (reverse (v p s))) → (ps s : List ℕ) → Starts (reverse s) (reverse (thread v ps s))
unfolding thread
thread_starts v h [] s = starts_none (reverse s)
thread_starts v h (p ∷ ps) s = starts_then (h p s) (thread_starts v h ps (v p s))

visit_starts : (f : ℕ) (g : List Node) (done : List ℕ) (p : ℕ) (s : List ℕ) → Starts (reverse s) (reverse (visit f g done p s))
unfolding visit
visit_starts zero g done p s = starts_none (reverse s)
visit_starts (suc f) g done p s = split (mem p s)
    (λ e. rw (e, visit) (starts_none (reverse s)))
    (λ e.
    let t : List ℕ = thread (visit f g done) (below g done p) s in
    rw (e, visit) (starts_then (thread_starts (visit f g done) (visit_starts f g done) (below g done p) s) (record { rest = p ∷ []; is = reverse-cons p t })))

-- ---- of named groups

module _ (gates given records is js : List ℕ) where
  -- further groups wait behind the others
  waits_more : waits records (is ++ js) ≡ waiting_of (picked (groups_of records) js) (waits records is)
  unfolding waits
  waits_more = rw (picked_append (groups_of records) is js) (waiting_append (picked (groups_of records) is) (picked (groups_of records) js) [])

  waits_start : Starts (waits records is) (waits records (is ++ js))
  waits_start = rw waits_more (waiting_starts (picked (groups_of records) js) (waits records is))

  -- the traversal goes on from theirs
  lists_more : (n : ℕ) → n ≡ length (waits records is) → thread (visit (length (graph_of gates)) (graph_of gates) given) (drop n (waits records (is ++ js))) (reverse (lists gates given records is)) ≡ traverse (length (graph_of gates)) (graph_of gates) given (waits records (is ++ js))
  unfolding lists traverse
  lists_more n e =
      let v : ℕ → List ℕ → List ℕ = visit (length (graph_of gates)) (graph_of gates) given in
      rw (starts_drop waits_start n e, reverse-reverse (thread v (waits records is) [])) (sym (ap (λ (l : List ℕ). thread v l []) waits_start.is ∙ thread_append v (waits records is) waits_start.rest []))

  lists_start : Starts (lists gates given records is) (lists gates given records (is ++ js))
  unfolding lists traverse
  lists_start =
      let v : ℕ → List ℕ → List ℕ = visit (length (graph_of gates)) (graph_of gates) given in
      rw (ap (λ (l : List ℕ). thread v l []) waits_start.is ∙ thread_append v (waits records is) waits_start.rest []) (thread_starts v (visit_starts (length (graph_of gates)) (graph_of gates) given) waits_start.rest (thread v (waits records is) []))

-- ---- what stays

module _ {m : ℕ} {w w' : List ℕ} (F : Frame walks m w w') where
  ground_frame : {table : ℕ} {gates given records : List ℕ} → Ground m table gates given records w → Ground m table gates given records w'
  ground_frame G = record { K = G.K; sized = G.sized; passed = G.passed; pins = G.pins; located = located_kept G.located F.len (λ j h. F.past refl j (omega (arith, G.behind))); behind = G.behind }

  apart_frame : Apart m w → Apart m w'
  apart_frame A = record { before = A.before; idle = A.idle; cells = λ f a h p b. F.cell f a h p b ∙ A.cells f a h p b; tail = λ j h. F.past refl (16 * m + j) (omega arith) ∙ A.tail j h }

-- its lists are those in the columns
cone_both : {m table n k : ℕ} {gates given records names w : List ℕ} → Cone m table n k gates given records names w → Both m n k w
cone_both C = record { area = C.area; waiting = placed_self C.waiting; listed = marked_self C.listed }

-- what a merge measures
size_of : (J : Common) (is : List ℕ) {gates given records : List ℕ} → Shares gates given records J → size_for J is ≡ length (lists gates given records is)
unfolding size_for lists waits
size_of J is {gates} {given} {records} S = let e = named_picked J is S.groups_same in let l = length-reverse (traverse (length (graph_of gates)) (graph_of gates) given (waiting_of (picked (groups_of records) is) [])) in cc

-- ---- a cone and more groups

module _ {x : Of} {m table n k : ℕ} {gates records names w : List ℕ} (A : ExtendAt x m table n k gates records names w) where
  abbrev C : Cone m table n k gates x.given records x.names w
  C = A.cone

  abbrev G : Ground m table gates x.given records w
  G = C.ground

  abbrev all : List ℕ
  all = waits records (x.names ++ names)

  waiting_long : n ≡ length (waits records x.names)
  waiting_long = sym C.waiting.held.count

  listed_long : k ≡ length (lists gates x.given records x.names)
  listed_long = sym C.listed.held.count

  -- the pins of more groups may wait
  pub extend_wait : PartAt m table n records names w
  extend_wait = record {
    area = C.area;
    named = record { located = G.located; behind = G.behind; inside = A.inside; pins = λ q e. rw G.pins (G.passed.named q e) };
    now = placed_self C.waiting;
  }

  module _ {n₁ : ℕ} {w₁ : List ℕ} (P : PartWaits m n records names w w₁ n₁) where
    now : Placed WAITING PLACE m n₁ all w₁
    now = rw (waits_more gates x.given records x.names names, ← C.waiting.held.is) P.now

    -- each of them once, pins of the graph
    pub ready : walked.Ready (graph_of gates) (walked.rank (graph_of gates)) all
    ready = record {
      once = now.once;
      bounded = λ q i. let h : q < length (graph_of gates) = omega (arith, holds_below now.held q i, G.pins, G.passed.pins) in (h, graph_few (graph_of gates) G.passed.valid q h);
    }

    -- the height is from 6 to 13
    pub height : (6 ≤ G.K) × (G.K ≤ 13)
    unfolding is_height
    height = let h = and_true (leb 6 G.K) (leb G.K 13) G.passed.height in (leb-true 6 G.K h.0, leb-true G.K 13 h.1)

    -- the context in which all of them are traversed
    unfoldable pub extend_context : Context
    extend_context = context needed_runs G.K (graph_of gates) (walked.rank (graph_of gates)) (graph (graph_of gates) G.passed.valid) height.0 height.1 (rw G.passed.pins G.passed.few) x.given all ready

    abbrev first : Frame walks m w w₁
    first = frame_more refl P.frame

    -- the traversal may go on
    pub extend_on : GoOnAt extend_context m n₁ n k gates w₁
    unfolding extend_context context setting
    extend_on = record {
      begun = record {
        base = record { area = frame_room first C.area; size = G.passed.pins ∙ sym G.pins; graph = refl; pair = G.passed.even ∙ ap (λ (i : ℕ). 2 * i) (sym G.pins) };
        done = marks_frame C.done P.frame refl (omega arith);
        waiting = now;
      };
      upto = omega (arith, starts_few (waits_start gates x.given records x.names names) n waiting_long, now.held.count);
      listed = marked_self before;
      same = rw before.held.is (lists_more gates x.given records x.names names n waiting_long);
    }
      where
        before : Marked ORDER LISTED m k (lists gates x.given records x.names) w₁
        before = marked_frame C.listed P.frame refl refl (omega arith) (omega arith)

    -- the order is that of all of them
    pub extended : {k₁ : ℕ} {w₂ : List ℕ} → WentOn extend_context m w₁ w₂ k₁ → Extended x m table gates records names w n₁ k₁ w₂
    unfolding extend_context context setting lists
    extended T =
        let F : Frame walks m w _ = frame_then first (frame_more refl T.frame) in
        record {
          frame = F;
          cone = record {
            ground = ground_frame F G;
            area = frame_room F C.area;
            done = marks_frame (marks_frame C.done P.frame refl (omega arith)) T.frame refl (omega arith);
            waiting = placed_frame now T.frame refl refl (omega arith) (omega arith);
            listed = T.listed;
            apart = apart_frame F C.apart;
          };
        }

  module _ {n₁ k₁ : ℕ} {w₁ : List ℕ} (E : Extended x m table gates records names w n₁ k₁ w₁) where
    more : Starts (lists gates x.given records x.names) (lists gates x.given records (x.names ++ names))
    more = lists_start gates x.given records x.names names

    -- what was added may be taken back
    pub measure_back : BackAt m n₁ k₁ n k w₁
    measure_back = record {
      both = cone_both E.cone;
      fewer_wait = omega (arith, starts_few (waits_start gates x.given records x.names names) n waiting_long, E.cone.waiting.held.count);
      fewer_listed = omega (arith, starts_few more k listed_long, E.cone.listed.held.count);
    }

    -- the cone is as before
    pub measures : {w₂ : List ℕ} → Back m n k w₁ w₂ → Measures x m table n k gates records names w k₁ w₂
    measures {w₂} B = record {
      frame = F;
      cone = record {
        ground = ground_frame F G;
        area = frame_room F C.area;
        done = marks_frame E.cone.done B.frame refl (omega arith);
        waiting = rw (sym (list_take WAITING m n₁ w₁ n measure_back.fewer_wait) ∙ ap (take n) E.cone.waiting.held.is ∙ starts_take (waits_start gates x.given records x.names names) n waiting_long) at B.waiting;
        listed = rw (sym (list_take ORDER m k₁ w₁ k measure_back.fewer_listed) ∙ ap (take k) E.cone.listed.held.is ∙ starts_take more k listed_long) at B.listed;
        apart = apart_frame F C.apart;
      };
      size = λ J S. sym (size_of J (x.names ++ names) S ∙ E.cone.listed.held.count);
      few = E.cone.listed.held.few;
    }
      where
        F : Frame walks m w w₂
        F = frame_then E.frame (frame_more refl B.frame)

-- ---- a cone of no groups

module _ {m table : ℕ} {gates given records names w : List ℕ} (A : ConeAt m table gates given records names w) where
  -- the given pins may be marked
  pub cone_given : GivenAt m given w
  cone_given = record { area = A.idle.area; clear = A.idle.done; pins = λ q i. rw A.ground.pins (A.ground.passed.given_named q i) }

  module _ {w₁ : List ℕ} (M : Given m given w w₁) where
    abbrev marked : Frame walks m w w₁
    marked = frame_more refl M.frame

    -- their marks alone are the cone of no groups
    pub cone_none : ExtendAt (record { given = given; names = [] }) m table 0 0 gates records names w₁
    unfolding waits lists picked waiting_of traverse thread
    cone_none = record {
      cone = record {
        ground = ground_frame marked A.ground;
        area = frame_room marked A.idle.area;
        done = M.marks;
        waiting = placed_none (clear_frame A.idle.places M.frame refl (omega arith)).zero;
        listed = marked_none (clear_frame A.idle.fresh.listed M.frame refl (omega arith)).zero;
        apart = record { before = w; idle = A.idle; cells = λ f a h p b. marked.cell f a h p b; tail = λ j h. marked.past refl (16 * m + j) (omega arith) ∙ A.idle.zeros j h };
      };
      inside = A.inside;
    }

    -- extended, it is that of the named ones
    pub coned : {n k : ℕ} {w₂ : List ℕ} → Extended (record { given = given; names = [] }) m table gates records names w₁ n k w₂ → Coned m table gates given records names w n k w₂
    coned E = record { frame = frame_then marked E.frame; cone = E.cone }

-- ---- at the end

module _ {m table n k : ℕ} {gates given records names w : List ℕ} (C : Cone m table n k gates given records names w) where
  -- a cone may be closed
  pub close_at : CloseAt m n k given w
  close_at = record { both = cone_both C; done = C.done; pins = λ q i. rw C.ground.pins (C.ground.passed.given_named q i) }

  module _ {w' : List ℕ} (D : Closed m w w') where
    abbrev taken : Frame walks m w w'
    taken = frame_more refl D.frame

    still : (f : ℕ) → among walks f ≡ false → f < 16 → Clear f m C.apart.before → Clear f m w'
    still f a h c = record { zero = λ p b. taken.cell f a h p b ∙ C.apart.cells f a h p b ∙ c.zero p b }

    -- what a build reads before it writes is 0 again
    pub close_leaves : Leaves m table w w'
    close_leaves =
        let I = C.apart.idle in
        record {
          len = taken.len;
          idle = record {
            area = frame_room taken C.area;
            done = D.done;
            heads = still RANKED refl (omega arith) I.heads;
            places = D.places;
            fresh = record {
              listed = D.listed;
              levels = still LEVEL refl (omega arith) I.fresh.levels;
              reverse = still REVERSE refl (omega arith) I.fresh.reverse;
              starts = still STARTS refl (omega arith) I.fresh.starts;
              ends = still ENDS refl (omega arith) I.fresh.ends;
              spare = still SPARE refl (omega arith) I.fresh.spare;
            };
            cells = still CELLS refl (omega arith) I.cells;
            marks = still MARK refl (omega arith) I.marks;
            zeros = λ j h. taken.past refl (16 * m + j) (omega arith) ∙ C.apart.tail j h;
          };
          past = λ j h. taken.past refl j (omega (arith, C.ground.behind));
        }

-- ---- a union

module _ {m table : ℕ} {gates given records first second w : List ℕ} (A : SizeAt m table gates given records first second w) where
  -- the first partition's cone may be opened
  pub size_cone : ConeAt m table gates given records first w
  size_cone = record {
    ground = record { K = A.K; sized = A.at.sized; passed = A.at.passed; pins = A.at.pins; located = A.at.located; behind = omega (arith, A.at.room) };
    idle = A.at.idle;
    inside = A.at.first_inside;
  }

  module _ {n k : ℕ} {w₁ : List ℕ} (O : Coned m table gates given records first w n k w₁) where
    -- and extended by the second
    pub size_extend : ExtendAt (record { given = given; names = first }) m table n k gates records second w₁
    size_extend = record { cone = O.cone; inside = A.at.second_inside }

    module _ {r : ℕ} {w₂ : List ℕ} (M : Measures (record { given = given; names = first }) m table n k gates records second w₁ r w₂) where
      -- then closed
      pub size_close : CloseAt m n k given w₂
      size_close = close_at M.cone

      -- which measures the union
      pub measured : {w₃ : List ℕ} → Closed m w₂ w₃ → Measured m table gates given records first second w r w₃
      measured D =
          let L = close_leaves M.cone D in
          record {
            leaves = record { len = L.len ∙ M.frame.len ∙ O.frame.len; idle = L.idle; past = λ j h. L.past j h ∙ M.frame.past refl j (omega (arith, A.at.room)) ∙ O.frame.past refl j (omega (arith, A.at.room)) };
            size = M.size;
            few = M.few;
          }
