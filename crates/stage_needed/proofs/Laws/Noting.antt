-- Which pins lack anything before anything is placed, noted along the order while the needed pins are listed. Assumes nothing.
use mathlib.Core.Path.{◌≡◌, refl, sym, ◌∙◌}
use mathlib.Core.Bool.{Bool, true, false, not, ◌&&◌, ◌||◌}
use mathlib.Core.List.{List, [], ◌∷◌, append-nil}
use Prim.Native.Nat.{ℕ, zero, suc, ◌+◌, ◌*◌, ◌<◌, ◌≤◌}
use native.Mathlib.Omega.{arith}
use native.Mathlib.Numerals.{add-one}
use lib.Dec.{eqb}
use lib.ListN.{get_or, set, take, drop, drop_of_length-le}
use lib.Seq.{take-suc, take_all, drop-cons}
use Rattle.rules.specs.Lists.{mem, keep, is_nil, gather, insert_all, distinct, nobody}
use Rattle.rules.specs.Graph.{below}
use Rattle.rules.specs.Traversal.{level_at}
use Rattle.rules.specs.Placing.{asked, tree_of}
use Rattle.rules.specs.Inside.Lean.{lacks, lacking, noted, wanted}
use Rattle.rules.proofs.Lists.Members.{split, keep_in, keep_append, insert_all-append}
use Rattle.rules.proofs.Needed.Lacks.{noted_wanted}
use Rattle.columns.specs.Area.{Frame}
use Rattle.columns.specs.Fields.{ORDER, LEVEL, NEEDED, STACK, PLACE, MARK}
use Rattle.columns.specs.Lists.{list, Holds}
use Rattle.columns.proofs.Area.Frames.{frame_none, frame_then, frame_set, frame_more, frame_less}
use Rattle.columns.proofs.Lists.Entries.{holds_self, holds_none, holds_frame, holds_at, holds_in_lem, holds_push}
use Rattle.columns.proofs.Lists.Marks.{marked_self, marked_frame}
use Rattle.stage_walk.specs.Stands.{Context}
use Rattle.stage_walk.proofs.Gates.{Both, both_of, reads_frame}
use Rattle.stage_walk.proofs.traversal.Loops.{begun_reads}
use Rattle.stage_needed.specs.declared.Counts.{Counts}
use Rattle.stage_needed.specs.Needed.{Needs, LackAt, NotePinAt, NotedPin, Noting, NeededAt, Surveyed, Unmarked, Noted}
use Rattle.stage_needed.proofs.Laws.Asking.{level_told, tells_frame}
use Rattle.stage_needed.proofs.Laws.Collecting.{asking_frame, count_order, count_tells}

-- ---- one pin

and_same : (b : Bool) → b && true ≡ b
and_same true = refl
and_same false = refl

one_kept : (t : ℕ → Bool) (q : ℕ) → not (is_nil (keep t (q ∷ []))) ≡ t q
unfolding keep is_nil
one_kept t q = split (t q) (λ e. rw (e, keep)) (λ e. rw (e, keep))

two_kept : (t : ℕ → Bool) (a b : ℕ) → not (is_nil (keep t (a ∷ b ∷ []))) ≡ t a || t b
unfolding keep is_nil
two_kept t a b = split (t a) (λ e. rw (e, keep)) (λ e. split (t b) (λ d. rw (e, d, keep)) (λ d. rw (e, d, keep)))

module _ {C : Context} {m : ℕ} {gates w : List ℕ} {p : ℕ} (A : LackAt C m gates w p) where
  -- a listed pin is a pin of the area
  pub lack_pin : p < m
  lack_pin = omega (arith, C.S.bound p A.listed, A.reads.base.size)

  module _ (l : ℕ) (el : l ≡ get_or w (LEVEL * m + p) 0) where
    opened : lacking C.X p ≡ not (is_nil (asked C.X [] p l))
    unfolding lacking lacks mem
    opened = rw (el ∙ level_told A.levelled p lack_pin) refl

    -- a pin of level 1 lacks itself
    pub lack_one : l ≡ 1 → true ≡ lacking C.X p
    unfolding asked is_nil
    lack_one e = sym (opened ∙ rw e refl)

    -- a pin of level 0 does so if it waits
    pub lack_zero : l ≡ 0 → (b : Bool) → b ≡ not (eqb (get_or w (PLACE * m + p) 0) 0) → b ≡ lacking C.X p
    unfolding asked
    lack_zero e b eb = eb ∙ A.waits p lack_pin ∙ sym (opened ∙ rw e (one_kept (λ q. mem q C.X.waiting) p))

    module _ (h : 2 ≤ l) where
      -- an operand of level 0
      low : ℕ → Bool
      low q = eqb (level_at C.X q) 0 && not (mem q [])

      below_asked : lacking C.X p ≡ not (is_nil (keep low (below C.X.g C.X.done p)))
      unfolding asked low
      below_asked = opened ∙ by l h
        where
          by : (l : ℕ) → 2 ≤ l → not (is_nil (asked C.X [] p l)) ≡ not (is_nil (keep low (below C.X.g C.X.done p)))
          by zero h = absurd (omega arith)
          by (suc zero) h = absurd (omega arith)
          by (suc (suc l)) h = refl

      -- any other lacks nothing if none is followed from it
      pub lack_none : below C.X.g C.X.done p ≡ [] → false ≡ lacking C.X p
      unfolding keep is_nil
      lack_none e = sym (below_asked ∙ rw e refl)

      module _ (a b : ℕ) (e : below C.X.g C.X.done p ≡ a ∷ b ∷ []) where
        pub lack_both : Both C m p a b
        lack_both = both_of C A.reads p a b e

        -- else it lacks an operand of level 0
        pub lack_two : (la lb : ℕ) → la ≡ get_or w (LEVEL * m + a) 0 → lb ≡ get_or w (LEVEL * m + b) 0 → (eqb la 0 || eqb lb 0) ≡ lacking C.X p
        unfolding low mem
        lack_two la lb ea eb =
            let B = lack_both in
            rw (
              ea ∙ level_told A.levelled a B.in_first,
              eb ∙ level_told A.levelled b B.in_second,
            ) (sym (below_asked ∙ rw e (two_kept low a b ∙ rw (and_same (eqb (level_at C.X a) 0), and_same (eqb (level_at C.X b) 0)) refl)))

-- ---- one pin more

-- what a pin makes needed goes in before what the pins after it do
note_next : (t : ℕ → Bool) (f : ℕ → List ℕ) (p : ℕ) (ps zs : List ℕ) → insert_all (gather f (keep t (p ∷ ps))) zs ≡ insert_all (gather f (keep t ps)) (insert_all (gather f (keep t (p ∷ []))) zs)
unfolding keep gather insert_all
note_next t f p ps zs = split (t p) (λ e. rw (e, keep, append-nil) (insert_all-append (f p) (gather f (keep t ps)) zs)) (λ e. rw (e, keep))

module _ {C : Context} {pl : List ℕ} {m : ℕ} {gates w : List ℕ} {c : Counts} {p : ℕ} (A : NotePinAt C pl m gates w c p) where
  -- whether it lacks anything may be asked
  pub note_lack : LackAt C m gates w p
  note_lack =
      let N = A.need in
      record { reads = N.reads; levelled = N.needing.tells.levelled; waits = N.needing.tells.waits; listed = N.listed }

  -- a pin that lacks something makes pins needed, and goes behind the noted ones
  pub note_more : true ≡ lacking C.X p → {w₁ : List ℕ} {r : ℕ} → Needs m w c.needed w₁ r (lacks C.X (tree_of C.X pl) p) →
      NotedPin C pl m w c p (set w₁ (STACK * m + c.noted) p) (record { noted = c.noted + 1; needed = r })
  unfolding keep gather
  note_more t {w₁} {r} N =
      let own : Frame (STACK ∷ []) m w₁ (set w₁ (STACK * m + c.noted) p) = frame_set STACK c.noted p A.few (omega arith) refl in
      record {
        frame = frame_then (frame_more refl N.frame) (frame_more refl own);
        more = omega arith;
        held = λ xs H. rw (sym t, keep) (holds_push (holds_frame H N.frame refl (omega arith)) p (lack_pin note_lack) A.few (omega (arith, A.need.reads.base.area.room, N.frame.len)));
        now = rw (sym t, keep, append-nil) (marked_frame N.now own refl refl (omega arith) (omega arith));
      }

  -- one that lacks nothing does neither
  pub note_none : false ≡ lacking C.X p → NotedPin C pl m w c p w c
  unfolding keep gather insert_all
  note_none t = record {
    frame = frame_none;
    more = omega arith;
    held = λ xs H. rw (sym t, keep, append-nil) H;
    now = rw (sym t, keep) A.need.needing.now;
  }

-- ---- along the order

module _ {C : Context} {pl : List ℕ} {m n k : ℕ} {gates w₀ : List ℕ} (A : NeededAt C pl m n k gates w₀) where
  -- at the start none is noted, and none needed
  pub noting_start : Noting C pl m 0 w₀ w₀ (record { noted = 0; needed = 0 })
  unfolding keep list distinct noted
  noting_start = record {
    frame = frame_none;
    few = omega arith;
    held = holds_none;
    now = record { held = holds_none; once = nobody; marks = A.unmarked };
    same = noted_wanted C.X pl;
  }

  module _ {i : ℕ} {w : List ℕ} {c : Counts} (U : Noting C pl m i w₀ w c) where
    -- at the end the noted pins stand for the order, and the needed ones are listed
    pub noting_end : k ≤ i → Surveyed C pl m w₀ w c
    unfolding noted keep gather insert_all
    noting_end h =
        let H : Holds STACK m c.noted (noted C.X) w = rw (take_all i C.X.order (omega (arith, A.ordered.order.count))) at U.held in
        let e : list NEEDED m c.needed w ≡ wanted C.X pl = rw (drop_of_length-le C.X.order {i = i} (omega (arith, A.ordered.order.count))) at U.same in
        record {
          frame = U.frame;
          asking = record {
            column = omega arith;
            apart = refl;
            held = holds_self H;
            listed = λ x e. C.S.listed x (keep_in (lacking C.X) x C.X.order (rw H.is at e)).0;
            same = λ pl. rw H.is (noted_wanted C.X pl);
          };
          now = rw e at U.now;
        }

    module _ (h : i < k) (p : ℕ) (ep : p ≡ get_or w (ORDER * m + i) 0) where
      order : Holds ORDER m k C.X.order w
      order = holds_frame A.ordered.order U.frame refl (omega arith)

      -- the next pin of the order may be looked at
      pub note_pin_at : NotePinAt C pl m gates w c p
      note_pin_at = record {
        need = record {
          needing = record { tells = tells_frame (count_tells (count_order A)) U.frame refl refl refl; now = U.now };
          reads = reads_frame C (begun_reads A.begun) U.frame refl;
          listed = C.S.listed p (rw ep (holds_in_lem order i h));
        };
        few = omega (arith, U.few, order.few);
      }

      first : p ≡ get_or C.X.order i 0
      first = ep ∙ holds_at order i h

      -- one more has been
      pub noting_more : {w' : List ℕ} {r : Counts} → NotedPin C pl m w c p w' r → Noting C pl m (i + 1) w₀ w' r
      noting_more {w'} {r} N = record {
        frame = frame_then U.frame N.frame;
        few = omega (arith, U.few, N.more);
        held = rw (add-one i, take-suc C.X.order i 0 (omega (arith, order.count)), sym first, keep_append) (N.held (keep (lacking C.X) (take i C.X.order)) U.held);
        now = marked_self N.now;
        same = rw (
          add-one i,
          N.now.held.is,
        ) (sym (note_next (lacking C.X) (lacks C.X (tree_of C.X pl)) p (drop (suc i) C.X.order) (list NEEDED m c.needed w)) ∙ (rw (
          drop-cons C.X.order i 0 (omega (
            arith,
            order.count,
          )),
          sym first,
        ) at U.same));
      }

-- ---- the marks go

module _ {C : Context} {pl : List ℕ} {m n k : ℕ} {gates w : List ℕ} (A : NeededAt C pl m n k gates w) {v : List ℕ} {c : Counts} (L : Surveyed C pl m w v c) where
  -- with the marks gone the needed pins are listed and the noted ones stand, and all else is as it was
  pub note_all : {w' : List ℕ} → Unmarked m [] v w' → Noted C pl m w w' c
  note_all U = record {
    frame = frame_less MARK (omega arith) (frame_then (frame_more refl L.frame) (frame_more refl U.frame)) (λ p h. U.marks.mark p h ∙ sym (A.unmarked.mark p h));
    list = holds_frame L.now.held U.frame refl (omega arith);
    asking = asking_frame L.asking U.frame refl;
  }
