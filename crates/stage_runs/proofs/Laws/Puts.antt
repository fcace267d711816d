-- Rule 8 cell by cell over the columns. Assumes nothing.
use mathlib.Core.Path.{◌≡◌, refl, sym, ◌∙◌}
use mathlib.Core.Logic.{inl, inr}
use mathlib.Core.Bool.{Bool, true, false, not}
use mathlib.Core.List.{List, [], ◌∷◌}
use Prim.Native.Nat.{ℕ, zero, suc, ◌+◌, ◌*◌, ◌<◌, ◌≤◌}
use native.Mathlib.Omega.{arith}
use lib.Dec.{eqb}
use lib.ListN.{length, get_or}
use borrow.Author.Tests.{ne_eqb}
use Rattle.rules.specs.Lists.{mem, In}
use Rattle.rules.specs.Cells.{empty, filled, row_at}
use Rattle.rules.specs.Traversal.{Setting, level_at}
use Rattle.rules.specs.Ending as rules
use Rattle.rules.proofs.Lists.Members.{insert_in}
use Rattle.rules.proofs.Stage.Staged.{two_step, half_height}
use Rattle.rules.proofs.Stage.Branches.{put_none, put_fill, put_met, meet_waits, meet_not}
use Rattle.rules.specs.Inside.Plans.{Placeable}
use Rattle.rules.proofs.Tree.Held.{length_place1}
use Rattle.rules.proofs.Tree.Loads.{rows}
use Rattle.columns.specs.Fields.{STACK, PHASE, PLACE, MARK}
use Rattle.columns.specs.Area.{Frame}
use Rattle.columns.specs.Lists.{list, span, Marked, EnlistAt, Enlisted}
use Rattle.columns.proofs.Area.Frames.{frame_none, frame_then, frame_more}
use Rattle.columns.proofs.Lists.Entries.{frame_list, frame_span, span_none, span_next, holds_in_lem, holds_frame}
use Rattle.columns.proofs.Lists.Marks.{marked_frame, enlist_at, enlisted}
use Rattle.columns.proofs.Lists.Places.{placed_frame, placed_test}
use Rattle.stage_walk.specs.Stands.{Context}
use Rattle.stage_tree.specs.Counts.{Kept}
use Rattle.stage_tree.specs.Bits.{Standing, PlaceAt, Placed}
use Rattle.stage_tree.proofs.Bits.Cells.{get_d_any}
use Rattle.stage_tree.proofs.Bits.Standing.{may_place, placed_stands, stands_frame}
use Rattle.stage_runs.specs.declared.puts.Puts.{Puts}
use Rattle.stage_runs.specs.Puts.{Moved, put_of, Putting, Put, CellAt, RunAt}
use Rattle.stage_runs.proofs.Laws.Plain.{row_high}

-- ---- what changes

-- nothing changed, so nothing but what rule 8 may change did
pub moved_none : {m : ℕ} {w : List ℕ} → Moved m w w
moved_none = record { frame = frame_none; rest = λ j a b c d. refl }

-- two changes that rule 8 may make are one
pub moved_then : {m : ℕ} {u v w : List ℕ} → Moved m u v → Moved m v w → Moved m u w
moved_then a b = record { frame = frame_then a.frame b.frame; rest = λ j x y z t. b.rest j x y z t ∙ a.rest j x y z t }

-- a change of the counts alone is such a change
pub moved_kept : {m : ℕ} {w w' : List ℕ} → Kept m w w' → Moved m w w'
moved_kept k = record { frame = frame_more refl k.frame; rest = k.rest }

-- a change of the realised pins alone is such a change
pub moved_real : {m : ℕ} {w w' : List ℕ} → Frame (STACK ∷ MARK ∷ []) m w w' → Moved m w w'
moved_real f = record { frame = frame_more refl f; rest = λ j a b c d. f.past refl j a }

module _ {C : Context} {m k : ℕ} {s : Puts} {gates pl w : List ℕ} (A : Putting C m k s gates pl w) where
  -- other numbers, another plan and other realised pins
  pub putting_then : {s' : Puts} {pl' w' xs : List ℕ} → Moved m w w' → Standing C m 1 gates pl' w' → s'.next ≤ k → Marked STACK MARK m s'.real xs w' →
      ((x : ℕ) → In x xs → In x C.X.waiting) → Putting C m k s' gates pl' w'
  putting_then {s'} {pl'} {w'} {xs} v st u real sub =
      let l : list PHASE m k w' ≡ list PHASE m k w = frame_list v.frame PHASE k refl (omega arith) in
      record {
        stands = st;
        waiting = placed_frame A.waiting v.frame refl refl (omega arith) (omega arith);
        needed = rw l (holds_frame A.needed v.frame refl (omega arith));
        low = rw l A.low;
        upto = u;
        real = rw real.held.is real;
        waits = rw real.held.is sub;
      }

  -- ---- no pin is left
  -- past the last pin nothing is put
  pub put_idle : (p : ℕ) → s.next ≡ k → Put C m k (rules.put_cell C.X p) gates s pl w s pl w
  unfolding put_of
  put_idle p e = record {
    now = A;
    moved = moved_none;
    size = refl;
    is = λ ws. put_none C.X p (put_of m k s pl w ws) (span_none PHASE m s.next k w A.needed.few (omega arith));
  }

-- ---- one cell

module _ {C : Context} {m half k p : ℕ} {s : Puts} {gates pl w : List ℕ} (A : CellAt C m half k p s gates pl w) where
  abbrev real : List ℕ
  real = list STACK m s.real w

  low_height : 1 ≤ C.X.K
  low_height = omega (arith, C.low)

  -- the cell stands in the stage
  pub cell_inside : p < length pl
  cell_inside = omega (arith, A.to, A.row, A.now.stands.fair.len, two_step C.X.K, half_height C.X.K low_height)

  same : get_or pl p empty ≡ get_or pl p 0
  same = get_d_any pl p empty 0 cell_inside

  module _ (ne : s.next ≡ k → ⊥) {e : ℕ} (is-next : e ≡ get_or w (PHASE * m + s.next) 0) where
    below : s.next < k
    below = omega (arith, A.now.upto)

    -- the next needed waiting pin stands in the area
    pub next_at : PHASE * m + s.next < length w
    next_at = omega (arith, A.now.stands.base.area.room, A.now.needed.few)

    left_is : span PHASE m s.next k w ≡ e ∷ span PHASE m (s.next + 1) k w
    left_is = rw is-next (span_next PHASE m s.next k w A.now.needed.few below)

    next_low : In e C.X.waiting × (level_at C.X e ≤ 1)
    next_low = rw is-next (A.now.low (get_or w (PHASE * m + s.next) 0) (holds_in_lem A.now.needed s.next below))

    module _ (z : get_or pl p 0 ≡ 4294967295) where
      free : filled (get_or pl p empty) ≡ false
      unfolding filled empty
      free = rw (same, z) refl

      may : Placeable C.X pl 1 p e
      may = record {
        low = omega arith;
        high = low_height;
        row = omega (arith, A.from, A.row);
        end = omega (arith, A.to, A.row);
        free = free;
        listed = C.S.visited.has e next_low.0;
        level = next_low.1;
      }

      -- the next pin may be placed at an empty cell
      pub fill_at : PlaceAt C m 1 half p e gates pl w
      fill_at = may_place A.now.stands A.row may

      module _ {pl1 w1 : List ℕ} (B : Placed C m 1 half p e pl w pl1 w1) where
        kept_real : Marked STACK MARK m s.real real w1
        kept_real = marked_frame A.now.real B.kept.frame refl refl (omega arith) (omega arith)

        stands1 : Standing C m 1 gates pl1 w1
        stands1 = placed_stands A.now.stands A.row may B

        -- the pin placed may be listed as realised
        pub fill_enlist : EnlistAt STACK MARK m s.real e w1
        fill_enlist = enlist_at kept_real stands1.base.area (omega (arith, C.S.bound e may.listed, A.now.stands.base.size)) (omega arith) (omega arith) (λ d. omega arith)

        -- an empty cell takes the next pin, which is realised
        pub put_filled : {w2 : List ℕ} {r : ℕ} → Enlisted STACK MARK m s.real e w1 w2 r → Put C m k (rules.put_cell C.X p) gates s pl w (record { next = s.next + 1; real = r }) pl1 w2
        unfolding put_of rules.fill_in
        put_filled E =
            let now = enlisted kept_real E in
            let v = moved_then (moved_kept B.kept) (moved_real E.frame) in
            record {
              now = putting_then A.now v (stands_frame E.frame refl refl refl stands1) (omega arith) now
                  (λ x i. elim (insert_in x e real i) [ inl d ↦ rw d next_low.0 | inr d ↦ A.now.waits x d ]);
              moved = v;
              size = rw B.plan (length_place1 C.X half p e pl);
              is = λ ws. put_fill C.X p (put_of m k s pl w ws) e (span PHASE m (s.next + 1) k w) left_is free
                  ∙ rw (B.plan, A.row, frame_span v.frame PHASE (s.next + 1) k refl (omega arith), now.held.is) refl;
            }

    module _ (full : get_or pl p 0 ≡ 4294967295 → ⊥) {q : ℕ} (is-cell : q ≡ get_or pl p 0) where
      holds : filled (get_or pl p empty) ≡ true
      unfolding filled empty
      holds = rw (same, ne_eqb (get_or pl p 0) 4294967295 full) refl

      cell_is : get_or pl p empty ≡ q
      cell_is = same ∙ sym is-cell

      -- what stands in a filled cell is a pin of the area
      pub met_pin : q < m
      met_pin =
          let t = A.now.stands.fair.tall 1 (row_at C.X.K 1) p (rows C.X.K 1 low_height) (omega (arith, A.from, A.row)) (omega (arith, A.to, A.row)) holds in
          omega (arith, C.S.bound q (rw cell_is at t.0), A.now.stands.base.size)

      -- the pin met may be listed as realised
      pub met_enlist : EnlistAt STACK MARK m s.real q w
      met_enlist = enlist_at A.now.real A.now.stands.base.area met_pin (omega arith) (omega arith) (λ d. omega arith)

      module _ {b : Bool} (test : b ≡ not (eqb (get_or w (PLACE * m + q) 0) 0)) where
        waits_test : b ≡ mem q C.X.waiting
        waits_test = test ∙ placed_test A.now.waiting q met_pin

        -- a waiting pin met in a filled cell is realised
        pub put_met_waits : b ≡ true → {w1 : List ℕ} {r : ℕ} → Enlisted STACK MARK m s.real q w w1 r → Put C m k (rules.put_cell C.X p) gates s pl w (record { next = s.next; real = r }) pl w1
        unfolding put_of
        put_met_waits t E =
            let i : In q C.X.waiting = sym waits_test ∙ t in
            let now = enlisted A.now.real E in
            let v = moved_real E.frame in
            record {
              now = putting_then A.now v (stands_frame E.frame refl refl refl A.now.stands) A.now.upto now
                  (λ x j. elim (insert_in x q real j) [ inl d ↦ rw d i | inr d ↦ A.now.waits x d ]);
              moved = v;
              size = refl;
              is = λ ws. put_met C.X p (put_of m k s pl w ws) e (span PHASE m (s.next + 1) k w) left_is holds
                  ∙ meet_waits C.X p (put_of m k s pl w ws) q cell_is i
                  ∙ rw (frame_span v.frame PHASE s.next k refl (omega arith), now.held.is) refl;
            }

        -- a pin met that does not wait changes nothing
        pub put_met_not : b ≡ false → Put C m k (rules.put_cell C.X p) gates s pl w s pl w
        unfolding put_of
        put_met_not t = record {
          now = A.now;
          moved = moved_none;
          size = refl;
          is = λ ws. put_met C.X p (put_of m k s pl w ws) e (span PHASE m (s.next + 1) k w) left_is holds
              ∙ meet_not C.X p (put_of m k s pl w ws) q cell_is (sym waits_test ∙ t);
        }

-- ---- a run

cells_snoc : (X : Setting) (n p : ℕ) (t : rules.Put) → rules.put_cells X (n + 1) p t ≡ rules.put_cell X (p + n) (rules.put_cells X n p t)
unfolding rules.put_cells
cells_snoc X zero p t = let z : p + 0 ≡ p = omega arith in rw z refl
cells_snoc X (suc n) p t =
    let z : suc n + 1 ≡ suc (n + 1) = omega arith in
    let y : p + suc n ≡ suc p + n = omega arith in
    rw (z, y) (cells_snoc X n (suc p) (rules.put_cell X p t))

-- before the run's first cell nothing is put
pub put_none_yet : {C : Context} {m k : ℕ} {s : Puts} {gates pl w : List ℕ} (a : ℕ) → Putting C m k s gates pl w → Put C m k (rules.put_cells C.X 0 a) gates s pl w s pl w
unfolding rules.put_cells
put_none_yet a A = record { now = A; moved = moved_none; size = refl; is = λ ws. refl }

module _ {C : Context} {m half k a : ℕ} {s : Puts} {gates pl w : List ℕ} (A : RunAt C m half k a s gates pl w) {i : ℕ} {t : Puts} {pl1 w1 : List ℕ}
    (B : Put C m k (rules.put_cells C.X i a) gates s pl w t pl1 w1) (h : i < 32) where
  -- the next cell of the run may be gone to
  pub run_cell : CellAt C m half k (a + i) t gates pl1 w1
  run_cell = record { now = B.now; row = A.row; from = omega (arith, A.from); to = omega (arith, A.to) }

  -- one cell more of the run is done
  pub run_more : {t2 : Puts} {pl2 w2 : List ℕ} → Put C m k (rules.put_cell C.X (a + i)) gates t pl1 w1 t2 pl2 w2 → Put C m k (rules.put_cells C.X (i + 1) a) gates s pl w t2 pl2 w2
  run_more D = record {
    now = D.now;
    moved = moved_then B.moved D.moved;
    size = D.size ∙ B.size;
    is = λ ws. cells_snoc C.X i a (put_of m k s pl w ws) ∙ rw (B.is ws) (D.is ws);
  }

-- a run ends by position 8,192
pub run_end : {C : Context} {m half k a : ℕ} {s : Puts} {gates pl w : List ℕ} → RunAt C m half k a s gates pl w → a + 32 ≤ 8192
run_end {C} A = omega (arith, A.to, A.row, row_high C.X.K 1 (omega arith) (omega (arith, C.low)) C.high)
