-- One turn at a level, and a sweep of turns down its candidates. Assumes nothing.
use Prim.Native.Nat.{ℕ, zero, suc, ◌+◌, ◌*◌, ◌≤◌, ◌<◌}
use mathlib.Core.Path.{◌≡◌, refl, sym, ap, ◌∙◌}
use mathlib.Core.Bool.{true, false, not, true≢false}
use mathlib.Core.List.{List, ◌∷◌}
use native.Mathlib.Omega.{arith}
use native.Mathlib.Numerals.{add-one}
use lib.Dec.{ltb, eqb}
use lib.ListN.{length, get_or}
use borrow.Author.Tests.{lt-ltb, le-ltb, ne_eqb}
use Rattle.rules.specs.Lists.{found, mem, In, Out}
use Rattle.rules.specs.Cells.{row_at}
use Rattle.rules.specs.Traversal.{level_at}
use Rattle.rules.specs.Placing.{tree_of, cell_at, placed}
use Rattle.rules.specs.Inside.Lean.{wanted, recount}
use Rattle.rules.proofs.Lists.Members.{in_here, in_append_right}
use Rattle.rules.specs.Inside.Plans.{Placeable, Going}
use Rattle.rules.proofs.Tree.Fair.{fair_kept, fair_down, listed_filled}
use Rattle.rules.proofs.Tree.Invariant.{row_empty}
use Rattle.rules.proofs.Tree.Loads.{rows, wide}
use Rattle.rules.proofs.Tree.Cursor.{behind_first, behind_placed}
use Rattle.rules.proofs.Tree.Tally.{tree_cells}
use Rattle.rules.proofs.Stage.Staged.{two_step}
use Rattle.rules.proofs.Lean.Pick.{candidate}
use Rattle.rules.proofs.Lean.Lean.{going_skip, going_placed, fewer_needed, recount_found}
use Rattle.rules.proofs.Lean.Turns.{onward_end, onward_skip, onward_no_cell, onward_no_room, onward_placed}
use Rattle.columns.specs.Fields.{CELLS, RANKED}
use Rattle.stage_walk.specs.Stands.{Context, ranked}
use Rattle.stage_walk.proofs.Contexts.{work}
use Rattle.stage_walk.proofs.Ranked.{ranked_cons, ranked_end}
use Rattle.stage_tree.specs.Search.{First}
use Rattle.stage_tree.proofs.Search.{cell_found, cell_none, cursor_first, cursor_behind}
use Rattle.stage_notes.specs.Notes.{notes, lean_notes}
use Rattle.stage_notes.proofs.Turns.{notes_end, notes_skip, notes_no_cell, notes_no_room, notes_placed}
use Rattle.stage_loop.specs.Loop.{NotedSet, TryAt, Tried, At, Next, Ended, Gone, Turned}
use Rattle.std.specs.Prelude.{Some, None, Ok, Err}
use Rattle.stage_loop.specs.declared.lean.NoRoom.{NoRoom}
use Rattle.stage_loop.proofs.Laws.Tries.{moved_none, moved_then, ranked_kept, noted_kept, clear_kept}

-- ---- one turn
module _ {C : Context} {m n k l wd half : ℕ} {gates pl w : List ℕ} {i e b from : ℕ} (N : Next C m n k l wd half gates pl w i e b from) (q : ℕ) (pin : q ≡ get_or w (RANKED * m + i) 0) where
  R : NotedSet C m n k gates w
  R = N.at.set

  now_list : ranked m w i e ≡ q ∷ ranked m w (i + 1) e
  now_list = rw pin (ranked_cons m w i e N.more N.at.inside (omega (arith, R.begun.base.area.room)))

  G : Going C.X (suc l) (q ∷ ranked m w (i + 1) e) b pl
  G = rw now_list at N.at.going

  head_in : In q C.X.seen × (level_at C.X q ≡ suc l)
  head_in = candidate (work C) (suc l) q (rw G.whole (in_append_right q G.before (q ∷ ranked m w (i + 1) e) (in_here q (ranked m w (i + 1) e))))

  -- a candidate is a pin of the area
  pub pin_small : q < m
  pin_small = omega (arith, C.S.bound q head_in.0, R.begun.base.size)

  in_tree : mem q (tree_of C.X pl) ≡ ltb 0 (get_or w (CELLS * m + q) 0)
  unfolding tree_of
  in_tree = rw (N.at.tally.cells q pin_small) (tree_cells C.X.K pl q (listed_filled (work C) q head_in.0))

  -- a candidate that is in the tree already is passed over
  pub turned_skip : 0 < get_or w (CELLS * m + q) 0 → Turned C m n k l wd half gates pl w i e b pl w (Some (b, from))
  turned_skip pos =
      let t : In q (tree_of C.X pl) = in_tree ∙ lt-ltb 0 (get_or w (CELLS * m + q) 0) pos in
      record {
        same = rw now_list (onward_skip C.X l b pl q (ranked m w (i + 1) e) t);
        told = rw now_list (notes_skip C.X l b pl (notes m w) q (ranked m w (i + 1) e) t);
        kept = moved_none m w;
        at = record {
          set = R;
          clear = N.at.clear;
          tally = N.at.tally;
          going = going_skip (work C) G t;
          wide = N.at.wide;
          cap = N.at.cap;
          before = omega (arith, N.more);
          inside = N.at.inside;
          few = N.at.few;
        };
        cursor = N.cursor;
      }

  module _ (out : get_or w (CELLS * m + q) 0 ≡ 0) (p : ℕ) (F₀ : First pl from (2 * wd) p) where
    F : First pl wd (2 * wd) p
    F = cursor_first N.cursor F₀

    not_in : Out q (tree_of C.X pl)
    not_in = in_tree ∙ le-ltb 0 (get_or w (CELLS * m + q) 0) (omega arith)

    -- no empty cell: the level ends
    pub turned_no_cell : 2 * wd ≤ p → Turned C m n k l wd half gates pl w i e b pl w None
    turned_no_cell none = record {
      same = rw now_list (onward_no_cell C.X l b pl q (ranked m w (i + 1) e) not_in (cell_none C.X (suc l) wd N.at.wide.row pl p F none));
      told = rw now_list (notes_no_cell C.X l b pl (notes m w) q (ranked m w (i + 1) e) not_in (cell_none C.X (suc l) wd N.at.wide.row pl p F none));
      fair = fair_down (work C) l N.at.going.fair;
      enough = N.at.going.enough;
      few = N.at.few;
      kept = moved_none m w;
      tally = N.at.tally;
    }

    module _ (some : p < 2 * wd) where
      at_cell : cell_at C.X (suc l) pl ≡ found p
      at_cell = cell_found C.X (suc l) wd N.at.wide.row pl p F some

      able : Placeable C.X pl (suc l) p q
      unfolding cell_at
      able = let c = row_empty C.X.K (suc l) pl p at_cell in record { low = omega arith; high = N.at.wide.high; row = c.0; end = c.1; free = c.2; listed = head_in.0; level = omega (arith, head_in.1) }

      try : TryAt C m n k (suc l) wd half p q b gates pl w
      try = record { plan = record { set = R; clear = N.at.clear; tally = N.at.tally; fair = N.at.going.fair }; wide = N.at.wide; able = able; cap = N.at.cap; few = N.at.few }

      -- an empty cell: the candidate may be tried there
      pub try_at : TryAt C m n k (l + 1) wd half p q b gates pl w
      try_at = rw (add-one l) try

      module _ {pl' w' : List ℕ} where
        -- a candidate that is taken back ends the level
        pub turned_full : {c : NoRoom} → Tried C m (l + 1) p q b pl w pl' w' (Err c) → Turned C m n k l wd half gates pl w i e b pl' w' None
        turned_full T = record {
          same = rw (now_list, T.plan) (onward_no_room C.X l b pl q (ranked m w (i + 1) e) p not_in at_cell (rw (add-one l) at (sym T.is)));
          told = rw (now_list, T.plan) (notes_no_room C.X l b pl (notes m w) q (ranked m w (i + 1) e) p not_in at_cell (rw (add-one l) at (sym T.is)) ∙
              ap (lean_notes C.X l b pl) (sym (rw (add-one l) at T.told)));
          fair = rw (T.plan) (fair_down (work C) l N.at.going.fair);
          enough = rw (T.plan) N.at.going.enough;
          few = N.at.few;
          kept = T.kept;
          tally = T.tally;
        }

        -- one that stays moves the cursor past its cell
        pub turned_on : {d : ℕ} → Tried C m (l + 1) p q b pl w pl' w' (Ok d) → Turned C m n k l wd half gates pl w i e b pl' w' (Some (d, p + 1))
        turned_on {d} T = gone
          where
            pl1 : List ℕ
            pl1 = placed C.X (suc l) p q pl

            plan : pl' ≡ pl1
            plan = rw (add-one l) at (T.plan)

            bound : recount C.X b pl1 ≡ found d
            bound = rw (add-one l) at (sym T.is)

            few_one : length (wanted C.X pl1) ≤ b
            few_one = omega (arith, fewer_needed (work C) N.at.going.fair able, N.at.going.enough)

            same_list_lem : ranked m w' (i + 1) e ≡ ranked m w (i + 1) e
            same_list_lem = ranked_kept T.kept (i + 1) e (omega (arith, N.more)) N.at.inside

            gone : Gone C m n k l wd half gates pl w i e b pl' w' (i + 1) d (p + 1)
            gone =
                let enough = recount_found (work C) (fair_kept (work C) (suc l) p q N.at.going.fair able) b d few_one bound in
                record {
                  same = rw (now_list, same_list_lem, plan) (onward_placed C.X l b pl q (ranked m w (i + 1) e) p d not_in at_cell bound);
                  told = rw (now_list, same_list_lem, plan, T.told) (notes_placed C.X l b pl (notes m w) q (ranked m w (i + 1) e) p d not_in at_cell bound);
                  kept = T.kept;
                  at = record {
                    set = noted_kept T.kept R;
                    clear = clear_kept T.kept N.at.clear;
                    tally = T.tally;
                    going = rw (same_list_lem, plan) (going_placed (work C) G p d able enough.1);
                    wide = N.at.wide;
                    cap = N.at.cap;
                    before = omega (arith, N.more);
                    inside = N.at.inside;
                    few = T.few;
                  };
                  cursor = record {
                    row = N.at.wide.row;
                    low = omega (arith, F.from);
                    high = omega arith;
                    inside = omega (arith, N.cursor.inside, (fair_kept (work C) (suc l) p q N.at.going.fair able).len, N.at.going.fair.len, ap length plan);
                    behind = rw (plan, add-one p) (behind_placed (work C) (suc l) N.at.wide.high pl p q N.at.going.fair able (cursor_behind N.cursor F₀ some) (omega (arith, N.cursor.inside)));
                  };
                }

-- ---- a sweep: what stands at the start, and after some turns
module _ {C : Context} {m n k l wd half : ℕ} {gates pl w : List ℕ} {i e b : ℕ} where
  -- before the first turn nothing is gone through, and the cursor stands at the row's start
  pub gone_none : At C m n k l wd half gates pl w i e b → Gone C m n k l wd half gates pl w i e b pl w i b wd
  gone_none A = record {
    same = refl;
    told = refl;
    kept = moved_none m w;
    at = A;
    cursor = record {
      row = A.wide.row;
      low = omega arith;
      high = omega arith;
      inside = omega (arith, A.wide.row, rows C.X.K (suc l) A.wide.high, two_step C.X.K, A.going.fair.len, wide (row_at C.X.K (suc l)) (suc l));
      behind = rw A.wide.row (behind_first C.X (suc l) pl);
    };
  }

  module _ {pl' w' : List ℕ} {j b' from : ℕ} (A : Gone C m n k l wd half gates pl w i e b pl' w' j b' from) where
    -- while candidates are left there is a next turn
    pub gone_next : j < e → Next C m n k l wd half gates pl' w' j e b' from
    gone_next t = record { at = A.at; more = t; cursor = A.cursor }

    -- some turns and some more
    pub gone_then : {pl2 w2 : List ℕ} {d b2 f2 : ℕ} → Gone C m n k l wd half gates pl' w' j e b' pl2 w2 d b2 f2 → Gone C m n k l wd half gates pl w i e b pl2 w2 d b2 f2
    gone_then B = record { same = A.same ∙ B.same; told = A.told ∙ B.told; kept = moved_then A.kept B.kept; at = B.at; cursor = B.cursor }

    -- a sweep ends with the last candidate too
    pub gone_end : e ≤ j → Ended C m l pl w i e b pl' w' b'
    gone_end t = record {
      same = A.same ∙ rw (ranked_end m w' j e t) (onward_end C.X l b' pl');
      told = A.told ∙ rw (ranked_end m w' j e t) (notes_end C.X l b' pl' (notes m w'));
      fair = fair_down (work C) l A.at.going.fair;
      enough = A.at.going.enough;
      few = A.at.few;
      kept = A.kept;
      tally = A.at.tally;
    }

-- a test for marks, as numbers
pub marked_some : (x : ℕ) → not (eqb x 0) ≡ true → 0 < x
marked_some zero e = absurd (true≢false (sym e))
marked_some (suc x) e = omega arith

-- a test for marks that fails, as numbers
pub marked_none : (x : ℕ) → not (eqb x 0) ≡ false → x ≡ 0
marked_none zero e = refl
marked_none (suc x) e = absurd (true≢false (rw (ne_eqb (suc x) 0 (λ d. omega arith)) at e))
