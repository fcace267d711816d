-- The loop over levels, down to level 2. Assumes nothing.
use Prim.Native.Nat.{ℕ, zero, suc, ◌+◌, ◌-◌, ◌*◌, ◌≤◌, ◌<◌}
use mathlib.Core.Path.{◌≡◌, refl, sym, ◌∙◌}
use mathlib.Core.List.{List}
use native.Mathlib.Omega.{arith}
use native.Mathlib.Nat.{pow-succ'}
use native.Mathlib.Numerals.{add-one}
use lib.ListN.{length, get_or}
use Rattle.rules.specs.Cells.{row_at}
use Rattle.rules.specs.Traversal.{Setting}
use Rattle.rules.specs.Inside.Lean.{candidates, lean, onward}
use Rattle.rules.proofs.Tree.Loads.{rows, wide}
use Rattle.rules.proofs.Stage.Staged.{two_step}
use Rattle.rules.proofs.Lean.Lean.{going_first}
use Rattle.rules.proofs.Lean.Turns.{onward_level}
use Rattle.columns.specs.Fields.{STARTS, ENDS}
use Rattle.stage_walk.specs.Stands.{Context, ranked}
use Rattle.stage_walk.proofs.Contexts.{work}
use Rattle.stage_notes.specs.Notes.{notes}
use Rattle.stage_notes.proofs.Turns.{notes_level, notes_low}
use Rattle.stage_loop.specs.Loop.{At, Ended, LeanAt, Leaned, Leaning}
use Rattle.stage_loop.proofs.Laws.Tries.{moved_then, noted_kept, clear_kept}

-- ---- the loop over levels
lean_one : (X : Setting) (b : ℕ) (pl : List ℕ) (l : ℕ) → l ≡ 0 → lean X (suc l) b pl ≡ pl
unfolding lean
lean_one X b pl l e = rw (e, lean) refl

lean_two : (X : Setting) (b : ℕ) (pl : List ℕ) (l : ℕ) → 0 < l → lean X (suc l) b pl ≡ onward X l (candidates X (suc l)) b pl
lean_two X b pl zero h = absurd (omega arith)
lean_two X b pl (suc l) h = onward_level X l b pl

row_up : (K l : ℕ) → suc l ≤ K → 0 < l → 2 * row_at K (suc l) ≡ row_at K (suc (l - 1))
unfolding row_at
row_up K l a b = let z : K - suc (l - 1) ≡ suc (K - suc l) = omega arith in rw (z, pow-succ' 2 (K - suc l)) refl

module _ {C : Context} {m n k l wd half : ℕ} {gates pl w : List ℕ} {b : ℕ} (A : LeanAt C m n k l wd half gates pl w b) where
  -- the level's row stands in the stage
  pub lean_width : wd + wd ≤ length pl
  lean_width = omega (arith, A.wide.row, rows C.X.K (suc l) A.wide.high, two_step C.X.K, A.plan.fair.len, wide (row_at C.X.K (suc l)) (suc l))

  module _ (pos : 0 < l) (start e : ℕ) (es : start ≡ get_or w (STARTS * m + (l + 1)) 0) (ee : e ≡ get_or w (ENDS * m + (l + 1)) 0) where
    list_is : ranked m w start e ≡ candidates C.X (suc l)
    list_is = rw (es, ee, add-one l) (A.plan.set.listed.lists (suc l) (omega arith) A.wide.high A.deep)

    span : (start ≤ e) × (e ≤ m)
    span = rw (es, ee, add-one l) (A.plan.set.listed.spans (suc l) (omega arith) A.wide.high A.deep)

    -- the level's candidates may be gone through
    pub lean_go : At C m n k l wd half gates pl w start e b
    lean_go = record {
      set = A.plan.set;
      clear = A.plan.clear;
      tally = A.plan.tally;
      going = rw list_is (going_first (work C) (suc l) b pl A.plan.fair A.enough);
      wide = A.wide;
      cap = A.cap;
      before = span.0;
      inside = span.1;
      few = A.few;
    }

    -- when they are, the loop stands one level lower
    pub lean_down : {pl' w' : List ℕ} {b' : ℕ} → Ended C m l pl w start e b pl' w' b' → Leaning C m n k l (2 * wd) half gates pl w b (l - 1) pl' w' b'
    lean_down E =
        let z : suc (l - 1) ≡ l = omega arith in
        record {
          same = lean_two C.X b pl l pos ∙ rw (← list_is, z) E.same;
          told = notes_level C.X l b pl (notes m w) pos ∙ rw (← list_is, z) E.told;
          kept = E.kept;
          at = record {
            plan = record { set = noted_kept E.kept A.plan.set; clear = clear_kept E.kept A.plan.clear; tally = E.tally; fair = rw z E.fair };
            wide = record { low = omega arith; high = omega (arith, A.wide.high); row = rw A.wide.row (row_up C.X.K l A.wide.high pos) };
            cap = A.cap;
            enough = E.enough;
            few = E.few;
            deep = omega (arith, A.deep);
          };
        }

-- some levels and some more
pub leaning_then : {C : Context} {m n k top wd half : ℕ} {gates pl w : List ℕ} {most : ℕ} {l : ℕ} {pl' w' : List ℕ} {b : ℕ} {wd2 d : ℕ} {pl2 w2 : List ℕ} {b2 : ℕ} →
    Leaning C m n k top wd half gates pl w most l pl' w' b → Leaning C m n k l wd2 half gates pl' w' b d pl2 w2 b2 → Leaning C m n k top wd2 half gates pl w most d pl2 w2 b2
leaning_then a c = record { same = a.same ∙ c.same; told = a.told ∙ c.told; kept = moved_then a.kept c.kept; at = c.at }

-- below level 2 the loop has ended
pub leaned : {C : Context} {m n k top wd half : ℕ} {gates pl w : List ℕ} {most l : ℕ} {pl' w' : List ℕ} {b : ℕ} → Leaning C m n k top wd half gates pl w most l pl' w' b → l ≡ 0 →
    Leaned C m top pl w most pl' w'
leaned {C} {m} {l = l} {pl' = pl'} {w' = w'} {b = b} L z = record {
  same = sym (L.same ∙ lean_one C.X b pl' l z);
  told = sym (L.told ∙ notes_low C.X (suc l) b pl' (notes m w') (omega arith));
  kept = L.kept;
  tally = L.at.plan.tally;
}
