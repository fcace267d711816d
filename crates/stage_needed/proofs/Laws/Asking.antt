-- Rule 6 at one pin: the columns' tests are the definition's, and each branch lists what it says. Assumes nothing.
use mathlib.Core.Path.{◌≡◌, refl, sym, ◌∙◌, ap}
use mathlib.Core.Bool.{Bool, true, false, not}
use mathlib.Core.List.{List, [], ◌∷◌}
use Prim.Native.Nat.{ℕ, zero, suc, ◌+◌, ◌*◌, ◌<◌, ◌≤◌}
use native.Mathlib.Omega.{arith}
use borrow.Author.Tests.{lt-ltb, eq-eqb, ne_eqb}
use lib.Dec.{eqb, ltb}
use lib.ListN.{length, get_or}
use Rattle.rules.specs.Lists.{mem, keep, insert_all}
use Rattle.rules.specs.Cells.{empty, filled}
use Rattle.rules.specs.Graph.{below}
use Rattle.rules.specs.Traversal.{over, level_at}
use Rattle.rules.specs.Placing.{asked, tree_of}
use Rattle.rules.specs.Inside.Lean.{cells_holding, lacks}
use Rattle.rules.proofs.Lists.Members.{split}
use Rattle.rules.proofs.Walk.Levels.{depth_at}
use Rattle.rules.proofs.Tree.Tally.{tree_cells}
use Rattle.columns.specs.Area.{among, Frame}
use Rattle.columns.specs.Fields.{LEVEL, CELLS, NEEDED, PLACE, MARK}
use Rattle.columns.specs.Lists.{list, Marked, Enlisted}
use Rattle.columns.proofs.Area.Columns.{get_or_col}
use Rattle.columns.proofs.Area.Frames.{frame_none, frame_then, frame_col, frame_room}
use Rattle.columns.proofs.Lists.Marks.{marked_self}
use Rattle.stage_walk.specs.Stands.{Context, Levelled}
use Rattle.stage_needed.specs.Needed.{Tells, Needing, Needs, missing, AskAt, ItselfAt, NeedAt}
use Rattle.stage_walk.proofs.Gates.{Both, both_of}

pos_test : (n : ℕ) → ltb 0 n ≡ not (eqb n 0)
pos_test zero = refl
pos_test (suc n) = rw (lt-ltb 0 (suc n) (omega arith), ne_eqb (suc n) 0 (λ e. omega arith))

pin_filled : (p : ℕ) → p < 65536 → filled p ≡ true
unfolding filled empty
pin_filled p h = rw (ne_eqb p 4294967295 (λ e. omega arith))

-- ---- what the columns tell

-- the level column has a pin's level
pub level_told : {C : Context} {m : ℕ} {w : List ℕ} → Levelled C m w → (p : ℕ) → p < m → get_or w (LEVEL * m + p) 0 ≡ level_at C.X p
unfolding level_at
level_told {m = m} {w = w} L p h = sym (get_or_col LEVEL m w p h) ∙ ap (λ (l : List ℕ). get_or l p 0) L.levels

module _ {C : Context} {pl : List ℕ} {m : ℕ} {w : List ℕ} (T : Tells C pl m w) where
  -- what is told stays where its columns are not named
  pub tells_frame : {fs : List ℕ} {w' : List ℕ} → Frame fs m w w' → among fs LEVEL ≡ false → among fs CELLS ≡ false → among fs PLACE ≡ false → Tells C pl m w'
  tells_frame fr a b c = record {
    area = frame_room fr T.area;
    size = T.size;
    waits = λ p h. rw (fr.cell PLACE c (omega arith) p h) (T.waits p h);
    levelled = record { levels = frame_col fr LEVEL a (omega arith) ∙ T.levelled.levels };
    cells = λ x h. fr.cell CELLS b (omega arith) x h ∙ T.cells x h;
  }

  tells_level : (p : ℕ) → p < m → get_or w (LEVEL * m + p) 0 ≡ level_at C.X p
  tells_level = level_told T.levelled

  -- a pin has cells exactly where it is in the tree
  pub tells_placed : (p : ℕ) → p < m → not (eqb (get_or w (CELLS * m + p) 0) 0) ≡ mem p (tree_of C.X pl)
  unfolding tree_of
  tells_placed p h = rw (T.cells p h) (sym (pos_test (cells_holding C.X.K pl p)) ∙ sym (tree_cells C.X.K pl p (pin_filled p (omega (arith, T.area.small)))))

-- ---- the list

module _ {C : Context} {pl : List ℕ} {m : ℕ} {w : List ℕ} {n : ℕ} (N : Needing C pl m w n) where
  -- with more pins listed the list is still under way
  pub needs_frame : {w' : List ℕ} {n' : ℕ} {ys : List ℕ} → Needs m w n w' n' ys → Needing C pl m w' n'
  needs_frame s = record { tells = tells_frame N.tells s.frame refl refl refl; now = marked_self s.now }

  -- nothing asked changes nothing
  pub needs_none : {ys : List ℕ} → ys ≡ [] → Needs m w n w n ys
  unfolding insert_all
  needs_none e = rw e (record { frame = frame_none; now = N.now })

  -- one pin asked for goes behind it, unless it is there
  pub needs_one : {p : ℕ} {ys : List ℕ} {w' : List ℕ} {n' : ℕ} → ys ≡ p ∷ [] → Enlisted NEEDED MARK m n p w w' n' → Needs m w n w' n' ys
  unfolding insert_all
  needs_one e E = rw e (record { frame = E.frame; now = E.now })

keep_yes : (t : ℕ → Bool) (q : ℕ) → t q ≡ true → keep t (q ∷ []) ≡ q ∷ []
unfolding keep
keep_yes t q e = rw (e, keep)

keep_no : (t : ℕ → Bool) (q : ℕ) → t q ≡ false → keep t (q ∷ []) ≡ []
unfolding keep
keep_no t q e = rw (e, keep)

insert_two : (t : ℕ → Bool) (a b : ℕ) (xs : List ℕ) → insert_all (keep t (b ∷ [])) (insert_all (keep t (a ∷ [])) xs) ≡ insert_all (keep t (a ∷ b ∷ [])) xs
unfolding keep insert_all
insert_two t a b xs = split (t a) (λ e. rw (e, keep)) (λ e. rw (e, keep))

-- ---- an operand

module _ {C : Context} {pl : List ℕ} {m : ℕ} {w : List ℕ} {n q : ℕ} (A : AskAt C pl m w n q) where
  module _ (l : ℕ) (el : l ≡ get_or w (LEVEL * m + q) 0) where
    -- an operand above level 0 is not needed
    pub ask_high : (l ≡ 0 → ⊥) → Needs m w n w n (keep (missing C pl) (q ∷ []))
    ask_high ne = needs_none A.needing (keep_no (missing C pl) q (rw (ne_eqb (level_at C.X q) 0 (λ e. ne (el ∙ tells_level A.needing.tells q A.pin ∙ e)))))

    module _ (z : l ≡ 0) where
      zero_level : eqb (level_at C.X q) 0 ≡ true
      zero_level = eq-eqb (level_at C.X q) 0 (sym (tells_level A.needing.tells q A.pin) ∙ sym el ∙ z)

      module _ (b : Bool) (eb : b ≡ not (eqb (get_or w (CELLS * m + q) 0) 0)) where
        there : mem q (tree_of C.X pl) ≡ b
        there = sym (tells_placed A.needing.tells q A.pin) ∙ sym eb

        -- an operand that is placed is not needed either
        pub ask_placed : b ≡ true → Needs m w n w n (keep (missing C pl) (q ∷ []))
        ask_placed e = needs_none A.needing (keep_no (missing C pl) q (rw (zero_level, there ∙ e)))

        -- an unplaced operand of level 0 is needed
        pub ask_missing : {w' : List ℕ} {n' : ℕ} → b ≡ false → Enlisted NEEDED MARK m n q w w' n' → Needs m w n w' n' (keep (missing C pl) (q ∷ []))
        ask_missing e E = needs_one A.needing (keep_yes (missing C pl) q (rw (zero_level, there ∙ e))) E

-- ---- the pin itself

module _ {C : Context} {pl : List ℕ} {m : ℕ} {w : List ℕ} {n p l : ℕ} (A : ItselfAt C pl m w n p l) where
  -- a pin of level 1 is needed itself
  pub itself_one : {w' : List ℕ} {n' : ℕ} → l ≡ 1 → Enlisted NEEDED MARK m n p w w' n' → Needs m w n w' n' (asked C.X (tree_of C.X pl) p l)
  unfolding asked
  itself_one e E = needs_one A.needing (rw e) E

  module _ (ne : l ≡ 1 → ⊥) (b : Bool) (eb : b ≡ not (eqb (get_or w (PLACE * m + p) 0) 0)) where
    none : l ≡ 0
    none = omega (arith, A.low)

    waits : mem p C.X.waiting ≡ b
    waits = sym (A.needing.tells.waits p A.pin) ∙ sym eb

    -- a waiting pin of level 0 is needed itself
    pub itself_waits : {w' : List ℕ} {n' : ℕ} → b ≡ true → Enlisted NEEDED MARK m n p w w' n' → Needs m w n w' n' (asked C.X (tree_of C.X pl) p l)
    unfolding asked
    itself_waits e E = needs_one A.needing (rw none (keep_yes (λ q. mem q C.X.waiting) p (waits ∙ e))) E

    -- a pin of level 0 that does not wait is not needed
    pub itself_not : b ≡ false → Needs m w n w n (asked C.X (tree_of C.X pl) p l)
    unfolding asked
    itself_not e = needs_none A.needing (rw none (keep_no (λ q. mem q C.X.waiting) p (waits ∙ e)))

-- ---- any pin

module _ {C : Context} {pl : List ℕ} {m : ℕ} {gates w : List ℕ} {n p : ℕ} (A : NeedAt C pl m gates w n p) where
  -- a listed pin is a pin of the area
  pub need_pin : p < m
  need_pin = omega (arith, C.S.bound p A.listed, A.reads.base.size)

  module _ (b : Bool) (eb : b ≡ not (eqb (get_or w (CELLS * m + p) 0) 0)) where
    in_tree : mem p (tree_of C.X pl) ≡ b
    in_tree = sym (tells_placed A.needing.tells p need_pin) ∙ sym eb

    -- a placed pin asks for nothing
    pub need_placed : b ≡ true → Needs m w n w n (lacks C.X (tree_of C.X pl) p)
    unfolding lacks
    need_placed e = needs_none A.needing (rw (in_tree ∙ e, lacks))

    module _ (out : b ≡ false) (l : ℕ) (el : l ≡ get_or w (LEVEL * m + p) 0) where
      level : l ≡ level_at C.X p
      level = el ∙ tells_level A.needing.tells p need_pin

      opened : lacks C.X (tree_of C.X pl) p ≡ asked C.X (tree_of C.X pl) p l
      unfolding lacks
      opened = rw (in_tree ∙ out, lacks, level)

      -- an unplaced pin of level 0 or 1 asks for itself
      pub itself_at : l < 2 → ItselfAt C pl m w n p l
      itself_at h = record { needing = A.needing; pin = need_pin; level = level; low = h }

      -- what a pin of level 0 or 1 makes needed is itself, or nothing
      pub need_itself : {w' : List ℕ} {n' : ℕ} → Needs m w n w' n' (asked C.X (tree_of C.X pl) p l) → Needs m w n w' n' (lacks C.X (tree_of C.X pl) p)
      need_itself s = rw opened s

      -- a pin of level 2 or more is followed to some
      pub need_some : 2 ≤ l → below C.X.g C.X.done p ≡ [] → ⊥
      unfolding over
      need_some h z =
          let n : level_at C.X p ≡ 0 =
          C.S.level p A.listed ∙ depth_at C.X.g C.X.done C.r C.S.ranked (length C.X.g) p (C.S.fuel p A.listed) ∙ rw z in
          omega (arith, level)

      module _ (h : 2 ≤ l) (a b₂ : ℕ) (e : below C.X.g C.X.done p ≡ a ∷ b₂ ∷ []) where
        both : Both C m p a b₂
        both = both_of C A.reads p a b₂ e

        -- a pin of level 2 or more asks for its first operand
        pub ask_first : AskAt C pl m w n a
        ask_first = record { needing = A.needing; pin = both.in_first }

        two_asked : asked C.X (tree_of C.X pl) p l ≡ keep (missing C pl) (a ∷ b₂ ∷ [])
        unfolding asked
        two_asked = by l h
          where
            by : (l : ℕ) → 2 ≤ l → asked C.X (tree_of C.X pl) p l ≡ keep (missing C pl) (a ∷ b₂ ∷ [])
            by zero h = absurd (omega arith)
            by (suc zero) h = absurd (omega arith)
            by (suc (suc l)) h = rw both.is

        module _ {w₁ : List ℕ} {n₁ : ℕ} (s : Needs m w n w₁ n₁ (keep (missing C pl) (a ∷ []))) where
          -- then it asks for its second operand
          pub ask_second : AskAt C pl m w₁ n₁ b₂
          ask_second = record { needing = needs_frame A.needing s; pin = both.in_second }

          -- a pin of level 2 or more makes those of its two operands needed that are missing
          pub need_both : {w₂ : List ℕ} {n₂ : ℕ} → Needs m w₁ n₁ w₂ n₂ (keep (missing C pl) (b₂ ∷ [])) → Needs m w n w₂ n₂ (lacks C.X (tree_of C.X pl) p)
          need_both {w₂} {n₂} t = rw (opened, two_asked) (record { frame = frame_then s.frame t.frame; now = now })
            where
              now : Marked NEEDED MARK m n₂ (insert_all (keep (missing C pl) (a ∷ b₂ ∷ [])) (list NEEDED m n w)) w₂
              now = rw (s.now.held.is, insert_two (missing C pl) a b₂ (list NEEDED m n w)) at t.now
