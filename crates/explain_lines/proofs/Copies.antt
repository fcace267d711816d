-- One note copied and cleared, then all of them from level 13 down. Assumes nothing.
use Prim.Native.Nat.{ℕ, zero, suc, ◌+◌, ◌-◌, ◌*◌, ◌<◌, ◌≤◌}
use mathlib.Core.Path.{◌≡◌, refl, sym, ap, ◌∙◌}
use mathlib.Core.Logic.{◌≢◌, ◌⊎◌, inl, inr}
use mathlib.Core.List.{List, [], ◌∷◌, ◌++◌}
use native.Mathlib.Omega.{arith}
use native.Mathlib.Decide.{ℕ_discrete}
use lib.ListN.{length, get_or, set, length-append}
use lib.Seq.{get_or-set_same, get_or-set_other, set-get_or}
use Rattle.columns.specs.Area.{Room}
use Rattle.columns.proofs.Area.Frames.{frame_none, frame_then, frame_room}
use Rattle.stage_notes.specs.Taken.{Taken}
use Rattle.stage_notes.specs.Notes.{notes, note_at, notes_down, Bare}
use Rattle.stage_notes.proofs.Noting.{notes_length, notes_at, notes_set, one}
use Rattle.stage_notes.proofs.Reading.{note_none, note_some, note_same}
use Rattle.why_form.specs.Why.{Line, back, back_lines, numbers}
use Rattle.explain_lines.specs.Lines.{six, put_six, put_lines}
use Rattle.explain_lines.specs.Copies.{Kept, NoteAt, Copied, NotesAt, AllCopied, Copying}
use Rattle.explain_lines.proofs.Lines.{lines_more}

kept_none : (m : ℕ) (w : List ℕ) → Kept m w w
kept_none m w = record { frame = frame_none; low = λ j h. refl }

kept_then : {m : ℕ} {u v w : List ℕ} → Kept m u v → Kept m v w → Kept m u w
kept_then a b = record { frame = frame_then a.frame b.frame; low = λ j h. b.low j h ∙ a.low j h }

-- ---- one level

module _ {m h n : ℕ} {w : List ℕ} (A : NoteAt m h n w) where
  -- a number of the level's note
  note_number : (a i : ℕ) → a < 4 → i ≡ 16 * m + 260 + 4 * h + a → get_or w i 0 ≡ get_or (notes m w) (4 * h + a) 0
  note_number a i b e = let z : i ≡ 16 * m + (260 + (4 * h + a)) = omega arith in rw z (sym (notes_at m w (4 * h + a) (omega (arith, A.high))))

  none_is : get_or w (16 * m + 260 + 4 * h + 3) 0 ≡ 0 → get_or (notes m w) (4 * h + 3) 0 ≡ 0
  none_is e = sym (note_number 3 (16 * m + 260 + 4 * h + 3) (omega arith) refl) ∙ e

  -- no note
  pub copied_none : (stage : ℕ) (list : List ℕ) → get_or w (16 * m + 260 + 4 * h + 3) 0 ≡ 0 → Copied m h stage n w list n w list
  unfolding put_lines back_lines
  copied_none stage list e =
      let d : note_at h (notes m w) ≡ [] = note_none h (notes m w) (none_is e) in
      record {
        count = rw d (omega arith);
        lines = rw d refl;
        cleared = sym (ap (set (notes m w) (4 * h + 3)) (sym (none_is e)) ∙ set-get_or (notes m w) (4 * h + 3) 0);
        kept = kept_none m w;
      }

  module _ (stage p c o d : ℕ) (ep : p ≡ get_or w (16 * m + 260 + 4 * h) 0) (ec : c ≡ get_or w (16 * m + 260 + 4 * h + 1) 0) (eo : o ≡ get_or w (16 * m + 260 + 4 * h + 2) 0) (ed : d ≡ get_or w (16 * m + 260 + 4 * h + 3) 0) (some : d ≢ 0) where
    note_is : note_at h (notes m w) ≡ record { pin = p; needed = c; ones = o; pins = d } ∷ []
    note_is =
        let z : 4 * h + 0 ≡ 4 * h = omega arith in
        let a0 : get_or w (16 * m + 260 + 4 * h) 0 ≡ get_or (notes m w) (4 * h) 0 = rw z at (note_number 0 (16 * m + 260 + 4 * h) (omega arith) (omega arith)) in
        note_some h (notes m w) d (omega arith) (sym (ep ∙ a0)) (sym (ec ∙ note_number 1 (16 * m + 260 + 4 * h + 1) (omega arith) refl)) (sym (eo ∙ note_number 2 (16 * m + 260 + 4 * h + 2) (omega arith) refl)) (sym (ed ∙ note_number 3 (16 * m + 260 + 4 * h + 3) (omega arith) refl))

    -- a note becomes a line
    pub copied_some : {w' list list' : List ℕ} → w' ≡ set w (16 * m + (260 + 4 * h + 3)) 0 → list' ≡ put_six n (1 ∷ stage ∷ p ∷ c ∷ o ∷ d ∷ []) list → Copied m h stage n w list (n + 1) w' list'
    unfolding put_lines back_lines numbers
    copied_some {w'} {list} {list'} e1 e2 =
        let s = one m (260 + 4 * h + 3) 0 w in
        record {
          count = rw note_is (omega arith);
          lines = rw note_is e2;
          cleared = ap (notes m) e1 ∙ notes_set m w (4 * h + 3) (260 + 4 * h + 3) 0 (omega (arith, A.high)) (omega arith) A.area.room;
          kept = rw e1 (record { frame = s.frame; low = λ j b. s.rest j (λ e. omega arith) });
        }

-- ---- all levels

down_set : (h i : ℕ) (ns : List ℕ) → h < i → notes_down h (set ns (4 * i + 3) 0) ≡ notes_down h ns
unfolding notes_down
down_set zero i ns l = refl
down_set (suc zero) i ns l = refl
down_set (suc (suc h)) i ns l =
    let a : note_at (suc (suc h)) (set ns (4 * i + 3) 0) ≡ note_at (suc (suc h)) ns = note_same (suc (suc h)) ns (set ns (4 * i + 3) 0) (λ a b. get_or-set_other ns (4 * i + 3) (4 * suc (suc h) + a) 0 0 (λ e. omega arith)) in
    rw (a, down_set (suc h) i ns (omega arith)) refl

back_append : (k : ℕ) (ts us : List Taken) → back_lines k (ts ++ us) ≡ back_lines k ts ++ back_lines k us
unfolding back_lines
back_append k [] us = refl
back_append k (t ∷ ts) us = ap (λ (ls : List Line). back k t.pin t.needed t.ones t.pins ∷ ls) (back_append k ts us)

back_length : (k : ℕ) (ts : List Taken) → length (back_lines k ts) ≡ length ts
unfolding back_lines
back_length k [] = refl
back_length k (t ∷ ts) = ap suc (back_length k ts)

down_step : (h : ℕ) (ns : List ℕ) → 2 ≤ h → notes_down h ns ≡ note_at h ns ++ notes_down (h - 1) ns
unfolding notes_down
down_step zero ns l = absurd (omega arith)
down_step (suc zero) ns l = absurd (omega arith)
down_step (suc (suc h)) ns l = let z : suc (suc h) - 1 ≡ suc h = omega arith in rw z refl

note_few : (h : ℕ) (ns : List ℕ) → length (note_at h ns) ≤ 1
note_few h ns = few (get_or ns (4 * h + 3) 0) refl
  where
    few : (d : ℕ) → get_or ns (4 * h + 3) 0 ≡ d → length (note_at h ns) ≤ 1
    few zero e = rw (note_none h ns e) (omega arith)
    few (suc d) e = rw (note_some h ns (suc d) (omega arith) refl refl refl e) (omega arith)

same_or : (i j : ℕ) → (i ≡ j) ⊎ (i ≢ j)
same_or i j = go (ℕ_discrete i j)
  where
    go : Dec (i ≡ j) → (i ≡ j) ⊎ (i ≢ j)
    go (yes e) = inl e
    go (no n) = inr n

module _ {m stage n : ℕ} {w list : List ℕ} where
  -- at the start
  pub copying_none : Copying m stage n w list 13 n w list
  copying_none = record { count = refl; lines = refl; above = λ i a b. absurd (omega arith); kept = kept_none m w; low = omega arith; high = omega arith; few = omega arith }

  module _ {h r : ℕ} {w' list' : List ℕ} (G : Copying m stage n w list h r w' list') where
    -- the next level may be copied
    pub copying_next : NotesAt m n w → NoteAt m h r w'
    copying_next A = record { area = frame_room G.kept.frame A.area; high = G.high; few = omega (arith, A.few, G.few, G.high) }

    -- and is
    pub copying_more : 1 < h → {q : ℕ} {w2 list2 : List ℕ} → Copied m h stage r w' list' q w2 list2 → Copying m stage n w list (h - 1) q w2 list2
    copying_more l {q} {w2} {list2} C =
        let ns : List ℕ = notes m w' in
        let d : notes_down (h - 1) (notes m w2) ≡ notes_down (h - 1) ns = ap (notes_down (h - 1)) C.cleared ∙ down_set (h - 1) h ns (omega arith) in
        let s : notes_down h ns ≡ note_at h ns ++ notes_down (h - 1) ns = down_step h ns (omega arith) in
        record {
          count = G.count ∙ rw (s, d, length-append (note_at h ns) (notes_down (h - 1) ns)) (omega (arith, C.count));
          lines = G.lines ∙ ap (λ (ts : List Taken). put_lines r (back_lines stage ts) list') s ∙ ap (λ (ls : List Line). put_lines r ls list') (back_append stage (note_at h ns) (notes_down (h - 1) ns))
              ∙ lines_more r (back_lines stage (note_at h ns)) (back_lines stage (notes_down (h - 1) ns)) list' ∙ rw (back_length stage (note_at h ns), ← C.count, ← C.lines, d) refl;
          above = λ i a b. ap (λ (xs : List ℕ). get_or xs (4 * i + 3) 0) C.cleared ∙ cleared i a b;
          kept = kept_then G.kept C.kept;
          low = omega arith;
          high = omega (arith, G.high);
          few = omega (arith, C.count, note_few h ns, G.few);
        }
      where
        cleared : (i : ℕ) → h - 1 < i → i ≤ 13 → get_or (set (notes m w') (4 * h + 3) 0) (4 * i + 3) 0 ≡ 0
        cleared i a b = elim (same_or i h) [
          | inl e ↦ rw e (get_or-set_same (notes m w') (4 * h + 3) 0 0 (omega (arith, notes_length m w', G.high)))
          | inr e ↦ get_or-set_other (notes m w') (4 * h + 3) (4 * i + 3) 0 0 (λ z. e (omega arith)) ∙ G.above i (omega arith) b
        ]

    -- below level 2 all are
    pub all_copied : h ≤ 1 → AllCopied m stage n w list r w' list'
    unfolding put_lines back_lines notes_down
    all_copied l =
        let z : notes_down h (notes m w') ≡ [] = low h (notes m w') l in
        record {
          count = sym (G.count ∙ rw z (omega arith));
          lines = sym (G.lines ∙ rw z refl);
          bare = record { none = λ i a b. G.above i (omega arith) b };
          few = omega (arith, G.few, G.low);
          kept = G.kept;
        }
      where
        low : (h : ℕ) (ns : List ℕ) → h ≤ 1 → notes_down h ns ≡ []
        low zero ns l = refl
        low (suc zero) ns l = refl
        low (suc (suc h)) ns l = absurd (omega arith)
