-- The notes of a stage that starts with none, read again: the pins that the loop takes back. Assumes nothing.
use Prim.Native.Nat.{ℕ, zero, suc, ◌+◌, ◌-◌, ◌*◌, ◌<◌, ◌≤◌, min}
use mathlib.Core.Path.{◌≡◌, refl, sym, ap, ◌∙◌, subst}
use mathlib.Core.Logic.{◌≢◌}
use mathlib.Core.List.{List, [], ◌∷◌, ◌++◌, map}
use native.Mathlib.Omega.{arith}
use lib.Dec.{leb}
use lib.ListN.{length, get_or, set, length-set}
use lib.Seq.{get_or-set_same, get_or-set_other}
use borrow.Author.Tests.{leb-true, leb-false}
use Rattle.rules.specs.Lists.{mem, In}
use Rattle.rules.specs.Traversal.{Setting, level_at, greatest}
use Rattle.rules.specs.Placing.{tree_of, cell_at, placed}
use Rattle.rules.specs.Inside.Lean.{blank, candidates, wanted, recount, sweep}
use Rattle.rules.specs.Inside.Walks.{Work}
use Rattle.rules.specs.Inside.Plans.{Placeable, Fair, Going}
use Rattle.rules.proofs.Lists.Members.{split, in_here, in_nil, in_append_right}
use Rattle.rules.proofs.Stage.Puts.{cell}
use Rattle.rules.proofs.Tree.Fair.{fair_first, fair_kept, joins}
use Rattle.rules.proofs.Lean.Pick.{candidate}
use Rattle.rules.proofs.Lean.Lean.{at_cell, going_first, going_skip, fewer_needed, going_placed, recount_found, Swept, swept}
use Rattle.stage_notes.specs.Taken.{Taken}
use Rattle.stage_notes.specs.Notes.{weighed, sweep_back, lean_back, lean_backs, note_in, lean_notes, stage_notes, note_of, note_at, notes_down, Bare}
use Rattle.stage_notes.proofs.Turns.{notes_low}

-- no pin, or one
pub data Few : List Taken → Type 0 where
  none : Few []
  one : {t : Taken} → 0 < t.pins → Few (t ∷ [])

-- the notes of other levels stay
note_other : (h i a : ℕ) {ts : List Taken} (ns : List ℕ) → Few ts → h ≢ i → a < 4 → get_or (note_in h ts ns) (4 * i + a) 0 ≡ get_or ns (4 * i + a) 0
unfolding note_in
note_other h i a ns none n b = refl
note_other h i a ns (one {t = t} k) n b =
    let n1 : List ℕ = set ns (4 * h) t.pin in
    let n2 : List ℕ = set n1 (4 * h + 1) t.needed in
    let n3 : List ℕ = set n2 (4 * h + 2) t.ones in
    get_or-set_other n3 (4 * h + 3) (4 * i + a) t.pins 0 (λ e. n (omega arith)) ∙ get_or-set_other n2 (4 * h + 2) (4 * i + a) t.ones 0 (λ e. n (omega arith)) ∙
    get_or-set_other n1 (4 * h + 1) (4 * i + a) t.needed 0 (λ e. n (omega arith)) ∙ get_or-set_other ns (4 * h) (4 * i + a) t.pin 0 (λ e. n (omega arith))

-- a level with a note
pub note_some : (h : ℕ) (ns : List ℕ) {p n o : ℕ} (d : ℕ) → 0 < d → get_or ns (4 * h) 0 ≡ p → get_or ns (4 * h + 1) 0 ≡ n → get_or ns (4 * h + 2) 0 ≡ o → get_or ns (4 * h + 3) 0 ≡ d →
    note_at h ns ≡ record { pin = p; needed = n; ones = o; pins = d } ∷ []
unfolding note_at note_of
note_some h ns zero k e0 e1 e2 e3 = absurd (omega arith)
note_some h ns (suc d) k e0 e1 e2 e3 = rw (e3, e0, e1, e2)

-- where a level's four numbers are the same, so is its note
pub note_same : (h : ℕ) (ns ns' : List ℕ) → ((a : ℕ) → a < 4 → get_or ns' (4 * h + a) 0 ≡ get_or ns (4 * h + a) 0) → note_at h ns' ≡ note_at h ns
unfolding note_at
note_same h ns ns' e =
    let z : 4 * h + 0 ≡ 4 * h = omega arith in
    let e0 : get_or ns' (4 * h) 0 ≡ get_or ns (4 * h) 0 = rw z at (e 0 (omega arith)) in
    rw (e0, e 1 (omega arith), e 2 (omega arith), e 3 (omega arith))

-- a level without a note
pub note_none : (h : ℕ) (ns : List ℕ) → get_or ns (4 * h + 3) 0 ≡ 0 → note_at h ns ≡ []
unfolding note_at note_of
note_none h ns e = rw e

-- the level's own is what was noted
note_own : (h : ℕ) {ts : List Taken} (ns : List ℕ) → Few ts → 4 * h + 3 < length ns → get_or ns (4 * h + 3) 0 ≡ 0 → note_at h (note_in h ts ns) ≡ ts
unfolding note_in
note_own h ns none l z = note_none h ns z
note_own h ns (one {t = t} k) l z =
    let n1 : List ℕ = set ns (4 * h) t.pin in
    let n2 : List ℕ = set n1 (4 * h + 1) t.needed in
    let n3 : List ℕ = set n2 (4 * h + 2) t.ones in
    let l1 : length n1 ≡ length ns = length-set ns (4 * h) t.pin in
    let l2 : length n2 ≡ length n1 = length-set n1 (4 * h + 1) t.needed in
    let l3 : length n3 ≡ length n2 = length-set n2 (4 * h + 2) t.ones in
    let a0 = get_or-set_other n3 (4 * h + 3) (4 * h) t.pins 0 (λ e. omega arith) ∙ get_or-set_other n2 (4 * h + 2) (4 * h) t.ones 0 (λ e. omega arith) ∙
    get_or-set_other n1 (4 * h + 1) (4 * h) t.needed 0 (λ e. omega arith) ∙ get_or-set_same ns (4 * h) t.pin 0 (omega arith) in
    let a1 = get_or-set_other n3 (4 * h + 3) (4 * h + 1) t.pins 0 (λ e. omega arith) ∙ get_or-set_other n2 (4 * h + 2) (4 * h + 1) t.ones 0 (λ e. omega arith) ∙
    get_or-set_same n1 (4 * h + 1) t.needed 0 (omega arith) in
    let a2 = get_or-set_other n3 (4 * h + 3) (4 * h + 2) t.pins 0 (λ e. omega arith) ∙ get_or-set_same n2 (4 * h + 2) t.ones 0 (omega arith) in
    note_some h (set n3 (4 * h + 3) t.pins) t.pins k a0 a1 a2 (get_or-set_same n3 (4 * h + 3) t.pins 0 (omega arith))

note_length : (h : ℕ) (ts : List Taken) (ns : List ℕ) → length (note_in h ts ns) ≡ length ns
unfolding note_in
note_length h [] ns = refl
note_length h (t ∷ ts) ns = note_length h ts _ ∙ simp length-set

-- no notes are read where there are none
pub bare_none : (h : ℕ) (ns : List ℕ) → Bare h ns → notes_down h ns ≡ []
unfolding notes_down
bare_none zero ns b = refl
bare_none (suc zero) ns b = refl
bare_none (suc (suc l)) ns b = rw (note_none (suc (suc l)) ns (b.none (suc (suc l)) (omega arith) (omega arith))) (bare_none (suc l) ns (record { none = λ i a k. b.none i a (omega arith) }))

module _ (W : Work) where
  abbrev X : Setting
  X = W.X

  -- a candidate taken back was in the tree while it was placed
  sweep_few : (l : ℕ) → suc (suc l) ≤ X.K → (ns : List ℕ) (b : ℕ) (pl : List ℕ) → Going X (suc (suc l)) ns b pl → Few (sweep_back X (suc (suc l)) ns b pl)
  unfolding sweep_back weighed
  sweep_few l high [] b pl G = none
  sweep_few l high (n ∷ ns) b pl G = split (mem n (tree_of X pl))
      (λ i. rw (i, sweep_back) (sweep_few l high ns b pl (going_skip W G i)))
      (λ o. cell (cell_at X (suc (suc l)) pl)
      (λ e. rw (o, e, sweep_back) none)
      (λ p e.
      let i = candidate W (suc (suc l)) n (rw G.whole (in_append_right n G.before (n ∷ ns) (in_here n ns))) in
      let a : Placeable X pl (suc (suc l)) p n = at_cell W l high pl G.fair p n e i.0 i.1 in
      let F2 : Fair X (suc (suc l)) (placed X (suc (suc l)) p n pl) = fair_kept W (suc (suc l)) p n G.fair a in
      let m : length (wanted X (placed X (suc (suc l)) p n pl)) ≤ b = omega (arith, fewer_needed W G.fair a, G.enough) in
      cell (recount X b (placed X (suc (suc l)) p n pl))
      (λ c. rw (o, e, c, sweep_back) (one {t = weighed X n (placed X (suc (suc l)) p n pl)} (some n (tree_of X (placed X (suc (suc l)) p n pl)) (joins W (suc (suc l)) p n G.fair a))))
      (λ k c. rw (o, e, c, sweep_back) (sweep_few l high ns k (placed X (suc (suc l)) p n pl) (going_placed W G p k a (recount_found W F2 b k m c).1)))))
    where
      some : (n : ℕ) (xs : List ℕ) → In n xs → 0 < length xs
      some n [] i = in_nil n i
      some n (x ∷ xs) i = omega arith

  -- levels above h keep their notes
  lean_above : (h : ℕ) → h ≤ X.K → (b : ℕ) (pl ns : List ℕ) → Fair X h pl → length (wanted X pl) ≤ b → (i a : ℕ) → h < i → a < 4 →
      get_or (lean_notes X h b pl ns) (4 * i + a) 0 ≡ get_or ns (4 * i + a) 0
  unfolding lean_notes
  lean_above zero high b pl ns F m i a k c = refl
  lean_above (suc zero) high b pl ns F m i a k c = refl
  lean_above (suc (suc l)) high b pl ns F m i a k c =
      let cs : List ℕ = candidates X (suc (suc l)) in
      let G : Going X (suc (suc l)) cs b pl = going_first W (suc (suc l)) b pl F m in
      let s : Swept W l pl (sweep X (suc (suc l)) cs b pl) = swept W l high cs b pl G in
      lean_above (suc l) (omega arith) (sweep X (suc (suc l)) cs b pl).most (sweep X (suc (suc l)) cs b pl).plan _ s.fair s.enough i a (omega arith) c ∙
      note_other (suc (suc l)) i a ns (sweep_few l high cs b pl G) (λ e. omega arith) c

  -- from level h down: what is noted is read again
  lean_read : (h : ℕ) → h ≤ X.K → (b : ℕ) (pl ns : List ℕ) → Fair X h pl → length (wanted X pl) ≤ b → 4 * h + 3 < length ns → Bare h ns → notes_down h (lean_notes X h b pl ns) ≡ lean_back X h b pl
  unfolding lean_notes lean_back notes_down
  lean_read zero high b pl ns F m l B = refl
  lean_read (suc zero) high b pl ns F m l B = refl
  lean_read (suc (suc l)) high b pl ns F m len B =
      let h : ℕ = suc (suc l) in
      let cs : List ℕ = candidates X h in
      let G : Going X h cs b pl = going_first W h b pl F m in
      let s : Swept W l pl (sweep X h cs b pl) = swept W l high cs b pl G in
      let f : Few (sweep_back X h cs b pl) = sweep_few l high cs b pl G in
      let ns2 : List ℕ = note_in h (sweep_back X h cs b pl) ns in
      let top : note_at h (lean_notes X (suc l) (sweep X h cs b pl).most (sweep X h cs b pl).plan ns2) ≡ sweep_back X h cs b pl
      = note_same h ns2 _ (λ a c. lean_above (suc l) (omega arith) (sweep X h cs b pl).most (sweep X h cs b pl).plan ns2 s.fair s.enough h a (omega arith) c) ∙
      note_own h ns f len (B.none h (omega arith) (omega arith)) in
      let k = lean_read (suc l) (omega arith) (sweep X h cs b pl).most (sweep X h cs b pl).plan ns2 s.fair s.enough (omega (
        arith,
        note_length h (sweep_back X h cs b pl) ns,
      )) (record { none = λ i a c. note_other h i 3 ns f (λ e. omega arith) (omega arith) ∙ B.none i a (omega arith) }) in
      rw (top, k) refl

  -- levels above h are bare
  down_more : (d h : ℕ) (ns : List ℕ) → ((i : ℕ) → h < i → i ≤ d + h → get_or ns (4 * i + 3) 0 ≡ 0) → 1 ≤ h → notes_down (d + h) ns ≡ notes_down h ns
  unfolding notes_down
  down_more zero h ns b l = let z : 0 + h ≡ h = omega arith in rw z refl
  down_more (suc d) zero ns b l = absurd (omega arith)
  down_more (suc d) (suc h) ns b l =
      let y : d + suc h ≡ suc (d + h) = omega arith in
      let n : note_at (suc (suc (d + h))) ns ≡ [] = note_none (suc (suc (d + h))) ns (b (suc (suc (d + h))) (omega arith) (omega arith)) in
      let k : notes_down (d + suc h) ns ≡ notes_down (suc h) ns = down_more d (suc h) ns (λ i a c. b i a (omega arith)) l in
      let q : suc d + suc h ≡ suc (suc (d + h)) = omega arith in
      subst (λ (x : ℕ). notes_down x ns ≡ notes_down (suc h) ns) (sym q) (ap (λ (ts : List Taken). ts ++ notes_down (suc (d + h)) ns) n ∙
      subst (λ (x : ℕ). notes_down x ns ≡ notes_down (suc h) ns) y k)

  abbrev top : ℕ
  top = min (greatest (map (level_at X) X.order) 0) X.K

  -- a stage's notes, read from a level on that is as high as the tree
  pub stage_read : (ns : List ℕ) (t : ℕ) → X.K ≤ t → 1 ≤ t → 4 * t + 3 < length ns → Bare t ns → notes_down t (stage_notes X ns) ≡ lean_backs X
  unfolding stage_notes lean_backs
  stage_read ns t high low len B =
      let F : Fair X top (blank X) = fair_first W top in
      let b : ℕ = length (wanted X (blank X)) in
      let r : notes_down top (lean_notes X top b (blank X) ns) ≡ lean_back X top b (blank X) = lean_read top (omega arith) b (blank X) ns F (omega arith) (omega arith)
      (record { none = λ i a k. B.none i a (omega arith) }) in
      split (leb 1 top)
      (λ c.
      let l : 1 ≤ top = leb-true 1 top c in
      let z : t ≡ (t - top) + top = omega arith in
      subst (λ (x : ℕ). notes_down x (lean_notes X top b (blank X) ns) ≡ lean_back X top b (blank X)) (sym z)
      (down_more (t - top) top (lean_notes X top b (blank X) ns) (λ i a d. lean_above top (omega arith) b (blank X) ns F (omega arith) i 3 a (omega arith) ∙
      B.none i (omega arith) (omega arith)) l ∙ r))
      (λ c.
      let l : top < 1 = leb-false 1 top c in
      ap (notes_down t) (notes_low X top b (blank X) ns (omega arith)) ∙ bare_none t ns B ∙ sym (bare_none top ns (record { none = λ i a k. B.none i a (omega arith) })) ∙
      ap (notes_down top) (sym (notes_low X top b (blank X) ns (omega arith))) ∙ r)
