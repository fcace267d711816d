-- Rule 10 where nothing is untouched, or not. Assumes nothing.
use mathlib.Core.Path.{◌≡◌, refl, sym, ap, ◌∙◌}
use mathlib.Core.Logic.{inl, inr}
use mathlib.Core.Bool.{true, false, ◌&&◌}
use mathlib.Core.List.{List, [], ◌∷◌, ◌++◌}
use Prim.Native.Nat.{ℕ, ◌+◌, ◌*◌, ◌<◌, ◌≤◌}
use native.Mathlib.Omega.{arith}
use lib.Dec.{leb, ltb}
use lib.ListN.{length, get_or, length-append}
use Rattle.rules.specs.Lists.{insert_all, laid_at, In}
use Rattle.rules.specs.Ending.{in_tree, last_stage, written, more_words}
use Rattle.rules.proofs.Lists.Members.{split, keep_in, insert_all_in}
use Rattle.rules.proofs.Needed.Lacks.{leb_true, false_ltb}
use Rattle.rules.proofs.Stage.Branches.{finish_last, finish_more}
use Rattle.columns.specs.Fields.{STACK, MARK, TAIL}
use Rattle.columns.specs.Area.{Frame}
use Rattle.columns.specs.Lists.{list, Marked}
use Rattle.columns.proofs.Area.Frames.{frame_none}
use Rattle.columns.proofs.Lists.Entries.{holds_self}
use Rattle.columns.proofs.Lists.Marks.{marked_self}
use Rattle.stage_walk.specs.Stands.{Context}
use Rattle.stage_runs.specs.declared.Spent.{Spent}
use Rattle.stage_runs.proofs.Laws.Laid.{laid_then}
use Rattle.stage_ending.specs.declared.last.Kept.{Kept}
use Rattle.stage_ending.specs.Last.{LastAt, end_words, Lasted}
use Rattle.stage.specs.Finish.{Midway, LastingAt, Lasting}
use Rattle.stage.proofs.Laws.Midway.{cells_pins, end_words_lem, tree_ends}
use borrow.Author.Tests.{leb-false}

module _ {C : Context} {pl : List ℕ} {m K half o n at room : ℕ} {s : Spent} {pl2 w words : List ℕ} (A : LastingAt C pl m K half o n at room s pl2 w words) where
  abbrev M : Midway C pl m K half o n at room s pl2 w words
  M = A.mid

  abbrev early : List ℕ
  early = (written C.X pl).words

  abbrev real : List ℕ
  real = (written C.X pl).real

  fits : ltb room (length early) ≡ false
  fits = false_ltb room (length early) (omega (arith, M.fit, M.count))

  -- where nothing is untouched rule 10 may be tried
  pub last_at : LastAt m K half n at room (record { real = s.real; words = s.words }) pl2 w words
  last_at = record {
    up = record {
      area = M.area;
      pins = cells_pins C M.fair M.graph;
      clear = M.tail;
      size = rw M.height M.fair.len;
      low = omega (arith, M.height, C.low);
      high = omega (arith, M.height, C.high);
      row = M.row;
    };
    waiting = holds_self M.waiting.held;
    real = marked_self M.realised;
    spent = M.fit;
    fits = M.fits;
    small = M.small;
  }

  -- no more words
  module _ (no : last_stage C.X pl && leb (length early + length (more_words C.X pl pl2)) room ≡ false) where
    same : {k : Kept} {w1 words1 : List ℕ} → k.words ≡ s.words → words1 ≡ words → Marked STACK MARK m k.real (list STACK m s.real w) w1 → Frame (STACK ∷ MARK ∷ TAIL ∷ []) m w w1 →
        ((j : ℕ) → 256 ≤ j → get_or w1 (16 * m + j) 0 ≡ get_or w (16 * m + j) 0) → Lasting C pl m at room s pl2 w words k w1 words1
    same e d R F P = record {
      ws = early;
      real = real;
      is = finish_more C.X room pl fits pl2 A.rested A.free.0 A.free.1 no;
      longer = omega arith;
      count = e ∙ M.count;
      fit = omega (arith, M.fit, M.count);
      wrote = d ∙ M.wrote;
      realised = rw M.realised.held.is at R;
      waits = M.waits;
      frame = F;
      past = P;
    }

  -- where something is, no more words are written
  pub lasting_not : s.last ≡ false → Lasting C pl m at room s pl2 w words (record { real = s.real; words = s.words }) w words
  lasting_not e = same (rw (← M.is_last, e) refl) refl refl (marked_self M.realised) frame_none (λ j h. refl)

  module _ (yes : s.last ≡ true) {k : Kept} {w1 words1 : List ℕ} (L : Lasted m K n at room (record { real = s.real; words = s.words }) pl2 w words k w1 words1) where
    last : last_stage C.X pl ≡ true
    last = sym M.is_last ∙ yes

    abbrev more : List ℕ
    more = more_words C.X pl pl2

    more_is : end_words m K pl2 w ≡ more
    more_is = end_words_lem M last

    all_wait : (x : ℕ) → In x (insert_all (in_tree C.X pl) real) → In x C.X.waiting
    unfolding in_tree
    all_wait x i = elim (insert_all_in x (in_tree C.X pl) real i) [ inl d ↦ (keep_in _ x C.X.waiting d).0 | inr d ↦ M.waits x d ]

    -- tried, it writes all its words or none
    pub lasting_last : Lasting C pl m at room s pl2 w words k w1 words1
    lasting_last = split (leb (length early + length more) room)
        (λ t.
        let b : length early + length more ≤ room = leb_true (length early + length more) room t in
        let R = L.more (rw more_is (omega (arith, M.count))) in
        let z : at + s.words ≡ at + length early = omega (arith, M.count) in
        record {
          ws = early ++ more;
          real = insert_all (in_tree C.X pl) real;
          is = finish_last C.X room pl fits pl2 A.rested A.free.0 A.free.1 (rw (last, t) refl);
          longer = omega (arith, R.0);
          count = R.0 ∙ rw (more_is, length-append, M.count) refl;
          fit = rw length-append b;
          wrote = R.1 ∙ rw (more_is, z) (ap (laid_at (at + length early) more) M.wrote ∙ laid_then at words early more (omega (arith, M.fits)));
          realised = rw (tree_ends M last, M.realised.held.is) at R.2;
          waits = all_wait;
          frame = L.frame;
          past = L.past;
        })
        (λ t.
        let b : room < length early + length more = leb-false (length early + length more) room t in
        let R = L.none (rw more_is (omega (arith, M.count))) in
        same (rw (last, t) refl) R.0 R.1 R.2 L.frame L.past)
