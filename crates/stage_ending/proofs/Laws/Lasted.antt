-- Rule 10 as a whole. Assumes nothing.
use mathlib.Core.Path.{◌≡◌, refl, ◌∙◌}
use mathlib.Core.List.{List}
use Prim.Native.Nat.{ℕ, ◌+◌, ◌*◌, ◌<◌, ◌≤◌}
use native.Mathlib.Omega.{arith}
use lib.ListN.{length}
use Rattle.rules.specs.Lists.{keep}
use Rattle.rules.proofs.Needed.Lacks.{keep_ext}
use Rattle.columns.specs.Fields.{WAITING, STACK, SPARE}
use Rattle.columns.specs.Lists.{list}
use Rattle.columns.proofs.Area.Frames.{frame_then, frame_more, frame_room}
use Rattle.columns.proofs.Lists.Entries.{frame_list, holds_frame, holds_below}
use Rattle.columns.proofs.Lists.Marks.{marked_frame}
use Rattle.columns.proofs.Lists.Swap.{once_few}
use Rattle.stage_runs.proofs.Laws.Laid.{laid_length}
use Rattle.stage_ending.specs.declared.last.Kept.{Kept}
use Rattle.stage_ending.specs.Close.{is_tree, RealiseAt, Realised}
use Rattle.stage_ending.specs.Words as words
use Rattle.stage_ending.specs.Last.{LastAt, end_words, Lasted}
use Rattle.stage_ending.proofs.Laws.Words.{kept_then}

module _ {m K half n at room : ℕ} {s : Kept} {pl w out : List ℕ} (A : LastAt m K half n at room s pl w out) {w1 : List ℕ} {k : ℕ} (U : words.Upped m K pl w w1 k) where
  abbrev ws : List ℕ
  ws = end_words m K pl w

  spots : words.Spots m k ws w1
  unfolding end_words
  spots = U.spots

  count : length ws ≡ k
  count = spots.count

  -- there are at most 256 words
  pub few : k ≤ 256
  few = omega (arith, once_few spots.once 256 spots.low, count)

  -- words that don't all fit are not written, and nothing is realised by them
  pub last_none : room < s.words + k → Lasted m K n at room s pl w out s w1 out
  last_none h = record {
    frame = frame_more refl U.kept.frame;
    past = U.kept.past;
    len = refl;
    more = λ b. absurd (omega (arith, count));
    none = λ b. (refl, refl, marked_frame A.real U.kept.frame refl refl (omega arith) (omega arith));
  }

  module _ (h : s.words + k ≤ room) where
    -- words that fit may be written
    pub write_at : words.WriteAt m (at + s.words) k ws out w1
    write_at = record { spots = spots; fits = omega (arith, A.fits); small = A.small }

    module _ {w2 out1 : List ℕ} (W : words.Written m (at + s.words) ws out w1 out1 w2) where
      kept : words.Kept m w w2
      kept = kept_then U.kept W.kept

      waiting_is : list WAITING m n w2 ≡ list WAITING m n w
      waiting_is = frame_list kept.frame WAITING n refl (omega arith)

      real_is : list STACK m s.real w2 ≡ list STACK m s.real w
      real_is = frame_list kept.frame STACK s.real refl (omega arith)

      -- with the words written the tree endpoints may be realised
      pub realise_at : RealiseAt m n s.real w2
      realise_at = record {
        area = frame_room kept.frame A.up.area;
        real = rw real_is (marked_frame A.real kept.frame refl refl (omega arith) (omega arith));
        waiting = rw waiting_is (holds_frame A.waiting kept.frame refl (omega arith));
      }

      tree_same : keep (is_tree m w2) (list WAITING m n w2) ≡ keep (is_tree m w) (list WAITING m n w)
      unfolding is_tree
      tree_same = rw waiting_is (keep_ext (is_tree m w2) (is_tree m w) (list WAITING m n w) (λ x i. rw (kept.frame.cell SPARE refl (omega arith) x (holds_below A.waiting x i)) refl))

      -- words that fit are written, and the tree endpoints realised
      pub last_more : {w3 : List ℕ} {e : ℕ} → Realised m n s.real w2 w3 e → Lasted m K n at room s pl w out (record { real = e; words = s.words + k }) w3 out1
      last_more E = record {
        frame = frame_then (frame_more refl kept.frame) (frame_more refl E.frame);
        past = λ j b. E.frame.past refl (16 * m + j) (omega arith) ∙ kept.past j b;
        len = rw W.stands (laid_length (at + s.words) out ws (omega (arith, A.fits, count)));
        more = λ b. (omega (arith, count), W.stands, rw (tree_same, real_is) at E.real);
        none = λ b. absurd (omega (arith, count));
      }
