-- The tape of a plan, and the lists. Assumes nothing.
use Prim.Native.Nat.{ℕ, zero, suc, ◌+◌, ◌-◌, ◌^◌, ◌≤◌, ◌<◌}
use mathlib.Core.Path.{◌≡◌, refl, ◌∙◌, ap}
use mathlib.Core.List.{List, [], ◌∷◌, ◌++◌, append-nil}
use native.Mathlib.Omega.{arith}
use lib.ListN.{length, get_or, take, drop, replicate, length-append, length-drop, length-replicate, get_or-replicate}
use lib.Seq.{length-take-le, get_or-take, take-append-le, drop_at, drop-drop, drop-length, take_all}
use Rattle.rules.specs.Graph.{graph_of, pin_count}
use Rattle.graph.proofs.Gates.{graph_length}
use Rattle.replay_tape.specs.Plans.{PlanMade}
use Rattle.replay_run.specs.Slots.{PlanAt, PlanRead}
use Rattle.replay_run.specs.Places.{PlacesIn, PlacesPut}
use Rattle.replay_run.specs.Leaves.{Marked, LeavesPut}
use Rattle.replay_run.specs.Flips.{FlipsIn, FlipsPut}
use Rattle.replay_run.proofs.Laws.Leaves.{marks_are, leaves_are}
use Rattle.replay_plan.specs.Tape.{TapeIn, TapeOut, ListsIn, ListsOut}

module _ (K m : ℕ) (plan words counts : List ℕ) (total : ℕ) (w l t : List ℕ) (I : TapeIn K m plan words counts total w l t) (w' b t' : List ℕ) (e : ℕ) (M : PlanMade K m plan w l t w' b t' e) where
  -- what is asked to read the words
  pub words_at_lem : (s : ℕ) → s ≡ 2 ^ (K + 1) → PlanAt s plan w' words counts total
  words_at_lem s es = record { room = rw es I.readable.room; slotted = omega (arith, I.readable.slotted, M.wlen); written = I.readable.written; counted = I.readable.counted }

  -- the tape is made and the words are read
  pub tape_out : (s : ℕ) → s ≡ 2 ^ (K + 1) → (z l' : List ℕ) → z ≡ replicate (length b) 0 → PlanRead s plan w' words counts z l' → TapeOut K m plan words counts w l t w' l' t' e
  tape_out s es z l' ez R =
      let lz : length z ≡ length b = ap length ez ∙ length-replicate (length b) 0 in
      record {
        between = b;
        made = M;
        llen = R.len ∙ lz ∙ M.llen;
        reads = λ q h.
            let hb : q < length b = omega (arith, M.llen, I.made.pins) in
            let zq : get_or z q 0 ≡ 0 = ap (λ (x : List ℕ). get_or x q 0) ez ∙ get_or-replicate (length b) q 0 0 hb in
            R.each q (omega (arith, lz)) ∙ rw (zq, es);
      }

module _ (gates records w s b : List ℕ) (I : ListsIn gates records w s b) (m : ℕ) (em : m ≡ pin_count gates) where
  front : length (take (m - 0) w) ≡ pin_count gates
  front = length-take-le (m - 0) w (omega (arith, I.work)) ∙ omega arith

  -- what is asked to put the places
  pub places_in : PlacesIn records (take (m - 0) w) s
  places_in = record {
    readable = I.readable;
    named = λ q i. omega (arith, front, I.named q i);
    small = λ q h. rw (get_or-take (m - 0) w q 0 (omega (arith, front))) (I.small q (omega (arith, front)));
    room = I.slots;
  }

  -- and to put the indexes, behind a number a pin
  pub flips_in : (v : List ℕ) → length v ≡ length w → FlipsIn records (take (length v - m) (drop m v))
  flips_in v lv = record {
    readable = I.readable;
    short = I.short;
    room = rw (take_all (length v - m) (drop m v) (omega (arith, length-drop m v)), length-drop m v) (omega (arith, I.work));
  }

  module _ (driven s' : List ℕ) (n : ℕ) (P : PlacesPut records (take (m - 0) w) s s' n) (b' : List ℕ) (M : Marked driven b b') (v : List ℕ) (k : ℕ) (L : LeavesPut gates b' w v k) (x : List ℕ) (f : ℕ)
      (F : FlipsPut records (take (length v - m) (drop m v)) x f) where
    behind : length x ≡ length v - m
    behind = F.len ∙ ap length (take_all (length v - m) (drop m v) (omega (arith, length-drop m v))) ∙ length-drop m v

    ahead : length (take m v) ≡ m
    ahead = length-take-le m v (omega (arith, L.len, I.work))

    nothing_left : x ++ drop (length v - m) (drop m v) ≡ x
    nothing_left =
        let e : m + (length v - m) ≡ length v = omega (arith, L.len, I.work) in
        ap (λ (r : List ℕ). x ++ r) (drop-drop (length v - m) m v ∙ ap (λ (i : ℕ). drop i v) e ∙ drop-length v) ∙ append-nil x

    all_there : ListsOut gates records driven w s b (take m v ++ x) s' b' (record { places = n; leaves = k; flips = f })
    all_there =
        let z : m - 0 ≡ pin_count gates = omega arith in
        record {
          wlen = length-append (take m v) x ∙ omega (arith, ahead, behind, L.len, I.work);
          slen = P.len;
          places_few = P.count;
          leaves_few = L.count;
          flips_few = F.count;
          places = rw z at P.is;
          marks = M;
          leaves = take-append-le k (take m v) x (omega (arith, ahead, L.count)) ∙ take-take
              ∙ L.is ∙ leaves_are (graph_of gates) driven b' (λ p h. marks_are driven b b' M p (omega (arith, graph_length gates, I.marks)) (I.none p));
          flips = rw (← em) (ap (take f) (drop_at (take m v) x m ahead) ∙ F.is);
        }
      where
        take-take : take k (take m v) ≡ take k v
        take-take = less k m v (omega (arith, L.count))
          where
            less : (i j : ℕ) (xs : List ℕ) → i ≤ j → take i (take j xs) ≡ take i xs
            less zero j xs h = refl
            less (suc i) zero xs h = absurd (omega arith)
            less (suc i) (suc j) [] h = refl
            less (suc i) (suc j) (y ∷ xs) h = ap (λ (r : List ℕ). y ∷ r) (less i j xs (omega arith))

    -- all the lists are there, the indexes lent as work[m..]
    pub lists_out : ListsOut gates records driven w s b (take m v ++ (x ++ drop (length v - m) (drop m v))) s' b' (record { places = n; leaves = k; flips = f })
    lists_out = rw nothing_left all_there
