-- What the check accepts: a plan that is handed in without a fault, and whatever the placer builds. Assumes nothing.
use Prim.Native.Nat.{ℕ, zero, suc, ◌+◌, ◌-◌, ◌*◌, ◌^◌, ◌≤◌, ◌<◌}
use mathlib.Core.Path.{◌≡◌, refl, sym, ◌∙◌, ap}
use mathlib.Core.Bool.{Bool, true}
use mathlib.Core.List.{List, [], ◌∷◌, ◌++◌}
use native.Mathlib.Omega.{arith}
use native.Mathlib.Nat.{suc-mul, le-div_iff_mul-le}
use lib.Dec.{ltb}
use lib.Pow.{pow_pos}
use lib.ListN.{length, get_or, drop, length-append, length-drop, get_or-append}
use lib.Seq.{length-take-le, get_or-append-add}
use borrow.Author.Tests.{ltb-true, ltb-false}
use Rattle.rules.specs.Cells.{empty, filled, word_limit, rooms}
use Rattle.rules.specs.Graph.{Node, graph_of}
use Rattle.rules.specs.Records.{groups_of}
use Rattle.rules.specs.Reservation.{reserved}
use Rattle.rules.specs.Traversal.{WordRule}
use Rattle.rules.specs.Build.{Stage, whole, cells_of, coded_stages}
use Rattle.rules.specs.Coded.{cell_pin}
use Rattle.rules.specs.Faults.{faultless, first_may, held_in, fault_from, cut, fault}
use Rattle.rules.proofs.Lists.Members.{split, true_false}
use Rattle.rules.proofs.Build.Coding.{length_coded, stages_coded}
use Rattle.rules.proofs.Demand.{whole_sizes}
use Rattle.coded.specs.Inputs.{Input, graph, groups, built}
use Rattle.coded.specs.Faults.{Checked}
use Rattle.coded.proofs.Passing.{tall, valid, small, named}
use Rattle.coded.proofs.Tests.{right_fits}
use Rattle.coded.proofs.Stages.{passed, end_says}
use Rattle.coded.proofs.Reading.{accepted_parts}
use Rattle.coded.proofs.Complete.{built_right}
use Rattle.replay_form.specs.Accepted.{Sized, Accepted}

-- stages of so many cells have as many as they should
pub cells_sized : (size : ℕ) (ss : List Stage) → Sized size ss → length (cells_of ss) ≡ length ss * size
unfolding cells_of
cells_sized size [] z = omega arith
cells_sized size (s ∷ ss) z = length-append s.plan (cells_of ss) ∙ omega (arith, z.0, cells_sized size ss z.1, suc-mul (length ss) size)

-- ---- the pins of its cells

module _ (K : ℕ) (g : List Node) (given : List ℕ) where
  named_stage : (may : ℕ → Bool) (room : ℕ) (s : Stage) → Checked K g given may room s → (p : ℕ) → p < 2 ^ (K + 1) → filled (get_or s.plan p empty) ≡ true → cell_pin (get_or s.plan p empty) < length g
  named_stage may room s C zero h f = true_false f (end_says K room s C.end).zeroth
  named_stage may room s C (suc p) h f = (right_fits K g given may s.plan (suc p) f (C.cells (suc p) (omega arith) h)).below

  named_from : (may : ℕ → Bool) (room k : ℕ) (ss : List Stage) → Sized (2 ^ (K + 1)) ss → fault_from K g given may room k ss ≡ faultless →
      (p : ℕ) → filled (get_or (cells_of ss) p empty) ≡ true → cell_pin (get_or (cells_of ss) p empty) < length g
  unfolding cells_of filled empty
  named_from may room k [] z e p f = true_false f refl
  named_from may room k (s ∷ ss) z e p f =
      let t = passed K g given may room k s ss e in
      split (ltb p (2 ^ (K + 1)))
      (λ l.
      let h : p < 2 ^ (K + 1) = ltb-true p (2 ^ (K + 1)) l in
      let d : get_or (s.plan ++ cells_of ss) p empty ≡ get_or s.plan p empty = get_or-append s.plan (cells_of ss) empty p (omega (arith, z.0)) in
      rw d (named_stage may room s t.0 p h (rw d at f)))
      (λ l.
      let i : length s.plan + (p - 2 ^ (K + 1)) ≡ p = omega (arith, z.0, ltb-false p (2 ^ (K + 1)) l) in
      let d : get_or (s.plan ++ cells_of ss) p empty ≡ get_or (cells_of ss) (p - 2 ^ (K + 1)) empty = ap (λ (x : ℕ). get_or (s.plan ++ cells_of ss) x empty) (sym i) ∙ get_or-append-add s.plan (cells_of ss) (p - 2 ^ (K + 1)) empty in
      rw d (named_from (held_in K s.plan) (room - length s.words) (suc k) ss z.1 t.1 (p - 2 ^ (K + 1)) (rw d at f)))

-- every filled cell of an accepted plan holds a pin of the graph
pub accepted_named : (K : ℕ) (gates given records : List ℕ) (ss : List Stage) → Accepted K gates given records ss →
    (p : ℕ) → filled (get_or (cells_of ss) p empty) ≡ true → cell_pin (get_or (cells_of ss) p empty) < length (graph_of gates)
accepted_named K gates given records ss A = named_from K (graph_of gates) given (first_may (graph_of gates) given) (word_limit K - reserved (groups_of records)) 1 ss A.sized
    (accepted_parts K (graph_of gates) given (groups_of records) ss A.right).0

-- ---- handed in

module _ (K : ℕ) where
  length_cut : (n : ℕ) (plan words counts : List ℕ) → length (cut n K plan words counts) ≡ n
  unfolding cut
  length_cut zero plan words counts = refl
  length_cut (suc n) plan words counts = ap suc (length_cut n (drop (2 ^ (K + 1)) plan) (drop (get_or counts 0 0) words) (drop 1 counts))

  sized_cut : (n : ℕ) (plan words counts : List ℕ) → n * 2 ^ (K + 1) ≤ length plan → Sized (2 ^ (K + 1)) (cut n K plan words counts)
  unfolding cut
  sized_cut zero plan words counts h = tt
  sized_cut (suc n) plan words counts h =
      let e = suc-mul n (2 ^ (K + 1)) in (length-take-le (2 ^ (K + 1)) plan (omega arith), sized_cut n (drop (2 ^ (K + 1)) plan) _ _ (omega (arith, length-drop (2 ^ (K + 1)) plan)))

module _ (I : Input) (plan words counts : List ℕ) (n : ℕ) (area : n ≤ rooms I.K (length plan)) where
  room : n * 2 ^ (I.K + 1) ≤ length plan
  unfolding rooms
  room = (le-div_iff_mul-le (pow_pos (I.K + 1))).0 area

  -- a plan without a fault is accepted
  pub cut_accepted : fault I.K I.gates I.given I.records plan words counts n ≡ faultless → Accepted I.K I.gates I.given I.records (cut n I.K plan words counts)
  unfolding fault
  cut_accepted e = record { sized = sized_cut I.K n plan words counts room; right = e }

  -- and its cells fit in the plan area
  pub cut_fits : length (cells_of (cut n I.K plan words counts)) ≤ length plan
  cut_fits =
      let size : length (cells_of (cut n I.K plan words counts)) ≡ n * 2 ^ (I.K + 1) =
      cells_sized (2 ^ (I.K + 1)) (cut n I.K plan words counts) (sized_cut I.K n plan words counts room) ∙ ap (λ (k : ℕ). k * 2 ^ (I.K + 1)) (length_cut I.K n plan words counts) in
      omega (arith, room)

-- ---- built

sized_coded : (K : ℕ) (g : List Node) (ss : List Stage) → Sized (2 ^ (K + 1)) (coded_stages K g ss)
unfolding coded_stages
sized_coded K g [] = tt
sized_coded K g (s ∷ ss) = (length_coded K g s.plan, sized_coded K g ss)

module _ (rule : WordRule) (I : Input) (L : ℕ) (ss : List Stage) (e : built rule I (rooms I.K L) ≡ whole ss) where
  -- what the placer builds is accepted
  pub coded_accepted : Accepted I.K I.gates I.given I.records (coded_stages I.K (graph I) ss)
  coded_accepted = record { sized = sized_coded I.K (graph I) ss; right = built_right rule I (rooms I.K L) ss e }

  -- and its cells fit in the plan area
  pub coded_fits : length (cells_of (coded_stages I.K (graph I) ss)) ≤ L
  unfolding rooms
  coded_fits =
      let few : length ss ≤ rooms I.K L = (whole_sizes rule I.K (graph I) (valid I) (tall I) (small I) I.given [] (groups I) (named I) (rooms I.K L) ss e).few in
      let size : length (cells_of (coded_stages I.K (graph I) ss)) ≡ length ss * 2 ^ (I.K + 1) =
      cells_sized (2 ^ (I.K + 1)) (coded_stages I.K (graph I) ss) (sized_coded I.K (graph I) ss) ∙ ap (λ (k : ℕ). k * 2 ^ (I.K + 1)) (stages_coded I.K (graph I) ss) in
      omega (arith, (le-div_iff_mul-le (pow_pos (I.K + 1))).0 few)
