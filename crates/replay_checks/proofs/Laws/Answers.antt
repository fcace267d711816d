-- The answers of the checks, number by number. Assumes nothing.
use Prim.Native.Nat.{ℕ, ◌≤◌, ◌<◌}
use mathlib.Core.Path.{◌≡◌, refl, sym, ◌∙◌, ap}
use mathlib.Core.Bool.{Bool, true, false, ◌&&◌}
use mathlib.Core.List.{List, [], ◌∷◌}
use native.Mathlib.Omega.{arith}
use lib.Dec.{eqb, ltb}
use lib.ListN.{length, replicate, length-replicate, get_or-replicate, get_or-eq_default}
use lib.Seq.{length-take-le}
use borrow.Author.Tests.{eq-eqb, ne_eqb, ltb-true, ltb-false}
use Rattle.rules.specs.Lists.{is_nil}
use Rattle.rules.specs.Graph.{graph_of, pin_count}
use Rattle.rules.specs.Records.{groups_of}
use Rattle.rules.specs.Reservation.{memories}
use Rattle.rules.proofs.Lists.Members.{split}
use Rattle.graph.proofs.Gates.{graph_length}
use Rattle.replay_form.specs.Clocks.{line_leaves}
use Rattle.replay_form.specs.Calls.{plain, driven_right, later_refusal}
use Rattle.replay_run.specs.Leaves.{Marked, LeavesPut}
use Rattle.replay_run.proofs.Laws.Leaves.{marks_are, leaves_are}
use Rattle.replay_checks.specs.declared.counts.Counts.{Counts}
use Rattle.replay_checks.specs.Values.{MarksAt, Counted, measured, numbered}

-- fresh marks
pub marks_at : (gates marks : List ℕ) → pin_count gates ≤ 65536 → marks ≡ replicate 65536 0 → MarksAt gates marks
marks_at gates marks h e = record {
  few = h;
  room = rw (e, length-replicate {A = ℕ} 65536 0) h;
  none = λ p. rw e (split (ltb p 65536)
      (λ t. get_or-replicate 65536 p 0 0 (ltb-true p 65536 t))
      (λ t. get_or-eq_default (replicate 65536 0) 0 {n = p} (rw (length-replicate {A = ℕ} 65536 0) (ltb-false p 65536 t))));
}

-- the leaves put are as many as a line has
pub each_is : (gates driven marks marks' leaves leaves' : List ℕ) (r : ℕ) → MarksAt gates marks → Marked driven marks marks' → pin_count gates ≤ length leaves → LeavesPut gates marks' leaves leaves' r → r ≡ length (line_leaves (graph_of gates) driven)
each_is gates driven marks marks' leaves leaves' r A M room P =
    sym (length-take-le r leaves' (omega (arith, P.len, P.count))) ∙ ap length P.is
    ∙ ap length (leaves_are (graph_of gates) driven marks' (λ p h. marks_are driven marks marks' M p (omega (arith, graph_length gates, A.room)) (A.none p)))

module _ (gates driven : List ℕ) (flips bits starting lines recording out end : ℕ) where
  -- 19
  pub numbered_19 : driven_right (graph_of gates) driven ≡ false → 19 ≡ numbered gates driven flips bits starting lines recording out end
  unfolding numbered
  numbered_19 e = rw (e, numbered)

  -- else what the lengths say
  pub numbered_rest : driven_right (graph_of gates) driven ≡ true → (r each : ℕ) → each ≡ length (line_leaves (graph_of gates) driven) → r ≡ measured flips bits each (length driven) starting lines recording out end →
      r ≡ numbered gates driven flips bits starting lines recording out end
  unfolding numbered
  numbered_rest e r each ee er = er ∙ rw (ee, e, numbered)

module _ (gates given records driven : List ℕ) (starting lines recording out end : ℕ) where
  -- 18 for a given pin
  pub later_given : 0 < length given → 18 ≡ later_refusal gates given records driven starting lines recording out end
  unfolding later_refusal plain is_nil
  later_given h = rw (e, later_refusal)
    where
      some : (xs : List ℕ) → 0 < length xs → (b : Bool) → b && is_nil xs ≡ false
      some [] h b = absurd (omega arith)
      some (x ∷ xs) h true = refl
      some (x ∷ xs) h false = refl

      e : plain given records ≡ false
      e = some given h (eqb (memories (groups_of records)) 0)

  module _ (none : length given ≤ 0) (r : Counts) (C : Counted (groups_of records) r) where
    nil : (xs : List ℕ) → length xs ≤ 0 → is_nil xs ≡ true
    unfolding is_nil
    nil [] h = refl
    nil (x ∷ xs) h = absurd (omega arith)

    -- 18 for a memory
    pub later_memory : 0 < r.memories → 18 ≡ later_refusal gates given records driven starting lines recording out end
    unfolding later_refusal plain
    later_memory h = let e : plain given records ≡ false = rw (ne_eqb (memories (groups_of records)) 0 (λ d. omega (arith, C.memory))) in rw (e, later_refusal)

    -- else what the driven pins and the lengths say
    pub later_rest : r.memories ≤ 0 → (n : ℕ) → n ≡ numbered gates driven r.flips r.bits starting lines recording out end → n ≡ later_refusal gates given records driven starting lines recording out end
    unfolding later_refusal plain numbered measured
    later_rest h n en =
        let e : plain given records ≡ true = rw (eq-eqb (memories (groups_of records)) 0 (omega (arith, C.memory)), nil given none) in
        en ∙ rw (C.flip, C.bit, e, later_refusal)
