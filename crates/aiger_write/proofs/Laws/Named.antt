-- The jobs that a file holds are those that pass the code's tests. Assumes nothing.
use Prim.Native.Nat.{ℕ, ◌≤◌}
use mathlib.Core.Path.{◌≡◌, refl, sym, ap, ◌∙◌}
use mathlib.Core.Bool.{Bool, true, false}
use mathlib.Core.List.{List, [], ◌∷◌}
use native.Mathlib.Omega.{arith}
use lib.ListN.{length, get_or, replicate, length-replicate, get_or-replicate, length-set}
use Rattle.rules.specs.Graph.{graph_of, pin_count}
use Rattle.rules.specs.Records.{read}
use Rattle.rules.specs.Checks.{refusal_of}
use Rattle.rules.proofs.Lists.Members.{true_false, every_in}
use Rattle.graph.proofs.Gates.{graph_length}
use Rattle.std.specs.Prelude.{Result, Ok, Err, is_err}
use Rattle.refusals.specs.declared.Refusal.{Refusal}
use Rattle.refusals.proofs.Numbers.{number_above}
use Rattle.checks.specs.Values.{Says}
use Rattle.checks.specs.Passed.{Passed}
use Rattle.checks.proofs.Laws.Passed.{passed}
use Rattle.aiger_form.specs.Aag.{Netlist, any_height, checked, is_leaf_pin}
use Rattle.aiger_form.specs.Jobs.{Named}
use Rattle.aiger_form.proofs.Calls.{named_flat}
use Rattle.aiger_write.specs.Answers.{netlist_of}
use Rattle.aiger_write.specs.Jobs.{shaped, marked, Marked, Judged}
use Rattle.aiger_write.specs.Lines.{Sized}
use Rattle.aiger_write.proofs.Laws.Shape.{shaped_flat, flat_shaped, flat_read, flat_length}
use Rattle.aiger_write.proofs.Laws.Marks.{leaf_inside, fresh_markable, markable_fresh}

no_list : (xs : List ℕ) → length xs ≡ 0 → xs ≡ []
no_list [] e = refl
no_list (x ∷ xs) e = absurd (omega arith)

-- marking keeps how many places there are
pub marked_length : (ps m : List ℕ) → length (marked ps m) ≡ length m
unfolding marked
marked_length [] m = refl
marked_length (p ∷ ps) m = marked_length ps _ ∙ length-set m p 1

-- what a job that a file holds passes
pub named_passed : {given : List ℕ} {n : Netlist} → Named given n → Passed any_height true n.gates [] n.records
unfolding checked
named_passed {given} {n} N = passed any_height true n.gates [] n.records N.passes

module _ (gates given records latches m m' : List ℕ) where
  judged_no : (Named given (netlist_of gates records latches) → ⊥) → Judged given (netlist_of gates records latches) m false m'
  judged_no h = record { no = λ e. h; yes = λ e. true_false e refl; marks = λ e. true_false e refl }

  -- a given pin
  pub judged_given : (length given ≡ 0 → ⊥) → Judged given (netlist_of gates records latches) m false m'
  judged_given h = judged_no (λ N. h (ap length N.none))

  -- a check that refuses
  pub judged_checks : {A : Type 0} {v : Result A Refusal} → Says (refusal_of any_height true gates given records) gates v → is_err v ≡ true → Judged given (netlist_of gates records latches) m false m'
  unfolding checked
  judged_checks {A} {v} S e = judged_no (λ N. some v S e (ap (λ (x : List ℕ). refusal_of any_height true gates x records) N.none ∙ N.passes))
    where
      some : (v : Result A Refusal) → Says (refusal_of any_height true gates given records) gates v → is_err v ≡ true → refusal_of any_height true gates given records ≡ 0 → ⊥
      some (Ok x) S e z = absurd (cc)
      some (Err r) S e z = omega (arith, S.number, number_above r)

  -- records of another shape
  pub judged_shape : shaped (length latches) records ≡ false → Judged given (netlist_of gates records latches) m false m'
  judged_shape f = judged_no (λ N. true_false (ap (λ (k : ℕ). shaped k records) (sym N.as_many) ∙ ap (shaped (length N.inputs)) (named_flat N) ∙ flat_shaped N.inputs N.outs) f)

  module _ {A : Type 0} {v : Result A Refusal} (none : length given ≡ 0) (S : Says (refusal_of any_height true gates given records) gates v) (e : is_err v ≡ false) (zeros : m ≡ replicate 65536 0) where
    passes : (v : Result A Refusal) → Says (refusal_of any_height true gates given records) gates v → is_err v ≡ false → refusal_of any_height true gates given records ≡ 0
    passes (Ok x) S e = sym S.number
    passes (Err r) S e = absurd (cc)

    free : refusal_of any_height true gates [] records ≡ 0
    free = ap (λ (v : List ℕ). refusal_of any_height true gates v records) (sym (no_list given none)) ∙ passes v S e

    -- each pin has a place for its mark
    pub marks_long : pin_count gates ≤ length m
    marks_long = let l : length (replicate {A = ℕ} 65536 0) ≡ 65536 = length-replicate {A = ℕ} 65536 0 in omega (arith, ap length zeros, (passed any_height true gates [] records free).few)

    -- the latches decide
    pub judged_marks : shaped (length latches) records ≡ true → {r : Bool} → Marked (graph_of gates) latches m r m' → Judged given (netlist_of gates records latches) m r m'
    unfolding checked
    judged_marks t {r} M = record {
      no = λ f N. true_false (M.test ∙ fresh_markable (graph_of gates) latches m (record { leaves = N.leaves; differ = N.differ; unmarked = λ q i. clear q (every_in (is_leaf_pin (graph_of gates)) q latches N.leaves i) })) f;
      yes = λ y.
          let F = shaped_flat (length latches) records t in
          let D = markable_fresh (graph_of gates) latches m (omega (arith, graph_length gates, marks_long)) (sym M.test ∙ y) in
          record {
            inputs = F.inputs;
            outs = F.outs;
            none = no_list given none;
            readable = ap read F.same ∙ flat_read F.inputs F.outs;
            passes = free;
            as_many = F.many;
            leaves = D.leaves;
            differ = D.differ;
          };
      marks = M.marks;
    }
      where
        clear : (q : ℕ) → is_leaf_pin (graph_of gates) q ≡ true → get_or m q 0 ≡ 0
        clear q l = ap (λ (w : List ℕ). get_or w q 0) zeros ∙ get_or-replicate 65536 q 0 0 (omega (arith, leaf_inside (graph_of gates) q l, graph_length gates, (passed any_height true gates [] records free).few))

-- the sizes of a job that a file holds
pub named_sized : {gates given records latches m m' : List ℕ} → Named given (netlist_of gates records latches) → m ≡ replicate 65536 0 → m' ≡ marked latches m → Sized gates records latches m'
named_sized {gates} {given} {records} {latches} {m} N zeros e =
    let P = named_passed N in
    let l : length (replicate {A = ℕ} 65536 0) ≡ 65536 = length-replicate {A = ℕ} 65536 0 in
    record {
      some = P.some;
      few = P.few;
      long = ap length e ∙ marked_length latches m ∙ ap length zeros ∙ l;
      flips = omega (arith, ap length (named_flat N), flat_length N.inputs N.outs, N.as_many);
    }
