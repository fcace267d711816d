-- The checks of a call, in their order. Assumes nothing.
use Prim.Native.Nat.{ℕ, zero, suc}
use mathlib.Core.Path.{◌≡◌, refl, sym, ◌∙◌, ap}
use mathlib.Core.Logic.{◌≢◌}
use mathlib.Core.Bool.{Bool, ◌&&◌}
use mathlib.Core.List.{List}
use lib.ListN.{length}
use Rattle.rules.specs.Cells.{is_height}
use Rattle.rules.specs.Graph.{graph_of}
use Rattle.rules.specs.Records.{groups_of}
use Rattle.rules.specs.Traversal.{needed_runs}
use Rattle.rules.specs.Checks.{pin_shown, refusal_of}
use Rattle.rules.specs.Build.{refuse_checked}
use Rattle.rules.proofs.Lists.Members.{split}
use Rattle.std.specs.Prelude.{Result, Ok, Err}
use Rattle.refusals.specs.declared.Refusal.{Refusal}
use Rattle.refusals.specs.Numbers.{number_of, pin_of, number_said}
use Rattle.refusals.proofs.Numbers.{number_is}
use Rattle.checks.specs.Values.{Says}
use Rattle.checks.specs.Passed.{Passed}
use Rattle.checks.proofs.Laws.Passed.{passed}
use Rattle.checks.proofs.Laws.Refusing.{height_first}
use Rattle.placer.specs.declared.Built.{Built}
use Rattle.placer.specs.declared.Refused.{Refused}
use Rattle.placer.specs.Answers.{told, areas}
use Rattle.replay_form.specs.Clocks.{line_leaves, bits_out, flip_flops}
use Rattle.replay_form.specs.Calls as form
use Rattle.replay_form.specs.Calls.{replay_sized, plain, driven_right, lengths_right, out_right, later_refusal}
use Rattle.replay_checks.specs.Values.{Checked, Readable}
use Rattle.replay.specs.Answers.{job, lent, outcome, BuiltIn}

-- with 17 to 20 no pin is shown
pub later_pin : (gates given records driven : List ℕ) (starting lines recording out end : ℕ) → pin_shown (later_refusal gates given records driven starting lines recording out end) gates ≡ 0
unfolding later_refusal pin_shown
later_pin gates given records driven starting lines recording out end =
    split (plain given records)
    (λ p. split (driven_right (graph_of gates) driven)
    (λ d. split (lengths_right (flip_flops (groups_of records)) (length (line_leaves (graph_of gates) driven)) (length driven) starting lines recording)
    (λ l. split (out_right (flip_flops (groups_of records)) (bits_out (groups_of records)) lines out end)
    (λ r. rw (p, d, l, r, later_refusal))
    (λ r. rw (p, d, l, r, later_refusal)))
    (λ l. rw (p, d, l, later_refusal)))
    (λ d. rw (p, d, later_refusal)))
    (λ p. rw (p, later_refusal))

-- what the first checks tell is what the later ones ask
pub checked_in : (K : ℕ) (b : Bool) (gates given records : List ℕ) {A : Type 0} {x : A} → Says (refusal_of K b gates given records) gates (Ok x) → Checked gates × Readable records
checked_in K b gates given records S =
    let P : Passed K b gates given records = passed K b gates given records (sym S.number) in
    (record { few = P.few }, record { readable = P.readable; short = P.short })

module _ (K : ℕ) (gates given records driven starting : List ℕ) (lines : ℕ) (recording plan words counts work tape slots bits out end : List ℕ) where
  abbrev J : form.Job
  J = record { height = K; gates = gates; given = given; records = records; driven = driven; starting = starting; lines = lines; recording = recording }

  abbrev a : form.Lent
  a = record { build = record { plan = plan; words = words; counts = counts; work = work }; tape = tape; slots = slots; bits = bits; out = out; end = end }

  refusing : (n : ℕ) → form.replay_refusal J a ≡ suc n → (r : Result Built Refused) → told r ≡ refuse_checked (suc n) gates →
      outcome r plan words counts work tape slots bits out end ≡ form.replay needed_runs (job K gates given records driven starting lines recording) (lent plan words counts work tape slots bits out end)
  unfolding outcome lent areas job form.replay
  refusing n e r t = rw (e, form.replay, t)

  some : (n : ℕ) → n ≢ 0 → (k : ℕ) × (n ≡ suc k)
  some zero h = absurd (h refl)
  some (suc k) h = (k, refl)

  module _ (b : Bool) (eb : b ≡ (is_height K && replay_sized K gates records (length plan) (length words) (length counts) (length work) (length tape) (length slots) (length bits))) where
    first_is : {A : Type 0} {v : Result A Refusal} → Says (refusal_of K b gates given records) gates v → number_said v ≡ refusal_of K (form.areas_right J a) gates given records
    unfolding form.areas_right
    first_is S = S.number ∙ height_first K _ gates given records b eb

    -- one of 1 to 5 or 23 refuses
    pub refused_first : {A : Type 0} {e : Refusal} → Says {A = A} (refusal_of K b gates given records) gates (Err e) →
        outcome (Err (record { why = e; stage = 0 })) plan words counts work tape slots bits out end ≡ form.replay needed_runs (job K gates given records driven starting lines recording) (lent plan words counts work tape slots bits out end)
    unfolding form.replay_refusal told refuse_checked
    refused_first {e = e} S =
        let k = some (number_of e) (number_is e) in
        let q : refusal_of K (form.areas_right J a) gates given records ≡ suc k.0 = sym (first_is S) ∙ k.1 in
        let p : pin_of e ≡ pin_shown (suc k.0) gates = S.pin ∙ ap (λ (i : ℕ). pin_shown i gates) (sym S.number ∙ k.1) in
        refusing k.0 (rw (q, form.replay_refusal)) _ (λ i. record { number = k.1 i; stages = 0; words = 0; stage = 0; pin = p i; cells = 0 })

    module _ {A : Type 0} {x : A} (S : Says (refusal_of K b gates given records) gates (Ok x)) where
      later_is : form.replay_refusal J a ≡ later_refusal gates given records driven (length starting) lines (length recording) (length out) (length end)
      unfolding form.replay_refusal form.later_of
      later_is = let e : refusal_of K (form.areas_right J a) gates given records ≡ 0 = sym (first_is S) in rw (e, form.replay_refusal)

      -- one of 18, 19, 20 and 17 refuses
      pub refused_later : (e : Refusal) → number_of e ≡ later_refusal gates given records driven (length starting) lines (length recording) (length out) (length end) → pin_of e ≡ 0 →
          outcome (Err (record { why = e; stage = 0 })) plan words counts work tape slots bits out end ≡ form.replay needed_runs (job K gates given records driven starting lines recording) (lent plan words counts work tape slots bits out end)
      unfolding told refuse_checked
      refused_later e el ep =
          let k = some (number_of e) (number_is e) in
          let p : pin_shown (suc k.0) gates ≡ 0 = ap (λ (i : ℕ). pin_shown i gates) (sym k.1 ∙ el) ∙ later_pin gates given records driven (length starting) lines (length recording) (length out) (length end) in
          refusing k.0 (later_is ∙ sym el ∙ k.1) _ (λ i. record { number = k.1 i; stages = 0; words = 0; stage = 0; pin = (ep ∙ sym p) i; cells = 0 })

      -- or none
      pub built_in : 0 ≡ later_refusal gates given records driven (length starting) lines (length recording) (length out) (length end) → BuiltIn K gates given records driven starting lines recording plan words counts work tape slots bits out end
      unfolding job lent areas
      built_in d = record { passes = later_is ∙ sym d }
