-- Stage after stage: the first fault and the written pins, as far as the stages are checked. Assumes nothing.
use Prim.Native.Nat.{ℕ, suc, ◌+◌, ◌-◌, ◌*◌, ◌^◌, ◌≤◌, ◌<◌}
use mathlib.Core.Path.{◌≡◌, refl, sym, ◌∙◌, ap}
use mathlib.Core.Bool.{Bool, true, false, ◌||◌}
use mathlib.Core.List.{List, ◌∷◌}
use native.Mathlib.Omega.{arith}
use native.Mathlib.Nat.{add-zero}
use lib.Dec.{eqb}
use lib.ListN.{length, get_or, take, drop, length-drop}
use lib.Seq.{drop-drop, get_or-drop, length-take-le, take_all}
use borrow.Author.Tests.{eq-eqb, ne_eqb}
use Rattle.std.specs.Prelude.{Result, Ok, Err, Some, None}
use Rattle.rules.specs.Lists.{nothing}
use Rattle.rules.specs.Cells.{is_height, stage_size}
use Rattle.rules.specs.Graph.{Node, graph_of}
use Rattle.rules.specs.Build.{Stage}
use Rattle.rules.specs.Faults.{right_at, first_not, end_right, first_may, held_in, fault_from, holds_in, written_in, cut}
use Rattle.rules.proofs.Lists.Members.{split, eqb_true, eqb_false}
use Rattle.graph.proofs.Gates.{graph_length}
use Rattle.cells.specs.Answers.{or_zero}
use Rattle.plan_check_stage.specs.Marks.{marked}
use Rattle.plan_check_stage.specs.Cells.{Gives, may_of, High, StageHere, place_of, FirstWrong}
use Rattle.plan_check_stage.specs.Ending.{words_from, EndRight}
use Rattle.plan_check_stage.proofs.Laws.Ending.{words_count}
use Rattle.plan_check.specs.declared.stages.Place.{Place}
use Rattle.plan_check.specs.Stages.{fault_for, or_else, stage_with, StageSays, StepSays, stage_from, Held, TurnAt, FirstAt, FirstSays}
use Rattle.plan_check.proofs.Laws.Loads.{size_is, fault_same}

-- where a stage ends
pub end_is : {K s : ℕ} (at : ℕ) → High K → s ≡ or_zero (is_height K) (2 ^ (K + 1)) → at + s ≡ at + 2 ^ (K + 1)
end_is {K} {s} at H e = ap (λ (x : ℕ). at + x) (size_is H e)

-- what stands from a place on, as it is lent
rest_is : (from : ℕ) (words : List ℕ) → take (length words - from) (drop from words) ≡ drop from words
rest_is from words = take_all (length words - from) (drop from words) (rw length-drop (omega arith))

-- ---- places

abbrev pub at_place : ℕ → ℕ → Result (Unit {0}) Place
at_place k p = Err (record { stage = k; position = p })

-- ---- a stage

module _ (K : ℕ) (g : List Node) (marks looks : List ℕ) (k : ℕ) (cells words : List ℕ) (n room : ℕ) where
  -- a cell is wrong
  pub says_cell : (p : ℕ) → FirstWrong K g marks looks (eqb k 1) cells (Some p) → StageSays K g marks looks k cells words n room (at_place k p)
  unfolding or_else fault_from place_of
  says_cell p F = record { is = λ given G ss. rw (F.is given G, fault_from); few = tt; at = tt }

  module _ (F : FirstWrong K g marks looks (eqb k 1) cells None) (t : Bool) (E : EndRight K cells words n room t) where
    right : (given : List ℕ) → Gives given marks → first_not (right_at K g given (may_of (eqb k 1) g given looks) cells) (stage_size K - 1) 1 ≡ nothing
    unfolding place_of
    right given G = F.is given G

    -- its end is wrong
    pub says_end : t ≡ false → StageSays K g marks looks k cells words n room (at_place k 0)
    unfolding or_else fault_from
    says_end f = record {
      is = λ given G ss. let d : end_right K room (stage_with cells words n) ≡ false = sym E.is ∙ f in rw (right given G, d, fault_from);
      few = tt;
      at = tt;
    }

    -- it has no fault
    pub says_none : t ≡ true → StageSays K g marks looks k cells words n room (Ok tt)
    unfolding or_else fault_from
    says_none f = record {
      is = λ given G ss. let d : end_right K room (stage_with cells words n) ≡ true = sym E.is ∙ f in rw (right given G, d, fault_from, words_count n 0 words);
      few = E.few f;
      at = E.at f;
    }

-- ---- the stages

-- what the stage at `at` may load
unfoldable pub loads_at : ℕ → List Node → (given plan : List ℕ) → ℕ → ℕ → Bool
loads_at K g given plan at n = elim (eqb at 0) [ true ↦ first_may g given n | false ↦ held_in K (stage_from K (at - 2 ^ (K + 1)) plan) n ]

-- the stages before `at` have no fault
pub record Checking (K : ℕ) (g : List Node) (marks plan words counts : List ℕ) (n room k at from left : ℕ) (looks written : List ℕ) : Type 0 where
  pub upto : k ≤ n
  pub first : k ≡ 0 → at ≡ 0
  pub later : (k ≡ 0 → ⊥) → 2 ^ (K + 1) ≤ at
  pub stages : at + (n - k) * 2 ^ (K + 1) ≤ length plan
  pub there : from ≤ length words
  pub held : Held K plan at looks
  pub size : length written ≡ 65536
  pub same : (given : List ℕ) → Gives given marks →
      fault_from K g given (first_may g given) room 1 (cut n K plan words counts) ≡ fault_from K g given (loads_at K g given plan at) left (suc k) (cut (n - k) K (drop at plan) (drop from words) (drop k counts))
  pub each : (q : ℕ) → q < 65536 → written_in q (cut n K plan words counts) ≡ (marked written q || written_in q (cut (n - k) K (drop at plan) (drop from words) (drop k counts)))

cut_step : (n K at from k : ℕ) (plan words counts : List ℕ) (c : ℕ) → k < n → c ≡ get_or counts k 0 →
    cut (n - k) K (drop at plan) (drop from words) (drop k counts) ≡ stage_with (stage_from K at plan) (drop from words) c ∷ cut (n - (k + 1)) K (drop (at + 2 ^ (K + 1)) plan) (drop (from + c) words) (drop (k + 1) counts)
unfolding cut words_from
cut_step n K at from k plan words counts c h ec =
    let s : n - k ≡ suc (n - (k + 1)) = omega arith in
    let e : get_or (drop k counts) 0 0 ≡ c = get_or-drop k counts 0 0 ∙ ap (λ (x : ℕ). get_or counts x 0) (add-zero k) ∙ sym ec in
    rw (s, cut, e, drop-drop (2 ^ (K + 1)) at plan, drop-drop c from words, drop-drop 1 k counts)

module _ (K : ℕ) (gates marks plan words counts : List ℕ) (n room : ℕ) (looks₀ written₀ : List ℕ) (A : FirstAt K gates plan counts n looks₀ written₀) where
  abbrev g : List Node
  g = graph_of gates

  -- at the beginning
  pub checking_none : Checking K g marks plan words counts n room 0 0 0 room looks₀ written₀
  unfolding loads_at
  checking_none =
      let z : n - 0 ≡ n = omega arith in
      record {
        upto = omega arith;
        first = λ e. refl;
        later = λ e. absurd (e refl);
        stages = rw z (omega (arith, A.here.stages));
        there = omega arith;
        held = A.held;
        size = A.size;
        same = λ given G. rw z;
        each = λ q h. rw (z, A.none q);
      }

  module _ (k at from left : ℕ) (looks written : List ℕ) (C : Checking K g marks plan words counts n room k at from left looks written) (h : k < n) where
    -- the stage is there
    pub checking_here : at + 2 ^ (K + 1) ≤ length plan
    checking_here = let s : n - k ≡ suc (n - (k + 1)) = omega arith in omega (arith, rw s at C.stages)

    stages_next : at + 2 ^ (K + 1) + (n - (k + 1)) * 2 ^ (K + 1) ≤ length plan
    stages_next = let s : n - k ≡ suc (n - (k + 1)) = omega arith in omega (arith, rw s at C.stages)

    -- its cells
    pub checking_stage : (e : ℕ) → e ≡ at + 2 ^ (K + 1) → StageHere K (take (e - at) (drop at plan))
    checking_stage e ee = record {
      tall = A.here.tall;
      size = length-take-le (e - at) (drop at plan) (rw length-drop (omega (arith, checking_here))) ∙ omega arith;
    }

    -- and after it the loads of the next
    pub checking_turn : TurnAt K plan at looks
    checking_turn = record {
      tall = A.here.tall;
      whole = λ ne. split (eqb k 0) (λ t. absurd (ne (C.first (eqb_true k 0 t)))) (λ t. C.later (eqb_false k 0 t));
      here = checking_here;
      held = C.held;
    }

    may_same : (given : List ℕ) → (q : ℕ) → q < length g → loads_at K g given plan at q ≡ may_of (eqb (k + 1) 1) g given looks q
    unfolding loads_at may_of
    may_same given q b = split (eqb k 0)
        (λ t.
        let e : k ≡ 0 = eqb_true k 0 t in
        let u : eqb (k + 1) 1 ≡ true = eq-eqb (k + 1) 1 (omega arith) in
        let v : eqb at 0 ≡ true = eq-eqb at 0 (C.first e) in
        rw (v, u, loads_at))
        (λ t.
        let e = eqb_false k 0 t in
        let ne : at ≡ 0 → ⊥ = λ d. omega (arith, C.later e, A.here.tall.double, A.here.tall.low) in
        let u : eqb (k + 1) 1 ≡ false = ne_eqb (k + 1) 1 (λ d. e (omega arith)) in
        let v : eqb at 0 ≡ false = ne_eqb at 0 ne in
        rw (v, u, loads_at) (sym (C.held.some ne q (omega (arith, graph_length gates, A.here.pins)))))

    module _ (c : ℕ) (ec : c ≡ get_or counts k 0) (e : ℕ) (ee : e ≡ at + 2 ^ (K + 1)) (written' : List ℕ) (r : Result (Unit {0}) Place)
        (S₀ : StepSays K g marks looks (k + 1) (take (e - at) (drop at plan)) (take (length words - from) (drop from words)) c left written written' r) where
      S : StepSays K g marks looks (k + 1) (take (e - at) (drop at plan)) (drop from words) c left written written' r
      S = rw (rest_is from words) at S₀

      cells_are : take (e - at) (drop at plan) ≡ stage_from K at plan
      cells_are = let z : e - at ≡ 2 ^ (K + 1) = omega arith in rw z

      abbrev rest : List Stage
      rest = cut (n - (k + 1)) K (drop (at + 2 ^ (K + 1)) plan) (drop (from + c) words) (drop (k + 1) counts)

      one_step : (given : List ℕ) → Gives given marks →
          fault_from K g given (first_may g given) room 1 (cut n K plan words counts) ≡ or_else r (fault_from K g given (held_in K (stage_from K at plan)) (left - c) (suc (k + 1)) rest)
      one_step given G =
          let s : suc k ≡ k + 1 = omega arith in
          C.same given G
          ∙ ap (fault_from K g given (loads_at K g given plan at) left (suc k)) (cut_step n K at from k plan words counts c h ec)
          ∙ fault_same K g given (loads_at K g given plan at) (may_of (eqb (k + 1) 1) g given looks) (may_same given) left (suc k) (stage_with (stage_from K at plan) (drop from words) c ∷ rest)
          ∙ rw (s, ← cells_are) (S.says.is given G rest)

      -- the stage has a fault
      pub checking_wrong : (p : Place) → r ≡ Err p → FirstSays K g marks plan words counts n room written' r
      unfolding or_else fault_for
      checking_wrong p t = record { is = λ given G. one_step given G ∙ rw t; each = rw t tt }

      module _ (t : r ≡ Ok tt) where
        -- the words fit
        pub checking_few : c ≤ left
        checking_few = rw t at S.says.few

        pub checking_there : from + c ≤ length words
        checking_there = omega (arith, (rw t at S.says.at).there, length-drop from words, C.there)

        passes : (given : List ℕ) → or_else r (fault_from K g given (held_in K (stage_from K at plan)) (left - c) (suc (k + 1)) rest) ≡ fault_from K g given (held_in K (stage_from K at plan)) (left - c) (suc (k + 1)) rest
        unfolding or_else
        passes given = rw t

        next_loads : (given : List ℕ) (q : ℕ) → held_in K (stage_from K at plan) q ≡ loads_at K g given plan (at + 2 ^ (K + 1)) q
        unfolding loads_at
        next_loads given q =
            let z : at + 2 ^ (K + 1) - 2 ^ (K + 1) ≡ at = omega arith in
            let v : eqb (at + 2 ^ (K + 1)) 0 ≡ false = ne_eqb (at + 2 ^ (K + 1)) 0 (λ d. omega (arith, A.here.tall.double, A.here.tall.low)) in
            rw (v, loads_at, z)

        -- it has none
        pub checking_more : (looks' : List ℕ) → Held K plan (at + 2 ^ (K + 1)) looks' → Checking K g marks plan words counts n room (k + 1) e (from + c) (left - c) looks' written'
        unfolding written_in
        checking_more looks' H =
            record {
              upto = omega arith;
              first = λ d. absurd (omega arith);
              later = λ d. omega arith;
              stages = rw ee stages_next;
              there = checking_there;
              held = rw ee H;
              size = S.len ∙ C.size;
              same = λ given G. one_step given G ∙ passes given ∙ fault_same K g given (held_in K (stage_from K at plan)) (loads_at K g given plan (at + 2 ^ (K + 1))) (λ q b. next_loads given q) (left - c) (suc (k + 1)) rest
                  ∙ ap (λ (x : ℕ). fault_from K g given (loads_at K g given plan x) (left - c) (suc (k + 1)) (cut (n - (k + 1)) K (drop x plan) (drop (from + c) words) (drop (k + 1) counts))) (sym ee);
              each = λ q b. C.each q b ∙ ap (λ (x : List Stage). marked written q || written_in q x) (cut_step n K at from k plan words counts c h ec)
                  ∙ rw ((rw t at S.each) q (omega (arith, C.size)), cells_are, ee) (or_assoc (marked written q) (holds_in q (stage_from K at plan) (words_from c 0 (drop from words))) (written_in q rest));
            }
          where
            or_assoc : (a b d : Bool) → (a || (b || d)) ≡ ((a || b) || d)
            or_assoc true b d = refl
            or_assoc false b d = refl

  -- no stage has one
  pub checking_done : (k at from left : ℕ) (looks written : List ℕ) → Checking K g marks plan words counts n room k at from left looks written → n ≤ k → FirstSays K g marks plan words counts n room written (Ok tt)
  unfolding cut fault_from fault_for written_in
  checking_done k at from left looks written C h =
      let z : n - k ≡ 0 = omega arith in
      record {
        is = λ given G. C.same given G ∙ rw z;
        each = λ q b. C.each q b ∙ rw z (or_none (marked written q));
      }
    where
      or_none : (b : Bool) → (b || false) ≡ b
      or_none true = refl
      or_none false = refl
