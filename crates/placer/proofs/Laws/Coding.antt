-- The stages that a build laid, coded in their place. Assumes nothing.
use Prim.Native.Nat.{ℕ, ◌+◌, ◌-◌, ◌*◌, ◌^◌, ◌≤◌, ◌<◌}
use mathlib.Core.Path.{◌≡◌, refl, sym, ◌∙◌, ap}
use mathlib.Core.Bool.{Bool, true}
use mathlib.Core.List.{List, [], ◌∷◌, ◌++◌, append_assoc}
use native.Mathlib.Omega.{arith}
use native.Mathlib.Nat.{mul-le-mul_right}
use lib.Dec.{ltb, leb}
use lib.Pow.{pow_pos, pow_mono}
use lib.ListN.{length, get_or, replicate, get_or-append}
use lib.Seq.{get_or-append-add}
use borrow.Author.Tests.{ltb-true, ltb-false, leb-true}
use Rattle.rules.specs.Fold.{load_from}
use Rattle.rules.specs.Lists.{padded}
use Rattle.rules.specs.Cells.{empty, filled, is_height, rooms}
use Rattle.rules.specs.Graph.{Node, graph_of}
use Rattle.rules.specs.Records.{groups_of}
use Rattle.rules.specs.Traversal.{WordRule}
use Rattle.rules.specs.Build as rules
use Rattle.rules.proofs.Lists.Members.{split, and_true}
use Rattle.rules.proofs.Stage.Flat.{blank_replicate}
use Rattle.rules.proofs.Stage.Staged.{two_step}
use Rattle.rules.proofs.Build.Lengths.{Sized}
use Rattle.rules.proofs.Build.Coding.{words_coded, counts_coded}
use Rattle.rules.proofs.Demand.{Right, whole_right, whole_sizes}
use Rattle.checks.specs.Passed.{Passed}
use Rattle.coding.specs.Stages.{PlanAt, coded_plan}
use Rattle.coding.proofs.Plans.{plan_coded}
use Rattle.placer.specs.declared.Built.{Built}
use Rattle.placer.specs.declared.Refused.{Refused}
use Rattle.std.specs.Prelude.{Result, Err}
use Rattle.placer.specs.Answers.{told}
use Rattle.placer.specs.Build.{PlaceAt, Laid, Placed}

-- stages of whole size whose cells are pins of the graph
pub record Pinned (K n : ℕ) (ss : List rules.Stage) : Type 0 where
  pub sized : Sized (2 ^ (K + 1)) ss
  pub few : length (rules.cells_of ss) ≡ length ss * 2 ^ (K + 1)
  pub names : (m p : ℕ) → filled (get_or (rules.cells_of ss ++ replicate m empty) p empty) ≡ true → get_or (rules.cells_of ss ++ replicate m empty) p empty < n

none_pinned : (K n : ℕ) → Pinned K n []
unfolding rules.cells_of
none_pinned K n = record {
  sized = tt;
  few = omega arith;
  names = λ m p f. absurd (let z = blank_replicate m p in let y : ◌≡◌ {A = Bool} true _ = sym f ∙ z in let x : ◌≡◌ {A = ℕ} 0 1 = cc in omega arith);
}

module _ (K : ℕ) (g : List Node) (given : List ℕ) where
  all_named : (load : ℕ → Bool) (held : ℕ → Type 0) (ss : List rules.Stage) → Right K g given [] load held ss → (m p : ℕ) → filled (get_or (rules.cells_of ss ++ replicate m empty) p empty) ≡ true → get_or (rules.cells_of ss ++ replicate m empty) p empty < length g
  unfolding rules.cells_of
  all_named load held [] R m p f = (none_pinned K (length g)).names m p f
  all_named load held (s ∷ ss) R m p f =
      let a = append_assoc s.plan (rules.cells_of ss) (replicate m empty) in
      split (ltb p (length s.plan))
      (λ t.
      let e : get_or ((s.plan ++ rules.cells_of ss) ++ replicate m empty) p empty ≡ get_or s.plan p empty = ap (λ (x : List ℕ). get_or x p empty) a ∙ get_or-append s.plan (rules.cells_of ss ++ replicate m empty) empty p (ltb-true p (length s.plan) t) in
      rw e (R.0.names p (rw e at f)))
      (λ t.
      let z : length s.plan + (p - length s.plan) ≡ p = omega (arith, ltb-false p (length s.plan) t) in
      let e : get_or ((s.plan ++ rules.cells_of ss) ++ replicate m empty) p empty ≡ get_or (rules.cells_of ss ++ replicate m empty) (p - length s.plan) empty =
      ap (λ (x : List ℕ). get_or x p empty) a ∙ ap (λ (i : ℕ). get_or (s.plan ++ (rules.cells_of ss ++ replicate m empty)) i empty) (sym z) ∙ get_or-append-add s.plan (rules.cells_of ss ++ replicate m empty) (p - length s.plan) empty in
      rw e (all_named (load_from K g s.plan load) _ ss R.1 m (p - length s.plan) (rw e at f)))

  all_sized : (load : ℕ → Bool) (held : ℕ → Type 0) (ss : List rules.Stage) → Right K g given [] load held ss → Sized (2 ^ (K + 1)) ss
  all_sized load held [] R = tt
  all_sized load held (s ∷ ss) R = (R.0.size, all_sized (load_from K g s.plan load) _ ss R.1)

-- so many stages as the answer tells
told_stages : (b : rules.Answer) → (rules.reply b).stages ≡ length (rules.stages_of b)
unfolding rules.reply rules.refuse rules.stages_of
told_stages (rules.refusal n k) = refl
told_stages (rules.whole ss) = refl

module _ {K : ℕ} {gates given records pl ws cs w : List ℕ} (A : PlaceAt K gates given records pl ws cs w) (rule : WordRule) where
  abbrev b : rules.Answer
  b = rules.answer_of rule K gates given records (length pl)

  abbrev P : Passed K A.sized gates given records
  P = A.passed

  tall : 6 ≤ K
  unfolding is_height
  tall = leb-true 6 K (and_true (leb 6 K) (leb K 13) P.height).0

  flat : K ≤ 13
  unfolding is_height
  flat = leb-true K 13 (and_true (leb 6 K) (leb K 13) P.height).1

  small : length (graph_of gates) ≤ empty
  unfolding empty
  small = omega (arith, P.few, P.pins)

  stages_few : (x : rules.Answer) → b ≡ x → length (rules.stages_of x) ≤ rooms K (length pl)
  unfolding rules.stages_of rules.answer_of
  stages_few (rules.refusal n k) e = omega arith
  stages_few (rules.whole ss) e = (whole_sizes rule K (graph_of gates) P.valid tall small given [] (groups_of records) (λ q i. omega (arith, P.named q i, P.pins)) (rooms K (length pl)) ss e).few

  pinned_by : (x : rules.Answer) → b ≡ x → Pinned K (length (graph_of gates)) (rules.stages_of x)
  unfolding rules.stages_of rules.answer_of
  pinned_by (rules.refusal n k) e = none_pinned K (length (graph_of gates))
  pinned_by (rules.whole ss) e =
      let R = whole_right rule K (graph_of gates) P.valid tall small given [] (groups_of records) (λ q i. omega (arith, P.named q i, P.pins)) (rooms K (length pl)) ss e in
      record {
        sized = all_sized K (graph_of gates) given _ _ ss R;
        few = (whole_sizes rule K (graph_of gates) P.valid tall small given [] (groups_of records) (λ q i. omega (arith, P.named q i, P.pins)) (rooms K (length pl)) ss e).cells;
        names = all_named K (graph_of gates) given _ _ ss R;
      }

  pinned : Pinned K (length (graph_of gates)) (rules.stages_of b)
  pinned = pinned_by b refl

  module _ {a : Result Built Refused} {pl₁ ws₁ cs₁ w₁ : List ℕ} (D : Laid b pl ws cs w a pl₁ ws₁ cs₁ w₁) where
    counted : (told a).stages ≡ length (rules.stages_of b)
    counted = ap (λ (r : rules.Reply). r.stages) D.reply ∙ told_stages b

    -- its stages may be coded
    pub code_at : length pl₁ ≡ length pl → PlanAt K (told a).stages pl₁
    unfolding padded
    code_at l = record {
      height = P.height;
      low = pow_pos K;
      high = pow_mono {i = K} {j = 13} flat;
      double = two_step K;
      room = let m : (told a).stages * 2 ^ (K + 1) ≤ rooms K (length pl) * 2 ^ (K + 1) = rw counted (mul-le-mul_right (2 ^ (K + 1)) (stages_few b refl)) in omega (arith, m, A.plan, l);
      pins = λ p f.
          let m = length pl - length (rules.cells_of (rules.stages_of b)) in
          rw D.filled.plan (omega (arith, P.few, P.pins, pinned.names m p (rw D.filled.plan at f)));
    }

    -- and then they are what the rules leave
    pub placed : {pl₂ : List ℕ} → pl₂ ≡ coded_plan (told a).stages K (graph_of gates) pl₁ → Placed (graph_of gates) b K pl ws cs w a pl₂ ws₁ cs₁ w₁
    placed e = record {
      reply = D.reply;
      filled = record {
        plan = e ∙ (λ i. coded_plan (counted i) K (graph_of gates) (D.filled.plan i)) ∙ plan_coded K (graph_of gates) (length pl) (rules.stages_of b) pinned.sized;
        words = D.filled.words ∙ ap (padded (length ws) empty) (sym (words_coded K (graph_of gates) (rules.stages_of b)));
        counts = D.filled.counts ∙ ap (padded (length cs) 0) (sym (counts_coded K (graph_of gates) (rules.stages_of b)));
      };
      work = D.work;
    }

  -- a refused build has no stages to code
  pub placed_none : {r : Refused} {pl₁ ws₁ cs₁ w₁ : List ℕ} → Laid b pl ws cs w (Err r) pl₁ ws₁ cs₁ w₁ → Placed (graph_of gates) b K pl ws cs w (Err r) pl₁ ws₁ cs₁ w₁
  unfolding told coded_plan
  placed_none D = placed D refl
