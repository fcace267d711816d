-- What a stage holds above level 0, as marks; loads that agree on the graph's pins. Assumes nothing.
use Prim.Native.Nat.{ℕ, zero, suc, ◌+◌, ◌-◌, ◌*◌, ◌^◌, ◌≤◌, ◌<◌}
use mathlib.Core.Path.{◌≡◌, refl, sym, ◌∙◌, ap}
use mathlib.Core.Bool.{Bool, true, false}
use mathlib.Core.List.{List, [], ◌∷◌}
use native.Mathlib.Omega.{arith}
use native.Mathlib.Nat.{pow-succ'}
use lib.Dec.{eqb, ltb}
use lib.Pow.{pow_mono}
use lib.ListN.{length, get_or, take, drop}
use lib.Seq.{take-take, drop-drop}
use borrow.Author.Tests.{ltb-true, ltb-false, ne_eqb}
use Rattle.rules.specs.Lists.{mem}
use Rattle.rules.specs.Cells.{is_height, empty, filled, width, stage_size, word_limit}
use Rattle.rules.specs.Graph.{Node}
use Rattle.rules.specs.Fold.{first_at, lowest}
use Rattle.rules.specs.Coded.{cell_pin, pins}
use Rattle.rules.specs.Build.{Stage}
use Rattle.rules.specs.Faults.{is_found, right_at, first_not, held_in, fault_from}
use Rattle.rules.proofs.Bools.{and_none}
use Rattle.rules.proofs.Lists.Members.{split, eqb_true, eqb_false, eqb_same}
use Rattle.rules.proofs.Lists.Parts.{map-take, map-drop}
use Rattle.rules.proofs.Stage.Staged.{two_step}
use Rattle.cells.specs.Answers.{or_zero}
use Rattle.cells.proofs.Heights.{tall_height, or_zero_true}
use Rattle.plan_check_stage.specs.Marks.{marked, Marks}
use Rattle.plan_check_stage.specs.Cells.{High}
use Rattle.plan_check_stage.proofs.Laws.Marks.{mark_past, mark_in, mark_out}
use Rattle.plan_check.specs.Stages.{stage_from, Held, TurnAt, Forgets}

-- ---- the sizes of a height

words_wide : (K : ℕ) → 6 ≤ K → 32 * word_limit K ≡ 2 ^ K
unfolding word_limit
words_wide K h = let e : K ≡ suc (suc (suc (suc (suc (K - 5))))) = omega arith in ap (λ (x : ℕ). 32 * 2 ^ (x - 5)) e ∙ (let d : suc (suc (suc (suc (suc (K - 5))))) - 5 ≡ K - 5 = omega arith in rw d (sym (ap (λ (x : ℕ). 2 ^ x) e ∙ omega arith)))

-- a right height has them
pub high : (K : ℕ) → is_height K ≡ true → High K
high K h =
    let t = tall_height K h in
    let e : K ≡ suc (K - 1) = omega (arith, t.low) in
    record {
      height = h;
      low = pow_mono t.low;
      high = pow_mono t.high;
      double = two_step K;
      half = sym (ap (λ (x : ℕ). 2 ^ x) e ∙ pow-succ' 2 (K - 1));
      words = words_wide K t.low;
    }

-- as the code gets them
pub size_is : {K s : ℕ} → High K → s ≡ or_zero (is_height K) (2 ^ (K + 1)) → s ≡ 2 ^ (K + 1)
size_is {K} H e = rw (H.height, or_zero_true (2 ^ (K + 1))) at e

pub width_is : {K w : ℕ} → High K → w ≡ or_zero (is_height K) (2 ^ K) → w ≡ 2 ^ K
width_is {K} H e = rw (H.height, or_zero_true (2 ^ K)) at e

-- ---- what a stage holds

found_mem : (n i : ℕ) (xs : List ℕ) → is_found (first_at n i xs) ≡ mem n xs
unfolding is_found first_at mem
found_mem n i [] = refl
found_mem n i (x ∷ xs) = split (eqb x n)
    (λ e. let d : eqb n x ≡ true = rw (eqb_true x n e) (eqb_same n) in rw (e, d, first_at, mem))
    (λ e. let d : eqb n x ≡ false = ne_eqb n x (λ z. eqb_false x n e (sym z)) in rw (e, d, first_at, mem) (found_mem n (suc i) xs))

take-nil : (k : ℕ) → ◌≡◌ {A = List ℕ} [] (take k [])
take-nil zero = refl
take-nil (suc k) = refl

drop-take : (n : ℕ) (xs : List ℕ) → drop 1 (take (suc n) xs) ≡ take n (drop 1 xs)
drop-take n [] = take-nil n
drop-take n (x ∷ xs) = refl

-- the pins that the stage at b holds above level 0 are those of the part that was lent
pub held_part : (K b : ℕ) (plan : List ℕ) → High K → (a e : ℕ) → a ≡ b + 1 → e ≡ b + 2 ^ K → (n : ℕ) → held_in K (stage_from K b plan) n ≡ mem n (pins (take (e - a) (drop a plan)))
unfolding held_in lowest pins
held_part K b plan H a e ea ee n =
    let s : 2 ^ (K + 1) ≡ suc (2 ^ (K + 1) - 1) = omega (arith, H.double, H.low) in
    let z : e - a ≡ 2 ^ K - 1 = omega (arith, H.low) in
    let P : List ℕ = pins plan in
    let m : pins (take (2 ^ (K + 1)) (drop b plan)) ≡ take (2 ^ (K + 1)) (drop b P) = rw (map-take, map-drop) in
    let q : drop 1 (pins (take (2 ^ (K + 1)) (drop b plan))) ≡ take (2 ^ (K + 1) - 1) (drop (b + 1) P) =
    ap (drop 1) m ∙ ap (λ (x : ℕ). drop 1 (take x (drop b P))) s ∙ drop-take (2 ^ (K + 1) - 1) (drop b P) ∙ ap (take (2 ^ (K + 1) - 1)) (drop-drop 1 b P) in
    let r : take (2 ^ K - 1) (drop 1 (pins (take (2 ^ (K + 1)) (drop b plan)))) ≡ pins (take (e - a) (drop a plan)) =
    ap (take (2 ^ K - 1)) q ∙ take-take (2 ^ K - 1) (2 ^ (K + 1) - 1) (drop (b + 1) P) (omega (arith, H.double)) ∙ rw (map-take, map-drop, z, ea) in
    found_mem n 1 _ ∙ ap (mem n) r

-- ---- from stage to stage

module _ (K : ℕ) (plan : List ℕ) (at : ℕ) (looks : List ℕ) (T : TurnAt K plan at looks) where
  -- the first stage loads by no marks
  pub forgets_none : at ≡ 0 → Forgets looks
  forgets_none e = record { size = T.held.size; none = T.held.none e }

  -- a later one's loads lose them
  pub forgets : (at ≡ 0 → ⊥) → (s w : ℕ) → s ≡ or_zero (is_height K) (2 ^ (K + 1)) → w ≡ or_zero (is_height K) (2 ^ K) → (l : List ℕ) →
      Marks (pins (take (at - s + w - (at - s + 1)) (drop (at - s + 1) plan))) 0 looks l → Forgets l
  forgets ne s w es ew l M = record { size = M.len ∙ T.held.size; none = λ n. each n }
    where
      last : ℕ
      last = at - s

      a : ℕ
      a = at - s + 1

      e : ℕ
      e = at - s + w

      el : last ≡ at - 2 ^ (K + 1)
      el = ap (λ (x : ℕ). at - x) (size_is T.tall es)

      ee : e ≡ last + 2 ^ K
      ee = ap (λ (x : ℕ). at - s + x) (width_is T.tall ew)

      each : (n : ℕ) → marked l n ≡ false
      each n = split (ltb n (length looks))
          (λ t.
          let h = ltb-true n (length looks) t in
          split (mem n (pins (take (e - a) (drop a plan))))
          (λ i. mark_in _ 0 looks l M n h i)
          (λ i. mark_out _ 0 looks l M n h i ∙ T.held.some ne n (omega (arith, T.held.size)) ∙ rw (← el) (held_part K last plan T.tall a e refl ee n) ∙ i))
          (λ t. sym (mark_past l n n refl (omega (arith, ltb-false n (length looks) t, M.len))))

  -- and what this stage holds gets them
  pub turned : (l : List ℕ) → Forgets l → (w : ℕ) → w ≡ or_zero (is_height K) (2 ^ K) → (l' : List ℕ) → Marks (pins (take (at + w - (at + 1)) (drop (at + 1) plan))) 1 l l' → Held K plan (at + 2 ^ (K + 1)) l'
  turned l F w ew l' M =
      let a : ℕ = at + 1 in
      let e : ℕ = at + w in
      let ee : at + w ≡ at + 2 ^ K = ap (λ (x : ℕ). at + x) (width_is T.tall ew) in
      let z : at + 2 ^ (K + 1) - 2 ^ (K + 1) ≡ at = omega arith in
      record {
        size = M.len ∙ F.size;
        none = λ d n. absurd (omega (arith, T.tall.double, T.tall.low));
        some = λ d n h. rw (z, held_part K at plan T.tall (at + 1) (at + w) refl ee n)
            (split (mem n (pins (take (e - a) (drop a plan))))
            (λ i. mark_in _ 1 l l' M n (omega (arith, F.size)) i ∙ sym i)
            (λ i. mark_out _ 1 l l' M n (omega (arith, F.size)) i ∙ F.none n ∙ sym i));
      }

-- ---- loads that agree on the graph's pins

module _ (K : ℕ) (g : List Node) (given : List ℕ) (may may' : ℕ → Bool) (same : (n : ℕ) → n < length g → may n ≡ may' n) where
  right_same : (cl : List ℕ) (p : ℕ) → right_at K g given may cl p ≡ right_at K g given may' cl p
  unfolding right_at
  right_same cl p = split (filled (get_or cl p empty))
      (λ k. split (ltb (cell_pin (get_or cl p empty)) (length g))
      (λ b. split (ltb p (width K)) (λ d. rw (k, d, right_at)) (λ d. rw (k, d, right_at, same (cell_pin (get_or cl p empty)) (ltb-true _ _ b))))
      (λ b. rw (k, b, right_at, and_none (ltb 0 (cell_pin (get_or cl p empty))))))
      (λ k. rw (k, right_at))

  first_same : (cl : List ℕ) (n i : ℕ) → first_not (right_at K g given may cl) n i ≡ first_not (right_at K g given may' cl) n i
  unfolding first_not
  first_same cl zero i = refl
  first_same cl (suc n) i = split (right_at K g given may' cl i)
      (λ t. let s : right_at K g given may cl i ≡ true = right_same cl i ∙ t in rw (s, t, first_not) (first_same cl n (suc i)))
      (λ t. let s : right_at K g given may cl i ≡ false = right_same cl i ∙ t in rw (s, t, first_not))

  pub fault_same : (room k : ℕ) (ss : List Stage) → fault_from K g given may room k ss ≡ fault_from K g given may' room k ss
  unfolding fault_from
  fault_same room k [] = refl
  fault_same room k (s ∷ ss) = rw (first_same s.plan (stage_size K - 1) 1, fault_from)
