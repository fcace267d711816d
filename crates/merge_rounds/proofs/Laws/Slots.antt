-- Slot after slot: one slot in its turn, and what the loop over the slots keeps. Assumes nothing.
use Prim.Native.Nat.{ℕ, suc, ◌+◌, ◌-◌, ◌*◌, ◌<◌, ◌≤◌}
use mathlib.Core.Bool.{true}
use mathlib.Core.List.{List, [], ◌++◌}
use mathlib.Core.Logic.{◌≢◌, inr}
use mathlib.Core.Path.{◌≡◌, refl, sym, ap, subst, ◌∙◌}
use native.Mathlib.Omega.{arith}
use lib.ListN.{length, get_or, take, drop}
use borrow.Author.Tests.{eq-eqb, ne_eqb}
use Rattle.rules.specs.Traversal.{WordRule}
use Rattle.rules.specs.Merge.{Common, merging, add_part, Result}
use Rattle.merge_slots.specs.Slots.{gathered, listed, full}
use Rattle.merge_slots.specs.Moves.{Opened}
use Rattle.merge_slots.specs.Rounds.{Merging}
use Rattle.merge_slots.proofs.Laws.Rounds.{merging_none, merging_empty, merging_full, merging_done}
use Rattle.merge_layout.specs.Layout.{owned}
use Rattle.merge_trials.specs.Ranks.{Stays}
use Rattle.merge_layout.proofs.Laws.Owned.{lent, back_owned}
use Rattle.merge_trials.proofs.Laws.Standing.{stands_stays, part_stays}
use Rattle.merge_trials.proofs.Laws.Keys.{held_same}
use Rattle.merge_rounds.specs.declared.Course.{Course}
use Rattle.merge_rounds.specs.Rounds.{parts_in, Tries, Keeps, IntoAt, Into, SlotAt, Stepped, SlotsAt, Slotted}
use Rattle.merge_rounds.proofs.Laws.Into.{keeps_more, tries_same, rounds_same}

-- ---- one slot

module _ {K m table base i cap ranks fuel trials : ℕ} {gates given records xs ls pl ws cs w : List ℕ} (A : SlotAt K m table base i cap ranks fuel trials gates given records xs ls pl ws cs w) where
  abbrev n : ℕ
  n = length ls

  -- an empty slot is passed over
  pub slot_empty : {rule : WordRule} → get_or ls i 0 ≡ 0 → Stepped rule K m table base i cap ranks fuel trials gates given records xs ls pl w (record { fuel = fuel; trials = trials }) xs ls pl ws cs w
  unfolding full
  slot_empty e = record {
    keeps = record { stands = A.at; blank = A.blank; plan = refl; count = refl };
    fuel_few = omega arith;
    few = omega arith;
    enough = omega (arith, A.enough);
    is = λ J T r whole M. merging_empty M A.first (rw (eq-eqb (get_or ls i 0) 0 e) refl);
  }

  -- a slot that is left has fuel
  pub slot_fuel : 1 ≤ fuel
  slot_fuel = omega (arith, A.first, A.enough)

  module _ (full-slot : get_or ls i 0 ≢ 0) {ys : List ℕ} (O : Opened ls (take (base + 8 * n - base) (drop base w)) ys) where
    abbrev now : List ℕ
    now = take base w ++ (ys ++ drop (base + 8 * n - base) (drop base w))

    is_full : full ls i ≡ true
    unfolding full
    is_full = rw (ne_eqb (get_or ls i 0) 0 full-slot) refl

    back : owned base n now ≡ ys
    back = back_owned base n w A.at.room ys O.only.size

    stays : Stays m table base w now
    stays = part_stays m table base base (base + 8 * n) w A.at.idle (omega arith) A.at.room (omega (arith, A.at.spare, A.at.behind)) ys O.only.size (inr (omega arith))

    parts : (s : ℕ) → s < n → parts_in base xs ls now s ≡ parts_in base xs ls w s
    parts s h = held_same n ls xs (owned base n w) (owned base n now) (λ x l. ap (λ (o : List ℕ). get_or o x 0) back ∙ O.only.below x l ∙ ap (λ (o : List ℕ). get_or o x 0) (lent base n w A.at.room)) s h

    -- the later full slots opened, the slot's rounds may run
    pub into_at : IntoAt K m table base i cap ranks fuel trials gates given records xs ls pl ws cs now
    into_at = record {
      at = stands_stays A.at stays;
      blank = A.blank;
      first = A.first;
      full_first = is_full;
      cap_fits = A.cap_fits;
      few = A.few;
      trials_fit = omega (arith, A.trials_fit);
      opens = λ s a b. rw back (O.bars s b);
    }

    module _ {rule : WordRule} {t : ℕ} {xs₁ ls₁ pl₁ ws₁ cs₁ w₁ : List ℕ} (I : Into rule K m table base i cap ranks fuel trials gates given records xs ls pl now t xs₁ ls₁ pl₁ ws₁ cs₁ w₁) where
      steps : (J : Common) → Tries rule K (length pl) cap gates given records J → J.ranks ≡ ranks → (whole : Result) → Merging J n whole (parts_in base xs ls w) (full ls) i fuel trials → Merging J n whole (parts_in base xs₁ ls₁ w₁) (full ls₁) (i + 1) (fuel - 1) t
      steps J T e whole M = merging_full M A.first is_full I.still I.lower (λ s l. I.kept s l ∙ parts s (omega (arith, A.first))) (rounds_same J (parts_in base xs ls w) (parts_in base xs ls now) (full ls) (n - suc i) i fuel [] trials (λ s a b. parts s (omega (arith, A.first))) ∙ I.is J T e)

      -- with its rounds run the slot is done
      pub slot_merged : Stepped rule K m table base i cap ranks fuel trials gates given records xs ls pl w (record { fuel = fuel - 1; trials = t }) xs₁ ls₁ pl₁ ws₁ cs₁ w₁
      slot_merged = record {
        keeps = I.keeps;
        fuel_few = omega arith;
        few = omega (arith, I.few, A.fuel_few, slot_fuel);
        enough = omega (arith, A.enough, slot_fuel);
        is = steps;
      }

-- ---- slot after slot

-- what merging all slots is to come to
abbrev pub goal : Common → ℕ → (xs ls w : List ℕ) → Result
goal J base xs ls w = merging J (length ls) (listed (parts_in base xs ls w) (full ls) (length ls) 0) 0

-- the slots before i are done, and what is left is still the goal
pub record Slotting (rule : WordRule) (K m table base cap ranks i fuel trials : ℕ) (gates given records xs ls pl w xs₁ ls₁ pl₁ ws₁ cs₁ w₁ : List ℕ) : Type 0 where
  pub keeps : Keeps K m table base gates given records ls pl xs₁ ls₁ pl₁ ws₁ cs₁ w₁
  pub upto : i ≤ length ls
  pub enough : length ls ≤ i + fuel
  pub fuel_few : fuel ≤ length ls
  pub few : trials + 266240 * fuel ≤ 266240 * length ls
  pub is : (J : Common) → Tries rule K (length pl) cap gates given records J → J.ranks ≡ ranks → Merging J (length ls₁) (goal J base xs ls w) (parts_in base xs₁ ls₁ w₁) (full ls₁) i fuel trials

module _ {K m table base cap ranks : ℕ} {gates given records xs ls pl ws cs w : List ℕ} (A : SlotsAt K m table base cap ranks gates given records xs ls pl ws cs w) where
  -- before the first slot nothing is merged
  pub slotting_none : {rule : WordRule} → Slotting rule K m table base cap ranks 0 (length ls) 0 gates given records xs ls pl w xs ls pl ws cs w
  slotting_none = record {
    keeps = record { stands = A.at; blank = A.blank; plan = refl; count = refl };
    upto = omega arith;
    enough = omega arith;
    fuel_few = omega arith;
    few = omega arith;
    is = λ J T e. merging_none;
  }

  module _ {rule : WordRule} {i fuel trials : ℕ} {xs₁ ls₁ pl₁ ws₁ cs₁ w₁ : List ℕ} (N : Slotting rule K m table base cap ranks i fuel trials gates given records xs ls pl w xs₁ ls₁ pl₁ ws₁ cs₁ w₁) where
    -- the next slot may have its turn
    pub slotting_at : i < length ls → SlotAt K m table base i cap ranks fuel trials gates given records xs₁ ls₁ pl₁ ws₁ cs₁ w₁
    slotting_at h = record {
      at = N.keeps.stands;
      blank = N.keeps.blank;
      first = omega (arith, N.keeps.count);
      cap_fits = A.cap_fits;
      few = A.few;
      fuel_few = omega (arith, N.fuel_few, A.at.few);
      trials_fit = omega (arith, N.few, A.at.few);
      enough = omega (arith, N.keeps.count, N.enough);
    }

    module _ (h : i < length ls) {r : Course} {xs₂ ls₂ pl₂ ws₂ cs₂ w₂ : List ℕ} (S : Stepped rule K m table base i cap ranks fuel trials gates given records xs₁ ls₁ pl₁ w₁ r xs₂ ls₂ pl₂ ws₂ cs₂ w₂) where
      -- one more slot is done
      pub slotting_more : Slotting rule K m table base cap ranks (i + 1) r.fuel r.trials gates given records xs ls pl w xs₂ ls₂ pl₂ ws₂ cs₂ w₂
      slotting_more = record {
        keeps = keeps_more N.keeps S.keeps;
        upto = omega arith;
        enough = omega (arith, S.enough, N.keeps.count);
        fuel_few = omega (arith, S.fuel_few, N.fuel_few);
        few = omega (arith, S.few, N.few);
        is = λ J T e. subst (λ (x : ℕ). Merging J x (goal J base xs ls w) (parts_in base xs₂ ls₂ w₂) (full ls₂) (i + 1) r.fuel r.trials) (sym S.keeps.count) (S.is J (tries_same N.keeps.plan T) e (goal J base xs ls w) (N.is J T e));
      }

    -- past the last slot all are merged
    pub slotting_done : length ls ≤ i → Slotted rule K m table base cap ranks gates given records xs ls pl w trials xs₁ ls₁ pl₁ ws₁ cs₁ w₁
    slotting_done h = record {
      keeps = N.keeps;
      is = λ J T e. merging_done (N.is J T e) (omega (arith, N.keeps.count)) ∙ ap (λ (x : ℕ). ended J x) N.keeps.count;
    }
      where
        ended : Common → ℕ → Result
        ended J x = record { parts = gathered add_part (parts_in base xs₁ ls₁ w₁) (full ls₁) x 0; trials = trials }
