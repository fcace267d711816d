-- Round after round for one slot: what the loop keeps. Assumes nothing.
use Prim.Native.Nat.{ℕ, suc, ◌+◌, ◌-◌, ◌*◌, ◌<◌, ◌≤◌}
use mathlib.Core.Bool.{Bool, true, false}
use mathlib.Core.List.{List, []}
use mathlib.Core.Logic.{◌≢◌}
use mathlib.Core.Path.{◌≡◌, refl, sym, ap, subst, ◌∙◌}
use native.Mathlib.Omega.{arith}
use lib.ListN.{length, get_or}
use Rattle.rules.specs.Traversal.{WordRule}
use Rattle.rules.specs.Merge.{Common, Part, rank_of, Round, none, some, without, Merged, rounds}
use Rattle.rules.proofs.Lists.Members.{true_false}
use Rattle.merge_slots.specs.Slots.{listed, but, own, free, full, held}
use Rattle.merge_slots.specs.Rounds.{Ready}
use Rattle.merge_slots.proofs.Laws.Best.{but_same, but_other}
use Rattle.merge_slots.proofs.Laws.Ranks.{without_slot}
use Rattle.merge_slots.specs.Rounds.{Bars, goes}
use Rattle.merge_slots.proofs.Laws.Rounds.{bars_same, bars_none, round_begins, rounds_none, rounds_some, rounds_end, listed_same}
use Rattle.merge_unions.specs.Unions.{Shares}
use Rattle.merge_layout.specs.Layout.{owned}
use Rattle.merge_trials.specs.Ranks.{AllAt, AllRanked}
use Rattle.merge_trials.proofs.Laws.Standing.{stands_stays}
use Rattle.merge_trials.proofs.Laws.Keys.{held_same}
use Rattle.merge_rounds.specs.declared.Outcome.{Outcome}
use Rattle.merge_rounds.specs.Rounds.{parts_in, opens_in, Tries, Keeps, RoundAt, Fails, Wins, Rounded, IntoAt, Into}

-- ---- the slots

numbered : (n : ℕ) (ls xs o : List ℕ) (s : ℕ) → (held n ls xs o s).nr ≡ s
unfolding held
numbered n ls xs o s = refl

free_same : (n : ℕ) (o o' : List ℕ) → ((x : ℕ) → x < 5 * n → get_or o' x 0 ≡ get_or o x 0) → (s : ℕ) → s < n → free n o' s ≡ free n o s
unfolding free own
free_same n o o' e s h = rw (e (4 * n + s) (omega arith)) refl

-- ---- the definition's rounds

-- what the rounds come to where slot i has P i and the k slots behind it the others
abbrev pub merged : (ℕ → Part) → (ℕ → Bool) → (k i t : ℕ) → Merged
merged P f k i t = record { part = P i; later = listed P f k (suc i); trials = t }

merged_same : (P Q : ℕ → Part) (f g : ℕ → Bool) (k i t : ℕ) → ((s : ℕ) → i ≤ s → s < suc i + k → g s ≡ f s) → ((s : ℕ) → i ≤ s → s < suc i + k → Q s ≡ P s) → merged P f k i t ≡ merged Q g k i t
merged_same P Q f g k i t d e = rw (e i (omega arith) (omega arith), listed_same Q P g f k (suc i) (λ s l u. d s (omega arith) u) (λ s l u z. e s (omega arith) u)) refl

-- slots that agree give the same rounds
pub rounds_same : (J : Common) (P Q : ℕ → Part) (f : ℕ → Bool) (k i left : ℕ) (barred : List ℕ) (t : ℕ) → ((s : ℕ) → i ≤ s → s < suc i + k → Q s ≡ P s)
    → rounds J left (P i) (listed P f k (suc i)) barred t ≡ rounds J left (Q i) (listed Q f k (suc i)) barred t
rounds_same J P Q f k i left barred t e = rw (e i (omega arith) (omega arith), listed_same Q P f f k (suc i) (λ s l u. refl) (λ s l u z. e s (omega arith) u)) refl

-- with `left` rounds more, and these slots barred, they come to `whole`
pub record Going (J : Common) (k i left t : ℕ) (P : ℕ → Part) (f opens : ℕ → Bool) (whole : Merged) : Type 0 where
  pub barred : List ℕ
  pub bars : Bars f opens k (suc i) barred
  pub same : whole ≡ rounds J left (P i) (listed P f k (suc i)) barred t

module _ {J : Common} {k i left t : ℕ} {P : ℕ → Part} {f opens : ℕ → Bool} {whole : Merged} (G : Going J k i left t P f opens whole) where
  -- no round left: this is what they come to
  pub going_end : left ≤ 0 → whole ≡ merged P f k i t
  going_end h = let z : left ≡ 0 = omega arith in G.same ∙ rw z (rounds_end J 0 (P i) (listed P f k (suc i)) G.barred t)

  -- slots and bars that agree go on the same
  pub going_same : (Q : ℕ → Part) (opens' : ℕ → Bool) → ((s : ℕ) → i ≤ s → s < suc i + k → Q s ≡ P s) → ((s : ℕ) → i ≤ s → s < suc i + k → opens' s ≡ opens s) → Going J k i left t Q f opens' whole
  going_same Q opens' e d = record {
    barred = G.barred;
    bars = bars_same G.bars (λ s l u. d s (omega arith) u);
    same = G.same ∙ rounds_same J P Q f k i left G.barred t e;
  }

  module _ (n : (s : ℕ) → (P s).nr ≡ s) (h : 0 < left) {r : ℕ} (e : J.ranks ≡ r) where
    abbrev later : List Part
    later = listed P f k (suc i)

    begins : {a : Round} → goes J (P i) P k (suc i) opens r G.barred t ≡ a → goes J (P i) P k (suc i) opens J.ranks G.barred t ≡ a
    begins d = ap (λ (q : ℕ). goes J (P i) P k (suc i) opens q G.barred t) e ∙ d

    more : left ≡ suc (left - 1)
    more = omega arith

    -- a round without a union ends them
    pub going_fails : (barred' : List ℕ) (t' : ℕ) → goes J (P i) P k (suc i) opens r G.barred t ≡ none barred' t' → whole ≡ merged P f k i t'
    going_fails barred' t' d = G.same ∙ ap (λ (a : ℕ). rounds J a (P i) later G.barred t) more ∙ rounds_none J (left - 1) (P i) later G.barred t barred' t' (round_begins J (P i) P k (suc i) n G.bars J.ranks t ∙ begins d)

    module _ (j : ℕ) {Q : ℕ → Part} {g : ℕ → Bool} (fulls : (s : ℕ) → g s ≡ but j f s) (parts : (s : ℕ) → i < s → s < suc i + k → s ≢ j → Q s ≡ P s) where
      without_is : without j later ≡ listed Q g k (suc i)
      without_is = without_slot P n j f k (suc i) ∙ listed_same P Q (but j f) g k (suc i) (λ s l u. sym (fulls s)) (λ s l u z. sym (parts s (omega arith) u (λ y. true_false z (fulls s ∙ but_same j f s y))))

      -- one with a union leaves one round less, and slot j empty
      pub going_wins : {opens' : ℕ → Bool} (barred' : List ℕ) (t' : ℕ) → Bars g opens' k (suc i) barred' → goes J (P i) P k (suc i) opens r G.barred t ≡ some j (Q i) barred' t' → Going J k i (left - 1) t' Q g opens' whole
      going_wins barred' t' B d = record {
        barred = barred';
        bars = B;
        same = G.same ∙ ap (λ (a : ℕ). rounds J a (P i) later G.barred t) more ∙ rounds_some J (left - 1) (P i) later G.barred t j (Q i) barred' t' (round_begins J (P i) P k (suc i) n G.bars J.ranks t ∙ begins d) ∙ ap (λ (l : List Part). rounds J (left - 1) (Q i) l barred' t') without_is;
      }

-- ---- the loop

-- two calls keep what each keeps
pub keeps_more : {K m table base : ℕ} {gates given records ls pl xs₁ ls₁ pl₁ ws₁ cs₁ w₁ xs₂ ls₂ pl₂ ws₂ cs₂ w₂ : List ℕ} → Keeps K m table base gates given records ls pl xs₁ ls₁ pl₁ ws₁ cs₁ w₁ → Keeps K m table base gates given records ls₁ pl₁ xs₂ ls₂ pl₂ ws₂ cs₂ w₂ → Keeps K m table base gates given records ls pl xs₂ ls₂ pl₂ ws₂ cs₂ w₂
keeps_more A B = record { stands = B.stands; blank = B.blank; plan = B.plan ∙ A.plan; count = B.count ∙ A.count }

-- the same merge, where the size has another name
pub tries_same : {rule : WordRule} {K a b cap : ℕ} {gates given records : List ℕ} {J : Common} → b ≡ a → Tries rule K a cap gates given records J → Tries rule K b cap gates given records J
tries_same {rule} {K} {a} {b} {cap} {gates} {given} {records} {J} e T = subst (λ (z : ℕ). Tries rule K z cap gates given records J) (sym e) T

-- what the rounds of slot i were to come to
abbrev pub aim : Common → (base i fuel trials : ℕ) → (xs ls w : List ℕ) → Merged
aim J base i fuel trials xs ls w = rounds J fuel (parts_in base xs ls w i) (listed (parts_in base xs ls w) (full ls) (length ls - suc i) (suc i)) [] trials

-- so many rounds are left, and what they come to is still the aim
pub record Rounding (rule : WordRule) (K m table base i cap ranks fuel trials t left : ℕ) (gates given records xs ls pl w xs₁ ls₁ pl₁ ws₁ cs₁ w₁ : List ℕ) : Type 0 where
  pub keeps : Keeps K m table base gates given records ls pl xs₁ ls₁ pl₁ ws₁ cs₁ w₁
  pub upto : left ≤ fuel
  pub few : t + 260 * left ≤ trials + 260 * fuel
  pub still : full ls₁ i ≡ true
  pub lower : (s : ℕ) → s < i → full ls₁ s ≡ full ls s
  pub kept : (s : ℕ) → s < i → parts_in base xs₁ ls₁ w₁ s ≡ parts_in base xs ls w s
  pub is : (J : Common) → Tries rule K (length pl) cap gates given records J → J.ranks ≡ ranks
      → Going J (length ls₁ - suc i) i left t (parts_in base xs₁ ls₁ w₁) (full ls₁) (opens_in base ls₁ w₁) (aim J base i fuel trials xs ls w)

-- the areas' lengths stay
pub record Sizes (xs ls pl ws cs w xs₁ ls₁ pl₁ ws₁ cs₁ w₁ : List ℕ) : Type 0 where
  pub indices : length xs₁ ≡ length xs
  pub lengths : length ls₁ ≡ length ls
  pub plan : length pl₁ ≡ length pl
  pub words : length ws₁ ≡ length ws
  pub counts : length cs₁ ≡ length cs
  pub work : length w₁ ≡ length w

-- with nothing changed the areas' lengths stay
pub sizes_none : {xs ls pl ws cs w : List ℕ} → Sizes xs ls pl ws cs w xs ls pl ws cs w
sizes_none = record { indices = refl; lengths = refl; plan = refl; words = refl; counts = refl; work = refl }

module _ {K m table base i cap ranks fuel trials : ℕ} {gates given records xs ls pl ws cs w : List ℕ} (A : IntoAt K m table base i cap ranks fuel trials gates given records xs ls pl ws cs w) where
  -- before the first round nothing is merged
  pub rounding_none : {rule : WordRule} → Rounding rule K m table base i cap ranks fuel trials trials fuel gates given records xs ls pl w xs ls pl ws cs w
  rounding_none = record {
    keeps = record { stands = A.at; blank = A.blank; plan = refl; count = refl };
    upto = omega arith;
    few = omega arith;
    still = A.full_first;
    lower = λ s h. refl;
    kept = λ s h. refl;
    is = λ J T e. record { barred = []; bars = bars_none (λ s l u. A.opens s (omega arith) (omega (arith, A.first))); same = refl };
  }

  module _ {rule : WordRule} {t left : ℕ} {xs₁ ls₁ pl₁ ws₁ cs₁ w₁ : List ℕ} (N : Rounding rule K m table base i cap ranks fuel trials t left gates given records xs ls pl w xs₁ ls₁ pl₁ ws₁ cs₁ w₁) where
    first : i < length ls₁
    first = omega (arith, A.first, N.keeps.count)

    -- the later slots may be ranked
    pub rounding_at : AllAt m table base i gates given records xs₁ ls₁ w₁
    rounding_at = record { K = K; at = N.keeps.stands; first = first }

    -- ranks change no partition and no bar
    module _ {w₂ : List ℕ} (R : AllRanked m table base i gates given records xs₁ ls₁ w₁ w₂) where
      parts : (s : ℕ) → s < length ls₁ → parts_in base xs₁ ls₁ w₂ s ≡ parts_in base xs₁ ls₁ w₁ s
      parts s h = held_same (length ls₁) ls₁ xs₁ (owned base (length ls₁) w₁) (owned base (length ls₁) w₂) (λ x l. R.low x (omega arith)) s h

      opens : (s : ℕ) → s < length ls₁ → opens_in base ls₁ w₂ s ≡ opens_in base ls₁ w₁ s
      opens s h = free_same (length ls₁) (owned base (length ls₁) w₁) (owned base (length ls₁) w₂) R.low s h

      -- ranking the later slots leaves the rounds where they stood
      pub rounding_ranked : Rounding rule K m table base i cap ranks fuel trials t left gates given records xs ls pl w xs₁ ls₁ pl₁ ws₁ cs₁ w₂
      rounding_ranked = record {
        keeps = record { stands = stands_stays N.keeps.stands R.stays; blank = N.keeps.blank; plan = N.keeps.plan; count = N.keeps.count };
        upto = N.upto;
        few = N.few;
        still = N.still;
        lower = N.lower;
        kept = λ s h. parts s (omega (arith, first)) ∙ N.kept s h;
        is = λ J T e. going_same (N.is J T e) (parts_in base xs₁ ls₁ w₂) (opens_in base ls₁ w₂) (λ s l u. parts s (omega (arith, first))) (λ s l u. opens s (omega (arith, first)));
      }

      ready : (J : Common) → Shares gates given records J → (s : ℕ) → i < s → s < length ls₁ → opens_in base ls₁ w₂ s ≡ true
          → Ready J (parts_in base xs₁ ls₁ w₂ i) (parts_in base xs₁ ls₁ w₂) (length ls₁) (owned base (length ls₁) w₂) s
      ready J S s a b f =
          let r = R.ready J S s a b (sym (opens s b) ∙ f) in
          let p = sym (parts i first) in
          let q = sym (parts s b) in
          record {
            grows = r.grows ∙ ap (λ (x : Part). (rank_of J x (parts_in base xs₁ ls₁ w₁ s)).grows) p ∙ ap (λ (x : Part). (rank_of J (parts_in base xs₁ ls₁ w₂ i) x).grows) q;
            union = r.union ∙ ap (λ (x : Part). (rank_of J x (parts_in base xs₁ ls₁ w₁ s)).union) p ∙ ap (λ (x : Part). (rank_of J (parts_in base xs₁ ls₁ w₂ i) x).union) q;
          }

      -- the next round may be tried
      pub round_at : 0 < left → RoundAt K m table base i cap ranks t gates given records xs₁ ls₁ pl₁ ws₁ cs₁ w₂
      round_at h = record {
        at = stands_stays N.keeps.stands R.stays;
        blank = N.keeps.blank;
        first = first;
        full_first = N.still;
        cap_fits = A.cap_fits;
        trials_fit = omega (arith, N.few, A.few, A.trials_fit);
        ready = ready;
      }

    module _ (h : 0 < left) {r : Outcome} {xs₂ ls₂ pl₂ ws₂ cs₂ w₂ : List ℕ} (O : Rounded rule K m table base i cap ranks t gates given records xs₁ ls₁ pl₁ w₁ r xs₂ ls₂ pl₂ ws₂ cs₂ w₂) where
      abbrev P : ℕ → Part
      P = parts_in base xs₁ ls₁ w₁

      abbrev Q : ℕ → Part
      Q = parts_in base xs₂ ls₂ w₂

      nrs : (s : ℕ) → (P s).nr ≡ s
      nrs s = numbered (length ls₁) ls₁ xs₁ (owned base (length ls₁) w₁) s

      module _ (F : Fails rule K (length pl₁) base i cap ranks t r.trials gates given records xs₁ ls₁ w₁ xs₂ ls₂ w₂) where
        still_parts : (s : ℕ) → s < length ls₁ → Q s ≡ P s
        still_parts s l = rw (F.indices, F.lengths) (F.parts s l)

        still_full : (s : ℕ) → full ls₂ s ≡ full ls₁ s
        still_full s = ap (λ (l : List ℕ). full l s) F.lengths

        comes : (J : Common) → Tries rule K (length pl) cap gates given records J → J.ranks ≡ ranks → aim J base i fuel trials xs ls w ≡ merged Q (full ls₂) (length ls - suc i) i r.trials
        comes J T e =
            let G = N.is J T e in
            let f = F.is J (tries_same N.keeps.plan T) G.barred G.bars in
            going_fails G nrs h e f.0 r.trials f.1
            ∙ ap (λ (x : ℕ). merged P (full ls₁) (x - suc i) i r.trials) N.keeps.count
            ∙ merged_same P Q (full ls₁) (full ls₂) (length ls - suc i) i r.trials (λ s l u. still_full s) (λ s l u. still_parts s (omega (arith, first, N.keeps.count)))

        -- a round without a union ends the slot's rounds
        pub fails : Into rule K m table base i cap ranks fuel trials gates given records xs ls pl w r.trials xs₂ ls₂ pl₂ ws₂ cs₂ w₂
        fails = record {
          keeps = keeps_more N.keeps O.keeps;
          few = omega (arith, F.few, N.few, A.few);
          still = still_full i ∙ N.still;
          lower = λ s l. still_full s ∙ N.lower s l;
          kept = λ s l. still_parts s (omega (arith, first)) ∙ N.kept s l;
          is = comes;
        }

      -- so it is where the round answers that none was taken
      pub rounding_fails : r.taken ≡ false → Into rule K m table base i cap ranks fuel trials gates given records xs ls pl w r.trials xs₂ ls₂ pl₂ ws₂ cs₂ w₂
      rounding_fails e = fails (O.no e)

      module _ (W : Wins rule K (length pl₁) base i cap ranks t r.trials gates given records xs₁ ls₁ w₁ xs₂ ls₂ w₂) where
        other_full : (s : ℕ) → s ≤ i → full ls₂ s ≡ full ls₁ s
        other_full s l = W.fulls s ∙ but_other W.j (full ls₁) s (λ z. omega (arith, W.order))

        goes_on : (J : Common) → Tries rule K (length pl) cap gates given records J → J.ranks ≡ ranks → Going J (length ls₂ - suc i) i (left - 1) r.trials Q (full ls₂) (opens_in base ls₂ w₂) (aim J base i fuel trials xs ls w)
        goes_on J T e =
            let G = N.is J T e in
            let v = W.is J (tries_same N.keeps.plan T) G.barred G.bars in
            subst
            (λ (x : ℕ). Going J (x - suc i) i (left - 1) r.trials Q (full ls₂) (opens_in base ls₂ w₂) (aim J base i fuel trials xs ls w))
            (sym O.keeps.count)
            (going_wins G nrs h e W.j W.fulls (λ s l u z. W.parts s (omega (arith, first)) (λ y. omega arith) z) v.0 r.trials v.1 v.2)

        -- a round with a union is followed by the next
        pub wins : Rounding rule K m table base i cap ranks fuel trials r.trials (left - 1) gates given records xs ls pl w xs₂ ls₂ pl₂ ws₂ cs₂ w₂
        wins = record {
          keeps = keeps_more N.keeps O.keeps;
          upto = omega (arith, N.upto);
          few = omega (arith, W.few, N.few, A.few);
          still = other_full i (omega arith) ∙ N.still;
          lower = λ s l. other_full s (omega arith) ∙ N.lower s l;
          kept = λ s l. W.parts s (omega (arith, first)) (λ z. omega arith) (λ z. omega (arith, W.order)) ∙ N.kept s l;
          is = goes_on;
        }

      -- so it is where the round answers that one was taken
      pub rounding_more : r.taken ≡ true → Rounding rule K m table base i cap ranks fuel trials r.trials (left - 1) gates given records xs ls pl w xs₂ ls₂ pl₂ ws₂ cs₂ w₂
      rounding_more e = wins (O.yes e)

    -- with no round left the slot is done
    pub rounding_done : left ≤ 0 → Into rule K m table base i cap ranks fuel trials gates given records xs ls pl w t xs₁ ls₁ pl₁ ws₁ cs₁ w₁
    rounding_done h = record {
      keeps = N.keeps;
      few = omega (arith, N.few);
      still = N.still;
      lower = N.lower;
      kept = N.kept;
      is = λ J T e. going_end (N.is J T e) h ∙ ap (λ (x : ℕ). merged (parts_in base xs₁ ls₁ w₁) (full ls₁) (x - suc i) i t) N.keeps.count;
    }
