-- A round for slot i: what the loop along the ranks keeps, and what it comes to. Assumes nothing.
use Prim.Native.Nat.{ℕ, suc, ◌+◌, ◌-◌, ◌*◌, ◌<◌, ◌≤◌}
use mathlib.Core.Bool.{Bool, true, false, not, ◌&&◌}
use mathlib.Core.List.{List, ◌∷◌, ◌++◌}
use mathlib.Core.Logic.{◌≢◌}
use mathlib.Core.Path.{◌≡◌, refl, sym, ap, ◌∙◌}
use native.Mathlib.Omega.{arith}
use Rattle.std.specs.Prelude.{Option, Some, None}
use lib.Dec.{eqb}
use lib.ListN.{length, get_or, take, drop}
use lib.Seq.{get_or-set_other}
use borrow.Author.Tests.{eq-eqb, ne_eqb}
use Rattle.rules.specs.Lists.{mem, nothing, found}
use Rattle.rules.specs.Cells.{rooms}
use Rattle.rules.specs.Graph.{graph_of}
use Rattle.rules.specs.Records.{groups_of}
use Rattle.rules.specs.Traversal.{WordRule}
use Rattle.rules.specs.Merge.{Common, Part, Round, none, some, before, rank_of, accepted, built_of, part_of}
use Rattle.rules.proofs.Lists.Members.{and_true, true_false}
use Rattle.merge_unions.specs.Unions.{Places}
use Rattle.merge_slots.specs.Slots.{best, but, own, free, ahead, held, full}
use Rattle.merge_slots.specs.Moves.{seen, BestAt, Picked}
use Rattle.merge_slots.proofs.Laws.Best.{Among, best_is}
use Rattle.merge_slots.proofs.Laws.Stores.{barred}
use Rattle.merge_slots.specs.Rounds.{Ready}
use Rattle.merge_slots.proofs.Laws.Accepts.{keys_agree, taken_full, taken_part, other_part}
use Rattle.merge_slots.specs.Rounds.{Bars, goes}
use Rattle.merge_slots.proofs.Laws.Rounds.{bars_more, bars_same, round_none, round_ends, round_takes, round_bars}
use Rattle.merge_layout.specs.Layout.{owned}
use Rattle.merge_trials.specs.Ranks.{Stands}
use Rattle.merge_trials.specs.Trials.{TryAt, Tried}
use Rattle.merge_layout.proofs.Laws.Owned.{lent, own_length}
use Rattle.merge_trials.proofs.Laws.Keys.{held_same}
use Rattle.merge_rounds.specs.Rounds.{parts_in, opens_in, Tries, Keeps, RoundAt, Rounded}

-- ---- tests, and what is found

and_swap : (a b c : Bool) → (a && b) && c ≡ (a && c) && b
and_swap false b c = refl
and_swap true true true = refl
and_swap true true false = refl
and_swap true false true = refl
and_swap true false false = refl

but_true : (b : ℕ) (f : ℕ → Bool) (s : ℕ) → but b f s ≡ true → f s ≡ true
unfolding but
but_true b f s e = (and_true (f s) (not (eqb s b)) e).0

-- a slot that is emptied is closed too
bars_taken : {f g opens opens' : ℕ → Bool} {k i : ℕ} {bs : List ℕ} → Bars f opens k i bs → (j : ℕ) → ((s : ℕ) → g s ≡ but j f s) → ((s : ℕ) → i ≤ s → s < i + k → opens' s ≡ but j opens s) → Bars g opens' k i bs
unfolding but
bars_taken {f} {bs = bs} B j a b = record { is = λ s l u. rw (a s, b s l u, B.is s l u) (and_swap (f s) (not (mem s bs)) (not (eqb s j))) }

-- ---- along the ranks

-- no union was accepted yet: only bars changed, and the definition's round goes on from here
pub record Trying (rule : WordRule) (K m table base i cap ranks trials : ℕ) (gates given records xs ls pl ws cs w xs₁ ls₁ pl₁ ws₁ cs₁ w₁ : List ℕ) (t left : ℕ) : Type 0 where
  pub indices : xs₁ ≡ xs
  pub lengths : ls₁ ≡ ls
  pub keeps : Keeps K m table base gates given records ls pl xs₁ ls₁ pl₁ ws₁ cs₁ w₁
  pub groups : length xs₁ ≡ length xs
  pub words : length ws₁ ≡ length ws
  pub counts : length cs₁ ≡ length cs
  pub area : length w₁ ≡ length w
  pub low : (x : ℕ) → x < 4 * length ls → get_or (owned base (length ls) w₁) x 0 ≡ get_or (owned base (length ls) w) x 0
  pub high : (x : ℕ) → 5 * length ls ≤ x → get_or (owned base (length ls) w₁) x 0 ≡ get_or (owned base (length ls) w) x 0
  pub shrinks : (s : ℕ) → s < length ls → opens_in base ls w₁ s ≡ true → opens_in base ls w s ≡ true
  pub total : t + left ≡ trials + ranks
  pub is : (J : Common) → Tries rule K (length pl) cap gates given records J → (bs : List ℕ) → Bars (full ls) (opens_in base ls w) (length ls - suc i) (suc i) bs
      → (bs₁ : List ℕ) × (Bars (full ls) (opens_in base ls w₁) (length ls - suc i) (suc i) bs₁)
      × (goes J (parts_in base xs ls w i) (parts_in base xs ls w) (length ls - suc i) (suc i) (opens_in base ls w) ranks bs trials ≡ goes J (parts_in base xs ls w i) (parts_in base xs ls w) (length ls - suc i) (suc i) (opens_in base ls w₁) left bs₁ t)

module _ {K m table base i cap ranks trials : ℕ} {gates given records xs ls pl ws cs w : List ℕ} (A : RoundAt K m table base i cap ranks trials gates given records xs ls pl ws cs w) where
  abbrev n : ℕ
  n = length ls

  abbrev k : ℕ
  k = n - suc i

  abbrev part : ℕ → Part
  part = parts_in base xs ls w

  -- before the first rank nothing is tried
  pub trying_none : {rule : WordRule} → Trying rule K m table base i cap ranks trials gates given records xs ls pl ws cs w xs ls pl ws cs w trials ranks
  trying_none = record {
    indices = refl;
    lengths = refl;
    keeps = record { stands = A.at; blank = A.blank; plan = refl; count = refl };
    groups = refl;
    words = refl;
    counts = refl;
    area = refl;
    low = λ x h. refl;
    high = λ x h. refl;
    shrinks = λ s h e. e;
    total = refl;
    is = λ J S bs B. (bs, B, refl);
  }

  numbered : (s : ℕ) → (part s).nr ≡ s
  unfolding held
  numbered s = refl

  module _ {rule : WordRule} {xs₁ ls₁ pl₁ ws₁ cs₁ w₁ : List ℕ} {t left : ℕ} (N : Trying rule K m table base i cap ranks trials gates given records xs ls pl ws cs w xs₁ ls₁ pl₁ ws₁ cs₁ w₁ t left) where
    abbrev o₁ : List ℕ
    o₁ = owned base n w₁

    abbrev goes_on : Common → (ℕ → Bool) → ℕ → List ℕ → ℕ → Round
    goes_on J = goes J (part i) part k (suc i)

    stands : Stands K m table base gates given records xs ls w₁
    stands = rw (N.indices, N.lengths) at N.keeps.stands

    own_room : base + 8 * n ≤ length w₁
    own_room = stands.room

    lent_now : take (base + 8 * n - base) (drop base w₁) ≡ o₁
    lent_now = lent base n w₁ own_room

    -- the best open slot may be looked for
    pub trying_best : BestAt n (i + 1) (take (base + 8 * n - base) (drop base w₁))
    trying_best = rw lent_now (record { own = record { few = A.at.few; room = own_length base n w₁ own_room }; upto = omega (arith, A.first) })

    same_part : (s : ℕ) → s < n → held n ls xs o₁ s ≡ part s
    same_part = held_same n ls xs (owned base n w) o₁ N.low

    fails : ((J : Common) (bs : List ℕ) → goes_on J (free n o₁) left bs t ≡ none bs t) → Rounded rule K m table base i cap ranks trials gates given records xs ls pl w (record { taken = false; trials = t }) xs₁ ls₁ pl₁ ws₁ cs₁ w₁
    fails e = record {
      keeps = N.keeps;
      no = λ z. record { indices = N.indices; lengths = N.lengths; parts = same_part; few = omega (arith, N.total); is = λ J S bs B. let f = N.is J S bs B in (f.0, f.2 ∙ e J f.0) };
      yes = λ z. true_false z refl;
    }

    -- no rank left: the round ends without a union
    pub trying_ends : left ≤ 0 → Rounded rule K m table base i cap ranks trials gates given records xs ls pl w (record { taken = false; trials = t }) xs₁ ls₁ pl₁ ws₁ cs₁ w₁
    trying_ends h = let z : left ≡ 0 = omega arith in fails (λ J bs. rw z (round_ends J (part i) part k (suc i) (ahead n o₁) (free n o₁) bs t))

    picked : {r : Option ℕ} → Picked n (i + 1) (take (base + 8 * n - base) (drop base w₁)) r → best (ahead n o₁) (free n o₁) k (suc i) ≡ seen r
    picked {r} G = let z : i + 1 ≡ suc i = omega arith in let q : Picked n (suc i) o₁ r = rw (z, lent_now) at G in q.is

    -- no open slot: it does too
    pub trying_stuck : Picked n (i + 1) (take (base + 8 * n - base) (drop base w₁)) None → Rounded rule K m table base i cap ranks trials gates given records xs ls pl w (record { taken = false; trials = t }) xs₁ ls₁ pl₁ ws₁ cs₁ w₁
    unfolding seen
    trying_stuck G = fails (λ J bs. round_none J (part i) part k (suc i) (ahead n o₁) (free n o₁) left bs t (picked G))

    module _ {j : ℕ} (G : Picked n (i + 1) (take (base + 8 * n - base) (drop base w₁)) (Some j)) where
      found_j : best (ahead n o₁) (free n o₁) k (suc i) ≡ found j
      unfolding seen
      found_j = picked G

      chosen : Among (free n o₁) k (suc i) j
      chosen = best_is (ahead n o₁) (free n o₁) k (suc i) j found_j

      order : i < j
      order = omega (arith, chosen.low)

      inside : j < n
      inside = omega (arith, chosen.high, A.first)

      -- the best slot's union may be tried
      pub trying_try : TryAt K m table base i j cap gates given records xs₁ ls₁ pl₁ ws₁ cs₁ w₁
      trying_try = record { at = N.keeps.stands; blank = N.keeps.blank; order = order; second = omega (arith, inside, N.keeps.count); cap_fits = A.cap_fits }

      module _ (l : 0 < left) {r : Bool} {xs₂ ls₂ pl₂ ws₂ cs₂ w₂ : List ℕ} (R₀ : Tried rule K m table base i j cap gates given records xs₁ ls₁ pl₁ w₁ r xs₂ ls₂ pl₂ ws₂ cs₂ w₂) where
        abbrev o₂ : List ℕ
        o₂ = owned base n w₂

        R : Tried rule K m table base i j cap gates given records xs ls pl₁ w₁ r xs₂ ls₂ pl₂ ws₂ cs₂ w₂
        R = rw (N.indices, N.lengths) at R₀

        keeps_on : Keeps K m table base gates given records ls pl xs₂ ls₂ pl₂ ws₂ cs₂ w₂
        keeps_on = record { stands = R.stands; blank = R.blank; plan = R.plan ∙ N.keeps.plan; count = R.count }

        one_less : left ≡ suc (left - 1)
        one_less = omega arith

        one_more : suc t ≡ t + 1
        one_more = omega arith

        module _ (J : Common) (S : Tries rule K (length pl) cap gates given records J) where
          places : Places rule K (length pl₁) gates given records J
          places = rw N.keeps.plan S.places

          ready : (s : ℕ) → Among (free n o₁) k (suc i) s → Ready J (part i) part n o₁ s
          unfolding own
          ready s a =
              let q = A.ready J S.places.shares s (omega (arith, a.low)) (omega (arith, a.high, A.first)) (N.shrinks s (omega (arith, a.high, A.first)) a.free) in
              record { grows = N.high (5 * n + s) (omega arith) ∙ q.grows; union = N.high (6 * n + s) (omega arith) ∙ q.union }

          agrees : (s u : ℕ) → s < u → Among (free n o₁) k (suc i) s → Among (free n o₁) k (suc i) u → ahead n o₁ u s ≡ before (rank_of J (part i) (part u)) (rank_of J (part i) (part s))
          agrees s u h a b = keys_agree J (part i) part numbered n o₁ s u (ready s a) (ready u b)

          tested : r ≡ accepted J.cap (built_of J ((part i).has ++ (part j).has))
          unfolding held
          tested = R.is J places S.cap_same

          next : r ≡ false → ((s : ℕ) → suc i ≤ s → s < suc i + k → free n o₂ s ≡ but j (free n o₁) s) → (bs : List ℕ) → goes_on J (free n o₁) left bs t ≡ goes_on J (free n o₂) (left - 1) (j ∷ bs) (t + 1)
          next e o bs =
              ap (λ (a : ℕ). goes_on J (free n o₁) a bs t) one_less
              ∙ round_bars J (part i) part k (suc i) (ahead n o₁) (free n o₁) agrees j found_j (left - 1) bs t (numbered j) (sym tested ∙ e) (free n o₂) o
              ∙ ap (λ (a : ℕ). goes_on J (free n o₂) (left - 1) (j ∷ bs) a) one_more

          wins : r ≡ true → (bs : List ℕ) → goes_on J (free n o₁) left bs t ≡ some j (held n ls₂ xs₂ o₂ i) bs (t + 1)
          unfolding held
          wins e bs =
              let U = R.yes e J places in
              let u : held n ls₂ xs₂ o₂ i ≡ part_of i ((part i).has ++ (part j).has) (own 6 n o₁ j) (built_of J ((part i).has ++ (part j).has)) = taken_part order inside U.taken n o₁ o₂ (built_of J ((part i).has ++ (part j).has)) U.joined.size_is U.joined.stages_are U.joined.words_are U.joined.cells_are in
              ap (λ (a : ℕ). goes_on J (free n o₁) a bs t) one_less
              ∙ round_takes J (part i) part k (suc i) (ahead n o₁) (free n o₁) agrees j found_j (left - 1) bs t (sym tested ∙ e)
              ∙ ap (λ (a : ℕ). some j (part_of i ((part i).has ++ (part j).has) (rank_of J (part i) (part j)).union (built_of J ((part i).has ++ (part j).has))) bs a) one_more
              ∙ ap (λ (a : ℕ). some j (part_of i ((part i).has ++ (part j).has) a (built_of J ((part i).has ++ (part j).has))) bs (t + 1)) (sym (ready j chosen).union)
              ∙ ap (λ (p : Part). some j p bs (t + 1)) (sym u)

        -- a union that is not accepted bars its slot and counts a trial
        pub trying_more : r ≡ false → length ws₂ ≡ length ws₁ → length cs₂ ≡ length cs₁ → length w₂ ≡ length w₁
            → Trying rule K m table base i cap ranks trials gates given records xs ls pl ws cs w xs₂ ls₂ pl₂ ws₂ cs₂ w₂ (t + 1) (left - 1)
        trying_more e lw lc la =
            let D = R.no e in
            let opens : (s : ℕ) → s < n → free n o₂ s ≡ but j (free n o₁) s = λ s h. ap (λ (o : List ℕ). free n o s) D.bar ∙ barred n j o₁ inside (own_length base n w₁ own_room) s h in
            let later : (s : ℕ) → suc i ≤ s → s < suc i + k → free n o₂ s ≡ but j (free n o₁) s = λ s a b. opens s (omega (arith, A.first)) in
            let other : (x : ℕ) → x ≢ 4 * n + j → get_or o₂ x 0 ≡ get_or o₁ x 0 = λ x h. ap (λ (o : List ℕ). get_or o x 0) D.bar ∙ get_or-set_other o₁ (4 * n + j) x 1 0 h in
            record {
              indices = D.indices;
              lengths = D.lengths;
              keeps = keeps_on;
              groups = ap length D.indices;
              words = lw ∙ N.words;
              counts = lc ∙ N.counts;
              area = la ∙ N.area;
              low = λ x h. other x (λ z. omega arith) ∙ N.low x h;
              high = λ x h. other x (λ z. omega (arith, inside)) ∙ N.high x h;
              shrinks = λ s h f. N.shrinks s h (but_true j (free n o₁) s (sym (opens s h) ∙ f));
              total = omega (arith, N.total);
              is = λ J S bs B. let f = N.is J S bs B in (j ∷ f.0, bars_same (bars_more f.1 j) later, f.2 ∙ next J S e later f.0);
            }

        -- any merge in these areas
        abbrev J₀ : Common
        J₀ = record { rule = rule; K = K; g = graph_of gates; given = given; groups = groups_of records; rooms = rooms K (length pl₁); cap = cap; ranks = 0 }

        P₀ : Places rule K (length pl₁) gates given records J₀
        P₀ = record { shares = record { graph = refl; given_same = refl; groups_same = refl }; rule_same = refl; height = refl; rooms_same = refl }

        -- an accepted union ends the round
        pub trying_takes : r ≡ true → Rounded rule K m table base i cap ranks trials gates given records xs ls pl w (record { taken = true; trials = t + 1 }) xs₂ ls₂ pl₂ ws₂ cs₂ w₂
        trying_takes e =
            let U = R.yes e J₀ P₀ in
            let later : (s : ℕ) → suc i ≤ s → s < suc i + k → free n o₂ s ≡ but j (free n o₁) s = λ s a b. U.joined.bars s (omega (arith, A.first)) in
            let fulls : (s : ℕ) → full ls₂ s ≡ but j (full ls) s = taken_full order inside U.taken A.full_first in
            record {
              keeps = keeps_on;
              no = λ z. true_false refl z;
              yes = λ z. record {
                j = j;
                order = order;
                inside = inside;
                fulls = fulls;
                parts = λ s h a b. rw R.count (other_part order inside U.taken n o₁ o₂ s a b (λ f q. U.joined.others f s q h a) ∙ same_part s h);
                few = omega (arith, N.total);
                is = λ J S bs B. let f = N.is J S bs B in rw R.count (f.0, bars_taken f.1 j fulls later, f.2 ∙ wins J S e f.0);
              };
            }
