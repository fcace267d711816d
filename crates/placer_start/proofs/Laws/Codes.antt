-- One more activation: the chains, and what it adds to the duplicates. Assumes nothing.
use mathlib.Core.Path.{◌≡◌, refl, sym, ◌∙◌}
use mathlib.Core.Logic.{inl, inr}
use mathlib.Core.List.{List, [], ◌∷◌, ◌++◌, map}
use Prim.Native.Nat.{ℕ, ◌+◌, ◌*◌, ◌<◌, ◌≤◌}
use native.Mathlib.Omega.{arith}
use native.Mathlib.Decide.{ℕ_discrete}
use borrow.Author.Tests.{ne_eqb}
use lib.Dec.{eqb}
use lib.ListN.{length, get_or}
use Rattle.rules.specs.Lists.{mem, insert, In, Out}
use Rattle.rules.specs.Reservation.{Activation, codes_at}
use Rattle.rules.proofs.Lists.Members.{split, eqb_false, in_cons, in_nil, in_insert, in_insert_old, in_distinct, distinct_in}
use Rattle.rules.specs.Inside.Counts.{pins_met}
use Rattle.rules.proofs.Reservation.Counting.{codes_same, codes_other, codes_none, repeats_first, repeats_old, repeats_more}
use Rattle.columns.specs.Fields.{RANKED}
use Rattle.columns.proofs.Lists.Swap.{insert_old, insert_new}
use Rattle.placer_start.specs.Reservation.{Chain, ChainAt, LinkAt, Linked, Chains, CodeAt, Coded}
use Rattle.placer_start.proofs.Laws.Chains.{chain_none, chain_some, touched_none, link_touched, link_head, link_heads, chain_kept, chain_longer}

-- ---- a pin is met if it has an activation

abbrev pins : List Activation → List ℕ
pins ys = map (λ (a : Activation). a.pin) ys

codes_old : (p : ℕ) (ys : List Activation) (cs : List ℕ) (c : ℕ) → In c cs → In c (codes_at p ys cs)
unfolding codes_at
codes_old p [] cs c i = i
codes_old p (y ∷ ys) cs c i = split (eqb y.pin p) (λ e. rw (e, codes_at) (codes_old p ys (insert y.code cs) c (in_insert_old c y.code cs i))) (λ e. rw (e, codes_at) (codes_old p ys cs c i))

codes_some : (p : ℕ) (ys : List Activation) (cs : List ℕ) → In p (pins ys) → (c : ℕ) × In c (codes_at p ys cs)
unfolding codes_at
codes_some p [] cs i = in_nil p i
codes_some p (y ∷ ys) cs i = split (eqb y.pin p)
    (λ e. (y.code, rw (e, codes_at) (codes_old p ys (insert y.code cs) y.code (in_insert y.code cs))))
    (λ e. elim (in_cons p y.pin (pins ys) i) [ inl d ↦ absurd (eqb_false y.pin p e (sym d)) | inr d ↦ rw (e, codes_at) (codes_some p ys cs d) ])

unmet : (p : ℕ) (ys : List Activation) → codes_at p ys [] ≡ [] → Out p (pins_met ys)
unmet p ys e = split (mem p (pins_met ys)) (λ i. let s = codes_some p ys [] (distinct_in p (pins ys) i) in in_nil s.0 (rw e at s.1)) (λ o. o)

met : (p : ℕ) (ys : List Activation) (c : ℕ) → In c (codes_at p ys []) → In p (pins_met ys)
met p ys c i = split (mem p (pins ys)) (λ e. in_distinct p (pins ys) e) (λ e. in_nil c (rw (codes_none p ys [] e) at i))

some_length : (c : ℕ) (cs : List ℕ) → In c cs → 0 < length cs
some_length c [] i = in_nil c i
some_length c (x ∷ cs) i = omega arith

-- ---- at pin p

module _ {m k p code : ℕ} {ys : List Activation} {w : List ℕ} (A : CodeAt m k p code ys w) where
  abbrev a : Activation
  a = record { pin = p; code = code }

  abbrev codes : List ℕ
  codes = codes_at p ys []

  -- the pin's chain may be walked
  pub head_at : (head : ℕ) → head ≡ get_or w (RANKED * m + p) 0 → ChainAt m head codes w
  head_at head e = record { room = omega (arith, A.room, A.chains.before p A.pin); chain = rw e (A.chains.chain p A.pin) }

  -- the pin's chain may get one longer
  pub link_at : (head : ℕ) → head ≡ get_or w (RANKED * m + p) 0 → LinkAt m k p head code w
  link_at head e = record { area = A.area; room = A.room; small = A.small; pin = A.pin; before = rw e (A.chains.before p A.pin); fits = A.fits }

  others : (q : ℕ) → (q ≡ p → ⊥) → codes_at q (ys ++ (a ∷ [])) [] ≡ codes_at q ys []
  others q ne = codes_other a q ys [] (ne_eqb p q (λ e. ne (sym e)))

  -- an activation that the pin has already adds nothing
  pub coded_old : In code codes → Coded m k p code ys w w 0
  coded_old i = record {
    touched = touched_none;
    chains = record { before = λ q h. omega (arith, A.chains.before q h); chain = λ q h. one q h (ℕ_discrete q p) };
    more = repeats_old a ys (met p ys code i) i ∙ omega arith;
    few = omega arith;
  }
    where
      one : (q : ℕ) → q < m → Dec (q ≡ p) → Chain m w (get_or w (RANKED * m + q) 0) (codes_at q (ys ++ (a ∷ [])) [])
      one q h (yes e) = rw (e, codes_same a p ys [] refl, insert_old code codes i) (A.chains.chain p A.pin)
      one q h (no ne) = rw (others q ne) (A.chains.chain q h)

  module _ (head : ℕ) (e : head ≡ get_or w (RANKED * m + p) 0) (o : Out code codes) {w' : List ℕ} (L : Linked m k p head code w w') where
    B : LinkAt m k p head code w
    B = link_at head e

    linked_chains : Chains m (k + 1) (ys ++ (a ∷ [])) w'
    linked_chains = record { before = λ q h. low q h (ℕ_discrete q p); chain = λ q h. one q h (ℕ_discrete q p) }
      where
        low : (q : ℕ) → q < m → Dec (q ≡ p) → get_or w' (RANKED * m + q) 0 ≤ k + 1
        low q h (yes d) = rw (d, link_head B L) (omega arith)
        low q h (no ne) = rw (link_heads B L q h ne) (omega (arith, A.chains.before q h))

        one : (q : ℕ) → q < m → Dec (q ≡ p) → Chain m w' (get_or w' (RANKED * m + q) 0) (codes_at q (ys ++ (a ∷ [])) [])
        one q h (yes d) = rw (d, codes_same a p ys [] refl, insert_new code codes o) (chain_longer B L (head_at head e).chain)
        one q h (no ne) = rw (others q ne, link_heads B L q h ne) (chain_kept B L (A.chains.chain q h) (A.chains.before q h))

    -- a pin's first activation is no duplicate
    pub coded_first : head ≡ 0 → Coded m k p code ys w w' 0
    coded_first z = record {
      touched = link_touched B L;
      chains = linked_chains;
      more = repeats_first a ys (unmet p ys (chain_none (head_at head e).chain z)) ∙ omega arith;
      few = omega arith;
    }

    -- each further activation of a pin is a duplicate
    pub coded_more : (head ≡ 0 → ⊥) → Coded m k p code ys w w' 1
    coded_more ne =
        let i = chain_some (head_at head e).chain ne in
        record {
          touched = link_touched B L;
          chains = linked_chains;
          more = repeats_more a ys (met p ys _ i) o (some_length _ codes i) ∙ omega arith;
          few = omega arith;
        }
