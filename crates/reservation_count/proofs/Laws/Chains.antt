-- Chains, record after record. Assumes nothing.
use Prim.Native.Nat.{ℕ, suc, ◌+◌, ◌*◌, ◌/◌, ◌%◌, ◌≤◌, ◌<◌}
use mathlib.Core.Path.{◌≡◌, refl, sym, ◌∙◌, ap}
use mathlib.Core.Logic.{◌⊎◌, inl, inr}
use mathlib.Core.Bool.{true, false}
use mathlib.Core.List.{List, [], ◌∷◌, ◌++◌, append-nil, append_assoc}
use native.Mathlib.Omega.{arith}
use lib.Dec.{eqb}
use lib.ListN.{length, get_or, set, drop, length-set}
use lib.Seq.{get_or-set_same, get_or-set_other}
use Rattle.rules.specs.Lists.{In}
use Rattle.rules.specs.Graph.{pin_of, inversion_of}
use Rattle.rules.specs.Records.{Group, output, flip_flop, memory, staged_pin, groups, read, group_at, groups_of, whole_at, endpoints_of, Ends, first}
use Rattle.rules.specs.Reservation.{Activation, activations, memories}
use Rattle.rules.proofs.Lists.Members.{split, eqb_true, eqb_false, in_here, in_there}
use Rattle.rules.proofs.Reservation.Counting.{memories_snoc, activations_append}
use Rattle.graph.specs.declared.Pin.{Pin}
use Rattle.records.specs.Values.{size_at}
use Rattle.records.proofs.Reading.{Stands, standing}
use Rattle.checks.proofs.Laws.Passed.{Next, read_next, read_last, rest_below}
use Rattle.placer_start.specs.declared.reservation.Added.{Added}
use Rattle.placer_start.specs.declared.reservation.Added.TheVariants.{Memory, Code}
use Rattle.placer_start.specs.Reservation.{AddsGroup, codes_of, memories_of}
use Rattle.reservation_count.specs.Chains.{code_of, added_at, code_at, newest, Chain, none, link, heads_with, links_with, LinkAt, Linked, ChainsAt, Chained}
use Rattle.reservation_count.proofs.Laws.Lists.{newest_same, newest_other}

-- ---- a record's activation

module _ (records : List ℕ) (at : ℕ) {r : Added} (A : AddsGroup (group_at (drop at records)) r) where
  -- a memory has none
  pub code_none : r ≡ Memory → 0 ≡ code_at records at
  unfolding codes_of code_of code_at
  code_none e = let z : added_at records at ≡ [] = A.codes ∙ rw e in rw z

  -- the code of another
  pub code_there : {p : Pin} {c : ℕ} → r ≡ Code p c → c ≡ code_at records at
  unfolding codes_of code_of code_at
  code_there {p} {c} e = let z : added_at records at ≡ record { pin = p.0; code = c } ∷ [] = A.codes ∙ rw e in rw z

same_head : {a b : Activation} → a ∷ [] ≡ b ∷ [] → a ≡ b
same_head e = cc

-- its pin is one of the group's, and the code is below 4 × pins
module _ (m : ℕ) where
  pub code_small : (a : Activation) (x : Group) → ((q : ℕ) → In q (endpoints_of x) → q < m) → activations (x ∷ []) ≡ a ∷ [] → (a.pin < m) × (a.code < 4 * m)
  unfolding activations endpoints_of pin_of inversion_of
  code_small k (output l) b e =
      let s = same_head e in
      let ep : l / 2 ≡ k.pin = ap (λ (a : Activation). a.pin) s in
      let ec : 2 + l % 2 ≡ k.code = ap (λ (a : Activation). a.code) s in
      let h = b (l / 2) (in_here (l / 2) []) in
      (omega arith, omega arith)
  code_small k (flip_flop a d) b e =
      let s = same_head e in
      let ep : d / 2 ≡ k.pin = ap (λ (a : Activation). a.pin) s in
      let ec : 2 * a + d % 2 ≡ k.code = ap (λ (a : Activation). a.code) s in
      let ha = b (a / 2) (in_here (a / 2) (d / 2 ∷ [])) in
      let hd = b (d / 2) (in_there (d / 2) (a / 2) (d / 2 ∷ []) (in_here (d / 2) [])) in
      (omega arith, omega arith)
  code_small k (memory ls) b e = absurd (let z : ◌≡◌ {A = ℕ} 0 1 = cc in omega arith)
  code_small k (staged_pin q) b e =
      let s = same_head e in
      let ep : q ≡ k.pin = ap (λ (a : Activation). a.pin) s in
      let ec : 2 ≡ k.code = ap (λ (a : Activation). a.code) s in
      let h = b q (in_here q []) in
      (omega arith, omega arith)

one_added : (x : Group) → (activations (x ∷ []) ≡ []) ⊎ ((a : Activation) × (activations (x ∷ []) ≡ a ∷ []))
unfolding activations
one_added (output l) = inr (_, refl)
one_added (flip_flop e d) = inr (_, refl)
one_added (memory ls) = inl refl
one_added (staged_pin p) = inr (_, refl)

-- ---- one record

module _ (records : List ℕ) (at : ℕ) (heads links : List ℕ) (L : LinkAt records at heads links) {r : Added} (A : AddsGroup (group_at (drop at records)) r) where
  -- a whole record stands inside
  pub link_inside : at + 1 < length records
  link_inside = let s = standing records at L.whole in omega (arith, s.some, s.inside)

  -- a memory
  pub linked_memory : r ≡ Memory → Linked records at heads links heads links 1
  unfolding codes_of memories_of heads_with links_with
  linked_memory e =
      let z : added_at records at ≡ [] = A.codes ∙ rw e in
      record { memory = A.memory ∙ rw e; few = omega arith; head = rw z; next = rw z }

  module _ {p : Pin} {c : ℕ} (e : r ≡ Code p c) where
    added : added_at records at ≡ record { pin = p.0; code = c } ∷ []
    unfolding codes_of
    added = A.codes ∙ rw e

    -- its pin has a head
    pub link_pin : (i : ℕ) → i ≡ p.0 → i < length heads
    link_pin i d = omega (arith, (code_small (length heads) (record { pin = p.0; code = c }) (group_at (drop at records)) L.named added).0)

    -- an activation
    pub linked_code : (i : ℕ) → i ≡ p.0 → Linked records at heads links (set heads i (at + 1)) (set links at (get_or heads i 0)) 0
    unfolding memories_of heads_with links_with
    linked_code i d = record { memory = A.memory ∙ rw e; few = omega arith; head = rw (added, d); next = rw (added, d) }

-- ---- chains

-- a number stored past a chain leaves it
chain_set : {m : ℕ} {records links : List ℕ} {h : ℕ} {cs : List ℕ} → Chain m records links h cs → (k v : ℕ) → h ≤ k → Chain m records (set links k v) h cs
chain_set none k v b = none
chain_set {m} {records} {links} (link {i = i} {cs = cs} w c l n) k v b =
    let e : get_or (set links k v) i 0 ≡ get_or links i 0 = get_or-set_other links k i v 0 (λ d. omega arith) in
    link {cs = cs} w c (rw e l) (rw e (chain_set n k v (omega arith)))

-- one more record
chain_more : {m : ℕ} {records links : List ℕ} {h : ℕ} {cs : List ℕ} → Chain m records links h cs → (at : ℕ) → whole_at (drop at records) ≡ true → code_at records at < 4 * m → at < length links → h ≤ at →
    Chain m records (set links at h) (suc at) (code_at records at ∷ cs)
chain_more {m} {records} {links} {h} {cs} n at w c l b =
    let e : get_or (set links at h) at 0 ≡ h = get_or-set_same links at h 0 l in
    link {cs = cs} w c (rw e b) (rw e (chain_set n at h b))

-- the codes of a chain are no more than its head says
pub chain_few : {m : ℕ} {records links : List ℕ} {h : ℕ} {cs : List ℕ} → Chain m records links h cs → length cs ≤ h
chain_few none = omega arith
chain_few (link w c l n) = omega (arith, chain_few n)

-- ---- record after record

-- the records before an index are xs, and chained
pub record Chaining (records heads links : List ℕ) (at many : ℕ) (heads' links' : List ℕ) : Type 0 where
  pub heads_len : length heads' ≡ length heads
  pub links_len : length links' ≡ length links
  pub upto : at ≤ length records
  pub xs : List Group
  pub rest : List Group
  pub all : groups_of records ≡ xs ++ rest
  pub unread : read (drop at records) ≡ groups rest
  pub named : (q : ℕ) → Ends q rest → q < length heads
  pub count : memories xs ≡ many
  pub few : 2 * many ≤ at
  pub before : (p : ℕ) → get_or heads' p 0 ≤ at
  pub chain : (p : ℕ) → p < length heads' → Chain (length heads') records links' (get_or heads' p 0) (newest p (activations xs) [])

module _ (records heads links : List ℕ) (A : ChainsAt records heads links) where
  -- none at the beginning
  pub chaining_none : Chaining records heads links 0 0 heads links
  unfolding memories activations newest
  chaining_none = record {
    heads_len = refl;
    links_len = refl;
    upto = omega arith;
    xs = [];
    rest = groups_of records;
    all = refl;
    unread = A.right.readable;
    named = A.right.named;
    count = refl;
    few = omega arith;
    before = λ p. omega (arith, A.none p);
    chain = λ p h. rw (A.none p) none;
  }

  module _ (at many : ℕ) (heads₁ links₁ : List ℕ) (C : Chaining records heads links at many heads₁ links₁) (h : at < length records) where
    next : Next records at C.rest
    next = read_next records at C.rest C.unread h

    -- the record at the index may be chained
    pub chaining_at : LinkAt records at heads₁ links₁
    chaining_at = record {
      whole = next.whole;
      short = A.right.short;
      room = omega (arith, C.links_len, A.room);
      named = λ q i. omega (arith, C.named q (rw next.these (first i)), C.heads_len);
    }

    -- a whole record stands there
    chaining_stands : Stands records at
    chaining_stands = standing records at next.whole

    abbrev g : Group
    g = group_at (drop at records)

    module _ (heads₂ links₂ : List ℕ) (r : ℕ) (L : Linked records at heads₁ links₁ heads₂ links₂ r) where
      kept_heads : length heads₂ ≡ length heads₁
      unfolding heads_with
      kept_heads = elim (one_added g) [
        | inl z ↦ ap length L.head ∙ rw z
        | inr z ↦ let d = z.1 in ap length L.head ∙ rw d (length-set heads₁ z.0.pin (at + 1))
      ]

      kept_links : length links₂ ≡ length links₁
      unfolding links_with
      kept_links = elim (one_added g) [
        | inl z ↦ ap length L.next ∙ rw z
        | inr z ↦ let d = z.1 in ap length L.next ∙ rw d (length-set links₁ at (get_or heads₁ z.0.pin 0))
      ]

      abbrev more : List Group
      more = C.xs ++ (g ∷ [])

      module _ (a : Activation) (z : activations (g ∷ []) ≡ a ∷ []) where
        small : (a.pin < length heads₁) × (a.code < 4 * length heads₁)
        small = code_small (length heads₁) a g chaining_at.named z

        is_code : code_at records at ≡ a.code
        unfolding code_at code_of
        is_code = rw z

        new_heads : heads₂ ≡ set heads₁ a.pin (at + 1)
        unfolding heads_with
        new_heads = L.head ∙ rw z

        new_links : links₂ ≡ set links₁ at (get_or heads₁ a.pin 0)
        unfolding links_with
        new_links = L.next ∙ rw z

        one_before : (p : ℕ) → get_or heads₂ p 0 ≤ at + 1
        one_before p = split (eqb p a.pin)
            (λ t. let e = eqb_true p a.pin t in rw (new_heads, e, get_or-set_same heads₁ a.pin (at + 1) 0 small.0) (omega arith))
            (λ t. rw (new_heads, get_or-set_other heads₁ a.pin p (at + 1) 0 (eqb_false p a.pin t)) (omega (arith, C.before p)))

        one_chain : (p : ℕ) → p < length heads₁ → Chain (length heads₁) records links₂ (get_or heads₂ p 0) (newest p (activations C.xs ++ (a ∷ [])) [])
        one_chain p b = split (eqb p a.pin)
            (λ t.
            let e = eqb_true p a.pin t in
            let s : suc at ≡ at + 1 = omega arith in
            let c = chain_more (C.chain a.pin small.0) at next.whole (rw is_code small.1) (omega (arith, chaining_at.room)) (C.before a.pin) in
            rw (new_heads, new_links, e, get_or-set_same heads₁ a.pin (at + 1) 0 small.0, newest_same a a.pin (activations C.xs) [] refl, ← is_code, ← s) c)
            (λ t.
            let n : eqb a.pin p ≡ false = split (eqb a.pin p) (λ u. absurd (eqb_false p a.pin t (sym (eqb_true a.pin p u)))) (λ u. u) in
            rw (new_heads, new_links, get_or-set_other heads₁ a.pin p (at + 1) 0 (eqb_false p a.pin t), newest_other a p (activations C.xs) [] n)
            (chain_set (C.chain p b) at (get_or heads₁ a.pin 0) (C.before p)))

      now_before : (p : ℕ) → get_or heads₂ p 0 ≤ at + 1
      unfolding heads_with
      now_before p = elim (one_added g) [
        | inl z ↦ let e : heads₂ ≡ heads₁ = L.head ∙ rw z in rw e (omega (arith, C.before p))
        | inr z ↦ one_before z.0 z.1 p
      ]

      now_chain : (p : ℕ) → p < length heads₁ → Chain (length heads₁) records links₂ (get_or heads₂ p 0) (newest p (activations more) [])
      unfolding heads_with links_with
      now_chain p b = elim (one_added g) [
        | inl z ↦
            let e : heads₂ ≡ heads₁ = L.head ∙ rw z in
            let d : links₂ ≡ links₁ = L.next ∙ rw z in
            let m : activations more ≡ activations C.xs = activations_append C.xs (g ∷ []) ∙ rw z (append-nil (activations C.xs)) in
            rw (e, d, m) (C.chain p b)
        | inr z ↦
            let y = z.1 in
            let m : activations more ≡ activations C.xs ++ (z.0 ∷ []) = activations_append C.xs (g ∷ []) ∙ rw y in
            rw m (one_chain z.0 z.1 p b)
      ]

      -- one more
      pub chaining_more : (size : ℕ) → size ≡ size_at records at → Chaining records heads links (at + (1 + size)) (many + r) heads₂ links₂
      chaining_more size es =
          let s = chaining_stands in
          record {
            heads_len = kept_heads ∙ C.heads_len;
            links_len = kept_links ∙ C.links_len;
            upto = omega (arith, s.inside);
            xs = more;
            rest = next.rest;
            all = C.all ∙ ap (λ (l : List Group). C.xs ++ l) next.these ∙ sym (append_assoc C.xs (g ∷ []) next.rest);
            unread = rw (es, s.size) next.others;
            named = rest_below records at C.rest next (length heads) C.named;
            count = memories_snoc C.xs g ∙ (λ i. C.count i + L.memory i);
            few = omega (arith, C.few, L.few, s.some);
            before = λ p. omega (arith, now_before p);
            chain = λ p b. rw kept_heads (now_chain p (omega (arith, kept_heads)));
          }

  -- all at the end
  pub chaining_done : (at many : ℕ) (heads₁ links₁ : List ℕ) → Chaining records heads links at many heads₁ links₁ → length records ≤ at → Chained records heads links heads₁ links₁ many
  chaining_done at many heads₁ links₁ C h =
      let z = read_last records at C.rest C.unread h in
      let a : groups_of records ≡ C.xs = C.all ∙ ap (λ (l : List Group). C.xs ++ l) z ∙ append-nil C.xs in
      record {
        heads_len = C.heads_len;
        links_len = C.links_len;
        memory = ap memories a ∙ C.count;
        few = omega (arith, C.few, C.upto);
        chains = record { before = λ p. omega (arith, C.before p, C.upto); chain = λ p b. rw a (C.chain p b) };
      }
