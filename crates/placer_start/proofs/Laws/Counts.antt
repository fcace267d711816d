-- What a record adds, and the limits. Assumes nothing.
use mathlib.Core.Path.{◌≡◌, refl, sym, ap, ◌∙◌}
use mathlib.Core.Bool.{Bool, true, not}
use mathlib.Core.List.{List, [], ◌∷◌, ◌++◌, append-nil}
use Prim.Native.Nat.{ℕ, suc, ◌+◌, ◌*◌, ◌/◌, ◌%◌, ◌<◌, ◌≤◌}
use native.Mathlib.Omega.{arith}
use Rattle.std.specs.Prelude.{Option, Some, None}
use native.Mathlib.Decide.{dec_lt}
use borrow.Author.Tests.{lt-ltb, le-ltb, le-leb, lt-leb}
use lib.Dec.{leb, ltb}
use lib.ListN.{length, get_or, drop}
use lib.Seq.{drop-cons, get_or-drop}
use Rattle.rules.specs.Cells.{word_limit}
use Rattle.rules.specs.Graph.{pin_of, inversion_of}
use Rattle.rules.specs.Records.{Group, output, flip_flop, memory, staged_pin, size_of, group_at, endpoints_of}
use Rattle.rules.specs.Reservation.{Activation, activations, memories, reserved, reservable}
use Rattle.rules.specs.Lists.{In}
use Rattle.rules.proofs.Lists.Members.{in_here, in_there}
use Rattle.rules.specs.Inside.Counts.{repeats}
use Rattle.rules.proofs.Reservation.Counting.{memories_snoc, duplicates_repeats, activations_append}
use Rattle.graph.specs.declared.Pin.{Pin}
use Rattle.records.specs.declared.Kind.{Kind}
use Rattle.records.specs.declared.Kind.TheVariants as kinds
use Rattle.records.specs.declared.Kind.TheVariants.{Output, FlipFlop, StagedPin}
use Rattle.records.specs.Values.{number_of, number_or_zero, known, size_at}
use Rattle.records.proofs.Reading.{Stands, standing, known_is}
use Rattle.placer_start.specs.declared.reservation.Added.{Added}
use Rattle.placer_start.specs.declared.reservation.Added.TheVariants.{Memory, Code}
use Rattle.placer_start.specs.declared.reservation.Count.{Count}
use Rattle.placer_start.specs.Reservation.{codes_of, memories_of, WholeAt, AddsGroup, CodeAt, Coded, CountAt, Counted, SetAside, Judged}
use Rattle.placer_start.proofs.Laws.Chains.{touched_none}

-- ---- what a group adds

adds_memory : (ls : List ℕ) → AddsGroup (memory ls) Memory
unfolding activations memories codes_of memories_of
adds_memory ls = record { codes = refl; memory = refl }

adds_staged : (p : ℕ) (q : Pin) → q.0 ≡ p → AddsGroup (staged_pin p) (Code q 2)
unfolding activations memories codes_of memories_of
adds_staged p q e = record { codes = rw e; memory = refl }

-- an output adds 2 and its inversion at its pin
pub adds_output : (l : ℕ) (p : Pin) (i : ℕ) → p.0 ≡ pin_of l → i ≡ inversion_of l → AddsGroup (output l) (Code p (2 + i))
unfolding activations memories codes_of memories_of
adds_output l p i ep ei = record { codes = rw (ep, ei); memory = refl }

-- a flip-flop adds twice its enable literal and the data inversion at its data pin
pub adds_flip_flop : (a d : ℕ) (p : Pin) (e i : ℕ) → p.0 ≡ pin_of d → e ≡ a → i ≡ inversion_of d → AddsGroup (flip_flop a d) (Code p (2 * e + i))
unfolding activations memories codes_of memories_of
adds_flip_flop a d p e i ep ee ei = record { codes = rw (ep, ee, ei); memory = refl }

-- ---- the record at an index, by its kind

-- a kind behind an Option
pub of_kind : {r : Option Kind} {k l : Kind} → r ≡ Some k → k ≡ l → r ≡ Some l
of_kind e d = e ∙ ap Some d

module _ {at : ℕ} {xs : List ℕ} (A : WholeAt at xs) where
  S : Stands xs at
  S = standing xs at A.whole

  -- its kind and its first number are there
  pub record_inside : at + 1 < length xs
  record_inside = omega (arith, S.some, S.inside)

  front : (k : ℕ) → get_or xs at 0 ≡ k → drop at xs ≡ k ∷ drop (suc at) xs
  front k e = rw (← e) (drop-cons xs at 0 (omega (arith, S.inside)))

  number : (i j : ℕ) → suc at + i ≡ j → get_or (drop (suc at) xs) i 0 ≡ get_or xs j 0
  number i j e = get_or-drop (suc at) xs i 0 ∙ ap (λ (n : ℕ). get_or xs n 0) e

  module _ {k : Option Kind} (en : number_or_zero k ≡ known (get_or xs at 0)) where
    number_is : (l : Option Kind) → k ≡ l → get_or xs at 0 ≡ number_or_zero l
    number_is l e = sym (ap number_or_zero (sym e) ∙ en ∙ known_is (get_or xs at 0) (omega (arith, S.some, S.size)))

    kind_is : (l : Kind) → k ≡ Some l → get_or xs at 0 ≡ number_of l
    unfolding number_or_zero
    kind_is l e = number_is (Some l) e

    -- a flip-flop's second number is there
    pub flip_inside : k ≡ Some FlipFlop → at + 2 < length xs
    unfolding size_of number_of
    flip_inside e = let s : size_at xs at ≡ 2 = S.size ∙ ap size_of (kind_is FlipFlop e) in omega (arith, S.inside)

    -- the kind is a known one
    pub record_known : {P : Type 0} → k ≡ None → P
    unfolding size_of number_or_zero
    record_known e = absurd (let s : size_at xs at ≡ 0 = S.size ∙ ap size_of (number_is None e) in omega (arith, S.some))

    -- a memory adds no activation, and counts as one memory
    pub record_memory : k ≡ Some kinds.Memory → AddsGroup (group_at (drop at xs)) Memory
    unfolding group_at number_of
    record_memory e = rw (front 3 (kind_is kinds.Memory e)) (adds_memory _)

    -- an output record adds what an output does
    pub record_output : k ≡ Some Output → {r : Added} → AddsGroup (output (get_or xs (at + 1) 0)) r → AddsGroup (group_at (drop at xs)) r
    unfolding group_at number_of
    record_output e B = rw (front 1 (kind_is Output e), number 0 (at + 1) (omega arith)) B

    -- a flip-flop record what a flip-flop does
    pub record_flip : k ≡ Some FlipFlop → {r : Added} → AddsGroup (flip_flop (get_or xs (at + 1) 0) (get_or xs (at + 2) 0)) r → AddsGroup (group_at (drop at xs)) r
    unfolding group_at number_of
    record_flip e B = rw (front 2 (kind_is FlipFlop e), number 0 (at + 1) (omega arith), number 1 (at + 2) (omega arith)) B

    -- a staged pin adds 2 at its pin
    pub record_staged : k ≡ Some StagedPin → (p : Pin) → p.0 ≡ get_or xs (at + 1) 0 → AddsGroup (group_at (drop at xs)) (Code p 2)
    unfolding group_at number_of
    record_staged e p ep = rw (front 4 (kind_is StagedPin e), number 0 (at + 1) (omega arith)) (adds_staged _ p ep)

-- ---- the pin is one of the group's, and the number is small since a literal of such a pin is

same_head : {a b : Activation} → a ∷ [] ≡ b ∷ [] → a ≡ b
same_head e = cc

module _ (m : ℕ) (small : m ≤ 65536) (p c : ℕ) where
  abbrev one : List Activation
  one = record { pin = p; code = c } ∷ []

  code_named : (x : Group) → ((q : ℕ) → In q (endpoints_of x) → q < m) → activations (x ∷ []) ≡ one → (p < m) × (c < 262144)
  unfolding activations endpoints_of pin_of inversion_of
  code_named (output l) b e =
      let s = same_head e in
      let ep : l / 2 ≡ p = ap (λ (a : Activation). a.pin) s in
      let ec : 2 + l % 2 ≡ c = ap (λ (a : Activation). a.code) s in
      (rw (← ep) (b (l / 2) (in_here (l / 2) [])), omega arith)
  code_named (flip_flop a d) b e =
      let s = same_head e in
      let ep : d / 2 ≡ p = ap (λ (a : Activation). a.pin) s in
      let ec : 2 * a + d % 2 ≡ c = ap (λ (a : Activation). a.code) s in
      let ha : a / 2 < m = b (a / 2) (in_here (a / 2) (d / 2 ∷ [])) in
      (rw (← ep) (b (d / 2) (in_there (d / 2) (a / 2) (d / 2 ∷ []) (in_here (d / 2) []))), omega arith)
  code_named (memory ls) b e = absurd (let z : ◌≡◌ {A = ℕ} 0 1 = cc in omega arith)
  code_named (staged_pin q) b e =
      let s = same_head e in
      let ep : q ≡ p = ap (λ (a : Activation). a.pin) s in
      let ec : 2 ≡ c = ap (λ (a : Activation). a.code) s in
      (rw (← ep) (b q (in_here q [])), omega arith)

-- ---- one record more

module _ {m at k : ℕ} {count : Count} {xs : List Group} {records w : List ℕ} (A : CountAt m at k count xs records w) where
  abbrev g : Group
  g = group_at (drop at records)

  -- a whole record stands at the index
  pub count_whole : WholeAt at records
  count_whole = record { whole = A.whole }

  -- a memory counts one more
  pub counted_memory : {r : Added} → AddsGroup g r → r ≡ Memory → Counted m at k xs records w w (record { memories = count.memories + 1; duplicates = count.duplicates })
  unfolding codes_of memories_of
  counted_memory B₀ er =
      let B : AddsGroup g Memory = rw er at B₀ in
      let e : activations (xs ++ (g ∷ [])) ≡ activations xs = activations_append xs (g ∷ []) ∙ ap (λ (l : List Activation). activations xs ++ l) B.codes ∙ append-nil (activations xs) in
      record {
        touched = touched_none;
        chains = rw e (record { before = λ p h. omega (arith, A.chains.before p h); chain = A.chains.chain });
        counts = record {
          memory = omega (arith, memories_snoc xs g, B.memory, A.counts.memory);
          double = duplicates_repeats (xs ++ (g ∷ [])) ∙ ap repeats e ∙ sym (duplicates_repeats xs) ∙ A.counts.double;
        };
        few = omega (arith, A.few);
      }

  module _ {p : Pin} {c : ℕ} {s : Added} (B₀ : AddsGroup g s) (es : s ≡ Code p c) where
    B : AddsGroup g (Code p c)
    B = rw es at B₀

    -- an activation may be taken in
    pub count_code : CodeAt m k p.0 c (activations xs) w
    unfolding codes_of
    count_code =
        let n = code_named m A.area.small p.0 c g A.named B.codes in
        record {
          area = A.area;
          room = A.room;
          small = A.small;
          pin = n.0;
          fits = n.1;
          chains = A.chains;
        }

    -- an activation counts one duplicate more, or none
    pub counted_code : {w' : List ℕ} {r : ℕ} → Coded m k p.0 c (activations xs) w w' r → Counted m at k xs records w w' (record { memories = count.memories; duplicates = count.duplicates + r })
    unfolding codes_of memories_of
    counted_code {w'} {r} C =
        let e : activations (xs ++ (g ∷ [])) ≡ activations xs ++ (record { pin = p.0; code = c } ∷ []) = activations_append xs (g ∷ []) ∙ ap (λ (l : List Activation). activations xs ++ l) B.codes in
        record {
          touched = C.touched;
          chains = rw e C.chains;
          counts = record {
            memory = omega (arith, memories_snoc xs g, B.memory, A.counts.memory);
            double = duplicates_repeats (xs ++ (g ∷ [])) ∙ ap repeats e ∙ C.more ∙ omega (arith, duplicates_repeats xs, A.counts.double);
          };
          few = omega (arith, A.few, C.few);
        }

-- ---- the limits

-- the words set aside: memories, and a 32nd of the duplicates rounded up
pub aside : (count : Count) (r : ℕ) → r ≡ count.memories + (count.duplicates + 31) / 32 → SetAside count r
unfolding reserved
aside count r e = record { is = λ xs C. rw (C.memory, C.double) e }

not_leb : (a b : ℕ) → ltb a b ≡ not (leb b a)
not_leb a b = elim (dec_lt a b) [ yes h ↦ rw (lt-ltb a b h, lt-leb b a h) | no h ↦ let k : b ≤ a = (let n : (a < b → ⊥) = h in omega arith) in rw (le-ltb a b k, le-leb b a k) ]

module _ {count : Count} {limit s : ℕ} (S : SetAside count s) where
  -- as many as the limit, or more: refused
  pub judged_words : limit ≤ s → Judged count limit true
  unfolding reservable
  judged_words h = record { is = λ K xs e C. rw (le-ltb (reserved xs) (word_limit K) (omega (arith, S.is xs C)), reservable) }

  -- fewer: four times the memories and the duplicates decide
  pub judged_rest : s < limit → (r : Bool) → r ≡ ltb limit (4 * count.memories + count.duplicates) → Judged count limit r
  unfolding reservable
  judged_rest h r er = record { is = λ K xs e C. er ∙ not_leb limit (4 * count.memories + count.duplicates) ∙ rw (lt-ltb (reserved xs) (word_limit K) (omega (arith, S.is xs C)), reservable, C.memory, C.double, e) }
