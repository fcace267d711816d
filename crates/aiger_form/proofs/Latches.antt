-- The latch leaves that import hands out are leaves of the graph, and different. Assumes nothing.
use Prim.Native.Nat.{ℕ, ◌≤◌, ◌<◌}
use mathlib.Core.Path.{◌≡◌, refl, ◌∙◌}
use mathlib.Core.Logic.{◌⊎◌, inl, inr}
use mathlib.Core.Bool.{Bool, true, not}
use mathlib.Core.List.{List, [], ◌∷◌, ◌++◌}
use native.Mathlib.Omega.{arith}
use lib.ListN.{length, get_or}
use borrow.Author.Tests.{lt-ltb, not-true}
use Rattle.rules.specs.Lists.{nothing, mem, every, In, Out}
use Rattle.rules.specs.Graph.{leaf, pin_of, graph_of}
use Rattle.rules.proofs.Lists.Members.{true_false, and_true, every_in, in_here, in_cons, in_nil, in_append}
use Rattle.aiger_form.specs.Aag.{Item, bad_text, skipped, input_line, latch_line, output_line, gate_line, Spot, is_literal, is_variable, items, gather_items, defines, defined, first_bad, driver, latch_of, latches_of, gates_of, file, file_of, Netlist, netlist, netlist_read, checked, read_aag, is_leaf_pin, different}
use Rattle.aiger_form.specs.Meaning.{Among, here, there}
use Rattle.aiger_form.specs.Jobs.{Leaves}
use Rattle.aiger_form.proofs.Differ.{Differ, append_differ, in_every, out_in}
use Rattle.aiger_form.proofs.Accepted.{fits, variable_pin, Lines, Stand, bad_cons, out_of, accepted, file_stands, stand_lines, graph_length, node_at}
use Rattle.aiger_form.proofs.Values.{small}

-- a line hands out what it defines, or nothing
latch_part : (x : Item) → (latch_of x ≡ []) ⊎ (latch_of x ≡ defines x)
unfolding latch_of defines
latch_part bad_text = inl refl
latch_part skipped = inl refl
latch_part (input_line l) = inl refl
latch_part (latch_line l n r) = inr refl
latch_part (output_line l) = inl refl
latch_part (gate_line l a b) = inl refl

defines_differ : (x : Item) → Differ (defines x)
unfolding defines different mem
defines_differ bad_text = refl
defines_differ skipped = refl
defines_differ (input_line l) = refl
defines_differ (latch_line l n r) = refl
defines_differ (output_line l) = refl
defines_differ (gate_line l a b) = refl

spots_differ : (all seen : List ℕ) (ss : List Spot) → first_bad all seen ss ≡ nothing → Differ (gather_items latch_of (items ss)) × ((q : ℕ) → In q (gather_items latch_of (items ss)) → Out q seen)
unfolding items gather_items different
spots_differ all seen [] e = (refl, λ q i. in_nil q i)
spots_differ all seen (s ∷ ss) e =
    let x = s.item in
    let rest = gather_items latch_of (items ss) in
    let w = bad_cons all seen s ss e in
    let h = spots_differ all (defines x ++ seen) ss w.1 in
    elim (latch_part x) [
      | inl z ↦ rw z (h.0, λ q i. (out_of q (defines x) seen (h.1 q i)).1)
      | inr z ↦ rw z (
        append_differ (defines x) rest (defines_differ x) h.0 (λ q i. out_in q rest (λ j. true_false i (out_of q (defines x) seen (h.1 q j)).0)),
        λ q i. elim (in_append q (defines x) rest i) [
          | inl j ↦ not-true (mem q seen) (every_in (λ v. not (mem v seen)) q (defines x) w.0.new j)
          | inr j ↦ (out_of q (defines x) seen (h.1 q j)).1
        ],
      )
    ]

record LatchAt (q : ℕ) (xs : List Item) : Type 0 where
  l : ℕ
  next : ℕ
  reset : ℕ
  among : Among (latch_line l next reset) xs
  is : q ≡ pin_of l

later : {q : ℕ} {x : Item} {xs : List Item} → LatchAt q xs → LatchAt q (x ∷ xs)
later L = record { l = L.l; next = L.next; reset = L.reset; among = there L.among; is = L.is }

latch_at : (q : ℕ) (xs : List Item) → In q (gather_items latch_of xs) → LatchAt q xs
unfolding gather_items latch_of
latch_at q [] i = in_nil q i
latch_at q (bad_text ∷ xs) i = later (latch_at q xs i)
latch_at q (skipped ∷ xs) i = later (latch_at q xs i)
latch_at q (input_line l ∷ xs) i = later (latch_at q xs i)
latch_at q (output_line l ∷ xs) i = later (latch_at q xs i)
latch_at q (gate_line l a b ∷ xs) i = later (latch_at q xs i)
latch_at q (latch_line l n r ∷ xs) i = elim (in_cons q (pin_of l) (gather_items latch_of xs) i) [
  | inl e ↦ record { l = l; next = n; reset = r; among = here; is = e }
  | inr j ↦ later (latch_at q xs j)
]

in_single : (q p : ℕ) → q ≡ p → In q (p ∷ [])
in_single q p e = rw e (in_here p [])

module _ (m : ℕ) (xs : List Item) (L : Lines m xs) (few : m ≤ 65535) where
  leaf_at : (q : ℕ) → In q (gather_items latch_of xs) → is_leaf_pin (graph_of (gates_of m xs)) q ≡ true
  unfolding is_leaf_pin fits defines driver
  leaf_at q i =
      let A = latch_at q xs i in
      let e = A.is in
      let w = variable_pin m A.l (and_true (is_variable m A.l) (is_literal m A.next) (L.fit (latch_line A.l A.next A.reset) A.among)).0 in
      let a : q ≤ m = omega (arith, w.1) in
      let b : 0 < q = omega (arith, w.0) in
      let d : get_or (graph_of (gates_of m xs)) q leaf ≡ leaf = node_at m xs L few q a ∙ L.one A.among q (in_single q (pin_of A.l) e) in
      rw (d, is_leaf_pin, lt-ltb 0 q b, lt-ltb q (length (graph_of (gates_of m xs))) (omega (arith, graph_length m xs L few)))

stand_differ : {m : ℕ} {xs : List Item} → Stand m xs → Differ (gather_items latch_of xs)
stand_differ {m} {xs} S = rw S.these at (spots_differ (0 ∷ defined xs) [] S.spots S.good).0

leaves_of : (bytes : List ℕ) (n : Netlist) (m : ℕ) (xs : List Item) → file_of bytes ≡ file m xs → n ≡ netlist m xs → checked true n ≡ 0 → Leaves n
unfolding netlist latches_of
leaves_of bytes n m xs e d r =
    let S = file_stands bytes e in
    let L = stand_lines S in
    let f = small m xs L (rw d at r) [] in
    rw d (record {
      leaves = in_every (is_leaf_pin (graph_of (gates_of m xs))) (gather_items latch_of xs) (leaf_at m xs L f);
      differ = stand_differ S;
    })

-- what is read has a leaf of its own for each latch
pub read_leaves : (sized : Netlist → Bool) (bytes : List ℕ) (n : Netlist) → read_aag sized bytes ≡ netlist_read n → Leaves n
read_leaves sized bytes n e = let A = accepted sized bytes n e in leaves_of bytes n A.variables A.lines A.reads A.net A.free
