-- The stored gates of an accepted file are its graph's numbers. Assumes nothing.
use Prim.Native.Nat.{ℕ, zero, suc, ◌+◌, ◌*◌, ◌/◌, ◌%◌, ◌≤◌, ◌<◌}
use mathlib.Core.Path.{◌≡◌, refl, sym, ap, ◌∙◌}
use mathlib.Core.Logic.{inl, inr}
use mathlib.Core.Bool.{not}
use mathlib.Core.List.{List, [], ◌∷◌, ◌++◌}
use native.Mathlib.Omega.{arith}
use lib.Dec.{eqb}
use lib.ListN.{length, get_or, set, take, replicate, length-set, length-replicate}
use lib.Seq.{get_or-set_same, get_or-set_other, get_or-take, ext_get_or, length-take-le}
use borrow.Author.Tests.{not-true, eqb-true, eqb-false}
use Rattle.rules.specs.Lists.{nothing, mem, gather, up_to, In, Out}
use Rattle.rules.specs.Cells.{empty}
use Rattle.rules.specs.Graph.{Node, leaf, gate, pin_of}
use Rattle.rules.proofs.Lists.Members.{split, true_false, every_in, in_here, in_cons, in_nil, in_append}
use Rattle.aiger_form.specs.Aag.{Item, bad_text, skipped, input_line, latch_line, output_line, gate_line, Spot, items, gather_items, defines, defined, first_bad, driver, driven, node_numbers, gates_of}
use Rattle.aiger_form.proofs.Accepted.{bad_cons, out_of, gather_two}
use Rattle.aiger_text.specs.Passes.{area, store_item, store_all}
use Rattle.aiger_text.proofs.Laws.Passes.{store_length}
use Rattle.aiger_text.proofs.Laws.Whole.{all_length}

-- the two numbers of a node; those that stood there of a leaf
one : Node → ℕ → ℕ
one leaf d = d
one (gate a b) d = a

two : Node → ℕ → ℕ
two leaf d = d
two (gate a b) d = b

-- what lines that stand define was not defined before
not_again : (all seen : List ℕ) (ss : List Spot) → first_bad all seen ss ≡ nothing → (p : ℕ) → In p (defined (items ss)) → Out p seen
unfolding items defined gather_items
not_again all seen [] e p i = in_nil p i
not_again all seen (s ∷ ss) e p i =
    let x = s.item in
    let w = bad_cons all seen s ss e in
    elim (in_append p (defines x) (defined (items ss)) i) [
      | inl j ↦ not-true (mem p seen) (every_in (λ v. not (mem v seen)) p (defines x) w.0.new j)
      | inr j ↦ (out_of p (defines x) seen (not_again all (defines x ++ seen) ss w.1 p j)).1
    ]

-- a pin that no line defines has no driver
driven_out : (xs : List Item) (p : ℕ) → Out p (defined xs) → driven xs p ≡ leaf
unfolding driven defined gather_items
driven_out [] p o = refl
driven_out (x ∷ xs) p o = let w = out_of p (defines x) (defined xs) o in rw (w.0, driven) (driven_out xs p w.1)

-- a line that does not define a pin leaves its numbers
store_other : (x : Item) (w : List ℕ) (p : ℕ) → Out p (defines x) → (get_or (store_item x w) (2 * p) 0 ≡ get_or w (2 * p) 0) × (get_or (store_item x w) (2 * p + 1) 0 ≡ get_or w (2 * p + 1) 0)
unfolding store_item defines
store_other bad_text w p o = (refl, refl)
store_other skipped w p o = (refl, refl)
store_other (input_line l) w p o = (refl, refl)
store_other (latch_line l n r) w p o = (refl, refl)
store_other (output_line l) w p o = (refl, refl)
store_other (gate_line l a b) w p o =
    let n : p ≡ pin_of l → ⊥ = λ e. true_false (rw e (in_here (pin_of l) [])) o in (
      get_or-set_other (set w (2 * pin_of l) a) (2 * pin_of l + 1) (2 * p) b 0 (λ e. omega arith) ∙ get_or-set_other w (2 * pin_of l) (2 * p) a 0 (λ e. n (omega arith)),
      get_or-set_other (set w (2 * pin_of l) a) (2 * pin_of l + 1) (2 * p + 1) b 0 (λ e. n (omega arith)) ∙ get_or-set_other w (2 * pin_of l) (2 * p + 1) a 0 (λ e. omega arith),
    )

-- a line that defines a pin leaves its driver's
store_own : (x : Item) (w : List ℕ) (p : ℕ) → In p (defines x) → 2 * p + 1 < length w → (get_or (store_item x w) (2 * p) 0 ≡ one (driver x) (get_or w (2 * p) 0)) × (get_or (store_item x w) (2 * p + 1) 0 ≡ two (driver x) (get_or w (2 * p + 1) 0))
unfolding store_item defines driver one two
store_own bad_text w p i h = in_nil p i
store_own skipped w p i h = in_nil p i
store_own (output_line l) w p i h = in_nil p i
store_own (input_line l) w p i h = (refl, refl)
store_own (latch_line l n r) w p i h = (refl, refl)
store_own (gate_line l a b) w p i h = elim (in_cons p (pin_of l) [] i) [
  | inl e ↦ rw (← e) (
    get_or-set_other (set w (2 * p) a) (2 * p + 1) (2 * p) b 0 (λ z. omega arith) ∙ get_or-set_same w (2 * p) a 0 (omega arith),
    get_or-set_same (set w (2 * p) a) (2 * p + 1) b 0 (rw (length-set w (2 * p) a) h),
  )
  | inr j ↦ in_nil p j
]

-- all lines
store_at : (all seen : List ℕ) (ss : List Spot) → first_bad all seen ss ≡ nothing → (w : List ℕ) (p : ℕ) → 2 * p + 1 < length w → (get_or (store_all ss w) (2 * p) 0 ≡ one (driven (items ss) p) (get_or w (2 * p) 0)) × (get_or (store_all ss w) (2 * p + 1) 0 ≡ two (driven (items ss) p) (get_or w (2 * p + 1) 0))
unfolding store_all items driven one two
store_at all seen [] e w p h = (refl, refl)
store_at all seen (s ∷ ss) e w p h =
    let x = s.item in
    let k = bad_cons all seen s ss e in
    let I = store_at all (defines x ++ seen) ss k.1 (store_item x w) p (rw (store_length x w) h) in
    split (mem p (defines x))
    (λ t.
    let o : Out p (defined (items ss)) = split (mem p (defined (items ss))) (λ u. true_false t (out_of p (defines x) seen (not_again all (defines x ++ seen) ss k.1 p u)).0) (λ u. u) in
    let z = driven_out (items ss) p o in
    let J : (get_or (store_all ss (store_item x w)) (2 * p) 0 ≡ get_or (store_item x w) (2 * p) 0) × (get_or (store_all ss (store_item x w)) (2 * p + 1) 0 ≡ get_or (store_item x w) (2 * p + 1) 0) = rw z at I in
    let O = store_own x w p t h in
    rw (t, driven) (J.0 ∙ O.0, J.1 ∙ O.1))
    (λ t. let O = store_other x w p t in rw (t, driven) (I.0 ∙ ap (one (driven (items ss) p)) O.0, I.1 ∙ ap (two (driven (items ss) p)) O.1))

-- ---- the graph's numbers

get_d_replicate : (n d i : ℕ) → i < n → get_or (replicate n d) i 0 ≡ d
get_d_replicate zero d i h = absurd (omega arith)
get_d_replicate (suc n) d zero h = refl
get_d_replicate (suc n) d (suc i) h = get_d_replicate n d i (omega arith)

node_at : (x : Node) (rest : List ℕ) → (get_or (node_numbers x ++ rest) 0 0 ≡ one x empty) × (get_or (node_numbers x ++ rest) 1 0 ≡ two x empty)
unfolding node_numbers one two
node_at leaf rest = (refl, refl)
node_at (gate a b) rest = (refl, refl)

node_past : (x : Node) (rest : List ℕ) (i : ℕ) → get_or (node_numbers x ++ rest) (suc (suc i)) 0 ≡ get_or rest i 0
unfolding node_numbers
node_past leaf rest i = refl
node_past (gate a b) rest i = refl

gather_at : (f : ℕ → Node) (n i k : ℕ) → k < n → (get_or (gather (λ p. node_numbers (f p)) (up_to n i)) (2 * k) 0 ≡ one (f (i + k)) empty) × (get_or (gather (λ p. node_numbers (f p)) (up_to n i)) (2 * k + 1) 0 ≡ two (f (i + k)) empty)
unfolding gather up_to
gather_at f zero i k h = absurd (omega arith)
gather_at f (suc n) i zero h = let z : i + 0 ≡ i = omega arith in rw z (node_at (f i) (gather (λ p. node_numbers (f p)) (up_to n (suc i))))
gather_at f (suc n) i (suc k) h =
    let I = gather_at f n (suc i) k (omega arith) in
    let rest = gather (λ p. node_numbers (f p)) (up_to n (suc i)) in
    let y : i + suc k ≡ suc i + k = omega arith in
    let u : 2 * suc k ≡ suc (suc (2 * k)) = omega arith in
    let v : 2 * suc k + 1 ≡ suc (suc (2 * k + 1)) = omega arith in (
      ap (λ (j : ℕ). get_or (node_numbers (f i) ++ rest) j 0) u ∙ node_past (f i) rest (2 * k) ∙ I.0 ∙ ap (λ (j : ℕ). one (f j) empty) (sym y),
      ap (λ (j : ℕ). get_or (node_numbers (f i) ++ rest) j 0) v ∙ node_past (f i) rest (2 * k + 1) ∙ I.1 ∙ ap (λ (j : ℕ). two (f j) empty) (sym y),
    )

-- the area behind the pass has the graph's numbers at its front
pub gates_stored : (m : ℕ) (all : List ℕ) (ss : List Spot) → first_bad all [] ss ≡ nothing → m ≤ 65535 → (own : List ℕ) → own ≡ store_all ss (replicate area 4294967295) → take (2 * (m + 1)) own ≡ gates_of m (items ss)
unfolding gates_of empty
gates_stored m all ss e h own q =
    let w : List ℕ = replicate area 4294967295 in
    let lw : length w ≡ area = length-replicate {A = ℕ} area 4294967295 in
    let lo : length own ≡ area = ap length q ∙ all_length ss w ∙ lw in
    let f = driven (items ss) in
    let g = gather (λ p. node_numbers (f p)) (up_to (suc m) 0) in
    let lg : length g ≡ 2 * suc m = gather_two f (suc m) 0 in
    let lt : length (take (2 * (m + 1)) own) ≡ 2 * (m + 1) = length-take-le (2 * (m + 1)) own (omega arith) in
    ext_get_or 0 (take (2 * (m + 1)) own) g (omega arith) (λ i b.
    let k = i / 2 in
    let S = store_at all [] ss e w k (omega arith) in
    let G = gather_at f (suc m) 0 k (omega arith) in
    let y : 0 + k ≡ k = omega arith in
    let t : get_or (take (2 * (m + 1)) own) i 0 ≡ get_or (store_all ss w) i 0 = get_or-take (2 * (m + 1)) own i 0 (omega arith) ∙ ap (λ (l : List ℕ). get_or l i 0) q in
    split (eqb (i % 2) 0)
    (λ z. let j : i ≡ 2 * k = omega (arith, eqb-true (i % 2) 0 z) in
    t ∙ ap (λ (n : ℕ). get_or (store_all ss w) n 0) j ∙ S.0 ∙ ap (one (f k)) (get_d_replicate area 4294967295 (2 * k) (omega arith)) ∙ ap (λ (n : ℕ). one (f n) empty) (sym y) ∙ sym G.0 ∙ ap (λ (n : ℕ). get_or g n 0) (sym j))
    (λ z. let j : i ≡ 2 * k + 1 = omega (arith, eqb-false (i % 2) 0 z) in
    t ∙ ap (λ (n : ℕ). get_or (store_all ss w) n 0) j ∙ S.1 ∙ ap (two (f k)) (get_d_replicate area 4294967295 (2 * k + 1) (omega arith)) ∙ ap (λ (n : ℕ). two (f n) empty) (sym y) ∙ sym G.1 ∙ ap (λ (n : ℕ). get_or g n 0) (sym j)))
