-- The bit that is read from a written word of an accepted plan, folded, is the graph's. Assumes nothing.
use Prim.Native.Nat.{ℕ, zero, suc, ◌+◌, ◌-◌, ◌*◌, ◌/◌, ◌%◌, ◌^◌, ◌≤◌, ◌<◌}
use mathlib.Core.Path.{◌≡◌, refl, sym, ◌∙◌, ap}
use mathlib.Core.Bool.{Bool, true, false, ◌&&◌}
use mathlib.Core.List.{List, [], ◌∷◌, ◌++◌, append_assoc}
use native.Mathlib.Omega.{arith}
use native.Mathlib.Nat.{le-div_iff_mul-le}
use lib.Dec.{leb, eqb}
use lib.Pow.{pow_pos}
use lib.ListN.{length, get_or, take, drop, replicate, length-take, length-drop, length-map, get_or-append}
use lib.Seq.{get_or-take, get_or-drop, get_or-append-add, take-append_seam, drop-append_seam}
use Rattle.rules.specs.Lists.{nothing, found, mem, every, padded}
use Rattle.rules.specs.Cells.{filled, empty, stage_size, word_limit, rooms}
use Rattle.rules.specs.Graph.{Node, leaf, gate, pin_count, own_bit, value}
use Rattle.rules.specs.Checks.{nodes_right, graph_right}
use Rattle.rules.specs.Records.{Ends, waiting_of}
use Rattle.rules.specs.Reservation.{reserved, reservable}
use Rattle.rules.specs.Build.{Stage, cells_of}
use Rattle.rules.specs.Fold.{first_at, as_number}
use Rattle.rules.specs.Loops.{Valid}
use Rattle.rules.specs.Coded.{cell_pin, pins, load_of, cell_bits, fold_stages, fold_cells}
use Rattle.rules.specs.Faults.{first_may, holds_in, written_in, last_right}
use Rattle.rules.proofs.Lists.Members.{split, eqb_false, mem_other, and_true, true_false, every_in}
use Rattle.rules.proofs.Stage.Puts.{cell}
use Rattle.rules.proofs.Tree.Held.{node}
use Rattle.rules.proofs.Build.Lengths.{length_padded}
use Rattle.rules.proofs.Fold.Folds.{first_at_found}
use Rattle.rules.proofs.Fold.Whole.{above_zero}
use Rattle.rules.proofs.Demand.{ends_wait}
use Rattle.checks.proofs.Laws.Passed.{passed}
use Rattle.checks.proofs.Laws.Refusing.{refusal_3}
use Rattle.coded.specs.Inputs.{Input, graph, groups, graph_value}
use Rattle.coded.proofs.Passing.{valid, few, named}
use Rattle.coded.proofs.Cells.{small_filled, filled_pin}
use Rattle.coded.proofs.Bits.{length-cell_bits, get_or-cell_bits, pin_at}
use Rattle.coded.proofs.Sound.{val, first_right}
use Rattle.coded.proofs.Stages.{Folded, all_folded}
use Rattle.coded.proofs.Reading.{accepted_parts}
use Rattle.replay_form.specs.Clocks.{is_one}
use Rattle.replay_form.specs.Plans.{in_words, written_at, bit_in, plan_bits}
use Rattle.replay_form.specs.Accepted.{Sized, Accepted}
use Rattle.replay_form.proofs.Cutting.{is_one_number}
use Rattle.replay_form.proofs.Accepted.{cells_sized}

-- ---- where a pin is read

first_at_nothing : (n i : ℕ) (cs : List ℕ) → first_at n i cs ≡ nothing → mem n cs ≡ false
unfolding first_at mem
first_at_nothing n i [] e = refl
first_at_nothing n i (x ∷ cs) e = split (eqb x n) (λ a. absurd (let z : found i ≡ nothing = rw (a, first_at) at e in let y : ◌≡◌ {A = ℕ} 0 1 = cc in omega arith))
    (λ a. mem_other n x cs (λ d. eqb_false x n a (sym d)) ∙ first_at_nothing n (suc i) cs (rw (a, first_at) at e))

module _ (q : ℕ) where
  in_found : (held ws : List ℕ) (c : ℕ) → in_words held q ws ≡ found c → (c < length held) × (get_or held c empty ≡ q)
  unfolding in_words
  in_found held [] c e = absurd (let z : ◌≡◌ {A = ℕ} 0 1 = cc in omega arith)
  in_found held (w ∷ ws) c e = cell (first_at q (32 * w) (take 32 (drop (32 * w) held)))
      (λ d. in_found held ws c (rw (d, in_words) at e))
      (λ p d.
      let z : found p ≡ found c = rw (d, in_words) at e in
      let s : p ≡ c = cc in
      let t = first_at_found q (32 * w) (take 32 (drop (32 * w) held)) p d in
      let h : t.0 < 32 = omega (arith, t.2, length-take 32 (drop (32 * w) held)) in (
        omega (arith, t.1, t.2, length-take 32 (drop (32 * w) held), length-drop (32 * w) held),
        ap (λ (u : ℕ). get_or held u empty) (sym s ∙ t.1) ∙ sym (get_or-take 32 (drop (32 * w) held) t.0 empty h ∙ get_or-drop (32 * w) held t.0 empty) ∙ t.3,
      ))

  in_nothing : (cl ws : List ℕ) → in_words (pins cl) q ws ≡ nothing → holds_in q cl ws ≡ false
  unfolding in_words holds_in
  in_nothing cl [] e = refl
  in_nothing cl (w ∷ ws) e = cell (first_at q (32 * w) (take 32 (drop (32 * w) (pins cl))))
      (λ d. rw (first_at_nothing q (32 * w) (take 32 (drop (32 * w) (pins cl))) d) (in_nothing cl ws (rw (d, in_words) at e)))
      (λ c d. absurd (let z : found c ≡ nothing = rw (d, in_words) at e in let y : ◌≡◌ {A = ℕ} 0 1 = cc in omega arith))

  written_nothing : (size from : ℕ) (ss : List Stage) → written_at size from q ss ≡ nothing → written_in q ss ≡ false
  unfolding written_at written_in
  written_nothing size from [] e = refl
  written_nothing size from (s ∷ ss) e = cell (in_words (pins s.plan) q s.words)
      (λ d. rw (in_nothing s.plan s.words d) (written_nothing size (from + size) ss (rw (d, written_at) at e)))
      (λ c d. absurd (let z : found (from + c) ≡ nothing = rw (d, written_at) at e in let y : ◌≡◌ {A = ℕ} 0 1 = cc in omega arith))

-- ---- and what stands there

pins_many : (cl : List ℕ) → length (pins cl) ≡ length cl
unfolding pins
pins_many cl = length-map cl cell_pin

fold_step : (K : ℕ) (load : ℕ → Bool) (m : ℕ) (cl rest more : List ℕ) → length cl ≡ 2 ^ (K + 1) →
    fold_stages (suc m) K load ((cl ++ rest) ++ more) ≡ cell_bits K cl load ++ fold_stages m K (load_of K cl load) (rest ++ more)
unfolding fold_stages
fold_step K load m cl rest more l =
    let t : take (2 ^ (K + 1)) (cl ++ (rest ++ more)) ≡ cl = ap (λ (k : ℕ). take k (cl ++ (rest ++ more))) (sym l) ∙ take-append_seam cl (rest ++ more) in
    let d : drop (2 ^ (K + 1)) (cl ++ (rest ++ more)) ≡ rest ++ more = ap (λ (k : ℕ). drop k (cl ++ (rest ++ more))) (sym l) ∙ drop-append_seam cl (rest ++ more) in
    rw (append_assoc cl rest more, t, d)

module _ (K : ℕ) (g : List Node) (ok : Valid g) (count : length g ≤ 65536) (given bits : List ℕ) (q : ℕ) (named : q < length g) where
  abbrev Right : ℕ → List ℕ → Type 0
  Right p result = get_or result p 0 ≡ as_number (val K g ok count given bits q)

  -- the place in the plan that is found folds to the pin's graph value
  found_right : (ss : List Stage) (load : ℕ → Bool) → Folded K g ok count given bits load ss → Sized (2 ^ (K + 1)) ss → (from c : ℕ) → written_at (2 ^ (K + 1)) from q ss ≡ found c →
      (m : ℕ) → length ss ≤ m → (more : List ℕ) → (p : ℕ) × (c ≡ from + p) × Right p (fold_stages m K load (cells_of ss ++ more))
  unfolding written_at cells_of
  found_right [] load F z from c e m h more = absurd (let y : ◌≡◌ {A = ℕ} 0 1 = cc in omega arith)
  found_right (s ∷ ss) load F z from c e zero h more = absurd (omega arith)
  found_right (s ∷ ss) load F z from c e (suc m) h more =
      let cl : List ℕ = s.plan in
      let rest : List ℕ = fold_stages m K (load_of K cl load) (cells_of ss ++ more) in
      let step = fold_step K load m cl (cells_of ss) more z.0 in
      cell (in_words (pins cl) q s.words)
      (λ d.
      let t = found_right ss (load_of K cl load) F.2 z.1 (from + 2 ^ (K + 1)) c (rw (d, written_at) at e) m (omega arith) more in
      let w : 2 ^ (K + 1) + t.0 ≡ length (cell_bits K cl load) + t.0 = omega (arith, length-cell_bits K cl load) in (
        2 ^ (K + 1) + t.0,
        omega (arith, t.1),
        rw step (ap (λ (i : ℕ). get_or (cell_bits K cl load ++ rest) i 0) w ∙ get_or-append-add (cell_bits K cl load) rest t.0 0 ∙ t.2),
      ))
      (λ p d.
      let y : found (from + p) ≡ found c = rw (d, written_at) at e in
      let x : from + p ≡ c = cc in
      let t = in_found q (pins cl) s.words p d in
      let high : p < 2 ^ (K + 1) = omega (arith, t.0, pins_many cl, z.0) in
      let pin : cell_pin (get_or cl p empty) ≡ q = sym (pin_at cl p) ∙ t.1 in
      let f : filled (get_or cl p empty) ≡ true = sym (filled_pin (get_or cl p empty)) ∙ rw pin (small_filled q (omega arith)) in
      let low : 1 ≤ p = above_zero cl p (get_or cl p empty) F.1.zeroth refl f in (
        p,
        sym x,
        rw step (get_or-append (cell_bits K cl load) rest 0 p (omega (arith, length-cell_bits K cl load)) ∙ get_or-cell_bits K cl load p high
            ∙ ap as_number (F.0 p low high f ∙ ap (val K g ok count given bits) pin)),
      ))

-- ---- the constant

-- pin 0 is no gate
zero_right : (n : ℕ) (g : List Node) (a b : ℕ) → nodes_right n 0 g ≡ true → get_or g 0 leaf ≡ gate a b → ⊥
unfolding nodes_right
zero_right n [] a b r e = absurd (let z : ◌≡◌ {A = ℕ} 0 1 = cc in omega arith)
zero_right n (leaf ∷ g) a b r e = absurd (let z : ◌≡◌ {A = ℕ} 0 1 = cc in omega arith)
zero_right n (gate c d ∷ g) a b r e = true_false r refl

module _ (I : Input) where
  graph_right_lem : graph_right I.gates ≡ true
  graph_right_lem =
      let P = passed I.K I.sized I.gates I.given I.records I.passes in
      split (graph_right I.gates) (λ t. t) (λ t. absurd (omega (arith, I.passes, refusal_3 I.K I.sized I.gates I.given I.records P.height P.areas t)))

  zero_leaf : (a b : ℕ) → get_or (graph I) 0 leaf ≡ gate a b → ⊥
  unfolding graph_right
  zero_leaf a b e = zero_right (pin_count I.gates) (graph I) a b (and_true (eqb (length I.gates % 2) 0 && leb 1 (pin_count I.gates) && leb (pin_count I.gates) 65536) (nodes_right (pin_count I.gates) 0 (graph I)) graph_right_lem).1 e

  -- the constant's bit is 0
  constant : (f : ℕ) (bits : List ℕ) → value f (graph I) I.given bits 0 ≡ false
  unfolding value own_bit
  constant zero bits = refl
  constant (suc f) bits = split (mem 0 I.given) (λ a. rw (a, value))
      (λ a. node (get_or (graph I) 0 leaf) (λ c. rw (a, c, value)) (λ x y c. absurd (zero_leaf x y c)))

  module _ (ss : List Stage) (A : Accepted I.K I.gates I.given I.records ss) where
    -- what no word shows is the constant
    unread : (q : ℕ) → Ends q (groups I) → written_at (stage_size I.K) 0 q ss ≡ nothing → q ≡ 0
    unfolding last_right
    unread zero i d = refl
    unread (suc q) i d =
        let r = (accepted_parts I.K (graph I) I.given (groups I) ss A.right).1 in
        let l = and_true (reservable I.K (groups I)) (every (λ q. written_in q ss) (waiting_of (groups I) [])) r in
        true_false (every_in (λ q. written_in q ss) (suc q) (waiting_of (groups I) []) l.1 (ends_wait (suc q) (omega arith) i [])) (written_nothing (suc q) (stage_size I.K) 0 ss d)

    -- The bit read of an endpoint's pin from the written words of a folded plan that the check accepts is its graph value, in any plan area with room.
    pub read_bit : (L : ℕ) → length (cells_of ss) ≤ L → (bits : List ℕ) (q : ℕ) → Ends q (groups I) → plan_bits I.K L ss bits q ≡ graph_value I bits q
    unfolding plan_bits fold_cells padded bit_in rooms
    read_bit L fits bits q i =
        let g = graph I in
        let K = I.K in
        let n : length ss ≤ L / 2 ^ (K + 1) = (le-div_iff_mul-le (pow_pos (K + 1))).1 (omega (arith, cells_sized (2 ^ (K + 1)) ss A.sized)) in
        let F : Folded K g (valid I) (few I) I.given bits (own_bit bits) ss =
        all_folded K g (valid I) (few I) I.given bits (first_may g I.given) (own_bit bits) (first_right K g (valid I) (few I) I.given bits) (word_limit K - reserved (groups I)) 1 ss
        (accepted_parts K g I.given (groups I) ss A.right).0 in
        rw (length_padded L empty (cells_of ss) fits)
        (cell (written_at (stage_size K) 0 q ss)
        (λ d. rw (d, unread q i d) (sym (constant (length g) bits)))
        (λ c d.
        let t = found_right K g (valid I) (few I) I.given bits q (named I q i) ss (own_bit bits) F A.sized 0 c d (L / 2 ^ (K + 1)) n (replicate (L - length (cells_of ss)) empty) in
        let x : c ≡ t.0 = omega (arith, t.1) in
        rw (d, x) (ap is_one t.2 ∙ is_one_number (graph_value I bits q))))
