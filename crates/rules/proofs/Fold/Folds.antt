-- Demand 3, the fold: every filled cell folds to its pin's graph value. Assumes nothing.
use Prim.Native.Nat.{ℕ, zero, suc, ◌+◌, ◌-◌, ◌*◌, ◌^◌, ◌≤◌, ◌<◌}
use mathlib.Core.Path.{◌≡◌, refl, sym, ◌∙◌, ap}
use mathlib.Core.Logic.{◌⊎◌, inl, inr, ◌≢◌}
use mathlib.Core.Bool.{Bool, true, false, ◌&&◌}
use mathlib.Core.List.{List, [], ◌∷◌}
use native.Mathlib.Omega.{arith}
use native.Mathlib.Nat.{pow-succ'}
use lib.Dec.{eqb}
use lib.ListN.{length, get_or, take, drop, length-take, length-drop}
use lib.Seq.{get_or-take, get_or-drop}
use Rattle.rules.specs.Lists.{mem, nothing, found, In, Out, Sub}
use Rattle.rules.specs.Cells.{filled, empty, level_of, row_start}
use Rattle.rules.specs.Graph.{Node, leaf, gate, pin_of, operands, own_bit, literal_bit, gate_bit, value}
use Rattle.rules.specs.Traversal.{Setting, level_at}
use Rattle.rules.specs.Fold.{cell_bit, bit_at, first_at, lowest, load_from}
use Rattle.rules.proofs.Cells.Positions.{position_placed}
use Rattle.rules.proofs.Lists.Members.{split, eqb_true, eqb_false, eqb_same, in_here, in_there}
use Rattle.rules.proofs.Walk.Reverse.{out_sub, in_below}
use Rattle.rules.specs.Inside.Walks.{Sound, Graph, Marked}
use Rattle.rules.proofs.Tree.Loads.{Fine}
use Rattle.rules.proofs.Stage.Puts.{cell}
use Rattle.rules.proofs.Stage.Staged.{two_step}
use Rattle.rules.specs.Inside.Plans.{Step, copies, splits, Sane}
use Rattle.rules.proofs.Tree.Held.{node}

-- ---- where a pin stands first

-- the place that is found for a pin is in the list and holds it
pub first_at_found : (n i : ℕ) (cs : List ℕ) (c : ℕ) → first_at n i cs ≡ found c → (k : ℕ) × (c ≡ i + k) × (k < length cs) × (get_or cs k empty ≡ n)
unfolding first_at
first_at_found n i [] c e = absurd (let z : ◌≡◌ {A = ℕ} 0 1 = cc in omega arith)
first_at_found n i (x ∷ cs) c e = split (eqb x n)
    (λ b. let d : found i ≡ found c = rw (b, first_at) at e in let z : i ≡ c = cc in (0, omega arith, omega arith, eqb_true x n b))
    (λ b. let t = first_at_found n (suc i) cs c (rw (b, first_at) at e) in (suc t.0, omega (arith, t.1), omega (arith, t.2), t.3))

first_at_nothing : (n i : ℕ) (cs : List ℕ) → first_at n i cs ≡ nothing → (k : ℕ) → k < length cs → get_or cs k empty ≢ n
unfolding first_at
first_at_nothing n i [] e k b d = absurd (omega arith)
first_at_nothing n i (x ∷ cs) e zero b d = split (eqb x n) (λ a. let z : found i ≡ nothing = rw (a, first_at) at e in let y : ◌≡◌ {A = ℕ} 0 1 = cc in omega arith) (λ a. eqb_false x n a d)
first_at_nothing n i (x ∷ cs) e (suc k) b d = split (eqb x n) (λ a. let z : found i ≡ nothing = rw (a, first_at) at e in let y : ◌≡◌ {A = ℕ} 0 1 = cc in omega arith)
    (λ a. first_at_nothing n (suc i) cs (rw (a, first_at) at e) k (omega arith) d)

-- ---- a gate's value

module _ (g : List Node) (r : ℕ → ℕ) (G : Graph g r) (given bits : List ℕ) where
  -- a gate's operands have lower ranks than it
  pub falls_first : (n a b : ℕ) → get_or g n leaf ≡ gate a b → (r (pin_of a) < r n) × (r (pin_of b) < r n)
  unfolding operands mem
  falls_first n a b e = (
    G.falls n (pin_of a) (in_below g [] n (pin_of a) refl (rw e (in_here (pin_of a) (pin_of b ∷ [])))),
    G.falls n (pin_of b) (in_below g [] n (pin_of b) refl (rw e (in_there (pin_of b) (pin_of a) (pin_of b ∷ []) (in_here (pin_of b) [])))),
  )

  value_fuel : (e f p : ℕ) → r p < e → r p < f → value e g given bits p ≡ value f g given bits p
  unfolding value
  value_fuel zero f p a b = absurd (omega arith)
  value_fuel (suc e) zero p a b = absurd (omega arith)
  value_fuel (suc e) (suc f) p a b = split (mem p given) (λ d. rw (d, value))
      (λ d. node (get_or g p leaf) (λ c. rw (d, c, value))
      (λ x y c. let h = falls_first p x y c in
      rw (d, c, value, value_fuel e f (pin_of x) (omega (arith, h.0)) (omega (arith, h.0)), value_fuel e f (pin_of y) (omega (arith, h.1)) (omega (arith, h.1)))))

  -- with fuel enough the value of a gate that is not given is the AND of its two literals'
  pub value_gate : (f p x y : ℕ) → r p < f → Out p given → get_or g p leaf ≡ gate x y → value f g given bits p ≡ (literal_bit x (value f g given bits (pin_of x)) && literal_bit y (value f g given bits (pin_of y)))
  unfolding value
  value_gate zero p x y a o e = absurd (omega arith)
  value_gate (suc f) p x y a o e = let h = falls_first p x y e in
      rw (o, e, value_fuel (suc f) f (pin_of x) (omega (arith, h.0)) (omega (arith, h.0)), value_fuel (suc f) f (pin_of y) (omega (arith, h.1)) (omega (arith, h.1)), value)

  -- the graph value of a given pin or a leaf is its own bit
  pub value_own : (f p : ℕ) → 0 < f → In p given ⊎ (get_or g p leaf ≡ leaf) → value f g given bits p ≡ own_bit bits p
  unfolding value
  value_own zero p a e = absurd (omega arith)
  value_own (suc f) p a (inl e) = rw (e, value)
  value_own (suc f) p a (inr e) = split (mem p given) (λ d. rw (d, value)) (λ d. rw (d, e, value))

module _ (X : Setting) (r : ℕ → ℕ) (f : ℕ) (S : Sound X r f) (G : Graph X.g r) (M : Marked X) (given bits : List ℕ) (some : Sub given X.done)
    (pl : List ℕ) (sane : Sane X (λ q. ⊥) pl) (fine : Fine X r f S pl) (load : ℕ → Bool) (right : (n : ℕ) → In n X.seen → level_at X n ≡ 0 → load n ≡ value f X.g given bits n) where
  abbrev Good : ℕ → Type 0
  Good h = (w p : ℕ) → w * 2 ^ h ≡ 2 ^ X.K → w ≤ p → p < w + w → filled (get_or pl p empty) ≡ true → cell_bit X.g pl load h w p ≡ value f X.g given bits (get_or pl p empty)

  cell_split : (h w p : ℕ) → filled (get_or pl p empty) ≡ true → eqb (get_or pl (p + w) empty) (get_or pl p empty) ≡ false → filled (get_or pl (p + w) empty) ≡ true → filled (get_or pl (p + 2 * w) empty) ≡ true →
      cell_bit X.g pl load (suc h) w p ≡ gate_bit (cell_bit X.g pl load h (2 * w) (p + w)) (cell_bit X.g pl load h (2 * w) (p + 2 * w)) (get_or X.g (get_or pl p empty) leaf)
  unfolding cell_bit
  cell_split h w p k a k1 k2 = rw (k, a, k1, k2, cell_bit)

  fold_step : (h w p : ℕ) → Good h → w * 2 ^ suc h ≡ 2 ^ X.K → w ≤ p → p < w + w → filled (get_or pl p empty) ≡ true → Step X pl w p → cell_bit X.g pl load (suc h) w p ≡ value f X.g given bits (get_or pl p empty)
  unfolding cell_bit gate_bit
  fold_step h w p ih e a b k (copies c) =
      let e1 : w * (2 * 2 ^ h) ≡ 2 ^ X.K = rw (pow-succ' 2 h) at e in
      let same : eqb (get_or pl (p + w) empty) (get_or pl p empty) ≡ true = rw c (eqb_same (get_or pl p empty)) in
      rw (k, same, cell_bit) (ih (2 * w) (p + w) (omega arith) (omega arith) (omega arith) (rw c k) ∙ ap (value f X.g given bits) c)
  fold_step h w p ih e a b k (splits {a = x} {b = y} o c u v) =
      let e1 : w * (2 * 2 ^ h) ≡ 2 ^ X.K = rw (pow-succ' 2 h) at e in
      let n : ℕ = get_or pl p empty in
      let apart : eqb (get_or pl (p + w) empty) n ≡ false = split (eqb (get_or pl (p + w) empty) n)
      (λ d. absurd (let z : pin_of x ≡ n = sym u ∙ eqb_true (get_or pl (p + w) empty) n d in let t : r (pin_of x) ≡ r n = ap r z in omega (arith, (falls_first X.g r G given bits n x y c).0))) (λ d. d) in
      let k1 : filled (get_or pl (p + w) empty) ≡ true = rw u (M n x y c).0 in
      let k2 : filled (get_or pl (p + 2 * w) empty) ≡ true = rw v (M n x y c).1 in
      let b1 : cell_bit X.g pl load h (2 * w) (p + w) ≡ value f X.g given bits (pin_of x) = ih (2 * w) (p + w) (omega arith) (omega arith) (omega arith) k1 ∙ ap (value f X.g given bits) u in
      let b2 : cell_bit X.g pl load h (2 * w) (p + 2 * w) ≡ value f X.g given bits (pin_of y) = ih (2 * w) (p + 2 * w) (omega arith) (omega arith) (omega arith) k2 ∙ ap (value f X.g given bits) v in
      cell_split h w p k apart k1 k2 ∙ (λ i. gate_bit (b1 i) (b2 i) (c i)) ∙ sym (value_gate X.g r G given bits f n x y (S.fuel n (fine p k).0) (out_sub given X.done some n o) c)

  -- every filled cell of level h folds to its pin's graph value
  pub fold_good : (h : ℕ) → Good h
  unfolding cell_bit
  fold_good zero w p e a b k = let i = fine p k in rw (k, cell_bit) (right (get_or pl p empty) i.0 (i.1 (omega arith)))
  fold_good (suc h) w p e a b k = fold_step h w p (fold_good h) e a b k (sane h w p e a b (λ z. z) k)

  -- what the next stage loads
  -- every filled position
  pub position_good : (p : ℕ) → 1 ≤ p → p < 2 ^ (X.K + 1) → filled (get_or pl p empty) ≡ true → bit_at X.K X.g pl load p ≡ value f X.g given bits (get_or pl p empty)
  unfolding bit_at
  position_good zero a b k = absurd (omega arith)
  position_good (suc p) a b k =
      let t = position_placed X.K (suc p) a b in
      fold_good (level_of X.K (suc p)) (row_start (suc p)) (suc p) t.rows t.row t.end k

  -- the cells above level 0, position 0 left out
  above : ℕ → (d : ℕ) → ℕ
  above k d = get_or (take (2 ^ X.K - 1) (drop 1 pl)) k d

  above_at : (k d : ℕ) → k < 2 ^ X.K - 1 → above k d ≡ get_or pl (1 + k) d
  unfolding above
  above_at k d b = get_or-take (2 ^ X.K - 1) (drop 1 pl) k d b ∙ get_or-drop 1 pl k d

  -- a pin that stands above level 0 is loaded from its lowest position
  pub load_good : length pl ≡ 2 ^ (X.K + 1) → (n i : ℕ) → 1 ≤ i → i < 2 ^ X.K → get_or pl i empty ≡ n → filled n ≡ true → load_from X.K X.g pl load n ≡ value f X.g given bits n
  unfolding load_from lowest above
  load_good l n i a b e k =
      let cs : List ℕ = take (2 ^ X.K - 1) (drop 1 pl) in
      let len : length cs ≡ 2 ^ X.K - 1 = simp (length-take, length-drop) (omega (arith, two_step X.K)) in
      cell (first_at n 1 cs)
      (λ d. absurd (first_at_nothing n 1 cs d (i - 1) (omega arith) (above_at (i - 1) empty (omega arith) ∙ ap (λ (u : ℕ). get_or pl u empty) (omega arith) ∙ e)))
      (λ p d.
      let t = first_at_found n 1 cs p d in
      let z : get_or pl p empty ≡ n = ap (λ (u : ℕ). get_or pl u empty) t.1 ∙ sym (above_at t.0 empty (omega (arith, t.2))) ∙ t.3 in
      rw (d, load_from) (position_good p (omega (arith, t.1)) (omega (arith, t.1, t.2, two_step X.K)) (rw z k) ∙ ap (value f X.g given bits) z))
