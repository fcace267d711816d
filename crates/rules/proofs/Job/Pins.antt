-- The pins of a job file: a reader takes exactly the bits that the writer makes. Assumes nothing.
use Prim.Native.Nat.{ℕ, zero, suc, ◌*◌, ◌/◌, ◌%◌, ◌^◌}
use mathlib.Core.Path.{◌≡◌, refl, ap, ◌∙◌}
use mathlib.Core.Bool.{true, false, ◌&&◌}
use mathlib.Core.List.{List, [], ◌∷◌, ◌++◌, append_assoc}
use native.Mathlib.Omega.{arith}
use lib.Dec.{ltb, eqb}
use lib.ListN.{length}
use borrow.Author.Tests.{ltb-true, ne_eqb}
use Rattle.rules.specs.Lists.{every, gather}
use Rattle.rules.specs.Cells.{empty}
use Rattle.rules.specs.Graph.{leaf, gate, node_of, graph_of}
use Rattle.rules.specs.Job.{bits_of, got, next, field, fields, read_pin, read_pins, pin_bits, pins_bits, literal_fits, node_fits, nodes_fit}
use Rattle.rules.proofs.Lists.Members.{split, and_true, eqb_true, eqb_false}
use Rattle.rules.proofs.Job.Bits.{Bits}
use Rattle.rules.proofs.Job.Fields.{every_cons, every_parts, through, same_got, joined, field_got, field_only, fits_in, AllTaken, fields_got, fields_only}

-- ---- one pin

leaf_got : (rest : List ℕ) → read_pin (pin_bits leaf ++ rest) ≡ got (empty ∷ empty ∷ []) rest
unfolding read_pin pin_bits next bits_of
leaf_got rest = rw (field_got 1 0 rest (omega arith), next)

gate_got : (a b : ℕ) (rest : List ℕ) → node_fits (gate a b) ≡ true → read_pin (pin_bits (gate a b) ++ rest) ≡ got (a ∷ b ∷ []) rest
unfolding read_pin pin_bits node_fits literal_fits next bits_of gather every
gate_got a b rest e =
    let h = and_true (ltb a (2 ^ 17)) (ltb b (2 ^ 17)) e in
    let f : fields 2 17 (gather (bits_of 17) (a ∷ b ∷ []) ++ rest) ≡ got (a ∷ b ∷ []) rest =
    fields_got 17 (a ∷ b ∷ []) rest (every_cons (fits_in 17) a (b ∷ []) h.0 (every_cons (fits_in 17) b [] h.1 refl)) in
    rw (field_got 1 1 (bits_of 17 a ++ bits_of 17 b ++ rest) (omega arith), next) f

pin_got : (a b : ℕ) (rest : List ℕ) → node_fits (node_of a b) ≡ true → read_pin (pin_bits (node_of a b) ++ rest) ≡ got (a ∷ b ∷ []) rest
unfolding node_of
pin_got a b rest e = split (eqb a empty && eqb b empty)
    (λ t.
    let h = and_true (eqb a empty) (eqb b empty) t in
    let ea = eqb_true a empty h.0 in
    let eb = eqb_true b empty h.1 in
    rw (t, node_of) (leaf_got rest ∙ cc))
    (λ t. rw (t, node_of) (gate_got a b rest (rw (t, node_of) at e)))

-- a pin took exactly the bits of a leaf or of a gate whose literals fit, and bits are left
pub record PinTaken (bs xs rest : List ℕ) : Type 0 where
  pub a : ℕ
  pub b : ℕ
  pub two : xs ≡ a ∷ b ∷ []
  pub is : bs ≡ pin_bits (node_of a b) ++ rest
  pub below : node_fits (node_of a b) ≡ true
  pub bits : Bits rest

gate_taken : (cs xs rest : List ℕ) → AllTaken 2 17 cs xs rest → PinTaken (1 ∷ cs) xs rest
unfolding pin_bits node_of node_fits literal_fits gather bits_of empty
gate_taken cs [] rest T = let h = T.count in absurd (omega arith)
gate_taken cs (a ∷ []) rest T = let h = T.count in absurd (omega arith)
gate_taken cs (a ∷ b ∷ x ∷ xs) rest T = let h = T.count in absurd (omega arith)
gate_taken cs (a ∷ b ∷ []) rest T =
    let h = every_parts (fits_in 17) a (b ∷ []) T.below in
    let k = every_parts (fits_in 17) b [] h.1 in
    let n : eqb a empty ≡ false = ne_eqb a empty (λ e. omega (arith, ltb-true a (2 ^ 17) h.0)) in
    record {
      a = a;
      b = b;
      two = refl;
      is = rw (n, node_of, pin_bits) (ap (λ (r : List ℕ). 1 ∷ r) T.is);
      below = rw (n, node_of, node_fits, h.0, k.0);
      bits = T.bits;
    }

pin_only : (bs : List ℕ) {xs rest : List ℕ} → Bits bs → read_pin bs ≡ got xs rest → PinTaken bs xs rest
unfolding read_pin pin_bits node_of node_fits bits_of empty
pin_only bs {xs} {rest} B e =
    let t = through (field 1 bs) (λ b cs. elim (eqb b 1) [ true ↦ fields 2 17 cs | false ↦ got (empty ∷ empty ∷ []) cs ]) e in
    let f = field_only 1 bs B t.first in
    let h = f.below in
    split (eqb t.a 1)
    (λ u.
    let n : t.a ≡ 1 = eqb_true t.a 1 u in
    let g = fields_only 2 17 t.b f.bits (rw u at t.second) in
    let i : bs ≡ 1 ∷ t.b = f.is ∙ ap (λ (x : ℕ). bits_of 1 x ++ t.b) n in
    rw i (gate_taken t.b xs rest g))
    (λ u.
    let n : t.a ≡ 0 = let v = eqb_false t.a 1 u in omega arith in
    let i : bs ≡ 0 ∷ t.b = f.is ∙ ap (λ (x : ℕ). bits_of 1 x ++ t.b) n in
    same_got (PinTaken bs) (rw u at t.second) (record { a = empty; b = empty; two = refl; is = i; below = refl; bits = f.bits }))

-- ---- pins in a row

-- pins whose literals fit are read back from their bits
pub pins_got : (xs rest : List ℕ) → length xs % 2 ≡ 0 → nodes_fit (graph_of xs) ≡ true → read_pins (length xs / 2) (pins_bits (graph_of xs) ++ rest) ≡ got xs rest
unfolding read_pins pins_bits graph_of nodes_fit next
pins_got [] rest p e = refl
pins_got (a ∷ []) rest p e = absurd (omega arith)
pins_got (a ∷ b ∷ xs) rest p e =
    let h = and_true (node_fits (node_of a b)) (nodes_fit (graph_of xs)) e in
    let n : suc (suc (length xs)) / 2 ≡ suc (length xs / 2) = omega arith in
    rw (n, read_pins, append_assoc (pin_bits (node_of a b)) (pins_bits (graph_of xs)) rest, pin_got a b (pins_bits (graph_of xs) ++ rest) h.0, next, pins_got xs rest (omega arith) h.1)

-- n pins took exactly their bits, all literals fit, and bits are left
pub record PinsTaken (n : ℕ) (bs xs rest : List ℕ) : Type 0 where
  pub is : bs ≡ pins_bits (graph_of xs) ++ rest
  pub count : length xs ≡ 2 * n
  pub below : nodes_fit (graph_of xs) ≡ true
  pub bits : Bits rest

more_pins : {bs cs xs : List ℕ} (P : PinTaken bs xs cs) {n : ℕ} {ys rest : List ℕ} → PinsTaken n cs ys rest → PinsTaken (suc n) bs (xs ++ ys) rest
unfolding pins_bits graph_of nodes_fit
more_pins P {n} {ys} {rest} Q =
    rw P.two (record {
      is = joined (pin_bits (node_of P.a P.b)) (pins_bits (graph_of ys)) rest P.is Q.is;
      count = let c = Q.count in omega arith;
      below = rw (P.below, Q.below);
      bits = Q.bits;
    })

-- pins that are read took exactly their bits, and their literals fit
pub pins_only : (n : ℕ) (bs : List ℕ) {xs rest : List ℕ} → Bits bs → read_pins n bs ≡ got xs rest → PinsTaken n bs xs rest
unfolding read_pins pins_bits graph_of nodes_fit
pins_only zero bs B e = same_got (PinsTaken zero bs) e (record { is = refl; count = refl; below = refl; bits = B })
pins_only (suc n) bs B e =
    let t = through (read_pin bs) (λ x cs. next (read_pins n cs) (λ ys ds. got (x ++ ys) ds)) e in
    let f = pin_only bs B t.first in
    let u = through (read_pins n t.b) (λ ys ds. got (t.a ++ ys) ds) t.second in
    let g = pins_only n t.b f.bits u.first in
    same_got (PinsTaken (suc n) bs) u.second (more_pins f g)
