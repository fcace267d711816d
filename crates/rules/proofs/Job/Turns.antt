-- The fields of a job file in a row: a job whose numbers fit is read back, and only such a job is read. Assumes nothing.
use Prim.Native.Nat.{ℕ, suc, ◌-◌, ◌/◌, ◌%◌, ◌^◌, ◌≤◌}
use mathlib.Core.Path.{◌≡◌, refl, sym, ap, ◌∙◌}
use mathlib.Core.Bool.{true, ◌&&◌}
use mathlib.Core.List.{List, [], ◌∷◌, ◌++◌, append_assoc}
use native.Mathlib.Omega.{arith}
use lib.Dec.{leb, eqb}
use lib.ListN.{length, take, drop, length-drop}
use borrow.Author.Tests.{lt-ltb, ltb-true, le-leb, leb-true, eq-eqb, eqb-true}
use Rattle.rules.specs.Inside.Files.{Held}
use Rattle.rules.specs.Lists.{every, gather}
use Rattle.rules.specs.Cells.{empty}
use Rattle.rules.specs.Graph.{node_of, graph_of, pin_count}
use Rattle.rules.specs.Records.{Group, groups, read_from, read}
use Rattle.rules.specs.Job.{Job, got, next, field, fields, bits_of, read_pins, read_records, read_fields, fits_program, pins_bits, groups_bits, job_bits, is_mark, pin_fits, node_fits, nodes_fit, gates_fit}
use Rattle.rules.proofs.Lists.Members.{and_true}
use Rattle.rules.proofs.Job.Bits.{Bits}
use Rattle.rules.proofs.Job.Fields.{every_parts, through, same_got, joined, field_got, field_only, fields_got, fields_only}
use Rattle.rules.proofs.Job.Pins.{pins_got, pins_only}
use Rattle.rules.proofs.Job.Records.{read_length, records_got, records_only}

-- ---- the fields in a row

-- what the readers take one behind the other
pub record InTurn (b0 : List ℕ) (K : ℕ) (gates given records b7 : List ℕ) : Type 0 where
  pub b1 : List ℕ
  pub b2 : List ℕ
  pub b3 : List ℕ
  pub b4 : List ℕ
  pub b5 : List ℕ
  pub b6 : List ℕ
  pub n : ℕ
  pub m : ℕ
  pub e : ℕ
  pub height : field 4 b0 ≡ got K b1
  pub pins : field 16 b1 ≡ got n b2
  pub each : read_pins n b2 ≡ got gates b3
  pub count : field 16 b3 ≡ got m b4
  pub listed : fields m 16 b4 ≡ got given b5
  pub groups : field 16 b5 ≡ got e b6
  pub all : read_records e b6 ≡ got records b7

abbrev made : ℕ → List ℕ → List ℕ → List ℕ → Job
made K gates given records = record { height = K; gates = empty ∷ empty ∷ gates; given = given; records = records }

-- what is taken so is the whole job
pub in_turn : {b0 : List ℕ} {K : ℕ} {gates given records b7 : List ℕ} → InTurn b0 K gates given records b7 → read_fields b0 ≡ got (made K gates given records) b7
unfolding read_fields next
in_turn T = rw (T.height, next, T.pins, next, T.each, next, T.count, next, T.listed, next, T.groups, next, T.all, next)

record Turns (b0 : List ℕ) (J : Job) (b7 : List ℕ) : Type 0 where
  K : ℕ
  gates : List ℕ
  given : List ℕ
  records : List ℕ
  is : J ≡ made K gates given records
  turn : InTurn b0 K gates given records b7

turns : (b0 : List ℕ) {J : Job} {b7 : List ℕ} → read_fields b0 ≡ got J b7 → Turns b0 J b7
unfolding read_fields
turns b0 e =
    let t1 = through (field 4 b0) _ e in
    let t2 = through (field 16 t1.b) _ t1.second in
    let t3 = through (read_pins t2.a t2.b) _ t2.second in
    let t4 = through (field 16 t3.b) _ t3.second in
    let t5 = through (fields t4.a 16 t4.b) _ t4.second in
    let t6 = through (field 16 t5.b) _ t5.second in
    let t7 = through (read_records t6.a t6.b) _ t6.second in
    same_got (Turns b0) t7.second (record {
      K = t1.a;
      gates = t3.a;
      given = t5.a;
      records = t7.a;
      is = refl;
      turn = record {
        b1 = t1.b;
        b2 = t2.b;
        b3 = t3.b;
        b4 = t4.b;
        b5 = t5.b;
        b6 = t6.b;
        n = t2.a;
        m = t4.a;
        e = t6.a;
        height = t1.first;
        pins = t2.first;
        each = t3.first;
        count = t4.first;
        listed = t5.first;
        groups = t6.first;
        all = t7.first;
      };
    })

-- ---- a job whose numbers fit

record Sizes (J : Job) : Type 0 where
  height : J.height ≤ 10
  pins : pin_count J.gates ≤ 501
  numbers : length J.records ≤ 512

sizes_are : (J : Job) → fits_program J ≡ true → Sizes J
unfolding fits_program
sizes_are J e =
    let h = and_true (leb J.height 10 && leb (pin_count J.gates) 501) (leb (length J.records) 512) e in
    let k = and_true (leb J.height 10) (leb (pin_count J.gates) 501) h.0 in
    record { height = leb-true J.height 10 k.0; pins = leb-true (pin_count J.gates) 501 k.1; numbers = leb-true (length J.records) 512 h.1 }

record Gates (gates : List ℕ) : Type 0 where
  is : gates ≡ empty ∷ empty ∷ drop 2 gates
  some : 2 ≤ length gates
  even : length (drop 2 gates) % 2 ≡ 0
  nodes : nodes_fit (graph_of (drop 2 gates)) ≡ true

shape : (xs : List ℕ) → length xs % 2 ≡ 0 → 1 ≤ length xs / 2 → every is_mark (take 2 xs) ≡ true → nodes_fit (graph_of xs) ≡ true → Gates xs
unfolding graph_of nodes_fit is_mark
shape [] a b c d = absurd (omega arith)
shape (x ∷ []) a b c d = absurd (omega arith)
shape (x ∷ y ∷ xs) a b c d =
    let h = every_parts is_mark x (y ∷ []) c in
    let k = every_parts is_mark y [] h.1 in
    let ex = eqb-true x empty h.0 in
    let ey = eqb-true y empty k.0 in
    record { is = cc; some = omega arith; even = omega arith; nodes = (and_true (node_fits (node_of x y)) (nodes_fit (graph_of xs)) d).1 }

gates_are : (gates : List ℕ) → gates_fit gates ≡ true → Gates gates
unfolding gates_fit pin_count
gates_are gates e =
    let h = and_true (eqb (length gates % 2) 0 && leb 1 (pin_count gates) && every is_mark (take 2 gates)) (nodes_fit (graph_of gates)) e in
    let k = and_true (eqb (length gates % 2) 0 && leb 1 (pin_count gates)) (every is_mark (take 2 gates)) h.0 in
    let l = and_true (eqb (length gates % 2) 0) (leb 1 (pin_count gates)) k.0 in
    shape gates (eqb-true (length gates % 2) 0 l.0) (leb-true 1 (length gates / 2) l.1) k.1 h.1

-- its fields are read back
module _ (J : Job) (gs : List Group) (H : Held J gs) (fits : fits_program J ≡ true) (rest : List ℕ) where
  in_order : (G : Gates J.gates) → InTurn (bits_of 4 J.height ++ (bits_of 16 (pin_count J.gates - 1) ++ (pins_bits (graph_of (drop 2 J.gates)) ++ (bits_of 16 (length J.given) ++ (gather (bits_of 16) J.given ++ (bits_of 16 (length gs) ++ (groups_bits gs ++ rest)))))))
      J.height (drop 2 J.gates) J.given J.records rest
  unfolding pin_count pin_fits
  in_order G =
      let S = sizes_are J fits in
      let n : length (drop 2 J.gates) / 2 ≡ length J.gates / 2 - 1 = let s = G.some in omega (arith, length-drop 2 J.gates) in
      record {
        b1 = _;
        b2 = _;
        b3 = _;
        b4 = _;
        b5 = _;
        b6 = _;
        n = length J.gates / 2 - 1;
        m = length J.given;
        e = length gs;
        height = field_got 4 J.height _ (omega (arith, S.height));
        pins = field_got 16 (length J.gates / 2 - 1) _ (omega (arith, S.pins));
        each = rw n at (pins_got (drop 2 J.gates) (bits_of 16 (length J.given) ++ (gather (bits_of 16) J.given ++ (bits_of 16 (length gs) ++ (groups_bits gs ++ rest)))) G.even G.nodes);
        count = field_got 16 (length J.given) _ (ltb-true (length J.given) (2 ^ 16) H.few);
        listed = fields_got 16 J.given _ H.given;
        groups = field_got 16 (length gs) _ (omega (arith, S.numbers, read_length J.records gs H.read));
        all = records_got J.records gs rest H.read H.groups;
      }

  -- a job that a file can hold is read back from its bits, and the bits behind it are left
  pub all_got : read_fields (job_bits J gs ++ rest) ≡ got J rest
  unfolding job_bits
  all_got =
      let G = gates_are J.gates H.gates in
      simp append_assoc (in_turn (in_order G) ∙ ap (λ (g : List ℕ). got (record { height = J.height; gates = g; given = J.given; records = J.records }) rest) (sym G.is))

-- ---- only such a job is read

-- the bits are those of a job that a file can hold, and some behind it
pub record Only (bs : List ℕ) (J : Job) (rest : List ℕ) : Type 0 where
  pub gs : List Group
  pub is : bs ≡ job_bits J gs ++ rest
  pub held : Held J gs

gates_made : (gates : List ℕ) → length gates % 2 ≡ 0 → nodes_fit (graph_of gates) ≡ true → gates_fit (empty ∷ empty ∷ gates) ≡ true
unfolding gates_fit pin_count graph_of nodes_fit node_fits node_of is_mark every empty
gates_made gates e h = rw (eq-eqb (suc (suc (length gates)) % 2) 0 (omega arith), le-leb 1 (suc (suc (length gates)) / 2) (omega arith), h)

read_all : (xs : List ℕ) (gs : List Group) → ((f : ℕ) → length xs ≤ f → read_from f xs ≡ groups gs) → read xs ≡ groups gs
unfolding read
read_all xs gs r = r (length xs) (omega arith)

only_made : {b0 : List ℕ} {K : ℕ} {gates given records b7 : List ℕ} → Bits b0 → InTurn b0 K gates given records b7 → Only b0 (made K gates given records) b7
unfolding job_bits pin_count pin_fits
only_made {b0} {K} {gates} {given} {records} {b7} B T =
    let f1 = field_only 4 b0 B T.height in
    let f2 = field_only 16 T.b1 f1.bits T.pins in
    let p = pins_only T.n T.b2 f2.bits T.each in
    let f3 = field_only 16 T.b3 p.bits T.count in
    let g = fields_only T.m 16 T.b4 f3.bits T.listed in
    let f4 = field_only 16 T.b5 g.bits T.groups in
    let r = records_only T.e T.b6 f4.bits T.all in
    let en : suc (suc (length gates)) / 2 - 1 ≡ T.n = omega (arith, p.count) in
    let c1 = joined (bits_of 4 K) (bits_of 16 T.n) T.b2 f1.is f2.is in
    let c2 = joined (bits_of 4 K ++ bits_of 16 T.n) (pins_bits (graph_of gates)) T.b3 c1 p.is in
    let c3 = joined (bits_of 4 K ++ bits_of 16 T.n ++ pins_bits (graph_of gates)) (bits_of 16 T.m) T.b4 c2 f3.is in
    let c4 = joined (bits_of 4 K ++ bits_of 16 T.n ++ pins_bits (graph_of gates) ++ bits_of 16 T.m) (gather (bits_of 16) given) T.b5 c3 g.is in
    let c5 = joined (bits_of 4 K ++ bits_of 16 T.n ++ pins_bits (graph_of gates) ++ bits_of 16 T.m ++ gather (bits_of 16) given) (bits_of 16 T.e) T.b6 c4 f4.is in
    record {
      gs = r.all;
      is = rw (en, g.count, r.count) (joined (bits_of 4 K ++ bits_of 16 T.n ++ pins_bits (graph_of gates) ++ bits_of 16 T.m ++ gather (bits_of 16) given ++ bits_of 16 T.e) (groups_bits r.all) b7 c5 r.is);
      held = record {
        read = read_all records r.all r.read;
        gates = gates_made gates (omega (arith, p.count)) p.below;
        few = lt-ltb (length given) (2 ^ 16) (omega (arith, g.count, f3.below));
        given = g.below;
        groups = r.below;
      };
    }

-- a job that is read stands in the bits as the writer writes it
pub only_held : (b0 : List ℕ) {J : Job} {b7 : List ℕ} → Bits b0 → read_fields b0 ≡ got J b7 → Only b0 J b7
only_held b0 B e = let T = turns b0 e in rw T.is (only_made B T.turn)
