-- What a judged file is answered: laws. Assumes nothing.
use Prim.Native.Nat.{ℕ, zero, suc, ◌+◌, ◌-◌, ◌*◌, ◌%◌, ◌≤◌, ◌<◌}
use mathlib.Core.Path.{◌≡◌, refl, sym, ap, ◌∙◌}
use mathlib.Core.Bool.{Bool, true, false, ◌&&◌}
use mathlib.Core.List.{List, [], ◌∷◌, ◌++◌}
use native.Mathlib.Omega.{arith}
use lib.Dec.{eqb, leb, ltb}
use lib.ListN.{length, take, drop, replicate, length-replicate}
use lib.Seq.{sets, sets-eq}
use borrow.Author.Tests.{le-leb, lt-leb, lt-ltb, leb-true}
use Rattle.rules.specs.Lists.{nothing, every, laid_over}
use Rattle.rules.specs.Cells.{is_height}
use Rattle.rules.specs.Graph.{pin_of, graph_of, pin_count}
use Rattle.rules.specs.Records.{Group, output, flip_flop, Groups?, unreadable, groups, and_then, size_of, group_at, whole_at, read_from, read, endpoints_of, all_named}
use Rattle.rules.specs.Checks.{nodes_right, graph_right, loops_right, groups_right, records_right, given_right, refusal_of, pin_shown}
use Rattle.rules.proofs.Lists.Members.{split, and_true}
use Rattle.rules.proofs.Bools.{and_right}
use Rattle.refusals.specs.declared.Refusal.{Refusal}
use Rattle.refusals.specs.Numbers.{number_of}
use Rattle.refusals.specs.Numbers as shown
use Rattle.refusals.proofs.Numbers.{number_above}
use Rattle.std.specs.Prelude.{Result, Ok, Err}
use Rattle.checks.specs.Values.{Says}
use Rattle.checks.proofs.Laws.Refusing.{refusal_0, refusal_2, refusal_3, refusal_23, refusal_4, pin_none_lem}
use Rattle.aiger_form.specs.Aag.{Item, bad_text, skipped, input_line, latch_line, output_line, gate_line, is_literal, is_variable, items, gather_items, record_of, records_of, latches_of, gates_of, driven, file, file_of, Netlist, netlist, refused, netlist_read, any_height, handed_out, admit, answered, read_aag}
use Rattle.aiger_form.specs.Aag as aag
use Rattle.aiger_form.specs.Meaning.{here, there}
use Rattle.aiger_form.specs.Calls.{holds, imported, importer}
use Rattle.aiger_form.proofs.Accepted.{fits, AllFit, gather_two, file_stands}
use Rattle.aiger_rows.specs.Rows.{head_of}
use Rattle.aiger_text.specs.declared.file.Body.{Body}
use Rattle.aiger_text.specs.declared.file.Refused.{Refused}
use Rattle.aiger_text.specs.Passes.{lines_from, area, store_all, Behind}
use Rattle.aiger_text.specs.File.{spots_of, bad, reset, good, FileJudged}
use Rattle.aiger_text.specs.File as told
use Rattle.aiger_text.proofs.Laws.Whole.{pin_fits_lem}
use Rattle.aiger_read.specs.Answers.{areas, outcome, sized_for, Taken, Judged}
use Rattle.aiger_read.proofs.Laws.Gates.{gates_stored}
use Rattle.aiger_read.proofs.Laws.Counts.{counts, same_stand}

-- ---- 4

then_named : (n : ℕ) (x : Group) (r : Groups?) → every (λ p. ltb p n) (endpoints_of x) ≡ true → groups_right n r ≡ true → groups_right n (and_then x r) ≡ true
unfolding groups_right and_then all_named
then_named n x unreadable e h = h
then_named n x (groups xs) e h = rw (e, h)

every_two : (P : ℕ → Bool) (a b : ℕ) → P a ≡ true → P b ≡ true → every P (a ∷ b ∷ []) ≡ true
unfolding every
every_two P a b p q = rw (p, every, q)

every_one : (P : ℕ → Bool) (a : ℕ) → P a ≡ true → every P (a ∷ []) ≡ true
unfolding every
every_one P a p = rw (p, every)

read_output : (f l : ℕ) (rest : List ℕ) → read_from (suc f) (1 ∷ l ∷ rest) ≡ and_then (output l) (read_from f rest)
unfolding read_from whole_at size_of group_at
read_output f l rest = let w : ltb 1 (length (1 ∷ l ∷ rest)) ≡ true = lt-ltb 1 (length (1 ∷ l ∷ rest)) (omega arith) in let v : whole_at (1 ∷ l ∷ rest) ≡ true = w in rw (read_from, v)

read_latch : (f d : ℕ) (rest : List ℕ) → read_from (suc f) (2 ∷ 1 ∷ d ∷ rest) ≡ and_then (flip_flop 1 d) (read_from f rest)
unfolding read_from whole_at size_of group_at
read_latch f d rest = let w : ltb 2 (length (2 ∷ 1 ∷ d ∷ rest)) ≡ true = lt-ltb 2 (length (2 ∷ 1 ∷ d ∷ rest)) (omega arith) in let v : whole_at (2 ∷ 1 ∷ d ∷ rest) ≡ true = w in rw (read_from, v)

named : (m : ℕ) (xs : List Item) → AllFit m xs → (f : ℕ) → length (records_of xs) ≤ f → groups_right (suc m) (read_from f (records_of xs)) ≡ true
unfolding records_of gather_items record_of endpoints_of every fits
named m [] F zero k = unfold read_from groups_right all_named in refl
named m [] F (suc f) k = unfold read_from groups_right all_named in refl
named m (bad_text ∷ xs) F f k = named m xs (λ y a. F y (there a)) f k
named m (skipped ∷ xs) F f k = named m xs (λ y a. F y (there a)) f k
named m (input_line l ∷ xs) F f k = named m xs (λ y a. F y (there a)) f k
named m (gate_line l a b ∷ xs) F f k = named m xs (λ y a. F y (there a)) f k
named m (output_line l ∷ xs) F zero k = absurd (omega arith)
named m (output_line l ∷ xs) F (suc f) k =
    let q = pin_fits_lem m l (F (output_line l) here) in
    rw (read_output f l (records_of xs)) (then_named (suc m) (output l) (read_from f (records_of xs)) (every_one (λ p. ltb p (suc m)) (pin_of l) (lt-ltb (pin_of l) (suc m) (omega arith))) (named m xs (λ y a. F y (there a)) f (omega arith)))
named m (latch_line l d r ∷ xs) F zero k = absurd (omega arith)
named m (latch_line l d r ∷ xs) F (suc f) k =
    let q = pin_fits_lem m d (and_true (is_variable m l) (is_literal m d) (F (latch_line l d r) here)).1 in
    rw (read_latch f d (records_of xs)) (then_named (suc m) (flip_flop 1 d) (read_from f (records_of xs)) (every_two (λ p. ltb p (suc m)) (pin_of 1) (pin_of d) (lt-ltb (pin_of 1) (suc m) (one m)) (lt-ltb (pin_of d) (suc m) (omega arith))) (named m xs (λ y a. F y (there a)) f (omega arith)))
  where
    one : (n : ℕ) → pin_of 1 < suc n
    one n = unfold pin_of in omega arith

-- the records that a file becomes are right where they are few
records_fine : (m : ℕ) (xs : List Item) → AllFit m xs → records_right (suc m) (records_of xs) ≡ leb (length (records_of xs)) 65536
unfolding records_right read
records_fine m xs F = rw (named m xs F (length (records_of xs)) (omega arith)) (and_right (leb (length (records_of xs)) 65536))

-- ---- 3

gates_length : (m : ℕ) (xs : List Item) → length (gates_of m xs) ≡ 2 * (m + 1)
unfolding gates_of
gates_length m xs = gather_two (driven xs) (suc m) 0 ∙ omega arith

pins_are : (m : ℕ) (xs : List Item) → pin_count (gates_of m xs) ≡ suc m
unfolding pin_count
pins_are m xs = rw (gates_length m xs) (omega arith)

many_pins : (m : ℕ) (xs : List Item) → 65535 < m → graph_right (gates_of m xs) ≡ false
unfolding graph_right
many_pins m xs h = rw (pins_are m xs, lt-leb (suc m) 65536 (omega arith)) (none (eqb (length (gates_of m xs) % 2) 0) (leb 1 (suc m)) (nodes_right (suc m) 0 (graph_of (gates_of m xs))))
  where
    none : (a b c : Bool) → ((a && b) && false) && c ≡ false
    none true true c = refl
    none true false c = refl
    none false b c = refl

-- ---- the checks without records, and with them

tall : is_height any_height ≡ true
unfolding is_height
tall = refl

no_records : (n : ℕ) → records_right n [] ≡ true
unfolding records_right read read_from groups_right all_named
no_records n = refl

none_given : (n : ℕ) → given_right n [] ≡ true
unfolding given_right every
none_given n = refl

graph_of_lem : (gates : List ℕ) → refusal_of any_height true gates [] [] ≡ 0 → (graph_right gates ≡ true) × (loops_right gates ≡ true)
graph_of_lem gates e = split (graph_right gates)
    (λ g. split (loops_right gates) (λ f. (g, f)) (λ f. absurd (omega (arith, refusal_23 any_height true gates [] [] tall refl g f))))
    (λ g. absurd (omega (arith, refusal_3 any_height true gates [] [] tall refl g)))

graph_first : (gates records : List ℕ) → (refusal_of any_height true gates [] [] ≡ 0 → ⊥) → refusal_of any_height true gates [] records ≡ refusal_of any_height true gates [] []
graph_first gates records n = split (graph_right gates)
    (λ g. split (loops_right gates)
    (λ f. absurd (n (sym (refusal_0 any_height true gates [] [] tall refl g f (pin_count gates) refl (no_records (pin_count gates)) (none_given (pin_count gates))))))
    (λ f. sym (refusal_23 any_height true gates [] records tall refl g f) ∙ refusal_23 any_height true gates [] [] tall refl g f))
    (λ g. sym (refusal_3 any_height true gates [] records tall refl g) ∙ refusal_3 any_height true gates [] [] tall refl g)

handed : (n : Netlist) (k : ℕ) → (k ≡ 0 → ⊥) → handed_out n k ≡ refused k 0 (pin_shown k n.gates)
unfolding handed_out
handed n zero z = absurd (z refl)
handed n (suc k) z = refl

-- ---- a file that `file` refuses, and one that it accepts

refused_of : {bytes : List ℕ} {f : aag.File?} {e : Refused} → told.Judged bytes f (Err e) → (s : Netlist → Bool) → answered s f ≡ refused (number_of e.why) e.at (shown.pin_of e.why)
unfolding answered
refused_of (bad q) s = rw q
refused_of (reset q) s = rw q

good_parts : {bytes : List ℕ} {f : aag.File?} {v : Body} → told.Judged bytes f (Ok v) → Behind v.start bytes × (aag.is_cut (head_of v.head) bytes (lines_from bytes v.start) ≡ false) × (f ≡ file v.head.variables (items (spots_of v bytes)))
good_parts (good B c q) = (B, c, q)

-- 12 and 13
pub text_refused : {bytes own₀ own : List ℕ} {e : Refused} → FileJudged bytes own₀ own (Err e) → (g r l : ℕ) → read_aag (sized_for g r l) bytes ≡ refused (number_of e.why) e.at (shown.pin_of e.why)
unfolding read_aag
text_refused J g r l = refused_of J.is (sized_for g r l)

module _ {bytes own₀ own : List ℕ} {v : Body} (J : FileJudged bytes own₀ own (Ok v)) (e₀ : own₀ ≡ replicate area 4294967295) (g r l : ℕ) where
  m : ℕ
  m = v.head.variables

  xs : List Item
  xs = items (spots_of v bytes)

  N : Netlist
  N = netlist m xs

  G : Behind v.start bytes × (aag.is_cut (head_of v.head) bytes (lines_from bytes v.start) ≡ false) × (file_of bytes ≡ file v.head.variables (items (spots_of v bytes)))
  G = good_parts J.is

  fit : AllFit m xs
  unfolding m xs
  fit = (file_stands bytes G.2).fit

  stand : aag.first_bad (0 ∷ aag.defined xs) [] (spots_of v bytes) ≡ nothing
  unfolding xs
  stand = let S = file_stands bytes G.2 in same_stand (0 ∷ aag.defined (items (spots_of v bytes))) [] S.spots (spots_of v bytes) S.these S.good

  counted : (length (records_of xs) ≡ 3 * v.head.latches + 2 * v.head.outputs) × (length (latches_of xs) ≡ v.head.latches)
  unfolding xs
  counted = counts (head_of v.head) bytes (lines_from bytes v.start) (0 ∷ aag.defined xs) G.1 stand

  abbrev Room : Bool → Type 0
  Room b = b ≡ (leb (2 * (v.head.variables + 1)) g && leb (3 * v.head.latches + 2 * v.head.outputs) r && leb v.head.latches l)

  sized : (b : Bool) → Room b → sized_for g r l N ≡ b
  unfolding sized_for N netlist m
  sized b e = let c = counted in rw (gates_length m xs, c.0, c.1) (sym e)

  answer : (b : Bool) → Room b → read_aag (sized_for g r l) bytes ≡ handed_out N (refusal_of any_height b (gates_of m xs) [] (records_of xs))
  unfolding read_aag answered admit aag.checked N netlist m xs
  answer b e = ap (answered (sized_for g r l)) G.2 ∙ ap (λ (t : Bool). handed_out (netlist m xs) (refusal_of any_height t (gates_of m xs) [] (records_of xs))) (sized b e)

  refuses : (b : Bool) → Room b → (k : ℕ) → k ≡ refusal_of any_height b (gates_of m xs) [] (records_of xs) → (k ≡ 0 → ⊥) → read_aag (sized_for g r l) bytes ≡ refused k 0 (pin_shown k (gates_of m xs))
  unfolding N netlist
  refuses b e k q n = answer b e ∙ ap (handed_out N) (sym q) ∙ handed N k n

  plainly : (b : Bool) → Room b → (k : ℕ) → k ≡ refusal_of any_height b (gates_of m xs) [] (records_of xs) → (k ≡ 0 → ⊥) → (k ≡ 23 → ⊥) → read_aag (sized_for g r l) bytes ≡ refused k 0 0
  plainly b e k q n p = refuses b e k q n ∙ ap (refused k 0) (sym (pin_none_lem k (gates_of m xs) p))

  -- 2
  pub room_refused : (b : Bool) → Room b → b ≡ false → read_aag (sized_for g r l) bytes ≡ refused 2 0 0
  room_refused b e f = plainly b e 2 (refusal_2 any_height b (gates_of m xs) [] (records_of xs) tall f) (λ q. omega arith) (λ q. omega arith)

  module _ (b : Bool) (e : Room b) (s : b ≡ true) where
    -- 3, too many pins
    pub many_refused : 65535 < v.head.variables → read_aag (sized_for g r l) bytes ≡ refused 3 0 0
    unfolding m
    many_refused h = plainly b e 3 (refusal_3 any_height b (gates_of m xs) [] (records_of xs) tall s (many_pins m xs h)) (λ q. omega arith) (λ q. omega arith)

    module _ (h : v.head.variables ≤ 65535) where
      -- the own area's front is the graph
      pub own_gates : take (2 * (v.head.variables + 1)) own ≡ gates_of v.head.variables (items (spots_of v bytes))
      unfolding m xs
      own_gates = gates_stored m (0 ∷ aag.defined xs) (spots_of v bytes) stand h own (J.stored (omega arith) ∙ ap (store_all (spots_of v bytes)) e₀)

      module _ {x : Result (Unit {0}) Refusal} (C : Says (refusal_of any_height true (take (2 * (v.head.variables + 1) - 0) (drop 0 own)) [] []) (take (2 * (v.head.variables + 1) - 0) (drop 0 own)) x) where
        said : Says (refusal_of any_height true (gates_of m xs) [] []) (gates_of m xs) x
        unfolding m xs
        said = let q : 2 * (v.head.variables + 1) - 0 ≡ 2 * (v.head.variables + 1) = omega arith in rw (q, own_gates) at C

      -- 3 and 23
      pub graph_refused : (why : Refusal) → Says {A = Unit {0}} (refusal_of any_height true (take (2 * (v.head.variables + 1) - 0) (drop 0 own)) [] []) (take (2 * (v.head.variables + 1) - 0) (drop 0 own)) (Err why) → read_aag (sized_for g r l) bytes ≡ refused (number_of why) 0 (shown.pin_of why)
      graph_refused why C =
          let S = said C in
          let n = number_above why in
          let k = refusal_of any_height true (gates_of m xs) [] [] in
          let f = graph_first (gates_of m xs) (records_of xs) (λ y. absurd (omega (arith, S.number))) in
          let w : k ≡ refusal_of any_height b (gates_of m xs) [] (records_of xs) = sym f ∙ ap (λ (t : Bool). refusal_of any_height t (gates_of m xs) [] (records_of xs)) (sym s) in
          refuses b e k w (λ y. omega (arith, S.number)) ∙ ap (λ (i : ℕ). refused i 0 (pin_shown k (gates_of m xs))) (sym S.number) ∙ ap (refused (number_of why) 0) (sym S.pin)

      module _ (u : Unit {0}) (C : Says (refusal_of any_height true (take (2 * (v.head.variables + 1) - 0) (drop 0 own)) [] []) (take (2 * (v.head.variables + 1) - 0) (drop 0 own)) (Ok u)) where
        right : (graph_right (gates_of m xs) ≡ true) × (loops_right (gates_of m xs) ≡ true)
        right = graph_of_lem (gates_of m xs) (sym (said C).number)

        fine : records_right (pin_count (gates_of m xs)) (records_of xs) ≡ leb (3 * v.head.latches + 2 * v.head.outputs) 65536
        fine = rw (pins_are m xs) (records_fine m xs fit ∙ ap (λ (n : ℕ). leb n 65536) counted.0)

        -- 4
        pub records_refused : 65536 < 3 * v.head.latches + 2 * v.head.outputs → read_aag (sized_for g r l) bytes ≡ refused 4 0 0
        records_refused k = plainly b e 4 (refusal_4 any_height b (gates_of m xs) [] (records_of xs) tall s right.0 right.1 (pin_count (gates_of m xs)) refl (fine ∙ lt-leb (3 * v.head.latches + 2 * v.head.outputs) 65536 k)) (λ q. omega arith) (λ q. omega arith)

        accepts : 3 * v.head.latches + 2 * v.head.outputs ≤ 65536 → read_aag (sized_for g r l) bytes ≡ netlist_read N
        unfolding handed_out
        accepts k = answer b e ∙ ap (handed_out N) (sym (refusal_0 any_height b (gates_of m xs) [] (records_of xs) tall s right.0 right.1 (pin_count (gates_of m xs)) refl (fine ∙ le-leb (3 * v.head.latches + 2 * v.head.outputs) 65536 k) (none_given (pin_count (gates_of m xs)))))

        rooms : (2 * (v.head.variables + 1) ≤ g) × (3 * v.head.latches + 2 * v.head.outputs ≤ r) × (v.head.latches ≤ l)
        rooms =
            let w = and_true (leb (2 * (v.head.variables + 1)) g && leb (3 * v.head.latches + 2 * v.head.outputs) r) (leb v.head.latches l) (sym e ∙ s) in
            let u = and_true (leb (2 * (v.head.variables + 1)) g) (leb (3 * v.head.latches + 2 * v.head.outputs) r) w.0 in
            (leb-true _ _ u.0, leb-true _ _ u.1, leb-true _ _ w.1)

        -- none
        pub taken : 3 * v.head.latches + 2 * v.head.outputs ≤ 65536 → Taken bytes own g r l v
        unfolding N m xs
        taken k = record {
          behind = G.0;
          small = h;
          reads = accepts k;
          gates = own_gates;
          records = counted.0;
          latches = counted.1;
          gates_fit = rooms.0;
          records_fit = rooms.1;
          latches_fit = rooms.2;
          few = k;
        }

-- ---- the verdict

-- the own area's length
pub own_size : {own : List ℕ} → own ≡ replicate area 4294967295 → length own ≡ 131072
own_size e = ap length e ∙ length-replicate {A = ℕ} area 4294967295

-- a refusal
pub refused_as : {bytes own : List ℕ} {g r l : ℕ} → length own ≡ 131072 → (e : Refused) → read_aag (sized_for g r l) bytes ≡ refused (number_of e.why) e.at (shown.pin_of e.why) → Judged bytes own g r l (Err e)
refused_as s e q = record { size = s; is = q }

-- ---- the lent areas

laid_sets : (a xs : List ℕ) → length xs ≤ length a → sets a 0 xs ≡ laid_over xs a
unfolding laid_over
laid_sets a xs h = let z : 0 + length xs ≡ length xs = omega arith in rw z at (sets-eq xs a 0 (omega arith))

module _ (g r l : List ℕ) where
  import_as : (bytes : List ℕ) → importer bytes (areas g r l) ≡ imported (areas g r l) (read_aag (sized_for (length g) (length r) (length l)) bytes)
  unfolding importer holds sized_for areas
  import_as bytes = refl

  -- a refusal changes nothing
  pub import_refused : (bytes : List ℕ) (e : Refused) → read_aag (sized_for (length g) (length r) (length l)) bytes ≡ refused (number_of e.why) e.at (shown.pin_of e.why) → outcome (Err e) g r l ≡ importer bytes (areas g r l)
  unfolding outcome imported
  import_refused bytes e q = sym (import_as bytes ∙ ap (imported (areas g r l)) q)

  module _ {bytes own : List ℕ} {v : Body} (K : Taken bytes own (length g) (length r) (length l) v) where
    ys : List Item
    ys = items (spots_of v bytes)

    laid_gates : take (2 * (v.head.variables + 1)) own ++ drop (2 * (v.head.variables + 1)) g ≡ laid_over (gates_of v.head.variables ys) g
    unfolding laid_over ys
    laid_gates = rw (K.gates, gates_length v.head.variables (items (spots_of v bytes))) refl

    -- what is read stands at the areas' fronts
    pub import_read : {g' r' l' : List ℕ} → g' ≡ take (2 * (v.head.variables + 1)) own ++ drop (2 * (v.head.variables + 1)) g → r' ≡ sets r 0 (records_of (items (spots_of v bytes))) → l' ≡ sets l 0 (latches_of (items (spots_of v bytes))) →
        outcome (Ok (record { gates = 2 * (v.head.variables + 1); records = 3 * v.head.latches + 2 * v.head.outputs; latches = v.head.latches })) g' r' l' ≡ importer bytes (areas g r l)
    unfolding outcome imported areas netlist ys
    import_read {g'} {r'} {l'} eg er el =
        let n = gates_length v.head.variables ys in
        let p : g' ≡ laid_over (gates_of v.head.variables ys) g = eg ∙ laid_gates in
        let q : r' ≡ laid_over (records_of ys) r = er ∙ laid_sets r (records_of ys) (omega (arith, K.records, K.records_fit)) in
        let s : l' ≡ laid_over (latches_of ys) l = el ∙ laid_sets l (latches_of ys) (omega (arith, K.latches, K.latches_fit)) in
        sym (import_as bytes ∙ ap (imported (areas g r l)) K.reads ∙ rw (n, K.records, K.latches, p, q, s) refl)
