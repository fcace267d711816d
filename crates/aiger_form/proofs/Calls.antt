-- What is read passes the checks and has leaves for its latches; which jobs are written; and the round trip through lent areas. Assumes nothing.
use Prim.Native.Nat.{ℕ}
use mathlib.Core.Path.{◌≡◌, refl, sym, ap, ◌∙◌}
use mathlib.Core.Bool.{Bool, true, ◌&&◌}
use mathlib.Core.List.{List, [], ◌∷◌, ◌++◌, map}
use native.Mathlib.Omega.{arith}
use lib.Dec.{leb, eqb}
use lib.ListN.{length, take, drop}
use lib.Seq.{take_at}
use borrow.Author.Tests.{eqb-true, eq-eqb}
use Rattle.rules.specs.Lists.{every, gather, laid_over}
use Rattle.rules.specs.Cells.{is_height}
use Rattle.rules.specs.Graph.{graph_of}
use Rattle.rules.specs.Records.{Group, output, flip_flop, memory, staged_pin, Groups?, unreadable, groups, read}
use Rattle.rules.specs.Checks.{refusal_of}
use Rattle.rules.proofs.Lists.Members.{split, and_true}
use Rattle.checks.proofs.Laws.Passed.{any_height_lem}
use Rattle.aiger_form.specs.Aag.{Netlist, netlist_read, any_height, checked, read_aag, Ends?, no_ends, ends, with_output, with_data, ends_of, is_leaf_pin, different, Written, no_aag, aag, file_lines, writable, write_ends, write_aag}
use Rattle.aiger_form.specs.Text.{unlines}
use Rattle.aiger_form.specs.Jobs.{Named}
use Rattle.aiger_form.specs.Calls.{holds, imported, importer, exported, exporter}
use Rattle.aiger_form.proofs.Accepted.{accepted}
use Rattle.aiger_form.proofs.Flat.{read_numbers, data_numbers, out_numbers, no_ends_lem, with_output_lem, with_data_lem, ends_are}
use Rattle.aiger_form.proofs.Round.{round_trip}

-- ---- what is read passes the checks

-- a build of what is read is refused by none of 1 to 5 and 23, at any height and with areas of the right sizes
pub read_builds : (sized : Netlist → Bool) (bytes : List ℕ) (n : Netlist) → read_aag sized bytes ≡ netlist_read n → (K : ℕ) → is_height K ≡ true → refusal_of K true n.gates [] n.records ≡ 0
unfolding checked
read_builds sized bytes n e K h = any_height_lem K any_height true n.gates [] n.records h tall ∙ (accepted sized bytes n e).free
  where
    tall : is_height any_height ≡ true
    tall = unfold is_height in refl

-- ---- which jobs are written: exactly those that Q-1 names

abbrev flip_flops : List ℕ → List Group
flip_flops ds = map (λ d. flip_flop 1 d) ds

abbrev outputs : List ℕ → List Group
outputs os = map (λ l. output l) os

ends_groups : (gs : List Group) (ds os : List ℕ) → ends_of gs ≡ ends ds os → gs ≡ flip_flops ds ++ outputs os
unfolding ends_of
ends_groups [] ds os e = let a : ds ≡ [] = cc in let b : os ≡ [] = cc in rw (a, b)
ends_groups (output l ∷ gs) ds os e =
    let O = with_output_lem l (ends_of gs) e in
    let E = ends_groups gs [] O.rest O.is in
    rw (O.none, O.all) (ap (λ (r : List Group). output l ∷ r) E)
ends_groups (flip_flop m d ∷ gs) ds os e =
    let D = with_data_lem m d (ends_of gs) e in
    let E = ends_groups gs D.rest os D.is in
    ap (λ (r : List Group). flip_flop m d ∷ r) E ∙ ap (λ (k : ℕ). flip_flop k d ∷ (flip_flops D.rest ++ outputs os)) D.one ∙ ap (λ (r : List ℕ). flip_flops r ++ outputs os) (sym D.all)
ends_groups (memory ls ∷ gs) ds os e = no_ends_lem e
ends_groups (staged_pin p ∷ gs) ds os e = no_ends_lem e

groups_ends : (ds os : List ℕ) → ends_of (flip_flops ds ++ outputs os) ≡ ends ds os
unfolding ends_of with_output with_data
groups_ends [] [] = refl
groups_ends [] (l ∷ os) = rw (groups_ends [] os)
groups_ends (d ∷ ds) os = rw (groups_ends ds os)

named_writable : {given : List ℕ} {n : Netlist} (N : Named given n) → writable n N.inputs ≡ true
unfolding writable
named_writable {given} {n} N = rw (N.passes, eq-eqb (length N.inputs) (length n.latches) N.as_many, N.leaves, N.differ) refl

-- the file of such a job
pub named_written : (given : List ℕ) (n : Netlist) (N : Named given n) → write_aag given n ≡ aag (unlines (file_lines (graph_of n.gates) n.latches N.inputs N.outs))
unfolding write_aag write_ends
named_written [] n N = rw (N.readable, write_aag, groups_ends N.inputs N.outs, named_writable N, write_ends) refl
named_written (p ∷ ps) n N = absurd (let e = N.none in let z : ◌≡◌ {A = ℕ} 0 1 = cc in omega arith)

-- and its records, number by number
pub named_flat : {given : List ℕ} {n : Netlist} (N : Named given n) → n.records ≡ gather data_numbers N.inputs ++ gather out_numbers N.outs
named_flat {given} {n} N =
    let gs = flip_flops N.inputs ++ outputs N.outs in
    sym (read_numbers n.records gs N.readable) ∙ (ends_are gs (groups_ends N.inputs N.outs)).flat

ends_named : (n : Netlist) (gs : List Group) (r : Ends?) (bytes : List ℕ) → read n.records ≡ groups gs → ends_of gs ≡ r → write_ends n r ≡ aag bytes → Named [] n
unfolding write_ends writable
ends_named n gs no_ends bytes a b c = absurd (let z : ◌≡◌ {A = ℕ} 0 1 = cc in omega arith)
ends_named n gs (ends ds os) bytes a b c = split (writable n ds)
    (λ t.
    let g = graph_of n.gates in
    let w3 = and_true (eqb (checked true n) 0 && eqb (length ds) (length n.latches) && every (is_leaf_pin g) n.latches) (different n.latches) t in
    let w2 = and_true (eqb (checked true n) 0 && eqb (length ds) (length n.latches)) (every (is_leaf_pin g) n.latches) w3.0 in
    let w1 = and_true (eqb (checked true n) 0) (eqb (length ds) (length n.latches)) w2.0 in
    record {
      inputs = ds;
      outs = os;
      none = refl;
      readable = a ∙ ap groups (ends_groups gs ds os b);
      passes = eqb-true (checked true n) 0 w1.0;
      as_many = eqb-true (length ds) (length n.latches) w1.1;
      leaves = w2.1;
      differ = w3.1;
    })
    (λ t. absurd (let q : no_aag ≡ aag bytes = rw (t, write_ends) at c in let z : ◌≡◌ {A = ℕ} 0 1 = cc in omega arith))

-- and no other
pub written_named : (given : List ℕ) (n : Netlist) (bytes : List ℕ) → write_aag given n ≡ aag bytes → Named given n
unfolding write_aag
written_named [] n bytes e = at (read n.records) refl e
  where
    at : (r : Groups?) → read n.records ≡ r → (elim r [ unreadable ↦ no_aag | groups gs ↦ write_ends n (ends_of gs) ]) ≡ aag bytes → Named [] n
    at unreadable a c = absurd (let z : ◌≡◌ {A = ℕ} 0 1 = cc in omega arith)
    at (groups gs) a c = ends_named n gs (ends_of gs) bytes a refl c
written_named (p ∷ ps) n bytes e = absurd (let z : ◌≡◌ {A = ℕ} 0 1 = cc in omega arith)

-- ---- through lent areas

call_back : (given : List ℕ) (n : Netlist) (area : List ℕ) (w : Written) → write_aag given n ≡ w → (exported area w).number ≡ 0 → (areas : Netlist) → holds areas n ≡ true → importer (take (exported area w).length' (exported area w).bytes) areas ≡ imported areas (netlist_read n)
unfolding exported importer laid_over
call_back given n area no_aag a e areas h = absurd (omega arith)
call_back given n area (aag bytes) a e areas h = split (leb (length bytes) (length area))
    (λ t. rw (t, exported, take_at bytes (drop (length bytes) area) (length bytes) refl) (ap (imported areas) (round_trip given n bytes a (holds areas) h)))
    (λ t. absurd (let q : 2 ≡ 0 = rw (t, exported) at e in omega arith))

-- what an export leaves, imported, gives the job and its areas
pub exported_imported : (given : List ℕ) (n : Netlist) (area : List ℕ) → (exporter given n area).number ≡ 0 → (areas : Netlist) → holds areas n ≡ true → importer (take (exporter given n area).length' (exporter given n area).bytes) areas ≡ imported areas (netlist_read n)
unfolding exporter
exported_imported given n area e areas h = call_back given n area (write_aag given n) refl e areas h
