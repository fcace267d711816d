-- `aiger_read::ends::put_record` meets its contract. Assumes nothing.
use Prim.Native.Nat.{ℕ, suc, ◌+◌, ◌≤◌}
use mathlib.Core.Path.{◌≡◌, refl}
use lib.ListN.{length, length-set}
use Rattle.std.specs.Prelude.{Option, Some}
use Rattle.graph.specs.declared.Literal.{Literal}
use Rattle.aiger_rows.specs.declared.rows.Row.{Row}
use Rattle.aiger_rows.specs.declared.rows.Row.TheVariants.{Latch, Output}
use native.Mathlib.Omega.{arith}
use Rattle.aiger_rows.specs.Rows.{said, row_item}
use Rattle.aiger_form.specs.Aag.{record_of}
use Rattle.aiger_read.proofs.Laws.Ends.{record_other}
use Rattle.aiger_read.proofs.ends.put_record.Goals as goal

pub returns-in_default : goal.returns-in_default
unfolding said record_of
returns-in_default c = rw c.in_default.is (record { place = omega arith; area = refl })

pub returns-in_default-row : goal.returns-in_default-row
unfolding said
returns-in_default-row c = rw (c.in-Some.is, record_other _ c.in_default-row.not-Latch c.in_default-row.not-Output) (record { place = omega arith; area = refl })

latch_room : {x : Option Row} {row : Row} {a b : Literal} {k : ℕ} (at : ℕ) {n : ℕ} → x ≡ Some row → row ≡ Latch a b k → at + length (record_of (said x)) ≤ n → at + 3 ≤ n
unfolding said row_item record_of
latch_room at e f h = rw (e, f) at h

output_room : {x : Option Row} {row : Row} {a : Literal} (at : ℕ) {n : ℕ} → x ≡ Some row → row ≡ Output a → at + length (record_of (said x)) ≤ n → at + 2 ≤ n
unfolding said row_item record_of
output_room at e f h = rw (e, f) at h

pub returns-in-Latch : goal.returns-in-Latch
unfolding said row_item record_of
returns-in-Latch c = rw (c.in-Some.is, c.in-Latch.is) (record { place = refl; area = let a : c.args.at + 1 ≡ suc c.args.at = omega arith in let b : c.args.at + 2 ≡ suc (suc c.args.at) = omega arith in rw (a, b) refl })

pub returns-in-Output : goal.returns-in-Output
unfolding said row_item record_of
returns-in-Output c = rw (c.in-Some.is, c.in-Output.is) (record { place = refl; area = let a : c.args.at + 1 ≡ suc c.args.at = omega arith in rw a refl })

pub bounds-records-at : goal.bounds-records-at
bounds-records-at c = omega (arith, latch_room c.args.at c.in-Some.is c.in-Latch.is c.requires)

pub bounds-records-at-in-Latch : goal.bounds-records-at-in-Latch
bounds-records-at-in-Latch c = simp length-set (omega (arith, latch_room c.args.at c.in-Some.is c.in-Latch.is c.requires))

pub bounds-records-at-in-Latch-2 : goal.bounds-records-at-in-Latch-2
bounds-records-at-in-Latch-2 c = simp length-set (omega (arith, latch_room c.args.at c.in-Some.is c.in-Latch.is c.requires))

pub bounds-records-at-in-Output : goal.bounds-records-at-in-Output
bounds-records-at-in-Output c = omega (arith, output_room c.args.at c.in-Some.is c.in-Output.is c.requires)

pub bounds-records-at-in-Output-2 : goal.bounds-records-at-in-Output-2
bounds-records-at-in-Output-2 c = simp length-set (omega (arith, output_room c.args.at c.in-Some.is c.in-Output.is c.requires))
