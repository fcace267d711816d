-- `bits::put_bit` meets its contract: it is in the byte at an eighth of its index. Assumes nothing.
use Prim.Native.Nat.{◌/◌}
use native.Mathlib.Omega.{arith}
use Rattle.bits.proofs.Laws.Putting.{bit_put, bit_past}
use Rattle.bits.proofs.put_bit.Goals as goal

pub returns-else-i-bytes : goal.returns-else-i-bytes
returns-else-i-bytes c = let a = c.args in bit_past a.bytes.now a.at a.b c.if-i-bytes.false

pub with_bit-requires : goal.with_bit-requires
with_bit-requires c = record { byte = omega (arith, c.from.ensures, c.type_inv.bytes (c.args.at / 8)); inside = omega arith; bit = c.requires }

pub returns-then-i-bytes : goal.returns-then-i-bytes
returns-then-i-bytes c = let a = c.args in bit_put a.bytes.now a.at a.b _ c.if-i-bytes.true (rw c.from.ensures at c.with_bit.ensures)
