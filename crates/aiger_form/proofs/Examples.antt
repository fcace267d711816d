-- Files and what is read from them, in one computed table that carries one claim. Assumes nothing.
use Prim.Native.Nat.{ℕ, ◌*◌}
use mathlib.Core.Bool.{Bool, true, false, ◌&&◌}
use mathlib.Core.List.{List, [], ◌∷◌, ◌++◌}
use lib.Dec.{T, leb}
use lib.ListN.{replicate, length}
use Rattle.rules.specs.Lists.{same_list}
use Rattle.rules.specs.Cells.{empty}
use Rattle.rules.specs.Listing.{text}
use Rattle.rules.specs.Inside.Opened.{everything}
use Rattle.aiger_form.specs.Aag.{Netlist, Answer, refused, netlist_read, read_aag, Written, no_aag, aag, write_aag}
use Rattle.aiger_form.specs.Calls.{Import, importer, Export, exporter}
use Rattle.aiger_form.specs.Opened.{all_of_aag}

abbrev same_lists : List (List ℕ) → List (List ℕ) → Bool
same_lists [] [] = true
same_lists [] (y ∷ ys) = false
same_lists (x ∷ xs) [] = false
same_lists (x ∷ xs) (y ∷ ys) = same_list x y && same_lists xs ys

record Row : Type 0 where
  gives : List (List ℕ)
  says : List (List ℕ)

abbrev right : List Row → Bool
right [] = true
right (r ∷ rs) = same_lists r.gives r.says && right rs

abbrev shown : Answer → List (List ℕ)
shown (refused n at pin) = (n ∷ at ∷ pin ∷ []) ∷ []
shown (netlist_read n) = n.gates ∷ n.records ∷ n.latches ∷ []

-- areas with room for so many numbers
abbrev room_for : ℕ → Netlist → Bool
room_for k n = leb (length n.gates) k && leb (length n.records) k && leb (length n.latches) k

abbrev gives : List ℕ → List (List ℕ)
gives bytes = shown (read_aag (room_for 100) bytes)

abbrev leaves : ℕ → List ℕ
leaves n = replicate (2 * n) empty

abbrev toggle : Netlist
toggle = record { gates = leaves 2; records = 2 ∷ 1 ∷ 3 ∷ 1 ∷ 2 ∷ 1 ∷ 3 ∷ []; latches = 1 ∷ [] }

abbrev adder : Netlist
adder = record { gates = leaves 3 ++ (2 ∷ 4 ∷ 3 ∷ 5 ∷ 7 ∷ 9 ∷ []); records = 1 ∷ 10 ∷ 1 ∷ 6 ∷ []; latches = [] }

abbrev half_adder : Netlist
half_adder = record { gates = leaves 3 ++ (13 ∷ 15 ∷ []) ++ leaves 2 ++ (2 ∷ 4 ∷ 3 ∷ 5 ∷ []); records = 1 ∷ 6 ∷ 1 ∷ 12 ∷ []; latches = [] }

abbrev lists : Netlist → List (List ℕ)
lists n = n.gates ∷ n.records ∷ n.latches ∷ []

abbrev bytes_of : Written → List (List ℕ)
bytes_of no_aag = []
bytes_of (aag bytes) = bytes ∷ []

abbrev at12 : ℕ → List (List ℕ)
at12 at = (12 ∷ at ∷ 0 ∷ []) ∷ []

abbrev sevens : ℕ → ℕ → ℕ → Netlist
sevens a b c = record { gates = replicate a 7; records = replicate b 7; latches = replicate c 7 }

abbrev called : Import → List (List ℕ)
called i = (i.reply.number ∷ i.reply.at ∷ i.reply.pin ∷ i.reply.gates ∷ i.reply.records ∷ i.reply.latches ∷ []) ∷ lists i.areas

abbrev sent : Export → List (List ℕ)
sent x = (x.number ∷ x.length' ∷ []) ∷ x.bytes ∷ []

abbrev table : List Row
table =
    -- a toggle flip-flop, and the half adder with its gates in order; both ways
    record { gives = gives (text "aag 1 0 1 2 0\n2 3\n2\n3\n"); says = lists toggle }
    ∷ record { gives = bytes_of (write_aag [] toggle); says = text "aag 1 0 1 2 0\n2 3\n2\n3\n" ∷ [] }
    ∷ record { gives = gives (text "aag 5 2 0 2 3\n2\n4\n10\n6\n6 2 4\n8 3 5\n10 7 9\n"); says = lists adder }
    ∷ record { gives = bytes_of (write_aag [] adder); says = text "aag 5 2 0 2 3\n2\n4\n10\n6\n6 2 4\n8 3 5\n10 7 9\n" ∷ [] }
    -- the half adder of the AIGER document, whose gates are numbered out of order; the numbers that it leaves out come back as inputs
    ∷ record { gives = gives (text "aag 7 2 0 2 3\n2\n4\n6\n12\n6 13 15\n12 2 4\n14 3 5\n"); says = lists half_adder }
    ∷ record { gives = bytes_of (write_aag [] half_adder); says = text "aag 7 4 0 2 3\n2\n4\n8\n10\n6\n12\n6 13 15\n12 2 4\n14 3 5\n" ∷ [] }
    -- symbols and comments; an unused number becomes a leaf; a reset of 0
    ∷ record { gives = gives (text "aag 2 0 1 1 0\n2 1 0\n3\nl0 state of it\no0 \nc\nanything, not ended"); says = leaves 3 ∷ (2 ∷ 1 ∷ 1 ∷ 1 ∷ 3 ∷ []) ∷ (1 ∷ []) ∷ [] }
    ∷ record { gives = gives (text "aag 0 0 0 0 0\n"); says = leaves 1 ∷ [] ∷ [] ∷ [] }
    -- 12 cut: nothing, a line too few, in the middle of a line, in the middle of a symbol
    ∷ record { gives = gives []; says = at12 0 }
    ∷ record { gives = gives (text "aag 1 1 0 1 0\n2\n"); says = at12 16 }
    ∷ record { gives = gives (text "aag 1 1 0 1 0\n2\n2"); says = at12 17 }
    ∷ record { gives = gives (text "aag 1 1 0 1 0\n2\n2\ni0 x"); says = at12 22 }
    -- a cut file with a line that is bad by its text, with a double definition, and with a use that is not judged
    ∷ record { gives = gives (text "aag 1 1 0 2 0\n2\n02\n"); says = at12 16 }
    ∷ record { gives = gives (text "aag 2 2 0 1 0\n2\n2\n"); says = at12 16 }
    ∷ record { gives = gives (text "aag 1 1 0 1 0\n2\n2\ni7 x\ni0"); says = at12 18 }
    ∷ record { gives = gives (text "aag 2 1 0 2 0\n2\n4\n"); says = at12 18 }
    -- 12 malformed: the header; a number; two spaces; a literal above 2M + 1; an odd definition; a double one; an undefined use, before a bad text; a symbol
    ∷ record { gives = gives (text "aig 1 1 0 1 0\n2\n2\n"); says = at12 0 }
    ∷ record { gives = gives (text "aag 1 1 1 0 0\n2\n2 2\n"); says = at12 0 }
    ∷ record { gives = gives (text "aag 1 1 0 1 0\n2\n02\n"); says = at12 16 }
    ∷ record { gives = gives (text "aag 2 1 1 0 0\n2\n4  2\n"); says = at12 16 }
    ∷ record { gives = gives (text "aag 1 1 0 1 0\n2\n4\n"); says = at12 16 }
    ∷ record { gives = gives (text "aag 1 1 0 1 0\n3\n2\n"); says = at12 14 }
    ∷ record { gives = gives (text "aag 3 2 0 0 1\n2\n2\n6 2 2\n"); says = at12 16 }
    ∷ record { gives = gives (text "aag 3 1 1 1 0\n2\n4 6\nx\n"); says = at12 16 }
    ∷ record { gives = gives (text "aag 1 1 0 0 0\n2\ni1 a\n"); says = at12 16 }
    -- 13 behind 12; 2 before 3; 3 for a constant operand, before 23; 23 with the smallest pin on any loop
    ∷ record { gives = gives (text "aag 2 1 1 0 0\n2\n4 2 1\n"); says = (13 ∷ 16 ∷ 0 ∷ []) ∷ [] }
    ∷ record { gives = gives (text "aag 2 1 1 0 0\n2\n4 2 4\n"); says = (13 ∷ 16 ∷ 0 ∷ []) ∷ [] }
    ∷ record { gives = gives (text "aag 2 1 1 0 0\n2\n4 2 2\n"); says = at12 16 }
    ∷ record { gives = gives (text "aag 2 1 1 1 0\n2\n4 2 1\n6\n"); says = at12 22 }
    ∷ record { gives = shown (read_aag (room_for 3) (text "aag 1 0 1 2 0\n2 3\n2\n3\n")); says = (2 ∷ 0 ∷ 0 ∷ []) ∷ [] }
    ∷ record { gives = shown (read_aag (room_for 3) (text "aag 2 1 0 0 1\n2\n4 2 1\n")); says = (2 ∷ 0 ∷ 0 ∷ []) ∷ [] }
    ∷ record { gives = gives (text "aag 2 1 0 0 1\n2\n4 2 1\n"); says = (3 ∷ 0 ∷ 0 ∷ []) ∷ [] }
    ∷ record { gives = gives (text "aag 2 0 0 0 2\n2 4 0\n4 2 2\n"); says = (3 ∷ 0 ∷ 0 ∷ []) ∷ [] }
    ∷ record { gives = gives (text "aag 4 1 0 1 3\n2\n4\n8 6 2\n6 2 8\n4 2 6\n"); says = (23 ∷ 0 ∷ 3 ∷ []) ∷ [] }
    ∷ record { gives = gives (text "aag 2 1 0 0 1\n2\n4 2 5\n"); says = (23 ∷ 0 ∷ 2 ∷ []) ∷ [] }
    -- 14: a given pin, an enable, an output before a flip-flop, one leaf driven twice, a gate driven, a memory, a constant operand, a loop, a literal above 2N + 1
    ∷ record {
      gives = bytes_of (write_aag (1 ∷ []) toggle) ++ bytes_of (write_aag [] (record { gates = leaves 2; records = 2 ∷ 0 ∷ 3 ∷ []; latches = 1 ∷ [] }))
          ++ bytes_of (write_aag [] (record { gates = leaves 2; records = 1 ∷ 2 ∷ 2 ∷ 1 ∷ 3 ∷ []; latches = 1 ∷ [] }))
          ++ bytes_of (write_aag [] (record { gates = leaves 2; records = 2 ∷ 1 ∷ 3 ∷ 2 ∷ 1 ∷ 3 ∷ []; latches = 1 ∷ 1 ∷ [] }))
          ++ bytes_of (write_aag [] (record { gates = leaves 3 ++ (2 ∷ 4 ∷ []); records = 2 ∷ 1 ∷ 3 ∷ []; latches = 3 ∷ [] }))
          ++ bytes_of (write_aag [] (record { gates = leaves 2; records = 3 ∷ replicate 91 2; latches = [] }))
          ++ bytes_of (write_aag [] (record { gates = leaves 2 ++ (2 ∷ 1 ∷ []); records = []; latches = [] }))
          ++ bytes_of (write_aag [] (record { gates = leaves 2 ++ (2 ∷ 4 ∷ []); records = []; latches = [] }))
          ++ bytes_of (write_aag [] (record { gates = leaves 2; records = 1 ∷ 4 ∷ []; latches = [] }));
      says = [];
    }
    -- calls: numbers past what is read stay, and a refusal changes nothing
    ∷ record { gives = called (importer (text "aag 1 0 1 2 0\n2 3\n2\n3\n") (sevens 5 8 2)); says = (0 ∷ 0 ∷ 0 ∷ 4 ∷ 7 ∷ 1 ∷ []) ∷ (leaves 2 ++ (7 ∷ [])) ∷ (2 ∷ 1 ∷ 3 ∷ 1 ∷ 2 ∷ 1 ∷ 3 ∷ 7 ∷ []) ∷ (1 ∷ 7 ∷ []) ∷ [] }
    ∷ record { gives = called (importer (text "aag 1 0 1 2 0\n2 3\n2\n3\n") (sevens 5 8 0)); says = (2 ∷ 0 ∷ 0 ∷ 0 ∷ 0 ∷ 0 ∷ []) ∷ lists (sevens 5 8 0) }
    ∷ record { gives = called (importer (text "aag 2 1 0 0 1\n2\n4 2 5\n") (sevens 6 0 0)); says = (23 ∷ 0 ∷ 2 ∷ 0 ∷ 0 ∷ 0 ∷ []) ∷ lists (sevens 6 0 0) }
    ∷ record { gives = sent (exporter [] toggle (replicate 24 7)); says = (0 ∷ 22 ∷ []) ∷ (text "aag 1 0 1 2 0\n2 3\n2\n3\n" ++ (7 ∷ 7 ∷ [])) ∷ [] }
    ∷ record { gives = sent (exporter [] toggle (replicate 21 7)) ++ sent (exporter (1 ∷ []) toggle (7 ∷ [])); says = (2 ∷ 0 ∷ []) ∷ replicate 21 7 ∷ (14 ∷ 0 ∷ []) ∷ (7 ∷ []) ∷ [] }
    ∷ []

-- the table is right
pub examples : T (right table)
unfolding everything all_of_aag
examples = tt
