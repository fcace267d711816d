-- The areas emptied, the table of record starts, the merge, and the areas emptied again. Assumes nothing.
use Prim.Native.Nat.{ℕ, ◌+◌, ◌*◌, ◌<◌, ◌≤◌}
use mathlib.Core.Bool.{true, ◌&&◌}
use mathlib.Core.List.{List}
use mathlib.Core.Path.{◌≡◌, sym, ap, ◌∙◌}
use native.Mathlib.Omega.{arith}
use lib.Dec.{leb, ltb}
use lib.ListN.{length, get_or, replicate, length-replicate, get_or-replicate}
use borrow.Author.Tests.{leb-true}
use Rattle.rules.specs.Lists.{every}
use Rattle.rules.specs.Cells.{empty}
use Rattle.rules.specs.Graph.{pin_count}
use Rattle.rules.specs.Records.{groups_of}
use Rattle.rules.specs.Checks.{work_size}
use Rattle.rules.specs.Traversal.{WordRule}
use Rattle.rules.specs.Merge.{merge_work_size, mergeable}
use Rattle.rules.proofs.Lists.Members.{and_true}
use Rattle.placer_start.specs.Opening.{Idle}
use Rattle.placer_start.proofs.Laws.Opening.{zeros_idle}
use Rattle.placer.specs.Build.{Emptied}
use Rattle.merge_unions.specs.Table.{LocateAt, Locates}
use Rattle.merge_checks.specs.Values.{group_list}
use Rattle.merge.specs.declared.Merged.{Merged}
use Rattle.merge.specs.declared.Refused.{Refused}
use Rattle.std.specs.Prelude as std
use Rattle.merge.specs.Merge.{JoinAt, Joined, PlaceAt, Placed}

-- what check 10 lets pass
pub record Able (records xs ls : List ℕ) (extra : ℕ) : Type 0 where
  pub few : length ls ≤ 1024
  pub inside : every (λ i. ltb i (length (groups_of records))) xs ≡ true
  pub extra_few : extra ≤ 255
  pub short : length xs ≤ 4294967295

-- what check 10 establishes
pub able : (records xs ls st : List ℕ) (extra : ℕ) → mergeable records (group_list xs ls st) extra ≡ true → Able records xs ls extra
unfolding mergeable group_list
able records xs ls st extra e =
    let d = and_true (leb 1 (length ls) && leb (length ls) 1024 && every (λ i. ltb i (length (groups_of records))) xs && leb extra 255) (leb (length xs) 4294967295) e in
    let c = and_true (leb 1 (length ls) && leb (length ls) 1024 && every (λ i. ltb i (length (groups_of records))) xs) (leb extra 255) d.0 in
    let b = and_true (leb 1 (length ls) && leb (length ls) 1024) (every (λ i. ltb i (length (groups_of records))) xs) c.0 in
    let a = and_true (leb 1 (length ls)) (leb (length ls) 1024) b.0 in
    record { few = leb-true _ _ a.1; inside = b.1; extra_few = leb-true _ _ c.1; short = leb-true _ _ d.1 }

module _ {K extra : ℕ} {gates given records xs ls st pl ws cs w : List ℕ} (P : PlaceAt K extra gates given records xs ls st pl ws cs w) where
  can : Able records xs ls extra
  can = able records xs ls st extra P.may

  -- the indices can be counted
  pub indices_few : length xs ≤ 4294967295
  indices_few = can.short

  size : length w ≡ 16 * pin_count gates + 8 * length records + 512 + 8 * length ls + 8 * length xs
  unfolding merge_work_size work_size group_list
  size = P.work_size

  module _ {m : ℕ} (pins : m ≡ pin_count gates) where
    -- there are at most 65,536 pins
    pub pins_few : m ≤ 65536
    pins_few = omega (arith, P.passed.few)

    abbrev table : ℕ
    table = 16 * m + 512 + 8 * length xs

    abbrev base : ℕ
    base = table + 8 * length records

    module _ {pl₁ ws₁ cs₁ w₁ : List ℕ} (E : Emptied pl ws cs w pl₁ ws₁ cs₁ w₁) where
      plan_same : length pl₁ ≡ length pl
      plan_same = ap length E.plan ∙ length-replicate (length pl) empty

      words_same : length ws₁ ≡ length ws
      words_same = ap length E.words ∙ length-replicate (length ws) empty

      counts_same : length cs₁ ≡ length cs
      counts_same = ap length E.counts ∙ length-replicate (length cs) 0

      work_same : length w₁ ≡ length w
      work_same = ap length E.work ∙ length-replicate (length w) 0

      -- in emptied areas the table of record starts may be made
      pub locate_at : LocateAt table records w₁
      locate_at = record { room = omega (arith, work_same, size); short = P.passed.short; readable = P.passed.readable }

      module _ {w₂ : List ℕ} {r : ℕ} (L : Locates table records w₁ w₂ r) where
        zeros : (j : ℕ) → j < 16 * m + 512 → get_or w₂ j 0 ≡ 0
        zeros j h = L.below j (omega arith) ∙ ap (λ (v : List ℕ). get_or v j 0) E.work ∙ get_or-replicate (length w) j 0 0 (omega (arith, size))

        idle : Idle m w₂
        idle = zeros_idle (record { small = pins_few; room = omega (arith, L.len, work_same, size) }) zeros

        -- with the table made the partitions may be merged
        pub join_at : JoinAt K m table base extra gates given records xs ls st pl₁ ws₁ cs₁ w₂
        join_at = record {
          at = record {
            sized = P.sized;
            passed = P.passed;
            pins = pins;
            idle = idle;
            located = L.located;
            inside = can.inside;
            all = P.all;
            short = can.short;
            few = can.few;
            spare = omega arith;
            behind = omega (arith, L.count, L.few);
            room = omega (arith, L.len, work_same, size);
          };
          blank = record {
            plan_size = rw plan_same P.plan_size;
            words_size = words_same ∙ P.words_size;
            counts_size = counts_same ∙ rw plan_same P.counts_size;
            plan = rw plan_same E.plan;
            words = rw words_same E.words;
            counts = rw counts_same E.counts;
          };
          same = sym P.same;
          few = can.extra_few;
        }

        -- merged and emptied again, the areas are as the rules leave them
        pub placed : {rule : WordRule} {a : std.Result Merged Refused} {xs₃ ls₃ st₃ pl₃ ws₃ cs₃ w₃ pl₄ ws₄ cs₄ w₄ : List ℕ} → Joined rule K extra gates given records xs ls st pl₁ a xs₃ ls₃ st₃
            → length pl₃ ≡ length pl₁ → length ws₃ ≡ length ws₁ → length cs₃ ≡ length cs₁ → length w₃ ≡ length w₂
            → Emptied pl₃ ws₃ cs₃ w₃ pl₄ ws₄ cs₄ w₄ → Placed rule K extra gates given records xs ls st pl ws cs w a xs₃ ls₃ st₃ pl₄ ws₄ cs₄ w₄
        placed J a b c d F = record {
          joined = record { reply = rw plan_same at J.reply; groups = rw plan_same at J.groups };
          plan = F.plan ∙ ap (λ (n : ℕ). replicate n empty) (a ∙ plan_same);
          words = F.words ∙ ap (λ (n : ℕ). replicate n empty) (b ∙ words_same);
          counts = F.counts ∙ ap (λ (n : ℕ). replicate n 0) (c ∙ counts_same);
          work = F.work ∙ ap (λ (n : ℕ). replicate n 0) (d ∙ L.len ∙ work_same);
        }
