-- The partitions built, merged and laid out: from what the calls leave to the definition's answer. Assumes nothing.
use Prim.Native.Nat.{ℕ, ◌+◌, ◌*◌, ◌/◌, ◌<◌, ◌≤◌, max}
use mathlib.Core.List.{List}
use mathlib.Core.Path.{◌≡◌, refl, sym, ap, ◌∙◌}
use native.Mathlib.Omega.{arith}
use lib.Dec.{ltb}
use lib.ListN.{length, get_or, drop}
use lib.Seq.{get_or-take, get_or-drop}
use borrow.Author.Tests.{ltb-true}
use Rattle.rules.specs.Cells.{rooms}
use Rattle.rules.specs.Graph.{graph_of}
use Rattle.rules.specs.Records.{groups_of}
use Rattle.rules.specs.Traversal.{WordRule}
use Rattle.rules.specs.Merge.{Common, Part, Result, MergeAnswer, turned, merged, merge, merging, original, most_stages, occupied, begun, split_by, add_part, merge_answer_of, merge_reply, refuse_merge, group_list_after}
use Rattle.rules.proofs.Lists.Members.{every_in}
use Rattle.merge_unions.specs.Unions.{Places}
use Rattle.merge_slots.specs.Slots.{gathered, listed, own, full}
use Rattle.merge_slots.specs.Moves.{Begins}
use Rattle.merge_layout.specs.declared.Totals.{Totals}
use Rattle.merge_layout.specs.Layout.{owned, LayAt, sorted, Laid}
use Rattle.std.specs.Prelude as std
use Rattle.refusals.specs.Numbers.{number_of, pin_of}
use Rattle.merge_originals.specs.declared.RefusedPart.{RefusedPart}
use Rattle.merge_originals.specs.Originals.{OriginalsAt, all_held, parts_for, Given}
use Rattle.merge_originals.proofs.Laws.Parts.{all_occupied, all_count}
use Rattle.merge_trials.specs.Ranks.{Stands}
use Rattle.merge_trials.proofs.Laws.Standing.{stands_stays}
use Rattle.merge_checks.specs.Values.{group_list}
use Rattle.merge.specs.declared.Merged.{Merged}
use Rattle.merge.specs.declared.Refused.{Refused}
use Rattle.merge_rounds.specs.Rounds.{parts_in, Tries, SlotsAt, Slotted}
use Rattle.merge.specs.Merge.{told, JoinAt, Joined}

module _ {K m table base extra : ℕ} {gates given records xs ls st pl ws cs w : List ℕ} (A : JoinAt K m table base extra gates given records xs ls st pl ws cs w) where
  -- the partitions may be built as they are given
  pub originals_at : OriginalsAt K m table base gates given records xs ls pl ws cs w
  originals_at =
      let S : Stands K m table base gates given records xs ls w = A.at in
      record {
        ground = record {
          sized = S.sized;
          passed = S.passed;
          pins = S.pins;
          idle = S.idle;
          located = S.located;
          front = omega (arith, S.spare);
          behind = S.behind;
          few = S.few;
          room = S.room;
        };
        blank = A.blank;
        all = S.all;
        groups = record {
          named = λ i e. ltb-true i (length (groups_of records)) (every_in (λ j. ltb j (length (groups_of records))) i xs S.inside e);
          room = omega (arith, S.spare);
          few = S.short;
        };
      }

  module _ {rule : WordRule} {r : std.Result ℕ RefusedPart} {pl₁ ws₁ cs₁ w₁ : List ℕ} (G : Given rule K m table base gates given records xs ls pl ws cs w r pl₁ ws₁ cs₁ w₁) where
    abbrev common : ℕ → ℕ → Common
    common cap ranks = record { rule = rule; K = K; g = graph_of gates; given = given; groups = groups_of records; rooms = rooms K (length pl); cap = cap; ranks = ranks }

    places : (cap ranks : ℕ) → Places rule K (length pl) gates given records (common cap ranks)
    places cap ranks = record { shares = record { graph = refl; given_same = refl; groups_same = refl }; rule_same = refl; height = refl; rooms_same = refl }

    abbrev answer : MergeAnswer
    answer = merge_answer_of rule K gates given records (group_list xs ls st) extra (length pl)

    stands : Stands K m table base gates given records xs ls w₁
    stands = stands_stays A.at (record { len = G.changes.len; idle = G.changes.idle; kept = G.changes.starts })

    abbrev parts : List Part
    parts = all_held (length ls) ls xs (owned base (length ls) w₁)

    originals_are : original (common 0 0) 0 (split_by ls xs) ≡ parts_for r parts
    originals_are = G.answer (common 0 0) (places 0 0)

    -- ---- one is refused

    answer_refused : {x : RefusedPart} → r ≡ std.Err x → answer ≡ turned x.part (number_of x.refused.why) x.refused.stage
    unfolding merge_answer_of merge group_list parts_for
    answer_refused e = rw (originals_are ∙ ap (λ (x : std.Result ℕ RefusedPart). parts_for x parts) e, merge) refl

    -- where a partition is refused the merge is, and the group list stays
    pub join_refused : {x : RefusedPart} → r ≡ std.Err x → Joined rule K extra gates given records xs ls st pl (std.Err (record { why = x.refused.why; stage = x.refused.stage; part = x.part })) xs ls st
    unfolding told merge_reply refuse_merge group_list_after
    join_refused {x} e =
        let p : pin_of x.refused.why ≡ 0 = rw e at (G.plain (common 0 0) (places 0 0)) in
        record { reply = rw (p, answer_refused e) refl; groups = rw (answer_refused e) refl }

    -- ---- all are built

    module _ {most : ℕ} (e : r ≡ std.Ok most) where
      answer_built : answer ≡ merged (merging (common (most_stages parts 0 + extra) (begun (length parts) (max (length parts / 8) 20) 0 4)) (length parts) (occupied parts) 0)
      unfolding merge_answer_of merge group_list parts_for
      answer_built = rw (originals_are ∙ ap (λ (x : std.Result ℕ RefusedPart). parts_for x parts) e, merge) refl

      answer_slots : (ranks : ℕ) → ranks ≡ begun (length ls) (max (length ls / 8) 20) 0 4
          → answer ≡ merged (merging (common (most + extra) ranks) (length ls) (listed (parts_in base xs ls w₁) (full ls) (length ls) 0) 0)
      answer_slots ranks b =
          let n : length parts ≡ length ls = all_count (length ls) ls xs (owned base (length ls) w₁) A.at.all in
          answer_built ∙ rw ((rw e at G.most), all_occupied (length ls) ls xs (owned base (length ls) w₁) A.at.all, n, ← b) refl

      -- the cap is a small number
      pub cap_small : most + extra ≤ 65791
      cap_small = omega (arith, rw e at G.few, A.at.pins, A.at.passed.few, A.few)

      module _ {ranks : ℕ} (B : Begins (length ls) ranks) where
        -- where all partitions are built the slots may be merged
        pub slots_at : SlotsAt K m table base (most + extra) ranks gates given records xs ls pl₁ ws₁ cs₁ w₁
        slots_at = record { at = stands; blank = rw (G.plan, G.words, G.counts) A.blank; cap_fits = omega (arith, cap_small); few = B.few }

        module _ {trials : ℕ} {xs₂ ls₂ pl₂ ws₂ cs₂ w₂ : List ℕ} (T : Slotted rule K m table base (most + extra) ranks gates given records xs ls pl₁ w₁ trials xs₂ ls₂ pl₂ ws₂ cs₂ w₂) where
          abbrev result : List Part → Result
          result ps = record { parts = ps; trials = trials }

          tries : Tries rule K (length pl₁) (most + extra) gates given records (common (most + extra) ranks)
          tries = record { places = rw G.plan (places (most + extra) ranks); cap_same = refl }

          merges : answer ≡ merged (result (sorted base xs₂ ls₂ w₂))
          unfolding sorted
          merges = answer_slots ranks B.is ∙ ap merged (T.is (common (most + extra) ranks) tries refl ∙ ap (λ (k : ℕ). result (gathered add_part (parts_in base xs₂ ls₂ w₂) (full ls₂) k 0)) (sym T.keeps.count))

          module _ (fit : (i : ℕ) → get_or w₂ i 0 ≤ 4294967295) where
            own_small : (s : ℕ) → s < length ls₂ → own 1 (length ls₂) (owned base (length ls₂) w₂) s ≤ 4294967295
            unfolding own owned
            own_small s h = rw (get_or-take (8 * length ls₂) (drop base w₂) (1 * length ls₂ + s) 0 (omega arith), get_or-drop base w₂ (1 * length ls₂ + s) 0) (fit (base + (1 * length ls₂ + s)))

            -- merged slots may be laid out
            pub lay_at : LayAt (16 * m + 512) base xs₂ ls₂ st w₂
            lay_at =
                let S : Stands K m table base gates given records xs₂ ls₂ w₂ = T.keeps.stands in
                record {
                  few = S.few;
                  same = A.same ∙ sym T.keeps.count;
                  all = S.all;
                  short = omega (arith, S.short);
                  before = omega (arith, S.spare, S.behind);
                  room = S.room;
                  small = own_small;
                }

          -- the merged slots laid out are the definition's answer
          pub join_merged : {spare : ℕ} {xs₃ ls₃ st₃ w₃ : List ℕ} {t : Totals} → Laid spare base xs₂ ls₂ w₂ xs₃ ls₃ st₃ w₃ t
              → Joined rule K extra gates given records xs ls st pl (std.Ok (record { partitions = t.partitions; stages = t.stages; words = t.words; cells = t.cells; trials = trials })) xs₃ ls₃ st₃
          unfolding told merge_reply group_list group_list_after
          join_merged L = record { reply = rw (merges, L.partitions, L.all_stages, L.all_words, L.all_cells) refl; groups = rw (merges, L.indices, L.lengths, L.stages, T.keeps.count) refl }
