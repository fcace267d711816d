-- The trial of one union: joined slots, and what the test decides. Assumes nothing.
use Prim.Native.Nat.{ℕ, ◌+◌, ◌-◌, ◌*◌, ◌<◌, ◌≤◌}
use mathlib.Core.Bool.{Bool, true, false, ◌&&◌}
use mathlib.Core.List.{List, ◌++◌}
use mathlib.Core.Logic.{inl, inr}
use mathlib.Core.Path.{◌≡◌, refl, sym, ap, ◌∙◌}
use native.Mathlib.Omega.{arith}
use lib.Dec.{eqb, leb}
use lib.ListN.{length, get_or, set, take, drop, length-set, length-drop, length-replicate}
use lib.Seq.{length-take-le, get_or-set_other}
use borrow.Author.Tests.{leb-true, le-leb}
use Rattle.rules.specs.Cells.{is_height, rooms, empty}
use Rattle.rules.specs.Graph.{graph_of}
use Rattle.rules.specs.Records.{groups_of}
use Rattle.rules.specs.Traversal.{WordRule}
use Rattle.rules.specs.Build as rules
use Rattle.rules.specs.Merge.{Common, built_of, named, accepted}
use Rattle.rules.proofs.Lists.Members.{and_true, true_false}
use Rattle.rules.proofs.Stage.Refusals.{refused_some}
use Rattle.placer.specs.declared.Built.{Built}
use Rattle.placer.specs.declared.Refused.{Refused}
use Rattle.std.specs.Prelude.{Result, Ok, Option, Some, None}
use Rattle.placer.specs.Answers.{told}
use Rattle.placer.specs.Build.{Blank}
use Rattle.merge_unions.specs.Unions.{UnionBuilt, Places}
use Rattle.merge_unions.proofs.Laws.Parts.{idle_part}
use Rattle.merge_slots.specs.Moves.{TakeAt, Taken}
use Rattle.merge_slots.specs.Stores.{UnionAt, Joined}
use Rattle.merge_layout.specs.Layout.{owned}
use Rattle.merge_trials.specs.Ranks.{groups_at, Stands, Stays}
use Rattle.merge_trials.specs.Trials.{BuildAt, Accepts, JoinAt, Joins, TryAt, Tried}
use Rattle.merge_layout.proofs.Laws.Owned.{lent, own_length, back_owned, set_owned, owned_same, part_above}
use Rattle.merge_trials.proofs.Laws.Standing.{stands_stays, stays_leaves, leaves_owned, part_stays, stays_more}
use Rattle.placer.proofs.Laws.Filled.{cells_few}
use Rattle.merge_trials.proofs.Laws.Answers.{accepts_is, words_few}

-- ---- joined slots

module _ {m table base i j stages words cells : ℕ} {xs ls w : List ℕ} (A : JoinAt m table base i j stages words cells xs ls w) where
  abbrev n : ℕ
  n = length ls

  abbrev front : ℕ
  front = 16 * m + 512

  -- slot i may take slot j's groups
  pub join_take : TakeAt xs ls (take (table - front) (drop front w)) i j
  join_take =
      let l : length (take (table - front) (drop front w)) ≡ table - front = length-take-le (table - front) (drop front w) (rw length-drop (omega (arith, A.behind, A.room))) in
      record { order = A.order; inside = A.second; all = A.all; few = omega (arith, A.short); room = omega (arith, A.spare) }

  module _ (zs : List ℕ) (lz : length zs ≡ length (take (table - front) (drop front w))) where
    abbrev w₁ : List ℕ
    w₁ = take front w ++ (zs ++ drop (table - front) (drop front w))

    stays : Stays m table base w w₁
    stays = part_stays m table base front table w A.idle (omega (arith, A.spare)) (omega (arith, A.behind, A.room)) (omega arith) zs lz (inl (omega arith))

    -- the own numbers lie in the area
    pub join_room : base + 8 * n ≤ length w₁
    join_room = omega (arith, stays.len, A.room)

    same : owned base n w₁ ≡ owned base n w
    same = owned_same base n w w₁ A.room stays.len (λ x h. part_above front table w (omega (arith, A.spare)) (omega (arith, A.behind, A.room)) zs lz x (omega (arith, A.behind)))

    lent_now : take (base + 8 * n - base) (drop base w₁) ≡ owned base n w
    lent_now = lent base n w₁ join_room ∙ same

    -- with groups taken and numbers stored slot i is the union
    pub joins : {xs' ls' ys : List ℕ} → Taken i j xs ls xs' ls' → Joined n i j stages words cells (take (base + 8 * n - base) (drop base w₁)) ys → Joins m table base i j stages words cells xs ls w xs' ls' (take base w₁ ++ (ys ++ drop (base + 8 * n - base) (drop base w₁)))
    joins {xs'} {ls'} {ys} T U = record {
      taken = T;
      stays = stays_more stays (part_stays m table base base (base + 8 * n) w₁ stays.idle (omega arith) join_room (omega (arith, A.spare, A.behind)) ys U.long (inr (omega arith)));
      joined = rw (back_owned base n w₁ join_room ys U.long, ← lent_now) U;
    }

-- ---- the trial

module _ {K m table base i j cap : ℕ} {gates given records xs ls pl ws cs w : List ℕ} (A : TryAt K m table base i j cap gates given records xs ls pl ws cs w) where
  -- the union of the two slots may be built
  pub try_build : BuildAt K m table i j gates given records xs ls pl ws cs w
  try_build = record { base = base; at = A.at; blank = A.blank; order = A.order; second = A.second }

  abbrev both : List ℕ
  both = groups_at ls xs i ++ groups_at ls xs j

  module _ {rule : WordRule} {a : Result Built Refused} {pl₁ ws₁ cs₁ w₁ : List ℕ} (B : UnionBuilt rule K m table gates given records (groups_at ls xs i) (groups_at ls xs j) pl ws cs w a pl₁ ws₁ cs₁ w₁) where
    now : Stands K m table base gates given records xs ls w₁
    now = stands_stays A.at (stays_leaves A.at B.leaves)

    own_same : owned base (length ls) w₁ ≡ owned base (length ls) w
    own_same = leaves_owned A.at B.leaves

    plan_same : length pl₁ ≡ length pl
    plan_same = ap length B.plan ∙ length-replicate (length pl) empty

    blank : Blank K pl₁ ws₁ cs₁
    blank =
        let p = plan_same in
        let q : length ws₁ ≡ length ws = ap length B.words ∙ length-replicate (length ws) empty in
        let r : length cs₁ ≡ length cs = ap length B.counts ∙ length-replicate (length cs) 0 in
        record {
          plan_size = rw p A.blank.plan_size;
          words_size = q ∙ A.blank.words_size;
          counts_size = r ∙ rw p A.blank.counts_size;
          plan = rw p B.plan;
          words = rw q B.words;
          counts = rw r B.counts;
        }

    -- a merge of these groups
    abbrev J₀ : Common
    J₀ = record { rule = rule; K = K; g = graph_of gates; given = given; groups = groups_of records; rooms = rooms K (length pl); cap = cap; ranks = 0 }

    P₀ : Places rule K (length pl) gates given records J₀
    P₀ = record { shares = record { graph = refl; given_same = refl; groups_same = refl }; rule_same = refl; height = refl; rooms_same = refl }

    high : K ≤ 13
    unfolding is_height
    high = leb-true K 13 (and_true (leb 6 K) (leb K 13) A.at.passed.height).1

    words_fit : (told a).words ≤ 256
    unfolding built_of
    words_fit = let e : (told a).words ≡ (rules.reply (built_of J₀ both)).words = ap (λ (r : rules.Reply). r.words) (B.reply J₀ P₀) in omega (arith, words_few rule K high (graph_of gates) given (named J₀ both) (rooms K (length pl)))

    cells_fit : (told a).stages ≤ cap → (told a).cells ≤ cap * 16384
    unfolding built_of
    cells_fit h =
        let x : (told a).stages ≡ (rules.reply (built_of J₀ both)).stages = ap (λ (r : rules.Reply). r.stages) (B.reply J₀ P₀) in
        let e : (told a).cells ≡ (rules.reply (built_of J₀ both)).cells = ap (λ (r : rules.Reply). r.cells) (B.reply J₀ P₀) in
        omega (arith, cells_few rule K high (graph_of gates) given (named J₀ both) (rooms K (length pl)) cap (omega arith))

    -- the test says what the rules say
    module _ {t : Bool} (et : t ≡ (eqb (told a).number 0 && leb (told a).stages cap)) where
      decides : (J : Common) → Places rule K (length pl) gates given records J → J.cap ≡ cap → t ≡ accepted J.cap (built_of J both)
      unfolding built_of named
      decides J S c =
          let e = B.reply J S in
          let x : (told a).number ≡ (rules.reply (built_of J both)).number = ap (λ (r : rules.Reply). r.number) e in
          let y : (told a).stages ≡ (rules.reply (built_of J both)).stages = ap (λ (r : rules.Reply). r.stages) e in
          et ∙ rw (x, y, c) (accepts_is (built_of J both) (refused_some J.rule J.K J.g J.given (named J both) J.rooms) cap)

      module _ (yes : t ≡ true) where
        -- an accepted union may be joined
        joinable : JoinAt m table base i j (told a).stages (told a).words (told a).cells xs ls w₁
        joinable =
            let h = leb-true (told a).stages cap (and_true (eqb (told a).number 0) (leb (told a).stages cap) (sym et ∙ yes)).1 in
            record {
              idle = now.idle;
              all = now.all;
              short = now.short;
              few = now.few;
              spare = now.spare;
              behind = omega (arith, now.behind);
              room = now.room;
              order = A.order;
              second = A.second;
              stages_fit = omega (arith, A.cap_fits);
              words_fit = omega (arith, words_fit);
              cells_fit = omega (arith, cells_fit h, A.cap_fits);
            }

        -- with the slots joined the trial is won
        won : {xs' ls' w₂ : List ℕ} → Joins m table base i j (told a).stages (told a).words (told a).cells xs ls w₁ xs' ls' w₂ → Tried rule K m table base i j cap gates given records xs ls pl w true xs' ls' pl₁ ws₁ cs₁ w₂
        won {xs'} {ls'} {w₂} U =
            let T = U.taken in
            let S = stands_stays now U.stays in
            let c : length ls' ≡ length ls = ap length T.lengths ∙ length-set (set ls i (get_or ls i 0 + get_or ls j 0)) j 0 ∙ length-set ls i (get_or ls i 0 + get_or ls j 0) in
            record {
              stands = record {
                sized = S.sized;
                passed = S.passed;
                pins = S.pins;
                idle = S.idle;
                located = S.located;
                inside = T.named _ S.inside;
                all = T.all;
                short = omega (arith, T.same, S.short);
                few = omega (arith, S.few);
                spare = omega (arith, T.same, S.spare);
                behind = S.behind;
                room = omega (arith, S.room);
              };
              blank = blank;
              plan = plan_same;
              count = c;
              is = λ J P e. sym yes ∙ decides J P e;
              no = λ z. true_false refl z;
              yes = λ z J P.
                  let e = B.reply J P in
                  let x : (told a).stages ≡ (rules.reply (built_of J both)).stages = ap (λ (r : rules.Reply). r.stages) e in
                  let y : (told a).words ≡ (rules.reply (built_of J both)).words = ap (λ (r : rules.Reply). r.words) e in
                  let v : (told a).cells ≡ (rules.reply (built_of J both)).cells = ap (λ (r : rules.Reply). r.cells) e in
                  record { taken = T; joined = rw (← x, ← y, ← v, ← own_same) U.joined };
            }

      -- slot j's bar lies in the area
      place : base + (4 * length ls + j) < length w₁
      place = omega (arith, now.room, A.second)

      -- a union that is not accepted bars slot j
      lost : t ≡ false → Tried rule K m table base i j cap gates given records xs ls pl w false xs ls pl₁ ws₁ cs₁ (set w₁ (base + (4 * length ls + j)) 1)
      lost failed =
          let at : ℕ = base + (4 * length ls + j) in
          let l : length (set w₁ at 1) ≡ length w₁ = length-set w₁ at 1 in
          let U : Stays m table base w₁ (set w₁ at 1) = record {
            len = l;
            idle = idle_part w₁ (set w₁ at 1) (λ x h. get_or-set_other w₁ at x 1 0 (λ z. omega (arith, now.spare, now.behind))) (record { small = now.idle.area.small; room = omega (arith, now.idle.area.room) }) now.idle;
            kept = λ x h b. get_or-set_other w₁ at x 1 0 (λ z. omega arith);
          } in
          record {
            stands = stands_stays now U;
            blank = blank;
            plan = plan_same;
            count = refl;
            is = λ J P e. sym failed ∙ decides J P e;
            no = λ z. record { indices = refl; lengths = refl; bar = set_owned base (length ls) w₁ now.room (4 * length ls + j) 1 (omega (arith, A.second)) ∙ ap (λ (o : List ℕ). set o (4 * length ls + j) 1) own_same };
            yes = λ z. true_false z refl;
          }

    module _ {r : Option Built} (T : Accepts cap a r) where
      module _ {b : Built} (e : r ≡ Some b) where
        told_yes : true ≡ (eqb (told a).number 0 && leb (told a).stages cap)
        unfolding told
        told_yes = let x = T.some b e in rw (x.0, le-leb b.stages cap x.1) refl

        -- an accepted union may be joined
        pub try_join : JoinAt m table base i j b.stages b.words b.cells xs ls w₁
        unfolding told
        try_join = rw (T.some b e).0 at (joinable told_yes refl)

        -- with the slots joined the trial is won
        pub tried_yes : {xs' ls' w₂ : List ℕ} → Joins m table base i j b.stages b.words b.cells xs ls w₁ xs' ls' w₂ → Tried rule K m table base i j cap gates given records xs ls pl w true xs' ls' pl₁ ws₁ cs₁ w₂
        unfolding told
        tried_yes U = won told_yes refl (rw (T.some b e).0 U)

      module _ (e : r ≡ None) where
        -- slot j's bar lies in the area
        pub try_place : base + (4 * length ls + j) < length w₁
        try_place = place {t = false} (sym (T.none e))

        -- a union that is not accepted bars slot j
        pub tried_no : Tried rule K m table base i j cap gates given records xs ls pl w false xs ls pl₁ ws₁ cs₁ (set w₁ (base + (4 * length ls + j)) 1)
        tried_no = lost (sym (T.none e)) refl
