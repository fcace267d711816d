-- One slot: its build, its size and its own numbers. Assumes nothing.
use Prim.Native.Nat.{ℕ, ◌+◌, ◌-◌, ◌*◌, ◌<◌, ◌≤◌}
use mathlib.Core.Bool.{true}
use mathlib.Core.List.{List, [], ◌∷◌, ◌++◌, append-nil}
use mathlib.Core.Logic.{◌≢◌}
use mathlib.Core.Path.{◌≡◌, refl, sym, ap, ◌∙◌}
use native.Mathlib.Omega.{arith}
use lib.ListN.{length, take, drop}
use Rattle.cells.proofs.Heights.{tall_height}
use Rattle.rules.specs.Cells.{is_height, empty, word_limit, rooms}
use Rattle.rules.specs.Graph.{graph_of}
use Rattle.rules.specs.Records.{Group, groups_of, Ends, first, later}
use Rattle.rules.specs.Traversal.{WordRule}
use Rattle.rules.specs.Build as rules
use Rattle.rules.specs.Merge.{Common, named, built_of}
use Rattle.rules.specs.Lists.{In}
use Rattle.rules.proofs.Lists.Members.{in_nil, in_here, in_there}
use Rattle.rules.proofs.Demand.{build_few}
use Rattle.rules.proofs.Build.Bounds.{Few}
use Rattle.placer.specs.declared.Built as placer
use Rattle.placer.specs.declared.Refused.{Refused}
use Rattle.std.specs.Prelude.{Result, Ok, Err}
use Rattle.placer.specs.Answers.{told}
use Rattle.placer.proofs.Laws.Course.{limit_small}
use Rattle.placer.proofs.Laws.Filled.{cells_few}
use Rattle.merge_unions.specs.Names.{picked}
use Rattle.merge_unions.specs.Unions.{UnionAt, Leaves, SizeAt, Measured, TryAt, Places, UnionBuilt}
use Rattle.merge_unions.proofs.Laws.Names.{group_ends}
use Rattle.merge_unions.proofs.Laws.Opening.{named_picked}
use Rattle.merge_unions.proofs.Laws.Parts.{idle_part}
use Rattle.merge_unions.proofs.Laws.Table.{located_same}
use Rattle.merge_slots.specs.Stores.{BuiltAt, Stored}
use Rattle.merge_layout.specs.Layout.{owned}
use Rattle.merge_layout.proofs.Laws.Owned.{lent, own_length, owned_same, back_owned, part_length, part_below, part_above}
use Rattle.merge_originals.specs.Originals.{Ground, Grouped, Changes, NoteAt, Noted, MeasureAt, Measures}

-- ---- what calls leave

-- nothing changed, so nothing but own numbers did
pub changes_none : {m table base n : ℕ} {K : ℕ} {gates given records w : List ℕ} → Ground K m table base n gates given records w → Changes m table base n w w
changes_none G = record { len = refl; idle = G.idle; starts = λ j a b. refl; past = λ j h. refl }

-- two changes of own numbers are one
pub changes_then : {m table base n : ℕ} {w w₁ w₂ : List ℕ} → Changes m table base n w w₁ → Changes m table base n w₁ w₂ → Changes m table base n w w₂
changes_then C D = record { len = D.len ∙ C.len; idle = D.idle; starts = λ j a b. D.starts j a b ∙ C.starts j a b; past = λ j h. D.past j h ∙ C.past j h }

module _ {K m table base n : ℕ} {gates given records w : List ℕ} (G : Ground K m table base n gates given records w) where
  -- what a merge finds it finds again after such a change
  pub ground_changes : {w₁ : List ℕ} → Changes m table base n w w₁ → Ground K m table base n gates given records w₁
  ground_changes C = record {
    sized = G.sized;
    passed = G.passed;
    pins = G.pins;
    idle = C.idle;
    located = located_same G.located C.len (λ i h. C.starts (table + i) (omega arith) (omega (arith, G.behind)));
    front = G.front;
    behind = G.behind;
    few = G.few;
    room = omega (arith, G.room, C.len);
  }

  -- what a union's call leaves is such a change
  pub leaves_changes : {w₁ : List ℕ} → Leaves m table w w₁ → Changes m table base n w w₁
  leaves_changes L = record { len = L.len; idle = L.idle; starts = λ j a b. L.past j a; past = λ j h. L.past j (omega (arith, G.behind)) }

  -- a union's call leaves the own numbers
  pub leaves_own : {w₁ : List ℕ} → Leaves m table w w₁ → owned base n w₁ ≡ owned base n w
  leaves_own {w₁} L = owned_same base n w w₁ G.room L.len (λ j h. L.past j (omega (arith, G.behind)))

  -- one partition is a union with none
  pub union_at : {part : List ℕ} → Grouped m table records part → UnionAt K m table gates given records part [] w
  union_at P = record {
    sized = G.sized;
    passed = G.passed;
    pins = G.pins;
    idle = G.idle;
    located = G.located;
    first_inside = P.named;
    second_inside = λ i e. in_nil i e;
    room = omega (arith, P.room);
    few = omega (arith, P.few);
  }

-- ---- the size and the own numbers

module _ {m table base n s stages words cells : ℕ} {gates given records part w : List ℕ} (A : NoteAt m table base n s stages words cells gates given records part w) where
  -- the partition's traversal may be measured
  pub note_size : SizeAt m table gates given records part [] w
  note_size = record { K = A.K; at = union_at A.ground A.groups }

  module _ {size : ℕ} {w₁ : List ℕ} (M : Measured m table gates given records part [] w size w₁) where
    -- the own numbers lie in the area
    pub note_end : base + 8 * n ≤ length w₁
    note_end = omega (arith, A.ground.room, M.leaves.len)

    -- the slot's may be stored
    pub note_store : BuiltAt n s size stages words cells (take (base + 8 * n - base) (drop base w₁))
    note_store = rw (lent base n w₁ note_end) (record {
      area = record { few = A.ground.few; room = own_length base n w₁ note_end };
      inside = A.inside;
      size_fits = omega (arith, M.few, A.ground.idle.area.small);
      stages_fit = A.stages_fit;
      words_fit = A.words_fit;
      cells_fit = A.cells_fit;
    })

    -- the slot's size, stages, words and filled cells are stored
    pub noted : {ys : List ℕ} → Stored n s size stages words cells (take (base + 8 * n - base) (drop base w₁)) ys → Noted m table base n s stages words cells gates given records part w (take base w₁ ++ (ys ++ drop (base + 8 * n - base) (drop base w₁)))
    noted {ys} S₀ =
        let S : Stored n s size stages words cells (owned base n w₁) ys = rw (lent base n w₁ note_end) at S₀ in
        let l : length ys ≡ length (take (base + 8 * n - base) (drop base w₁)) = S₀.long in
        record {
          changes = record {
            len = part_length base (base + 8 * n) w₁ (omega arith) note_end ys l ∙ M.leaves.len;
            idle = idle_part w₁ _ (λ j h. part_below base (base + 8 * n) w₁ (omega arith) note_end ys l j (omega (arith, A.ground.front, A.ground.behind)))
                (record { small = A.ground.idle.area.small; room = omega (arith, part_length base (base + 8 * n) w₁ (omega arith) note_end ys l, M.leaves.len, A.ground.idle.area.room) }) M.leaves.idle;
            starts = λ j a b. part_below base (base + 8 * n) w₁ (omega arith) note_end ys l j b ∙ M.leaves.past j a;
            past = λ j h. part_above base (base + 8 * n) w₁ (omega arith) note_end ys l j h ∙ M.leaves.past j (omega (arith, A.ground.behind));
          };
          size = size;
          stored = rw (back_owned base n w₁ note_end ys l, ← leaves_own A.ground M.leaves) S;
          measured = λ J h. rw (append-nil part) at (M.size J h);
        }

-- ---- the build

picked_ends : (gs : List Group) (is : List ℕ) (q : ℕ) → ((i : ℕ) → In i is → i < length gs) → Ends q (picked gs is) → Ends q gs
unfolding picked
picked_ends gs (i ∷ is) q b (first e) = group_ends gs i q (b i (in_here i is)) e
picked_ends gs (i ∷ is) q b (later e) = picked_ends gs is q (λ j h. b j (in_there j i is h)) e
picked_ends gs [] q b x'' = elim x'' [ ]

limit_fits : (K : ℕ) → is_height K ≡ true → word_limit K ≤ 256
unfolding word_limit
limit_fits K h = limit_small K (tall_height K h).high

module _ {K m table base n s : ℕ} {gates given records part pl ws cs w : List ℕ} (A : MeasureAt K m table base n s gates given records part pl ws cs w) where
  -- the partition may be built
  pub measure_try : TryAt K m table gates given records part [] pl ws cs w
  measure_try = record { union = union_at A.ground A.groups; blank = A.blank }

  module _ {rule : WordRule} {a : Result placer.Built Refused} {pl₁ ws₁ cs₁ w₁ : List ℕ} (B : UnionBuilt rule K m table gates given records part [] pl ws cs w a pl₁ ws₁ cs₁ w₁) where
    -- a merge that fits
    abbrev J₀ : Common
    J₀ = record { rule = rule; K = K; g = graph_of gates; given = given; groups = groups_of records; rooms = rooms K (length pl); cap = 0; ranks = 0 }

    fits₀ : Places rule K (length pl) gates given records J₀
    fits₀ = record { shares = record { graph = refl; given_same = refl; groups_same = refl }; rule_same = refl; height = refl; rooms_same = refl }

    few₀ : Few K (graph_of gates) (built_of J₀ part)
    unfolding built_of empty
    few₀ =
        let P = A.ground.passed in
        build_few rule K (graph_of gates) P.valid (tall_height K P.height).low (omega (arith, P.pins, P.few)) given [] (named J₀ part)
        (λ q e. rw P.pins (P.named q (picked_ends (groups_of records) part q A.groups.named (rw (named_picked J₀ part {gs = groups_of records} refl) at e)))) (rooms K (length pl))

    replied : (J : Common) → Places rule K (length pl) gates given records J → told a ≡ rules.reply (built_of J part)
    replied J h = rw (append-nil part) at (B.reply J h)

    stages_most : (told a).stages ≤ m
    stages_most = let e : (told a).stages ≡ (rules.reply (built_of J₀ part)).stages = ap (λ (r : rules.Reply). r.stages) (replied J₀ fits₀) in omega (arith, few₀.stages_most, A.ground.passed.pins, A.ground.pins)

    words_most : (told a).words ≤ 256
    words_most = let e : (told a).words ≡ (rules.reply (built_of J₀ part)).words = ap (λ (r : rules.Reply). r.words) (replied J₀ fits₀) in omega (arith, few₀.words_most, limit_fits K A.ground.passed.height)

    cells_most_lem : (told a).cells ≤ 65536 * 16384
    unfolding built_of
    cells_most_lem =
        let e : (told a).cells ≡ (rules.reply (built_of J₀ part)).cells = ap (λ (r : rules.Reply). r.cells) (replied J₀ fits₀) in
        omega (arith, cells_few rule K (tall_height K A.ground.passed.height).high (graph_of gates) given (named J₀ part) (rooms K (length pl)) 65536 (omega (arith, few₀.stages_most, A.ground.passed.pins, A.ground.passed.few)))

  -- for a refused partition nothing is stored
  module _ {rule : WordRule} {r : Refused} {pl₁ ws₁ cs₁ w₁ : List ℕ} (B : UnionBuilt rule K m table gates given records part [] pl ws cs w (Err r) pl₁ ws₁ cs₁ w₁) where
    pub measure_refused : Measures rule K m table base n s gates given records part pl ws cs w (Err r) pl₁ ws₁ cs₁ w₁
    measure_refused = record {
      plan = B.plan ∙ sym A.blank.plan;
      words = B.words ∙ sym A.blank.words;
      counts = B.counts ∙ sym A.blank.counts;
      changes = leaves_changes A.ground B.leaves;
      few = tt;
      reply = replied B;
      noted = tt;
    }

  module _ {rule : WordRule} {b : placer.Built} {pl₁ ws₁ cs₁ w₁ : List ℕ} (B : UnionBuilt rule K m table gates given records part [] pl ws cs w (Ok b) pl₁ ws₁ cs₁ w₁) where
    -- a built partition may be measured
    pub measure_note : NoteAt m table base n s b.stages b.words b.cells gates given records part w₁
    unfolding told
    measure_note = record {
      K = K;
      ground = ground_changes A.ground (leaves_changes A.ground B.leaves);
      groups = A.groups;
      inside = A.inside;
      stages_fit = omega (arith, stages_most B, A.ground.idle.area.small);
      words_fit = omega (arith, words_most B);
      cells_fit = omega (arith, cells_most_lem B);
    }

    -- for a whole one its numbers are stored
    pub measure_whole : {w₂ : List ℕ} → Noted m table base n s b.stages b.words b.cells gates given records part w₁ w₂ → Measures rule K m table base n s gates given records part pl ws cs w (Ok b) pl₁ ws₁ cs₁ w₂
    unfolding told
    measure_whole N =
        let C = changes_then (leaves_changes A.ground B.leaves) N.changes in
        record {
          plan = B.plan ∙ sym A.blank.plan;
          words = B.words ∙ sym A.blank.words;
          counts = B.counts ∙ sym A.blank.counts;
          changes = C;
          few = stages_most B;
          reply = replied B;
          noted = record { changes = C; size = N.size; stored = rw (leaves_own A.ground B.leaves) at N.stored; measured = N.measured };
        }
