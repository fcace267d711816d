-- The build of a union: its stages run in the front of the work area, which is 0 again afterwards. Assumes nothing.
use mathlib.Core.Path.{◌≡◌, sym, ap, ◌∙◌}
use mathlib.Core.List.{List, ◌++◌}
use Prim.Native.Nat.{ℕ, ◌+◌, ◌-◌, ◌*◌, ◌^◌, ◌<◌, ◌≤◌}
use native.Mathlib.Omega.{arith}
use lib.ListN.{length, get_or, take, drop, replicate, length-replicate, get_or-replicate, get_or-append}
use lib.Seq.{length-take-le, length_front, get_or-take, get_or-drop, get_or-append-add}
use Rattle.rules.specs.Cells.{empty, rooms, row_at}
use Rattle.rules.specs.Graph.{graph_of}
use Rattle.rules.specs.Records.{Group, groups_of}
use Rattle.rules.specs.Traversal.{WordRule, needed_runs}
use Rattle.rules.specs.Build as rules
use Rattle.rules.specs.Merge.{Common, built_of}
use Rattle.columns.specs.Fields.{RECORDS}
use Rattle.placer_start.specs.declared.Opening.{Opening}
use Rattle.std.specs.Prelude.{Option, Some, None, Result, Err}
use Rattle.placer_start.specs.Opening.{First, Begins}
use Rattle.placer_start.proofs.Laws.Opening.{zeros_idle}
use Rattle.refusals.specs.declared.Refusal.TheVariants.{OverReserved}
use Rattle.placer.specs.declared.Built as placer
use Rattle.placer.specs.declared.Refused.{Refused}
use Rattle.placer.specs.Stages.{Course, StagesAt, Ran}
use Rattle.placer.specs.Build.{Emptied}
use Rattle.placer.proofs.Laws.Build as build
use Rattle.merge_unions.specs.Names.{picked}
use Rattle.merge_unions.specs.Unions.{TryAt, Tried, Places, UnionBuilt}
use Rattle.merge_unions.proofs.Laws.Opening.{named_picked}
use Rattle.merge_unions.proofs.Laws.Parts.{first_part}

-- ---- a front, lent and given back

-- a front that comes back leaves what is behind it
pub front_past : (n : ℕ) (xs ys : List ℕ) → length ys ≡ length (take n xs) → n ≤ length xs → (j : ℕ) → n ≤ j → get_or (ys ++ drop n xs) j 0 ≡ get_or xs j 0
front_past n xs ys e h j b =
    let l : length ys ≡ n = e ∙ length-take-le n xs h in
    let d : length ys + (j - n) ≡ j = omega arith in
    let c : n + (j - n) ≡ j = omega arith in
    ap (λ (i : ℕ). get_or (ys ++ drop n xs) i 0) (sym d) ∙ get_or-append-add ys (drop n xs) (j - n) 0 ∙ get_or-drop n xs (j - n) 0 ∙ ap (λ (i : ℕ). get_or xs i 0) c

-- ---- the stages

-- what a merge builds
built_of_lem : (J : Common) (is : List ℕ) {rule : WordRule} {K size : ℕ} {gates given records : List ℕ} → Places rule K size gates given records J → built_of J is ≡ rules.build rule K (graph_of gates) given (picked (groups_of records) is) (rooms K size)
unfolding built_of
built_of_lem J is S = cc (named_picked J is S.shares.groups_same)

module _ {K m table : ℕ} {gates given records first second pl ws cs w : List ℕ} (A : TryAt K m table gates given records first second pl ws cs w) where
  abbrev gs : List Group
  gs = picked (groups_of records) (first ++ second)

  module _ {limit : ℕ} (lim : limit ≡ length ws) {r : Option Opening} {w₁ : List ℕ} (B : Begins m limit table given gs w r w₁) where
    -- a reservation that is over answers 6
    pub try_over : r ≡ None → Tried needed_runs K m table gates given records first second pl ws cs w (Err (record { why = OverReserved; stage = 0 })) pl ws cs w₁
    try_over e = let T = build.built_over A.union.passed A.blank A.union.pins lim B e in record { kept = T.kept; past = B.past; reply = T.reply }

    module _ {o : Opening} (ready : r ≡ Some o) where
      -- the reserved words are within the limit
      pub try_room : o.words ≤ limit
      try_room = build.built_room A.union.passed A.blank A.union.pins lim B ready

      -- the area has room for a build's numbers
      pub try_part : 16 * m + 512 ≤ length w₁
      try_part = omega (arith, A.union.idle.area.room, B.frame.len)

      -- the front of the area that the stages run in
      abbrev pub part : List ℕ
      part = take (16 * m + 512 - 0) w₁

      -- what the first stage starts from stands in it
      pub try_first : First m o.waiting given gs part
      try_first =
          let l : length part ≡ 16 * m + 512 - 0 = length-take-le (16 * m + 512 - 0) w₁ (omega (arith, try_part)) in
          first_part w₁ part (λ j h. get_or-take (16 * m + 512 - 0) w₁ j 0 (omega arith)) (record { small = A.union.idle.area.small; room = omega arith }) (B.first o ready)

      -- what the stages start from
      abbrev pub course : Course
      course = build.course A.union.passed A.blank A.union.pins lim B ready try_first

      -- the union's stages may run
      pub try_stages : {rms room : ℕ} → rms ≡ length cs → room ≡ limit - o.words → length cs < 2 ^ 63 → StagesAt course m K (row_at K 1) rms 0 0 o.waiting room gates pl ws cs part
      try_stages all left short = build.built_stages A.union.passed A.blank A.union.pins lim B ready try_first all left short

      -- what the stages answer is the union's answer
      pub try_ran : {a : Result placer.Built Refused} {pl' ws' cs' v' : List ℕ} → Ran course pl ws cs part a pl' ws' cs' v' → Tried needed_runs K m table gates given records first second pl ws cs w a pl' ws' cs' (v' ++ drop (16 * m + 512 - 0) w₁)
      try_ran {a} {v' = v'} R =
          let T = build.built_ran A.union.passed A.blank A.union.pins lim B ready try_first a R in
          record {
            kept = record { plan = T.kept.plan; words = T.kept.words; counts = T.kept.counts; work = length_front w₁ v' (16 * m + 512 - 0) T.kept.work ∙ B.frame.len };
            past = λ j h. front_past (16 * m + 512 - 0) w₁ v' T.kept.work (omega (arith, try_part)) j (omega (arith, A.union.room)) ∙ B.past j h;
            reply = T.reply;
          }

  -- ---- everything is emptied again

  module _ {rule : WordRule} {a : Result placer.Built Refused} {pl₁ ws₁ cs₁ w₁ : List ℕ} (T : Tried rule K m table gates given records first second pl ws cs w a pl₁ ws₁ cs₁ w₁) where
    -- the area still has room for a build's numbers
    pub built_part : 16 * m + 512 ≤ length w₁
    built_part = omega (arith, A.union.idle.area.room, T.kept.work)

    module _ {pl₂ ws₂ cs₂ v₂ : List ℕ} (E : Emptied pl₁ ws₁ cs₁ (take (16 * m + 512 - 0) w₁) pl₂ ws₂ cs₂ v₂) where
      front : length (take (16 * m + 512 - 0) w₁) ≡ 16 * m + 512
      front = length-take-le (16 * m + 512 - 0) w₁ (omega (arith, built_part)) ∙ omega arith

      front_same : length v₂ ≡ length (take (16 * m + 512 - 0) w₁)
      front_same = ap length E.work ∙ length-replicate (length (take (16 * m + 512 - 0) w₁)) 0

      abbrev w₂ : List ℕ
      w₂ = v₂ ++ drop (16 * m + 512 - 0) w₁

      len : length w₂ ≡ length w
      len = length_front w₁ v₂ (16 * m + 512 - 0) front_same ∙ T.kept.work

      zero : (j : ℕ) → j < 16 * m + RECORDS → get_or w₂ j 0 ≡ 0
      zero j h = get_or-append v₂ (drop (16 * m + 512 - 0) w₁) 0 j (omega (arith, front, front_same)) ∙ (rw E.work (get_or-replicate (length (take (16 * m + 512 - 0) w₁)) j 0 0 (omega (arith, front))))

      -- everything emptied again, the union is built and the area idle
      pub built : UnionBuilt rule K m table gates given records first second pl ws cs w a pl₂ ws₂ cs₂ w₂
      built = record {
        leaves = record {
          len = len;
          idle = zeros_idle (record { small = A.union.idle.area.small; room = omega (arith, len, A.union.idle.area.room) }) zero;
          past = λ j h. front_past (16 * m + 512 - 0) w₁ v₂ front_same (omega (arith, built_part)) j (omega (arith, A.union.room)) ∙ T.past j h;
        };
        plan = E.plan ∙ ap (λ (i : ℕ). replicate i empty) T.kept.plan;
        words = E.words ∙ ap (λ (i : ℕ). replicate i empty) T.kept.words;
        counts = E.counts ∙ ap (λ (i : ℕ). replicate i 0) T.kept.counts;
        reply = λ J S. T.reply ∙ ap rules.reply (sym (built_of_lem J (first ++ second) S));
      }
