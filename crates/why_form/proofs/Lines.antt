-- What an explanation says: its last line is the build's refusal with a count over its limit; all others are pins taken back. Assumes nothing.
use Prim.Native.Nat.{ℕ, zero, suc, ◌+◌, ◌-◌, ◌*◌, ◌^◌, ◌≤◌, ◌<◌}
use mathlib.Core.Path.{◌≡◌, refl, sym, ◌∙◌, ap}
use mathlib.Core.Logic.{◌⊎◌, inl, inr}
use mathlib.Core.Bool.{true, false}
use mathlib.Core.List.{List, [], ◌∷◌, ◌++◌, append_assoc}
use native.Mathlib.Omega.{arith}
use native.Mathlib.Nat.{one-le-pow, suc-mul}
use lib.Dec.{ltb, leb}
use lib.ListN.{length, length-append}
use borrow.Author.Tests.{ltb-true, ltb-false, leb-false}
use Rattle.rules.specs.Cells.{empty, level_one_size, word_limit}
use Rattle.rules.specs.Graph.{Node}
use Rattle.rules.specs.Records.{Group, waiting_of}
use Rattle.rules.specs.Reservation.{memories, duplicates, reserved, reservable}
use Rattle.rules.specs.Traversal.{WordRule, Setting, setting}
use Rattle.rules.specs.Placing.{filled_plan}
use Rattle.rules.specs.Ending.{written, one_stage, refused}
use Rattle.rules.specs.Build.{Stage, Answer, refusal, whole, more, stages, build}
use Rattle.rules.specs.Capacity.{crowd, ones_then, needs_left, StageOver, seven, eight}
use Rattle.why_form.specs.Why.{Line, back, over, sixth, seventh, eighth, over_line, back_lines, why_from, why}
use Rattle.stage_notes.specs.Taken.{Taken, taken_back}
use Rattle.rules.proofs.Lists.Members.{split}
use Rattle.rules.specs.Inside.Walks.{Graph, Ready}
use Rattle.rules.proofs.Needed.Needs.{setting_sound}
use Rattle.rules.proofs.Stage.Staged.{half_height, length-filled_plan, two_step}
use Rattle.rules.proofs.Stage.Depth.{still_ready, stage_cases}
use Rattle.rules.proofs.Stage.Crowd.{left_crowd, refused_over}
use Rattle.stage_notes.proofs.Taken.{few_taken}

-- lines of pins taken back
pub data Backs : List Line → Type 0 where
  nobody : Backs []
  one : {k p n o d : ℕ} {ls : List Line} → Backs ls → Backs (back k p n o d ∷ ls)

-- a line that says a refusal, with a count over its limit
pub record Broken (n k : ℕ) (x : Line) : Type 0 where
  pub limit : ℕ
  pub count : ℕ
  pub first : ℕ
  pub second : ℕ
  pub same : x ≡ over n k limit count first second
  pub broken : limit < count

-- it is the last, and all others are pins taken back
pub record Says (n k : ℕ) (ls : List Line) : Type 0 where
  pub front : List Line
  pub line : Line
  pub same : ls ≡ front ++ (line ∷ [])
  pub pins : Backs front
  pub says : Broken n k line

-- what the lines say of a build's answer
pub data Tells : Answer → List Line → Type 0 where
  accepted : {ss : List Stage} {ls : List Line} → Backs ls → Tells (whole ss) ls
  no_room : {k : ℕ} {ls : List Line} → Backs ls → Tells (refusal 9 k) ls
  refuses : {n k : ℕ} {ls : List Line} → Says n k ls → Tells (refusal n k) ls

backs_append : {xs ys : List Line} → Backs xs → Backs ys → Backs (xs ++ ys)
backs_append nobody k = k
backs_append (one h) k = one (backs_append h k)

lines_back : (k : ℕ) (ts : List Taken) → Backs (back_lines k ts)
unfolding back_lines
lines_back k [] = nobody
lines_back k (t ∷ ts) = one (lines_back k ts)

tells_more : (s : Stage) {a : Answer} {ls : List Line} → Tells a ls → Tells (more s a) ls
unfolding more
tells_more s (accepted h) = accepted h
tells_more s (no_room h) = no_room h
tells_more s (refuses h) = refuses h

tells_front : {a : Answer} {xs ls : List Line} → Backs xs → Tells a ls → Tells a (xs ++ ls)
tells_front h (accepted k) = accepted (backs_append h k)
tells_front h (no_room k) = no_room (backs_append h k)
tells_front {a} {xs} {ls} h (refuses t) = refuses (record { front = xs ++ t.front; line = t.line; same = ap (λ (l : List Line). xs ++ l) t.same ∙ sym (append_assoc xs t.front (t.line ∷ [])); pins = backs_append h t.pins; says = t.says })

module _ (rule : WordRule) (K : ℕ) (g : List Node) (r : ℕ → ℕ) (G : Graph g r) (tall : 6 ≤ K) (small : length g ≤ empty) where
  -- a stage that is refused
  module _ (done waiting : List ℕ) (R : Ready g r waiting) (room k : ℕ) where
    abbrev X : Setting
    X = setting rule K g done waiting

    abbrev pl : List ℕ
    pl = filled_plan (setting rule K g done waiting)

    many : ones_then X pl + needs_left X pl ≡ crowd X pl
    unfolding setting
    many = left_crowd X r (length g) (setting_sound rule K g r G done waiting R.bounded) (half_height K (omega arith)) small R.once pl (rw length-filled_plan (omega (arith, two_step K)))

    over_broken : {n : ℕ} → StageOver X room 0 pl n → Broken n k (over_line X k room pl)
    unfolding over_line seventh eighth setting
    over_broken (seven h) = record {
      limit = room;
      count = length (written X pl).words;
      first = 0;
      second = 0;
      same = split (ltb room (length (written X pl).words)) (λ b. rw (b, over_line) refl) (λ b. absurd (omega (arith, ltb-false room (length (written X pl).words) b)));
      broken = omega arith;
    }
    over_broken (eight h t) = record {
      limit = level_one_size K - 1;
      count = ones_then X pl + needs_left X pl;
      first = ones_then X pl;
      second = needs_left X pl;
      same = split (ltb room (length (written X pl).words)) (λ b. absurd (omega (arith, ltb-true room (length (written X pl).words) b))) (λ b. rw (b, over_line) refl);
      broken = omega (arith, many, t, one-le-pow (K - 1) 2 (omega arith));
    }

    refused_broken : (n : ℕ) → one_stage rule K g done waiting room ≡ refused n → Broken n k (over_line X k room pl)
    refused_broken n e = over_broken (refused_over rule K g r G tall small done waiting R room 0 room (omega arith) n e)

  pub stages_tell : (rooms k : ℕ) (done waiting : List ℕ) → Ready g r waiting → (room : ℕ) → Tells (stages rule K g rooms k done waiting room) (why_from rule K g rooms k done waiting room)
  unfolding stages why_from
  stages_tell zero k done [] R room = accepted nobody
  stages_tell zero k done (w ∷ ws) R room = no_room nobody
  stages_tell (suc rooms) k done [] R room = accepted nobody
  stages_tell (suc rooms) k done (w ∷ ws) R room = stage_cases (one_stage rule K g done (w ∷ ws) room)
      (λ n e. rw (e, stages, why_from) (refuses (record {
        front = back_lines k (taken_back (setting rule K g done (w ∷ ws)));
        line = over_line (setting rule K g done (w ∷ ws)) k room (filled_plan (setting rule K g done (w ∷ ws)));
        same = refl;
        pins = lines_back k (taken_back (setting rule K g done (w ∷ ws)));
        says = refused_broken done (w ∷ ws) R room k n e;
      })))
      (λ plan words realised waiting2 e. rw (e, stages, why_from) (tells_front (lines_back k (taken_back (setting rule K g done (w ∷ ws)))) (tells_more (record { plan = plan; words = words })
      (stages_tell rooms (suc k) (realised ++ done) waiting2 (still_ready rule K g r G tall small done (w ∷ ws) R room plan words realised waiting2 e) (room - length words)))))

some_words : (K : ℕ) → 1 ≤ word_limit K
unfolding word_limit
some_words K = one-le-pow (K - 5) 2 (omega arith)

six_broken : (K : ℕ) (groups : List Group) → reservable K groups ≡ false → Broken 6 0 (sixth K groups)
unfolding sixth reservable
six_broken K groups e = split (ltb (reserved groups) (word_limit K))
    (λ a. record {
      limit = word_limit K;
      count = 4 * memories groups + duplicates groups;
      first = memories groups;
      second = duplicates groups;
      same = rw (a, sixth) refl;
      broken = leb-false (4 * memories groups + duplicates groups) (word_limit K) (rw (a, reservable) at e);
    })
    (λ a. record {
      limit = word_limit K - 1;
      count = reserved groups;
      first = memories groups;
      second = duplicates groups;
      same = rw (a, sixth) refl;
      broken = omega (arith, ltb-false (reserved groups) (word_limit K) a, some_words K);
    })

module _ (rule : WordRule) (K : ℕ) (g : List Node) (r : ℕ → ℕ) (G : Graph g r) (tall : 6 ≤ K) (small : length g ≤ empty) (given : List ℕ) (groups : List Group) (R : Ready g r (waiting_of groups [])) (rooms : ℕ) where
  -- refused with 6, 7 or 8: the last line says that number and stage, with a count over its limit, and all others are pins taken back; accepted, or refused with 9: pins taken back alone
  pub why_tells : Tells (build rule K g given groups rooms) (why rule K g given groups rooms)
  unfolding build why
  why_tells = split (reservable K groups)
      (λ c. rw (c, build, why) (stages_tell rule K g r G tall small rooms 1 given (waiting_of groups []) R (word_limit K - reserved groups)))
      (λ c. rw (c, build, why) (refuses (record { front = []; line = sixth K groups; same = refl; pins = nobody; says = six_broken K groups c })))

  -- and the other way round: a last line that says a refusal is the build's
  pub why_exact : (front : List Line) (n k l c a b : ℕ) → why rule K g given groups rooms ≡ front ++ (over n k l c a b ∷ []) → build rule K g given groups rooms ≡ refusal n k
  why_exact front n k l c a b e = exact why_tells front n k l c a b e
    where
      nil_last : {P : Type 0} (xs : List Line) (x : Line) → [] ≡ xs ++ (x ∷ []) → P
      nil_last [] x h = absurd (let z : ◌≡◌ {A = ℕ} 0 1 = cc in omega arith)
      nil_last (y ∷ ys) x h = absurd (let z : ◌≡◌ {A = ℕ} 0 1 = cc in omega arith)

      never : {P : Type 0} {ls : List Line} → Backs ls → (xs : List Line) (n k l c a b : ℕ) → ls ≡ xs ++ (over n k l c a b ∷ []) → P
      never nobody xs n k l c a b h = nil_last xs (over n k l c a b) h
      never (one d) [] n k l c a b h = absurd (let z : ◌≡◌ {A = ℕ} 0 1 = cc in omega arith)
      never (one d) (x ∷ xs) n k l c a b h = never d xs n k l c a b (cc)

      last : (xs ys : List Line) (x y : Line) → xs ++ (x ∷ []) ≡ ys ++ (y ∷ []) → x ≡ y
      last [] [] x y h = cc
      last [] (b ∷ ys) x y h = nil_last ys y (cc)
      last (a ∷ xs) [] x y h = let z : [] ≡ xs ++ (x ∷ []) = cc in nil_last xs x z
      last (a ∷ xs) (b ∷ ys) x y h = last xs ys x y (cc)

      exact : {a : Answer} {ls : List Line} → Tells a ls → (xs : List Line) (n k l c u v : ℕ) → ls ≡ xs ++ (over n k l c u v ∷ []) → a ≡ refusal n k
      exact (accepted d) xs n k l c u v h = never d xs n k l c u v h
      exact (no_room d) xs n k l c u v h = never d xs n k l c u v h
      exact (refuses {n = m} {k = j} t) xs n k l c u v h =
          let z : t.line ≡ over n k l c u v = last t.front xs t.line (over n k l c u v) (sym t.same ∙ h) in
          let y : over m j t.says.limit t.says.count t.says.first t.says.second ≡ over n k l c u v = sym t.says.same ∙ z in
          cc

-- ---- how many lines

lines_length : (k : ℕ) (ts : List Taken) → length (back_lines k ts) ≡ length ts
unfolding back_lines
lines_length k [] = refl
lines_length k (t ∷ ts) = ap suc (lines_length k ts)

-- K - 1 lines a room, and one more
pub lines_few : (rule : WordRule) (K : ℕ) (g : List Node) (rooms k : ℕ) (done waiting : List ℕ) (room : ℕ) → length (why_from rule K g rooms k done waiting room) ≤ rooms * (K - 1) + 1
unfolding why_from setting
lines_few rule K g zero k done waiting room = omega arith
lines_few rule K g (suc rooms) k done [] room = omega arith
lines_few rule K g (suc rooms) k done (w ∷ ws) room =
    let X : Setting = setting rule K g done (w ∷ ws) in
    let f : length (back_lines k (taken_back X)) ≤ K - 1 = rw lines_length (few_taken X) in
    stage_cases (one_stage rule K g done (w ∷ ws) room)
    (λ n e. rw (e, why_from, length-append) (omega (arith, f, suc-mul rooms (K - 1))))
    (λ plan words realised waiting2 e. rw (e, why_from, length-append) (omega (arith, f, suc-mul rooms (K - 1), lines_few rule K g rooms (suc k) (realised ++ done) waiting2 (room - length words))))

pub why_few : (rule : WordRule) (K : ℕ) (g : List Node) (given : List ℕ) (groups : List Group) (rooms : ℕ) → length (why rule K g given groups rooms) ≤ rooms * (K - 1) + 1
unfolding why
why_few rule K g given groups rooms = split (reservable K groups) (λ c. rw (c, why) (lines_few rule K g rooms 1 given (waiting_of groups []) (word_limit K - reserved groups))) (λ c. rw (c, why) (omega arith))
