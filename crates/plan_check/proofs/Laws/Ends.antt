-- Endpoints by marks, record after record. Assumes nothing.
use Prim.Native.Nat.{ℕ, ◌+◌, ◌≤◌, ◌<◌}
use mathlib.Core.Path.{◌≡◌, refl, sym, ◌∙◌, ap}
use mathlib.Core.Bool.{Bool, true, false, not, ◌&&◌, ◌||◌}
use mathlib.Core.List.{List, [], ◌∷◌, ◌++◌}
use native.Mathlib.Omega.{arith}
use lib.Dec.{ltb}
use lib.ListN.{length, get_or, drop}
use borrow.Author.Tests.{lt-ltb}
use Rattle.rules.specs.Lists.{mem, keep, every, insert, insert_all, In}
use Rattle.rules.specs.Records.{Group, groups, read, group_at, groups_of, endpoints_of, waiting_of}
use Rattle.rules.proofs.Bools.{and_right, and_assoc}
use Rattle.rules.proofs.Lists.Members.{split, every_in, in_here, in_there}
use Rattle.records.specs.Values.{size_at, endpoint_at}
use Rattle.records.proofs.Reading.{Stands, standing, size_endpoints, endpoint_is, every_step, every_end}
use Rattle.checks.proofs.Laws.Passed.{Next, read_next, read_last}
use Rattle.plan_check_stage.specs.Marks.{marked}
use Rattle.plan_check.specs.Ends.{end_passes, RecordAt, RecordWritten, EndsAt, EndsWritten}

-- ---- the waiting list

module _ (f : ℕ → Bool) where
  every_snoc : (xs : List ℕ) (x : ℕ) → every f (xs ++ (x ∷ [])) ≡ every f xs && f x
  unfolding every
  every_snoc [] x = split (f x) (λ t. rw (t, every)) (λ t. rw (t, every))
  every_snoc (y ∷ xs) x = split (f y) (λ t. rw (t, every) (every_snoc xs x)) (λ t. rw (t, every))

  every_insert : (x : ℕ) (xs : List ℕ) → every f (insert x xs) ≡ every f xs && f x
  unfolding insert
  every_insert x xs = split (mem x xs)
      (λ i. rw (i, insert) (split (every f xs) (λ t. rw (t, every_in f x xs t i)) (λ t. rw t)))
      (λ i. rw (i, insert) (every_snoc xs x))

  pass_cons : (q : ℕ) (es : List ℕ) → ltb 0 q ≡ true → every (end_passes f) (q ∷ es) ≡ f q && every (end_passes f) es
  unfolding every end_passes
  pass_cons q es t = split (f q) (λ u. rw (t, u, every)) (λ u. rw (t, u, every))

  every_waits : (es ws : List ℕ) → every f (insert_all (keep (ltb 0) es) ws) ≡ every f ws && every (end_passes f) es
  unfolding keep insert_all every end_passes
  every_waits [] ws = sym (and_right (every f ws))
  every_waits (q ∷ es) ws = split (ltb 0 q)
      (λ t. rw (t, keep, insert_all) (every_waits es (insert q ws) ∙ rw (every_insert q ws, and_assoc (every f ws) (f q) (every (end_passes f) es)) (ap (λ (b : Bool). every f ws && b) (sym (pass_cons q es t)))))
      (λ t. rw (t, keep, every) (every_waits es ws))

  -- do the endpoints of all groups pass
  unfoldable pub all_pass : List Group → Bool
  all_pass [] = true
  all_pass (x ∷ xs) = every (end_passes f) (endpoints_of x) && all_pass xs

  waiting_pass : (gs : List Group) (ws : List ℕ) → every f (waiting_of gs ws) ≡ every f ws && all_pass gs
  unfolding waiting_of all_pass
  waiting_pass [] ws = sym (and_right (every f ws))
  waiting_pass (x ∷ xs) ws = waiting_pass xs (insert_all (keep (ltb 0) (endpoints_of x)) ws) ∙ rw (every_waits (endpoints_of x) ws) (and_assoc (every f ws) (every (end_passes f) (endpoints_of x)) (all_pass xs))

-- two tests that agree on a list
pub every_same : (f h : ℕ → Bool) (xs : List ℕ) → ((q : ℕ) → In q xs → f q ≡ h q) → every f xs ≡ every h xs
unfolding every
every_same f h [] s = refl
every_same f h (x ∷ xs) s = split (h x)
    (λ t. let u : f x ≡ true = s x (in_here x xs) ∙ t in rw (t, u, every) (every_same f h xs (λ q i. s q (in_there q x xs i))))
    (λ t. let u : f x ≡ false = s x (in_here x xs) ∙ t in rw (t, u, every))

-- ---- one record

pub record PinsTo (records marks : List ℕ) (at size i : ℕ) : Type 0 where
  pub upto : i ≤ size
  pub all : size ≡ length (endpoints_of (group_at (drop at records)))
  pub same : every (end_passes (marked marks)) (endpoints_of (group_at (drop at records))) ≡ every (end_passes (marked marks)) (drop i (endpoints_of (group_at (drop at records))))

module _ (records marks : List ℕ) (at : ℕ) (A : RecordAt records at) (size : ℕ) (es : size ≡ size_at records at) where
  -- at the beginning
  pub pins_none : PinsTo records marks at size 0
  pins_none = record { upto = omega arith; all = es ∙ size_endpoints records at A.whole; same = refl }

  module _ (i : ℕ) (P : PinsTo records marks at size i) (h : i < size) (p j : ℕ) (ep : p ≡ endpoint_at records at i) (ej : j ≡ p) where
    abbrev pins : List ℕ
    pins = endpoints_of (group_at (drop at records))

    pin : j ≡ get_or pins i 0
    pin = ej ∙ ep ∙ endpoint_is records at A.whole i

    step : every (end_passes (marked marks)) pins ≡ end_passes (marked marks) j && every (end_passes (marked marks)) (drop (i + 1) pins)
    step = P.same ∙ every_step (end_passes (marked marks)) pins i (omega (arith, P.all)) ∙ rw (← pin)

    go : end_passes (marked marks) j ≡ true → PinsTo records marks at size (i + 1)
    go t = record { upto = omega arith; all = P.all; same = step ∙ rw t }

    -- the constant
    pub pins_zero : j ≡ 0 → PinsTo records marks at size (i + 1)
    unfolding end_passes
    pins_zero e = go (rw e)

    module _ (t : Bool) (et : t ≡ marked marks p) where
      -- a written pin
      pub pins_written : t ≡ true → PinsTo records marks at size (i + 1)
      unfolding end_passes
      pins_written e = go (let d : marked marks j ≡ true = ap (marked marks) ej ∙ sym et ∙ e in rw d (or_one (not (ltb 0 j))))
        where
          or_one : (b : Bool) → (b || true) ≡ true
          or_one true = refl
          or_one false = refl

      -- one that is not
      pub pins_missing : (j ≡ 0 → ⊥) → t ≡ false → RecordWritten records marks at false
      unfolding end_passes
      pins_missing n e =
          let d : marked marks j ≡ false = ap (marked marks) ej ∙ sym et ∙ e in
          let f : end_passes (marked marks) j ≡ false = rw (lt-ltb 0 j (omega arith), d) in
          record { is = sym (step ∙ rw f) }

  -- all are written
  pub pins_done : (i : ℕ) → PinsTo records marks at size i → size ≤ i → RecordWritten records marks at true
  pins_done i P h = record { is = sym (P.same ∙ every_end (end_passes (marked marks)) (endpoints_of (group_at (drop at records))) i (omega (arith, P.all))) }

-- ---- all records

pub record EndsTo (records marks : List ℕ) (at : ℕ) : Type 0 where
  pub rest : List Group
  pub unread : read (drop at records) ≡ groups rest
  pub same : every (marked marks) (waiting_of (groups_of records) []) ≡ all_pass (marked marks) rest

module _ (records marks : List ℕ) (A : EndsAt records) where
  -- at the beginning
  pub ends_none : EndsTo records marks 0
  unfolding every
  ends_none = record { rest = groups_of records; unread = A.readable; same = waiting_pass (marked marks) (groups_of records) [] }

  module _ (at : ℕ) (E : EndsTo records marks at) (h : at < length records) where
    next : Next records at E.rest
    next = read_next records at E.rest E.unread h

    -- a whole record stands there
    pub ends_at : RecordAt records at
    ends_at = record { whole = next.whole; short = A.short }

    ends_stands : Stands records at
    ends_stands = standing records at next.whole

    module _ (r : Bool) (W : RecordWritten records marks at r) where
      one_more : every (marked marks) (waiting_of (groups_of records) []) ≡ r && all_pass (marked marks) next.rest
      unfolding all_pass
      one_more = E.same ∙ ap (all_pass (marked marks)) next.these ∙ rw (← W.is)

      -- one of its pins is missing
      pub ends_missing : r ≡ false → EndsWritten records marks false
      ends_missing e = record { is = sym (one_more ∙ rw e) }

      -- all are written
      pub ends_more : r ≡ true → (size : ℕ) → size ≡ size_at records at → EndsTo records marks (at + (1 + size))
      ends_more e size es = record { rest = next.rest; unread = rw (es, ends_stands.size) next.others; same = one_more ∙ rw e }

  -- of every record
  pub ends_done : (at : ℕ) → EndsTo records marks at → length records ≤ at → EndsWritten records marks true
  unfolding all_pass
  ends_done at E h = record { is = sym (E.same ∙ rw (read_last records at E.rest E.unread h)) }
