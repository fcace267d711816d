-- A build's answer as a trial reads it: the test, and the words that fit. Assumes nothing.
use Prim.Native.Nat.{ℕ, ◌≤◌, ◌<◌}
use mathlib.Core.Bool.{false, ◌&&◌}
use mathlib.Core.List.{List}
use mathlib.Core.Logic.{◌≢◌}
use mathlib.Core.Path.{◌≡◌, refl}
use native.Mathlib.Omega.{arith}
use lib.Dec.{eqb, leb}
use lib.ListN.{length}
use borrow.Author.Tests.{ne_eqb, lt-leb}
use Rattle.rules.specs.Cells.{word_limit}
use Rattle.rules.specs.Graph.{Node}
use Rattle.rules.specs.Records.{Group}
use Rattle.rules.specs.Traversal.{WordRule}
use Rattle.rules.specs.Build.{Stage, Answer, refusal, whole, build, words_of, refuse, reply}
use Rattle.rules.specs.Merge.{accepted}
use Rattle.rules.proofs.Build.Words.{build_words}
use Rattle.std.specs.Prelude.{Result, Ok, Err, None}
use Rattle.refusals.specs.Numbers.{number_of}
use Rattle.refusals.proofs.Numbers.{number_above}
use Rattle.placer.specs.declared.Built.{Built}
use Rattle.placer.specs.declared.Refused.{Refused}
use Rattle.placer.specs.Answers.{told}
use Rattle.merge_trials.specs.Trials.{Accepts}
use Rattle.placer.proofs.Laws.Course.{limit_small}

-- the test of number and stages is that of the rules
pub accepts_is : (a : Answer) → ((n k : ℕ) → a ≡ refusal n k → n ≢ 0) → (cap : ℕ) → (eqb (reply a).number 0 && leb (reply a).stages cap) ≡ accepted cap a
unfolding reply refuse accepted
accepts_is (refusal n k) h cap = rw (ne_eqb n 0 (h n k refl)) refl
accepts_is (whole ss) h cap = refl

-- a refused union fails it
pub refuses : {cap : ℕ} {a : Result Built Refused} {r : Refused} → a ≡ Err r → Accepts cap a None
unfolding told
refuses {r = r} e = record { none = λ z. rw (e, told, ne_eqb (number_of r.why) 0 (λ y. omega (arith, number_above r.why))) refl; some = λ b d. cc }

-- and one with more stages
pub exceeds : {cap : ℕ} {a : Result Built Refused} {b : Built} → a ≡ Ok b → cap < b.stages → Accepts cap a None
unfolding told
exceeds {cap} {b = b} e h = record { none = λ z. rw (e, told, lt-leb b.stages cap h) refl; some = λ x d. cc }

-- ---- the words

words_of_lem : (a : Answer) (l : ℕ) → ((ss : List Stage) → a ≡ whole ss → length (words_of ss) ≤ l) → (reply a).words ≤ l
unfolding reply refuse
words_of_lem (refusal n k) l h = omega arith
words_of_lem (whole ss) l h = h ss refl

-- a build writes at most 256 words
pub words_few : (rule : WordRule) (K : ℕ) → K ≤ 13 → (g : List Node) (given : List ℕ) (gs : List Group) (rooms : ℕ) → (reply (build rule K g given gs rooms)).words ≤ 256
unfolding word_limit
words_few rule K h g given gs rooms = omega (arith, words_of_lem (build rule K g given gs rooms) (word_limit K) (build_words rule K g given gs rooms), limit_small K h)
