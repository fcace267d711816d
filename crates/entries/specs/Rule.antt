-- The word rules by the numbers that other languages ask for them with. Assumes nothing.
use Rattle.std.specs.Prelude.{ℕ, zero, suc, List}
use Rattle.rules.specs.Traversal.{WordRule, every_run, needed_runs}
use Rattle.entries.specs.Entry.{Entry, turned_away}

-- the rule that a number names, if it names one
pub data Rule? : Type 0 where
  unknown : Rule?
  named : WordRule → Rule?

unfoldable pub rule_for : ℕ → Rule?
rule_for zero = named needed_runs
rule_for (suc zero) = named every_run
rule_for (suc (suc n)) = unknown

-- what is answered to the rule alone: 25 to the old one, 2 where none is named, 0 where the call goes on
unfoldable pub refusal_of : Rule? → ℕ
refusal_of unknown = 2
refusal_of (named every_run) = 25
refusal_of (named needed_runs) = 0

-- a call that names a rule: turned away before anything else is looked at, with ns behind the number, or what the call gives
unfoldable pub ruled : {A : Type 0} → ℕ → A → List ℕ → List ℕ → Entry A → Entry A
ruled zero a ns xs go = go
ruled (suc n) a ns xs go = turned_away a (suc n) ns xs
