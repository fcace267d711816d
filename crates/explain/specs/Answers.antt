-- The answer of an explanation, with the list and the lent areas. Assumes nothing.
use Rattle.std.specs.Prelude.{List, ℕ}
use Rattle.placer.specs.Answers.{told, areas}
use Rattle.why_form.specs.Why as why
use Rattle.explain_stages.specs.declared.Explanation.{Explanation}

unfoldable pub explained : Explanation → (plan words counts work list : List ℕ) → why.Explained
explained e plan words counts work list = record { reply = told e.answer; lines = e.lines; list = list; areas = areas plan words counts work }
