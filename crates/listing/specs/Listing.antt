-- The listing of a plan that stands in lent areas, and what a call leaves. Assumes nothing.
use Rattle.std.specs.Prelude.{Bool, true, false, ◌&&◌, Result, Ok, Err, List, ℕ, leb, eqb, length, take}
use Rattle.rules.specs.Lists.{laid_over, sum}
use Rattle.rules.specs.Cells.{is_height, stage_size, rooms}
use Rattle.rules.specs.Listing.{listing, refused_line}
use Rattle.refusals.specs.declared.Refusal.{Refusal}
use Rattle.refusals.specs.Numbers.{number_of}
use Rattle.listing_lines.specs.Stages.{stages_in}

-- what is answered, and the area for the text
pub record Outcome : Type 0 where
  pub number : ℕ
  pub length : ℕ
  pub out : List ℕ

unfoldable pub outcome : ℕ → ℕ → List ℕ → Outcome
outcome number size out = record { number = number; length = size; out = out }

-- a length, or a refusal with none
abbrev pub told : Result ℕ Refusal → List ℕ → Outcome
told (Ok size) out = outcome 0 size out
told (Err r) out = outcome (number_of r) 0 out

-- a text over the front of an area; 2 and nothing changed where it is too short
unfoldable pub written : List ℕ → List ℕ → Outcome
written text out = elim (leb (length text) (length out)) [ true ↦ outcome 0 (length text) (laid_over text out) | false ↦ outcome 2 0 out ]

-- do the areas hold so many stages
unfoldable pub hold : ℕ → ℕ → (plan words counts : List ℕ) → Bool
hold K n plan words counts = leb n (rooms K (length plan)) && leb n (length counts) && leb (sum (take n counts)) (length words)

-- the listing of n stages: 1 where there is no such height, 2 where an area has not so much
unfoldable pub listed : ℕ → ℕ → (plan words counts out : List ℕ) → Outcome
listed K n plan words counts out =
    elim (is_height K) [
      | false ↦ outcome 1 0 out
      | true ↦ elim (hold K n plan words counts) [ false ↦ outcome 2 0 out | true ↦ written (listing K (stages_in (stage_size K) n plan words counts)) out ]
    ]

-- a refusal's line, or the listing
unfoldable pub answered : (K number stages stage pin : ℕ) → (plan words counts out : List ℕ) → Outcome
answered K number stages stage pin plan words counts out =
    elim (eqb number 0) [ false ↦ written (refused_line number stage pin) out | true ↦ listed K stages plan words counts out ]
