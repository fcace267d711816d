-- Either sheet read into cells with their inversions: sheet 2 as it stands, sheet 1 with the graph. Assumes nothing.
use Rattle.std.specs.Prelude.{ℕ, Bool, true, false, not, ◌&&◌, ◌||◌, List, [], ◌∷◌, leb, ltb, eqb, length, get_or}
use Rattle.rules.specs.Lists.{every, up_to}
use Rattle.rules.specs.Cells.{empty, filled, width, stage_size, first_lower}
use Rattle.rules.specs.Graph.{Node, leaf, graph_of}
use Rattle.rules.specs.Fold.{is_leaf}
use Rattle.rules.specs.Build.{Stage, coded_stages}
use Rattle.sheet_form.specs.Forms.{sheet_one, sheet_two}
use Rattle.sheet_form.specs.Sheets.{Sheet?, refused, sheet, read_sheet}

-- the pin at position p of a stage of pins is in the graph, and is no leaf that would AND: above level 0, its first lower cell not holding it
unfoldable pub lifts_at : ℕ → List Node → List ℕ → ℕ → Bool
lifts_at K g pl p =
    elim (filled (get_or pl p empty)) [
      | false ↦ true
      | true ↦ ltb (get_or pl p empty) (length g) && (leb (width K) p || (eqb (get_or pl (first_lower p) empty) (get_or pl p empty) || not (is_leaf (get_or g (get_or pl p empty) leaf))))
    ]

-- every position of a stage
unfoldable pub stage_lifts : ℕ → List Node → List ℕ → Bool
stage_lifts K g pl = every (lifts_at K g pl) (up_to (stage_size K) 0)

-- every stage
unfoldable pub stages_lift : ℕ → List Node → List Stage → Bool
stages_lift K g [] = true
stages_lift K g (s ∷ ss) = stage_lifts K g s.plan && stages_lift K g ss

-- the stages of pins coded, as a build leaves them; 15 for those that the graph cannot code
unfoldable pub lift : List Node → Sheet? → Sheet?
lift g (refused n) = refused n
lift g (sheet S) = elim (stages_lift S.height g S.stages) [ true ↦ sheet (record { height = S.height; stages = coded_stages S.height g S.stages }) | false ↦ refused 15 ]

-- sheet 1 where a graph is lent, else sheet 2, so that sheet 1 without a graph is an unknown number
unfoldable pub read_either : (gates bytes : List ℕ) → Sheet?
read_either gates [] = refused 15
read_either gates (b ∷ bytes) = elim (eqb b 1 && ltb 0 (length gates)) [ true ↦ lift (graph_of gates) (read_sheet sheet_one (b ∷ bytes)) | false ↦ read_sheet sheet_two (b ∷ bytes) ]
