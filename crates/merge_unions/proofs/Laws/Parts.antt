-- An area that agrees with another as far as a build reads it. Assumes nothing.
use mathlib.Core.Path.{◌≡◌, ap, ◌∙◌}
use mathlib.Core.List.{List}
use Prim.Native.Nat.{ℕ, ◌+◌, ◌*◌, ◌<◌}
use native.Mathlib.Omega.{arith}
use lib.ListN.{get_or, take}
use Rattle.rules.specs.Records.{Group}
use Rattle.columns.specs.Fields.{ORDER, DONE, LEVEL, WAITING, CELLS, RANKED, STARTS, ENDS, REVERSE, LISTED, PLACE, MARK, SPARE, RECORDS}
use Rattle.columns.specs.Area.{Room}
use Rattle.columns.specs.Lists.{list, Holds, Marks, Clear, Marked, Placed}
use Rattle.columns.proofs.Area.Columns.{inside, same_col}
use Rattle.stage_walk.specs.Stands.{Fresh}
use Rattle.placer_start.specs.Opening.{Idle, First}
use Rattle.merge_unions.specs.Cones.{Ground, Cone}

module _ {m : ℕ} (w v : List ℕ) (same : (j : ℕ) → j < 16 * m + RECORDS → get_or v j 0 ≡ get_or w j 0) where
  cell : (f : ℕ) → f < 16 → (p : ℕ) → p < m → get_or v (f * m + p) 0 ≡ get_or w (f * m + p) 0
  cell f h p b = same (f * m + p) (omega (arith, inside f m h))

  clear_part : (f : ℕ) → f < 16 → Clear f m w → Clear f m v
  clear_part f h C = record { zero = λ p b. cell f h p b ∙ C.zero p b }

  marks_part : (f : ℕ) → f < 16 → {xs : List ℕ} → Marks f m xs w → Marks f m xs v
  marks_part f h M = record { mark = λ p b. cell f h p b ∙ M.mark p b }

  holds_part : (f : ℕ) → f < 16 → {n : ℕ} {xs : List ℕ} → Holds f m n xs w → Holds f m n xs v
  unfolding list
  holds_part f h {n} H = record { is = ap (take n) (same_col f m v w (cell f h)) ∙ H.is; few = H.few; count = H.count; pins = H.pins }

  placed_part : (f g : ℕ) → f < 16 → g < 16 → {n : ℕ} {xs : List ℕ} → Placed f g m n xs w → Placed f g m n xs v
  placed_part f g h k P = record {
    held = holds_part f h P.held;
    once = P.once;
    place = λ i b. cell g k _ (P.held.pins i b) ∙ P.place i b;
    none = λ p b o. cell g k p b ∙ P.none p b o;
  }

  marked_part : (f g : ℕ) → f < 16 → g < 16 → {n : ℕ} {xs : List ℕ} → Marked f g m n xs w → Marked f g m n xs v
  marked_part f g h k M = record { held = holds_part f h M.held; once = M.once; marks = marks_part g k M.marks }

  fresh_part : Fresh m w → Fresh m v
  fresh_part F = record {
    listed = clear_part LISTED (omega arith) F.listed;
    levels = clear_part LEVEL (omega arith) F.levels;
    reverse = clear_part REVERSE (omega arith) F.reverse;
    starts = clear_part STARTS (omega arith) F.starts;
    ends = clear_part ENDS (omega arith) F.ends;
    spare = clear_part SPARE (omega arith) F.spare;
  }

  -- what the first stage starts from stands in such an area too
  pub first_part : {n : ℕ} {given : List ℕ} {gs : List Group} → Room m v → First m n given gs w → First m n given gs v
  first_part room F = record {
    area = room;
    done = marks_part DONE (omega arith) F.done;
    waiting = placed_part WAITING PLACE (omega arith) (omega arith) F.waiting;
    fresh = fresh_part F.fresh;
    cells = clear_part CELLS (omega arith) F.cells;
    marks = clear_part MARK (omega arith) F.marks;
    zeros = λ j h. same (16 * m + j) (omega arith) ∙ F.zeros j h;
  }

  -- so a store behind a build's numbers leaves it idle
  pub idle_part : Room m v → Idle m w → Idle m v
  idle_part room I = record {
    area = room;
    done = clear_part DONE (omega arith) I.done;
    heads = clear_part RANKED (omega arith) I.heads;
    places = clear_part PLACE (omega arith) I.places;
    fresh = fresh_part I.fresh;
    cells = clear_part CELLS (omega arith) I.cells;
    marks = clear_part MARK (omega arith) I.marks;
    zeros = λ j h. same (16 * m + j) (omega arith) ∙ I.zeros j h;
  }

  -- and a cone as it is
  pub cone_part : {table n k : ℕ} {gates given records names : List ℕ} → Room m v → Ground m table gates given records v → Cone m table n k gates given records names w → Cone m table n k gates given records names v
  cone_part room G C = record {
    ground = G;
    area = room;
    done = marks_part DONE (omega arith) C.done;
    waiting = placed_part WAITING PLACE (omega arith) (omega arith) C.waiting;
    listed = marked_part ORDER LISTED (omega arith) (omega arith) C.listed;
    apart = record { before = C.apart.before; idle = C.apart.idle; cells = λ f a h p b. cell f h p b ∙ C.apart.cells f a h p b; tail = λ j h. same (16 * m + j) (omega arith) ∙ C.apart.tail j h };
  }
