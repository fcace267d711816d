-- A union's names, and its opening: the reservation, the marks and the waiting list. Assumes nothing.
use mathlib.Core.Path.{◌≡◌, refl, ◌∙◌}
use mathlib.Core.List.{List}
use Prim.Native.Nat.{ℕ, ◌+◌}
use native.Mathlib.Omega.{arith}
use lib.ListN.{length}
use Rattle.rules.specs.Records.{Group}
use Rattle.rules.specs.Merge.{Common, named}
use Rattle.std.specs.Prelude.{Option}
use Rattle.placer_start.specs.Given.{Given}
use Rattle.placer_start.specs.Reservation.{Reserved}
use Rattle.placer_start.specs.Opening.{Opens}
use Rattle.placer_start.proofs.Laws.Opening.{opened_room, opened_places}
use Rattle.merge_unions.specs.Names.{picked, Names}
use Rattle.merge_unions.specs.Reserving as reserving
use Rattle.merge_unions.specs.Waiting as waiting
use Rattle.merge_unions.specs.Unions.{UnionAt, OpenAt}
use Rattle.merge_unions.proofs.Laws.Names.{names_kept}

-- the groups that a merge names
pub named_picked : (J : Common) (is : List ℕ) {gs : List Group} → J.groups ≡ gs → named J is ≡ picked gs is
unfolding named picked
named_picked J is e = rw e

module _ {K m table : ℕ} {gates given records first second w : List ℕ} (A : UnionAt K m table gates given records first second w) where
  -- a build of the union may begin
  union_opens : Opens m given w
  union_opens = record { idle = A.idle; given_named = λ q i. rw A.pins (A.passed.given_named q i) }

  -- the first partition's names are good
  union_first : Names m table records first w
  union_first = record { located = A.located; behind = omega (arith, A.room); inside = A.first_inside; pins = λ q e. rw A.pins (A.passed.named q e) }

  -- the second partition's names are good
  union_second : Names m table records second w
  union_second = record { located = A.located; behind = omega (arith, A.room); inside = A.second_inside; pins = λ q e. rw A.pins (A.passed.named q e) }

  -- the union may be opened
  pub union_open : OpenAt m table given records first second w
  union_open = record { opens = union_opens; one = union_first; two = union_second; room = A.room; few = A.few }

module _ {m table : ℕ} {given records first second w : List ℕ} (A : OpenAt m table given records first second w) where
  -- the union's reservation may be computed
  pub open_reserve : reserving.BothAt m table records first second w
  open_reserve = record { area = A.opens.idle.area; one = A.one; two = A.two; room = A.room; few = A.few; clear = A.opens.idle.heads }

  module _ {limit : ℕ} {gs : List Group} {r : Option ℕ} {w₁ : List ℕ} (R : Reserved m limit (length first + length second) gs w w₁ r) {w₂ : List ℕ} (G : Given m given w₁ w₂) where
    kept : {is : List ℕ} → Names m table records is w → Names m table records is w₂
    kept N = names_kept N (G.frame.len ∙ R.touched.frame.len) (λ j h. G.frame.past refl j (omega (arith, N.behind)) ∙ R.touched.past j (omega (arith, A.room)))

    -- behind that and the marks its pins may wait
    pub open_wait : waiting.BothAt m table records first second w₂
    open_wait = record { area = opened_room A.opens R.touched G; one = kept A.one; two = kept A.two; clear = opened_places A.opens R.touched G }
