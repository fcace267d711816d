-- The entry of an explanation. Assumes nothing.
use Prim.Native.Nat.{ℕ, ◌≤◌}
use mathlib.Core.List.{List, [], ◌∷◌}
use mathlib.Core.Path.{◌≡◌, ◌∙◌}
use mathlib.Core.Logic.{◌≢◌}
use lib.ListN.{length}
use Rattle.rules.specs.Traversal.{needed_runs}
use Rattle.rules.specs.Build as rules
use Rattle.placer.specs.Answers as placer
use Rattle.why_form.specs.Why.{Explained, explainer}
use Rattle.entries.specs.Entry.{Entry, entry, written}
use Rattle.entries.specs.Explain.{Lent, lent_to, told, build_explained, build_explained_by}
use Rattle.entries.specs.Rule.{Rule?, refusal_of}
use Rattle.entries.proofs.Laws.Entry.{entry_told, ruled_away, ruled_on}

module _ (K : ℕ) (gates given records pl ws cs w list xs : List ℕ) where
  -- the explanation, its reply written
  pub entry_explained : 7 ≤ length xs → (o : Explained) → o ≡ explainer needed_runs K gates given records list (placer.areas pl ws cs w) → {ys : List ℕ}
      → ys ≡ written (o.reply.number ∷ told o.reply o.lines) xs
      → entry o.reply.number (record { areas = o.areas; list = o.list }) ys ≡ build_explained K gates given records (lent_to pl ws cs w list) xs
  unfolding build_explained lent_to told
  entry_explained h o e d = rw (← e) (entry_told (lent_to pl ws cs w list) (record { areas = o.areas; list = o.list }) o.reply.number (told o.reply o.lines) xs h d)

  -- the rule that is asked for
  module _ (r : Rule?) {k : ℕ} (e : k ≡ refusal_of r) where
    -- one that is refused turns the call away
    pub explained_away : k ≢ 0 → (n : ℕ) (zs : List ℕ) → n ≡ k → zs ≡ written (n ∷ 0 ∷ 0 ∷ 0 ∷ 0 ∷ 0 ∷ 0 ∷ []) xs → entry k (lent_to pl ws cs w list) zs ≡ build_explained_by r K gates given records (lent_to pl ws cs w list) xs
    unfolding build_explained_by told rules.refuse
    explained_away h n zs p q = rw (← e) (ruled_away (lent_to pl ws cs w list) (0 ∷ 0 ∷ 0 ∷ 0 ∷ 0 ∷ 0 ∷ []) xs (build_explained K gates given records (lent_to pl ws cs w list) xs) k h (rw p at q))

    -- else the call goes on
    pub explained_on : k ≡ 0 → (E : Entry Lent) → E ≡ build_explained K gates given records (lent_to pl ws cs w list) xs → E ≡ build_explained_by r K gates given records (lent_to pl ws cs w list) xs
    unfolding build_explained_by told rules.refuse
    explained_on z E p = rw (← e) (p ∙ ruled_on (lent_to pl ws cs w list) (0 ∷ 0 ∷ 0 ∷ 0 ∷ 0 ∷ 0 ∷ []) xs (build_explained K gates given records (lent_to pl ws cs w list) xs) k z)
