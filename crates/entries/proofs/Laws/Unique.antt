-- Any two outcomes that the promise of an entry allows are the same: number, areas and answer. Assumes nothing.
use Prim.Native.Nat.{ℕ}
use mathlib.Core.List.{List}
use mathlib.Core.Path.{◌≡◌, sym, ap, ◌∙◌}
use Rattle.rules.specs.Build.{Areas}
use Rattle.placer.specs.Answers.{areas}
use Rattle.merge_checks.specs.Values as merge
use Rattle.aiger_form.specs.Aag.{Netlist}
use Rattle.aiger_read.specs.Answers as aiger
use Rattle.sheet_form.specs.Calls as sheet
use Rattle.entries.specs.Entry.{Entry, entry}
use Rattle.entries.specs.Merge.{Lent, lent}
use Rattle.entries.specs.Fold as fold
use Rattle.entries.specs.Explain as explain
use Rattle.entries.specs.Plans as plans
use Rattle.entries.specs.Jobs.{Lists, lists}

-- of any entry, its areas as one value: `placer_depth`, `list_answer`, `write_job`, `write_aiger` and `write_sheet` lend one area
pub one_outcome : {A : Type 0} (o : Entry A) (n n' : ℕ) (a a' : A) (xs xs' : List ℕ) → entry n a xs ≡ o → entry n' a' xs' ≡ o → (n ≡ n') × (a ≡ a') × (xs ≡ xs')
unfolding entry
one_outcome {A} o n n' a a' xs xs' d e =
    let s : entry n a xs ≡ entry n' a' xs' = d ∙ sym e in
    (ap (λ (x : Entry A). x.number) s, ap (λ (x : Entry A). x.areas) s, ap (λ (x : Entry A). x.answer) s)

-- the areas of `placer_build_by`, one by one
pub one_areas : (pl ws cs w pl' ws' cs' w' : List ℕ) → areas pl ws cs w ≡ areas pl' ws' cs' w' → (pl ≡ pl') × (ws ≡ ws') × (cs ≡ cs') × (w ≡ w')
unfolding areas
one_areas pl ws cs w pl' ws' cs' w' s = (ap (λ (x : Areas). x.plan) s, ap (λ (x : Areas). x.words) s, ap (λ (x : Areas). x.counts) s, ap (λ (x : Areas). x.work) s)

-- what is lent to `merge_partitions_by`
pub one_lent : (xs ls st pl ws cs w xs' ls' st' pl' ws' cs' w' : List ℕ) → lent xs ls st pl ws cs w ≡ lent xs' ls' st' pl' ws' cs' w' → (xs ≡ xs') × (ls ≡ ls') × (st ≡ st') × (pl ≡ pl') × (ws ≡ ws') × (cs ≡ cs') × (w ≡ w')
unfolding lent merge.group_list merge.areas
one_lent xs ls st pl ws cs w xs' ls' st' pl' ws' cs' w' s = (
  ap (λ (x : Lent). x.groups.indices) s,
  ap (λ (x : Lent). x.groups.lengths) s,
  ap (λ (x : Lent). x.groups.stages) s,
  ap (λ (x : Lent). x.areas.plan) s,
  ap (λ (x : Lent). x.areas.words) s,
  ap (λ (x : Lent). x.areas.counts) s,
  ap (λ (x : Lent). x.areas.work) s,
)

-- the areas of `fold_plan`
pub one_folded : (r w r' w' : List ℕ) → fold.lent_to r w ≡ fold.lent_to r' w' → (r ≡ r') × (w ≡ w')
unfolding fold.lent_to
one_folded r w r' w' s = (ap (λ (x : fold.Lent). x.result) s, ap (λ (x : fold.Lent). x.work) s)

-- the areas of `read_job`
pub one_lists : (g v c g' v' c' : List ℕ) → lists g v c ≡ lists g' v' c' → (g ≡ g') × (v ≡ v') × (c ≡ c')
unfolding lists
one_lists g v c g' v' c' s = (ap (λ (x : Lists). x.gates) s, ap (λ (x : Lists). x.given) s, ap (λ (x : Lists). x.records) s)

-- the areas of `read_aiger`
pub one_netlist : (g r l g' r' l' : List ℕ) → aiger.areas g r l ≡ aiger.areas g' r' l' → (g ≡ g') × (r ≡ r') × (l ≡ l')
unfolding aiger.areas
one_netlist g r l g' r' l' s = (ap (λ (x : Netlist). x.gates) s, ap (λ (x : Netlist). x.records) s, ap (λ (x : Netlist). x.latches) s)

-- the areas of `read_sheet`
pub one_sheet : (p w c p' w' c' : List ℕ) → sheet.areas p w c ≡ sheet.areas p' w' c' → (p ≡ p') × (w ≡ w') × (c ≡ c')
one_sheet p w c p' w' c' s = (ap (λ (x : sheet.Areas). x.plan) s, ap (λ (x : sheet.Areas). x.words) s, ap (λ (x : sheet.Areas). x.counts) s)

-- the areas of `mend_plan`
pub one_mend : (p l w p' l' w' : List ℕ) → plans.mend_to p l w ≡ plans.mend_to p' l' w' → (p ≡ p') × (l ≡ l') × (w ≡ w')
unfolding plans.mend_to
one_mend p l w p' l' w' s = (ap (λ (x : plans.Mend). x.plan) s, ap (λ (x : plans.Mend). x.list) s, ap (λ (x : plans.Mend). x.work) s)

-- what is lent to `explain_build_by`
pub one_explained : (pl ws cs w l pl' ws' cs' w' l' : List ℕ) → explain.lent_to pl ws cs w l ≡ explain.lent_to pl' ws' cs' w' l' → (areas pl ws cs w ≡ areas pl' ws' cs' w') × (l ≡ l')
unfolding explain.lent_to
one_explained pl ws cs w l pl' ws' cs' w' l' s = (ap (λ (x : explain.Lent). x.areas) s, ap (λ (x : explain.Lent). x.list) s)
