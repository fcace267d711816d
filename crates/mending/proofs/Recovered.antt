-- What a crew relies on: damage of cells that a cell above fixes, and of kinds and inversions anywhere, comes back as the placer's plan. Assumes nothing.
use Prim.Native.Nat.{ℕ, ◌+◌, ◌-◌, ◌*◌, ◌≤◌, ◌<◌}
use mathlib.Core.Path.{◌≡◌, sym, ◌∙◌, ap}
use mathlib.Core.Logic.{◌⊎◌, inl, inr}
use mathlib.Core.Bool.{false}
use mathlib.Core.List.{List, ◌++◌}
use native.Mathlib.Omega.{arith}
use lib.ListN.{length, get_or, drop, replicate, length-append, length-drop, length-replicate, get_or-replicate, get_or-append, get_or-eq_default}
use lib.Seq.{ext_get_or, get_or-drop, get_or-append-add}
use Rattle.rules.specs.Lists.{padded, laid_over}
use Rattle.rules.specs.Cells.{empty, filled, rooms}
use Rattle.rules.specs.Traversal.{WordRule}
use Rattle.rules.specs.Coded.{cell_pin}
use Rattle.rules.specs.Build.{Stage, whole, cells_of, words_of, counts_of, coded_stages}
use Rattle.rules.specs.Faults.{faultless, fault_at, cut, fault}
use Rattle.coded.specs.Inputs.{Input, graph, built}
use Rattle.rules.proofs.Build.Coding.{stages_coded}
use Rattle.coded.proofs.Passing.{valid, above}
use Rattle.coded.proofs.Cells.{filled_pin}
use Rattle.coded.proofs.Coding.{not_filled}
use Rattle.coded.proofs.Reading.{fault_cases}
use Rattle.coded.proofs.Complete.{built_accepted}
use Rattle.mending.specs.Mend.{mend_stages}
use Rattle.mending.specs.Damage.{fixed_pins, Damaged}
use Rattle.mending.specs.Changes.{changes, numbers_of}
use Rattle.mending.specs.Call.{answer, rebuilt, mender}
use Rattle.mending.proofs.Sound.{recovered, length_pins}
use Rattle.mending.proofs.Built.{built_sound}
use Rattle.mending.proofs.Answers.{accepted_unchanged, answer_0}

-- a plan that the placer built into an area of L numbers, whatever follows its words and counts in their areas, and the area that came back
module _ (rule : WordRule) (I : Input) (L : ℕ) (ss : List Stage) (b : built rule I (rooms I.K L) ≡ whole ss) (more more' bad : List ℕ) where
  abbrev good : List ℕ
  good = padded L empty (cells_of (coded_stages I.K (graph I) ss))

  abbrev words : List ℕ
  words = words_of ss ++ more

  abbrev counts : List ℕ
  counts = counts_of ss ++ more'

  abbrev made : List ℕ
  made = rebuilt I.K I.gates I.given bad words counts (length ss)

  module _ (D : Damaged I.K (graph I) I.given (coded_stages I.K (graph I) ss) good bad) where
    abbrev cells : List ℕ
    cells = cells_of (coded_stages I.K (graph I) ss)

    long : length bad ≡ length cells + (L - length cells)
    unfolding padded
    long = D.size ∙ length-append cells (replicate (L - length cells) empty) ∙ ap (λ (n : ℕ). length cells + n) (length-replicate (L - length cells) empty)

    same_cells : cells_of (mend_stages I.K (graph I) I.given (cut (length ss) I.K bad words counts)) ≡ cells
    unfolding padded
    same_cells =
        ap (λ (n : ℕ). cells_of (mend_stages I.K (graph I) I.given (cut n I.K bad words counts))) (sym (stages_coded I.K (graph I) ss))
        ∙ recovered I.K (graph I) (valid I) (above I) I.given (coded_stages I.K (graph I) ss) bad words counts (built_sound rule I (rooms I.K L) ss b) (omega (arith, long))
        (λ i h f. D.tops i (omega (arith, long, D.size)) f ∙ ap cell_pin (get_or-append cells (replicate (L - length cells) empty) empty i h))

    -- nothing stands behind the stages
    pub behind : drop (length cells) bad ≡ replicate (L - length cells) empty
    unfolding padded filled empty
    behind = ext_get_or empty (drop (length cells) bad) (replicate (L - length cells) empty) (length-drop (length cells) bad ∙ omega (arith, long, length-replicate (L - length cells) empty))
        (λ j h.
        let i : length cells + j < length bad = omega (arith, length-drop (length cells) bad) in
        let free : filled (get_or (fixed_pins I.K (graph I) I.given (coded_stages I.K (graph I) ss)) (length cells + j) empty) ≡ false =
        ap filled (get_or-eq_default (fixed_pins I.K (graph I) I.given (coded_stages I.K (graph I) ss)) empty (omega (arith, length_pins I.K (graph I) I.given (coded_stages I.K (graph I) ss)))) in
        let none : get_or (replicate (L - length cells) empty) j empty ≡ empty = get_or-replicate (L - length cells) j empty empty (omega (arith, long)) in
        let p : cell_pin (get_or bad (length cells + j) empty) ≡ cell_pin empty =
        D.tops (length cells + j) (omega (arith, D.size)) free ∙ ap cell_pin (get_or-append-add cells (replicate (L - length cells) empty) j empty ∙ none) in
        get_or-drop (length cells) bad j empty ∙ not_filled (get_or bad (length cells + j) empty) (sym (filled_pin (get_or bad (length cells + j) empty)) ∙ ap filled p ∙ filled_pin empty) ∙ sym none)

    -- A sheet with the placer's pins wherever no cell above fixes one mends to the placer's plan,
    pub sheet_recovered : made ≡ good
    unfolding rebuilt laid_over padded
    sheet_recovered = (λ i. same_cells i ++ drop (length (same_cells i)) bad) ∙ ap (λ (xs : List ℕ). cells ++ xs) behind

    -- which passes the check.
    pub recovered_passes : fault I.K I.gates I.given I.records made words counts (length ss) ≡ faultless
    recovered_passes = rw sheet_recovered (built_accepted rule I L ss b more more')

    -- And the call on it, where the check finds it at fault and the list is long enough, hands it back.
    pub call_recovered : (need : ℕ) (list work : List ℕ) (k p : ℕ) → fault I.K I.gates I.given I.records bad words counts (length ss) ≡ fault_at k p → 4 * length (changes I.K bad good) ≤ length list →
        mender I.K need I.sized I.gates I.given I.records bad words counts list work (length ss)
        ≡ record { reply = answer 0 0 0 (length (changes I.K bad good)); plan = good; list = laid_over (numbers_of (changes I.K bad good)) list; work = laid_over (replicate need 0) work }
    call_recovered need list work k p f h =
        answer_0 I.K need I.sized I.gates I.given I.records bad words counts list work (length ss) I.passes k p f recovered_passes (rw sheet_recovered h)
        ∙ (λ i. record { reply = answer 0 0 0 (length (changes I.K bad (sheet_recovered i))); plan = sheet_recovered i; list = laid_over (numbers_of (changes I.K bad (sheet_recovered i))) list; work = laid_over (replicate need 0) work })

    -- Whatever the check says of it: it comes back as it is, accepted, or as the placer's plan.
    pub call_damaged : (need : ℕ) (list work : List ℕ) → 4 * length (changes I.K bad good) ≤ length list →
        ((fault I.K I.gates I.given I.records bad words counts (length ss) ≡ faultless)
        × (mender I.K need I.sized I.gates I.given I.records bad words counts list work (length ss) ≡ record { reply = answer 0 0 0 0; plan = bad; list = list; work = laid_over (replicate need 0) work }))
        ⊎ (mender I.K need I.sized I.gates I.given I.records bad words counts list work (length ss)
        ≡ record { reply = answer 0 0 0 (length (changes I.K bad good)); plan = good; list = laid_over (numbers_of (changes I.K bad good)) list; work = laid_over (replicate need 0) work })
    call_damaged need list work h = fault_cases (fault I.K I.gates I.given I.records bad words counts (length ss))
        (λ e. inl (e, accepted_unchanged I.K need I.sized I.gates I.given I.records bad words counts list work (length ss) I.passes e))
        (λ k p e. inr (call_recovered need list work k p e h))
