-- The lines that are written for a job stand, and say what the job says. Assumes nothing.
use Prim.Native.Nat.{ℕ, zero, suc, ◌+◌, ◌<◌}
use mathlib.Core.Path.{◌≡◌, refl, sym, ap, ◌∙◌}
use mathlib.Core.Logic.{◌⊎◌, inl, inr}
use mathlib.Core.Bool.{true, not}
use mathlib.Core.List.{List, [], ◌∷◌, ◌++◌, append_assoc}
use native.Mathlib.Omega.{arith}
use lib.Dec.{leb, eqb}
use lib.ListN.{length, get_or, get_or-eq_default}
use borrow.Author.Tests.{leb-true, leb-false}
use Rattle.rules.specs.Lists.{nothing, mem, every, gather, In, Out}
use Rattle.rules.specs.Graph.{Node, leaf, gate, pin_of, literal_of}
use Rattle.rules.proofs.Lists.Members.{split, true_false, in_here, in_there, in_cons, in_nil, in_append, in_append_left, in_append_right, out_append}
use Rattle.aiger_form.specs.Aag.{Item, gate_line, Spot, defines, uses, items, gather_items, defined, is_text, stands, first_bad, reset_of, first_reset, driver, driven, record_of, latch_of, gate_rows, different}
use Rattle.aiger_form.specs.Meaning.{Among, here, there}
use Rattle.aiger_form.proofs.Differ.{Differ, differ_append, cons_differ, out_in, in_every}
use Rattle.aiger_form.proofs.Flat.{data_numbers, out_numbers}
use Rattle.aiger_form.proofs.Sections.{input_items, latch_items, output_items, gate_items}

pin_literal : (p : ℕ) → pin_of (literal_of p 0) ≡ p
unfolding pin_of literal_of
pin_literal p = omega arith

-- ---- lines that say what a graph says

-- a graph that check 3 lets pass: pin 0 is no gate, and operands are pins of the graph
pub record GatesRight (g : List Node) : Type 0 where
  pub above : (p a b : ℕ) → get_or g p leaf ≡ gate a b → 0 < p
  pub pins : (p a b : ℕ) → get_or g p leaf ≡ gate a b → (pin_of a < length g) × (pin_of b < length g)

-- a line that says what a graph says
pub record Fine (g : List Node) (x : Item) : Type 0 where
  pub text : is_text x ≡ true
  pub known : (q : ℕ) → In q (uses x) → q < length g
  pub reset : reset_of x ≡ 0
  pub above : (q : ℕ) → In q (defines x) → 0 < q
  pub drives : (q : ℕ) → In q (defines x) → driver x ≡ get_or g q leaf

-- so for all lines
abbrev pub AllFine : List Node → List Item → Type 0
AllFine g xs = (x : Item) → Among x xs → Fine g x

among_append : (xs ys : List Item) {x : Item} → Among x (xs ++ ys) → Among x xs ⊎ Among x ys
among_append [] ys i = inr i
among_append (z ∷ xs) ys here = inl here
among_append (z ∷ xs) ys (there i) = elim (among_append xs ys i) [ inl j ↦ inl (there j) | inr j ↦ inr j ]

-- two lists of such lines
pub both_fine : (g : List Node) (xs ys : List Item) → AllFine g xs → AllFine g ys → AllFine g (xs ++ ys)
both_fine g xs ys a b x i = elim (among_append xs ys i) [ inl j ↦ a x j | inr j ↦ b x j ]

-- ---- they stand

clean_head : (g : List Node) (all seen : List ℕ) (x : Item) → Fine g x → ((q : ℕ) → q < length g → In q all) → ((q : ℕ) → In q (defines x) → Out q seen) → stands all seen x ≡ true
unfolding stands
clean_head g all seen x F k o =
    let a : every (λ v. not (mem v seen)) (defines x) ≡ true = in_every (λ v. not (mem v seen)) (defines x) (λ q i. ap not (o q i)) in
    let b : every (λ v. mem v all) (uses x) ≡ true = in_every (λ v. mem v all) (uses x) (λ q i. k q (F.known q i)) in
    rw (F.text, a, b)

-- such lines stand
pub clean : (g : List Node) (all seen : List ℕ) (ss : List Spot) → AllFine g (items ss) → ((q : ℕ) → q < length g → In q all) → Differ (defined (items ss)) → ((q : ℕ) → In q (defined (items ss)) → Out q seen) → first_bad all seen ss ≡ nothing
unfolding first_bad items defined gather_items
clean g all seen [] F k d o = refl
clean g all seen (s ∷ ss) F k d o =
    let x = s.item in
    let w = differ_append (defines x) (defined (items ss)) d in
    let t : stands all seen x ≡ true = clean_head g all seen x (F x here) k (λ q i. o q (in_append_left q (defines x) (defined (items ss)) i)) in
    rw (t, first_bad) (clean g all (defines x ++ seen) ss (λ y i. F y (there i)) k w.0 (λ q i. out_append q (defines x) seen (w.1 q i) (o q (in_append_right q (defines x) (defined (items ss)) i))))

-- none has a reset value
pub no_resets : (g : List Node) (ss : List Spot) → AllFine g (items ss) → first_reset ss ≡ nothing
unfolding first_reset items
no_resets g [] F = refl
no_resets g (s ∷ ss) F = let e = (F s.item here).reset in let z : eqb (reset_of s.item) 0 ≡ true = rw e refl in rw (z, first_reset) (no_resets g ss (λ y i. F y (there i)))

-- ---- they drive what the graph drives

-- they drive what the graph drives
pub driven_in : (g : List Node) (xs : List Item) → AllFine g xs → (p : ℕ) → In p (defined xs) → driven xs p ≡ get_or g p leaf
unfolding driven defined gather_items
driven_in g [] F p i = in_nil p i
driven_in g (x ∷ xs) F p i = split (mem p (defines x))
    (λ t. rw (t, driven) ((F x here).drives p t))
    (λ t. rw (t, driven) (driven_in g xs (λ y j. F y (there j)) p (elim (in_append p (defines x) (defined xs) i) [ inl j ↦ true_false j t | inr j ↦ j ])))

-- and pin 0 not
pub driven_zero : (g : List Node) (xs : List Item) → AllFine g xs → driven xs 0 ≡ leaf
unfolding driven
driven_zero g [] F = refl
driven_zero g (x ∷ xs) F = split (mem 0 (defines x))
    (λ t. absurd (omega (arith, (F x here).above 0 t)))
    (λ t. rw (t, driven) (driven_zero g xs (λ y j. F y (there j))))

-- ---- section by section: they are fine

module _ (g : List Node) where
  one_pin : {P : Type 0} (p q : ℕ) → In q (pin_of (literal_of p 0) ∷ []) → (q ≡ p → P) → P
  one_pin p q i k = elim (in_cons q (pin_of (literal_of p 0)) [] i) [ inl e ↦ k (e ∙ pin_literal p) | inr e ↦ in_nil q e ]

  -- an input's lines are such
  pub inputs_fine : (ps : List ℕ) → ((p : ℕ) → In p ps → (0 < p) × (get_or g p leaf ≡ leaf)) → AllFine g (input_items ps)
  unfolding input_items
  inputs_fine (p ∷ ps) h x here = let w = h p (in_here p ps) in unfold is_text uses defines reset_of driver in (record {
    text = refl;
    known = λ q i. in_nil q i;
    reset = refl;
    above = λ q i. one_pin p q i (λ e. rw e w.0);
    drives = λ q i. one_pin p q i (λ e. rw e (sym w.1));
  })
  inputs_fine (p ∷ ps) h x (there i) = inputs_fine ps (λ q j. h q (in_there q p ps j)) x i
  inputs_fine [] h x x4 = elim x4 [ ]

  -- a latch's
  pub latches_fine : (ps ds : List ℕ) → ((p : ℕ) → In p ps → (0 < p) × (get_or g p leaf ≡ leaf)) → ((d : ℕ) → In d ds → pin_of d < length g) → AllFine g (latch_items ps ds)
  unfolding latch_items
  latches_fine (p ∷ ps) (d ∷ ds) h k x here = let w = h p (in_here p ps) in unfold is_text uses defines reset_of driver in (record {
    text = refl;
    known = λ q i. elim (in_cons q (pin_of d) [] i) [ inl e ↦ rw e (k d (in_here d ds)) | inr e ↦ in_nil q e ];
    reset = refl;
    above = λ q i. one_pin p q i (λ e. rw e w.0);
    drives = λ q i. one_pin p q i (λ e. rw e (sym w.1));
  })
  latches_fine (p ∷ ps) (d ∷ ds) h k x (there i) = latches_fine ps ds (λ q j. h q (in_there q p ps j)) (λ q j. k q (in_there q d ds j)) x i
  latches_fine [] ds h k x x5 = elim x5 [ ]
  latches_fine (p ∷ ps) [] h k x x10 = elim x10 [ ]

  -- an output's
  pub outputs_fine : (ls : List ℕ) → ((l : ℕ) → In l ls → pin_of l < length g) → AllFine g (output_items ls)
  unfolding output_items
  outputs_fine (l ∷ ls) k x here = unfold is_text uses defines reset_of driver in (record {
    text = refl;
    known = λ q i. elim (in_cons q (pin_of l) [] i) [ inl e ↦ rw e (k l (in_here l ls)) | inr e ↦ in_nil q e ];
    reset = refl;
    above = λ q i. in_nil q i;
    drives = λ q i. in_nil q i;
  })
  outputs_fine (l ∷ ls) k x (there i) = outputs_fine ls (λ q j. k q (in_there q l ls j)) x i
  outputs_fine [] k x x4 = elim x4 [ ]

  -- a gate is a pin of the graph
  pub inside : (p a b : ℕ) → get_or g p leaf ≡ gate a b → p < length g
  inside p a b e = split (leb (suc p) (length g)) (λ t. leb-true (suc p) (length g) t)
      (λ t. absurd (let h = leb-false (suc p) (length g) t in let d : get_or g p leaf ≡ leaf = get_or-eq_default g leaf {n = p} (omega arith) in let z : ◌≡◌ {A = ℕ} 0 1 = cc in omega arith))

  gate_fine : GatesRight g → (p a b : ℕ) → get_or g p leaf ≡ gate a b → Fine g (gate_line (literal_of p 0) a b)
  unfolding is_text uses defines reset_of driver
  gate_fine R p a b e = let w = R.pins p a b e in record {
    text = refl;
    known = λ q i. elim (in_cons q (pin_of a) (pin_of b ∷ []) i) [
      | inl c ↦ rw c w.0
      | inr j ↦ elim (in_cons q (pin_of b) [] j) [ inl c ↦ rw c w.1 | inr c ↦ in_nil q c ]
    ];
    reset = refl;
    above = λ q i. one_pin p q i (λ c. rw c (R.above p a b e));
    drives = λ q i. one_pin p q i (λ c. rw c (sym e));
  }

  suc_plus : (p k : ℕ) → p + suc k ≡ suc p + k
  suc_plus p k = omega arith

  -- a gate's
  pub gates_fine : (R : GatesRight g) (p : ℕ) (t : List Node) → ((k a b : ℕ) → get_or t k leaf ≡ gate a b → get_or g (p + k) leaf ≡ gate a b) → AllFine g (gate_items p t)
  unfolding gate_items
  gates_fine R p (leaf ∷ t) h x i = gates_fine R (suc p) t (λ k a b e. rw (suc_plus p k) at (h (suc k) a b e)) x i
  gates_fine R p (gate a b ∷ t) h x here =
      let z : p + 0 ≡ p = omega arith in
      let e : get_or g p leaf ≡ gate a b = rw z at (h 0 a b refl) in
      gate_fine R p a b e
  gates_fine R p (gate a b ∷ t) h x (there i) = gates_fine R (suc p) t (λ k c d e. rw (suc_plus p k) at (h (suc k) c d e)) x i
  gates_fine R p [] h x x6 = elim x6 [ ]

-- ---- what they define, and the records and leaves that they become

-- what two lists of lines give
pub gather_append : (f : Item → List ℕ) (xs ys : List Item) → gather_items f (xs ++ ys) ≡ gather_items f xs ++ gather_items f ys
unfolding gather_items
gather_append f [] ys = refl
gather_append f (x ∷ xs) ys = rw (gather_append f xs ys) (sym (append_assoc (f x) (gather_items f xs) (gather_items f ys)))

-- the pins of gates
unfoldable pub gate_pins : ℕ → List Node → List ℕ
gate_pins p [] = []
gate_pins p (leaf ∷ g) = gate_pins (suc p) g
gate_pins p (gate a b ∷ g) = p ∷ gate_pins (suc p) g

-- what the lines of inputs define
pub inputs_define : (ps : List ℕ) → gather_items defines (input_items ps) ≡ ps
unfolding input_items gather_items defines
inputs_define [] = refl
inputs_define (p ∷ ps) = rw (pin_literal p, inputs_define ps)

-- of latches
pub latches_define : (ps ds : List ℕ) → length ds ≡ length ps → gather_items defines (latch_items ps ds) ≡ ps
unfolding latch_items gather_items defines
latches_define [] ds e = refl
latches_define (p ∷ ps) [] e = absurd (omega arith)
latches_define (p ∷ ps) (d ∷ ds) e = rw (pin_literal p, latches_define ps ds (omega arith))

-- of outputs
pub outputs_define : (ls : List ℕ) → gather_items defines (output_items ls) ≡ []
unfolding output_items gather_items defines
outputs_define [] = refl
outputs_define (l ∷ ls) = outputs_define ls

-- of gates
pub gates_define : (p : ℕ) (g : List Node) → gather_items defines (gate_items p g) ≡ gate_pins p g
unfolding gate_items gather_items defines gate_pins
gates_define p [] = refl
gates_define p (leaf ∷ g) = gates_define (suc p) g
gates_define p (gate a b ∷ g) = rw (pin_literal p, gates_define (suc p) g)

-- the records of inputs
pub inputs_record : (ps : List ℕ) → gather_items record_of (input_items ps) ≡ []
unfolding input_items gather_items record_of
inputs_record [] = refl
inputs_record (p ∷ ps) = inputs_record ps

-- of latches
pub latches_record : (ps ds : List ℕ) → length ds ≡ length ps → gather_items record_of (latch_items ps ds) ≡ gather data_numbers ds
unfolding latch_items gather_items record_of gather
latches_record [] [] e = refl
latches_record [] (d ∷ ds) e = absurd (omega arith)
latches_record (p ∷ ps) [] e = refl
latches_record (p ∷ ps) (d ∷ ds) e = rw (latches_record ps ds (omega arith))

-- of outputs
pub outputs_record : (ls : List ℕ) → gather_items record_of (output_items ls) ≡ gather out_numbers ls
unfolding output_items gather_items record_of gather
outputs_record [] = refl
outputs_record (l ∷ ls) = rw (outputs_record ls)

-- of gates
pub gates_record : (p : ℕ) (g : List Node) → gather_items record_of (gate_items p g) ≡ []
unfolding gate_items gather_items record_of
gates_record p [] = refl
gates_record p (leaf ∷ g) = gates_record (suc p) g
gates_record p (gate a b ∷ g) = gates_record (suc p) g

-- the leaves of inputs
pub inputs_latch : (ps : List ℕ) → gather_items latch_of (input_items ps) ≡ []
unfolding input_items gather_items latch_of
inputs_latch [] = refl
inputs_latch (p ∷ ps) = inputs_latch ps

-- of latches
pub latches_latch : (ps ds : List ℕ) → length ds ≡ length ps → gather_items latch_of (latch_items ps ds) ≡ ps
unfolding latch_items gather_items latch_of
latches_latch [] ds e = refl
latches_latch (p ∷ ps) [] e = absurd (omega arith)
latches_latch (p ∷ ps) (d ∷ ds) e = rw (pin_literal p, latches_latch ps ds (omega arith))

-- of outputs
pub outputs_latch : (ls : List ℕ) → gather_items latch_of (output_items ls) ≡ []
unfolding output_items gather_items latch_of
outputs_latch [] = refl
outputs_latch (l ∷ ls) = outputs_latch ls

-- of gates
pub gates_latch : (p : ℕ) (g : List Node) → gather_items latch_of (gate_items p g) ≡ []
unfolding gate_items gather_items latch_of
gates_latch p [] = refl
gates_latch p (leaf ∷ g) = gates_latch (suc p) g
gates_latch p (gate a b ∷ g) = gates_latch (suc p) g

-- ---- the pins of gates

-- a gate at a pin
pub record GateAt (p q : ℕ) (g : List Node) : Type 0 where
  pub k : ℕ
  pub a : ℕ
  pub b : ℕ
  pub place : q ≡ p + k
  pub is : get_or g k leaf ≡ gate a b

-- a pin of a gate has one
pub gate_at : (p q : ℕ) (g : List Node) → In q (gate_pins p g) → GateAt p q g
unfolding gate_pins
gate_at p q [] i = in_nil q i
gate_at p q (leaf ∷ g) i = let G = gate_at (suc p) q g i in record { k = suc G.k; a = G.a; b = G.b; place = omega (arith, G.place); is = G.is }
gate_at p q (gate a b ∷ g) i = elim (in_cons q p (gate_pins (suc p) g) i) [
  | inl e ↦ record { k = 0; a = a; b = b; place = omega arith; is = refl }
  | inr j ↦ let G = gate_at (suc p) q g j in record { k = suc G.k; a = G.a; b = G.b; place = omega (arith, G.place); is = G.is }
]

-- a gate's pin is among them
pub at_gate : (p k a b : ℕ) (g : List Node) → get_or g k leaf ≡ gate a b → In (p + k) (gate_pins p g)
unfolding gate_pins
at_gate p k a b [] e = absurd (let z : ◌≡◌ {A = ℕ} 0 1 = cc in omega arith)
at_gate p zero a b (leaf ∷ g) e = absurd (let z : ◌≡◌ {A = ℕ} 0 1 = cc in omega arith)
at_gate p (suc k) a b (leaf ∷ g) e = let z : p + suc k ≡ suc p + k = omega arith in rw z (at_gate (suc p) k a b g e)
at_gate p zero a b (gate c d ∷ g) e = let z : p + 0 ≡ p = omega arith in rw z (in_here p (gate_pins (suc p) g))
at_gate p (suc k) a b (gate c d ∷ g) e = let z : p + suc k ≡ suc p + k = omega arith in rw z (in_there (suc p + k) p (gate_pins (suc p) g) (at_gate (suc p) k a b g e))

-- they differ
pub gates_differ : (p : ℕ) (g : List Node) → Differ (gate_pins p g)
unfolding gate_pins different
gates_differ p [] = refl
gates_differ p (leaf ∷ g) = gates_differ (suc p) g
gates_differ p (gate a b ∷ g) = cons_differ p (gate_pins (suc p) g) (out_in p (gate_pins (suc p) g) (λ i. let G = gate_at (suc p) p g i in omega (arith, G.place))) (gates_differ (suc p) g)

-- as many as rows
pub gates_count : (p : ℕ) (g : List Node) → length (gate_rows p g) ≡ length (gate_pins p g)
unfolding gate_rows gate_pins
gates_count p [] = refl
gates_count p (leaf ∷ g) = gates_count (suc p) g
gates_count p (gate a b ∷ g) = ap suc (gates_count (suc p) g)
