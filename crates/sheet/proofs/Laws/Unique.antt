-- Any two outcomes that the promises of `read` and `write` allow are the same, answer and areas. Assumes nothing.
use mathlib.Core.Bool.{◌&&◌}
use mathlib.Core.List.{List, [], ◌∷◌}
use mathlib.Core.Logic.{◌≢◌}
use mathlib.Core.Path.{◌≡◌, refl, sym, ap, ◌∙◌}
use native.Mathlib.Omega.{arith}
use Prim.Native.Nat.{ℕ, ◌≤◌}
use lib.Dec.{leb, ltb, eqb}
use lib.ListN.{length}
use Rattle.rules.specs.Graph.{Node, graph_of}
use Rattle.rules.specs.Job.{Read, cut, got, is_padding, File?, no_file, file}
use Rattle.rules.proofs.Lists.Members.{split}
use Rattle.sheet_form.specs.Forms.{Form, sheet_one, sheet_two}
use Rattle.sheet_form.specs.Sheets.{Sheet, Sheet?, refused, sheet, accept, read_sheet}
use Rattle.sheet_form.specs.Lifting.{stages_lift, lift, read_either}
use Rattle.sheet_form.specs.Calls.{Areas, areas, Written, unwritten, into, sheet_in, writer, Reply, Loaded, unread, roomy, from, reader}
use Rattle.std.specs.Prelude.{Result, Ok, Err}
use Rattle.refusals.specs.declared.Refusal.{Refusal}
use Rattle.refusals.specs.Numbers.{number_said}
use Rattle.refusals.proofs.Told.{one_answer}
use Rattle.sheet_read.specs.declared.walk.Contents.{Contents}
use Rattle.sheet_read.specs.Walk.{reply, told}
use Rattle.sheet_write.specs.Fits.{wrote}
use Rattle.sheet.proofs.Laws.Calls.{bytes_are}

-- two answers of `read` and their areas agree in everything; 23 alone does not tell its pin
pub record Same (a b : Result Contents Refusal) (p w c p' w' c' : List ℕ) : Type 0 where
  pub number : (reply a).number ≡ (reply b).number
  pub height : (reply a).height ≡ (reply b).height
  pub stages : (reply a).stages ≡ (reply b).stages
  pub words : (reply a).words ≡ (reply b).words
  pub plan_area : p ≡ p'
  pub words_area : w ≡ w'
  pub counts_area : c ≡ c'
  pub answer : number_said a ≢ 23 → a ≡ b

number_is : (a : Result Contents Refusal) → (reply a).number ≡ number_said a
number_is (Ok s) = refl
number_is (Err why) = refl

-- the contents that a reply tells
contents_told : Reply → Contents
contents_told r = record { height = r.height; stages = r.stages; words = r.words }

contents_are : (a : Result Contents Refusal) (s : Contents) → a ≡ Ok s → contents_told (reply a) ≡ s
unfolding contents_told
contents_are a s e = rw e refl

-- two that tell the same outcome do
pub one_outcome : (o : Loaded) (a b : Result Contents Refusal) (p w c p' w' c' : List ℕ) → told a (areas p w c) ≡ o → told b (areas p' w' c') ≡ o → Same a b p w c p' w' c'
one_outcome o a b p w c p' w' c' d e =
    let s : told a (areas p w c) ≡ told b (areas p' w' c') = d ∙ sym e in
    let n : number_said a ≡ number_said b = sym (number_is a) ∙ ap (λ (x : Loaded). x.reply.number) s ∙ number_is b in
    record {
      number = ap (λ (x : Loaded). x.reply.number) s;
      height = ap (λ (x : Loaded). x.reply.height) s;
      stages = ap (λ (x : Loaded). x.reply.stages) s;
      words = ap (λ (x : Loaded). x.reply.words) s;
      plan_area = ap (λ (x : Loaded). x.areas.plan) s;
      words_area = ap (λ (x : Loaded). x.areas.words) s;
      counts_area = ap (λ (x : Loaded). x.areas.counts) s;
      answer = λ k. one_answer a b n k (λ i j q r. sym (contents_are a i q) ∙ ap (λ (x : Loaded). contents_told x.reply) s ∙ contents_are b j r);
    }

written_is : (w : Result ℕ Refusal) (bs : List ℕ) → (wrote w bs).number ≡ number_said w
written_is (Ok size) bs = refl
written_is (Err why) bs = refl

length_is : (w : Result ℕ Refusal) (size : ℕ) (bs : List ℕ) → w ≡ Ok size → (wrote w bs).length ≡ size
length_is w size bs e = rw e refl

-- and of `write`: number, length and bytes, and the answer but where 23 does not tell its pin
pub one_written : (o : Written) (w w' : Result ℕ Refusal) (bs bs' : List ℕ) → wrote w bs ≡ o → wrote w' bs' ≡ o →
    ((wrote w bs).number ≡ (wrote w' bs').number) × ((wrote w bs).length ≡ (wrote w' bs').length) × (bs ≡ bs') × (number_said w ≢ 23 → w ≡ w')
one_written o w w' bs bs' d e =
    let s : wrote w bs ≡ wrote w' bs' = d ∙ sym e in
    let n : (wrote w bs).number ≡ (wrote w' bs').number = ap (λ (x : Written). x.number) s in
    let l : (wrote w bs).length ≡ (wrote w' bs').length = ap (λ (x : Written). x.length) s in
    let m : number_said w ≡ number_said w' = sym (written_is w bs) ∙ n ∙ written_is w' bs' in
    (n, l, sym (bytes_are w bs) ∙ ap (λ (x : Written). x.bytes) s ∙ bytes_are w' bs', λ k. one_answer w w' m k (λ i j p q. sym (length_is w i bs p) ∙ l ∙ length_is w' j bs' q))

-- ---- one call

-- bytes that are no sheet are refused with 16 at most
abbrev Few : Sheet? → Type 0
Few (refused n) = n ≤ 16
Few (sheet S) = Unit {0}

few_accepted : (r : Read Sheet) → Few (accept r)
unfolding accept
few_accepted cut = omega arith
few_accepted (got S bs) = split (is_padding bs) (λ t. rw (t, accept) tt) (λ f. rw (f, accept) (omega arith))

few_sheet : (F : Form) (bs : List ℕ) → Few (read_sheet F bs)
unfolding read_sheet
few_sheet F [] = omega arith
few_sheet F (b ∷ bs) = split (eqb b F.number) (λ t. rw (t, read_sheet) (few_accepted _)) (λ f. rw (f, read_sheet) (omega arith))

few_lifted : (g : List Node) (s : Sheet?) → Few s → Few (lift g s)
unfolding lift
few_lifted g (refused n) h = h
few_lifted g (sheet S) h = split (stages_lift S.height g S.stages) (λ t. rw (t, lift) tt) (λ f. rw (f, lift) (omega arith))

few_either : (gates bytes : List ℕ) → Few (read_either gates bytes)
unfolding read_either
few_either gates [] = omega arith
few_either gates (b ∷ bs) = split (eqb b 1 && ltb 0 (length gates))
    (λ t. rw (t, read_either) (few_lifted (graph_of gates) _ (few_sheet sheet_one (b ∷ bs))))
    (λ f. rw (f, read_either) (few_sheet sheet_two (b ∷ bs)))

few_from : (s : Sheet?) (a : Areas) → Few s → (from s a).reply.number ≤ 17
unfolding from unread
few_from (refused n) a h = omega (arith, h)
few_from (sheet S) a h = split (roomy S a) (λ t. rw (t, from) (omega arith)) (λ f. rw (f, from) (omega arith))

-- two answers that the promise of one call of `read` allows, and their areas, are the same
pub one_call : (gates bytes : List ℕ) (at : Areas) (a b : Result Contents Refusal) (p w c p' w' c' : List ℕ) →
    told a (areas p w c) ≡ reader gates bytes at → told b (areas p' w' c') ≡ reader gates bytes at → (a ≡ b) × (p ≡ p') × (w ≡ w') × (c ≡ c')
unfolding reader
one_call gates bytes at a b p w c p' w' c' d e =
    let s = one_outcome _ a b p w c p' w' c' d e in
    let n : number_said a ≡ (from (read_either gates bytes) at).reply.number = sym (number_is a) ∙ ap (λ (x : Loaded). x.reply.number) d in
    (s.answer (λ k. omega (arith, few_from (read_either gates bytes) at (few_either gates bytes), n, k)), s.plan_area, s.words_area, s.counts_area)

few_into : (f : File?) (bytes : List ℕ) → (into f bytes).number ≤ 17
unfolding into unwritten
few_into no_file bytes = omega arith
few_into (file bs) bytes = split (leb (length bs) (length bytes)) (λ t. rw (t, into) (omega arith)) (λ f. rw (f, into) (omega arith))

-- and of one of `write`, and their bytes
pub one_write_call : (F : Form) (K n : ℕ) (a : Areas) (bytes : List ℕ) (w w' : Result ℕ Refusal) (bs bs' : List ℕ) →
    wrote w bs ≡ writer F K n a bytes → wrote w' bs' ≡ writer F K n a bytes → (w ≡ w') × (bs ≡ bs')
unfolding writer
one_write_call F K n a bytes w w' bs bs' d e =
    let s = one_written _ w w' bs bs' d e in
    let m : number_said w ≡ (into (sheet_in F K n a) bytes).number = sym (written_is w bs) ∙ ap (λ (x : Written). x.number) d in
    (s.3 (λ k. omega (arith, few_into (sheet_in F K n a) bytes, m, k)), s.2)
