-- The job file as a whole: what is written is read back, and only what is written is read. Assumes nothing.
use Prim.Native.Nat.{ℕ, zero, suc, ◌-◌, ◌%◌, ◌^◌}
use mathlib.Core.Path.{◌≡◌, refl, sym, ap, ◌∙◌}
use mathlib.Core.Bool.{true, ◌&&◌}
use mathlib.Core.List.{List, [], ◌∷◌, ◌++◌}
use native.Mathlib.Omega.{arith}
use lib.Dec.{leb, ltb, eqb}
use lib.ListN.{length, drop, replicate, length-append, length-replicate}
use borrow.Author.Tests.{lt-ltb, ltb-true, eqb-true}
use Rattle.rules.specs.Inside.Files.{Held}
use Rattle.rules.specs.Lists.{every, gather}
use Rattle.rules.specs.Graph.{Node, leaf, gate, graph_of, pin_count}
use Rattle.rules.specs.Records.{Group, output, flip_flop, memory, staged_pin, Groups?, unreadable, groups, read}
use Rattle.rules.specs.Job.{Job, no_job, job, no_file, file, Read, cut, got, most_bytes, bits_of, read_fields, fits_program, is_padding, accept, read_job, pin_bits, pins_bits, group_bits, groups_bits, job_bits, to_byte, bytes_of, pin_fits, groups_fit, gates_fit, file_of, write_job}
use Rattle.rules.proofs.Lists.Members.{split, and_true}
use Rattle.rules.proofs.Job.Bits.{Bits, bits_none, bits_cons, bits_append, bits_of_lem, bits_gather, gather_width, Bytes, bytes_bits, bits_bytes}
use Rattle.rules.proofs.Job.Fields.{every_parts}
use Rattle.rules.proofs.Job.Turns.{all_got, only_held}

-- ---- padding

-- so many zero bits are all 0
pub zeros : (n : ℕ) → every (λ b. eqb b 0) (replicate n 0) ≡ true
unfolding every
zeros zero = refl
zeros (suc n) = zeros n

-- and bits that are all 0 are so many zero bits
pub zeros_only : (bs : List ℕ) → every (λ b. eqb b 0) bs ≡ true → bs ≡ replicate (length bs) 0
zeros_only [] e = refl
zeros_only (b ∷ bs) e =
    let h = every_parts (λ b. eqb b 0) b bs e in
    let z = eqb-true b 0 h.0 in
    let r = zeros_only bs h.1 in
    rw z (ap (λ (r : List ℕ). 0 ∷ r) r)

bits_zeros : (n : ℕ) → Bits (replicate n 0)
bits_zeros zero = bits_none
bits_zeros (suc n) = bits_cons (omega arith) (bits_zeros n)

bits_pins : (ns : List Node) → Bits (pins_bits ns)
unfolding pins_bits pin_bits
bits_pins [] = bits_none
bits_pins (leaf ∷ ns) = bits_cons (omega arith) (bits_pins ns)
bits_pins (gate a b ∷ ns) = bits_cons (omega arith) (bits_append (bits_of 17 a ++ bits_of 17 b) (pins_bits ns) (bits_append (bits_of 17 a) (bits_of 17 b) (bits_of_lem 17 a) (bits_of_lem 17 b)) (bits_pins ns))

bits_group : (g : Group) → Bits (group_bits g)
unfolding group_bits
bits_group (output l) = bits_append (bits_of 3 1) (bits_of 17 l) (bits_of_lem 3 1) (bits_of_lem 17 l)
bits_group (flip_flop e d) = bits_append (bits_of 3 2 ++ bits_of 17 e) (bits_of 17 d) (bits_append (bits_of 3 2) (bits_of 17 e) (bits_of_lem 3 2) (bits_of_lem 17 e)) (bits_of_lem 17 d)
bits_group (memory ls) = bits_append (bits_of 3 3) (gather (bits_of 17) ls) (bits_of_lem 3 3) (bits_gather 17 ls)
bits_group (staged_pin p) = bits_append (bits_of 3 4) (bits_of 16 p) (bits_of_lem 3 4) (bits_of_lem 16 p)

bits_groups : (gs : List Group) → Bits (groups_bits gs)
unfolding groups_bits
bits_groups [] = bits_none
bits_groups (g ∷ gs) = bits_append (group_bits g) (groups_bits gs) (bits_group g) (bits_groups gs)

-- a job is written in bits
pub bits_job : (J : Job) (gs : List Group) → Bits (job_bits J gs)
unfolding job_bits
bits_job J gs =
    bits_append _ _ (bits_append _ _ (bits_append _ _ (bits_append _ _ (bits_append _ _ (bits_append _ _ (bits_of_lem 4 J.height) (bits_of_lem 16 (pin_count J.gates - 1)))
    (bits_pins (graph_of (drop 2 J.gates)))) (bits_of_lem 16 (length J.given))) (bits_gather 16 J.given)) (bits_of_lem 16 (length gs))) (bits_groups gs)

-- padded bits fill whole bytes
pub byte_length : (bs : List ℕ) → length (to_byte bs) % 8 ≡ 0
unfolding to_byte
byte_length bs = omega (arith, length-append bs (replicate ((8 - length bs % 8) % 8) 0), length-replicate {A = ℕ} ((8 - length bs % 8) % 8) 0)

-- padded bits, packed and unpacked, are the same
pub byte_bits : (bs : List ℕ) → Bits bs → gather (bits_of 8) (bytes_of (to_byte bs)) ≡ to_byte bs
unfolding to_byte
byte_bits bs B = bytes_bits (bs ++ replicate ((8 - length bs % 8) % 8) 0) (bits_append bs (replicate ((8 - length bs % 8) % 8) 0) B (bits_zeros ((8 - length bs % 8) % 8))) (byte_length bs)

-- ---- the file

-- what makes a file of a job: it can be held, has the program's sizes, and these are its bytes
pub record Written (J : Job) (bs : List ℕ) : Type 0 where
  pub gs : List Group
  pub held : Held J gs
  pub fits : fits_program J ≡ true
  pub short : leb (length bs) most_bytes ≡ true
  pub is : bs ≡ bytes_of (to_byte (job_bits J gs))

no_file_lem : {P : Type 0} {bs : List ℕ} → no_file ≡ file bs → P
no_file_lem e = absurd (let z : ◌≡◌ {A = ℕ} 0 1 = cc in omega arith)

by_groups : (J : Job) (bs : List ℕ) (r : Groups?) → read J.records ≡ r → elim r [ unreadable ↦ no_file | groups xs ↦ file_of J xs ] ≡ file bs → Written J bs
unfolding file_of
by_groups J bs unreadable d e = no_file_lem e
by_groups J bs (groups gs) d e =
    let cs = bytes_of (to_byte (job_bits J gs)) in
    split (gates_fit J.gates && ltb (length J.given) (2 ^ 16) && every pin_fits J.given && groups_fit gs && fits_program J && leb (length cs) most_bytes)
    (λ t.
    let a = and_true (gates_fit J.gates && ltb (length J.given) (2 ^ 16) && every pin_fits J.given && groups_fit gs && fits_program J) (leb (length cs) most_bytes) t in
    let b = and_true (gates_fit J.gates && ltb (length J.given) (2 ^ 16) && every pin_fits J.given && groups_fit gs) (fits_program J) a.0 in
    let c = and_true (gates_fit J.gates && ltb (length J.given) (2 ^ 16) && every pin_fits J.given) (groups_fit gs) b.0 in
    let k = and_true (gates_fit J.gates && ltb (length J.given) (2 ^ 16)) (every pin_fits J.given) c.0 in
    let l = and_true (gates_fit J.gates) (ltb (length J.given) (2 ^ 16)) k.0 in
    let f : file cs ≡ file bs = rw (t, file_of) at e in
    let is : bs ≡ cs = cc in
    record { gs = gs; held = record { read = d; gates = l.0; few = l.1; given = k.1; groups = c.1 }; fits = b.1; short = rw is a.1; is = is })
    (λ t. no_file_lem (rw (t, file_of) at e))

-- a job that is written has all that
pub written : (J : Job) (bs : List ℕ) → write_job J ≡ file bs → Written J bs
unfolding write_job
written J bs e = by_groups J bs (read J.records) refl e

-- and a job that has all that is written
pub is_written : (J : Job) (bs : List ℕ) → Written J bs → write_job J ≡ file bs
unfolding write_job file_of
is_written J bs W =
    let H = W.held in
    let cs = bytes_of (to_byte (job_bits J W.gs)) in
    let s : leb (length cs) most_bytes ≡ true = ap (λ (xs : List ℕ). leb (length xs) most_bytes) (sym W.is) ∙ W.short in
    let t : (gates_fit J.gates && ltb (length J.given) (2 ^ 16) && every pin_fits J.given && groups_fit W.gs && fits_program J && leb (length cs) most_bytes) ≡ true = rw (H.gates, H.few, H.given, H.groups, W.fits, s) in
    rw (H.read, write_job, t, file_of) (ap file (sym W.is))

-- What is written is read back as the same job.
pub read_written : (J : Job) (bs : List ℕ) → write_job J ≡ file bs → read_job bs ≡ job J
unfolding read_job accept is_padding to_byte
read_written J bs e =
    let W = written J bs e in
    let cs = job_bits J W.gs in
    let n = (8 - length cs % 8) % 8 in
    let b : gather (bits_of 8) bs ≡ cs ++ replicate n 0 = ap (gather (bits_of 8)) W.is ∙ byte_bits cs (bits_job J W.gs) in
    let l : ltb (length {A = ℕ} (replicate n 0)) 8 ≡ true = lt-ltb (length {A = ℕ} (replicate n 0)) 8 (omega (arith, length-replicate {A = ℕ} n 0)) in
    rw (W.short, read_job, b, all_got J W.gs W.held W.fits (replicate n 0), accept, l, zeros n, W.fits)

record Accepted (r : Read Job) (J : Job) : Type 0 where
  rest : List ℕ
  is : r ≡ got J rest
  padding : is_padding rest ≡ true
  fits : fits_program J ≡ true

no_job_lem : {P : Type 0} {J : Job} → no_job ≡ job J → P
no_job_lem e = absurd (let z : ◌≡◌ {A = ℕ} 0 1 = cc in omega arith)

accepted : (r : Read Job) (J : Job) → accept r ≡ job J → Accepted r J
unfolding accept
accepted cut J e = no_job_lem e
accepted (got I rest) J e = split (is_padding rest && fits_program I)
    (λ t.
    let h = and_true (is_padding rest) (fits_program I) t in
    let d : job I ≡ job J = rw (t, accept) at e in
    let is : I ≡ J = cc in
    record { rest = rest; is = cc; padding = h.0; fits = rw is at h.1 })
    (λ t. no_job_lem (rw (t, accept) at e))

-- Only what the writer makes is read.
pub only_written : (J : Job) (bs : List ℕ) → Bytes bs → read_job bs ≡ job J → write_job J ≡ file bs
unfolding read_job is_padding to_byte
only_written J bs B e = split (leb (length bs) most_bytes)
    (λ t.
    let xs = gather (bits_of 8) bs in
    let A = accepted (read_fields xs) J (rw (t, read_job) at e) in
    let O = only_held xs (bits_gather 8 bs) A.is in
    let cs = job_bits J O.gs in
    let h = and_true (ltb (length A.rest) 8) (every (λ b. eqb b 0) A.rest) A.padding in
    let n : length A.rest ≡ (8 - length cs % 8) % 8 = omega (arith, ltb-true (length A.rest) 8 h.0, gather_width 8 bs, ap length O.is, length-append cs A.rest) in
    let z : A.rest ≡ replicate ((8 - length cs % 8) % 8) 0 = rw n at (zeros_only A.rest h.1) in
    let x : cs ++ replicate ((8 - length cs % 8) % 8) 0 ≡ xs = ap (λ (r : List ℕ). cs ++ r) (sym z) ∙ sym O.is in
    is_written J bs (record { gs = O.gs; held = O.held; fits = A.fits; short = t; is = sym (ap bytes_of x ∙ bits_bytes bs B) }))
    (λ t. no_job_lem (rw (t, read_job) at e))
