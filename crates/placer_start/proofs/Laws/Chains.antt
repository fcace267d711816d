-- Chains of activations in the tail: walked, kept by stores behind them, and one longer. Assumes nothing.
use mathlib.Core.Path.{◌≡◌, refl, sym, ap, ◌∙◌}
use mathlib.Core.Bool.{true, false}
use mathlib.Core.List.{List, [], ◌∷◌, ◌++◌}
use Prim.Native.Nat.{ℕ, suc, ◌+◌, ◌-◌, ◌*◌, ◌<◌, ◌≤◌}
use native.Mathlib.Omega.{arith}
use lib.ListN.{length, get_or, set, length-set}
use lib.Seq.{get_or-set_same, get_or-set_other}
use Rattle.rules.specs.Lists.{mem, In}
use Rattle.rules.proofs.Lists.Members.{in_here, in_append_right}
use Rattle.columns.specs.Fields.{RANKED, RECORDS}
use Rattle.columns.proofs.Area.Frames.{frame_none, frame_then, frame_set, frame_set_tail}
use Rattle.rules.specs.Inside.Some.{Some, Every}
use Rattle.placer_start.specs.Reservation.{code_of, next_of, Chain, none, link, ChainAt, Knows, Touched, LinkAt, Linked}
use Rattle.placer_start.proofs.Laws.Given.{mem-snoc}

-- ---- walking

-- one step from one more than i
record Step (m : ℕ) (w : List ℕ) (i : ℕ) (cs : List ℕ) : Type 0 where
  pub low : next_of m w i ≤ i
  pub rest : List ℕ
  pub chain : Chain m w (next_of m w i) rest
  pub all : cs ≡ rest ++ (code_of m w i ∷ [])

module _ {m : ℕ} {w : List ℕ} where
  -- from one place there is one chain
  pub chain_same : {h : ℕ} {cs ds : List ℕ} → Chain m w h cs → Chain m w h ds → cs ≡ ds
  chain_same none none = refl
  chain_same (link {i = i} a c) (link b d) = ap (λ (l : List ℕ). l ++ (code_of m w i ∷ [])) (chain_same c d)

  -- a chain from 0 is empty
  pub chain_none : {h : ℕ} {cs : List ℕ} → Chain m w h cs → h ≡ 0 → cs ≡ []
  chain_none none e = refl
  chain_none (link a c) e = absurd (omega arith)

  step : {h : ℕ} {cs : List ℕ} → Chain m w h cs → (h ≡ 0 → ⊥) → Step m w (h - 1) cs
  step none ne = absurd (ne refl)
  step (link {i = i} {cs = cs} a c) ne = let e : suc i - 1 ≡ i = omega arith in rw e (record { low = a; rest = cs; chain = c; all = refl })

  -- any other chain holds the activation where it starts
  pub chain_some : {h : ℕ} {cs : List ℕ} → Chain m w h cs → (h ≡ 0 → ⊥) → In (code_of m w (h - 1)) cs
  chain_some c ne = let s = step c ne in rw s.all (in_append_right _ s.rest _ (in_here _ []))

-- the chain from `head`, walked as far as h
pub record Walking (m head code : ℕ) (w : List ℕ) (h : ℕ) : Type 0 where
  pub low : h ≤ head
  pub room : 16 * m + RECORDS + 2 * head ≤ length w
  pub rest : List ℕ
  pub chain : Chain m w h rest
  pub same : (cs : List ℕ) → Chain m w head cs → mem code cs ≡ mem code rest

-- at the head nothing is walked
pub walking_none : {m head code : ℕ} {w : List ℕ} → Some (λ cs. ChainAt m head cs w) → Walking m head code w head
walking_none {code = code} S = record { low = omega arith; room = S.at.room; rest = S.it; chain = S.at.chain; same = λ cs c. ap (mem code) (chain_same c S.at.chain) }

module _ {m head code h : ℕ} {w : List ℕ} (W : Walking m head code w h) where
  -- an activation met is in the chain
  pub walking_found : (h ≡ 0 → ⊥) → code_of m w (h - 1) ≡ code → Every (λ cs. ChainAt m head cs w) (λ cs. Knows code cs true)
  walking_found ne e = record { all = λ cs A. record { is = sym (W.same cs A.chain ∙ rw (← e) (chain_some W.chain ne)) } }

  -- past another one the walk goes on
  pub walking_more : (h ≡ 0 → ⊥) → (code_of m w (h - 1) ≡ code → ⊥) → (k : ℕ) → k ≡ next_of m w (h - 1) → Walking m head code w k
  walking_more ne other k e =
      let s = step W.chain ne in
      rw e (record {
        low = omega (arith, s.low, W.low);
        room = W.room;
        rest = s.rest;
        chain = s.chain;
        same = λ cs c. W.same cs c ∙ ap (mem code) s.all ∙ mem-snoc code (code_of m w (h - 1)) s.rest (λ d. other (sym d));
      })

  -- each step goes to a lower index
  pub walking_less : (h ≡ 0 → ⊥) → (k : ℕ) → k ≡ next_of m w (h - 1) → k < h
  walking_less ne k e = let s = step W.chain ne in omega (arith, s.low)

  -- at the chain's end the activation is not in it
  pub walking_done : h ≡ 0 → Every (λ cs. ChainAt m head cs w) (λ cs. Knows code cs false)
  unfolding mem
  walking_done e = record { all = λ cs A. record { is = sym (W.same cs A.chain ∙ ap (mem code) (chain_none W.chain e)) } }

-- ---- what is touched

-- nothing is touched, so nothing but the reservation's numbers is
pub touched_none : {m e : ℕ} {w : List ℕ} → Touched m e w w
touched_none = record { frame = frame_none; low = λ j h. refl; past = λ j h. refl }

-- two changes are one, up to the later index
pub touched_then : {m e d : ℕ} {u v w : List ℕ} → e ≤ d → Touched m e u v → Touched m d v w → Touched m d u w
touched_then h a b = record {
  frame = frame_then a.frame b.frame;
  low = λ j k. b.low j k ∙ a.low j k;
  past = λ j k. b.past j k ∙ a.past j (omega arith);
}

-- ---- one longer

module _ {m k p head code : ℕ} {w w' : List ℕ} (A : LinkAt m k p head code w) (L : Linked m k p head code w w') where
  abbrev w₁ : List ℕ
  w₁ = set w (16 * m + (RECORDS + 2 * k)) code

  abbrev w₂ : List ℕ
  w₂ = set w₁ (16 * m + (RECORDS + 2 * k + 1)) head

  -- anywhere but at the three stores
  elsewhere : (j : ℕ) → (j ≡ 16 * m + (RECORDS + 2 * k) → ⊥) → (j ≡ 16 * m + (RECORDS + 2 * k + 1) → ⊥) → (j ≡ RANKED * m + p → ⊥) → get_or w' j 0 ≡ get_or w j 0
  elsewhere j a b c = rw L.is (get_or-set_other w₂ (RANKED * m + p) j (k + 1) 0 c ∙ get_or-set_other w₁ (16 * m + (RECORDS + 2 * k + 1)) j head 0 b ∙ get_or-set_other w (16 * m + (RECORDS + 2 * k)) j code 0 a)

  -- the pin's chain now starts at the new index
  pub link_head : get_or w' (RANKED * m + p) 0 ≡ k + 1
  link_head = rw L.is (get_or-set_same w₂ (RANKED * m + p) (k + 1) 0 (simp length-set (omega (arith, A.room, A.pin))))

  -- other pins' chains start where they did
  pub link_heads : (q : ℕ) → q < m → (q ≡ p → ⊥) → get_or w' (RANKED * m + q) 0 ≡ get_or w (RANKED * m + q) 0
  link_heads q h ne = elsewhere (RANKED * m + q) (λ e. omega arith) (λ e. omega arith) (λ e. ne (omega arith))

  -- the new index holds the activation
  pub link_code : code_of m w' k ≡ code
  link_code = rw L.is (get_or-set_other w₂ (RANKED * m + p) _ (k + 1) 0 (λ e. omega (arith, A.pin)) ∙ get_or-set_other w₁ _ _ head 0 (λ e. omega arith) ∙ get_or-set_same w _ code 0 (omega (arith, A.room)))

  -- the new index leads to the former head
  pub link_next : next_of m w' k ≡ head
  link_next = rw L.is (get_or-set_other w₂ (RANKED * m + p) _ (k + 1) 0 (λ e. omega (arith, A.pin)) ∙ get_or-set_same w₁ _ head 0 (simp length-set (omega (arith, A.room))))

  -- the three stores touch nothing but the reservation's numbers
  pub link_touched : Touched m (k + 1) w w'
  link_touched = record {
    frame = rw L.is (frame_then (frame_set_tail (RECORDS + 2 * k) code refl) (frame_then (frame_set_tail (RECORDS + 2 * k + 1) head refl) (frame_set RANKED p (k + 1) A.pin (omega arith) refl)));
    low = λ j h. elsewhere (16 * m + j) (λ e. omega arith) (λ e. omega arith) (λ e. omega (arith, A.pin));
    past = λ j h. elsewhere j (λ e. omega arith) (λ e. omega arith) (λ e. omega (arith, A.pin));
  }

  -- chains of records before this one stay
  pub chain_kept : {h : ℕ} {cs : List ℕ} → Chain m w h cs → h ≤ k → Chain m w' h cs
  chain_kept none b = none
  chain_kept (link {i = i} {cs = cs} a c) b =
      let ec : code_of m w' i ≡ code_of m w i = elsewhere _ (λ e. omega arith) (λ e. omega arith) (λ e. omega (arith, A.pin)) in
      let en : next_of m w' i ≡ next_of m w i = elsewhere _ (λ e. omega arith) (λ e. omega arith) (λ e. omega (arith, A.pin)) in
      rw (← ec) (link {i = i} {cs = cs} (omega arith) (rw en (chain_kept c (omega arith))))

  -- and the activation stands behind those of its pin
  pub chain_longer : {cs : List ℕ} → Chain m w head cs → Chain m w' (get_or w' (RANKED * m + p) 0) (cs ++ (code ∷ []))
  chain_longer {cs} c =
      let s : k + 1 ≡ suc k = omega arith in
      rw (link_head, s, ← link_code) (link {i = k} {cs = cs} (omega (arith, link_next, A.before)) (rw link_next (chain_kept c A.before)))
