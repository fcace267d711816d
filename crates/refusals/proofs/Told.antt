-- A refusal is told by its number and its pin, and an answer by them and its value. Assumes nothing.
use Rattle.std.proofs.Common.{◌≡◌, ◌≢◌, ◌∙◌, ℕ, refl, sym, ap}
use mathlib.Core.Bool.{true, false}
use lib.Dec.{eqb}
use Rattle.std.specs.Prelude.{Result, Ok, Err}
use Rattle.refusals.specs.declared.Refusal.{Refusal}
use Rattle.refusals.specs.declared.Refusal.TheVariants.{NoHeight, WrongSize, WrongGraph, WrongRecord, WrongGiven, OverReserved, OverWords, NoCell, NoRoom, WrongGroups, NoJob, Malformed, BadReset, NoFile, NoSheet, UnknownSheet, TooShort, NotPlain, NotDriven, WrongLength, ShortLines, WrongPlan, Loop, ShortList, OldRule}
use Rattle.refusals.specs.Numbers.{number_of, pin_of, number_said}
use Rattle.refusals.proofs.Numbers.{number_is}

-- the refusal of a number, with its pin
unfoldable pub refusal_for : ℕ → ℕ → Refusal
refusal_for n p =
    elim (eqb n 1) [
      | true ↦ NoHeight
      | false ↦
          elim (eqb n 2) [
            | true ↦ WrongSize
            | false ↦
                elim (eqb n 3) [
                  | true ↦ WrongGraph
                  | false ↦
                      elim (eqb n 4) [
                        | true ↦ WrongRecord
                        | false ↦
                            elim (eqb n 5) [
                              | true ↦ WrongGiven
                              | false ↦
                                  elim (eqb n 6) [
                                    | true ↦ OverReserved
                                    | false ↦
                                        elim (eqb n 7) [
                                          | true ↦ OverWords
                                          | false ↦
                                              elim (eqb n 8) [
                                                | true ↦ NoCell
                                                | false ↦
                                                    elim (eqb n 9) [
                                                      | true ↦ NoRoom
                                                      | false ↦
                                                          elim (eqb n 10) [
                                                            | true ↦ WrongGroups
                                                            | false ↦
                                                                elim (eqb n 11) [
                                                                  | true ↦ NoJob
                                                                  | false ↦
                                                                      elim (eqb n 12) [
                                                                        | true ↦ Malformed
                                                                        | false ↦
                                                                            elim (eqb n 13) [
                                                                              | true ↦ BadReset
                                                                              | false ↦
                                                                                  elim (eqb n 14) [
                                                                                    | true ↦ NoFile
                                                                                    | false ↦
                                                                                        elim (eqb n 15) [
                                                                                          | true ↦ NoSheet
                                                                                          | false ↦
                                                                                              elim (eqb n 16) [
                                                                                                | true ↦ UnknownSheet
                                                                                                | false ↦
                                                                                                    elim (eqb n 17) [
                                                                                                      | true ↦ TooShort
                                                                                                      | false ↦
                                                                                                          elim (eqb n 18) [
                                                                                                            | true ↦ NotPlain
                                                                                                            | false ↦
                                                                                                                elim (eqb n 19) [
                                                                                                                  | true ↦ NotDriven
                                                                                                                  | false ↦
                                                                                                                      elim (eqb n 20) [
                                                                                                                        | true ↦ WrongLength
                                                                                                                        | false ↦
                                                                                                                            elim (eqb n 21) [
                                                                                                                              | true ↦ ShortLines
                                                                                                                              | false ↦
                                                                                                                                  elim (eqb n 22) [
                                                                                                                                    | true ↦ WrongPlan
                                                                                                                                    | false ↦
                                                                                                                                        elim (eqb n 23) [
                                                                                                                                          | true ↦ Loop (record { 0 = p })
                                                                                                                                          | false ↦
                                                                                                                                              elim (eqb n 24) [
                                                                                                                                                | true ↦ ShortList
                                                                                                                                                | false ↦
                                                                                                                                                    OldRule
                                                                                                                                              ]
                                                                                                                                        ]
                                                                                                                                  ]
                                                                                                                            ]
                                                                                                                      ]
                                                                                                                ]
                                                                                                          ]
                                                                                                    ]
                                                                                              ]
                                                                                        ]
                                                                                  ]
                                                                            ]
                                                                      ]
                                                                ]
                                                          ]
                                                    ]
                                              ]
                                        ]
                                  ]
                            ]
                      ]
                ]
          ]
    ]

pub told_back : (r : Refusal) → refusal_for (number_of r) (pin_of r) ≡ r
unfolding refusal_for
told_back NoHeight = refl
told_back WrongSize = refl
told_back WrongGraph = refl
told_back WrongRecord = refl
told_back WrongGiven = refl
told_back OverReserved = refl
told_back OverWords = refl
told_back NoCell = refl
told_back NoRoom = refl
told_back WrongGroups = refl
told_back NoJob = refl
told_back Malformed = refl
told_back BadReset = refl
told_back NoFile = refl
told_back NoSheet = refl
told_back UnknownSheet = refl
told_back TooShort = refl
told_back NotPlain = refl
told_back NotDriven = refl
told_back WrongLength = refl
told_back ShortLines = refl
told_back WrongPlan = refl
told_back (Loop p) = refl
told_back ShortList = refl
told_back OldRule = refl

-- two of one number and one pin are the same
pub one_refusal : (r s : Refusal) → number_of r ≡ number_of s → pin_of r ≡ pin_of s → r ≡ s
one_refusal r s n p = sym (told_back r) ∙ (λ i. refusal_for (n i) (p i)) ∙ told_back s

-- only 23 carries a pin
pub pinless : (r : Refusal) → number_of r ≢ 23 → pin_of r ≡ 0
pinless NoHeight d = refl
pinless WrongSize d = refl
pinless WrongGraph d = refl
pinless WrongRecord d = refl
pinless WrongGiven d = refl
pinless OverReserved d = refl
pinless OverWords d = refl
pinless NoCell d = refl
pinless NoRoom d = refl
pinless WrongGroups d = refl
pinless NoJob d = refl
pinless Malformed d = refl
pinless BadReset d = refl
pinless NoFile d = refl
pinless NoSheet d = refl
pinless UnknownSheet d = refl
pinless TooShort d = refl
pinless NotPlain d = refl
pinless NotDriven d = refl
pinless WrongLength d = refl
pinless ShortLines d = refl
pinless WrongPlan d = refl
pinless (Loop p) d = absurd (d refl)
pinless ShortList d = refl
pinless OldRule d = refl

-- so two of one other number are the same
pub one_number : (r s : Refusal) → number_of r ≡ number_of s → number_of r ≢ 23 → r ≡ s
one_number r s n d = one_refusal r s n (pinless r d ∙ sym (pinless s (λ e. d (n ∙ e))))

-- and two answers of one such number, where two values are
pub one_answer : {A : Type 0} (a b : Result A Refusal) → number_said a ≡ number_said b → number_said a ≢ 23 → ((x y : A) → a ≡ Ok x → b ≡ Ok y → x ≡ y) → a ≡ b
one_answer (Ok x) (Ok y) n d same = ap Ok (same x y refl refl)
one_answer (Ok x) (Err s) n d same = absurd (number_is s (sym n))
one_answer (Err r) (Ok y) n d same = absurd (number_is r n)
one_answer (Err r) (Err s) n d same = ap Err (one_number r s n d)
