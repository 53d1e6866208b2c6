-- Which refusal a build answers, case by case: the check's, 11, 12 or none, and each case from its number. Assumes nothing.
use mathlib.Core.Path.{◌≡◌, refl, ◌∙◌}
use mathlib.Core.List.{List}
use mathlib.Core.Logic.{◌⊎◌, inl, inr}
use Prim.Native.Nat.{ℕ, ◌≤◌, ◌<◌}
use native.Mathlib.Omega.{arith}
use lib.Dec.{eqb}
use lib.ListN.{length}
use Rattle.basics.specs.Buffers.{or_else}
use Rattle.basics.proofs.Booleans.{either, eqb_eq, eqb_ne, ne_eqb}
use Rattle.tables.specs.Table.{Limits}
use Rattle.patterns.specs.Check.{check_refusal}
use Rattle.patterns.proofs.Answers.{check_most}
use Rattle.complement.specs.Build.{Room, build_refusal}
use Rattle.complement.specs.Complement.{complement}
use Rattle.complement.proofs.Room.{RoomCase, states_over, table_over, all_fits, room_cases}
use Rattle.tubochre.specs.Demand.{TooManyStates, TooManyWords}

-- what fits is not too much
none_above : {a b c d : ℕ} → b ≤ a → d ≤ c → (a < b) ⊎ (c < d) → ⊥
none_above few fewer (inl l) = omega arith
none_above few fewer (inr l) = omega arith

-- WHICH REFUSAL IS MET: the check's, or what the room says
pub data Met (range : Limits) (t : List ℕ) (room : Room) (number : ℕ) : Type 0 where
  by_check : check_refusal t ≡ number → 1 ≤ number → number ≤ 10 → Met range t room number
  by_room :
      check_refusal t ≡ 0 → RoomCase range room (length (complement t).states) (length (complement t).edges) number →
      Met range t room number

module _ (range : Limits) (t : List ℕ) (room : Room) where
  check_met : (check_refusal t ≡ 0 → ⊥) → Met range t room (build_refusal range t room)
  unfolding build_refusal or_else
  check_met ne =
      let same : build_refusal range t room ≡ check_refusal t = rw (ne_eqb (check_refusal t) 0 ne) refl in
      let few = check_most t in
      let some : 1 ≤ check_refusal t = omega arith in rw same (by_check refl some few)

  pub which_refusal : Met range t room (build_refusal range t room)
  unfolding build_refusal or_else
  which_refusal =
      elim (either (eqb (check_refusal t) 0)) [
        | inl e ↦
            let passed = eqb_eq (check_refusal t) 0 e in
            rw passed (by_room passed (room_cases range room (length (complement t).states) (length (complement t).edges)))
        | inr e ↦ check_met (eqb_ne (check_refusal t) 0 e)
      ]

-- EACH NUMBER IN ITS CASE, and in no other
module _ {range : Limits} {t : List ℕ} {room : Room} {number : ℕ} where
  pub refused_most : Met range t room number → number ≤ 12
  refused_most (by_check e some few) = omega arith
  refused_most (by_room passed (states_over many e)) = omega arith
  refused_most (by_room passed (table_over few fewer many e)) = omega arith
  refused_most (by_room passed (all_fits few fewer edges words e)) = omega arith

  pub refused_checked : Met range t room number → (k : ℕ) → 1 ≤ k → k ≤ 10 → number ≡ k → check_refusal t ≡ k
  refused_checked (by_check e some few) k from to same = e ∙ same
  refused_checked (by_room passed (states_over many e)) k from to same = absurd (omega arith)
  refused_checked (by_room passed (table_over few fewer many e)) k from to same = absurd (omega arith)
  refused_checked (by_room passed (all_fits few fewer edges words e)) k from to same = absurd (omega arith)

  pub checked_refused : Met range t room number → (k : ℕ) → 1 ≤ k → check_refusal t ≡ k → number ≡ k
  checked_refused (by_check e some few) k from same = omega arith
  checked_refused (by_room passed (states_over many e)) k from same = absurd (omega arith)
  checked_refused (by_room passed (table_over few fewer many e)) k from same = absurd (omega arith)
  checked_refused (by_room passed (all_fits few fewer edges words e)) k from same = absurd (omega arith)

  pub refused_states : Met range t room number → number ≡ 11 → (check_refusal t ≡ 0) × TooManyStates range t room
  unfolding TooManyStates
  refused_states (by_check e some few) same = absurd (omega arith)
  refused_states (by_room passed (states_over many e)) same = (passed, many)
  refused_states (by_room passed (table_over few fewer many e)) same = absurd (omega arith)
  refused_states (by_room passed (all_fits few fewer edges words e)) same = absurd (omega arith)

  pub states_refused : Met range t room number → (check_refusal t ≡ 0) × TooManyStates range t room → number ≡ 11
  unfolding TooManyStates
  states_refused (by_check e some few) (passed, many) = absurd (omega arith)
  states_refused (by_room passed (states_over many e)) case = e
  states_refused (by_room passed (table_over few fewer over e)) (passes, many) = absurd (none_above few fewer many)
  states_refused (by_room passed (all_fits few fewer edges words e)) (passes, many) = absurd (none_above few fewer many)

  pub refused_words :
      Met range t room number → number ≡ 12 → (check_refusal t ≡ 0) × (TooManyStates range t room → ⊥) × TooManyWords range t room
  unfolding TooManyStates TooManyWords
  refused_words (by_check e some few) same = absurd (omega arith)
  refused_words (by_room passed (states_over many e)) same = absurd (omega arith)
  refused_words (by_room passed (table_over few fewer many e)) same = (passed, none_above few fewer, many)
  refused_words (by_room passed (all_fits few fewer edges words e)) same = absurd (omega arith)

  pub words_refused :
      Met range t room number → (check_refusal t ≡ 0) × (TooManyStates range t room → ⊥) × TooManyWords range t room → number ≡ 12
  unfolding TooManyStates TooManyWords
  words_refused (by_check e some few) (passed, fit, many) = absurd (omega arith)
  words_refused (by_room passed (states_over over e)) (passes, fit, many) = absurd (fit over)
  words_refused (by_room passed (table_over few fewer many e)) case = e
  words_refused (by_room passed (all_fits few fewer edges words e)) (passes, fit, many) = absurd (none_above edges words many)

  pub refused_none :
      Met range t room number → number ≡ 0 → (check_refusal t ≡ 0) × (TooManyStates range t room → ⊥) × (TooManyWords range t room → ⊥)
  unfolding TooManyStates TooManyWords
  refused_none (by_check e some few) same = absurd (omega arith)
  refused_none (by_room passed (states_over many e)) same = absurd (omega arith)
  refused_none (by_room passed (table_over few fewer many e)) same = absurd (omega arith)
  refused_none (by_room passed (all_fits few fewer edges words e)) same = (passed, none_above few fewer, none_above edges words)

  pub none_refused :
      Met range t room number → (check_refusal t ≡ 0) × (TooManyStates range t room → ⊥) × (TooManyWords range t room → ⊥) → number ≡ 0
  unfolding TooManyStates TooManyWords
  none_refused (by_check e some few) (passed, fit, fits) = absurd (omega arith)
  none_refused (by_room passed (states_over over e)) (passes, fit, fits) = absurd (fit over)
  none_refused (by_room passed (table_over few fewer over e)) (passes, fit, fits) = absurd (fits over)
  none_refused (by_room passed (all_fits few fewer edges words e)) case = e
