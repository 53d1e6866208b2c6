-- What the room says of so many states and edges, case by case: 11, 12 or none. Assumes nothing.
use mathlib.Core.Path.{◌≡◌, refl}
use mathlib.Core.Bool.{◌||◌}
use mathlib.Core.Logic.{◌⊎◌, inl, inr}
use Prim.Native.Nat.{ℕ, ◌≤◌, ◌<◌}
use lib.Dec.{ltb}
use Rattle.basics.proofs.Booleans.{either, one_above, both_within}
use Rattle.tables.specs.Table.{Limits, table_words}
use Rattle.complement.specs.Build.{Room, too_long, room_refusal}

-- too many states; states that fit, and edges or words that do not; all fits
pub data RoomCase (limits : Limits) (r : Room) (n m number : ℕ) : Type 0 where
  states_over : (r.records < n) ⊎ (limits.states < n) → number ≡ 11 → RoomCase limits r n m number
  table_over :
      n ≤ r.records → n ≤ limits.states → (limits.records < m) ⊎ (r.words < table_words n m) → number ≡ 12 →
      RoomCase limits r n m number
  all_fits :
      n ≤ r.records → n ≤ limits.states → m ≤ limits.records → table_words n m ≤ r.words → number ≡ 0 →
      RoomCase limits r n m number

-- one of them is the case
pub room_cases : (limits : Limits) (r : Room) (n m : ℕ) → RoomCase limits r n m (room_refusal limits r n m)
unfolding room_refusal
room_cases limits r n m =
    elim (either (ltb r.records n || ltb limits.states n)) [
      | inl many ↦ states_over (one_above r.records n limits.states n many) (rw many refl)
      | inr few ↦
          let (records, states) = both_within r.records n limits.states n few in
          elim (either (too_long limits r.words n m)) [
            | inl long ↦
                table_over records states (one_above limits.records m r.words (table_words n m) long) (rw (few, long) refl)
            | inr short ↦
                let (edges, words) = both_within limits.records m r.words (table_words n m) short in
                all_fits records states edges words (rw (few, short) refl)
          ]
    ]
