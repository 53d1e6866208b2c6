-- What stands at an index of the words of a table with n states and m records: a count, a word of a state, a word of a record, or none of
-- them; and the words of a record by their index. Assumes nothing.
use mathlib.Core.Path.{◌≡◌, refl}
use mathlib.Core.List.{List}
use mathlib.Core.Logic.{inl, inr}
use Prim.Native.Nat.{ℕ, zero, suc, ◌+◌, ◌*◌, ◌-◌, ◌/◌, ◌≤◌, ◌<◌}
use native.Mathlib.Omega.{arith}
use lib.ListN.{get_or}
use Rattle.basics.proofs.Booleans.{same_or, below_or}
use Rattle.tables.specs.Table.{table_words, n_of, record_at, letter_of, target_of, next_of}

pub data WordPlace (n m i : ℕ) : Type 0 where
  states_place : i ≡ 0 → WordPlace n m i
  letters_place : i ≡ 1 → WordPlace n m i
  records_place : i ≡ 2 → WordPlace n m i
  flags_place : (q : ℕ) → q < n → i ≡ 3 + 2 * q → WordPlace n m i
  head_place : (q : ℕ) → q < n → i ≡ 4 + 2 * q → WordPlace n m i
  letter_place : (r : ℕ) → r < m → i ≡ 3 + 2 * n + 3 * r → WordPlace n m i
  target_place : (r : ℕ) → r < m → i ≡ 4 + 2 * n + 3 * r → WordPlace n m i
  next_place : (r : ℕ) → r < m → i ≡ 5 + 2 * n + 3 * r → WordPlace n m i
  beyond_place : table_words n m ≤ i → WordPlace n m i

module _ (n m : ℕ) where
  place_state : (i : ℕ) → 3 ≤ i → i < 3 + 2 * n → WordPlace n m i
  place_state i a b =
      let q = (i - 3) / 2 in
      elim (same_or i (3 + 2 * q)) [
        | inl e ↦ flags_place q (omega arith) e
        | inr ne ↦ head_place q (omega arith) (omega arith)
      ]

  place_record : (i : ℕ) → 3 + 2 * n ≤ i → i < table_words n m → WordPlace n m i
  place_record i a b =
      let r = (i - (3 + 2 * n)) / 3 in
      elim (same_or i (3 + 2 * n + 3 * r)) [
        | inl e ↦ letter_place r (omega arith) e
        | inr ne ↦
            elim (same_or i (4 + 2 * n + 3 * r)) [
              | inl e ↦ target_place r (omega arith) e
              | inr nf ↦ next_place r (omega arith) (omega arith)
            ]
      ]

  pub place_of : (i : ℕ) → WordPlace n m i
  place_of zero = states_place refl
  place_of (suc zero) = letters_place refl
  place_of (suc (suc zero)) = records_place refl
  place_of (suc (suc (suc i))) =
      let j = suc (suc (suc i)) in
      elim (below_or j (3 + 2 * n)) [
        | inl l ↦ place_state j (omega arith) l
        | inr l ↦ elim (below_or j (table_words n m)) [ inl k ↦ place_record j l k | inr k ↦ beyond_place k ]
      ]

-- the words of record r + 1
module _ (t : List ℕ) (r : ℕ) where
  pub letter_at : letter_of t (suc r) ≡ get_or t (3 + 2 * n_of t + 3 * r) 0
  unfolding letter_of record_at
  letter_at = let e : 3 + 2 * n_of t + 3 * (suc r - 1) ≡ 3 + 2 * n_of t + 3 * r = omega arith in rw e

  pub target_at : target_of t (suc r) ≡ get_or t (4 + 2 * n_of t + 3 * r) 0
  unfolding target_of record_at
  target_at = let e : 3 + 2 * n_of t + 3 * (suc r - 1) + 1 ≡ 4 + 2 * n_of t + 3 * r = omega arith in rw e

  pub next_at : next_of t (suc r) ≡ get_or t (5 + 2 * n_of t + 3 * r) 0
  unfolding next_of record_at
  next_at = let e : 3 + 2 * n_of t + 3 * (suc r - 1) + 2 ≡ 5 + 2 * n_of t + 3 * r = omega arith in rw e
