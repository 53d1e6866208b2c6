-- The loop that gathers the initial and the accepting states: one law of a turn, over any test of states, and for each of the two tests
-- that a state's flag is its bit. Assumes nothing.
use mathlib.Core.Path.{◌≡◌, refl, ◌∙◌, ap}
use mathlib.Core.Bool.{Bool, true, false, cond, ◌&&◌}
use mathlib.Core.List.{List}
use mathlib.Core.Logic.{◌⊎◌, inl, inr}
use Prim.Native.Nat.{ℕ, ◌+◌, ◌*◌, ◌/◌, ◌%◌, ◌^◌, ◌≤◌, ◌<◌}
use native.Mathlib.Omega.{arith}
use native.Mathlib.Numerals.{add-one}
use native.Mathlib.Nat.{zero-mul, one-mul, add_comm, add-zero}
use lib.Dec.{ltb, leb, eqb}
use lib.Bits.{bit_or, or_shifted_r, or_zero_r}
use Rattle.basics.proofs.Booleans.{either, lt_ltb, eqb_eq, eqb_ne, leb_le, leb_gt}
use Rattle.basics.proofs.Packed.{shift_one}
use Rattle.sets.specs.Sets.{set_states, set_of}
use Rattle.sets.proofs.Members.{set_of_lt}
use Rattle.tables.specs.Table.{pattern_range, table_refusal, n_of, flags_of, is_initial, is_accepting, meaning}
use Rattle.tables.proofs.Laws.{valid}
use Rattle.patterns.specs.Pattern.{initial_states, accepting_states}
use Rattle.patterns.proofs.Masks.{pattern_few}

-- the set so far is that of the states below `state` of which the test holds
pub record Gathered (f : ℕ → Bool) (n set state : ℕ) : Type 0 where
  pub inside : state ≤ n
  pub so_far : set ≡ set_of state f

module _ (f : ℕ → Bool) (n : ℕ) where
  pub gathered_start : Gathered f n 0 0
  unfolding set_of
  gathered_start = record { inside = omega arith; so_far = refl }

  -- one state more: 1 where the test holds, and 0 where it does not, goes to the state's place
  pub gathered_turn :
      (set state bit : ℕ) → state < n → n ≤ set_states → bit ≡ cond (f state) 1 0 → Gathered f n set state →
      Gathered f n (bit_or set (bit * 2 ^ state % 2 ^ set_states)) (state + 1)
  unfolding set_of
  gathered_turn set state bit l few e g = record { inside = omega arith; so_far = go (either (f state)) }
    where
      go :
          (f state ≡ true) ⊎ (f state ≡ false) →
          bit_or set (bit * 2 ^ state % 2 ^ set_states) ≡ set_of (state + 1) f
      go (inl h) =
          let one : bit ≡ 1 = cc in
          let placed = shift_one set_states state (omega arith) in
          let apart : bit_or (set_of state f) (2 ^ state) ≡ 2 ^ state + set_of state f =
          rw (one-mul (2 ^ state)) at (or_shifted_r 1 state (set_of state f) (set_of_lt state f)) in
          let turned = add_comm (2 ^ state) (set_of state f) in
          let so_far = g.so_far in let more = add-one state in cc
      go (inr h) =
          let none : bit ≡ 0 = cc in
          let placed : 0 * 2 ^ state % 2 ^ set_states ≡ 0 = rw (zero-mul (2 ^ state)) refl in
          let kept = or_zero_r set in
          let same = add-zero (set_of state f) in
          let so_far = g.so_far in let more = add-one state in cc

  pub gathered_end : (set state : ℕ) → n ≤ state → Gathered f n set state → set ≡ set_of n f
  gathered_end set state past g =
      let inside = g.inside in
      let e : state ≡ n = omega arith in g.so_far ∙ ap (λ (k : ℕ). set_of k f) e

-- the states of a pattern
module _ (t : List ℕ) (pattern : table_refusal pattern_range t ≡ 0) (states state : ℕ) (counted : states ≡ n_of t) where
  module _ (flags : ℕ) (read : flags ≡ flags_of t state) (l : state < states) where
    below : ltb state (n_of t) ≡ true
    below = lt_ltb {m = state} {n = n_of t} (omega arith)

    -- the flag of an initial state is the low bit of 1 and 3
    pub initial_turn :
        (set : ℕ) → Gathered (meaning t).initial (n_of t) set state →
        Gathered (meaning t).initial (n_of t) (bit_or set (flags % 2 * 2 ^ state % 2 ^ set_states)) (state + 1)
    unfolding meaning is_initial
    initial_turn set =
        gathered_turn (meaning t).initial (n_of t) set state (flags % 2) (omega arith) (pattern_few t pattern)
        (go (either (eqb (flags_of t state % 2) 1)))
      where
        go :
            (eqb (flags_of t state % 2) 1 ≡ true) ⊎ (eqb (flags_of t state % 2) 1 ≡ false) →
            flags % 2 ≡ cond (ltb state (n_of t) && eqb (flags_of t state % 2) 1) 1 0
        go (inl h) = rw (below, h) (let e = eqb_eq (flags_of t state % 2) 1 h in omega arith)
        go (inr h) = rw (below, h) (let e = eqb_ne (flags_of t state % 2) 1 h in omega arith)

    -- the flag of an accepting state is the high bit of 2 and 3
    pub accepting_turn :
        (set : ℕ) → Gathered (meaning t).accepting (n_of t) set state →
        Gathered (meaning t).accepting (n_of t) (bit_or set (flags / 2 * 2 ^ state % 2 ^ set_states)) (state + 1)
    unfolding meaning is_accepting
    accepting_turn set =
        gathered_turn (meaning t).accepting (n_of t) set state (flags / 2) (omega arith) (pattern_few t pattern)
        (go (either (leb 2 (flags_of t state))))
      where
        most : flags_of t state ≤ 3
        most = (valid pattern_range t pattern).flags state (omega arith)

        go :
            (leb 2 (flags_of t state) ≡ true) ⊎ (leb 2 (flags_of t state) ≡ false) →
            flags / 2 ≡ cond (ltb state (n_of t) && leb 2 (flags_of t state)) 1 0
        go (inl h) = rw (below, h) (let e = leb_le 2 (flags_of t state) h in let m = most in omega arith)
        go (inr h) = rw (below, h) (let e = leb_gt 2 (flags_of t state) h in omega arith)

  pub initial_end :
      (set : ℕ) → states ≤ state → Gathered (meaning t).initial (n_of t) set state → set ≡ initial_states (meaning t)
  unfolding meaning initial_states
  initial_end set past g = gathered_end (meaning t).initial (n_of t) set state (omega arith) g

  pub accepting_end :
      (set : ℕ) → states ≤ state → Gathered (meaning t).accepting (n_of t) set state → set ≡ accepting_states (meaning t)
  unfolding meaning accepting_states
  accepting_end set past g = gathered_end (meaning t).accepting (n_of t) set state (omega arith) g
