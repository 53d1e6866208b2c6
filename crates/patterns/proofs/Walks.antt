-- The walk along a state's chain: the sets so far, with what the rest of the chain still has, are the state's edges. Assumes nothing.
use mathlib.Core.Path.{◌≡◌, sym, ◌∙◌, ap}
use mathlib.Core.Bool.{true, false, ◌||◌}
use mathlib.Core.List.{List}
use mathlib.Core.Logic.{◌⊎◌, inl, inr}
use Prim.Native.Nat.{ℕ, ◌*◌, ◌%◌, ◌^◌, ◌≤◌, ◌<◌}
use native.Mathlib.Omega.{arith}
use lib.Dec.{ltb, eqb}
use lib.Pow.{pow_pos, pow-lt}
use lib.Bits.{bit_or, or_lt}
use lib.ListN.{length, get_or, set, replicate, length-set, length-replicate}
use lib.Seq.{get_or-set_same, get_or-set_other, ext_get_or}
use Rattle.basics.specs.Tabulate.{tabulate}
use Rattle.basics.proofs.Booleans.{either, eq_eqb, eqb_eq, eqb_ne, lt_ltb, ne_eqb, or_assoc, or_none}
use Rattle.basics.proofs.Clears.{zeros_at}
use Rattle.basics.proofs.Packed.{shift_one}
use Rattle.basics.proofs.Tabulate.{tabulate_at, tabulate_length}
use Rattle.sets.specs.Sets.{set_states, row_letters, has}
use Rattle.sets.proofs.Members.{has_zero, has_or, has_single, ext, set_of_lt}
use Rattle.tables.specs.Table.{pattern_range, table_refusal, n_of, m_of, head_of, letter_of, target_of, next_of, chain_has, edge, meaning}
use Rattle.tables.proofs.Chains.{left, left_less}
use Rattle.tables.proofs.Laws.{Valid, valid, chain_ends, chain_step, meaning_closed}
use Rattle.patterns.specs.Pattern.{targets_of, moves}
use Rattle.patterns.specs.Masks.{row_of}
use Rattle.patterns.proofs.Masks.{pattern_few}
use Rattle.patterns.proofs.Split.{has_targets}

-- the sets so far, with what the chain from record `at` on still has, are the state's edges
pub record Walked (t : List ℕ) (state : ℕ) (row : List ℕ) (at : ℕ) : Type 0 where
  pub whole : length row ≡ row_letters
  pub link : at ≤ m_of t
  pub small : (c : ℕ) → get_or row c 0 < 2 ^ n_of t
  pub rest : (c q : ℕ) → c < row_letters → (has (get_or row c 0) q || chain_has (m_of t) t at c q) ≡ edge t state c q

module _ (t : List ℕ) (pattern : table_refusal pattern_range t ≡ 0) (s : ℕ) where
  v : Valid pattern_range t
  v = valid pattern_range t pattern

  pub walk_letter : (row : List ℕ) (at l : ℕ) → (at ≡ 0 → ⊥) → Walked t s row at → l ≡ letter_of t at → l < row_letters
  walk_letter row at l some w e = let a = v.letter at (omega arith) w.link in let k = v.letters_to in omega arith

  pub walk_target : (row : List ℕ) (at q : ℕ) → (at ≡ 0 → ⊥) → Walked t s row at → q ≡ target_of t at → q < set_states
  walk_target row at q some w e = let a = v.target at (omega arith) w.link in let n = pattern_few t pattern in omega arith

  pub walk_start : (at : ℕ) → s < n_of t → at ≡ head_of t s → Walked t s (replicate row_letters 0) at
  unfolding edge
  walk_start at inside e =
      record {
        whole = length-replicate {A = ℕ} row_letters 0;
        link = let h = v.head s inside in omega arith;
        small = λ c. rw (zeros_at row_letters c) (pow_pos (n_of t));
        rest = λ c q l. rw (zeros_at row_letters c, has_zero q, e);
      }

  -- one record read: its edge is in the sets, and the rest of the chain is left
  pub walk_turn :
      (row : List ℕ) (at l q x : ℕ) → (at ≡ 0 → ⊥) → Walked t s row at → l ≡ letter_of t at → q ≡ target_of t at →
      x ≡ next_of t at → Walked t s (set row l (bit_or (get_or row l 0) (1 * 2 ^ q % 2 ^ set_states))) x
  walk_turn row at l q x some w el eq ex =
      record {
        whole = length-set row l (bit_or (get_or row l 0) (1 * 2 ^ q % 2 ^ set_states)) ∙ w.whole;
        link = let next = v.next at from w.link in omega arith;
        small = λ c. small c (either (eqb c l));
        rest = λ c r below. rest c r below (either (eqb c l));
      }
    where
      from : 1 ≤ at
      from = omega arith

      inside_row : l < length row
      inside_row = let a = walk_letter row at l some w el in let d = w.whole in omega arith

      below_n : q < n_of t
      below_n = let a = v.target at from w.link in omega arith

      bit : 1 * 2 ^ q % 2 ^ set_states ≡ 2 ^ q
      bit = shift_one set_states q (walk_target row at q some w eq)

      -- the set that is written
      put : get_or (set row l (bit_or (get_or row l 0) (1 * 2 ^ q % 2 ^ set_states))) l 0 ≡ bit_or (get_or row l 0) (2 ^ q)
      put =
          get_or-set_same row l (bit_or (get_or row l 0) (1 * 2 ^ q % 2 ^ set_states)) 0 inside_row
          ∙ ap (λ (b : ℕ). bit_or (get_or row l 0) b) bit

      others :
          (c : ℕ) → eqb c l ≡ false → get_or (set row l (bit_or (get_or row l 0) (1 * 2 ^ q % 2 ^ set_states))) c 0 ≡ get_or row c 0
      others c ne = get_or-set_other row l c (bit_or (get_or row l 0) (1 * 2 ^ q % 2 ^ set_states)) 0 (eqb_ne c l ne)

      small :
          (c : ℕ) → (eqb c l ≡ true) ⊎ (eqb c l ≡ false) →
          get_or (set row l (bit_or (get_or row l 0) (1 * 2 ^ q % 2 ^ set_states))) c 0 < 2 ^ n_of t
      small c (inl e) =
          rw (eqb_eq c l e, put) (or_lt (n_of t) (get_or row l 0) (2 ^ q) (w.small l) (pow-lt below_n))
      small c (inr e) = rw (others c e) (w.small c)

      rest :
          (c r : ℕ) → c < row_letters → (eqb c l ≡ true) ⊎ (eqb c l ≡ false) →
          (has (get_or (set row l (bit_or (get_or row l 0) (1 * 2 ^ q % 2 ^ set_states))) c 0) r || chain_has (m_of t) t x c r) ≡ edge t s c r
      rest c r below (inl e) =
          let before = w.rest c r below in
          let step = chain_step v at c r from w.link in
          let same = eqb_eq c l e in
          let here : eqb (letter_of t at) c ≡ true = eq_eqb (sym (same ∙ el)) in
          let written : has (get_or (set row l (bit_or (get_or row l 0) (1 * 2 ^ q % 2 ^ set_states))) c 0) r ≡ (has (get_or row c 0) r || eqb q r) =
          rw (same, put, has_or (get_or row l 0) (2 ^ q) r, has_single q r) in
          let assoc = or_assoc (has (get_or row c 0) r) (eqb q r) (chain_has (m_of t) t x c r) in cc
      rest c r below (inr e) =
          let before = w.rest c r below in
          let step = chain_step v at c r from w.link in
          let elsewhere : eqb (letter_of t at) c ≡ false =
          ne_eqb (letter_of t at) c (λ same. eqb_ne c l e (sym (el ∙ same))) in
          let kept = others c e in cc

  pub walk_less :
      (row : List ℕ) (at x : ℕ) → (at ≡ 0 → ⊥) → Walked t s row at → x ≡ next_of t at → left (m_of t) x < left (m_of t) at
  walk_less row at x some w ex = left_less v some w.link ex

  -- past the end of the chain the sets are the state's targets
  pub walk_end : (row : List ℕ) (at : ℕ) → s < n_of t → at ≡ 0 → Walked t s row at → row ≡ row_of (moves (meaning t)) s
  unfolding row_of moves targets_of meaning
  walk_end row at inside none w =
      ext_get_or 0 row (tabulate row_letters (targets_of (meaning t) s)) (w.whole ∙ sym (tabulate_length row_letters (targets_of (meaning t) s)))
      (λ c l.
      let below : c < row_letters = let e = w.whole in omega arith in
      set_at c below ∙ sym (tabulate_at row_letters (targets_of (meaning t) s) c 0 below))
    where
      set_at : (c : ℕ) → c < row_letters → get_or row c 0 ≡ targets_of (meaning t) s c
      set_at c below =
          ext (n_of t) (get_or row c 0) (targets_of (meaning t) s c) (w.small c) (set_of_lt (n_of t) ((meaning t).edge s c))
          (λ q l.
          let all = w.rest c q below in
          let ended : chain_has (m_of t) t at c q ≡ false = rw none (chain_ends (m_of t) t c q) in
          let left : ltb s (n_of t) ≡ true = lt_ltb inside in
          let right : ltb q (n_of t) ≡ true = lt_ltb l in
          let target = has_targets (meaning t) (meaning_closed v) s c q in
          let same = or_none (has (get_or row c 0) q) in
          cc)
