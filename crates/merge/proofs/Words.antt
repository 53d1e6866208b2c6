-- What the merged words hold: their counts, their length, and each of the two tables as a part, the first from state 0 and record 1 on, the
-- second behind it. Assumes nothing.
use mathlib.Core.Path.{◌≡◌, refl, ◌∙◌, ap}
use mathlib.Core.List.{List}
use Prim.Native.Nat.{ℕ, ◌+◌, ◌≤◌, ◌<◌}
use native.Mathlib.Nat.{zero-add, add-suc}
use native.Mathlib.Omega.{arith}
use lib.ListN.{length, get_or}
use Rattle.basics.specs.Joined.{numbered_on}
use Rattle.basics.proofs.Joined.{on_first, on_behind}
use Rattle.basics.proofs.Rows.{on_width}
use Rattle.basics.proofs.Upward.{from_one}
use Rattle.tables.specs.Made.{table_of}
use Rattle.tables.specs.Table.{table_words, n_of, k_of, m_of, flags_of, head_of, letter_of, target_of, next_of}
use Rattle.tables.proofs.Made.{made_n, made_k, made_m, made_length, made_flags, made_head, made_letter, made_target, made_next}
use Rattle.merge.specs.Merged.{link_on, state_row, record_row, merged_words}
use Rattle.merge.proofs.Links.{link_zero}

-- A PART: the words hold a table's states from state n on, and its records behind record m
pub record Part (n m : ℕ) (t w : List ℕ) : Type 0 where
  pub flags : (q : ℕ) → q < n_of t → flags_of w (n + q) ≡ flags_of t q
  pub head : (q : ℕ) → q < n_of t → head_of w (n + q) ≡ link_on m (head_of t q)
  pub letter : (x : ℕ) → 1 ≤ x → x ≤ m_of t → letter_of w (m + x) ≡ letter_of t x
  pub target : (x : ℕ) → 1 ≤ x → x ≤ m_of t → target_of w (m + x) ≡ n + target_of t x
  pub next : (x : ℕ) → 1 ≤ x → x ≤ m_of t → next_of w (m + x) ≡ link_on m (next_of t x)

-- each row has its width
state_width : (m : ℕ) (t : List ℕ) (i : ℕ) → length (state_row m t i) ≡ 2
unfolding state_row
state_width m t i = refl

record_width : (n m : ℕ) (t : List ℕ) (i : ℕ) → length (record_row n m t i) ≡ 3
unfolding record_row
record_width n m t i = refl

-- a made table with the rows of another has that as a part
module _
    (N K M : ℕ) (F G : ℕ → List ℕ) (two : (i : ℕ) → i < N → length (F i) ≡ 2) (three : (i : ℕ) → i < M → length (G i) ≡ 3)
    (n m : ℕ) (t : List ℕ) (states : n + n_of t ≤ N) (records : m + m_of t ≤ M)
  where
    part_made :
        ((q : ℕ) → q < n_of t → F (n + q) ≡ state_row m t q) → ((i : ℕ) → i < m_of t → G (m + i) ≡ record_row n m t i) →
        Part n m t (table_of N K M F G)
    unfolding state_row record_row
    part_made f g =
        let w = table_of N K M F G in
        record {
          flags = λ q l. made_flags N K M F G two three (n + q) (omega arith) ∙ ap (λ (r : List ℕ). get_or r 0 0) (f q l);
          head = λ q l. made_head N K M F G two three (n + q) (omega arith) ∙ ap (λ (r : List ℕ). get_or r 1 0) (f q l);
          letter =
              from_one (m_of t) (λ x. letter_of w (m + x) ≡ letter_of t x)
              (λ i l.
              rw (add-suc m i)
              (made_letter N K M F G two three (m + i) (omega arith) ∙ ap (λ (r : List ℕ). get_or r 0 0) (g i l)));
          target =
              from_one (m_of t) (λ x. target_of w (m + x) ≡ n + target_of t x)
              (λ i l.
              rw (add-suc m i)
              (made_target N K M F G two three (m + i) (omega arith) ∙ ap (λ (r : List ℕ). get_or r 1 0) (g i l)));
          next =
              from_one (m_of t) (λ x. next_of w (m + x) ≡ link_on m (next_of t x))
              (λ i l.
              rw (add-suc m i)
              (made_next N K M F G two three (m + i) (omega arith) ∙ ap (λ (r : List ℕ). get_or r 2 0) (g i l)));
        }

module _ (t s : List ℕ) where
  abbrev states_on : ℕ → List ℕ
  states_on = numbered_on (n_of t) (state_row 0 t) (state_row (m_of t) s)

  abbrev records_on : ℕ → List ℕ
  records_on = numbered_on (m_of t) (record_row 0 0 t) (record_row (n_of t) (m_of t) s)

  -- THE COUNTS
  pub merged_n : n_of (merged_words t s) ≡ n_of t + n_of s
  unfolding merged_words
  merged_n = made_n (n_of t + n_of s) (k_of t) (m_of t + m_of s) states_on records_on

  pub merged_k : k_of (merged_words t s) ≡ k_of t
  unfolding merged_words
  merged_k = made_k (n_of t + n_of s) (k_of t) (m_of t + m_of s) states_on records_on

  pub merged_m : m_of (merged_words t s) ≡ m_of t + m_of s
  unfolding merged_words
  merged_m = made_m (n_of t + n_of s) (k_of t) (m_of t + m_of s) states_on records_on

  two : (i : ℕ) → i < n_of t + n_of s → length (states_on i) ≡ 2
  two =
      on_width 2 (n_of t) (n_of s) (state_row 0 t) (state_row (m_of t) s) (λ i l. state_width 0 t i)
      (λ i l. state_width (m_of t) s i)

  three : (i : ℕ) → i < m_of t + m_of s → length (records_on i) ≡ 3
  three =
      on_width 3 (m_of t) (m_of s) (record_row 0 0 t) (record_row (n_of t) (m_of t) s) (λ i l. record_width 0 0 t i)
      (λ i l. record_width (n_of t) (m_of t) s i)

  -- THE LENGTH
  pub merged_length : length (merged_words t s) ≡ table_words (n_of t + n_of s) (m_of t + m_of s)
  unfolding merged_words
  merged_length = made_length (n_of t + n_of s) (k_of t) (m_of t + m_of s) states_on records_on two three

  -- THE FIRST TABLE is a part, and so is THE SECOND
  pub merged_first : Part 0 0 t (merged_words t s)
  unfolding merged_words
  merged_first =
      part_made (n_of t + n_of s) (k_of t) (m_of t + m_of s) states_on records_on two three 0 0 t (omega arith) (omega arith)
      (λ q l. rw (zero-add q) (on_first (n_of t) (state_row 0 t) (state_row (m_of t) s) q l))
      (λ i l. rw (zero-add i) (on_first (m_of t) (record_row 0 0 t) (record_row (n_of t) (m_of t) s) i l))

  pub merged_second : Part (n_of t) (m_of t) s (merged_words t s)
  unfolding merged_words
  merged_second =
      part_made (n_of t + n_of s) (k_of t) (m_of t + m_of s) states_on records_on two three (n_of t) (m_of t) s (omega arith)
      (omega arith) (λ q l. on_behind (n_of t) (state_row 0 t) (state_row (m_of t) s) q)
      (λ i l. on_behind (m_of t) (record_row 0 0 t) (record_row (n_of t) (m_of t) s) i)

  -- so the first table's words stand at its own numbers, unchanged
  pub first_flags : (q : ℕ) → q < n_of t → flags_of (merged_words t s) q ≡ flags_of t q
  first_flags q l = rw (zero-add q) at (merged_first.flags q l)

  pub first_head : (q : ℕ) → q < n_of t → head_of (merged_words t s) q ≡ head_of t q
  first_head q l = rw (zero-add q, link_zero (head_of t q)) at (merged_first.head q l)

  pub first_letter : (x : ℕ) → 1 ≤ x → x ≤ m_of t → letter_of (merged_words t s) x ≡ letter_of t x
  first_letter x o l = rw (zero-add x) at (merged_first.letter x o l)

  pub first_target : (x : ℕ) → 1 ≤ x → x ≤ m_of t → target_of (merged_words t s) x ≡ target_of t x
  first_target x o l = rw (zero-add x, zero-add (target_of t x)) at (merged_first.target x o l)

  pub first_next : (x : ℕ) → 1 ≤ x → x ≤ m_of t → next_of (merged_words t s) x ≡ next_of t x
  first_next x o l = rw (zero-add x, link_zero (next_of t x)) at (merged_first.next x o l)
