-- Laying out the merged table, part by part: what each part asks, and that the parts one behind the other are the merged words. Assumes nothing.
use mathlib.Core.Path.{◌≡◌, refl, ap, ◌∙◌}
use mathlib.Core.List.{List, [], ◌∷◌, ◌++◌, append_assoc}
use Prim.Native.Nat.{ℕ, ◌+◌, ◌*◌, ◌≤◌}
use native.Mathlib.Omega.{arith}
use lib.ListN.{length, length-append}
use lib.Seq.{sets}
use Rattle.basics.specs.Buffers.{overwritten}
use Rattle.basics.specs.Rows.{rows}
use Rattle.basics.specs.Words.{word_bits, largest_word}
use Rattle.basics.proofs.Overwriting.{overwritten_words}
use Rattle.basics.proofs.Rows.{rows_length, rows_on}
use Rattle.tables.specs.Made.{table_of}
use Rattle.tables.specs.Table.{pattern_range, table_words, n_of, k_of, m_of}
use Rattle.tables.proofs.Laws.{valid}
use Rattle.patterns.proofs.Passed.{checked_table}
use Rattle.layout.specs.Steps.{CountsAsk, with_counts}
use Rattle.merge.specs.Merged.{state_row, record_row, merged_words}
use Rattle.merge.proofs.Refusals.{Mergeable}

-- what writing the counts asks
pub counts_asked :
    {t s w : List ℕ} {n n' k m m' : ℕ} → Mergeable t s (length w) → n ≡ n_of t → n' ≡ n_of s → k ≡ k_of t → m ≡ m_of t → m' ≡ m_of s →
    CountsAsk word_bits w (n + n') k (m + m')
unfolding pattern_range
counts_asked {t} h a b c d e =
    let room = h.room in let states = h.states in let records = h.records in
    let most = (valid pattern_range t (checked_table t h.first)).letters_to in
    record { room = omega arith; states_fit = omega arith; letters_fit = omega arith; edges_fit = omega arith }

-- and the numbers of both together fit words
pub both_fit :
    {t s : List ℕ} {w : ℕ} → Mergeable t s w → (n_of t + n_of s ≤ largest_word word_bits) × (m_of t + m_of s ≤ largest_word word_bits)
unfolding pattern_range
both_fit h = let states = h.states in let records = h.records in (omega arith, omega arith)

-- THE PARTS of the merged words, one behind the other
module _ (t s : List ℕ) where
  abbrev counts : List ℕ
  counts = (n_of t + n_of s) ∷ k_of t ∷ (m_of t + m_of s) ∷ []

  abbrev first_states : List ℕ
  first_states = rows (n_of t) (state_row 0 t)

  abbrev second_states : List ℕ
  second_states = rows (n_of s) (state_row (m_of t) s)

  abbrev first_records : List ℕ
  first_records = rows (m_of t) (record_row 0 0 t)

  abbrev second_records : List ℕ
  second_records = rows (m_of s) (record_row (n_of t) (m_of t) s)

  in_parts : counts ++ first_states ++ second_states ++ first_records ++ second_records ≡ merged_words t s
  unfolding merged_words table_of
  in_parts =
      let states = rows_on (n_of t) (n_of s) (state_row 0 t) (state_row (m_of t) s) in
      let records = rows_on (m_of t) (m_of s) (record_row 0 0 t) (record_row (n_of t) (m_of t) s) in
      rw (states, records, append_assoc (counts ++ first_states ++ second_states) first_records second_records)
      (ap (λ (l : List ℕ). l ++ (first_records ++ second_records)) (append_assoc counts first_states second_states)
      ∙ append_assoc counts (first_states ++ second_states) (first_records ++ second_records))

  -- where each of them ends
  first_states_end : length (counts ++ first_states) ≡ table_words (n_of t) 0
  unfolding state_row
  first_states_end =
      let long = rows_length 2 (n_of t) (state_row 0 t) (λ i l. refl) in
      let joined = length-append counts first_states in omega arith

  second_states_end : length (counts ++ first_states ++ second_states) ≡ table_words (n_of t + n_of s) 0
  unfolding state_row
  second_states_end =
      let long = rows_length 2 (n_of s) (state_row (m_of t) s) (λ i l. refl) in
      let before = first_states_end in
      let joined = length-append (counts ++ first_states) second_states in omega arith

  first_records_end : length (counts ++ first_states ++ second_states ++ first_records) ≡ table_words (n_of t + n_of s) (m_of t)
  unfolding record_row
  first_records_end =
      let long = rows_length 3 (m_of t) (record_row 0 0 t) (λ i l. refl) in
      let before = second_states_end in
      let joined = length-append (counts ++ first_states ++ second_states) first_records in omega arith

  all_end : length (counts ++ first_states ++ second_states ++ first_records ++ second_records) ≡ table_words (n_of t + n_of s) (m_of t + m_of s)
  unfolding record_row
  all_end =
      let long = rows_length 3 (m_of s) (record_row (n_of t) (m_of t) s) (λ i l. refl) in
      let before = first_records_end in
      let joined = length-append (counts ++ first_states ++ second_states ++ first_records) second_records in omega arith

  -- LAID OUT one behind the other, they overwrite the lent words with the merged ones
  pub laid_out :
      (w : List ℕ) → Mergeable t s (length w) → {n n' k m m' b c d : ℕ} {w₁ w₂ w₃ w₄ w₅ : List ℕ} → n ≡ n_of t → n' ≡ n_of s → k ≡ k_of t →
      m ≡ m_of t → m' ≡ m_of s → w₁ ≡ with_counts (n + n') k (m + m') w → w₂ ≡ sets w₁ 3 (rows n (state_row 0 t)) → b ≡ 3 + 2 * n →
      w₃ ≡ sets w₂ b (rows n' (state_row m s)) → c ≡ b + 2 * n' → w₄ ≡ sets w₃ c first_records → d ≡ c + 3 * m_of t →
      w₅ ≡ sets w₄ d (rows (m_of s) (record_row n m s)) → w₅ ≡ overwritten (merged_words t s) w
  unfolding with_counts overwritten
  laid_out w h {b = b} {c = c} {d = d} {w₁ = w₁} {w₂ = w₂} {w₃ = w₃} {w₄ = w₄} states states' letters records records' e₁ e₂ pb e₃ pc e₄ pd e₅ =
      let room = h.room in
      let long = first_states_end in
      let long' = second_states_end in
      let far = first_records_end in
      let far' = all_end in
      let more = length-append counts first_states in
      let more' = length-append (counts ++ first_states) second_states in
      let further = length-append (counts ++ first_states ++ second_states) first_records in
      let further' = length-append (counts ++ first_states ++ second_states ++ first_records) second_records in
      let at_b : length (counts ++ first_states) ≡ b = omega arith in
      let at_c : length (counts ++ first_states ++ second_states) ≡ c = omega arith in
      let at_d : length (counts ++ first_states ++ second_states ++ first_records) ≡ d = omega arith in
      let f₁ : w₁ ≡ overwritten counts w = e₁ ∙ rw (states, states', letters, records, records') refl in
      let f₂ : w₂ ≡ overwritten (counts ++ first_states) w = e₂ ∙ rw (f₁, states) (overwritten_words counts w first_states 3 refl (omega arith)) in
      let f₃ : w₃ ≡ overwritten (counts ++ first_states ++ second_states) w =
      e₃ ∙ rw (f₂, states', records) (overwritten_words (counts ++ first_states) w second_states b at_b (omega arith)) in
      let f₄ : w₄ ≡ overwritten (counts ++ first_states ++ second_states ++ first_records) w =
      e₄ ∙ rw f₃ (overwritten_words (counts ++ first_states ++ second_states) w first_records c at_c (omega arith)) in
      e₅
      ∙ (rw (f₄, states, records)
      (overwritten_words (counts ++ first_states ++ second_states ++ first_records) w second_records d at_d (omega arith))
      ∙ ap (λ (l : List ℕ). overwritten l w) in_parts)
