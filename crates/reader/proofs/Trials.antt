-- Trial tables read by the reader: pattern A, and damaged links, which lead to the end or round as often as there are records. Assumes nothing.
use mathlib.Core.Path.{◌≡◌, refl}
use mathlib.Core.List.{[], ◌∷◌}
use Rattle.std.specs.Prelude.{Some, None}
use Rattle.tables.specs.Rows.{pattern_A}
use Rattle.tables.specs.Table.{n_of, m_of, head_of, record_at, letter_of, target_of, next_of}
use Rattle.reader.specs.Chain.{is_record, item_at, record_after, head_record, chain_length, records_in_chain, record_nth}

-- the chain of pattern A's state 0 has three records and that of state 1 one; there is no state 2
three_records : records_in_chain pattern_A 0 ≡ 3
unfolding records_in_chain chain_length head_record record_after is_record pattern_A n_of m_of head_of record_at next_of
three_records = refl

one_record : records_in_chain pattern_A 1 ≡ 1
unfolding records_in_chain chain_length head_record record_after is_record pattern_A n_of m_of head_of record_at next_of
one_record = refl

no_state : records_in_chain pattern_A 2 ≡ 0
unfolding records_in_chain chain_length head_record record_after is_record pattern_A n_of m_of head_of record_at next_of
no_state = refl

-- the third edge of state 0 is on letter 0 to state 1, and after it the chain ends
third : item_at pattern_A (record_nth 2 pattern_A (head_record pattern_A 0)) ≡ Some (record { letter = 0; target = 1 })
unfolding item_at record_nth head_record record_after is_record pattern_A n_of m_of head_of record_at letter_of target_of next_of
third = refl

after_third : item_at pattern_A (record_nth 3 pattern_A (head_record pattern_A 0)) ≡ None
unfolding item_at record_nth head_record record_after is_record pattern_A n_of m_of head_of record_at letter_of target_of next_of
after_third = refl

-- two records that repeat an edge count as two
repeated : records_in_chain (1 ∷ 1 ∷ 2 ∷ 3 ∷ 1 ∷ 0 ∷ 0 ∷ 2 ∷ 0 ∷ 0 ∷ 0 ∷ []) 0 ≡ 2
unfolding records_in_chain chain_length head_record record_after is_record n_of m_of head_of record_at next_of
repeated = refl

-- a head above m; two records that name each other
head_astray : records_in_chain (1 ∷ 1 ∷ 0 ∷ 0 ∷ 1 ∷ []) 0 ≡ 0
unfolding records_in_chain chain_length head_record record_after is_record n_of m_of head_of record_at next_of
head_astray = refl

round_and_round : records_in_chain (1 ∷ 1 ∷ 2 ∷ 0 ∷ 2 ∷ 0 ∷ 0 ∷ 2 ∷ 0 ∷ 0 ∷ 1 ∷ []) 0 ≡ 2
unfolding records_in_chain chain_length head_record record_after is_record n_of m_of head_of record_at next_of
round_and_round = refl

-- a slice of no word
no_word : records_in_chain [] 0 ≡ 0
unfolding records_in_chain chain_length head_record record_after is_record n_of m_of head_of record_at next_of
no_word = refl
