-- Every trial table gets the answer that its row says: one computation over all rows, and what it says of each. Assumes nothing.
use mathlib.Core.Path.{◌≡◌, refl}
use mathlib.Core.Bool.{false}
use mathlib.Core.List.{[], map}
use Prim.Native.Nat.{ℕ, ◌<◌}
use lib.ListN.{length}
use Rattle.basics.specs.Bounded.{each, any, count}
use Rattle.basics.specs.Buffers.{or_else}
use Rattle.basics.specs.Least.{least}
use Rattle.basics.proofs.Lists.{map_same}
use Rattle.sets.specs.Sets.{has, size, set_of}
use Rattle.tables.specs.Rows.{pattern_A, pattern_B, no_initial, forked, doubled}
use Rattle.tables.specs.Table.{pattern_range, n_of, k_of, m_of, flags_of, head_of, record_at, letter_of, target_of, next_of, is_initial, is_accepting, chain_has, edge, meaning, flags_good, records_good, named, heads_good, nexts_good, chains_good, table_refusal}
use Rattle.patterns.specs.Check.{check_refusal, place_of_fork, check_place, as_checked, checked}
use Rattle.patterns.specs.Forks.{smallest_pair, first_pair, fork_place}
use Rattle.patterns.specs.Pattern.{targets_of, initial_states, accepting_states, grown, reached_in, inner_of, forks, semi_deterministic}
use Rattle.patterns.specs.Rows.{CheckRow, passes, refused, forks_at, check_rows, check_row}

-- the one computation
all_right : map (λ (r : CheckRow). checked r.words) check_rows ≡ map (λ (r : CheckRow). r.answer) check_rows
unfolding each any count least or_else has size set_of pattern_A pattern_B no_initial forked doubled pattern_range n_of k_of m_of flags_of head_of record_at letter_of target_of next_of is_initial is_accepting chain_has edge meaning flags_good records_good named heads_good nexts_good chains_good table_refusal check_refusal targets_of accepting_states grown reached_in inner_of forks semi_deterministic smallest_pair first_pair fork_place place_of_fork check_place as_checked checked passes refused forks_at check_rows
all_right = refl

-- every row is right
pub check_row_right : (i : ℕ) → i < length check_rows → checked (check_row i).words ≡ (check_row i).answer
unfolding check_row
check_row_right =
    map_same (λ (r : CheckRow). checked r.words) (λ (r : CheckRow). r.answer) check_rows all_right (refused 2 [])

-- the state that forks in the fourth row is never reached
pub fork_unreached : has (reached_in (meaning forked) 2 (initial_states (meaning forked))) 1 ≡ false
unfolding any has set_of forked n_of k_of m_of flags_of head_of record_at letter_of target_of next_of is_initial chain_has edge meaning initial_states grown reached_in
fork_unreached = refl
