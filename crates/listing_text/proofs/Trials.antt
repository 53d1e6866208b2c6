-- The trial inputs: one computation over all of them, and what it says of each. Assumes nothing.
use mathlib.Core.Path.{◌≡◌, refl}
use mathlib.Core.List.{map}
use Prim.Native.Nat.{ℕ, ◌<◌}
use lib.ListN.{length}
use Rattle.decimal.specs.Lines.{digits, decimal, line, ascii}
use Rattle.decimal.specs.Reading.{is_blank, is_digit, between, under_way, fault, ended, longer, with_byte, scan, numbers_of, read_numbers}
use Rattle.listing_text.specs.Listing.{listing_bounds, listing_room, refused_line, counts_line, state_line, edge_line, accepted_text, answered, listing_of, listing}
use Rattle.listing_text.specs.Trials.{Trial, gives, trials, trial}
use Rattle.basics.proofs.Lists.{map_same}
use Rattle.basics.specs.Bounded.{each, any, count}
use Rattle.basics.specs.Buffers.{or_else}
use Rattle.basics.specs.Rows.{rows}
use Rattle.sets.specs.Sets.{has, size, without, set_of, union, subsets}
use Rattle.automata.specs.System.{an_edge, built, number_of, with_state, with_states, add_edge, add_all, by_letters, expand, state_at, explore_from, begin, explore, edge_at, listed, numbered}
use Rattle.tables.specs.Table.{pattern_range, wide_range, n_of, k_of, m_of, flags, flags_of, head_of, record_at, letter_of, target_of, next_of, is_initial, is_accepting, chain_has, edge, meaning, flags_good, records_good, named, heads_good, nexts_good, chains_good, table_refusal}
use Rattle.ncsb.specs.Bound.{bound}
use Rattle.ncsb.specs.Lines.{targets, entering, reachable_N, reachable_CS, disjoint, safe_stays, not_leaving, no_dead_end, followed, breakpoint}
use Rattle.ncsb.specs.Successors.{quadruple, same, accepting, initial_free, initial_for, initials, leaving, blocked, free, successor_for, successors, ncsb, asks, blocked_by, successor_by}
use Rattle.patterns.specs.Check.{check_refusal}
use Rattle.patterns.specs.Pattern.{targets_of, initial_states, accepting_states, grown, reached_in, inner_of, marks_of, forks, semi_deterministic, moves}
use Rattle.layout.specs.Chained.{flags_word}
use Rattle.complement.specs.Build.{room_refusal, build_refusal}
use Rattle.complement.specs.Complement.{system_of, complement}

-- the one computation
all_right : map (λ (t : Trial). listing (ascii t.input)) trials ≡ map (λ (t : Trial). ascii t.output) trials
unfolding digits decimal line ascii listing_bounds refused_line counts_line listing_room state_line edge_line accepted_text answered listing_of listing is_blank is_digit between under_way fault ended longer with_byte scan numbers_of read_numbers gives trials each any count or_else rows has size without set_of union subsets an_edge built number_of with_state with_states add_edge add_all by_letters expand state_at explore_from begin explore edge_at listed numbered pattern_range wide_range n_of k_of m_of flags flags_of head_of record_at letter_of target_of next_of is_initial is_accepting chain_has edge meaning flags_good records_good named heads_good nexts_good chains_good table_refusal quadruple same accepting initial_free initial_for initials entering leaving blocked free successor_for successors ncsb check_refusal targets_of initial_states accepting_states grown reached_in inner_of marks_of forks semi_deterministic moves flags_word room_refusal build_refusal bound system_of complement targets reachable_N reachable_CS disjoint safe_stays not_leaving no_dead_end followed breakpoint asks blocked_by successor_by
all_right = refl

-- every trial input gives its output
pub trials_right : (i : ℕ) → i < length trials → listing (ascii (trial i).input) ≡ ascii (trial i).output
unfolding trial
trials_right =
    map_same (λ (t : Trial). listing (ascii t.input)) (λ (t : Trial). ascii t.output) trials all_right (gives "" "")
