-- The methods' definitions give the complements of A and B: every row in one computation. Assumes nothing.
use mathlib.Core.Path.{◌≡◌, refl}
use mathlib.Core.List.{List, [], ◌∷◌, map}
use Rattle.basics.specs.Bounded.{each, any, count}
use Rattle.basics.specs.Tabulate.{tabulate}
use Rattle.sets.specs.Sets.{has, size, without, set_of, union, subsets, nth_subset}
use Rattle.tables.specs.Rows.{pattern_A, pattern_B}
use Rattle.tables.specs.Table.{n_of, k_of, m_of, flags_of, head_of, record_at, letter_of, target_of, next_of, is_initial, is_accepting, chain_has, edge, meaning}
use Rattle.ncsb.specs.Array.{from_array, nth_initial, nth_successor}
use Rattle.ncsb.specs.Lines.{targets, entering, reachable_N, reachable_CS, disjoint, safe_stays, not_leaving, no_dead_end, followed, breakpoint}
use Rattle.ncsb.specs.Successors.{quadruple, initial_free, initial_for, leaving, free, asks, blocked_by, successor_by}
use Rattle.ncsb.specs.declared.Quadruple.{Quadruple}
use Rattle.patterns.specs.Masks.{masks_of, row_of}
use Rattle.patterns.specs.Pattern.{targets_of, initial_states, accepting_states, grown, reached_in, inner_of, marks_of, moves}
use Rattle.starred.specs.Steps.{Followed, follows, steps, read_off, begun, stepped}

-- what the methods give, row by row
abbrev pub given : List Followed → List (List Quadruple)
given rows = map (λ r. stepped r.pattern r.from r.letter) rows

-- the one computation over all rows
pub steps_right : given steps ≡ map (λ r. r.next) steps
unfolding steps follows read_off stepped each any count has size without set_of union subsets tabulate pattern_A pattern_B n_of k_of m_of flags_of head_of record_at letter_of target_of next_of is_initial is_accepting chain_has edge meaning from_array nth_subset asks blocked_by nth_successor quadruple entering leaving free masks_of row_of targets_of initial_states accepting_states grown reached_in inner_of marks_of moves targets reachable_N reachable_CS disjoint safe_stays not_leaving no_dead_end followed breakpoint successor_by
steps_right = refl

-- the initial quadruples, by rising S
pub begun_A : begun pattern_A ≡ quadruple 1 0 0 0 ∷ []
unfolding begun read_off any has size count without set_of subsets tabulate pattern_A n_of k_of m_of flags_of head_of record_at letter_of target_of next_of is_initial is_accepting chain_has edge meaning from_array nth_subset nth_initial quadruple initial_free initial_for targets_of initial_states accepting_states grown reached_in inner_of marks_of moves
begun_A = refl

pub begun_B : begun pattern_B ≡ quadruple 0 1 0 1 ∷ quadruple 0 0 1 0 ∷ []
unfolding begun read_off any has size count without set_of subsets tabulate pattern_B n_of k_of m_of flags_of head_of record_at letter_of target_of next_of is_initial is_accepting chain_has edge meaning from_array nth_subset nth_initial quadruple initial_free initial_for targets_of initial_states accepting_states grown reached_in inner_of marks_of moves
begun_B = refl
