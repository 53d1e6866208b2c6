-- The starred trial pieces: one computation over all rows, and what it says of each. Assumes nothing.
use mathlib.Core.Path.{◌≡◌, refl}
use mathlib.Core.Bool.{Bool, true, false, ◌&&◌, not}
use mathlib.Core.List.{List, [], ◌∷◌}
use Prim.Native.Nat.{ℕ, ◌<◌}
use lib.Dec.{leb, eqb}
use lib.ListN.{length}
use Rattle.basics.specs.Bounded.{each, any, count}
use Rattle.basics.specs.Buffers.{or_else}
use Rattle.basics.specs.Least.{least}
use Rattle.basics.specs.Rows.{rows}
use Rattle.basics.specs.Tabulate.{tabulate}
use Rattle.basics.proofs.Booleans.{and_l, and_r, eqb_eq, leb_le, true_not}
use Rattle.basics.proofs.Bounded.{each_all}
use Rattle.sets.specs.Sets.{has, size, without, set_of, union, subsets}
use Rattle.automata.specs.Automaton.{Closed}
use Rattle.automata.specs.Decision.{takes?, nodes, product, starts, leads, grown_nodes, grow, row, marked, on_cycle}
use Rattle.automata.specs.Lasso.{positions, position_letter, next_position}
use Rattle.automata.specs.System.{an_edge, built, number_of, with_state, with_states, add_edge, add_all, by_letters, expand, state_at, explore_from, begin, explore, edge_at, listed, numbered}
use Rattle.automata.proofs.Decision.{takes_right, takes_not}
use Rattle.tables.specs.Made.{table_of}
use Rattle.tables.specs.Rows.{pattern_A, pattern_B, no_initial, forked, doubled}
use Rattle.tables.specs.Table.{pattern_range, wide_range, n_of, k_of, m_of, flags, flags_of, head_of, record_at, letter_of, target_of, next_of, is_initial, is_accepting, chain_has, edge, meaning, flags_good, records_good, named, heads_good, nexts_good, chains_good, table_refusal}
use Rattle.tables.proofs.Laws.{valid, meaning_closed}
use Rattle.ncsb.specs.Bound.{bound}
use Rattle.ncsb.specs.Lines.{targets, entering, reachable_N, reachable_CS, disjoint, safe_stays, not_leaving, no_dead_end, followed, breakpoint}
use Rattle.ncsb.specs.Successors.{quadruple, four_sets, same, accepting, initial_free, initial_for, initials, leaving, blocked, free, successor_for, successors, ncsb, asks, blocked_by, successor_by}
use Rattle.patterns.specs.Check.{check_refusal}
use Rattle.patterns.specs.Pattern.{targets_of, initial_states, accepting_states, grown, reached_in, inner_of, marks_of, forks, semi_deterministic, moves}
use Rattle.layout.specs.Chained.{first_record, next_record, flags_word, state_row, record_row, chained_words}
use Rattle.record_words.specs.Record.{words_of}
use Rattle.complement.specs.Build.{room_refusal, build_refusal}
use Rattle.complement.specs.Complement.{system_of, complement, complement_automaton, complement_words, sets_words}
use Rattle.decimal.specs.Lines.{digits, decimal, line, ascii}
use Rattle.decimal.specs.Reading.{is_blank, is_digit, between, under_way, fault, ended, longer, with_byte, scan, numbers_of, read_numbers}
use Rattle.listing_text.specs.Listing.{listing_bounds, listing_room, refused_line, counts_line, state_line, edge_line, accepted_text, answered, listing_of, listing}
use Rattle.starred.specs.Pieces.{Piece, lists, gives, refused, pattern_only, complement_only, pieces, piece, Gives, OnlyFirst, Right}

-- two lists hold the same numbers
same_words : List ℕ → List ℕ → Bool
same_words [] [] = true
same_words [] (y ∷ ys) = false
same_words (x ∷ xs) [] = false
same_words (x ∷ xs) (y ∷ ys) = eqb x y && same_words xs ys

words_same : (xs ys : List ℕ) → same_words xs ys ≡ true → xs ≡ ys
unfolding same_words
words_same [] [] h = refl
words_same [] (y ∷ ys) h = cc
words_same (x ∷ xs) [] h = cc
words_same (x ∷ xs) (y ∷ ys) h =
    let e = eqb_eq x y (and_l (same_words xs ys) h) in let es = words_same xs ys (and_r (eqb x y) h) in cc

-- THE TEST of a complement, of a lasso on two tables, of a piece
complement_test : (t : List ℕ) → (states edges : ℕ) → (sets table : List ℕ) → Bool
complement_test t n m s c =
    eqb (check_refusal t) 0
    && (eqb (length (complement t).states) n
    && (eqb (length (complement t).edges) m && (same_words (sets_words t) s && same_words (complement_words t) c)))

-- valid tables and a loop that is not empty; the first takes the lasso, and the second does not
lasso_test : (a b u v : List ℕ) → Bool
lasso_test a b u v =
    eqb (table_refusal wide_range a) 0
    && (eqb (table_refusal wide_range b) 0
    && (leb 1 (length v) && (takes? (meaning a) u v && not (takes? (meaning b) u v))))

piece_test : Piece → Bool
piece_test (lists t text c) = same_words (listing (line t)) (ascii text) && same_words (complement_words t) c
piece_test (gives t n m s c) = complement_test t n m s c
piece_test (refused t r) = eqb (check_refusal t) r
piece_test (pattern_only t u v) = lasso_test t (complement_words t) u v
piece_test (complement_only t u v) = lasso_test (complement_words t) t u v

-- the one computation
pieces_pass : each (length pieces) (λ i. piece_test (piece i)) ≡ true
unfolding same_words complement_test lasso_test piece_test each any count or_else rows has size without set_of union subsets takes? nodes product starts leads grown_nodes grow row marked tabulate on_cycle positions position_letter next_position an_edge built number_of with_state with_states add_edge add_all by_letters expand state_at explore_from begin explore edge_at listed numbered pattern_A pattern_B no_initial forked doubled pattern_range wide_range n_of k_of m_of flags flags_of head_of record_at letter_of target_of next_of is_initial is_accepting chain_has edge meaning flags_good records_good named heads_good nexts_good chains_good table_refusal quadruple four_sets same accepting initial_free initial_for initials entering leaving blocked free successor_for successors ncsb check_refusal targets_of initial_states accepting_states grown reached_in inner_of marks_of forks semi_deterministic moves least first_record next_record flags_word table_of state_row record_row chained_words room_refusal build_refusal bound system_of complement complement_automaton complement_words words_of sets_words digits decimal line ascii listing_bounds refused_line counts_line listing_room state_line edge_line accepted_text answered listing_of listing is_blank is_digit between under_way fault ended longer with_byte scan numbers_of read_numbers pieces piece targets reachable_N reachable_CS disjoint safe_stays not_leaving no_dead_end followed breakpoint asks blocked_by successor_by
pieces_pass = refl

complement_right : (t : List ℕ) (n m : ℕ) (s c : List ℕ) → complement_test t n m s c ≡ true → Gives t n m s c
unfolding complement_test
complement_right t n m s c h =
    let a = eqb (check_refusal t) 0 in
    let b = eqb (length (complement t).states) n in
    let d = eqb (length (complement t).edges) m in
    let e = same_words (sets_words t) s in
    let f = same_words (complement_words t) c in
    let h_b = and_r a {c = b && (d && (e && f))} h in
    let h_d = and_r b {c = d && (e && f)} h_b in
    let h_e = and_r d {c = e && f} h_d in
    record {
      passes = eqb_eq (check_refusal t) 0 (and_l {b = a} (b && (d && (e && f))) h);
      states_counted = eqb_eq (length (complement t).states) n (and_l {b = b} (d && (e && f)) h_b);
      edges_counted = eqb_eq (length (complement t).edges) m (and_l {b = d} (e && f) h_d);
      sets_are = words_same (sets_words t) s (and_l {b = e} f h_e);
      table_is = words_same (complement_words t) c (and_r e {c = f} h_e);
    }

closed : (t : List ℕ) → eqb (table_refusal wide_range t) 0 ≡ true → Closed (meaning t)
closed t h = meaning_closed (valid wide_range t (eqb_eq (table_refusal wide_range t) 0 h))

-- the computed answer is that of an accepting run
lasso_right : (a b u v : List ℕ) → lasso_test a b u v ≡ true → OnlyFirst a b u v
unfolding lasso_test
lasso_right a b u v h =
    let p = eqb (table_refusal wide_range a) 0 in
    let q = eqb (table_refusal wide_range b) 0 in
    let l = leb 1 (length v) in
    let x = takes? (meaning a) u v in
    let y = not (takes? (meaning b) u v) in
    let h_q = and_r p {c = q && (l && (x && y))} h in
    let h_l = and_r q {c = l && (x && y)} h_q in
    let h_x = and_r l {c = x && y} h_l in
    let endless = leb_le 1 (length v) (and_l {b = l} (x && y) h_l) in
    record {
      taken = (takes_right (meaning a) u v (closed a (and_l {b = p} (q && (l && (x && y))) h)) endless).0 (and_l {b = x} y h_x);
      not_taken =
          takes_not (meaning b) u v (closed b (and_l {b = q} (l && (x && y)) h_q)) endless
          (true_not (takes? (meaning b) u v) (and_r x {c = y} h_x));
    }

piece_right : (p : Piece) → piece_test p ≡ true → Right p
unfolding piece_test Right
piece_right (lists t text c) h =
    let listed = same_words (listing (line t)) (ascii text) in
    let table = same_words (complement_words t) c in (
      words_same (listing (line t)) (ascii text) (and_l {b = listed} table h),
      words_same (complement_words t) c (and_r listed {c = table} h),
    )
piece_right (gives t n m s c) h = complement_right t n m s c h
piece_right (refused t r) h = eqb_eq (check_refusal t) r h
piece_right (pattern_only t u v) h = lasso_right t (complement_words t) u v h
piece_right (complement_only t u v) h = lasso_right (complement_words t) t u v h

-- every starred piece is as docs/RULES.md has it
pub pieces_right : (i : ℕ) → i < length pieces → Right (piece i)
pieces_right i l = piece_right (piece i) (each_all (length pieces) (λ i. piece_test (piece i)) pieces_pass i l)
