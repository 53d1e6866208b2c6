-- What is printed of the build's answer and of what it left is the listing of the input, and fits the output. Assumes nothing.
use mathlib.Core.Path.{◌≡◌, sym, ◌∙◌, ap}
use mathlib.Core.Bool.{true, false}
use mathlib.Core.List.{List}
use Prim.Native.Nat.{ℕ, zero, suc, ◌*◌, ◌≤◌, ◌<◌}
use native.Mathlib.Omega.{arith}
use lib.ListN.{length, take, length-append}
use Rattle.basics.specs.Buffers.{filled}
use Rattle.basics.proofs.Booleans.{eq_eqb, ne_eqb}
use Rattle.basics.proofs.Rows.{rows_same}
use Rattle.automata.specs.System.{an_edge, edge_at, state_at, numbered}
use Rattle.tables.specs.Access.{Sized}
use Rattle.tables.specs.Table.{Limits, table_words, wide_range, n_of, m_of, flags_of}
use Rattle.layout.specs.Chained.{flags_word}
use Rattle.layout.specs.Orderly.{Orderly}
use Rattle.layout.proofs.Indexed.{Indexed, indexed_n, indexed_m, indexed_letter, indexed_target, filled_indexed}
use Rattle.record_words.specs.Record.{record_words, full_records, quadruple_at}
use Rattle.record_words.proofs.Laws.{row_back, words_full, full_kept}
use Rattle.complement.specs.Build.{Lent, lent, Room, room_of, build_refusal, BuildSays}
use Rattle.complement.specs.Complement.{system_of, complement, complement_automaton, complement_words, sets_words}
use Rattle.complement.specs.declared.Counts.{Counts}
use Rattle.complement.proofs.Second.{complement_orderly, words_length, sets_length, words_left, sets_left, build_number, build_states, build_edges, build_passed}
use Rattle.decimal.specs.Lines.{Appended}
use Rattle.decimal.specs.Reading.{Scan, ended, numbers_of, read_numbers, is_failed, bounds_of, scan_of, Became, Reads}
use Rattle.decimal.specs.declared.lines.Output.{Output}
use Rattle.decimal.specs.declared.reading.Reading.{Reading}
use Rattle.decimal.specs.declared.reading.State.TheVariants.{Failed}
use Rattle.decimal.proofs.Placing.{appended_wider}
use Rattle.decimal.proofs.Scanning.{not_failed}
use Rattle.listing_text.specs.Built.{source_of, built_state, built_edge, built_edges, built_text, printed, PrintableAnswer}
use Rattle.listing_text.specs.Listing.{listing_bounds, most_states, most_words, listing_room, refused_line, state_line, edge_line, accepted_text, answered, listing_of, listing}
use Rattle.listing_text.specs.Output.{refused_bytes, text_bytes, output_bytes, text_of}
use Rattle.listing_text.proofs.Sources.{source_right}

-- AN ACCEPTED BUILD
-- the sets of a state
state_back :
    (t s : List ℕ) (i : ℕ) → i < length (complement t).states →
    quadruple_at (filled (sets_words t) s) i ≡ state_at (system_of t) (complement t).states i
unfolding sets_words
state_back t s i l = row_back (length (complement t).states) (λ i. state_at (system_of t) (complement t).states i) s i l

module _
    {limits : Limits} {t : List ℕ} {r : Counts} {before after : Lent} (says : BuildSays limits t r before after) (accepted : r.number ≡ 0) where
  indexed : Indexed (complement_automaton t) (complement t).edges after.words
  unfolding complement_words
  indexed = rw (words_left says accepted) (filled_indexed (complement_automaton t) (complement t).edges before.words)

  orderly : Orderly (complement_automaton t) (complement t).edges
  orderly = complement_orderly t (build_passed says accepted)

  -- there is a record for each state
  stored : r.states ≤ full_records after.sets
  unfolding filled
  stored =
      let n = build_states says accepted in
      let long = sets_length t in
      let e = simp length-append at (ap length (sets_left says accepted)) in
      words_full after.sets r.states (rw n (omega arith))

  -- the counts are those of the words, which are all there
  states_are : r.states ≡ n_of after.words
  unfolding complement_automaton numbered
  states_are = build_states says accepted ∙ sym (indexed_n indexed)

  edges_are : r.edges ≡ m_of after.words
  edges_are = build_edges says accepted ∙ sym (indexed_m indexed)

  all_words : Sized after.words
  unfolding filled complement_automaton numbered
  all_words =
      let k = indexed_n indexed in
      let m = indexed_m indexed in
      let long = words_length t in
      let e = simp length-append at (ap length (words_left says accepted)) in omega arith

  -- each record has a source
  sources : (i : ℕ) → i < m_of after.words → source_of after.words i < n_of after.words
  unfolding complement_automaton numbered
  sources i l =
      let n = indexed_n indexed in
      let m = indexed_m indexed in
      let e = source_right orderly indexed i (omega arith) in let b = orderly.source i (omega arith) in omega arith

  state_same :
      (i : ℕ) → i < length (complement t).states →
      built_state after.words after.sets i ≡ state_line i (state_at (system_of t) (complement t).states i) (flags_word (complement_automaton t) i)
  unfolding built_state flags_of complement_automaton numbered
  state_same i l = rw (indexed.flags i l, sets_left says accepted, state_back t before.sets i l)

  edge_same :
      (i : ℕ) → i < length (complement t).edges →
      built_edge after.words (source_of after.words i) (suc i) ≡ edge_line (edge_at (complement t).edges i)
  unfolding built_edge an_edge
  edge_same i l = rw (source_right orderly indexed i l, indexed_letter indexed i l, indexed_target indexed i l)

  -- what is printed of it
  built_right : built_text r.states r.edges after.words after.sets ≡ accepted_text (system_of t) (complement t)
  unfolding built_text built_edges accepted_text complement_automaton
  built_right =
      let n = build_states says accepted in
      let m = build_edges says accepted in
      rw (
        n,
        m,
        rows_same (length (complement t).states) (built_state after.words after.sets)
            (λ i. state_line i (state_at (system_of t) (complement t).states i) (flags_word (complement_automaton t) i)) state_same,
        rows_same (length (complement t).edges) (λ i. built_edge after.words (source_of after.words i) (suc i))
            (λ i. edge_line (edge_at (complement t).edges i)) edge_same,
      )

-- WHAT IS PRINTED of the build's answer and of what it left is the answer to the table
pub printed_right :
    {limits : Limits} {t : List ℕ} {r : Counts} {before after : Lent} → BuildSays limits t r before after →
    printed r after.words after.sets ≡ answered (build_refusal limits t (room_of before)) t
unfolding printed answered
printed_right {limits} {t} {r} {before} {after} says = go (build_refusal limits t (room_of before)) (build_number says)
  where
    go : (k : ℕ) → r.number ≡ k → printed r after.words after.sets ≡ answered k t
    go zero e = rw (eq_eqb e) (built_right says e)
    go (suc k) e = rw (ne_eqb r.number 0 (λ q. omega arith)) (ap refused_line e)

-- THE ROOM
-- of arrays
pub room_for : (o s : List ℕ) → length o ≡ most_words → length s ≡ record_words * most_states → room_of (lent o s) ≡ listing_room
unfolding room_of listing_room full_records record_words
room_for o s e f = rw (e, f)

-- what fits the listing's room fits the output
text_fits : (n m : ℕ) → n ≤ most_states → table_words n m ≤ most_words → text_bytes n m ≤ output_bytes
unfolding text_bytes
text_fits n m l k = omega arith

-- what the build left can be printed
module _
    {limits : Limits} {t : List ℕ} {r : Counts} {before after : Lent} (says : BuildSays limits t r before after) (room : room_of before ≡ listing_room) where
  words_room : length before.words ≡ most_words
  unfolding room_of listing_room
  words_room = ap (λ (x : Room). x.words) room

  sets_room : full_records before.sets ≡ most_states
  unfolding room_of listing_room
  sets_room = ap (λ (x : Room). x.records) room

  pub printable :
      length after.words ≡ length before.words → length after.sets ≡ length before.sets →
      PrintableAnswer r after.words after.sets
  printable same_words same_sets =
      record {
        accepted =
            λ accepted.
            let n = states_are says accepted in
            let m = edges_are says accepted in
            let sized = all_words says accepted in
            let there = stored says accepted in
            let kept = full_kept before.sets after.sets same_sets in
            let lent_words = words_room in
            let lent_sets = sets_room in
            let few : n_of after.words ≤ most_states = omega arith in
            record {
              states_are = n;
              edges_are = m;
              sized = sized;
              printable =
                  record {
                    stated = record { few = few; stored = omega arith };
                    sourced = record { few = few; source = sources says accepted };
                    room = text_fits (n_of after.words) (m_of after.words) few (omega arith);
                  };
            };
      }

-- THE ANSWER to a table
pub answer_appended :
    {limits : Limits} {t : List ℕ} {r : Counts} {before after : Lent} {o o' : Output} →
    BuildSays limits t r before after →
    room_of before ≡ listing_room → Appended o output_bytes (printed r after.words after.sets) o' →
    Appended o output_bytes (answered (build_refusal limits t listing_room) t) o'
answer_appended says room p = let e = rw room at (printed_right says) in rw (← e) p

-- WHAT WAS READ decides what is listed
module _ (s : Scan) {w w' : List ℕ} {r : Reading} (b : Became (ended s) w r w') where
  failed_is : is_failed r.state ≡ (ended s).failed
  unfolding scan_of
  failed_is = ap (λ (x : Scan). x.failed) b.holds

  numbers_are : take r.count w' ≡ (ended s).numbers
  unfolding scan_of
  numbers_are = ap (λ (x : Scan). x.numbers) b.holds

  pub listed_failed :
      {o o' : Output} → r.state ≡ Failed → Appended o refused_bytes (refused_line 1) o' → Appended o output_bytes (text_of s) o'
  unfolding text_of numbers_of listing_of
  listed_failed e p =
      let f : (ended s).failed ≡ true = sym failed_is ∙ ap is_failed e in rw f (appended_wider output_bytes (omega arith) p)

  pub listed_read :
      {o o' : Output} → (r.state ≡ Failed → ⊥) →
      Appended o output_bytes (answered (build_refusal wide_range (take r.count w') listing_room) (take r.count w')) o' →
      Appended o output_bytes (text_of s) o'
  unfolding text_of numbers_of listing_of
  listed_read e p =
      let f : (ended s).failed ≡ false = sym failed_is ∙ not_failed r.state e in rw (f, ← numbers_are) p

-- THE WHOLE PROGRAM: of whatever input was read into words for the largest pattern, the text is the listing of that input
bounds_are : (w : List ℕ) → length w ≡ listing_bounds.most → bounds_of w ≡ listing_bounds
unfolding bounds_of listing_bounds
bounds_are w e = rw e

pub listing_right :
    {r : Reading} {w : List ℕ} → length w ≡ listing_bounds.most → (input : List ℕ) → Reads input r w → text_of (scan_of r w) ≡ listing input
unfolding text_of listing read_numbers
listing_right {w = w} e input p = rw (p.scanned, bounds_are w e)
