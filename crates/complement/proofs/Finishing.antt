-- From what was found to the complement's words: what laying out asks holds, and with the flags set the words are the complement's table; the
-- records are its sets. Assumes nothing.
use mathlib.Core.Path.{◌≡◌, refl, sym, ◌∙◌, ap}
use mathlib.Core.Bool.{Bool, false}
use mathlib.Core.List.{List, ◌∷◌}
use Prim.Native.Nat.{ℕ, suc, ◌+◌, ◌*◌, ◌≤◌, ◌<◌}
use native.Mathlib.Omega.{arith}
use lib.ListN.{length, get_or, get_or-eq_default}
use lib.Seq.{take_all, take-length}
use Rattle.std.proofs.Common.{Ok}
use Rattle.basics.specs.Buffers.{filled}
use Rattle.basics.proofs.Booleans.{lt_ltb}
use Rattle.basics.proofs.Rows.{items_at, items_rows}
use Rattle.basics.proofs.Tabulate.{tabulate_same, tabulate_items}
use Rattle.automata.specs.System.{an_edge, edge_at, state_at, numbered}
use Rattle.tables.specs.Table.{Limits, table_words, RangeFits}
use Rattle.ncsb.specs.Successors.{initials, ncsb}
use Rattle.ncsb.specs.declared.Shape.{Shape}
use Rattle.layout.specs.Chained.{flags_word, chained_words}
use Rattle.layout.specs.Steps.{LayOutAsks}
use Rattle.layout.specs.Triples.{triple_at, triples_of, plain}
use Rattle.layout.proofs.Indexed.{flagging_end}
use Rattle.record_words.specs.Record.{record_words, words_of, all_words}
use Rattle.record_words.proofs.Laws.{all_length, full_words}
use Rattle.complement.specs.Build.{Lent, lent, too_long}
use Rattle.complement.specs.Complement.{system_of, complement, complement_automaton, complement_words, sets_words}
use Rattle.complement.specs.Flags.{state_flags, with_flags, record_accepts, FlagsAsk}
use Rattle.complement.specs.Found.{Begins, quadruples, triple, triples, edge_room, counted_to, Shows, start_moves, ReadOff, Tried}
use Rattle.complement.specs.declared.explore.Progress.{Progress}
use Rattle.complement.proofs.Answers.{length_refuses, tried_built, short_enough}
use Rattle.complement.proofs.Flagged.{flags_flagging}
use Rattle.complement.proofs.Kept.{kept_at, shows_room, shows_limit, triple_length, triples_length}
use Rattle.complement.proofs.Numbering.{letters_all, letters_few, starts_same}
use Rattle.complement.proofs.Reaching.{SameSizes}
use Rattle.complement.proofs.Second.{complement_orderly}
use Rattle.complement.proofs.Stored.{begins_filled}

-- SETS: records one after the other are the complement's sets
records_sets : (t : List ℕ) → all_words (complement t).states ≡ sets_words t
unfolding sets_words state_at
records_sets t =
    let xs = (complement t).states in
    ap all_words (sym (take-length xs)) ∙ sym (items_rows words_of xs (system_of t).blank (length xs) (omega arith))

module _
    {limits : Limits} {t : List ℕ} {masks : List (List ℕ)} {shape : Shape} (read : ReadOff t masks shape) {l : Lent}
    {p : Progress} (h : Shows (quadruples limits) (complement t) l p) where
  abbrev w : List ℕ
  w = l.words

  abbrev s : List ℕ
  s = l.sets

  -- the sets are all there
  pub sets_built : (o : List ℕ) → length s ≡ length o → s ≡ filled (sets_words t) o
  unfolding filled
  sets_built o e =
      let xs = (complement t).states in
      let count = h.states.counted in
      let room : record_words * length xs ≤ length s = full_words s (length xs) (let r = shows_room h in omega arith) in
      let whole : s ≡ filled (all_words xs) s = begins_filled (rw (all_length xs) room) h.states.begins in
      whole ∙ rw (records_sets t, e) refl

  module _ (short : (p.edges ≤ limits.records) × (table_words p.states p.edges ≤ length w)) where
    all_edges : p.edges ≡ length (complement t).edges
    unfolding counted_to
    all_edges = let e = h.edges.counted in let few = short.0 in omega arith

    -- every edge is in the words
    edges_room : length (complement t).edges ≤ edge_room limits w
    unfolding edge_room
    edges_room = let e = all_edges in let few = short.0 in let m = short.1 in omega arith

    edges_kept : Begins (0 ∷ 0 ∷ 0 ∷ triples (complement t).edges) w
    edges_kept = rw (take_all (edge_room limits w) (complement t).edges edges_room) at h.edges.begins

    -- word j of edge e
    edge_word :
        (e j i : ℕ) → e < length (complement t).edges → j < 3 → i ≡ suc (suc (suc (3 * e + j))) →
        get_or w i 0 ≡ get_or (triple (edge_at (complement t).edges e)) j 0
    unfolding edge_at
    edge_word e j i l m at =
        edges_kept.at i ∙ rw at (items_at triple triple_length (complement t).edges (an_edge 0 0 0) e j l m)

    kept_edge : (e : ℕ) → e < length (complement t).edges → triple_at w e ≡ edge_at (complement t).edges e
    unfolding triple_at triple an_edge
    kept_edge e l =
        rw (
          edge_word e 0 (3 + 3 * e) l (omega arith) (omega arith),
          edge_word e 1 (4 + 3 * e) l (omega arith) (omega arith),
          edge_word e 2 (5 + 3 * e) l (omega arith) (omega arith),
        )

    edges_are : triples_of w p.edges ≡ (complement t).edges
    unfolding edge_at
    edges_are =
        let es = (complement t).edges in
        rw all_edges (tabulate_same (length es) (triple_at w) (edge_at es) kept_edge ∙ tabulate_items es (an_edge 0 0 0))

    pub lay_out_asks : {bits : ℕ} → RangeFits bits limits → LayOutAsks bits w p.states shape.letters p.edges
    unfolding triple complement_automaton numbered
    lay_out_asks {bits} fits =
        let all = all_edges in
        let count = h.states.counted in
        let few = letters_few t read.passed read.masked read.shaped in
        record {
          room =
              record {
                room = short.1;
                states_fit = (let most = shows_limit h in let fit = fits.states_fit in omega arith);
                edges_fit = (let most = short.0 in let fit = fits.records_fit in omega arith);
              };
          letters_fit = (let fit = fits.letters_fit in omega arith);
          source = λ e l.
              let same = edge_word e 2 (5 + 3 * e) (omega arith) (omega arith) (omega arith) in
              let inside = (complement_orderly t read.passed).source e (omega arith) in omega arith;
          beyond = λ i l.
              let long = triples_length (complement t).edges in
              let past : length (0 ∷ 0 ∷ 0 ∷ triples (complement t).edges) ≤ i = omega arith in
              edges_kept.at i ∙ get_or-eq_default (0 ∷ 0 ∷ 0 ∷ triples (complement t).edges) 0 past;
        }

    module _
        {w1 : List ℕ} (laid : w1 ≡ filled (chained_words (plain p.states shape.letters) (triples_of w p.edges)) w)
        (size : length w1 ≡ length w) where
      pub flags_ask : FlagsAsk (lent w1 s) p.states
      flags_ask = record { words_room = (let m = short.1 in let e = size in omega arith); sets_room = shows_room h }

      -- a state's record says its flags
      same_flags :
          {k : ℕ} → k ≡ length (initials (start_moves shape)) → (i : ℕ) → i < (complement_automaton t).states →
          state_flags (record_accepts s) k i ≡ flags_word (complement_automaton t) i
      unfolding state_flags record_accepts flags_word complement_automaton numbered system_of ncsb state_at
      same_flags {k} e i l =
          let count = h.states.counted in
          let first : k ≡ length (system_of t).starts = e ∙ ap length (starts_same t read.passed read.masked read.shaped) in
          rw (first, kept_at h.states i (omega arith), lt_ltb l) refl

      automaton_states : p.states ≡ (complement_automaton t).states
      unfolding complement_automaton numbered
      automaton_states = h.states.counted

      automaton_letters : shape.letters ≡ (complement_automaton t).letters
      unfolding complement_automaton numbered
      automaton_letters = letters_all t read.passed read.masked read.shaped

      laid_plain :
          (o : List ℕ) → length w ≡ length o →
          w1
          ≡ filled (chained_words (plain (complement_automaton t).states (complement_automaton t).letters) (complement t).edges) o
      unfolding filled
      laid_plain o g = laid ∙ rw (automaton_states, automaton_letters, edges_are, g) refl

      pub words_built :
          {k : ℕ} {v : List ℕ} (o : List ℕ) → k ≡ length (initials (start_moves shape)) → v ≡ with_flags (record_accepts s) k p.states w1 →
          length w ≡ length o → v ≡ filled (complement_words t) o
      unfolding complement_words
      words_built {k} {v} o e f g =
          let a = complement_automaton t in
          let es = (complement t).edges in
          let all = all_edges in
          let states = automaton_states in
          let enough = short.1 in
          let room : 3 + 2 * a.states ≤ length w1 = omega arith in
          let whole : table_words a.states (length es) ≤ length o = omega arith in
          let flags = flags_flagging a (record_accepts s) k w1 room (same_flags e) a.states (omega arith) in
          let set_flags : v ≡ with_flags (record_accepts s) k a.states w1 = f ∙ ap (λ (n : ℕ). with_flags (record_accepts s) k n w1) states in
          flagging_end a es o w1 v whole (laid_plain o g) (rw set_flags flags)

-- THE ACCEPTED BUILD
module _
    {limits : Limits} {t : List ℕ} {masks : List (List ℕ)} {shape : Shape} (read : ReadOff t masks shape) {l : Lent}
    {p : Progress} (h : Shows (quadruples limits) (complement t) l p) {b : Bool}
    (tested : b ≡ too_long limits (length l.words) p.states p.edges) (short : b ≡ false) where
  enough : (p.edges ≤ limits.records) × (table_words p.states p.edges ≤ length l.words)
  enough = short_enough limits (length l.words) p.states p.edges tested short

  pub built_asks : {bits : ℕ} → RangeFits bits limits → LayOutAsks bits l.words p.states shape.letters p.edges
  built_asks fits = lay_out_asks read h enough fits

  pub built_counts : (p.states ≤ limits.states) × (p.edges ≤ limits.records)
  built_counts = (shows_limit h, enough.0)

  module _
      {w1 : List ℕ}
      (laid : w1 ≡ filled (chained_words (plain p.states shape.letters) (triples_of l.words p.edges)) l.words)
      (size : length w1 ≡ length l.words) where
    pub built_flags : FlagsAsk (lent w1 l.sets) p.states
    built_flags = flags_ask read h enough laid size

    pub built_tried :
        {k : ℕ} {v : List ℕ} (lends : Lent) → SameSizes l lends → k ≡ length (initials (start_moves shape)) →
        v ≡ with_flags (record_accepts l.sets) k p.states w1 →
        Tried limits t (Ok (record { states = p.states; edges = p.edges })) lends (lent v l.sets)
    built_tried lends sizes e f =
        let states = h.states.counted in
        let edges = all_edges read h enough in
        tried_built (length_refuses limits t lends read.passed h sizes tested short) states edges
        (words_built read h enough laid size lends.words e f sizes.words) (sets_built read h lends.sets sizes.sets)
