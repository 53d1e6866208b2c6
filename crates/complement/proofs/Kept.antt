-- States and edges that the buffers keep: what is read back, the room that they have, and one more of each. Assumes nothing.
use mathlib.Core.Path.{◌≡◌, refl, sym, ◌∙◌, ap}
use mathlib.Core.List.{List, [], ◌∷◌, ◌++◌}
use mathlib.Core.Logic.{inl, inr}
use Prim.Native.Nat.{ℕ, suc, ◌+◌, ◌*◌, ◌≤◌, ◌<◌, min}
use native.Mathlib.Omega.{arith}
use lib.Dec.{ltb}
use lib.ListN.{length, get_or, length-append}
use lib.Seq.{sets, length-sets, take_all, take-append-le}
use Rattle.basics.proofs.Booleans.{either, ltb_lt, ltb_ge}
use Rattle.basics.proofs.Rows.{items_length, items_snoc}
use Rattle.basics.proofs.Tabulate.{tabulate_same, tabulate_items}
use Rattle.automata.specs.System.{Edge, Built}
use Rattle.tables.specs.Table.{Limits}
use Rattle.ncsb.specs.Successors.{quadruple}
use Rattle.ncsb.specs.declared.Quadruple.{Quadruple}
use Rattle.record_words.specs.Record.{record_words, words_of, all_words, full_records, quadruple_at, records_of, with_quadruple}
use Rattle.record_words.proofs.Laws.{words_length, all_length, with_length, inside_words, full_kept, same_record, read_back}
use Rattle.complement.specs.Build.{Lent}
use Rattle.complement.specs.Records.{capacity}
use Rattle.complement.specs.Found.{Begins, quadruples, StatesKept, triple, triples, edge_room, counted_to, EdgesKept, with_edge, one_more, Shows}
use Rattle.complement.specs.declared.explore.Progress.{Progress}
use Rattle.complement.proofs.Stored.{begins_words}

-- RECORDS of quadruples
module _ {limits : Limits} {xs : List Quadruple} {s : List ℕ} {n : ℕ} (h : StatesKept (quadruples limits) xs s n) where
  -- a record that is read back
  pub kept_at : (i : ℕ) → i < n → quadruple_at s i ≡ get_or xs i (quadruple 0 0 0 0)
  kept_at i l =
      let e = h.counted in same_record s (all_words xs) h.begins.at i ∙ read_back xs (quadruple 0 0 0 0) i (omega arith)

  -- all records that are read back
  pub kept_records : records_of s n ≡ xs
  unfolding records_of
  kept_records =
      let e = h.counted in
      tabulate_same n (quadruple_at s) (λ i. get_or xs i (quadruple 0 0 0 0)) kept_at
      ∙ rw e (tabulate_items xs (quadruple 0 0 0 0))

-- room for states is room for their records, and no more than a table can have
module _ (limits : Limits) (s : List ℕ) where
  pub capacity_full : (n : ℕ) → n ≤ capacity limits s → n ≤ full_records s
  unfolding capacity
  capacity_full n l = omega arith

  pub capacity_limit : capacity limits s ≤ limits.states
  unfolding capacity
  capacity_limit = omega arith

  pub capacity_kept : (s' : List ℕ) → length s' ≡ length s → capacity limits s' ≡ capacity limits s
  unfolding capacity
  capacity_kept s' e = rw (full_kept s s' e) refl

  pub capacity_with : (n : ℕ) (x : Quadruple) → capacity limits (with_quadruple s n x) ≡ capacity limits s
  capacity_with n x = capacity_kept (with_quadruple s n x) (with_length s n x)

-- all states that the buffers keep have a record each, and are no more than a table can have
module _ {limits : Limits} {b : Built Quadruple} {l : Lent} {p : Progress} (h : Shows (quadruples limits) b l p) where
  pub shows_room : p.states ≤ full_records l.sets
  shows_room = let e = h.states.counted in let few = h.states.fits in capacity_full limits l.sets p.states (omega arith)

  pub shows_limit : p.states ≤ limits.states
  shows_limit =
      let e = h.states.counted in
      let few = h.states.fits in
      let m = capacity_limit limits l.sets in omega arith

-- one more state
pub kept_more :
    {limits : Limits} {xs : List Quadruple} {s : List ℕ} {n : ℕ} (x : Quadruple) → StatesKept (quadruples limits) xs s n →
    n < capacity limits s → StatesKept (quadruples limits) (xs ++ (x ∷ [])) (with_quadruple s n x) (n + 1)
unfolding with_quadruple
kept_more {limits} {xs} {s} {n} x h l =
    let e = h.counted in
    let begin : length (all_words xs) ≡ record_words * n = all_length xs ∙ ap (λ (k : ℕ). record_words * k) (sym e) in
    let inside = inside_words s n (capacity_full limits s (suc n) l) in
    let one = words_length x in
    let room : length (all_words xs) + length (words_of x) ≤ length s = omega arith in
    let same = capacity_with limits s n x in
    record {
      counted = simp length-append (omega arith);
      fits = simp length-append (omega arith);
      begins = rw (items_snoc words_of xs x, ← begin) (begins_words (words_of x) room h.begins);
    }

-- EDGES
pub triple_length : (e : Edge) → length (triple e) ≡ 3
unfolding triple
triple_length e = refl

pub triples_length : (es : List Edge) → length (triples es) ≡ 3 * length es
triples_length = items_length triple triple_length

room_same : (limits : Limits) (w : List ℕ) (i : ℕ) (vs : List ℕ) → edge_room limits (sets w i vs) ≡ edge_room limits w
unfolding edge_room
room_same limits w i vs = rw (length-sets w i vs) refl

module _ {limits : Limits} {es : List Edge} {w : List ℕ} {m : ℕ} (e : Edge) (h : EdgesKept limits es w m) where
  count_more : one_more limits m ≡ min (length (es ++ (e ∷ []))) (counted_to limits)
  unfolding one_more counted_to
  count_more = let count = h.counted in simp length-append (omega arith)

  -- how many there are below the room for them, and at it
  below_room : m < edge_room limits w → (m ≡ length es) × (3 + 3 * m + 3 ≤ length w)
  unfolding edge_room counted_to
  below_room l = let count = h.counted in (omega arith, omega arith)

  past_room : edge_room limits w ≤ m → edge_room limits w ≤ length es
  unfolding counted_to
  past_room l = let count = h.counted in omega arith

  edge_in : m < edge_room limits w → EdgesKept limits (es ++ (e ∷ [])) (sets w (3 + 3 * m) (triple e)) (one_more limits m)
  unfolding triple
  edge_in l =
      let count = (below_room l).0 in
      let room = (below_room l).1 in
      let long = triples_length es in
      let all : length es ≤ edge_room limits w = omega arith in
      let more : length (es ++ (e ∷ [])) ≤ edge_room limits w = rw length-append (omega arith) in
      let begin : length (0 ∷ 0 ∷ 0 ∷ triples es) ≡ 3 + 3 * m = omega arith in
      let place : length (0 ∷ 0 ∷ 0 ∷ triples es) + 3 ≤ length w = omega arith in
      let old : Begins (0 ∷ 0 ∷ 0 ∷ triples es) w = rw (take_all (edge_room limits w) es all) at h.begins in
      record {
        counted = count_more;
        begins =
            rw (
              room_same limits w (3 + 3 * m) (triple e),
              take_all (edge_room limits w) (es ++ (e ∷ [])) more,
              items_snoc triple es e,
              ← begin,
            )
            (begins_words (triple e) place old);
      }

  edge_out : edge_room limits w ≤ m → EdgesKept limits (es ++ (e ∷ [])) w (one_more limits m)
  edge_out l =
      record {
        counted = count_more;
        begins = rw (take-append-le (edge_room limits w) es (e ∷ []) (past_room l)) h.begins;
      }

  pub edges_more : EdgesKept limits (es ++ (e ∷ [])) (with_edge limits w m e) (one_more limits m)
  unfolding with_edge
  edges_more =
      elim (either (ltb m (edge_room limits w))) [
        | inl q ↦ rw q (edge_in (ltb_lt m (edge_room limits w) q))
        | inr q ↦ rw q (edge_out (ltb_ge m (edge_room limits w) q))
      ]
