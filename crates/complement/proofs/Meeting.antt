-- Meeting a successor: the buffers then keep one more edge, and one more state if it is new, or there are more states than fit. Assumes nothing.
use Rattle.std.proofs.Common.{◌≡◌, ℕ, ◌+◌, ◌≤◌, ◌<◌, List, [], ◌∷◌, ◌++◌, length, Some, None, sym, ◌∙◌, ap, length-append, arith}
use Rattle.automata.specs.System.{Built, built, number_of, an_edge, add_edge}
use Rattle.automata.proofs.Exploring.{add_edge_known, add_edge_new}
use Rattle.tables.specs.Table.{Limits}
use Rattle.ncsb.specs.Successors.{same}
use Rattle.ncsb.specs.declared.Quadruple.{Quadruple}
use Rattle.record_words.specs.Record.{with_quadruple}
use Rattle.complement.specs.Records.{capacity, looked_up}
use Rattle.complement.specs.Found.{quadruples, StatesKept, with_edge, one_more, Shows, held, SameBuffers, EdgeAdded, Turns, Placed, known, fresh, left_out}
use Rattle.complement.specs.declared.explore.Growth.{Growth}
use Rattle.complement.proofs.Kept.{kept_records, capacity_kept, capacity_limit, kept_more, edges_more}
use Rattle.complement.proofs.Reaching.{same_then}

module _ (limits : Limits) (i c : ℕ) (x : Quadruple) where
  -- the number that a look-up gives is the number among the states found
  looked_number :
      {xs : List Quadruple} {s : List ℕ} {n r : ℕ} → StatesKept (quadruples limits) xs s n → r ≡ looked_up s n x →
      number_of same x xs ≡ r
  unfolding looked_up
  looked_number h look = sym (look ∙ ap (λ (ys : List Quadruple). number_of same x ys) (kept_records h))

  module _ {b : Built Quadruple} (g : Growth) (h : Shows (quadruples limits) b (held g) g.found) where
    added_new :
        g.found.states ≡ looked_up g.sets.now g.found.states x →
        add_edge same i c x b ≡ built (b.states ++ (x ∷ [])) (b.edges ++ (an_edge i c g.found.states ∷ []))
    added_new look =
        let e = looked_number h.states look in
        let count = h.states.counted in
        let unlisted : number_of same x b.states ≡ length b.states = omega arith in
        rw count (add_edge_new same i c x b unlisted)

    -- one state more than fit
    over_new :
        g.found.states ≡ looked_up g.sets.now g.found.states x → capacity limits g.sets.now ≤ g.found.states →
        capacity limits g.sets.now < length (add_edge same i c x b).states
    unfolding built
    over_new look l = let count = h.states.counted in rw (added_new look) (rw length-append (omega arith))

    -- a number that is given is a state's of a table
    pub placed_few : {g' : Growth} {r : ℕ} → Placed limits x g g' (Some r) → r < limits.states
    placed_few {r} (known n e l look sets found) =
        let q : r ≡ n = cc in
        let count = h.states.counted in
        let fits = h.states.fits in let most = capacity_limit limits g.sets.now in omega arith
    placed_few {r} (fresh e look l sets states edges) =
        let q : r ≡ g.found.states = cc in let most = capacity_limit limits g.sets.now in omega arith
    placed_few (left_out e look l sets found) = absurd (cc)

    -- what is kept where it was known, and where it is new
    keep_known :
        (g' : Growth) {r : ℕ} → r ≡ looked_up g.sets.now g.found.states x → r < g.found.states → g'.sets.now ≡ g.sets.now →
        g'.found.states ≡ g.found.states → g'.words.now ≡ with_edge limits g.words.now g.found.edges (an_edge i c r) →
        g'.found.edges ≡ one_more limits g.found.edges → Shows (quadruples limits) (add_edge same i c x b) (held g') g'.found
    unfolding built
    keep_known g' {r} look l sets states words edges =
        let e = looked_number h.states look in
        let count = h.states.counted in
        let listed : number_of same x b.states < length b.states = omega arith in
        rw (add_edge_known same i c x b listed, e)
        (record { states = rw (sets, states) h.states; edges = rw (words, edges) (edges_more (an_edge i c r) h.edges) })

    keep_new :
        (g' : Growth) → g.found.states ≡ looked_up g.sets.now g.found.states x → g.found.states < capacity limits g.sets.now →
        g'.sets.now ≡ with_quadruple g.sets.now g.found.states x → g'.found.states ≡ g.found.states + 1 →
        g'.words.now ≡ with_edge limits g.words.now g.found.edges (an_edge i c g.found.states) →
        g'.found.edges ≡ one_more limits g.found.edges → Shows (quadruples limits) (add_edge same i c x b) (held g') g'.found
    unfolding built
    keep_new g' look l sets states words edges =
        rw (added_new look)
        (record {
          states = rw (sets, states) (kept_more x h.states l);
          edges = rw (words, edges) (edges_more (an_edge i c g.found.states) h.edges);
        })

  -- there is no room for it
  pub meet_full :
      {g g' : Growth} → SameBuffers g g' → Placed limits x g g' None → Turns (quadruples limits) (add_edge same i c x) g g' None
  meet_full buffers (known n e l look sets found) = absurd (cc)
  meet_full buffers (fresh e look l sets states edges) = absurd (cc)
  meet_full {g} {g'} buffers (left_out e look l sets found) =
      record {
        same = buffers;
        from = λ b h. rw (capacity_kept limits g.sets.now g'.sets.now buffers.sets_length) (over_new g h look l);
      }

  -- it has a number, and the edge is kept
  pub meet_kept :
      {g g₁ g₂ : Growth} {r : ℕ} → SameBuffers g g₁ → g₁.words.now ≡ g.words.now → Placed limits x g g₁ (Some r) →
      SameBuffers g₁ g₂ → EdgeAdded limits (an_edge i c r) g₁ g₂ → Turns (quadruples limits) (add_edge same i c x) g g₂ (Some tt)
  meet_kept {g} {g₁} {g₂} {r} first words (known n e l look sets found) second edge =
      let q : r ≡ n = cc in
      let states : g₁.found.states ≡ g.found.states = cc in
      let edges : g₁.found.edges ≡ g.found.edges = cc in
      record {
        same = same_then first second;
        from = λ b h.
            keep_known g h g₂ (q ∙ look) (omega arith) (edge.sets ∙ sets) (edge.states ∙ states) (rw (← words, ← edges) edge.words)
            (rw (← edges) edge.edges);
      }
  meet_kept {g} {g₁} {g₂} {r} first words (fresh e look l sets states edges) second edge =
      let q : r ≡ g.found.states = cc in
      record {
        same = same_then first second;
        from = λ b h.
            keep_new g h g₂ look l (edge.sets ∙ sets) (edge.states ∙ states) (rw (← q, ← words, ← edges) edge.words)
            (rw (← edges) edge.edges);
      }
  meet_kept first words (left_out e look l sets found) second edge = absurd (cc)
