-- Accepting runs over a lasso are accepting cycles of the product with its positions: from a run a cycle by the pigeonhole, and
-- from a cycle the run that goes round it for ever. Assumes nothing.
use mathlib.Core.Path.{◌≡◌, refl, ◌∙◌, ap}
use mathlib.Core.Bool.{true}
use mathlib.Core.List.{List}
use mathlib.Core.Logic.{inl, inr}
use Prim.Native.Nat.{ℕ, zero, suc, ◌+◌, ◌*◌, ◌≤◌, ◌<◌}
use native.Mathlib.Omega.{arith}
use lib.Arith.{digits_lt}
use lib.ListN.{length}
use Rattle.basics.proofs.Booleans.{same_or}
use Rattle.basics.proofs.Bounded.{pigeonhole}
use Rattle.basics.proofs.Radix.{digits_same}
use Rattle.basics.proofs.Upward.{upward}
use Rattle.automata.specs.Automaton.{Automaton, Run, Takes, Closed}
use Rattle.automata.specs.Lasso.{letter_at, position_at, position_letter, next_position, Walk, stay, onward, AcceptingCycle}
use Rattle.automata.specs.Decision.{nodes}
use Rattle.automata.proofs.Positions.{position_zero, position_next, position_below, letter_position}

-- FROM A RUN TO A CYCLE
module _ (a : Automaton) (u v : List ℕ) (o : 1 ≤ length v) where
  -- among more places with a state than there are nodes, two have the same node: its number gives the position and the state
  pub node_twice :
      (place state : ℕ → ℕ) → ((k : ℕ) → k ≤ nodes a u v → state k < a.states) →
      (i : ℕ) × (j : ℕ) × (i < j) × (j ≤ nodes a u v) × (position_at u v (place i) ≡ position_at u v (place j)) × (state i ≡ state j)
  unfolding nodes
  node_twice place state inside =
      let (i, j, l, m, e) =
      pigeonhole (nodes a u v) (λ k. position_at u v (place k) * a.states + state k)
      (λ k l. digits_lt (position_below u v o (place k)) (inside k l)) in
      let (p, q) = digits_same (position_at u v (place i)) (position_at u v (place j)) (inside i (omega arith)) (inside j m) e in
      (i, j, l, m, p, q)

  -- states at the places from the first to the last, with an edge from each to the next
  module _ (run : ℕ → ℕ) (first last : ℕ)
      (goes_on : (k : ℕ) → first ≤ k → k < last → a.edge (run k) (letter_at u v k) (run (suc k)) ≡ true) where
    -- the edge from a place to the next, by position
    edge_at : (k : ℕ) → first ≤ k → k < last → a.edge (run k) (position_letter u v (position_at u v k)) (run (suc k)) ≡ true
    edge_at k l m = rw (letter_position u v o k) at (goes_on k l m)

    -- they walk through the product
    walk_along :
        (i j : ℕ) → first ≤ i → i ≤ j → j ≤ last → Walk a u v (position_at u v i) (run i) (position_at u v j) (run j)
    walk_along i j k l =
        upward (λ j. j ≤ last → Walk a u v (position_at u v i) (run i) (position_at u v j) (run j)) i (λ _. stay)
        (λ j m h b. rw (position_next u v j) (onward (run (suc j)) (h (omega arith)) (edge_at j (omega arith) b))) j l

    -- the same accepting node at the first and the last place makes the cycle
    pub cycle_between :
        (start : ℕ) → a.initial start ≡ true → Walk a u v 0 start (position_at u v first) (run first) → first < last →
        position_at u v first ≡ position_at u v last → run first ≡ run last → a.accepting (run first) ≡ true →
        AcceptingCycle a u v
    cycle_between start begins walk l p q e =
        record {
          start = start;
          position = position_at u v first;
          state = run first;
          behind = run (suc first);
          begins = begins;
          reached = walk;
          accepts = e;
          leaves = edge_at first (omega arith) l;
          returns = rw (← position_next u v first, p, q) (walk_along (suc first) last (omega arith) l (omega arith));
        }

  -- the accepting places of a run, one behind the other
  module _ (run : ℕ → ℕ) (is_run : Run a (letter_at u v) run)
      (often : (i : ℕ) → (j : ℕ) × (i ≤ j) × (a.accepting (run j) ≡ true)) where
    place : ℕ → ℕ
    place zero = (often 0).0
    place (suc k) = (often (suc (place k))).0

    place_accepts : (k : ℕ) → a.accepting (run (place k)) ≡ true
    unfolding place
    place_accepts zero = (often 0).2
    place_accepts (suc k) = (often (suc (place k))).2

    place_rises : (i j : ℕ) → i < j → place i < place j
    unfolding place
    place_rises i zero l = absurd (omega arith)
    place_rises i (suc j) l =
        let h = (often (suc (place j))).1 in
        elim (same_or i j) [
          | inl e ↦ rw e h
          | inr ne ↦ let r = place_rises i j (omega arith) in omega arith
        ]

    -- two of them have the same node
    run_cycle : AcceptingCycle a u v
    run_cycle =
        let (i, j, l, _, p, q) = node_twice place (λ k. run (place k)) (λ k _. is_run.inside (place k)) in
        let (x, y) : ℕ × ℕ = (place i, place j) in
        let walk = walk_along run 0 x (λ k _ _. is_run.goes_on k) 0 x (omega arith) (omega arith) (omega arith) in
        cycle_between run x y (λ k _ _. is_run.goes_on k) (run 0) is_run.begins (rw (position_zero u v) at walk)
        (place_rises i j l) p q (place_accepts i)

-- an automaton that takes a lasso has an accepting cycle over it.
-- The states of a run are states, so this does not need that the automaton is closed.
pub takes_cycle : {a : Automaton} {u v : List ℕ} → 1 ≤ length v → Takes a (letter_at u v) → AcceptingCycle a u v
takes_cycle {a} {u} {v} o t =
    run_cycle a u v o t.run t.accepting_run.is_run t.accepting_run.accepting

-- FROM A CYCLE TO A RUN
-- what is left to walk from position i and state p to position j and state q, the next edge first
data Ahead (a : Automaton) (u v : List ℕ) (j q : ℕ) : (i p : ℕ) → Type 0 where
  arrived : {i p : ℕ} → i ≡ j → p ≡ q → Ahead a u v j q i p
  next :
      {i p : ℕ} (r : ℕ) → a.edge p (position_letter u v i) r ≡ true → Ahead a u v j q (next_position u v i) r →
      Ahead a u v j q i p

ahead_of :
    {a : Automaton} {u v : List ℕ} {j q i p k r : ℕ} → Walk a u v i p k r → Ahead a u v j q k r → Ahead a u v j q i p
ahead_of stay h = h
ahead_of (onward r w e) h = ahead_of w (next r e h)

module _ (a : Automaton) (u v : List ℕ) (j q behind : ℕ)
    (leaves : a.edge q (position_letter u v j) behind ≡ true)
    (returns : Ahead a u v j q (next_position u v j) behind) where
  -- where the run is, with what is left to walk to the cycle's node
  record At : Type 0 where
    position : ℕ
    state : ℕ
    rest : Ahead a u v j q position state

  onward_from : (i p : ℕ) → Ahead a u v j q i p → At
  onward_from i p (arrived e f) = record { position = next_position u v j; state = behind; rest = returns }
  onward_from i p (next r e h) = record { position = next_position u v i; state = r; rest = h }

  from_position : (i p : ℕ) (h : Ahead a u v j q i p) → (onward_from i p h).position ≡ next_position u v i
  unfolding onward_from
  from_position i p (arrived e f) = rw e
  from_position i p (next r e h) = refl

  from_edge :
      (i p : ℕ) (h : Ahead a u v j q i p) → a.edge p (position_letter u v i) (onward_from i p h).state ≡ true
  unfolding onward_from
  from_edge i p (arrived e f) = rw (e, f) leaves
  from_edge i p (next r e h) = e

  module _ (start : At) where
    -- the run at each place
    at : ℕ → At
    at zero = start
    at (suc k) = onward_from (at k).position (at k).state (at k).rest

    at_position : start.position ≡ 0 → (k : ℕ) → (at k).position ≡ position_at u v k
    unfolding at position_at
    at_position z zero = z
    at_position z (suc k) =
        from_position (at k).position (at k).state (at k).rest ∙ ap (next_position u v) (at_position z k)

    at_edge :
        (k : ℕ) → a.edge (at k).state (position_letter u v (at k).position) (at (suc k)).state ≡ true
    unfolding at
    at_edge k = from_edge (at k).position (at k).state (at k).rest

    -- it comes to the cycle's node again from each place, since each step leaves less to walk
    comes_again :
        (k i p : ℕ) (h : Ahead a u v j q i p) → at k ≡ record { position = i; state = p; rest = h } →
        (m : ℕ) × (k ≤ m) × ((at m).state ≡ q)
    unfolding at onward_from
    comes_again k i p (arrived e f) s = (k, (omega arith), ap (λ (t : At). t.state) s ∙ f)
    comes_again k i p (next r e h) s =
        let l = comes_again (suc k) (next_position u v i) r h (ap (λ (t : At). onward_from t.position t.state t.rest) s) in
        (l.0, (let b = l.1 in omega arith), l.2)

    -- so it is an accepting run
    goes_round :
        Closed a → 1 ≤ length v → start.position ≡ 0 → a.initial start.state ≡ true → a.accepting q ≡ true →
        Takes a (letter_at u v)
    unfolding at
    goes_round closed o z begins accepts =
        record {
          run = λ i. (at i).state;
          accepting_run =
              record {
                is_run =
                    record {
                      inside = λ i. (closed.edge (at i).state (letter_at u v i) (at (suc i)).state (edge i)).0;
                      begins = begins;
                      goes_on = edge;
                    };
                accepting = λ i.
                    let (m, l, e) = comes_again i (at i).position (at i).state (at i).rest refl in (m, l, rw e accepts);
              };
        }
      where
        edge : (i : ℕ) → a.edge (at i).state (letter_at u v i) (at (suc i)).state ≡ true
        edge i = rw (letter_position u v o i, ← at_position z i) (at_edge i)

-- an accepting cycle over a lasso gives an accepting run: along the walk to it, then round it for ever
pub cycle_takes :
    {a : Automaton} {u v : List ℕ} → Closed a → 1 ≤ length v → AcceptingCycle a u v → Takes a (letter_at u v)
cycle_takes {a} {u} {v} closed o c =
    goes_round a u v c.position c.state c.behind c.leaves (ahead_of c.returns (arrived refl refl))
    (record { position = 0; state = c.start; rest = ahead_of c.reached (arrived refl refl) })
    closed o refl c.begins c.accepts
