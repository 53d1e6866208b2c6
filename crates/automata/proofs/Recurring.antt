-- What recurs on a path over a lasso: a path that accepts after more steps than the product has nodes lies on an accepting cycle.
-- Assumes nothing.
use mathlib.Core.Path.{◌≡◌, refl, sym, ◌∙◌, ap}
use mathlib.Core.Bool.{true}
use mathlib.Core.List.{List}
use Prim.Native.Nat.{ℕ, zero, suc, ◌+◌, ◌-◌, ◌≤◌, ◌<◌}
use native.Mathlib.Omega.{arith}
use lib.ListN.{length}
use Rattle.automata.specs.Automaton.{Automaton, Closed}
use Rattle.automata.specs.Lasso.{letter_at, position_at, next_position, Walk, stay, onward, AcceptingCycle}
use Rattle.automata.specs.Decision.{nodes}
use Rattle.automata.proofs.Positions.{position_next, position_add, letter_position, letter_same}
use Rattle.automata.proofs.Cycles.{node_twice, cycle_between}
use Rattle.automata.proofs.Traces.{reached, next, trace, reached_back, trace_add, trace_edge, trace_before, trace_reached}

module _ {a : Automaton} (closed : Closed a) (u v : List ℕ) (o : 1 ≤ length v) where
  -- short names for what the section speaks of
  abbrev word : (place : ℕ) → ℕ
  word = letter_at u v

  abbrev position : (place : ℕ) → ℕ
  position = position_at u v

  abbrev path : (place state steps : ℕ) → ℕ
  path = trace a word

  -- a path is decided by the position that it begins at
  trace_same : (i j : ℕ) → position i ≡ position j → (q k : ℕ) → path i q k ≡ path j q k
  unfolding trace
  trace_same i j e q zero = refl
  trace_same i j e q (suc k) =
      let e' = position_next u v i ∙ ap (next_position u v) e ∙ sym (position_next u v j) in
      trace_same (suc i) (suc j) e' (next a (word i) q) k
      ∙ ap (λ (c : ℕ). path (suc j) (next a c q) k) (letter_same u v o i j e)

  -- so behind two steps with the same node come the same nodes
  trace_again :
      (i q x y z : ℕ) → position (i + x) ≡ position (i + y) → path i q x ≡ path i q y →
      (position (i + (x + z)) ≡ position (i + (y + z))) × (path i q (x + z) ≡ path i q (y + z))
  trace_again i q x y z e f =
      let from_x : (i + x) + z ≡ i + (x + z) = omega arith in
      let from_y : (i + y) + z ≡ i + (y + z) = omega arith in (
        (rw (from_x, from_y) at (position_add u v (i + x) (i + y) e z)),
        trace_add closed word i q x z ∙ ap (λ (p : ℕ). path (i + x) p z) f ∙ trace_same (i + x) (i + y) e (path i q y) z
            ∙ sym (trace_add closed word i q y z),
      )

  -- a reached state is walked to
  walk_reached :
      (i q : ℕ) → reached a word i q ≡ true →
      (start : ℕ) × (a.initial start ≡ true) × Walk a u v 0 start (position i) q
  unfolding reached position_at
  walk_reached zero q h = (q, h, stay)
  walk_reached (suc i) q h =
      let (p, x, e) = reached_back closed word i q h in
      let (start, b, walk) = walk_reached i p x in
      (start, b, onward q walk (rw (letter_position u v o i) at e))

  -- the states of a path, by place, have an edge from each to the next as long as it has not ended
  path_on :
      (i q m : ℕ) → path i q m < a.states → (k : ℕ) → i ≤ k → k < i + m →
      a.edge (path i q (k - i)) (word k) (path i q (suc k - i)) ≡ true
  path_on i q m inside k l b =
      let steps : suc k - i ≡ suc (k - i) = omega arith in
      let place : i + (k - i) ≡ k = omega arith in
      let edge = trace_edge closed word i q (k - i) (trace_before closed word i q (suc (k - i)) m (omega arith) inside) in
      rw steps (rw place at edge)

  -- a path that accepts after that many steps: two of the places before have the same node, so its node comes again
  pub late_cycle :
      (i q k : ℕ) → reached a word i q ≡ true → nodes a u v ≤ k → path i q k < a.states → a.accepting (path i q k) ≡ true →
      AcceptingCycle a u v
  late_cycle i q k h few l accepts =
      let (x, y, less, most, e, f) =
      node_twice a u v o (λ n. i + n) (path i q) (λ n b. trace_before closed word i q n k (omega arith) l) in
      let m = y + (k - x) in
      let whole : x + (k - x) ≡ k = omega arith in
      let (place, again) : (position (i + k) ≡ position (i + m)) × (path i q k ≡ path i q m) =
      rw whole at (trace_again i q x y (k - x) e f) in
      let (here, there) : (i + k - i ≡ k) × (i + m - i ≡ m) = (omega arith, omega arith) in
      let (start, b, walk) = walk_reached (i + k) (path i q k) (trace_reached closed word i q k h l) in
      cycle_between a u v o (λ n. path i q (n - i)) (i + k) (i + m)
      (λ n b d. path_on i q m (rw (← again) l) n (omega arith) d) start b (rw here walk) (omega arith) place
      (rw (here, there) again) (rw here accepts)
