-- The paths of an automaton over a word: the states reached at each place, and the path that takes the first target at each letter.
-- Where each state has at most one target, it is the only path. A path that has ended stands on no state. Assumes nothing.
use mathlib.Core.Path.{◌≡◌}
use mathlib.Core.Bool.{Bool, true, ◌&&◌}
use mathlib.Core.Logic.{inl, inr}
use Prim.Native.Nat.{ℕ, zero, suc, ◌+◌, ◌≤◌, ◌<◌}
use native.Mathlib.Omega.{arith}
use native.Mathlib.Nat.{zero-add, add-zero, suc-add, add-suc}
use Rattle.basics.specs.Bounded.{any}
use Rattle.basics.specs.Least.{least}
use Rattle.basics.proofs.Booleans.{and_l, and_r, and_make, same_or}
use Rattle.basics.proofs.Bounded.{any_find, any_make}
use Rattle.basics.proofs.Least.{least_holds, least_below}
use Rattle.automata.specs.Automaton.{Automaton, Closed}

-- some path from an initial state is in the state at the place
unfoldable pub reached : Automaton → (word : ℕ → ℕ) → (place state : ℕ) → Bool
reached a w zero q = a.initial q
reached a w (suc i) q = any a.states (λ p. reached a w i p && a.edge p (w i) q)

-- the first target, or no state
pub next : Automaton → (letter state : ℕ) → ℕ
next a c p = least a.states (a.edge p c)

-- where the path that begins at a place and a state is after some steps
unfoldable pub trace : Automaton → (word : ℕ → ℕ) → (place state steps : ℕ) → ℕ
trace a w i q zero = q
trace a w i q (suc k) = trace a w (suc i) (next a (w i) q) k

module _ {a : Automaton} (closed : Closed a) (w : ℕ → ℕ) where
  pub reached_back :
      (i q : ℕ) → reached a w (suc i) q ≡ true → (p : ℕ) × (reached a w i p ≡ true) × (a.edge p (w i) q ≡ true)
  unfolding reached
  reached_back i q h =
      let (p, l, e) = any_find a.states (λ p. reached a w i p && a.edge p (w i) q) h in
      (p, and_l (a.edge p (w i) q) e, and_r (reached a w i p) e)

  pub reached_on : (i p q : ℕ) → reached a w i p ≡ true → a.edge p (w i) q ≡ true → reached a w (suc i) q ≡ true
  unfolding reached
  reached_on i p q h e =
      any_make a.states (λ p. reached a w i p && a.edge p (w i) q) p (closed.edge p (w i) q e).0 (and_make h e)

  pub reached_inside : (i q : ℕ) → reached a w i q ≡ true → q < a.states
  unfolding reached
  reached_inside zero q h = closed.initial q h
  reached_inside (suc i) q h = let (p, x, e) = reached_back i q h in (closed.edge p (w i) q e).2

  -- the next state of a path that goes on
  pub next_edge : (c p : ℕ) → next a c p < a.states → a.edge p c (next a c p) ≡ true
  unfolding next
  next_edge c p l = least_holds a.states (a.edge p c) l

  pub next_found : (c p q : ℕ) → a.edge p c q ≡ true → next a c p < a.states
  unfolding next
  next_found c p q e = least_below a.states (a.edge p c) q (closed.edge p c q e).2 e

  -- a path goes on from where it is
  pub trace_add : (i q m k : ℕ) → trace a w i q (m + k) ≡ trace a w (i + m) (trace a w i q m) k
  unfolding trace
  trace_add i q zero k = rw (zero-add k, add-zero i)
  trace_add i q (suc m) k = rw (suc-add m k, add-suc i m, ← suc-add i m) (trace_add (suc i) (next a (w i) q) m k)

  -- where a path has not ended, an edge led on
  pub trace_edge :
      (i q k : ℕ) → trace a w i q (suc k) < a.states → a.edge (trace a w i q k) (w (i + k)) (trace a w i q (suc k)) ≡ true
  unfolding trace
  trace_edge i q zero l = rw (add-zero i) (next_edge (w i) q l)
  trace_edge i q (suc k) l = rw (add-suc i k, ← suc-add i k) (trace_edge (suc i) (next a (w i) q) k l)

  -- so it had not ended before
  pub trace_before : (i q j k : ℕ) → j ≤ k → trace a w i q k < a.states → trace a w i q j < a.states
  trace_before i q j zero l m = let e : j ≡ 0 = omega arith in rw e m
  trace_before i q j (suc k) l m =
      elim (same_or j (suc k)) [
        | inl e ↦ rw e m
        | inr ne ↦
            trace_before i q j k (omega arith)
            (closed.edge (trace a w i q k) (w (i + k)) (trace a w i q (suc k)) (trace_edge i q k m)).0
      ]

  -- and it is reached where its first state is
  pub trace_reached :
      (i q k : ℕ) → reached a w i q ≡ true → trace a w i q k < a.states → reached a w (i + k) (trace a w i q k) ≡ true
  unfolding trace
  trace_reached i q zero h l = rw (add-zero i) h
  trace_reached i q (suc k) h l =
      rw (add-suc i k)
      (reached_on (i + k) (trace a w i q k) (trace a w i q (suc k))
      (trace_reached i q k h (trace_before i q k (suc k) (omega arith) l)) (trace_edge i q k l))
