-- Exploring only adds: the states and the edges that are found go on from those that were found before. Assumes nothing.
use mathlib.Core.Bool.{Bool}
use mathlib.Core.List.{List, [], ◌∷◌}
use Prim.Native.Nat.{ℕ, ◌≤◌}
use lib.ListN.{length}
use Rattle.basics.proofs.Upward.{upward}
use Rattle.automata.specs.System.{System, Built, built, add_edge, add_all, by_letters}
use Rattle.automata.proofs.Members.{Prefix, prefix_self, prefix_append, prefix_then, prefix_length, with_prefix}

-- the states and the edges of the second go on from those of the first
pub record Grows {X : Type 0} (b later : Built X) : Type 0 where
  pub states : Prefix b.states later.states
  pub edges : Prefix b.edges later.edges

-- nothing added
pub grows_self : {X : Type 0} (b : Built X) → Grows b b
grows_self b = record { states = prefix_self b.states; edges = prefix_self b.edges }

-- one growth behind the other
pub grows_then : {X : Type 0} {a b c : Built X} → Grows a b → Grows b c → Grows a c
grows_then p q = record { states = prefix_then p.states q.states; edges = prefix_then p.edges q.edges }

-- there are no fewer states
pub grows_states : {X : Type 0} {a b : Built X} → Grows a b → length a.states ≤ length b.states
grows_states p = prefix_length p.states

module _ {X : Type 0} (same : X → X → Bool) where
  -- by the edge to one successor
  pub grows_edge : (i c : ℕ) (y : X) (b : Built X) → Grows b (add_edge same i c y b)
  unfolding add_edge built
  grows_edge i c y b =
      record {
        states = with_prefix same y b.states;
        edges = prefix_append b.edges _;
      }

  -- by those to several
  pub grows_all : (i c : ℕ) (ys : List X) (b : Built X) → Grows b (add_all same i c ys b)
  unfolding add_all
  grows_all i c [] b = grows_self b
  grows_all i c (y ∷ ys) b = grows_then (grows_edge i c y b) (grows_all i c ys (add_edge same i c y b))

module _ {X : Type 0} (s : System X) where
  -- by those of further letters
  pub grows_letters : (c d i : ℕ) (x : X) (b : Built X) → c ≤ d → Grows (by_letters s c i x b) (by_letters s d i x b)
  unfolding by_letters
  grows_letters c d i x b l =
      upward (λ d. Grows (by_letters s c i x b) (by_letters s d i x b)) c (grows_self (by_letters s c i x b))
      (λ d _ h. grows_then h (grows_all s.same i d (s.nexts x d) (by_letters s d i x b))) d l
