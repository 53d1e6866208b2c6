-- The product of an automaton with a lasso's positions, as a relation between the numbers of its nodes: node x stands for position x / states
-- and state x % states. An accepting node that is reached and lies on a cycle is an accepting cycle, and back. Assumes nothing.
use mathlib.Core.Path.{◌≡◌}
use mathlib.Core.Bool.{true}
use mathlib.Core.List.{List}
use mathlib.Core.Logic.{◌↔◌}
use Prim.Native.Nat.{ℕ, ◌+◌, ◌*◌, ◌/◌, ◌%◌, ◌≤◌, ◌<◌}
use native.Mathlib.Nat.{mod-eq_of_lt, div-eq_of_lt, zero-add, zero-mul}
use lib.Arith.{digits_lt, digits_mod}
use lib.ListN.{length}
use Rattle.basics.specs.Star.{Star}
use Rattle.basics.proofs.Star.{star_keeps}
use Rattle.automata.specs.Automaton.{Automaton, Closed}
use Rattle.automata.specs.Lasso.{position_letter, next_position, positions, Walk, AcceptingCycle}
use Rattle.automata.proofs.Positions.{first_below, next_below}

-- an accepting node that is reached from an initial state at the first position, and lies on a cycle
pub record AcceptingNode (a : Automaton) (E : ℕ → ℕ → Type 0) : Type 0 where
  pub start : ℕ
  pub node : ℕ
  pub behind : ℕ
  pub begins : a.initial start ≡ true
  pub reached : Star E start node
  pub accepts : a.accepting (node % a.states) ≡ true
  pub leaves : E node behind
  pub returns : Star E behind node

-- a state at the first position is a node, by its own number
pub start_below : (u v : List ℕ) → 1 ≤ length v → {n p : ℕ} → p < n → p < positions u v * n
start_below u v o l = rw (zero-mul, zero-add) at (digits_lt {q = 0} (first_below u v o) l)

-- the relation leads from a node to another exactly where an edge of the automaton does, from its position to the next
module _ {a : Automaton} (closed : Closed a) (u v : List ℕ) (o : 1 ≤ length v) (E : ℕ → ℕ → Type 0)
    (out :
    (x y : ℕ) → E x y →
    (y / a.states ≡ next_position u v (x / a.states))
    × (a.edge (x % a.states) (position_letter u v (x / a.states)) (y % a.states) ≡ true))
    (back :
    (i p q : ℕ) → i < positions u v → a.edge p (position_letter u v i) q ≡ true →
    E (i * a.states + p) (next_position u v i * a.states + q)) where
  -- its steps are walks
  star_walk : {x y : ℕ} → Star E x y → Walk a u v (x / a.states) (x % a.states) (y / a.states) (y % a.states)
  star_walk {x} way =
      star_keeps (λ y. Walk a u v (x / a.states) (x % a.states) (y / a.states) (y % a.states))
      (λ y z h walk. let (position, e) = out y z h in rw position (Walk.onward (z % a.states) walk e)) Walk.stay way

  -- and walks are its steps
  walk_star :
      {i p j q : ℕ} → i < positions u v → p < a.states → Walk a u v i p j q →
      (j < positions u v) × (q < a.states) × Star E (i * a.states + p) (j * a.states + q)
  walk_star k l Walk.stay = (k, l, Star.stay)
  walk_star k l (Walk.onward {j} {q} r walk e) =
      let (m, _, way) = walk_star k l walk in (
        next_below u v o j,
        (closed.edge q (position_letter u v j) r e).2,
        Star.onward (next_position u v j * a.states + r) way (back j q r m e),
      )

  -- such a node is an accepting cycle
  node_cycle : AcceptingNode a E → AcceptingCycle a u v
  node_cycle f =
      let l = closed.initial f.start f.begins in
      let there = star_walk f.reached in
      let (position, e) = out f.node f.behind f.leaves in
      let again = star_walk f.returns in
      record {
        start = f.start;
        position = f.node / a.states;
        state = f.node % a.states;
        behind = f.behind % a.states;
        begins = f.begins;
        reached = rw (div-eq_of_lt l, mod-eq_of_lt l) at there;
        accepts = f.accepts;
        leaves = e;
        returns = rw position at again;
      }

  -- and an accepting cycle has such a node
  cycle_node : AcceptingCycle a u v → AcceptingNode a E
  cycle_node c =
      let (i, p, r) : ℕ × ℕ × ℕ = (c.position, c.state, c.behind) in
      let (k, l, there) = walk_star (first_below u v o) (closed.initial c.start c.begins) c.reached in
      let target = (closed.edge p (position_letter u v i) r c.leaves).2 in
      let (_, _, again) = walk_star (next_below u v o i) target c.returns in
      record {
        start = c.start;
        node = i * a.states + p;
        behind = next_position u v i * a.states + r;
        begins = c.begins;
        reached = rw (zero-mul, zero-add) at there;
        accepts = rw (digits_mod i l) c.accepts;
        leaves = back i p r k c.leaves;
        returns = again;
      }

  -- so there is such a node exactly if there is an accepting cycle
  pub product_cycle : AcceptingNode a E ↔ AcceptingCycle a u v
  product_cycle = (node_cycle, cycle_node)
