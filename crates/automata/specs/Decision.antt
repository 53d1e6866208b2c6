-- A computing decision whether an automaton takes a lasso: search in the product of its states with the lasso's positions.
-- Assumes nothing: these are definitions.
use Rattle.std.specs.Prelude.{Bool, false, ◌&&◌, ◌||◌, List, [], ℕ, zero, suc, ◌*◌, ◌/◌, ◌%◌, eqb, get_or}
use Rattle.basics.specs.Bounded.{any}
use Rattle.basics.specs.Tabulate.{tabulate}
use Rattle.automata.specs.Automaton.{Automaton}
use Rattle.automata.specs.Lasso.{positions, position_letter, next_position}

-- a set of nodes is a list of Booleans, and a graph has a row for each node: the set of those that an edge leads to.
-- What a `let` binds is computed only where it is looked at.
unfoldable pub marked : List Bool → (node : ℕ) → Bool
marked s x = get_or s x false

unfoldable pub row : List (List Bool) → (node : ℕ) → List Bool
row g x = get_or g x []

-- a set, with the nodes that an edge leads to from it
unfoldable pub grow : (nodes : ℕ) → (graph : List (List Bool)) → List Bool → List Bool
grow n g s =
    tabulate n
    (λ y.
    let found = any n (λ x. let edge = marked (row g x) y in marked s x && edge) in
    marked s y || found)

unfoldable pub grown_nodes : (rounds nodes : ℕ) → (graph : List (List Bool)) → List Bool → List Bool
grown_nodes zero n g s = s
grown_nodes (suc k) n g s = grow n g (grown_nodes k n g s)

-- THE PRODUCT: its node x stands for position x / states and state x % states
unfoldable pub nodes : Automaton → (u v : List ℕ) → ℕ
nodes a u v = positions u v * a.states

-- an edge of the product
unfoldable pub leads : Automaton → (u v : List ℕ) → (x y : ℕ) → Bool
leads a u v x y =
    let edge = a.edge (x % a.states) (position_letter u v (x / a.states)) (y % a.states) in
    eqb (y / a.states) (next_position u v (x / a.states)) && edge

unfoldable pub product : Automaton → (u v : List ℕ) → List (List Bool)
product a u v = tabulate (nodes a u v) (λ x. tabulate (nodes a u v) (λ y. leads a u v x y))

-- the nodes of the first position with an initial state
unfoldable pub starts : Automaton → (u v : List ℕ) → List Bool
starts a u v = tabulate (nodes a u v) (λ x. eqb (x / a.states) 0 && a.initial (x % a.states))

-- the node is reached again from behind one of its edges
unfoldable pub on_cycle : (nodes : ℕ) → (graph : List (List Bool)) → (node : ℕ) → Bool
on_cycle n g x = marked (grown_nodes n n g (row g x)) x

-- whether the automaton takes the lasso: some node accepts, is reached, and lies on a cycle
unfoldable pub takes? : Automaton → (u v : List ℕ) → Bool
takes? a u v =
    let n = nodes a u v in
    let g = product a u v in
    let reached = grown_nodes n n g (starts a u v) in
    any n
    (λ x.
    let cycle = on_cycle n g x in
    (a.accepting (x % a.states) && marked reached x) && cycle)
