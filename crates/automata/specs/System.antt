-- Systems with states of any type, exploring and numbering them (docs/RULES.md, "Numbering and result"). Assumes nothing: these are definitions.
use Rattle.std.specs.Prelude.{◌≡◌, Bool, true, false, ◌&&◌, ◌||◌, cond, List, [], ◌∷◌, ◌++◌, ℕ, zero, suc, ◌≤◌, ◌<◌, ltb, leb, eqb, length, get_or, take}
use Rattle.automata.specs.Automaton.{Automaton}

-- a system: its initial states and the successors of a state on a letter, each in order
pub record System (X : Type 0) : Type 0 where
  pub letters : ℕ
  pub starts : List X
  pub nexts : X → (letter : ℕ) → List X
  pub accepting : X → Bool
  -- the decided equality of states
  pub same : X → X → Bool
  -- what stands where a list of states has ended
  pub blank : X

-- `same` tells states apart exactly
pub record Decides {X : Type 0} (s : System X) : Type 0 where
  pub same_eq : (x y : X) → s.same x y ≡ true → x ≡ y
  pub same_self : (x : X) → s.same x x ≡ true

-- an item of a list
pub data Member {X : Type 0} (x : X) : List X → Type 0 where
  here : {ys : List X} → Member x (x ∷ ys)
  there : {y : X} {ys : List X} → Member x ys → Member x (y ∷ ys)

-- the states that some word leads to from an initial state
pub data Reached {X : Type 0} (s : System X) : X → Type 0 where
  at_start : {x : X} → Member x s.starts → Reached s x
  onward : {x y : X} (c : ℕ) → Reached s x → c < s.letters → Member y (s.nexts x c) → Reached s y

-- LISTS OF STATES: the state with a number
unfoldable pub state_at : {X : Type 0} → System X → List X → (number : ℕ) → X
state_at s xs i = get_or xs i s.blank

-- no state is listed twice
pub record Distinct {X : Type 0} (s : System X) (xs : List X) : Type 0 where
  pub apart : (i j : ℕ) → i < j → j < length xs → state_at s xs i ≡ state_at s xs j → ⊥

-- at most so many states are reached
pub record AtMost {X : Type 0} (s : System X) (limit : ℕ) : Type 0 where
  pub bound :
      (xs : List X) → Distinct s xs → ((i : ℕ) → i < length xs → Reached s (state_at s xs i)) → length xs ≤ limit

-- NUMBERING: edges with their states' numbers
pub record Edge : Type 0 where
  pub source : ℕ
  pub letter : ℕ
  pub target : ℕ

-- the edge from a state on a letter to a state
unfoldable pub an_edge : (source letter target : ℕ) → Edge
an_edge i c j = record { source = i; letter = c; target = j }

-- what has been found so far: states by number, edges by record number (less one)
pub record Built (X : Type 0) : Type 0 where
  pub states : List X
  pub edges : List Edge

-- states and edges together
unfoldable pub built : {X : Type 0} → List X → List Edge → Built X
built xs es = record { states = xs; edges = es }

-- the place of the first state in a list that is the same as x, or the list's length. Numbering knows of states no more than how to tell them apart
unfoldable pub number_of : {X : Type 0} → (same : X → X → Bool) → X → List X → ℕ
number_of same x [] = 0
number_of same x (y ∷ ys) = cond (same x y) 0 (suc (number_of same x ys))

-- a state not met before gets the next number
unfoldable pub with_state : {X : Type 0} → (same : X → X → Bool) → X → List X → List X
with_state same x ys = cond (ltb (number_of same x ys) (length ys)) ys (ys ++ (x ∷ []))

-- then states in order, each as it is met
unfoldable pub with_states : {X : Type 0} → (same : X → X → Bool) → List X → List X → List X
with_states same [] ys = ys
with_states same (x ∷ xs) ys = with_states same xs (with_state same x ys)

-- an edge to one successor, which gets its number if it has none
unfoldable pub add_edge : {X : Type 0} → (same : X → X → Bool) → (source letter : ℕ) → X → Built X → Built X
add_edge same i c y b =
    built (with_state same y b.states) (b.edges ++ (an_edge i c (number_of same y b.states) ∷ []))

-- the successors of a state on one letter, in order: an edge to each
unfoldable pub add_all : {X : Type 0} → (same : X → X → Bool) → (source letter : ℕ) → List X → Built X → Built X
add_all same i c [] b = b
add_all same i c (y ∷ ys) b = add_all same i c ys (add_edge same i c y b)

-- then the letters below the limit, in rising order
unfoldable pub by_letters : {X : Type 0} → System X → (limit source : ℕ) → X → Built X → Built X
by_letters s zero i x b = b
by_letters s (suc c) i x b = add_all s.same i c (s.nexts x c) (by_letters s c i x b)

-- all edges of the state with a number
unfoldable pub expand : {X : Type 0} → System X → (number : ℕ) → Built X → Built X
expand s i b = by_letters s s.letters i (state_at s b.states i) b

-- then the states in number order
unfoldable pub explore_from : {X : Type 0} → (fuel : ℕ) → System X → (number : ℕ) → Built X → Built X
explore_from zero s i b = b
explore_from (suc f) s i b =
    elim (leb (length b.states) i) [ true ↦ b | false ↦ explore_from f s (suc i) (expand s i b) ]

-- initial states come first
unfoldable pub begin : {X : Type 0} → System X → Built X
begin s = built (with_states s.same s.starts []) []

-- exploring from the initial states on, through at most so many states
unfoldable pub explore : {X : Type 0} → (fuel : ℕ) → System X → Built X
explore f s = explore_from f s 0 (begin s)

-- THE EDGES IN CLOSED FORM, given all states: by source, letter and successor. Of a state on a letter
unfoldable pub edges_to : {X : Type 0} → (same : X → X → Bool) → (all : List X) → (source letter : ℕ) → List X → List Edge
edges_to same all i c [] = []
edges_to same all i c (y ∷ ys) = an_edge i c (number_of same y all) ∷ edges_to same all i c ys

-- of a state, on the letters below the limit
unfoldable pub edges_on : {X : Type 0} → System X → (all : List X) → (limit source : ℕ) → X → List Edge
edges_on s all zero i x = []
edges_on s all (suc c) i x = edges_on s all c i x ++ edges_to s.same all i c (s.nexts x c)

-- of the states below the limit
unfoldable pub edges_of : {X : Type 0} → System X → (all : List X) → (limit : ℕ) → List Edge
edges_of s all zero = []
edges_of s all (suc i) = edges_of s all i ++ edges_on s all s.letters i (state_at s all i)

-- the edge with a place in the list
unfoldable pub edge_at : List Edge → ℕ → Edge
edge_at es r = get_or es r (an_edge 0 0 0)

-- THE SECOND DEMAND of a system and of what was found of it
pub record Exactly {X : Type 0} (s : System X) (b : Built X) : Type 0 where
  -- every listed state is reached, and every reached state is listed, once
  pub reached : (i : ℕ) → i < length b.states → Reached s (state_at s b.states i)
  pub found : (x : X) → Reached s x → (i : ℕ) × (i < length b.states) × (state_at s b.states i ≡ x)
  pub once :
      (i j : ℕ) → i < length b.states → j < length b.states →
      state_at s b.states i ≡ state_at s b.states j → i ≡ j
  -- initial states come first, in order
  pub starts : take (length s.starts) b.states ≡ s.starts
  -- every edge and no other, in record order
  pub edges : b.edges ≡ edges_of s b.states (length b.states)
  -- each further state gets its number where an edge first leads to it: all targets before are smaller
  pub discovery :
      (i : ℕ) → length s.starts ≤ i → i < length b.states →
      (r : ℕ) × (r < length b.edges) × ((edge_at b.edges r).target ≡ i)
      × ((q : ℕ) → q < r → (edge_at b.edges q).target < i)

-- THE NUMBERED AUTOMATON: whether an edge is listed
unfoldable pub listed : (source letter target : ℕ) → List Edge → Bool
listed i c j [] = false
listed i c j (e ∷ es) = (eqb e.source i && (eqb e.letter c && eqb e.target j)) || listed i c j es

-- the states by their numbers: the first ones are initial, as many as the system begins with
unfoldable pub numbered : {X : Type 0} → System X → Built X → Automaton
numbered s b =
    record {
      states = length b.states;
      letters = s.letters;
      initial = λ i. ltb i (length s.starts);
      accepting = λ i. ltb i (length b.states) && s.accepting (state_at s b.states i);
      edge = λ i c j. listed i c j b.edges;
    }

-- an accepting run of the system itself
pub record AcceptingSystemRun {X : Type 0} (s : System X) (w : ℕ → ℕ) (run : ℕ → X) : Type 0 where
  pub begins : Member (run 0) s.starts
  pub goes_on : (i : ℕ) → Member (run (suc i)) (s.nexts (run i) (w i))
  pub accepting : (i : ℕ) → (j : ℕ) × (i ≤ j) × (s.accepting (run j) ≡ true)
