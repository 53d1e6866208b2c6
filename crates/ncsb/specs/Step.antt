-- The NCSB construction by membership: the lines of section 3.2 of "Complementing Semi-Deterministic Büchi Automata", in its order, with
-- none of the helpers that compute successors. Edges are followed from any state of a set: for N in Q1 and C, S and B in Q2, as in every
-- reached quadruple, they are the paper's d1, dt and d2. Assumes nothing: these are definitions.
use Rattle.std.specs.Prelude.{◌≡◌, true, false, ◌&&◌, ◌||◌, List, ◌↔◌, ◌⊎◌, ℕ, suc, ◌≤◌, ◌<◌, ◌^◌, length, get_or}
use Rattle.automata.specs.Automaton.{Automaton}
use Rattle.sets.specs.Sets.{has}
use Rattle.ncsb.specs.Moves.{Moves}
use Rattle.ncsb.specs.declared.Quadruple.{Quadruple}

-- a quadruple of sets of pattern states
pub record Small (n : ℕ) (x : Quadruple) : Type 0 where
  pub small_N : x.N < 2 ^ n
  pub small_C : x.C < 2 ^ n
  pub small_S : x.S < 2 ^ n
  pub small_B : x.B < 2 ^ n

-- an edge leads from the set to the state
unfoldable pub Leads : (a : Automaton) (set letter q : ℕ) → Type 0
Leads a s c q = (p : ℕ) × (has s p ≡ true) × (a.edge p c q ≡ true)

-- INITIAL: N is I in Q1; C and S part I in Q2 between them; S has nothing of F; B equals C
pub record Start (a : Automaton) (d : Moves) (x : Quadruple) : Type 0 where
  pub small : Small d.states x
  pub unmarked : (q : ℕ) → (has x.S q && has d.marks q) ≡ false
  pub initial_N : (q : ℕ) → (has x.N q ≡ true) ↔ ((has d.inner q ≡ false) × (a.initial q ≡ true))
  pub initial_CS : (q : ℕ) → ((has x.C q || has x.S q) ≡ true) ↔ ((has d.inner q ≡ true) × (a.initial q ≡ true))
  pub disjoint : (q : ℕ) → (has x.C q && has x.S q) ≡ false
  pub breakpoint : x.B ≡ x.C

-- THE STEP: y = (N', C', S', B') follows x = (N, C, S, B) on the letter c. The set P of quadruples comes first, then the six lines of the
-- transition function, each under the number and the name that it has in Lines.antt and in src/lines.rt
pub record Step (a : Automaton) (d : Moves) (x : Quadruple) (c : ℕ) (y : Quadruple) : Type 0 where
  -- P: four sets of states, and S' has nothing of F
  pub small : Small d.states y
  pub unmarked : (q : ℕ) → (has y.S q && has d.marks q) ≡ false
  -- 1. the reachable states are traced: N' is d1 of N, and C' and S' together are dt of N joined with d2 of C and S
  pub reachable_N : (q : ℕ) → (has y.N q ≡ true) ↔ ((has d.inner q ≡ false) × Leads a x.N c q)
  pub reachable_CS :
      (q : ℕ) →
      ((has y.C q || has y.S q) ≡ true)
      ↔ (((has d.inner q ≡ true) × Leads a x.N c q) ⊎ (Leads a x.C c q ⊎ Leads a x.S c q))
  -- 2. a run in Q2 is either safe, or not
  pub disjoint : (q : ℕ) → (has y.C q && has y.S q) ≡ false
  -- 3. safe runs must stay safe: S' contains d2 of S
  pub safe_stays : (q : ℕ) → Leads a x.S c q → has y.S q ≡ true
  -- 4. only runs leaving an accepting state can become safe, so those not leaving one stay: C' contains d2 of C without F
  pub not_leaving :
      (p q : ℕ) → has x.C p ≡ true → has d.marks p ≡ false → a.edge p c q ≡ true → has y.C q ≡ true
  -- 5. each state of C without F has a target: otherwise the run was safe already
  pub no_dead_end :
      (p : ℕ) → has x.C p ≡ true → has d.marks p ≡ false → (q : ℕ) × (a.edge p c q ≡ true)
  -- 6. the breakpoint: if B is empty, B' is C'; otherwise d2 of B, cut to C'
  pub breakpoint_empty : x.B ≡ 0 → y.B ≡ y.C
  pub breakpoint_kept :
      (x.B ≡ 0 → ⊥) → (q : ℕ) → (has y.B q ≡ true) ↔ ((has y.C q ≡ true) × Leads a x.B c q)

-- a list of quadruples by rising S
abbrev pub RisingS : List Quadruple → Type 0
RisingS xs =
    (blank : Quadruple) (i j : ℕ) → i < j → j < length xs → (get_or xs i blank).S < (get_or xs j blank).S

-- an accepting run of quadruples over a word: B is empty at infinitely many places
pub record AcceptingNcsbRun (a : Automaton) (d : Moves) (w : ℕ → ℕ) (run : ℕ → Quadruple) : Type 0 where
  pub begins : Start a d (run 0)
  pub goes_on : (i : ℕ) → Step a d (run i) (w i) (run (suc i))
  pub accepting : (i : ℕ) → (j : ℕ) × (i ≤ j) × ((run j).B ≡ 0)

-- what all reached quadruples are: N in Q1, C and S apart in Q2, S without F, B in C
pub record Fine (d : Moves) (x : Quadruple) : Type 0 where
  pub small : Small d.states x
  pub outer : (q : ℕ) → has x.N q ≡ true → has d.inner q ≡ false
  pub inner : (q : ℕ) → (has x.C q || has x.S q) ≡ true → has d.inner q ≡ true
  pub disjoint : (q : ℕ) → (has x.C q && has x.S q) ≡ false
  pub unmarked : (q : ℕ) → (has x.S q && has d.marks q) ≡ false
  pub tracked : (q : ℕ) → has x.B q ≡ true → has x.C q ≡ true
