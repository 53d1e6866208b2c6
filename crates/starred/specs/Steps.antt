-- The complements of A and B by the definitions of the quadruple's methods: initial quadruples and successors by rising choice.
-- Assumes nothing: these are definitions.
use Rattle.std.specs.Prelude.{true, false, List, [], ◌∷◌, ℕ, ◌^◌}
use Rattle.basics.specs.Tabulate.{tabulate}
use Rattle.sets.specs.Sets.{set_states, size}
use Rattle.tables.specs.Rows.{pattern_A, pattern_B}
use Rattle.tables.specs.Table.{meaning}
use Rattle.ncsb.specs.Array.{from_array, nth_initial, nth_successor}
use Rattle.ncsb.specs.Moves.{Moves}
use Rattle.ncsb.specs.Successors.{quadruple, initial_free, asks, blocked_by}
use Rattle.ncsb.specs.declared.Quadruple.{Quadruple}
use Rattle.patterns.specs.Masks.{masks_of}
use Rattle.patterns.specs.Pattern.{moves}

-- what the methods read of a table: the masks and the three sets
unfoldable pub read_off : List ℕ → Moves
read_off t =
    let d = moves (meaning t) in from_array (masks_of d) d.starts d.marks d.inner

-- the initial quadruples, choice by choice
unfoldable pub begun : List ℕ → List Quadruple
begun t = tabulate (2 ^ size set_states (initial_free (read_off t))) (nth_initial (read_off t))

-- the successors of a quadruple on a letter, choice by choice; none where it is blocked
unfoldable pub stepped : List ℕ → Quadruple → (letter : ℕ) → List Quadruple
stepped t x c =
    let a = asks (read_off t) x c in
    elim (blocked_by (read_off t) x c a) [ true ↦ [] | false ↦ tabulate (2 ^ size set_states a.free) (nth_successor x a) ]

-- a pattern's quadruple, a letter, and what follows
pub record Followed : Type 0 where
  pub pattern : List ℕ
  pub from : Quadruple
  pub letter : ℕ
  pub next : List Quadruple

unfoldable pub follows : List ℕ → Quadruple → (letter : ℕ) → List Quadruple → Followed
follows t x c ys = record { pattern = t; from = x; letter = c; next = ys }

-- every state and edge of A's and of B's complement
unfoldable pub steps : List Followed
steps =
    follows pattern_A (quadruple 1 0 0 0) 0 (quadruple 1 2 0 2 ∷ [])
    ∷ follows pattern_A (quadruple 1 0 0 0) 1 (quadruple 1 0 0 0 ∷ [])
    ∷ follows pattern_A (quadruple 1 2 0 2) 0 (quadruple 1 2 0 2 ∷ [])
    ∷ follows pattern_A (quadruple 1 2 0 2) 1 (quadruple 1 0 0 0 ∷ [])
    ∷ follows pattern_B (quadruple 0 1 0 1) 0 (quadruple 0 1 0 1 ∷ [])
    ∷ follows pattern_B (quadruple 0 1 0 1) 1 (quadruple 0 2 0 2 ∷ [])
    ∷ follows pattern_B (quadruple 0 0 1 0) 0 (quadruple 0 0 1 0 ∷ [])
    ∷ follows pattern_B (quadruple 0 0 1 0) 1 []
    ∷ follows pattern_B (quadruple 0 2 0 2) 0 (quadruple 0 1 0 1 ∷ quadruple 0 0 1 0 ∷ [])
    ∷ follows pattern_B (quadruple 0 2 0 2) 1 (quadruple 0 2 0 2 ∷ [])
    ∷ []
