-- The lines of an accepted build, from the words and the sets that it left. Assumes nothing: these are definitions.
use Rattle.std.specs.Prelude.{◌≡◌, Bool, not, cond, List, ◌++◌, ℕ, zero, suc, ◌≤◌, ◌<◌, eqb, Option, SomeIff}
use Rattle.basics.specs.Least.{least_from}
use Rattle.basics.specs.Rows.{rows}
use Rattle.automata.specs.System.{an_edge}
use Rattle.tables.specs.Access.{Sized}
use Rattle.tables.specs.Table.{n_of, m_of, flags_of, head_of, letter_of, target_of, next_of}
use Rattle.record_words.specs.Record.{full_records, quadruple_at}
use Rattle.complement.specs.declared.Counts.{Counts}
use Rattle.listing_text.specs.Listing.{most_states, refused_line, counts_line, state_line, edge_line}
use Rattle.listing_text.specs.Output.{text_bytes, output_bytes}

-- SOURCES. A build's chains run through consecutive records, so the sources of its records rise.
-- a state has a chain
unfoldable pub has_chain : (words : List ℕ) → (state : ℕ) → Bool
has_chain w q = not (eqb (head_of w q) 0)

-- the first state from i on that has one; the state behind the last where none has
unfoldable pub first_source : (words : List ℕ) → (from : ℕ) → ℕ
first_source w i = least_from (n_of w) i (has_chain w)

-- the source of the record behind record r, whose own source is i
unfoldable pub source_behind : (words : List ℕ) → (source number : ℕ) → ℕ
source_behind w i r = cond (eqb (next_of w r) 0) (first_source w (suc i)) i

-- the source of record r + 1
unfoldable pub source_of : (words : List ℕ) → (r : ℕ) → ℕ
source_of w zero = first_source w 0
source_of w (suc r) = source_behind w (source_of w r) (suc r)

-- an answered source: it is one of the states, or there is none
abbrev pub IsSource : (words : List ℕ) → Option ℕ → (source : ℕ) → Type 0
IsSource w answer i = SomeIff answer (i < n_of w) i

-- LINES
unfoldable pub built_state : (words sets : List ℕ) → (state : ℕ) → List ℕ
built_state w s i = state_line i (quadruple_at s i) (flags_of w i)

unfoldable pub built_edge : (words : List ℕ) → (source number : ℕ) → List ℕ
built_edge w i r = edge_line (an_edge i (letter_of w r) (target_of w r))

-- the first so many edges
unfoldable pub built_edges : (words : List ℕ) → (edges : ℕ) → List ℕ
built_edges w m = rows m (λ r. built_edge w (source_of w r) (suc r))

-- all lines
unfoldable pub built_text : (states edges : ℕ) → (words sets : List ℕ) → List ℕ
built_text n m w s = counts_line n m ++ (rows n (built_state w s) ++ built_edges w m)

-- what is printed of a build's answer and of what it left
unfoldable pub printed : Counts → (words sets : List ℕ) → List ℕ
printed r w s =
    cond (eqb r.number 0) (built_text r.states r.edges w s) (refused_line r.number)

-- WHAT THE FUNCTIONS ASK: no more states than there is room for, each with its record
pub record Stated (sets : List ℕ) (states : ℕ) : Type 0 where
  pub few : states ≤ most_states
  pub stored : states ≤ full_records sets

-- all records of a table, each with a source
pub record Sourced (words : List ℕ) : Type 0 where
  pub few : n_of words ≤ most_states
  pub source : (r : ℕ) → r < m_of words → source_of words r < n_of words

-- all of a table that was built, whose listing has room
pub record Printable (words sets : List ℕ) : Type 0 where
  pub stated : Stated sets (n_of words)
  pub sourced : Sourced words
  pub room : text_bytes (n_of words) (m_of words) ≤ output_bytes

-- a build's counts are those of the words that it left, which are all there, and these can be printed
pub record PrintableBuild (states edges : ℕ) (words sets : List ℕ) : Type 0 where
  pub states_are : states ≡ n_of words
  pub edges_are : edges ≡ m_of words
  pub sized : Sized words
  pub printable : Printable words sets

-- what a build left can be printed where it was accepted
pub record PrintableAnswer (r : Counts) (words sets : List ℕ) : Type 0 where
  pub accepted : r.number ≡ 0 → PrintableBuild r.states r.edges words sets
