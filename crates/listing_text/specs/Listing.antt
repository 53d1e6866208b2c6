-- The listing program: its whole output as a function of its whole input (docs/RULES.md, "The listing program"). Assumes nothing: these are definitions.
use Rattle.std.specs.Prelude.{List, [], ◌∷◌, ◌++◌, ℕ, zero, suc, length}
use Rattle.std.proofs.Math.Option.{Option, none, some}
use Rattle.basics.specs.Words.{word_bits, largest_word}
use Rattle.basics.specs.Rows.{rows}
use Rattle.automata.specs.System.{Edge, Built, System, state_at, edge_at, numbered}
use Rattle.tables.specs.Table.{table_words, pattern_range, wide_range}
use Rattle.ncsb.specs.declared.Quadruple.{Quadruple}
use Rattle.layout.specs.Chained.{flags_word}
use Rattle.complement.specs.Build.{Room, build_refusal}
use Rattle.complement.specs.Complement.{system_of, complement}
use Rattle.decimal.specs.Lines.{decimal, line, ascii}
use Rattle.decimal.specs.Reading.{Bounds, read_numbers}

-- REFUSAL 1: numbers are from 0 to 65,535, and there are at most as many as the largest pattern has words: 12,355
unfoldable pub listing_bounds : Bounds
listing_bounds = record { largest = largest_word word_bits; most = table_words pattern_range.states pattern_range.records }

-- THE ROOM that the listing lends a build: for 1,024 states
abbrev pub most_states : ℕ
most_states = 1024

-- and 16,384 table words
abbrev pub most_words : ℕ
most_words = 16384

-- as a build counts it
unfoldable pub listing_room : Room
listing_room = record { words = most_words; records = most_states }

-- a refusal: "refused" and the number
unfoldable pub refused_line : (number : ℕ) → List ℕ
refused_line r = ascii "refused " ++ line (r ∷ [])

-- both counts
unfoldable pub counts_line : (states edges : ℕ) → List ℕ
counts_line n m = ascii "states " ++ (decimal n ++ (ascii " edges " ++ line (m ∷ [])))

-- a state: its number, N, C, S, B and flags
unfoldable pub state_line : (number : ℕ) → Quadruple → (flags : ℕ) → List ℕ
state_line i x f = line (i ∷ x.N ∷ x.C ∷ x.S ∷ x.B ∷ f ∷ [])

-- an edge: its source, letter and target
unfoldable pub edge_line : Edge → List ℕ
edge_line e = line (e.source ∷ e.letter ∷ e.target ∷ [])

-- an accepted build: both counts, then the states, then the edges in record order
unfoldable pub accepted_text : System Quadruple → Built Quadruple → List ℕ
accepted_text s b =
    counts_line (length b.states) (length b.edges)
    ++ (rows (length b.states) (λ i. state_line i (state_at s b.states i) (flags_word (numbered s b) i))
    ++ rows (length b.edges) (λ r. edge_line (edge_at b.edges r)))

-- a refusal prints only "refused" and the number
unfoldable pub answered : (refusal : ℕ) → (table : List ℕ) → List ℕ
answered zero t = accepted_text (system_of t) (complement t)
answered (suc r) t = refused_line (suc r)

-- the listing of the numbers that were read, or of none
unfoldable pub listing_of : Option (List ℕ) → List ℕ
listing_of none = refused_line 1
listing_of (some t) = answered (build_refusal wide_range t listing_room) t

-- THE LISTING of an input, byte by byte
unfoldable pub listing : (input : List ℕ) → List ℕ
listing input = listing_of (read_numbers listing_bounds input)
