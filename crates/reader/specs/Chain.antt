-- A reader over a chained table: what stands at a record number, and what follows it, on any words, sound or damaged. Assumes nothing: these are definitions.
use Rattle.std.specs.Prelude.{Bool, false, ◌&&◌, cond, List, Option, Some, None, ℕ, zero, suc, ltb, leb, eqb}
use Rattle.tables.specs.Table.{n_of, m_of, head_of, record_at, letter_of, target_of, next_of}
use Rattle.reader.specs.declared.Edge.{Edge}

-- records are numbered from 1 to m
unfoldable pub is_record : List ℕ → (number : ℕ) → Bool
is_record t r = leb 1 r && leb r (m_of t)

-- where a record's words begin; nowhere if it is none
abbrev pub record_place : List ℕ → (number : ℕ) → Option ℕ
record_place t r = cond (is_record t r) (Some (record_at t r)) None

-- the edge of a record; none elsewhere
unfoldable pub item_at : List ℕ → (number : ℕ) → Option Edge
item_at t r = cond (is_record t r) (Some (record { letter = letter_of t r; target = target_of t r })) None

-- the record that follows in the chain; zero elsewhere
unfoldable pub record_after : List ℕ → (number : ℕ) → ℕ
record_after t r = cond (is_record t r) (next_of t r) 0

-- where a state's chain begins; zero where there is no such state
unfoldable pub head_record : List ℕ → (state : ℕ) → ℕ
head_record t q = cond (ltb q (n_of t)) (head_of t q) 0

-- how many records stand in the chain from r on, at most as many as there is fuel
unfoldable pub chain_length : (fuel : ℕ) → List ℕ → (r : ℕ) → ℕ
chain_length zero t r = 0
chain_length (suc f) t r = cond (is_record t r) (suc (chain_length f t (record_after t r))) 0

-- how many records stand in a state's chain, of which some may repeat an edge; no chain of a sound table has more than m
unfoldable pub records_in_chain : List ℕ → (state : ℕ) → ℕ
records_in_chain t q = chain_length (m_of t) t (head_record t q)

-- the record at which a reader stands after so many steps from r
unfoldable pub record_nth : (steps : ℕ) → List ℕ → (r : ℕ) → ℕ
record_nth zero t r = r
record_nth (suc i) t r = record_nth i t (record_after t r)

-- what is read is an edge with this letter and target
unfoldable pub reads : Option Edge → (letter target : ℕ) → Bool
reads (Some e) x y = eqb e.letter x && eqb e.target y
reads None x y = false
