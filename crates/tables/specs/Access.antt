-- What the reading functions ask and answer. Assumes nothing: these are definitions.
use Rattle.std.specs.Prelude.{◌≡◌, List, ℕ, ◌≤◌, length}
use Rattle.basics.specs.Words.{largest_word}
use Rattle.tables.specs.Table.{Limits, table_words, n_of, m_of}

-- the answer is this word of the table, of so many bits
pub record Word (bits answer word : ℕ) : Type 0 where
  pub is : answer ≡ word
  pub small : answer ≤ largest_word bits

-- all the words that n and m call for are there
abbrev pub Sized : (table : List ℕ) → Type 0
Sized t = table_words (n_of t) (m_of t) ≤ length t

-- one of the table's records; they are numbered from 1
pub record Numbered (table : List ℕ) (number : ℕ) : Type 0 where
  pub from_one : 1 ≤ number
  pub number_to : number ≤ m_of table

-- a range, from its two numbers
abbrev pub limits : (states records : ℕ) → Limits
limits n m = record { states = n; records = m }
