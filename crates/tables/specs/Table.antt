-- Chained tables and refusals 2 to 9 (docs/RULES.md, "The chained table" and "Refusals"). Assumes nothing: these are definitions.
use Rattle.std.specs.Prelude.{Bool, false, ◌&&◌, ◌||◌, not, cond, List, ℕ, zero, suc, ◌+◌, ◌*◌, ◌-◌, ◌%◌, ◌≤◌, ltb, leb, eqb, length, get_or}
use Rattle.basics.specs.Bounded.{each, count}
use Rattle.basics.specs.Buffers.{or_else}
use Rattle.basics.specs.Words.{word_bits, largest_word}
use Rattle.automata.specs.Automaton.{Automaton}

-- LIMITS. A table has 1 to 16 letters
abbrev pub most_letters : ℕ
most_letters = 16

-- a range: a table has 1 to so many states, and 0 to so many records
pub record Limits : Type 0 where
  pub states : ℕ
  pub records : ℕ

-- the second range allows all that the first does
pub record Wider (r s : Limits) : Type 0 where
  pub states : r.states ≤ s.states
  pub records : r.records ≤ s.records

-- every number of a table in the range fits a word of so many bits
pub record RangeFits (bits : ℕ) (r : Limits) : Type 0 where
  pub states_fit : r.states ≤ largest_word bits
  pub records_fit : r.records ≤ largest_word bits
  pub letters_fit : most_letters ≤ largest_word bits

-- a pattern has 1 to 32 states and 0 to 4,096 records
unfoldable pub pattern_range : Limits
pattern_range = record { states = 32; records = 4096 }

-- a wide table has as many states and records as a word can count: 1 to 65,535 and 0 to 65,535
unfoldable pub wide_range : Limits
wide_range = record { states = largest_word word_bits; records = largest_word word_bits }

-- WORDS: n, k, m; flags and head of each state; letter, target and next of each record. So many words in all
abbrev pub table_words : (states records : ℕ) → ℕ
table_words n m = 3 + 2 * n + 3 * m

unfoldable pub n_of : List ℕ → ℕ
n_of t = get_or t 0 0

unfoldable pub k_of : List ℕ → ℕ
k_of t = get_or t 1 0

unfoldable pub m_of : List ℕ → ℕ
m_of t = get_or t 2 0

unfoldable pub flags_of : List ℕ → (state : ℕ) → ℕ
flags_of t q = get_or t (3 + 2 * q) 0

unfoldable pub head_of : List ℕ → (state : ℕ) → ℕ
head_of t q = get_or t (4 + 2 * q) 0

-- where a record's words begin; records are numbered from 1
unfoldable pub record_at : List ℕ → (number : ℕ) → ℕ
record_at t r = 3 + 2 * n_of t + 3 * (r - 1)

unfoldable pub letter_of : List ℕ → (number : ℕ) → ℕ
letter_of t r = get_or t (record_at t r) 0

unfoldable pub target_of : List ℕ → (number : ℕ) → ℕ
target_of t r = get_or t (record_at t r + 1) 0

unfoldable pub next_of : List ℕ → (number : ℕ) → ℕ
next_of t r = get_or t (record_at t r + 2) 0

-- flags: 1 initial, 2 accepting, 3 both
unfoldable pub flags : (initial accepting : Bool) → ℕ
flags x y = cond x 1 0 + cond y 2 0

-- what a state's flags say
unfoldable pub is_initial : List ℕ → (state : ℕ) → Bool
is_initial t q = eqb (flags_of t q % 2) 1

unfoldable pub is_accepting : List ℕ → (state : ℕ) → Bool
is_accepting t q = leb 2 (flags_of t q)

-- a chain from record r on has a record with this letter and target; zero ends the chain
unfoldable pub chain_has : (fuel : ℕ) → List ℕ → (r letter target : ℕ) → Bool
chain_has zero t r c q = false
chain_has (suc f) t r c q =
    not (eqb r 0) && ((eqb (letter_of t r) c && eqb (target_of t r) q) || chain_has f t (next_of t r) c q)

-- the records of a state's chain are its edges
unfoldable pub edge : List ℕ → (source letter target : ℕ) → Bool
edge t p c q = chain_has (m_of t) t (head_of t p) c q

-- WHAT A TABLE MEANS, at any width; only numbers below n are states
unfoldable pub meaning : List ℕ → Automaton
meaning t =
    record {
      states = n_of t;
      letters = k_of t;
      initial = λ q. ltb q (n_of t) && is_initial t q;
      accepting = λ q. ltb q (n_of t) && is_accepting t q;
      edge = λ p c q. (ltb p (n_of t) && ltb q (n_of t)) && edge t p c q;
    }

-- REFUSALS 2 TO 9: each test covers the whole table. 2 to 6 look at its length and its first three words; zero where none is met
abbrev pub sizes_refusal : Limits → List ℕ → ℕ
sizes_refusal r t =
    cond (ltb (length t) 3) 2
    (cond (not (leb 1 (n_of t) && leb (n_of t) r.states)) 3
    (cond (not (leb 1 (k_of t) && leb (k_of t) most_letters)) 4
    (cond (ltb r.records (m_of t)) 5
    (cond (not (eqb (length t) (table_words (n_of t) (m_of t)))) 6 0))))

-- 7: flags 0 to 3
abbrev pub flag_good : List ℕ → (state : ℕ) → Bool
flag_good t q = leb (flags_of t q) 3

unfoldable pub flags_good : List ℕ → Bool
flags_good t = each (n_of t) (flag_good t)

-- 8: the letter and the target of record i + 1 are in range
abbrev pub record_good : List ℕ → (i : ℕ) → Bool
record_good t i = ltb (letter_of t (suc i)) (k_of t) && ltb (target_of t (suc i)) (n_of t)

unfoldable pub records_good : List ℕ → Bool
records_good t = each (m_of t) (record_good t)

-- 9: a head is zero or the number of a record
abbrev pub head_good : List ℕ → (state : ℕ) → Bool
head_good t q = leb (head_of t q) (m_of t)

unfoldable pub heads_good : List ℕ → Bool
heads_good t = each (n_of t) (head_good t)

-- a next, of a record among m, is zero or the number of a later record
abbrev pub leads_on : (m number next : ℕ) → Bool
leads_on m x next = leb next m && (eqb next 0 || ltb x next)

-- so for record i + 1
abbrev pub next_good : List ℕ → (i : ℕ) → Bool
next_good t i = leads_on (m_of t) (suc i) (next_of t (suc i))

unfoldable pub nexts_good : List ℕ → Bool
nexts_good t = each (m_of t) (next_good t)

-- how often a record is named among all heads and nexts
unfoldable pub named : List ℕ → (r : ℕ) → ℕ
named t r = count (n_of t) (λ q. eqb (head_of t q) r) + count (m_of t) (λ i. eqb (next_of t (suc i)) r)

-- links within m, nexts zero or forward, each record named exactly once
unfoldable pub chains_good : List ℕ → Bool
chains_good t = heads_good t && (nexts_good t && each (m_of t) (λ i. eqb (named t (suc i)) 1))

-- the first refusal that the table meets in the range, or zero
unfoldable pub table_refusal : Limits → List ℕ → ℕ
table_refusal r t =
    or_else (sizes_refusal r t)
    (cond (not (flags_good t)) 7
    (cond (not (records_good t)) 8
    (cond (not (chains_good t)) 9 0)))
