-- What merging refuses, answers and leaves (docs/RULES.md, "Two patterns made into one"). Assumes nothing: these are definitions.
use Rattle.std.specs.Prelude.{◌≡◌, not, cond, List, ℕ, ◌+◌, ◌≤◌, ltb, eqb, length}
use Rattle.basics.specs.Buffers.{or_else, as_written, after_call}
use Rattle.basics.specs.declared.Written.{Written}
use Rattle.tables.specs.Table.{Limits, pattern_range, table_words, n_of, k_of, m_of}
use Rattle.patterns.specs.Check.{check_refusal}
use Rattle.merge.specs.Merged.{merged_words}

-- how many words the merged table has
abbrev pub merged_size : (first second : List ℕ) → ℕ
merged_size t s = table_words (n_of t + n_of s) (m_of t + m_of s)

-- 19: letter counts differ; 20: more states than the range allows; 21: more records; 22: too few words lent
unfoldable pub pair_refusal : Limits → (first second : List ℕ) → (words : ℕ) → ℕ
pair_refusal r t s w =
    cond (not (eqb (k_of t) (k_of s))) 19
    (cond (ltb r.states (n_of t + n_of s)) 20
    (cond (ltb r.records (m_of t + m_of s)) 21
    (cond (ltb w (merged_size t s)) 22 0)))

-- the first table by 2 to 10, then the second by 2 to 10, then those, in the pattern's range
unfoldable pub merge_refusal : (first second : List ℕ) → (words : ℕ) → ℕ
merge_refusal t s w = or_else (check_refusal t) (or_else (check_refusal s) (pair_refusal pattern_range t s w))

-- WHAT HAS PASSED by each refusal: both patterns their checks; then their letters are as many; then their states together are not too many for
-- a pattern; then their records
abbrev pub BothPass : (first second : List ℕ) → Type 0
BothPass t s = (check_refusal t ≡ 0) × (check_refusal s ≡ 0)

abbrev pub SameLetters : (first second : List ℕ) → Type 0
SameLetters t s = BothPass t s × (k_of t ≡ k_of s)

abbrev pub FewStates : (first second : List ℕ) → Type 0
FewStates t s = SameLetters t s × (n_of t + n_of s ≤ pattern_range.states)

abbrev pub FewRecords : (first second : List ℕ) → Type 0
FewRecords t s = FewStates t s × (m_of t + m_of s ≤ pattern_range.records)

-- WHAT A CALL SAYS: its answer, and what it leaves in the lent words
pub record MergeSays (t s : List ℕ) (r : Written) (w w_now : List ℕ) : Type 0 where
  pub answer : r ≡ as_written (merge_refusal t s (length w)) (length (merged_words t s))
  pub words : w_now ≡ after_call (merge_refusal t s (length w)) (merged_words t s) w
