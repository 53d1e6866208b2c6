-- The merged pattern of two patterns that pass the check passes it too, and takes an endless word exactly if one of the two does. Assumes nothing.
use mathlib.Core.Path.{◌≡◌, ◌∙◌}
use mathlib.Core.Bool.{true}
use mathlib.Core.List.{List}
use mathlib.Core.Logic.{◌⊎◌, ◌↔◌}
use Prim.Native.Nat.{ℕ}
use Rattle.basics.proofs.Booleans.{and_make}
use Rattle.automata.specs.Automaton.{Takes, Same}
use Rattle.automata.specs.Union.{disjoint_union}
use Rattle.automata.proofs.Same.{same_eq}
use Rattle.automata.proofs.Union.{union_takes}
use Rattle.tables.specs.Table.{pattern_range, meaning, table_refusal}
use Rattle.tables.proofs.Laws.{valid}
use Rattle.patterns.specs.Check.{check_refusal}
use Rattle.patterns.specs.Pattern.{semi_deterministic}
use Rattle.patterns.proofs.Answers.{even_none}
use Rattle.patterns.proofs.Passed.{checked_table, checked_closed, checked_semi}
use Rattle.patterns.proofs.Union.{union_semi}
use Rattle.merge.specs.Merged.{merged_words}
use Rattle.merge.proofs.Meaning.{merged_meaning}
use Rattle.merge.proofs.Refusals.{Mergeable}
use Rattle.merge.proofs.Valid.{merged_valid}

module _ {t s : List ℕ} {w : ℕ} (h : Mergeable t s w) where
  -- its words mean the union
  pub merged_union : Same (meaning (merged_words t s)) (disjoint_union (meaning t) (meaning s))
  merged_union =
      merged_meaning t s (valid pattern_range t (checked_table t h.first))
      (valid pattern_range s (checked_table s h.second))

  -- they are a pattern's table
  merged_table : table_refusal pattern_range (merged_words t s) ≡ 0
  merged_table =
      merged_valid pattern_range pattern_range pattern_range t s (checked_table t h.first)
      (checked_table s h.second)
      h.letters
      h.states
      h.records

  -- and semi-deterministic, as both patterns are
  letters_alike : (meaning t).letters ≡ (meaning s).letters
  unfolding meaning
  letters_alike = h.letters

  merged_semi : semi_deterministic (meaning (merged_words t s)) ≡ true
  merged_semi =
      let first = checked_semi t h.first in
      let second = checked_semi s h.second in
      rw (same_eq merged_union)
      (union_semi (meaning t) (meaning s) letters_alike (checked_closed t h.first) (checked_closed s h.second)
      ∙ and_make first second)

  -- THE MERGED PATTERN PASSES THE CHECK
  pub merged_passes : check_refusal (merged_words t s) ≡ 0
  merged_passes = even_none (merged_words t s) merged_table merged_semi

  -- AND TAKES what at least one of the two takes
  pub merged_takes : (word : ℕ → ℕ) → Takes (meaning (merged_words t s)) word ↔ (Takes (meaning t) word ⊎ Takes (meaning s) word)
  merged_takes word = rw (same_eq merged_union) (union_takes (meaning t) (meaning s))
