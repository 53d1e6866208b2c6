-- What a merge refuses, answers and leaves, and what the merged pattern takes, as statements over what the calls answer and leave
-- (docs/RULES.md, "Two patterns made into one"). Assumes nothing: these are definitions.
use Rattle.std.specs.Prelude.{◌≡◌, List, ◌⊎◌, ◌↔◌, ℕ, ◌+◌, ◌≤◌, ◌<◌, length, take}
use Rattle.basics.specs.Buffers.{zeros, filled}
use Rattle.basics.specs.declared.Written.{Written}
use Rattle.automata.specs.Automaton.{Takes, Same}
use Rattle.automata.specs.Lasso.{letter_at, Lasso}
use Rattle.automata.specs.Union.{disjoint_union}
use Rattle.tables.specs.Table.{Limits, pattern_range, n_of, k_of, m_of, meaning}
use Rattle.patterns.specs.Check.{check_refusal, checked}
use Rattle.patterns.specs.declared.Checked.TheVariants.{Passed}
use Rattle.complement.specs.Build.{Lent, BuildSays, used}
use Rattle.complement.specs.declared.Counts.{Counts}
use Rattle.lassos.specs.Decision.{Decision, Taken, LassoSays}
use Rattle.merge.specs.Merge.{merged_size, BothPass, SameLetters, FewStates, FewRecords, MergeSays}
use Rattle.merge.specs.Merged.{merged_words}
use Rattle.tubochre.specs.Calls.{LassoAnswers}
use Rattle.tubochre.specs.Demand.{NotRefused}
use Rattle.tubochre.specs.declared.Answer.{Answer}

-- A MERGE'S ANSWER and what it leaves of the lent words: each refusal comes in its case and in no other
pub record MergeExactly (t s : List ℕ) (r : Written) (before after : List ℕ) : Type 0 where
  -- 2 to 10 are those of the first pattern's check, or where that passes those of the second's; there is no 1
  pub check :
      (k : ℕ) → 1 ≤ k → k ≤ 10 → (r.number ≡ k) ↔ ((check_refusal t ≡ k) ⊎ ((check_refusal t ≡ 0) × (check_refusal s ≡ k)))
  -- 19: letter counts differ; 20: more than 32 states; 21: more than 4,096 records; 22: too few words lent
  pub letters : (r.number ≡ 19) ↔ (BothPass t s × (k_of t ≡ k_of s → ⊥))
  pub states : (r.number ≡ 20) ↔ (SameLetters t s × (pattern_range.states < n_of t + n_of s))
  pub records : (r.number ≡ 21) ↔ (FewStates t s × (pattern_range.records < m_of t + m_of s))
  pub words : (r.number ≡ 22) ↔ (FewRecords t s × (length before < merged_size t s))
  -- nothing is refused where none of them is met, and no other number is answered
  pub none : (r.number ≡ 0) ↔ (FewRecords t s × (merged_size t s ≤ length before))
  pub no_other : (r.number ≤ 10) ⊎ ((19 ≤ r.number) × (r.number ≤ 22))
  -- a refused call answers count 0 and leaves every word zero; an accepted one answers how many words it wrote, and leaves zero beyond them
  pub no_count : (r.number ≡ 0 → ⊥) → r.count ≡ 0
  pub no_words : (r.number ≡ 0 → ⊥) → after ≡ zeros before
  pub count : r.number ≡ 0 → r.count ≡ merged_size t s
  pub written : r.number ≡ 0 → after ≡ filled (merged_words t s) before

-- whatever a merge answers and leaves
unfoldable pub MergeDemand : Type 0
MergeDemand = (t s : List ℕ) (r : Written) (before after : List ℕ) → MergeSays t s r before after → MergeExactly t s r before after

-- THE MERGED PATTERN: the used part of the words of an accepted merge, by the count answered
unfoldable pub merged : Written → List ℕ → List ℕ
merged r x = take r.count x

-- the automaton of a table takes no endless word
abbrev pub TakesNothing : List ℕ → Type 0
TakesNothing t = (word : ℕ → ℕ) → Takes (meaning t) word → ⊥

-- what the merged pattern c of two patterns t and s is, passes and takes
pub record MergedExactly (range : Limits) (t s c : List ℕ) : Type 0 where
  -- it passes the check
  pub passes : checked c ≡ Passed
  -- it means the disjoint union, so it takes an endless word exactly if at least one of the two does
  pub means : Same (meaning c) (disjoint_union (meaning t) (meaning s))
  pub takes : (word : ℕ → ℕ) → Takes (meaning c) word ↔ (Takes (meaning t) word ⊎ Takes (meaning s) word)
  -- and so say three decisions that do not refuse
  pub decisions :
      (u v : List ℕ) (d e f : Decision) (w w_now x x_now y y_now : List ℕ) → LassoSays range t u v d w w_now →
      LassoSays range s u v e x x_now → LassoSays range c u v f y y_now → NotRefused d → NotRefused e → NotRefused f →
      (f ≡ Taken) ↔ ((d ≡ Taken) ⊎ (e ≡ Taken))
  -- and three answers in numbers
  pub answers :
      (u v : List ℕ) (d e f : Answer) (w w_now x x_now y y_now : List ℕ) → LassoAnswers range t u v d w w_now →
      LassoAnswers range s u v e x x_now → LassoAnswers range c u v f y y_now → d.number ≡ 0 → e.number ≡ 0 → f.number ≡ 0 →
      (f.taken ≡ 1) ↔ ((d.taken ≡ 1) ⊎ (e.taken ≡ 1))
  -- a pattern that takes nothing changes no verdict, as the second and as the first
  pub kept_first :
      TakesNothing s → (u v : List ℕ) (d f : Decision) (w w_now y y_now : List ℕ) → LassoSays range t u v d w w_now →
      LassoSays range c u v f y y_now → NotRefused d → NotRefused f → f ≡ d
  pub kept_second :
      TakesNothing t → (u v : List ℕ) (e f : Decision) (x x_now y y_now : List ℕ) → LassoSays range s u v e x x_now →
      LassoSays range c u v f y y_now → NotRefused e → NotRefused f → f ≡ e
  -- both are ruled out together: its complement, built in whatever room without refusal, takes exactly the lassos that neither takes
  pub ruled_out :
      (b : Counts) (lent left : Lent) → BuildSays range c b lent left → b.number ≡ 0 → (u v : List ℕ) → Lasso (k_of t) u v →
      Takes (meaning (used b left.words)) (letter_at u v)
      ↔ ((Takes (meaning t) (letter_at u v) → ⊥) × (Takes (meaning s) (letter_at u v) → ⊥))

-- whatever an accepted merge leaves
unfoldable pub MergedDemand : Limits → Type 0
MergedDemand range =
    (t s : List ℕ) (r : Written) (before after : List ℕ) → MergeSays t s r before after → r.number ≡ 0 →
    MergedExactly range t s (merged r after)
