-- What a merge refuses, answers and leaves; and that the merged pattern passes the check and takes what at least one of the two does, as
-- decisions say it too. Assumes nothing.
use mathlib.Core.Path.{◌≡◌, refl, sym, ap, ◌∙◌}
use mathlib.Core.List.{List}
use mathlib.Core.Logic.{◌⊎◌, ◌↔◌, inl, inr}
use Prim.Native.Nat.{ℕ}
use native.Mathlib.Omega.{arith}
use lib.ListN.{length}
use Rattle.automata.specs.Automaton.{Takes}
use Rattle.automata.specs.Lasso.{letter_at, Lasso}
use Rattle.tables.specs.Table.{Limits, Wider, pattern_range, k_of, meaning}
use Rattle.patterns.specs.Check.{as_checked, checked}
use Rattle.patterns.specs.declared.Checked.TheVariants.{Passed}
use Rattle.complement.specs.Build.{Lent, BuildSays, used}
use Rattle.complement.specs.declared.Counts.{Counts}
use Rattle.lassos.specs.Decision.{Decision, Taken, NotTaken, Refused, LassoSays}
use Rattle.lassos.proofs.Answers.{says_taken, says_not_taken}
use Rattle.merge.specs.Merged.{merged_words}
use Rattle.merge.proofs.Answers.{says_number, refused_count, refused_words, merged_count, merged_left, merged_used}
use Rattle.merge.proofs.Passed.{merged_union, merged_passes, merged_takes}
use Rattle.merge.proofs.Refusals.{check_right, letters_right, states_right, records_right, words_right, none_right, no_other_number, Mergeable, mergeable}
use Rattle.merge.proofs.Words.{merged_k, merged_length}
use Rattle.tubochre.specs.Calls.{as_answer, LassoAnswers}
use Rattle.tubochre.specs.declared.Answer.{Answer}
use Rattle.tubochre.specs.Demand.{NotRefused, ThirdDemand}
use Rattle.tubochre.specs.Merging.{MergeDemand, merged, TakesNothing, MergedExactly, MergedDemand}
use Rattle.tubochre.proofs.Answers.{not_refused}
use Rattle.tubochre.proofs.Demand.{decided, stands_for, accepts, numbers_taken, third_demand}

-- WHATEVER A MERGE ANSWERS AND LEAVES
pub merge_demand : MergeDemand
unfolding MergeDemand
merge_demand t s r before after says =
    let number = says_number says in
    record {
      check = λ k from to. rw number (check_right t s (length before) k from to);
      letters = rw number (letters_right t s (length before));
      states = rw number (states_right t s (length before));
      records = rw number (records_right t s (length before));
      words = rw number (words_right t s (length before));
      none = rw number (none_right t s (length before));
      no_other = rw number (no_other_number t s (length before));
      no_count = refused_count says;
      no_words = refused_words says;
      count = λ fine. merged_count says fine ∙ merged_length t s;
      written = merged_left says;
    }

-- a decision that does not refuse is one of two
two_verdicts : (d : Decision) → NotRefused d → (d ≡ Taken) ⊎ (d ≡ NotTaken)
unfolding NotRefused
two_verdicts Taken fine = inl refl
two_verdicts NotTaken fine = inr refl
two_verdicts (Refused number) fine = absurd (fine number refl)

-- `taken` is 1 only for a decision that says so
one_taken : (d : Decision) → (as_answer d).taken ≡ 1 → d ≡ Taken
unfolding as_answer
one_taken Taken e = refl
one_taken NotTaken e = absurd (omega arith)
one_taken (Refused number) e = absurd (omega arith)

-- A TABLE c that takes what one of two tables takes
module _
    {range : Limits} {t s c : List ℕ}
    (takes : (word : ℕ → ℕ) → Takes (meaning c) word ↔ (Takes (meaning t) word ⊎ Takes (meaning s) word)) {u v : List ℕ} where
  -- three decisions that do not refuse
  either_taken :
      {d e f : Decision} {w w_now x x_now y y_now : List ℕ} → LassoSays range t u v d w w_now → LassoSays range s u v e x x_now →
      LassoSays range c u v f y y_now → NotRefused d → NotRefused e → NotRefused f → (f ≡ Taken) ↔ ((d ≡ Taken) ⊎ (e ≡ Taken))
  either_taken says says' both fine fine' fine'' = (
    (λ h.
        elim ((takes (letter_at u v)).0 ((says_taken both).0 h).1) [
          | inl found ↦ inl ((says_taken says).1 (not_refused says fine, found))
          | inr found ↦ inr ((says_taken says').1 (not_refused says' fine', found))
        ]),
    (λ h.
        (says_taken both).1 (
          not_refused both fine'',
          (takes (letter_at u v)).1
              (elim h [ inl e ↦ inl ((says_taken says).0 e).1 | inr e ↦ inr ((says_taken says').0 e).1 ]),
        )),
  )

  -- three answers in numbers
  either_one :
      {d e f : Answer} {w w_now x x_now y y_now : List ℕ} → LassoAnswers range t u v d w w_now → LassoAnswers range s u v e x x_now →
      LassoAnswers range c u v f y y_now → d.number ≡ 0 → e.number ≡ 0 → f.number ≡ 0 →
      (f.taken ≡ 1) ↔ ((d.taken ≡ 1) ⊎ (e.taken ≡ 1))
  either_one says says' both fine fine' fine'' =
      let verdicts =
      either_taken (stands_for says) (stands_for says') (stands_for both) (accepts says fine) (accepts says' fine') (accepts both fine'') in (
        (λ h.
            elim (verdicts.0 (one_taken (decided both) (sym (ap (λ (x : Answer). x.taken) both.answer) ∙ h))) [
              | inl e ↦ inl (numbers_taken says.answer e)
              | inr e ↦ inr (numbers_taken says'.answer e)
            ]),
        (λ h.
            numbers_taken both.answer
            (verdicts.1
            (elim h [
              | inl e ↦ inl (one_taken (decided says) (sym (ap (λ (x : Answer). x.taken) says.answer) ∙ e))
              | inr e ↦ inr (one_taken (decided says') (sym (ap (λ (x : Answer). x.taken) says'.answer) ∙ e))
            ]))),
      )

-- a table that takes what another one does is decided alike
alike :
    {range : Limits} {t c u v : List ℕ} → (Takes (meaning c) (letter_at u v) ↔ Takes (meaning t) (letter_at u v)) →
    {d f : Decision} {w w_now y y_now : List ℕ} → LassoSays range t u v d w w_now → LassoSays range c u v f y y_now → NotRefused d →
    NotRefused f → f ≡ d
alike same {d} says both fine fine' =
    elim (two_verdicts d fine) [
      | inl e ↦ (says_taken both).1 (not_refused both fine', same.1 ((says_taken says).0 e).1) ∙ sym e
      | inr e ↦
          (says_not_taken both).1 (not_refused both fine', λ found. ((says_not_taken says).0 e).1 (same.0 found)) ∙ sym e
    ]

-- THE MERGED WORDS of two patterns
module _ {range : Limits} (wider : Wider pattern_range range) {t s : List ℕ} {room : ℕ} (h : Mergeable t s room) where
  abbrev c : List ℕ
  c = merged_words t s

  passed : checked c ≡ Passed
  unfolding checked as_checked
  passed = rw (merged_passes h)

  -- what one of two takes, where the other takes nothing
  only_first : TakesNothing s → (word : ℕ → ℕ) → Takes (meaning c) word ↔ Takes (meaning t) word
  only_first nothing word = (
    (λ found. elim ((merged_takes h word).0 found) [ inl first ↦ first | inr second ↦ absurd (nothing word second) ]),
    (λ found. (merged_takes h word).1 (inl found)),
  )

  only_second : TakesNothing t → (word : ℕ → ℕ) → Takes (meaning c) word ↔ Takes (meaning s) word
  only_second nothing word = (
    (λ found. elim ((merged_takes h word).0 found) [ inl first ↦ absurd (nothing word first) | inr second ↦ second ]),
    (λ found. (merged_takes h word).1 (inr found)),
  )

  ruled_out :
      (b : Counts) (lent left : Lent) → BuildSays range c b lent left → b.number ≡ 0 → (u v : List ℕ) → Lasso (k_of t) u v →
      Takes (meaning (used b left.words)) (letter_at u v)
      ↔ ((Takes (meaning t) (letter_at u v) → ⊥) × (Takes (meaning s) (letter_at u v) → ⊥))
  unfolding ThirdDemand
  ruled_out b lent left says fine u v lasso =
      let over : Lasso (k_of c) u v = rw (merged_k t s) lasso in
      let compared = third_demand range wider c (checked c) b lent left u v refl passed says fine over in
      let takes = merged_takes h (letter_at u v) in
      elim compared.parted [
        | inl (found, none) ↦ (
          (λ taken. absurd (none taken.run taken.accepting_run)),
          (λ (first, second). absurd (elim (takes.0 found) [ inl a ↦ first a | inr a ↦ second a ])),
        )
        | inr (none, one) ↦ (
          (λ taken. ((λ a. none (takes.1 (inl a))), (λ a. none (takes.1 (inr a))))),
          (λ neither. record { run = one.run; accepting_run = one.accepting_run }),
        )
      ]

  merged_exactly : MergedExactly range t s c
  merged_exactly =
      record {
        passes = passed;
        means = merged_union h;
        takes = merged_takes h;
        decisions = λ u v d e f w w_now x x_now y y_now says says' both. either_taken (merged_takes h) says says' both;
        answers = λ u v d e f w w_now x x_now y y_now says says' both. either_one (merged_takes h) says says' both;
        kept_first =
            λ nothing u v d f w w_now y y_now says both. alike (only_first nothing (letter_at u v)) says both;
        kept_second =
            λ nothing u v e f x x_now y y_now says both. alike (only_second nothing (letter_at u v)) says both;
        ruled_out = ruled_out;
      }

-- WHATEVER AN ACCEPTED MERGE LEAVES
pub merged_demand : (range : Limits) → Wider pattern_range range → MergedDemand range
unfolding MergedDemand merged
merged_demand range wider t s r before after says fine =
    rw (merged_used says fine) (merged_exactly wider (mergeable (sym (says_number says) ∙ fine)))
