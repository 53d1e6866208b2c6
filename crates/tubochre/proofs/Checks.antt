-- What the check answers, in numbers: each refusal in its case and in no other, and with 10 the place where the pattern forks first. Assumes nothing.
use mathlib.Core.Path.{◌≡◌, refl, sym, ◌∙◌, ap}
use mathlib.Core.List.{List}
use mathlib.Core.Logic.{◌↔◌}
use Prim.Native.Nat.{ℕ, zero, suc, ◌≤◌}
use native.Mathlib.Omega.{arith}
use Rattle.automata.specs.Automaton.{Closed}
use Rattle.tables.specs.Table.{pattern_range, table_refusal, meaning}
use Rattle.tables.proofs.Laws.{valid, meaning_closed}
use Rattle.patterns.specs.Check.{check_refusal, no_place, check_place, as_checked, checked}
use Rattle.patterns.specs.Forks.{SomeFork, ForksFirst}
use Rattle.basics.specs.declared.Place.{Place}
use Rattle.patterns.proofs.Answers.{CheckCase, by_table, by_fork, by_none, check_cases, check_most, no_fork_place, passed_no_place, fork_place_kept}
use Rattle.patterns.proofs.Places.{uneven_place, place_right, even_right, uneven_right}
use Rattle.tubochre.specs.Calls.{as_check_answer}
use Rattle.tubochre.specs.Demand.{PlacedExactly, CheckDemand}
use Rattle.tubochre.specs.declared.CheckAnswer.{CheckAnswer}

-- EACH NUMBER IN ITS CASE
module _ (t : List ℕ) where
  closed : table_refusal pattern_range t ≡ 0 → Closed (meaning t)
  closed passed = meaning_closed (valid pattern_range t passed)

  by_its_table : CheckCase t → (k : ℕ) → 1 ≤ k → k ≤ 9 → (check_refusal t ≡ k) ↔ (table_refusal pattern_range t ≡ k)
  by_its_table (by_table same some few) k from to = (λ e. same ∙ e, λ e. sym same ∙ e)
  by_its_table (by_fork table fork ten) k from to = (λ e. absurd (omega arith), λ e. absurd (omega arith))
  by_its_table (by_none table even none) k from to = (λ e. absurd (omega arith), λ e. absurd (omega arith))

  by_its_fork : CheckCase t → (check_refusal t ≡ 10) ↔ ((table_refusal pattern_range t ≡ 0) × SomeFork (meaning t))
  by_its_fork (by_table same some few) = (λ e. absurd (omega arith), λ (table, fork). absurd (omega arith))
  by_its_fork (by_fork table fork ten) = (λ e. (table, (uneven_right (meaning t) (closed table)).0 fork), λ case. ten)
  by_its_fork (by_none table even none) =
      (λ e. absurd (omega arith), λ (passed, fork). absurd ((even_right (meaning t) (closed table)).0 even fork))

  by_no_fork : CheckCase t → (check_refusal t ≡ 0) ↔ ((table_refusal pattern_range t ≡ 0) × (SomeFork (meaning t) → ⊥))
  by_no_fork (by_table same some few) = (λ e. absurd (omega arith), λ (table, even). absurd (omega arith))
  by_no_fork (by_fork table fork ten) =
      (λ e. absurd (omega arith), λ (passed, even). absurd (even ((uneven_right (meaning t) (closed table)).0 fork)))
  by_no_fork (by_none table even none) = (λ e. (table, (even_right (meaning t) (closed table)).0 even), λ case. none)

  -- THE PLACE of 10 is where the pattern forks first
  forked_first : CheckCase t → check_refusal t ≡ 10 → ForksFirst (meaning t) (check_place t)
  forked_first (by_table same some few) e = absurd (omega arith)
  forked_first (by_fork table fork ten) e =
      let (p, at) = uneven_place (meaning t) fork in
      rw (fork_place_kept t ten at) ((place_right (meaning t) (closed table) p).0 at)
  forked_first (by_none table even none) e = absurd (omega arith)

  -- also where it is handed on
  pub placed_exactly :
      {number : ℕ} {at : Place} → (number ≡ 10) ↔ (check_refusal t ≡ 10) → at ≡ check_place t → PlacedExactly t number at
  placed_exactly same e =
      record {
        forks = λ ten. rw e (forked_first (check_cases t) (same.0 ten));
        none = λ other. e ∙ no_fork_place t (λ ten. other (same.1 ten));
      }

-- THE ANSWER IN NUMBERS
answer_number : (number : ℕ) (p : Place) → (as_check_answer (as_checked number p)).number ≡ number
unfolding as_check_answer as_checked
answer_number zero p = refl
answer_number (suc r) p = refl

answer_place : (number : ℕ) (p : Place) → (number ≡ 0 → p ≡ no_place) → (as_check_answer (as_checked number p)).place ≡ p
unfolding as_check_answer as_checked
answer_place zero p none = sym (none refl)
answer_place (suc r) p none = refl

pub check_demand : CheckDemand
unfolding CheckDemand checked
check_demand t r e =
    let number = ap (λ (x : CheckAnswer). x.number) e ∙ answer_number (check_refusal t) (check_place t) in
    let place =
    ap (λ (x : CheckAnswer). x.place) e
    ∙ answer_place (check_refusal t) (check_place t) (passed_no_place t) in
    let case = check_cases t in
    record {
      table = rw number (by_its_table t case);
      forked = rw number (by_its_fork t case);
      passed = rw number (by_no_fork t case);
      no_other = rw number (check_most t);
      place = placed_exactly t (rw number ((λ ten. ten), (λ ten. ten))) place;
    }
