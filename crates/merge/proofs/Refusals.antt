-- Refusals of a merge: each where it is met and none before it is; which is met; and what holds where none is. Assumes nothing.
use mathlib.Core.Path.{◌≡◌, sym, ◌∙◌}
use mathlib.Core.List.{List}
use mathlib.Core.Logic.{◌⊎◌, ◌↔◌, inl, inr}
use Prim.Native.Nat.{ℕ, ◌+◌, ◌≤◌, ◌<◌}
use native.Mathlib.Omega.{arith}
use Rattle.basics.proofs.Booleans.{eq_eqb, ne_eqb, lt_ltb, ge_ltb, same_or, below_or}
use Rattle.basics.proofs.Refusing.{or_else_first, or_else_second}
use Rattle.tables.specs.Table.{Limits, pattern_range, n_of, k_of, m_of}
use Rattle.patterns.specs.Check.{check_refusal}
use Rattle.patterns.proofs.Answers.{check_most}
use Rattle.merge.specs.Merge.{merged_size, pair_refusal, merge_refusal, BothPass, SameLetters, FewStates, FewRecords}

-- 19 TO 22, each where those before it are not met
module _ (r : Limits) (t s : List ℕ) (w : ℕ) where
  pub letters_differ : (k_of t ≡ k_of s → ⊥) → 19 ≡ pair_refusal r t s w
  unfolding pair_refusal
  letters_differ other = rw (ne_eqb (k_of t) (k_of s) other)

  module _ (letters : k_of t ≡ k_of s) where
    pub many_states : r.states < n_of t + n_of s → 20 ≡ pair_refusal r t s w
    unfolding pair_refusal
    many_states l = rw (eq_eqb letters, lt_ltb l)

    module _ (few : n_of t + n_of s ≤ r.states) where
      pub many_records : r.records < m_of t + m_of s → 21 ≡ pair_refusal r t s w
      unfolding pair_refusal
      many_records l = rw (eq_eqb letters, ge_ltb few, lt_ltb l)

      module _ (fewer : m_of t + m_of s ≤ r.records) where
        pub few_words : w < merged_size t s → 22 ≡ pair_refusal r t s w
        unfolding pair_refusal
        few_words l = rw (eq_eqb letters, ge_ltb few, ge_ltb fewer, lt_ltb l)

        pub none_met : merged_size t s ≤ w → 0 ≡ pair_refusal r t s w
        unfolding pair_refusal
        none_met l = rw (eq_eqb letters, ge_ltb few, ge_ltb fewer, ge_ltb l)

-- BEHIND THE CHECKS of both tables
module _ (t s : List ℕ) (w : ℕ) where
  pub refused_first : (check_refusal t ≡ 0 → ⊥) → check_refusal t ≡ merge_refusal t s w
  unfolding merge_refusal
  refused_first met = sym (or_else_first (check_refusal t) _ met)

  module _ (passes : check_refusal t ≡ 0) where
    pub refused_second : (check_refusal s ≡ 0 → ⊥) → check_refusal s ≡ merge_refusal t s w
    unfolding merge_refusal
    refused_second met = sym (or_else_second (check_refusal t) _ passes ∙ or_else_first (check_refusal s) _ met)

    pub refused_pair : check_refusal s ≡ 0 → pair_refusal pattern_range t s w ≡ merge_refusal t s w
    unfolding merge_refusal
    refused_pair passes' = sym (or_else_second (check_refusal t) _ passes ∙ or_else_second (check_refusal s) _ passes')

-- WHICH CASE IS MET, with the number that is answered
data MergeCase (t s : List ℕ) (w : ℕ) : Type 0 where
  of_first : (check_refusal t ≡ 0 → ⊥) → merge_refusal t s w ≡ check_refusal t → MergeCase t s w
  of_second : check_refusal t ≡ 0 → (check_refusal s ≡ 0 → ⊥) → merge_refusal t s w ≡ check_refusal s → MergeCase t s w
  of_letters : BothPass t s → (k_of t ≡ k_of s → ⊥) → merge_refusal t s w ≡ 19 → MergeCase t s w
  of_states : SameLetters t s → pattern_range.states < n_of t + n_of s → merge_refusal t s w ≡ 20 → MergeCase t s w
  of_records : FewStates t s → pattern_range.records < m_of t + m_of s → merge_refusal t s w ≡ 21 → MergeCase t s w
  of_words : FewRecords t s → w < merged_size t s → merge_refusal t s w ≡ 22 → MergeCase t s w
  of_none : FewRecords t s → merged_size t s ≤ w → merge_refusal t s w ≡ 0 → MergeCase t s w

module _ (t s : List ℕ) (w : ℕ) where
  -- the number where both checks have passed
  by_pair : BothPass t s → {k : ℕ} → k ≡ pair_refusal pattern_range t s w → merge_refusal t s w ≡ k
  by_pair (passes, passes') e = sym (e ∙ refused_pair t s w passes passes')

  by_letters : BothPass t s → (k_of t ≡ k_of s → ⊥) → merge_refusal t s w ≡ 19
  by_letters both other = by_pair both (letters_differ pattern_range t s w other)

  by_states : SameLetters t s → pattern_range.states < n_of t + n_of s → merge_refusal t s w ≡ 20
  by_states (both, letters) many = by_pair both (many_states pattern_range t s w letters many)

  by_records : FewStates t s → pattern_range.records < m_of t + m_of s → merge_refusal t s w ≡ 21
  by_records ((both, letters), few) many = by_pair both (many_records pattern_range t s w letters few many)

  by_words : FewRecords t s → w < merged_size t s → merge_refusal t s w ≡ 22
  by_words (((both, letters), few), fewer) short = by_pair both (few_words pattern_range t s w letters few fewer short)

  by_none : FewRecords t s → merged_size t s ≤ w → merge_refusal t s w ≡ 0
  by_none (((both, letters), few), fewer) room = by_pair both (none_met pattern_range t s w letters few fewer room)

  pair_cases : BothPass t s → MergeCase t s w
  pair_cases both =
      elim (same_or (k_of t) (k_of s)) [
        | inr other ↦ of_letters both other (by_letters both other)
        | inl letters ↦
            let same : SameLetters t s = (both, letters) in
            elim (below_or pattern_range.states (n_of t + n_of s)) [
              | inl many ↦ of_states same many (by_states same many)
              | inr few ↦
                  let states : FewStates t s = (same, few) in
                  elim (below_or pattern_range.records (m_of t + m_of s)) [
                    | inl many ↦ of_records states many (by_records states many)
                    | inr fewer ↦
                        let records : FewRecords t s = (states, fewer) in
                        elim (below_or w (merged_size t s)) [
                          | inl short ↦ of_words records short (by_words records short)
                          | inr room ↦ of_none records room (by_none records room)
                        ]
                  ]
            ]
      ]

  merge_cases : MergeCase t s w
  merge_cases =
      elim (same_or (check_refusal t) 0) [
        | inr met ↦ of_first met (sym (refused_first t s w met))
        | inl passes ↦
            elim (same_or (check_refusal s) 0) [
              | inr met ↦ of_second passes met (sym (refused_second t s w passes met))
              | inl passes' ↦ pair_cases (passes, passes')
            ]
      ]

  -- EACH REFUSAL in its case and in no other
  pub check_right :
      (k : ℕ) → 1 ≤ k → k ≤ 10 →
      (merge_refusal t s w ≡ k) ↔ ((check_refusal t ≡ k) ⊎ ((check_refusal t ≡ 0) × (check_refusal s ≡ k)))
  check_right k from to = (
    (λ e.
        elim merge_cases [
          | of_first met at ↦ inl (sym at ∙ e)
          | of_second passes met at ↦ inr (passes, sym at ∙ e)
          | of_letters both other at ↦ absurd (omega arith)
          | of_states same many at ↦ absurd (omega arith)
          | of_records few many at ↦ absurd (omega arith)
          | of_words few short at ↦ absurd (omega arith)
          | of_none few room at ↦ absurd (omega arith)
        ]),
    (λ h.
        elim h [
          | inl e ↦ sym (refused_first t s w (λ none. omega arith)) ∙ e
          | inr (passes, e) ↦ sym (refused_second t s w passes (λ none. omega arith)) ∙ e
        ]),
  )

  -- a number above 10 is none of a check's
  module _ (k : ℕ) (far : 10 < k) (e : merge_refusal t s w ≡ k) where
    no_first : merge_refusal t s w ≡ check_refusal t → ⊥
    no_first at = let most = check_most t in omega arith

    no_second : merge_refusal t s w ≡ check_refusal s → ⊥
    no_second at = let most = check_most s in omega arith

  pub letters_right : (merge_refusal t s w ≡ 19) ↔ (BothPass t s × (k_of t ≡ k_of s → ⊥))
  letters_right = (
    (λ e.
        elim merge_cases [
          | of_first met at ↦ absurd (no_first 19 (omega arith) e at)
          | of_second passes met at ↦ absurd (no_second 19 (omega arith) e at)
          | of_letters both other at ↦ (both, other)
          | of_states same many at ↦ absurd (omega arith)
          | of_records few many at ↦ absurd (omega arith)
          | of_words few short at ↦ absurd (omega arith)
          | of_none few room at ↦ absurd (omega arith)
        ]),
    (λ (both, other). by_letters both other),
  )

  pub states_right : (merge_refusal t s w ≡ 20) ↔ (SameLetters t s × (pattern_range.states < n_of t + n_of s))
  states_right = (
    (λ e.
        elim merge_cases [
          | of_first met at ↦ absurd (no_first 20 (omega arith) e at)
          | of_second passes met at ↦ absurd (no_second 20 (omega arith) e at)
          | of_letters both other at ↦ absurd (omega arith)
          | of_states same many at ↦ (same, many)
          | of_records few many at ↦ absurd (omega arith)
          | of_words few short at ↦ absurd (omega arith)
          | of_none few room at ↦ absurd (omega arith)
        ]),
    (λ (same, many). by_states same many),
  )

  pub records_right : (merge_refusal t s w ≡ 21) ↔ (FewStates t s × (pattern_range.records < m_of t + m_of s))
  records_right = (
    (λ e.
        elim merge_cases [
          | of_first met at ↦ absurd (no_first 21 (omega arith) e at)
          | of_second passes met at ↦ absurd (no_second 21 (omega arith) e at)
          | of_letters both other at ↦ absurd (omega arith)
          | of_states same many at ↦ absurd (omega arith)
          | of_records few many at ↦ (few, many)
          | of_words few short at ↦ absurd (omega arith)
          | of_none few room at ↦ absurd (omega arith)
        ]),
    (λ (few, many). by_records few many),
  )

  pub words_right : (merge_refusal t s w ≡ 22) ↔ (FewRecords t s × (w < merged_size t s))
  words_right = (
    (λ e.
        elim merge_cases [
          | of_first met at ↦ absurd (no_first 22 (omega arith) e at)
          | of_second passes met at ↦ absurd (no_second 22 (omega arith) e at)
          | of_letters both other at ↦ absurd (omega arith)
          | of_states same many at ↦ absurd (omega arith)
          | of_records few many at ↦ absurd (omega arith)
          | of_words few short at ↦ (few, short)
          | of_none few room at ↦ absurd (omega arith)
        ]),
    (λ (few, short). by_words few short),
  )

  pub none_right : (merge_refusal t s w ≡ 0) ↔ (FewRecords t s × (merged_size t s ≤ w))
  none_right = (
    (λ e.
        elim merge_cases [
          | of_first met at ↦ absurd (met (sym at ∙ e))
          | of_second passes met at ↦ absurd (met (sym at ∙ e))
          | of_letters both other at ↦ absurd (omega arith)
          | of_states same many at ↦ absurd (omega arith)
          | of_records few many at ↦ absurd (omega arith)
          | of_words few short at ↦ absurd (omega arith)
          | of_none few room at ↦ (few, room)
        ]),
    (λ (few, room). by_none few room),
  )

  pub no_other_number : (merge_refusal t s w ≤ 10) ⊎ ((19 ≤ merge_refusal t s w) × (merge_refusal t s w ≤ 22))
  no_other_number =
      elim merge_cases [
        | of_first met at ↦ let most = check_most t in inl (omega arith)
        | of_second passes met at ↦ let most = check_most s in inl (omega arith)
        | of_letters both other at ↦ inr (omega arith, omega arith)
        | of_states same many at ↦ inr (omega arith, omega arith)
        | of_records few many at ↦ inr (omega arith, omega arith)
        | of_words few short at ↦ inr (omega arith, omega arith)
        | of_none few room at ↦ inl (omega arith)
      ]

-- WHERE NOTHING IS REFUSED
pub record Mergeable (t s : List ℕ) (w : ℕ) : Type 0 where
  pub first : check_refusal t ≡ 0
  pub second : check_refusal s ≡ 0
  pub letters : k_of t ≡ k_of s
  pub states : n_of t + n_of s ≤ pattern_range.states
  pub records : m_of t + m_of s ≤ pattern_range.records
  pub room : merged_size t s ≤ w

pub mergeable : {t s : List ℕ} {w : ℕ} → merge_refusal t s w ≡ 0 → Mergeable t s w
mergeable {t} {s} {w} none =
    let (few, room) = (none_right t s w).0 none in
    let (((both, letters), states), records) = few in
    record { first = both.0; second = both.1; letters = letters; states = states; records = records; room = room }

-- both patterns have passed their checks before
pub paired :
    {t s : List ℕ} {w : ℕ} → check_refusal t ≡ 0 → check_refusal s ≡ 0 → pair_refusal pattern_range t s w ≡ 0 → Mergeable t s w
paired {t} {s} {w} passes passes' none = mergeable (sym (refused_pair t s w passes passes') ∙ none)
