-- The chained words of edges in the order of their sources pass refusals 2 to 9 of every range that has room for them. Assumes nothing.
use mathlib.Core.Path.{◌≡◌}
use mathlib.Core.List.{List}
use mathlib.Core.Logic.{◌⊎◌, inl, inr}
use Prim.Native.Nat.{ℕ, suc, ◌≤◌, ◌<◌}
use native.Mathlib.Omega.{arith}
use lib.Dec.{eqb}
use lib.ListN.{length}
use Rattle.basics.proofs.Bounded.{count_same}
use Rattle.basics.proofs.Upward.{from_one}
use Rattle.automata.specs.Automaton.{Automaton}
use Rattle.automata.specs.System.{Edge}
use Rattle.tables.specs.Table.{most_letters, Limits, head_of, letter_of, target_of, next_of, named, table_refusal}
use Rattle.tables.proofs.Flags.{flags_small}
use Rattle.tables.proofs.Laws.{Valid, valid_passes}
use Rattle.layout.specs.Chained.{first_record, next_record, flags_word, chained_words}
use Rattle.layout.specs.Orderly.{Orderly}
use Rattle.layout.proofs.Firsts.{absent, first_at, first_is, ends, goes_on, next_is, named_once}
use Rattle.layout.proofs.Indexed.{Indexed, indexed_n, indexed_k, indexed_m, indexed_flags, indexed_head, indexed_letter, indexed_target, indexed_next, chained_indexed}
use Rattle.layout.proofs.Words.{chained_length}

head_small : (i : ℕ) (es : List Edge) → first_record i es ≤ length es
head_small i es = elim (first_is i es) [ absent z before ↦ omega arith | first_at e z l h before ↦ omega arith ]

next_small : (es : List Edge) (r : ℕ) → next_record es r ≤ length es
next_small es r = elim (next_is es r) [ ends z stop ↦ omega arith | goes_on z l h ↦ omega arith ]

next_rises : (es : List Edge) (r : ℕ) → (next_record es r ≡ 0) ⊎ (suc r < next_record es r)
next_rises es r = elim (next_is es r) [ ends z stop ↦ inl z | goes_on z l h ↦ inr (omega arith) ]

module _ (l : Limits) (a : Automaton) (es : List Edge) (o : Orderly a es) where
  laid : Indexed a es (chained_words a es)
  laid = chained_indexed a es

  chained_once : (r : ℕ) → r < length es → named (chained_words a es) (suc r) ≡ 1
  unfolding named
  chained_once r m =
      let t = chained_words a es in
      let heads =
      count_same a.states (λ q. eqb (head_of t q) (suc r)) (λ q. eqb (first_record q es) (suc r))
      (λ q i. let e = indexed_head laid q i in cc) in
      let nexts =
      count_same (length es) (λ i. eqb (next_of t (suc i)) (suc r)) (λ i. eqb (next_record es i) (suc r))
      (λ i j. let e = indexed_next laid i j in cc) in
      rw (indexed_n laid, indexed_m laid, heads, nexts) (named_once o r m)

  pub chained_is_valid :
      1 ≤ a.states → a.states ≤ l.states → 1 ≤ a.letters → a.letters ≤ most_letters → length es ≤ l.records →
      Valid l (chained_words a es)
  unfolding flags_word
  chained_is_valid n₁ n₂ k₁ k₂ m₁ =
      let t = chained_words a es in
      let n = indexed_n laid in
      let k = indexed_k laid in
      let m = indexed_m laid in
      record {
        states_from = omega arith;
        states_to = omega arith;
        letters_from = omega arith;
        letters_to = omega arith;
        records_to = omega arith;
        whole = rw (n, m) (chained_length a es);
        flags = λ q h. rw (indexed_flags laid q (rw n at h)) (flags_small (a.initial q) (a.accepting q));
        letter =
            rw (m, k)
            (from_one (length es) (λ x. letter_of t x < a.letters) (λ r h. rw (indexed_letter laid r h) (o.letter r h)));
        target =
            rw (m, n)
            (from_one (length es) (λ x. target_of t x < a.states) (λ r h. rw (indexed_target laid r h) (o.target r h)));
        head = λ q h. rw (indexed_head laid q (rw n at h), m) (head_small q es);
        next = rw m (from_one (length es) (λ x. next_of t x ≤ length es) (λ r h. rw (indexed_next laid r h) (next_small es r)));
        rises =
            rw m
            (from_one (length es) (λ x. (next_of t x ≡ 0) ⊎ (x < next_of t x))
            (λ r h. rw (indexed_next laid r h) (next_rises es r)));
        once = rw m (from_one (length es) (λ x. named t x ≡ 1) chained_once);
      }

  -- THE WORDS ARE A TABLE: no refusal of 2 to 9 holds of them
  pub chained_valid :
      1 ≤ a.states → a.states ≤ l.states → 1 ≤ a.letters → a.letters ≤ most_letters → length es ≤ l.records →
      table_refusal l (chained_words a es) ≡ 0
  chained_valid n₁ n₂ k₁ k₂ m₁ = valid_passes l (chained_words a es) (chained_is_valid n₁ n₂ k₁ k₂ m₁)
