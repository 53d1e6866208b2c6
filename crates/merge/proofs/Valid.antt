-- The merged words of two tables with as many letters are a table in every range that has room for both. Assumes nothing.
use mathlib.Core.Path.{◌≡◌}
use mathlib.Core.List.{List}
use mathlib.Core.Logic.{◌⊎◌, inl, inr}
use Prim.Native.Nat.{ℕ, suc, ◌+◌, ◌≤◌, ◌<◌}
use native.Mathlib.Nat.{zero-add, add-suc}
use native.Mathlib.Omega.{arith}
use lib.Dec.{eqb}
use Rattle.basics.specs.Bounded.{count}
use Rattle.basics.proofs.Bounded.{count_same}
use Rattle.basics.proofs.Counting.{count_none, count_split}
use Rattle.basics.proofs.Upward.{below_sum, to_sum}
use Rattle.tables.specs.Table.{Limits, n_of, k_of, m_of, flags_of, head_of, letter_of, target_of, next_of, named, table_refusal}
use Rattle.tables.proofs.Laws.{Valid, valid, valid_passes}
use Rattle.merge.specs.Merged.{merged_words}
use Rattle.merge.proofs.Links.{link_most, link_rises, link_names, link_names_none}
use Rattle.merge.proofs.Words.{Part, merged_n, merged_k, merged_m, merged_length, merged_first, merged_second, first_flags, first_head, first_letter, first_target, first_next}

-- how often a part's heads and nexts name a record
abbrev named_by : (n m : ℕ) (t w : List ℕ) (x : ℕ) → ℕ
named_by n m t w x =
    count (n_of t) (λ q. eqb (head_of w (n + q)) x) + count (m_of t) (λ i. eqb (next_of w (m + suc i)) x)

module _ {n m : ℕ} {t w : List ℕ} (p : Part n m t w) where
  -- one of its own as often as its table does
  named_own : (x : ℕ) → 1 ≤ x → named_by n m t w (m + x) ≡ named t x
  unfolding named
  named_own x o =
      let heads =
      count_same (n_of t) (λ q. eqb (head_of w (n + q)) (m + x)) (λ q. eqb (head_of t q) x)
      (λ q l. rw (p.head q l) (link_names m x (head_of t q) o)) in
      let nexts =
      count_same (m_of t) (λ i. eqb (next_of w (m + suc i)) (m + x)) (λ i. eqb (next_of t (suc i)) x)
      (λ i l. rw (p.next (suc i) (omega arith) l) (link_names m x (next_of t (suc i)) o)) in
      omega arith

  -- and no other
  named_other : {r : Limits} → Valid r t → (x : ℕ) → 1 ≤ x → (x ≤ m) ⊎ (m + m_of t < x) → named_by n m t w x ≡ 0
  named_other v x o out =
      let heads =
      count_none (n_of t) (λ q. eqb (head_of w (n + q)) x)
      (λ q l. rw (p.head q l) (link_names_none m x (head_of t q) (m_of t) o (v.head q l) out)) in
      let nexts =
      count_none (m_of t) (λ i. eqb (next_of w (m + suc i)) x)
      (λ i l.
      rw (p.next (suc i) (omega arith) l)
      (link_names_none m x (next_of t (suc i)) (m_of t) o (v.next (suc i) (omega arith) l) out)) in
      omega arith

-- a record of the merged words is named by the first part and by the second
named_both :
    (t s : List ℕ) (x : ℕ) →
    named (merged_words t s) x ≡ named_by 0 0 t (merged_words t s) x + named_by (n_of t) (m_of t) s (merged_words t s) x
unfolding named
named_both t s x =
    let w = merged_words t s in
    let heads = count_split (n_of t) (n_of s) (λ q. eqb (head_of w q) x) in
    let nexts = count_split (m_of t) (m_of s) (λ i. eqb (next_of w (suc i)) x) in
    let first =
    count_same (n_of t) (λ q. eqb (head_of w q) x) (λ q. eqb (head_of w (0 + q)) x) (λ q l. rw (zero-add q)) in
    let first' =
    count_same (m_of t) (λ i. eqb (next_of w (suc i)) x) (λ i. eqb (next_of w (0 + suc i)) x) (λ i l. rw (zero-add (suc i))) in
    let second' =
    count_same (m_of s) (λ i. eqb (next_of w (suc (m_of t + i))) x) (λ i. eqb (next_of w (m_of t + suc i)) x)
    (λ i l. rw (add-suc (m_of t) i)) in
    rw (merged_n t s, merged_m t s) (omega arith)

module _ {r r' : Limits} {t s : List ℕ} (v : Valid r t) (u : Valid r' s) where
  -- so it is named once
  merged_once : (x : ℕ) → 1 ≤ x → x ≤ m_of t + m_of s → named (merged_words t s) x ≡ 1
  merged_once =
      to_sum (m_of t) (m_of s) (λ x. named (merged_words t s) x ≡ 1)
      (λ x o l.
      let both = named_both t s x in
      let own : named_by 0 0 t (merged_words t s) x ≡ named t x = rw (zero-add x) at (named_own (merged_first t s) x o) in
      let other = named_other (merged_second t s) u x o (inl l) in
      let once = v.once x o l in omega arith)
      (λ x o l.
      let both = named_both t s (m_of t + x) in
      let own = named_own (merged_second t s) x o in
      let far : 0 + m_of t < m_of t + x = omega arith in
      let other = named_other (merged_first t s) v (m_of t + x) (omega arith) (inr far) in
      let once = u.once x o l in omega arith)

  merged_is_valid :
      (range : Limits) → k_of t ≡ k_of s → n_of t + n_of s ≤ range.states → m_of t + m_of s ≤ range.records →
      Valid range (merged_words t s)
  merged_is_valid range same states records =
      let w = merged_words t s in
      let b = merged_second t s in
      let n = merged_n t s in
      let k = merged_k t s in
      let m = merged_m t s in
      let n₁ = v.states_from in
      let k₁ = v.letters_from in
      let k₂ = v.letters_to in
      record {
        states_from = omega arith;
        states_to = omega arith;
        letters_from = omega arith;
        letters_to = omega arith;
        records_to = omega arith;
        whole = rw (n, m) (merged_length t s);
        flags =
            rw n
            (below_sum (n_of t) (n_of s) (λ q. flags_of w q ≤ 3)
            (λ q l. rw (first_flags t s q l) (v.flags q l))
            (λ q l. rw (b.flags q l) (u.flags q l)));
        letter =
            rw (m, k)
            (to_sum (m_of t) (m_of s) (λ x. letter_of w x < k_of t)
            (λ x o l. rw (first_letter t s x o l) (v.letter x o l))
            (λ x o l. rw (b.letter x o l, same) (u.letter x o l)));
        target =
            rw (m, n)
            (to_sum (m_of t) (m_of s) (λ x. target_of w x < n_of t + n_of s)
            (λ x o l. let h = v.target x o l in rw (first_target t s x o l) (omega arith))
            (λ x o l. let h = u.target x o l in rw (b.target x o l) (omega arith)));
        head =
            rw (n, m)
            (below_sum (n_of t) (n_of s) (λ q. head_of w q ≤ m_of t + m_of s)
            (λ q l. let h = v.head q l in rw (first_head t s q l) (omega arith))
            (λ q l. rw (b.head q l) (link_most (m_of t) (head_of s q) (m_of s) (u.head q l))));
        next =
            rw m
            (to_sum (m_of t) (m_of s) (λ x. next_of w x ≤ m_of t + m_of s)
            (λ x o l. let h = v.next x o l in rw (first_next t s x o l) (omega arith))
            (λ x o l. rw (b.next x o l) (link_most (m_of t) (next_of s x) (m_of s) (u.next x o l))));
        rises =
            rw m
            (to_sum (m_of t) (m_of s) (λ x. (next_of w x ≡ 0) ⊎ (x < next_of w x))
            (λ x o l. rw (first_next t s x o l) (v.rises x o l))
            (λ x o l. rw (b.next x o l) (link_rises (m_of t) x (next_of s x) (u.rises x o l))));
        once = rw m merged_once;
      }

-- THE MERGED WORDS ARE A TABLE: no refusal of 2 to 9 holds of them
pub merged_valid :
    (r r' range : Limits) (t s : List ℕ) → table_refusal r t ≡ 0 → table_refusal r' s ≡ 0 → k_of t ≡ k_of s →
    n_of t + n_of s ≤ range.states → m_of t + m_of s ≤ range.records → table_refusal range (merged_words t s) ≡ 0
merged_valid r r' range t s p q same states records =
    valid_passes range (merged_words t s) (merged_is_valid (valid r t p) (valid r' s q) range same states records)
