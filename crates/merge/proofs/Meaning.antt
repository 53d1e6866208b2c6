-- The merged words of two tables mean the disjoint union of what these mean. Assumes nothing.
use mathlib.Core.Path.{◌≡◌, refl}
use mathlib.Core.Bool.{Bool, true, false, ◌&&◌}
use mathlib.Core.List.{List}
use mathlib.Core.Logic.{inl, inr}
use Prim.Native.Nat.{ℕ, ◌+◌, ◌-◌, ◌%◌, ◌<◌}
use native.Mathlib.Nat.{zero-add}
use native.Mathlib.Omega.{arith}
use lib.Dec.{ltb, leb, eqb}
use Rattle.basics.specs.Joined.{numbered_on}
use Rattle.basics.proofs.Booleans.{and_false_r, not_both, lt_ltb, ge_ltb, le_leb, gt_leb, below_or, below_on}
use Rattle.basics.proofs.Joined.{on_first, on_behind}
use Rattle.basics.proofs.Upward.{either_side}
use Rattle.automata.specs.Automaton.{Same}
use Rattle.automata.specs.Union.{union_edge, disjoint_union}
use Rattle.tables.specs.Table.{Limits, n_of, flags_of, is_initial, is_accepting, edge, meaning}
use Rattle.tables.proofs.Laws.{Valid}
use Rattle.merge.specs.Merged.{merged_words}
use Rattle.merge.proofs.Chains.{edge_on, edge_inside}
use Rattle.merge.proofs.Words.{merged_n, merged_k, merged_m, merged_first, merged_second, first_flags}

-- what a test says of the flags of each state; it holds of no other number
abbrev flags_test : (test : ℕ → Bool) (t : List ℕ) (q : ℕ) → Bool
flags_test test t q = ltb q (n_of t) && test (flags_of t q)

module _ (t s : List ℕ) where
  -- the flags are those of the first, then those of the second
  merged_flags :
      (test : ℕ → Bool) (q : ℕ) →
      flags_test test (merged_words t s) q ≡ numbered_on (n_of t) (flags_test test t) (flags_test test s) q
  merged_flags test =
      let n = n_of t in
      let n' = n_of s in
      let f = flags_test test t in
      let g = flags_test test s in
      either_side n (λ q. flags_test test (merged_words t s) q ≡ numbered_on n f g q)
      (λ q l.
      let low : ltb q (n + n') ≡ true = lt_ltb {m = q} {n = n + n'} (omega arith) in
      let own : ltb q n ≡ true = lt_ltb l in
      rw (merged_n t s, on_first n f g q l, first_flags t s q l, low, own))
      (λ q.
      rw (merged_n t s, on_behind n f g q, below_on n q n')
      (elim (below_or q n') [
        | inl l ↦ rw ((merged_second t s).flags q l)
        | inr l ↦ let out : ltb q n' ≡ false = ge_ltb l in cc
      ]))

  module _ {r r' : Limits} (v : Valid r t) (u : Valid r' s) where
    -- an edge from a state of the first, and one from a state of the second
    edge_first :
        (p c q : ℕ) → p < n_of t →
        ((ltb p (n_of t + n_of s) && ltb q (n_of t + n_of s)) && edge (merged_words t s) p c q)
        ≡ (ltb q (n_of t) && ((ltb p (n_of t) && ltb q (n_of t)) && edge t p c q))
    edge_first p c q l =
        let w = merged_words t s in
        let n = n_of t in
        let n' = n_of s in
        let m = merged_m t s in
        elim (below_or q n) [
          | inl k ↦
              let e : edge w p c q ≡ edge t p c q =
              rw (zero-add p, zero-add q) at (edge_on v (merged_first t s) p c q l (omega arith)) in
              let low : ltb p (n + n') ≡ true = lt_ltb {m = p} {n = n + n'} (omega arith) in
              let low' : ltb q (n + n') ≡ true = lt_ltb {m = q} {n = n + n'} (omega arith) in
              let own : ltb p n ≡ true = lt_ltb l in
              let own' : ltb q n ≡ true = lt_ltb k in cc
          | inr k ↦
              let out : ltb q n ≡ false = ge_ltb k in
              let none : edge w p c q ≡ false =
              not_both (edge w p c q) (λ h. let i = edge_inside v (merged_first t s) p c q l (rw (zero-add p) h) in omega arith) in
              let no = and_false_r (ltb p (n + n') && ltb q (n + n')) none in cc
        ]

    edge_second :
        (p c q : ℕ) → p < n_of s →
        ((ltb (n_of t + p) (n_of t + n_of s) && ltb q (n_of t + n_of s)) && edge (merged_words t s) (n_of t + p) c q)
        ≡ (leb (n_of t) q && ((ltb p (n_of s) && ltb (q - n_of t) (n_of s)) && edge s p c (q - n_of t)))
    edge_second p c q₀ l =
        let w = merged_words t s in
        let n = n_of t in
        let n' = n_of s in
        let m = merged_m t s in
        let low = below_on n p n' in
        let own : ltb p n' ≡ true = lt_ltb l in
        either_side n
        (λ q.
        ((ltb (n + p) (n + n') && ltb q (n + n')) && edge w (n + p) c q)
        ≡ (leb n q && ((ltb p n' && ltb (q - n) n') && edge s p c (q - n))))
        (λ q k.
        let out : leb n q ≡ false = gt_leb k in
        let none : edge w (n + p) c q ≡ false =
        not_both (edge w (n + p) c q) (λ h. let i = edge_inside u (merged_second t s) p c q l h in omega arith) in
        let no = and_false_r (ltb (n + p) (n + n') && ltb q (n + n')) none in cc)
        (λ q.
        let back : n + q - n ≡ q = omega arith in
        let above : leb n (n + q) ≡ true = le_leb {m = n} {n = n + q} (omega arith) in
        let inside = below_on n q n' in
        let e = edge_on u (merged_second t s) p c q l (omega arith) in cc)
        q₀

    merged_edge : (p c q : ℕ) → (meaning (merged_words t s)).edge p c q ≡ union_edge (meaning t) (meaning s) p c q
    unfolding meaning union_edge
    merged_edge p₀ c q =
        let w = merged_words t s in
        let n = n_of t in
        let n' = n_of s in
        let f : ℕ → Bool = λ p. ltb q n && ((ltb p n && ltb q n) && edge t p c q) in
        let g : ℕ → Bool = λ p. leb n q && ((ltb p n' && ltb (q - n) n') && edge s p c (q - n)) in
        either_side n (λ p. ((ltb p (n_of w) && ltb q (n_of w)) && edge w p c q) ≡ numbered_on n f g p)
        (λ p l. rw (merged_n t s, on_first n f g p l) (edge_first p c q l))
        (λ p.
        rw (merged_n t s, on_behind n f g p)
        (elim (below_or p n') [
          | inl l ↦ edge_second p c q l
          | inr l ↦
              let far = below_on n p n' in
              let out : ltb p n' ≡ false = ge_ltb l in
              let no : (leb n q && false) ≡ false = and_false_r (leb n q) refl in cc
        ]))
        p₀

    -- THE MERGED WORDS MEAN THE UNION
    pub merged_meaning : Same (meaning (merged_words t s)) (disjoint_union (meaning t) (meaning s))
    unfolding meaning disjoint_union is_initial is_accepting
    merged_meaning =
        record {
          states = merged_n t s;
          letters = merged_k t s;
          initial = merged_flags (λ x. eqb (x % 2) 1);
          accepting = merged_flags (λ x. leb 2 x);
          edge = merged_edge;
        }
