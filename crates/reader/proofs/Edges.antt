-- On a table that passes refusals 2 to 9 a reader reads a state's edges, all of them and nothing else, and stands at the end after that. Assumes nothing.
use native.Mathlib.Omega.{arith}
use mathlib.Core.Path.{◌≡◌, refl, sym, ◌∙◌, ap}
use mathlib.Core.Bool.{Bool, true, false, ◌||◌}
use mathlib.Core.List.{List}
use mathlib.Core.Logic.{inl, inr}
use Prim.Native.Nat.{ℕ, zero, suc, ◌+◌, ◌≤◌, ◌<◌}
use Rattle.basics.specs.Bounded.{any}
use Rattle.basics.proofs.Booleans.{either, ne_eqb}
use Rattle.basics.proofs.Bounded.{any_front}
use Rattle.tables.specs.Table.{Limits, n_of, m_of, head_of, chain_has, edge, table_refusal}
use Rattle.tables.proofs.Laws.{Valid, valid}
use Rattle.std.specs.Prelude.{None}
use Rattle.reader.specs.Chain.{is_record, item_at, record_after, head_record, chain_length, records_in_chain, record_nth, reads}
use Rattle.reader.proofs.Chain_laws.{record_yes, record_from, record_to, after_record, first_head, no_edge}
use Rattle.reader.proofs.Counting.{length_more, length_none}

-- ALONG A CHAIN
module _ (t : List ℕ) where
  -- the chain has what is read here, and what it has after this record
  has_more : (f x c q : ℕ) → is_record t x ≡ true → chain_has (suc f) t x c q ≡ (reads (item_at t x) c q || chain_has f t (record_after t x) c q)
  unfolding chain_has reads item_at
  has_more f x c q e =
      let some = record_from t x e in
      let far : (x ≡ 0) → ⊥ = λ z. omega arith in
      rw (after_record t x e, e, ne_eqb x 0 far) refl

  -- the same of the readings
  abbrev Read : (c q x i : ℕ) → Bool
  Read c q x i = reads (item_at t (record_nth i t x)) c q

  read_more : (f x c q : ℕ) → is_record t x ≡ true
      → any (chain_length (suc f) t x) (Read c q x) ≡ (reads (item_at t x) c q || any (chain_length f t (record_after t x)) (Read c q (record_after t x)))
  unfolding record_nth
  read_more f x c q e = ap (λ (k : ℕ). any k (Read c q x)) (length_more f t x e) ∙ any_front (chain_length f t (record_after t x)) (Read c q x)

  -- no record at zero, and none without fuel
  none_at_zero : (f c q : ℕ) → chain_has f t 0 c q ≡ any (chain_length f t 0) (Read c q 0)
  unfolding chain_has chain_length any is_record
  none_at_zero zero c q = refl
  none_at_zero (suc f) c q = refl

  none_unfuelled : (x c q : ℕ) → chain_has 0 t x c q ≡ any (chain_length 0 t x) (Read c q x)
  unfolding chain_has chain_length any
  none_unfuelled x c q = refl

  -- where there is no record, a reader stays
  at_end : (f x : ℕ) → is_record t x ≡ false → is_record t (record_nth (chain_length f t x) t x) ≡ false
  unfolding record_nth
  at_end f x e = rw (length_none f t x e) e

  -- one step on
  one_on : (f x : ℕ) → is_record t x ≡ true → record_nth (chain_length (suc f) t x) t x ≡ record_nth (chain_length f t (record_after t x)) t (record_after t x)
  unfolding record_nth
  one_on f x e = rw (length_more f t x e) refl

  module _ (r : Limits) (v : Valid r t) where
    after_within : (x : ℕ) → is_record t x ≡ true → record_after t x ≤ m_of t
    after_within x e = rw (after_record t x e) (v.next x (record_from t x e) (record_to t x e))

    -- from a record number within m, the readings are what the chain has
    chain_reads : (f x c q : ℕ) → x ≤ m_of t → chain_has f t x c q ≡ any (chain_length f t x) (Read c q x)
    chain_reads zero x c q l = none_unfuelled x c q
    chain_reads (suc f) zero c q l = none_at_zero (suc f) c q
    chain_reads (suc f) (suc y) c q l =
        let some : 1 ≤ suc y = omega arith in
        let e = record_yes t (suc y) some l in
        has_more f (suc y) c q e ∙ (ap (λ (b : Bool). reads (item_at t (suc y)) c q || b) (chain_reads f (record_after t (suc y)) c q (after_within (suc y) e)) ∙ sym (read_more f (suc y) c q e))

    -- with fuel enough, a chain ends
    rises_after : (x : ℕ) → is_record t x ≡ true → 1 ≤ record_after t x → x < record_after t x
    rises_after x e o = elim (v.rises x (record_from t x e) (record_to t x e)) [ inl z ↦ absurd (let a = after_record t x e in omega arith) | inr l ↦ rw (after_record t x e) l ]

    chain_ends : (f x : ℕ) → (1 ≤ x → m_of t < f + x) → is_record t (record_nth (chain_length f t x) t x) ≡ false
    chain_ends zero x enough = elim (either (is_record t x)) [ inl e ↦ absurd (let o = record_from t x e in let l = record_to t x e in let m = enough o in omega arith) | inr e ↦ at_end 0 x e ]
    chain_ends (suc f) x enough =
        elim (either (is_record t x)) [
          | inl e ↦
              rw (one_on f x e) (chain_ends f (record_after t x) (λ o. let l = rises_after x e o in let m = enough (record_from t x e) in omega arith))
          | inr e ↦ at_end (suc f) x e
        ]

-- THE READER READS EXACTLY THE EDGES OF A STATE: in a table that is not refused, p has an edge on letter c to q
-- if and only if one of the readings from p's head on, as many as `count_records` counts, is that letter and target
pub reader_reads : (r : Limits) (t : List ℕ) → table_refusal r t ≡ 0 → (p : ℕ) → p < n_of t → (c q : ℕ)
    → edge t p c q ≡ any (records_in_chain t p) (λ i. reads (item_at t (record_nth i t (head_record t p))) c q)
unfolding edge records_in_chain
reader_reads r t ok p l c q =
    let v = valid r t ok in
    let first = first_head t p l in
    rw first (chain_reads t r v (m_of t) (head_of t p) c q (v.head p l))

-- AND NO EDGE IS LEFT: after that many steps the reader is at the end
pub reader_ends : (r : Limits) (t : List ℕ) → table_refusal r t ≡ 0 → (p : ℕ)
    → item_at t (record_nth (records_in_chain t p) t (head_record t p)) ≡ None
unfolding records_in_chain
reader_ends r t ok p = no_edge t _ (chain_ends t r (valid r t ok) (m_of t) (head_record t p) (λ o. omega arith))
