-- The chains of a part of a table are those of its own table, and lead to no state outside the part. Assumes nothing.
use mathlib.Core.Path.{◌≡◌, refl, sym, ◌∙◌}
use mathlib.Core.Bool.{true, false}
use mathlib.Core.List.{List}
use mathlib.Core.Logic.{inl, inr}
use Prim.Native.Nat.{ℕ, zero, suc, ◌+◌, ◌≤◌, ◌<◌}
use native.Mathlib.Omega.{arith}
use lib.Dec.{eqb}
use Rattle.basics.proofs.Booleans.{clash, ne_eqb, same_or, same_on}
use Rattle.tables.specs.Table.{Limits, n_of, m_of, head_of, target_of, next_of, chain_has, edge}
use Rattle.tables.proofs.Laws.{Valid, chain_ends, chain_cases, chain_fuel}
use Rattle.merge.specs.Merged.{link_on}
use Rattle.merge.proofs.Links.{link_cases}
use Rattle.merge.proofs.Words.{Part}

module _ {r : Limits} {t : List ℕ} (v : Valid r t) where
  -- more fuel than records changes nothing, from a head on
  head_fuel : (f p c q : ℕ) → p < n_of t → m_of t ≤ f → chain_has f t (head_of t p) c q ≡ edge t p c q
  unfolding edge
  head_fuel f p c q l enough =
      let small = v.head p l in
      elim (same_or (head_of t p) 0) [
        | inl e ↦ rw e (chain_ends f t c q ∙ sym (chain_ends (m_of t) t c q))
        | inr ne ↦ chain_fuel v f (m_of t) (head_of t p) c q (omega arith) small (omega arith) (omega arith)
      ]

  module _ {n m : ℕ} {w : List ℕ} (part : Part n m t w) where
    -- the chain from a link of the part
    chain_on : (f x c q : ℕ) → x ≤ m_of t → chain_has f w (link_on m x) c (n + q) ≡ chain_has f t x c q
    unfolding chain_has
    chain_on zero x c q l = refl
    chain_on (suc f) x c q l =
        elim (link_cases m x) [
          | inl (e, z) ↦ rw (z, e)
          | inr (o, z) ↦
              let later = chain_on f (next_of t x) c q (v.next x o l) in
              let this : eqb (m + x) 0 ≡ false = ne_eqb (m + x) 0 (λ i. omega arith) in
              let own : eqb x 0 ≡ false = ne_eqb x 0 (λ i. omega arith) in
              let letter = part.letter x o l in
              let target = part.target x o l in
              let next = part.next x o l in
              let same = same_on n (target_of t x) q in cc
        ]

    -- what it has leads to a state of the part
    chain_inside :
        (f x c q : ℕ) → x ≤ m_of t → chain_has f w (link_on m x) c q ≡ true → (n ≤ q) × (q < n + n_of t)
    unfolding chain_has
    chain_inside zero x c q l h = absurd (clash h refl)
    chain_inside (suc f) x c q l h =
        elim (link_cases m x) [
          | inl (e, z) ↦ absurd (clash (rw z at h) (chain_ends (suc f) w c q))
          | inr (o, z) ↦
              elim (chain_cases f w (m + x) c q (rw z at h)).1 [
                | inl (a, b) ↦
                    let at = part.target x o l in
                    let small = v.target x o l in (omega arith, omega arith)
                | inr a ↦ chain_inside f (next_of t x) c q (v.next x o l) (rw (part.next x o l) at a)
              ]
        ]

    -- THE EDGES OF A PART are those of its table, and no others begin there
    pub edge_on : (p c q : ℕ) → p < n_of t → m_of t ≤ m_of w → edge w (n + p) c (n + q) ≡ edge t p c q
    unfolding edge
    edge_on p c q l enough =
        rw (part.head p l) (chain_on (m_of w) (head_of t p) c q (v.head p l) ∙ head_fuel (m_of w) p c q l enough)

    pub edge_inside : (p c q : ℕ) → p < n_of t → edge w (n + p) c q ≡ true → (n ≤ q) × (q < n + n_of t)
    unfolding edge
    edge_inside p c q l h = chain_inside (m_of w) (head_of t p) c q (v.head p l) (rw (part.head p l) at h)
