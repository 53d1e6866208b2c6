-- Laws of links where records are numbered on from so many. Assumes nothing.
use mathlib.Core.Path.{◌≡◌, refl}
use mathlib.Core.Bool.{false}
use mathlib.Core.Logic.{◌⊎◌, inl, inr}
use Prim.Native.Nat.{ℕ, ◌+◌, ◌≤◌, ◌<◌}
use native.Mathlib.Omega.{arith}
use lib.Dec.{eqb}
use Rattle.basics.proofs.Booleans.{same_truth, eqb_eq, eq_eqb, ne_eqb, same_or}
use Rattle.merge.specs.Merged.{link_on}

-- zero ends a chain as before, and a record is numbered on
pub link_none : (m : ℕ) → link_on m 0 ≡ 0
unfolding link_on
link_none m = refl

pub link_some : (m x : ℕ) → 1 ≤ x → link_on m x ≡ m + x
unfolding link_on
link_some m x o = let e : eqb x 0 ≡ false = ne_eqb x 0 (λ z. omega arith) in cc

-- which of them a link is
pub link_cases : (m x : ℕ) → ((x ≡ 0) × (link_on m x ≡ 0)) ⊎ ((1 ≤ x) × (link_on m x ≡ m + x))
link_cases m x =
    elim (same_or x 0) [
      | inl e ↦ inl (e, rw e (link_none m))
      | inr ne ↦ let o : 1 ≤ x = omega arith in inr (o, link_some m x o)
    ]

-- numbered on from none, a link stays
pub link_zero : (x : ℕ) → link_on 0 x ≡ x
link_zero x = elim (link_cases 0 x) [ inl (e, z) ↦ omega arith | inr (o, z) ↦ omega arith ]

-- links within the records stay within them
pub link_most : (m x k : ℕ) → x ≤ k → link_on m x ≤ m + k
link_most m x k l = elim (link_cases m x) [ inl (e, z) ↦ omega arith | inr (o, z) ↦ omega arith ]

-- a next that is zero or forward stays so
pub link_rises : (m x y : ℕ) → (y ≡ 0) ⊎ (x < y) → (link_on m y ≡ 0) ⊎ (m + x < link_on m y)
link_rises m x y h =
    elim (link_cases m y) [
      | inl (e, z) ↦ inl z
      | inr (o, z) ↦ elim h [ inl e ↦ absurd (omega arith) | inr l ↦ inr (omega arith) ]
    ]

-- a link names a record numbered on if it named that record
pub link_names : (m x y : ℕ) → 1 ≤ x → eqb (link_on m y) (m + x) ≡ eqb y x
link_names m x y o =
    elim (link_cases m y) [
      | inl (e, z) ↦
          let a : eqb (link_on m y) (m + x) ≡ false = ne_eqb (link_on m y) (m + x) (λ i. omega arith) in
          let b : eqb y x ≡ false = ne_eqb y x (λ i. omega arith) in cc
      | inr (p, z) ↦
          same_truth (eqb (link_on m y) (m + x)) (eqb y x)
          (λ h. let i = eqb_eq (link_on m y) (m + x) h in eq_eqb {m = y} {n = x} (omega arith))
          (λ h. let i = eqb_eq y x h in eq_eqb {m = link_on m y} {n = m + x} (omega arith))
    ]

-- a link names no record that is not among its own
pub link_names_none : (m x y k : ℕ) → 1 ≤ x → y ≤ k → (x ≤ m) ⊎ (m + k < x) → eqb (link_on m y) x ≡ false
link_names_none m x y k o l out =
    ne_eqb (link_on m y) x
    (λ i.
    elim (link_cases m y) [
      | inl (e, z) ↦ omega arith
      | inr (p, z) ↦ elim out [ inl b ↦ omega arith | inr b ↦ omega arith ]
    ])
