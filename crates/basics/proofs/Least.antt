-- Laws of the least number of which a test holds: it holds of it and of none before, and it is the only such number. Assumes nothing.
use mathlib.Core.Path.{◌≡◌, ◌∙◌, ap, fun_ext}
use mathlib.Core.Bool.{Bool, true, false}
use mathlib.Core.Logic.{inl, inr}
use Prim.Native.Nat.{ℕ, zero, suc, ◌+◌, ◌-◌, ◌≤◌, ◌<◌}
use native.Mathlib.Omega.{arith}
use native.Mathlib.Nat.{add-zero}
use Rattle.basics.specs.Least.{least, least_from}
use Rattle.basics.proofs.Booleans.{either, clash, below_or}

-- it is no more than the limit
pub least_le : (k : ℕ) (f : ℕ → Bool) → least k f ≤ k
unfolding least
least_le zero f = omega arith
least_le (suc k) f =
    let rest = least_le k (λ i. f (suc i)) in elim (either (f 0)) [ inl e ↦ rw e (omega arith) | inr e ↦ rw e (omega arith) ]

-- below the limit, the test holds of it
pub least_holds : (k : ℕ) (f : ℕ → Bool) → least k f < k → f (least k f) ≡ true
unfolding least
least_holds zero f l = absurd (omega arith)
least_holds (suc k) f l =
    elim (either (f 0)) [
      | inl e ↦ rw e e
      | inr e ↦ let l' : suc (least k (λ i. f (suc i))) < suc k = rw e at l in rw e (least_holds k (λ i. f (suc i)) (omega arith))
    ]

-- and of none before
pub least_none : (k : ℕ) (f : ℕ → Bool) (i : ℕ) → i < least k f → f i ≡ false
unfolding least
least_none zero f i l = absurd (omega arith)
least_none (suc k) f zero l = elim (either (f 0)) [ inl e ↦ absurd (let z = rw e at l in omega arith) | inr e ↦ e ]
least_none (suc k) f (suc i) l =
    elim (either (f 0)) [
      | inl e ↦ absurd (let z = rw e at l in omega arith)
      | inr e ↦ let l' : suc i < suc (least k (λ i. f (suc i))) = rw e at l in least_none k (λ i. f (suc i)) i (omega arith)
    ]

-- where it holds of some number below the limit, the least is below the limit
pub least_below : (k : ℕ) (f : ℕ → Bool) (i : ℕ) → i < k → f i ≡ true → least k f < k
least_below k f i l h =
    let most = least_le k f in
    elim (below_or (least k f) k) [ inl m ↦ m | inr m ↦ absurd (clash h (least_none k f i (omega arith))) ]

-- a number of which it holds, and of none before, is the least
pub least_is : (k : ℕ) (f : ℕ → Bool) (i : ℕ) → i < k → f i ≡ true → ((j : ℕ) → j < i → f j ≡ false) → least k f ≡ i
least_is k f i l h before =
    let below = least_below k f i l h in
    elim (below_or (least k f) i) [
      | inl m ↦ absurd (clash (least_holds k f below) (before (least k f) m))
      | inr m ↦
          elim (below_or i (least k f)) [
            | inl n ↦ absurd (clash h (least_none k f i n))
            | inr n ↦ omega arith
          ]
    ]

-- FROM A NUMBER ON
module _ (n i : ℕ) (f : ℕ → Bool) where
  -- one from there on of which it holds, and of none between, is the least
  pub least_from_is :
      (j : ℕ) → i ≤ j → j < n → f j ≡ true → ((q : ℕ) → i ≤ q → q < j → f q ≡ false) → least_from n i f ≡ j
  unfolding least_from
  least_from_is j l m h before =
      let there : i + (j - i) ≡ j = omega arith in
      let found =
      least_is (n - i) (λ q. f (i + q)) (j - i) (omega arith) (ap f there ∙ h) (λ q k. before (i + q) (omega arith) (omega arith)) in
      rw found there

  -- it is the number itself where it holds of it
  pub least_here : i < n → f i ≡ true → least_from n i f ≡ i
  least_here l h = least_from_is i (omega arith) l h (λ q k m. absurd (omega arith))

  -- and the least from the next on where it does not
  pub least_later : i < n → f i ≡ false → least_from n i f ≡ least_from n (suc i) f
  unfolding least_from least
  least_later l h =
      let more : n - i ≡ suc (n - suc i) = omega arith in
      let first : f (i + 0) ≡ false = ap f (add-zero i) ∙ h in
      let others : least (n - suc i) (λ q. f (i + suc q)) ≡ least (n - suc i) (λ q. f (suc i + q)) =
      ap (least (n - suc i)) (fun_ext (λ q. ap f (let e : i + suc q ≡ suc i + q = omega arith in e))) in
      rw (more, first, others) (omega arith)

  -- none is left
  pub least_past : n ≤ i → least_from n i f ≡ i
  unfolding least_from least
  least_past l = let none : n - i ≡ 0 = omega arith in rw none (omega arith)
