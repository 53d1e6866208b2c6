-- Numbers from another one on: induction, counting from one, and the numbers up to a sum. Assumes nothing.
use mathlib.Core.Path.{◌≡◌, subst}
use mathlib.Core.Logic.{inl, inr}
use Prim.Native.Nat.{ℕ, zero, suc, ◌+◌, ◌-◌, ◌≤◌, ◌<◌}
use native.Mathlib.Omega.{arith}
use Rattle.basics.proofs.Booleans.{below_or}

-- what holds of a number, and passes from each one on to the next, holds of every later number
pub upward : (P : ℕ → Type 0) (i : ℕ) → P i → ((k : ℕ) → i ≤ k → P k → P (suc k)) → (j : ℕ) → i ≤ j → P j
upward P i here next zero l = let e : i ≡ 0 = omega arith in subst P e here
upward P i here next (suc j) l =
    elim (below_or j i) [
      | inl k ↦ let e : i ≡ suc j = omega arith in subst P e here
      | inr k ↦ next j k (upward P i here next j k)
    ]

-- the numbers from 1 to m are those below m, each and one
pub from_one : (m : ℕ) (P : ℕ → Type 0) → ((i : ℕ) → i < m → P (suc i)) → (x : ℕ) → 1 ≤ x → x ≤ m → P x
from_one m P h zero o l = absurd (omega arith)
from_one m P h (suc i) o l = h i l

-- each number is below n, or n and another one
pub either_side : (n : ℕ) (P : ℕ → Type 0) → ((i : ℕ) → i < n → P i) → ((i : ℕ) → P (n + i)) → (i : ℕ) → P i
either_side n P f g i =
    elim (below_or i n) [
      | inl l ↦ f i l
      | inr l ↦ let e : n + (i - n) ≡ i = omega arith in subst P e (g (i - n))
    ]

-- so the numbers below n + m are those below n, and n added to those below m
pub below_sum :
    (n m : ℕ) (P : ℕ → Type 0) → ((i : ℕ) → i < n → P i) → ((i : ℕ) → i < m → P (n + i)) → (i : ℕ) → i < n + m → P i
below_sum n m P f g = either_side n (λ i. i < n + m → P i) (λ i k l. f i k) (λ i l. g i (omega arith))

-- and those from 1 to n + m likewise
pub to_sum :
    (n m : ℕ) (P : ℕ → Type 0) → ((x : ℕ) → 1 ≤ x → x ≤ n → P x) → ((x : ℕ) → 1 ≤ x → x ≤ m → P (n + x)) →
    (x : ℕ) → 1 ≤ x → x ≤ n + m → P x
to_sum n m P f g x o l =
    elim (below_or n x) [
      | inl k ↦ let e : n + (x - n) ≡ x = omega arith in subst P e (g (x - n) (omega arith) (omega arith))
      | inr k ↦ f x o k
    ]
