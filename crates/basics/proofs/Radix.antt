-- Numbers written with a radix of its own at each place: how many there are, and that a number decides its digits. Assumes nothing.
use mathlib.Core.Path.{◌≡◌, sym, ◌∙◌, ap}
use mathlib.Core.Logic.{inl, inr}
use Prim.Native.Nat.{ℕ, zero, suc, ◌+◌, ◌*◌, ◌/◌, ◌%◌, ◌<◌}
use native.Mathlib.Omega.{arith}
use lib.Arith.{digits_lt, digits_div, digits_mod}
use Rattle.basics.proofs.Booleans.{same_or}

-- a number decides its last digit and what stands before it
pub digits_same : {b x y : ℕ} (i j : ℕ) → x < b → y < b → i * b + x ≡ j * b + y → (i ≡ j) × (x ≡ y)
digits_same {b} i j l m e = (
  sym (digits_div i l) ∙ ap (λ (n : ℕ). n / b) e ∙ digits_div j m,
  sym (digits_mod i l) ∙ ap (λ (n : ℕ). n % b) e ∙ digits_mod j m,
)

-- the number with these digits at the places below the limit
unfoldable pub number : (radix digit : ℕ → ℕ) → (limit : ℕ) → ℕ
number r f zero = 0
number r f (suc k) = number r f k * r k + f k

-- how many such numbers there are
unfoldable pub numbers : (radix : ℕ → ℕ) → (limit : ℕ) → ℕ
numbers r zero = 1
numbers r (suc k) = numbers r k * r k

pub number_lt : (r f : ℕ → ℕ) (k : ℕ) → ((q : ℕ) → f q < r q) → number r f k < numbers r k
unfolding number numbers
number_lt r f zero h = omega arith
number_lt r f (suc k) h = digits_lt (number_lt r f k h) (h k)

pub number_digits :
    (r f g : ℕ → ℕ) (k : ℕ) → ((q : ℕ) → f q < r q) → ((q : ℕ) → g q < r q) → number r f k ≡ number r g k →
    (q : ℕ) → q < k → f q ≡ g q
unfolding number
number_digits r f g zero hf hg e q l = absurd (omega arith)
number_digits r f g (suc k) hf hg e q l =
    let (front, last) = digits_same (number r f k) (number r g k) (hf k) (hg k) e in
    elim (same_or q k) [
      | inl s ↦ rw s last
      | inr s ↦ number_digits r f g k hf hg front q (omega arith)
    ]
