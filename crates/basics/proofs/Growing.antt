-- Sets of numbers below a limit that grow round by round: as many rounds as there are numbers, and one of them has added nothing. So, where
-- each round adds what a relation leads to, that many rounds find exactly what it leads to in any number of steps. Assumes nothing.
use mathlib.Core.Path.{◌≡◌}
use mathlib.Core.Bool.{Bool, true, ◌&&◌, not}
use mathlib.Core.Logic.{◌⊎◌, inl, inr, ◌↔◌}
use Prim.Native.Nat.{ℕ, zero, suc, ◌≤◌, ◌<◌}
use native.Mathlib.Omega.{arith}
use Rattle.basics.specs.Bounded.{count}
use Rattle.basics.specs.Star.{Star, stay, onward}
use Rattle.basics.proofs.Booleans.{either, clash, and_l, and_r, and_make, not_false, true_not}
use Rattle.basics.proofs.Bounded.{search_to, count_le, count_less}
use Rattle.basics.proofs.Star.{star_keeps}
use Rattle.basics.proofs.Upward.{upward}

-- what is in the set after so many rounds, and that each round keeps it
module _ (n : ℕ) (has : (round number : ℕ) → Bool)
    (keeps : (k y : ℕ) → y < n → has k y ≡ true → has (suc k) y ≡ true) where
  rounds_keep : (j k y : ℕ) → j ≤ k → y < n → has j y ≡ true → has k y ≡ true
  rounds_keep j k y l m e = upward (λ k. has k y ≡ true) j e (λ k _ h. keeps k y m h) k l

  -- the round after so many adds nothing
  record Still (k : ℕ) : Type 0 where
    no_more : (y : ℕ) → y < n → has (suc k) y ≡ true → has k y ≡ true

  -- each round adds a number, or one has added nothing
  rounds : (k : ℕ) → ((j : ℕ) × (j < k) × Still j) ⊎ (k ≤ count n (has k))
  rounds zero = inr (omega arith)
  rounds (suc k) =
      elim (rounds k) [
        | inl (j, l, h) ↦ inl (j, (omega arith), h)
        | inr c ↦
            elim (search_to n (λ y. has (suc k) y && not (has k y))) [
              | inl (y, l, e) ↦
                  let more =
                  count_less n (has k) (has (suc k)) (keeps k) y l (true_not (has k y) (and_r (has (suc k) y) e))
                  (and_l (not (has k y)) e) in
                  inr (omega arith)
              | inr none ↦
                  let still : (y : ℕ) → y < n → has (suc k) y ≡ true → has k y ≡ true =
                  λ y l e. elim (either (has k y)) [ inl f ↦ f | inr f ↦ absurd (clash (and_make e (not_false f)) (none y l)) ] in
                  inl (k, (omega arith), record { no_more = still })
            ]
      ]

  -- n + 1 rounds that each add a number would make more than n
  still_by : (k : ℕ) × (k ≤ n) × Still k
  still_by =
      elim (rounds (suc n)) [
        | inl (j, l, h) ↦ (j, (omega arith), h)
        | inr c ↦ let most = count_le n (has (suc n)) in absurd (omega arith)
      ]

  -- each round adds the numbers that a relation leads to from those of the round before
  module _ (E : ℕ → ℕ → Type 0) (inside : (x y : ℕ) → E x y → y < n)
      (adds : (k x y : ℕ) → x < n → has k x ≡ true → E x y → has (suc k) y ≡ true)
      (only : (k y : ℕ) → y < n → has (suc k) y ≡ true → (has k y ≡ true) ⊎ ((x : ℕ) × (x < n) × (has k x ≡ true) × E x y)) where
    -- what a round has was led to
    rounds_led : (k y : ℕ) → y < n → has k y ≡ true → (x : ℕ) × (x < n) × (has 0 x ≡ true) × Star E x y
    rounds_led zero y l e = (y, l, e, stay)
    rounds_led (suc k) y l e =
        elim (only k y l e) [
          | inl h ↦ rounds_led k y l h
          | inr (x, m, h, f) ↦ let (z, b, g, way) = rounds_led k x m h in (z, b, g, onward y way f)
        ]

    -- once a round adds nothing, it has all that is led to
    led_still : (k : ℕ) → Still k → {x y : ℕ} → x < n → has 0 x ≡ true → Star E x y → (y < n) × (has k y ≡ true)
    led_still k still {x} l e way =
        star_keeps (λ y. (y < n) × (has k y ≡ true))
        (λ y z f (m, h). let b = inside y z f in (b, still.no_more z b (adds k y z m h f)))
        (l, rounds_keep 0 k x (omega arith) l e) way

    -- n rounds find exactly what is led to
    pub grown_star : (y : ℕ) → ((y < n) × (has n y ≡ true)) ↔ ((x : ℕ) × (x < n) × (has 0 x ≡ true) × Star E x y)
    grown_star y = (
      (λ (l, e). rounds_led n y l e),
      (λ (x, m, e, way).
          let (k, b, still) = still_by in let (l, h) = led_still k still m e way in (l, rounds_keep k n y b l h)),
    )
