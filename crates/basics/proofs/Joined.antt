-- Two sequences, the second numbered on from the first: which of them has the item of a number. Assumes nothing.
use mathlib.Core.Path.{◌≡◌, refl, ◌∙◌, ap}
use Prim.Native.Nat.{ℕ, ◌+◌, ◌-◌, ◌≤◌, ◌<◌}
use native.Mathlib.Omega.{arith}
use Rattle.basics.specs.Joined.{numbered_on}
use Rattle.basics.proofs.Booleans.{lt_ltb, ge_ltb}

module _ {A : Type 0} (n : ℕ) (f g : ℕ → A) where
  -- below the count it is the first one's
  pub on_first : (i : ℕ) → i < n → numbered_on n f g i ≡ f i
  unfolding numbered_on
  on_first i l = rw (lt_ltb l) refl

  -- from the count on it is the second one's
  pub on_second : (i : ℕ) → n ≤ i → numbered_on n f g i ≡ g (i - n)
  unfolding numbered_on
  on_second i l = rw (ge_ltb l) refl

  -- that many places behind the count
  pub on_behind : (i : ℕ) → numbered_on n f g (n + i) ≡ g i
  on_behind i = let e : n + i - n ≡ i = omega arith in on_second (n + i) (omega arith) ∙ ap g e
