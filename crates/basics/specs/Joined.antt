-- Two sequences, the second numbered on from the first. Assumes nothing: these are definitions.
use Rattle.std.specs.Prelude.{cond, ℕ, ◌-◌, ltb}

-- the first one's items 0 to count − 1, then the second one's from its item 0 on
unfoldable pub numbered_on : {A : Type 0} → (count : ℕ) → (first second : ℕ → A) → (number : ℕ) → A
numbered_on n f g i = cond (ltb i n) (f i) (g (i - n))
