-- Laws of a buffer that begins with given words and is zero beyond them. Assumes nothing.
use mathlib.Core.Path.{◌≡◌, refl}
use mathlib.Core.List.{List, [], ◌∷◌, ◌++◌}
use Prim.Native.Nat.{ℕ, zero, suc, ◌-◌, ◌≤◌}
use native.Mathlib.Omega.{arith}
use lib.ListN.{length, get_or, take, replicate, length-append, length-replicate}
use lib.Seq.{take_at}
use Rattle.basics.specs.Buffers.{filled}
use Rattle.basics.proofs.Clears.{zeros_at}

-- zeros behind a list are what is read beyond it anyway
zeros_behind : (x : List ℕ) (k i : ℕ) → get_or (x ++ replicate k 0) i 0 ≡ get_or x i 0
zeros_behind [] k i = zeros_at k i
zeros_behind (v ∷ x) k zero = refl
zeros_behind (v ∷ x) k (suc i) = zeros_behind x k i

module _ (x o : List ℕ) where
  pub filled_length : length x ≤ length o → length (filled x o) ≡ length o
  unfolding filled
  filled_length l =
      let a = length-append x (replicate (length o - length x) 0) in
      let b = length-replicate {A = ℕ} (length o - length x) 0 in omega arith

  pub filled_at : (i : ℕ) → get_or (filled x o) i 0 ≡ get_or x i 0
  unfolding filled
  filled_at i = zeros_behind x (length o - length x) i

  -- the new words come first
  pub filled_take : (n : ℕ) → length x ≡ n → take n (filled x o) ≡ x
  unfolding filled
  filled_take n e = take_at x (replicate (length o - length x) 0) n e
