-- How many states a set has: the count of a number's set digits, and how it grows. Assumes nothing.
use mathlib.Core.Path.{◌≡◌, sym, ◌∙◌, ap}
use mathlib.Core.Bool.{true, false}
use mathlib.Core.Logic.{inl, inr}
use Prim.Native.Nat.{ℕ, zero, suc, ◌+◌, ◌/◌, ◌%◌, ◌^◌, ◌≤◌, ◌<◌}
use native.Mathlib.Omega.{arith}
use native.Mathlib.Nat.{pow-suc, add-zero}
use native.Mathlib.Numerals.{add-one}
use lib.Count.{ones, ones_in, ones_step}
use Rattle.basics.specs.Bounded.{count}
use Rattle.basics.proofs.Booleans.{either}
use Rattle.basics.proofs.Bounded.{count_same, count_le}
use Rattle.sets.specs.Sets.{has, size}
use Rattle.basics.proofs.Counting.{count_front, count_none, count_hit, count_longer, count_past}
use Rattle.sets.proofs.Members.{has_half, has_out, first_in, first_out}

-- the lowest digit, and the size of the half
pub size_step : (k s : ℕ) → size (suc k) s ≡ s % 2 + size k (s / 2)
unfolding size
size_step k s =
    let f = count_front k (has s) in
    let h = count_same k (λ i. has s (suc i)) (has (s / 2)) (λ i l. has_half s i) in
    elim (either (has s 0)) [
      | inl e ↦ let d = first_in s e in let f' = rw e at f in omega arith
      | inr e ↦ let d = first_out s e in let f' = rw e at f in omega arith
    ]

-- one state more: it is a member, or it is not
pub size_grows : (k s : ℕ) → has s k ≡ true → size (suc k) s ≡ suc (size k s)
unfolding size count
size_grows k s h = rw h (add-one (size k s))

pub size_stays : (k s : ℕ) → has s k ≡ false → size (suc k) s ≡ size k s
unfolding size count
size_stays k s h = rw h (add-zero (size k s))

-- the size of a set is the count of its number's set digits
pub size_ones : (k s : ℕ) → s < 2 ^ k → size k s ≡ ones s
unfolding size count ones ones_in
size_ones zero s l = let e : s ≡ 0 = omega arith in rw e
size_ones (suc k) s l =
    let p = pow-suc 2 k in
    let ih = size_ones k (s / 2) (omega arith) in size_step k s ∙ ap (λ (n : ℕ). s % 2 + n) ih ∙ sym (ones_step s)

-- bounds
pub size_le : (k s : ℕ) → size k s ≤ k
unfolding size
size_le k s = count_le k (has s)

pub size_longer : (j k s : ℕ) → j ≤ k → size j s ≤ size k s
unfolding size
size_longer j k s l = count_longer j k (has s) l

pub size_past : (j k s : ℕ) → s < 2 ^ j → j ≤ k → size k s ≡ size j s
unfolding size
size_past j k s l m = count_past j k (has s) m (λ q n. has_out j s q l n)

-- a member is counted
pub size_hit : (q k s : ℕ) → q < k → has s q ≡ true → size q s < size k s
unfolding size
size_hit q k s l h = count_hit q k (has s) l h

-- a set with no member below the limit
pub size_none : (k s : ℕ) → ((q : ℕ) → q < k → has s q ≡ false) → size k s ≡ 0
unfolding size
size_none k s h = count_none k (has s) h
