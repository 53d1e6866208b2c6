-- Refusals one after the other, what a call answers that writes items, and what it leaves in a lent buffer. Assumes nothing: these are definitions.
use Rattle.std.specs.Prelude.{cond, List, ◌++◌, ℕ, zero, suc, ◌-◌, eqb, length, drop, replicate}
use Rattle.basics.specs.declared.Written.{Written}

-- the first refusal that is not zero
unfoldable pub or_else : (first second : ℕ) → ℕ
or_else a b = cond (eqb a 0) b a

-- the answer for a refusal's number, zero where nothing is refused, and for how many items were written
unfoldable pub as_written : (number count : ℕ) → Written
as_written zero count = record { number = 0; count = count }
as_written (suc r) count = record { number = suc r; count = 0 }

-- a buffer that is all zero
unfoldable pub zeros : (before : List ℕ) → List ℕ
zeros o = replicate (length o) 0

-- a buffer that begins with these words, and is zero beyond them
unfoldable pub filled : (new before : List ℕ) → List ℕ
filled x o = x ++ replicate (length o - length x) 0

-- a buffer that begins with these words, and is as it was beyond them
unfoldable pub overwritten : (new before : List ℕ) → List ℕ
overwritten x o = x ++ drop (length x) o

-- a buffer after a call: what it writes and zero beyond that, or all zero where the call is refused
unfoldable pub after_call : (number : ℕ) → (new before : List ℕ) → List ℕ
after_call zero x o = filled x o
after_call (suc r) x o = zeros o
