-- Small numbers side by side in the words of a buffer. Assumes nothing: these are definitions.
use Rattle.std.specs.Prelude.{List, ℕ, ◌+◌, ◌*◌, ◌/◌, ◌%◌, ◌^◌, get_or, set}

-- the digit of a number at a place, to a base
unfoldable pub digit : (base number place : ℕ) → ℕ
digit b a i = a / b ^ i % b

-- so many entries to a word: entry x is a digit of word x / many
unfoldable pub packed : (base many : ℕ) → (words : List ℕ) → (entry : ℕ) → ℕ
packed b k w x = digit b (get_or w (x / k) 0) (x % k)

-- an entry grows
unfoldable pub raised : (base many : ℕ) → (words : List ℕ) → (entry by : ℕ) → List ℕ
raised b k w x c = set w (x / k) (get_or w (x / k) 0 + c * b ^ (x % k))
