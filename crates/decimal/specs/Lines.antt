-- Numbers as text: decimal digits and lines of fields, in a lent buffer. Assumes nothing: these are definitions.
use Rattle.std.specs.Prelude.{◌≡◌, true, false, List, [], ◌∷◌, ◌++◌, ℕ, zero, suc, ◌+◌, ◌/◌, ◌%◌, ◌≤◌, ltb, length, take}
use Prim.Native.Char.{code}
use Prim.Native.String.{String, [] as no_more, ◌∷◌ as ◌then◌}
use Rattle.std.proofs.lemmas.List.Edits.{sets}
use Rattle.decimal.specs.declared.lines.Output.{Output}

-- BYTES in ASCII: the digit 0, what divides fields, and what ends a line
abbrev pub digit_zero : ℕ
digit_zero = 48

abbrev pub space : ℕ
space = 32

abbrev pub newline : ℕ
newline = 10

-- a text
unfoldable pub ascii : String → List ℕ
ascii no_more = []
ascii (c then s) = code c ∷ ascii s

-- DIGITS: the digits of a number with at most so many, the last of them behind the others
unfoldable pub digits : (most n : ℕ) → List ℕ
digits zero n = []
digits (suc k) n = elim (ltb n 10) [ true ↦ (digit_zero + n) ∷ [] | false ↦ digits k (n / 10) ++ ((digit_zero + n % 10) ∷ []) ]

unfoldable pub decimal : ℕ → List ℕ
decimal n = digits (suc n) n

-- LINES: fields divided by one space, and a newline at the end
unfoldable pub line : (fields : List ℕ) → List ℕ
line [] = newline ∷ []
line (x ∷ []) = decimal x ++ (newline ∷ [])
line (x ∷ y ∷ ys) = decimal x ++ (space ∷ line (y ∷ ys))

-- a field of 32 bits has at most ten digits, and one byte behind them
abbrev pub number_bytes : ℕ
number_bytes = 10

abbrev pub field_bytes : ℕ
field_bytes = number_bytes + 1

-- IN A LENT BUFFER: bytes from one place on, so many at most, and the place behind them; all else is as it was. The last field follows
-- from the one before it: with both, `&buffer[..end]` asks nothing of a caller.
pub record Put (before : List ℕ) (at most : ℕ) (bytes after : List ℕ) (end : ℕ) : Type 0 where
  pub text : after ≡ sets before at bytes
  pub ends : end ≡ at + length bytes
  pub near : end ≤ at + most
  pub inside : end ≤ length after
  pub whole : end ≡ length (take end after)

-- an output with room for so many bytes
abbrev pub HasRoom : Output → (most : ℕ) → Type 0
HasRoom o most = o.at + most ≤ length o.buffer.now

-- an output with bytes written behind what stood in it: it is lent the same buffer
pub record Appended (o : Output) (most : ℕ) (bytes : List ℕ) (o_now : Output) : Type 0 where
  pub put : Put o.buffer.now o.at most bytes o_now.buffer.now o_now.at
  pub same_buffer : o_now.buffer.ghost_name ≡ o.buffer.ghost_name

-- how many digits a number of 32 bits has
pub record Places (n count : ℕ) : Type 0 where
  pub counted : count ≡ length (decimal n)
  pub few : count ≤ number_bytes
