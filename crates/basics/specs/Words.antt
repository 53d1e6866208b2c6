-- The words of tables and buffers. Assumes nothing: these are definitions.
use Rattle.std.specs.Prelude.{ℕ, ◌-◌, ◌^◌}

-- a word of a table has 16 bits
abbrev pub word_bits : ℕ
word_bits = 16

-- a byte has 8
abbrev pub byte_bits : ℕ
byte_bits = 8

-- the largest number in a word of so many bits
abbrev pub largest_word : (bits : ℕ) → ℕ
largest_word b = 2 ^ b - 1
