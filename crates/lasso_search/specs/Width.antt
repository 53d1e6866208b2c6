-- The width of a search: the range of its tables, the bits of its work words, the colours of nodes that lie in such a word, and the
-- longest lasso. Assumes nothing: these are definitions.
use Rattle.std.specs.Prelude.{◌≡◌, ℕ, ◌*◌, ◌/◌, ◌^◌, ◌≤◌, ◌<◌}
use Rattle.tables.specs.Table.{Limits, wide_range}

-- THE WIDTH of a search: the range of the tables that it takes, and the bits of a work word
pub record Width : Type 0 where
  pub range : Limits
  pub work_bits : ℕ

-- tables of 16-bit words, and work words of 32 bits
abbrev pub width_16 : Width
width_16 = record { range = wide_range; work_bits = 32 }

-- the bits of a machine word, which the code counts in
abbrev pub machine_bits : ℕ
machine_bits = 64

-- THE COLOURS of nodes, which only rise: a node that was not met is white
abbrev pub white : ℕ
white = 0

-- one on the stack is grey
abbrev pub grey : ℕ
grey = 1

-- a finished one is black
abbrev pub black : ℕ
black = 2

-- or red, if it leads to red nodes only
abbrev pub red : ℕ
red = 3

-- the bits of a colour
abbrev pub colour_bits : ℕ
colour_bits = 2

-- how many colours there are
abbrev pub colours : ℕ
colours = 2 ^ colour_bits

-- how many colours a work word holds
abbrev pub word_colours : Width → ℕ
word_colours wd = wd.work_bits / colour_bits

-- the four blocks of so many nodes can be counted through in so many bits
abbrev pub Few : (bits nodes : ℕ) → Type 0
Few b n = 4 * n < 2 ^ b

-- a prefix, and a loop, have at most 4,096 letters
abbrev pub longest_part : ℕ
longest_part = 4096

-- the largest product can be counted through in a work word and in a machine word, a record's number fits a work word, and colours fill one
pub record WidthFits (wd : Width) : Type 0 where
  pub work : Few wd.work_bits (2 * longest_part * wd.range.states)
  pub machine : Few machine_bits (2 * longest_part * wd.range.states)
  pub records : wd.range.records < 2 ^ wd.work_bits
  pub some : 1 ≤ word_colours wd
  pub filled : colour_bits * word_colours wd ≡ wd.work_bits
