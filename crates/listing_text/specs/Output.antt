-- What listing answers and leaves in the lent output, and how much room that takes. Assumes nothing: these are definitions.
use Rattle.std.specs.Prelude.{◌≡◌, List, ℕ, ◌+◌, ◌*◌}
use Rattle.decimal.specs.Lines.{field_bytes, Put}
use Rattle.decimal.specs.Reading.{Scan, ended, numbers_of, stored, scan_of, Reads}
use Rattle.decimal.specs.declared.reading.Reading.{Reading}
use Rattle.listing_text.specs.Listing.{listing_of, listing}

-- ROOM: a line has its letters and blanks, and its fields
abbrev pub refused_bytes : ℕ
refused_bytes = 8 + field_bytes

abbrev pub counts_bytes : ℕ
counts_bytes = 13 + 2 * field_bytes

abbrev pub state_bytes : ℕ
state_bytes = 6 * field_bytes

abbrev pub edge_bytes : ℕ
edge_bytes = 3 * field_bytes

unfoldable pub text_bytes : (states edges : ℕ) → ℕ
text_bytes n m = counts_bytes + (state_bytes * n + edge_bytes * m)

-- enough for every listing
abbrev pub output_bytes : ℕ
output_bytes = 262144

-- the text of what was read, once the input ends
unfoldable pub text_of : Scan → List ℕ
text_of s = listing_of (numbers_of (ended s))

-- WHAT LISTING ANSWERS AND LEAVES, of a reading and the words that it was read into. The text stands at the output's start, and what
-- lies behind it is as it was; the answer is the text's length. The input's end ends the last number.
pub record Listed (reading : Reading) (table table_now output output_now : List ℕ) (answer : ℕ) : Type 0 where
  pub ended_table : table_now ≡ stored (ended (scan_of reading table)) table
  pub text : Put output 0 output_bytes (text_of (scan_of reading table)) output_now answer

-- the same, and whatever input was read: the text is the listing of that input
pub record Lists (reading : Reading) (table table_now output output_now : List ℕ) (answer : ℕ) : Type 0 where
  pub listed : Listed reading table table_now output output_now answer
  pub of_input : (input : List ℕ) → Reads input reading table → text_of (scan_of reading table) ≡ listing input
