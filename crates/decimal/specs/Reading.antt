-- Reading decimal numbers from bytes (docs/RULES.md, "Refusals": 1). Assumes nothing: these are definitions.
use Rattle.std.specs.Prelude.{◌≡◌, Bool, true, false, ◌&&◌, ◌||◌, cond, List, [], ◌∷◌, ◌++◌, ℕ, ◌+◌, ◌*◌, ◌-◌, ◌≤◌, ◌<◌, ltb, leb, eqb, length, take, drop}
use Rattle.std.proofs.Math.Option.{Option, none, some}
use Rattle.basics.specs.Words.{word_bits, largest_word}
use Rattle.decimal.specs.Lines.{digit_zero, space, newline}
use Rattle.decimal.specs.declared.reading.Reading.{Reading}
use Rattle.decimal.specs.declared.reading.State.{State}
use Rattle.decimal.specs.declared.reading.State.TheVariants.{Between, Within, Failed}

-- WHAT IS TAKEN: the largest number, and the most numbers
pub record Bounds : Type 0 where
  pub largest : ℕ
  pub most : ℕ

-- spaces and newlines divide numbers
unfoldable pub is_blank : (byte : ℕ) → Bool
is_blank c = eqb c space || eqb c newline

unfoldable pub is_digit : (byte : ℕ) → Bool
is_digit c = leb digit_zero c && leb c (digit_zero + 9)

-- WHERE READING STANDS after some bytes: the numbers that have ended; the number under way, which is zero where none is; and
-- whether there was a fault
pub record Scan : Type 0 where
  pub numbers : List ℕ
  pub value : ℕ
  pub within : Bool
  pub failed : Bool

unfoldable pub between : List ℕ → Scan
between xs = record { numbers = xs; value = 0; within = false; failed = false }

unfoldable pub under_way : List ℕ → (value : ℕ) → Scan
under_way xs v = record { numbers = xs; value = v; within = true; failed = false }

unfoldable pub fault : List ℕ → Scan
fault xs = record { numbers = xs; value = 0; within = false; failed = true }

-- a number under way ends
unfoldable pub ended : Scan → Scan
ended s = cond s.within (between (s.numbers ++ (s.value ∷ []))) s

-- one more digit: a number too many or too large is a fault
unfoldable pub longer : Bounds → Scan → (digit : ℕ) → Scan
longer b s d =
    cond (ltb (length s.numbers) b.most && leb (10 * s.value + d) b.largest)
    (under_way s.numbers (10 * s.value + d)) (fault s.numbers)

-- one more byte: after a fault nothing changes, and any byte but digits and blanks is one
unfoldable pub with_byte : Bounds → Scan → (byte : ℕ) → Scan
with_byte b s c =
    cond s.failed s (cond (is_blank c) (ended s) (cond (is_digit c) (longer b s (c - digit_zero)) (fault s.numbers)))

unfoldable pub scan : Bounds → Scan → (bytes : List ℕ) → Scan
scan b s [] = s
scan b s (c ∷ cs) = scan b (with_byte b s c) cs

-- the numbers that the whole input holds, or none; the input's end ends the last of them
unfoldable pub numbers_of : Scan → Option (List ℕ)
numbers_of s = cond s.failed none (some s.numbers)

unfoldable pub read_numbers : Bounds → (bytes : List ℕ) → Option (List ℕ)
read_numbers b bs = numbers_of (ended (scan b (between []) bs))

-- IN LENT WORDS of 16 bits: as many numbers as there are words
unfoldable pub bounds_of : (words : List ℕ) → Bounds
bounds_of w = record { largest = largest_word word_bits; most = length w }

-- a reading's state: the number under way, which is zero where none is
abbrev pub value_of : State → ℕ
value_of Between = 0
value_of (Within v) = v
value_of Failed = 0

-- whether there is one
abbrev pub is_within : State → Bool
is_within Between = false
is_within (Within v) = true
is_within Failed = false

-- and whether there was a fault
abbrev pub is_failed : State → Bool
is_failed Between = false
is_failed (Within v) = false
is_failed Failed = true

-- the state that says the same as a scan
abbrev pub state_of : Scan → State
state_of s = cond s.failed Failed (cond s.within (Within s.value) Between)

-- the numbers that have ended stand first, and what is beyond them is as it was
unfoldable pub reading_of : Scan → Reading
reading_of s = record { count = length s.numbers; state = state_of s }

unfoldable pub stored : Scan → (before : List ℕ) → List ℕ
stored s w = s.numbers ++ drop (length s.numbers) w

-- what a reading and its words hold
unfoldable pub scan_of : Reading → (words : List ℕ) → Scan
scan_of r w =
    record {
      numbers = take r.count w;
      value = value_of r.state;
      within = is_within r.state;
      failed = is_failed r.state;
    }

-- the numbers have their words, and so has the one under way
pub record Ready (r : Reading) (w : List ℕ) : Type 0 where
  pub counted : r.count ≤ length w
  pub placed : is_within r.state ≡ true → r.count < length w

-- what is left of a reading and of its words w: they hold this scan, and more can be read
pub record Became (s : Scan) (w : List ℕ) (r_now : Reading) (w_now : List ℕ) : Type 0 where
  pub reading : r_now ≡ reading_of s
  pub holds : scan_of r_now w_now ≡ s
  pub words : w_now ≡ stored s w
  pub same : length w_now ≡ length w
  pub ready : Ready r_now w_now

-- a reading and its words once these bytes have been fed
abbrev pub Fed : Reading → (words bytes : List ℕ) → Reading → (words_now : List ℕ) → Type 0
Fed r w cs r_now w_now = Became (scan (bounds_of w) (scan_of r w) cs) w r_now w_now

-- a reading and its words are those of this whole input
pub record Reads (input : List ℕ) (r : Reading) (w : List ℕ) : Type 0 where
  pub scanned : scan_of r w ≡ scan (bounds_of w) (between []) input
