-- Sets of states, written as numbers: state q adds 2^q (docs/RULES.md, "The quadruple and its step"). Assumes nothing: these are definitions.
-- Meet and join of two sets are the numbers' bit_and and bit_or.
use Rattle.std.specs.Prelude.{Bool, cond, List, [], ◌∷◌, ◌++◌, map, ℕ, zero, suc, ◌+◌, ◌-◌, ◌/◌, ◌%◌, ◌^◌, eqb, get_or}
use Rattle.std.specs.Int.Bits.{bit_and, bit_or}
use Rattle.basics.specs.Bounded.{count}

-- THE SIZE of sets and of tables of them: a set is a number of 32 bits, so it holds states 0 to 31
abbrev pub set_states : ℕ
set_states = 32

-- and a table by state and by letter of target sets has 16 letters in each row
abbrev pub row_letters : ℕ
row_letters = 16

-- state q is in the set
unfoldable pub has : (set q : ℕ) → Bool
has s q = eqb (s / 2 ^ q % 2) 1

-- how many of the states below the limit are in the set
unfoldable pub size : (limit set : ℕ) → ℕ
size k s = count k (has s)

-- what is in a and not in b
unfoldable pub without : (a b : ℕ) → ℕ
without a b = a - bit_and a b

-- the set of the states below the limit of which a test holds
unfoldable pub set_of : (limit : ℕ) → (ℕ → Bool) → ℕ
set_of zero f = 0
set_of (suc k) f = set_of k f + cond (f k) (2 ^ k) 0

-- the rows of the members below the limit, joined
unfoldable pub union : (limit set : ℕ) → (row : ℕ → ℕ) → ℕ
union zero s row = 0
union (suc q) s row = let r = union q s row in cond (has s q) (bit_or r (row q)) r

-- the parts of a set of states below the limit, by rising number
unfoldable pub subsets : (limit set : ℕ) → List ℕ
subsets zero s = 0 ∷ []
subsets (suc q) s = let r = subsets q s in cond (has s q) (r ++ map (λ x. 2 ^ q + x) r) r

-- the part of a set that a choice names, by rising number; choices beyond the last begin anew
unfoldable pub nth_subset : (set choice : ℕ) → ℕ
nth_subset s i = get_or (subsets set_states s) (i % 2 ^ size set_states s) 0
