-- Trial lists with the lassos that each holds, and trays with what a call on them answers and leaves. Assumes nothing: these are definitions.
use Rattle.std.specs.Prelude.{List, [], ◌∷◌, ℕ}
use Rattle.basics.specs.declared.Written.{Written}
use Rattle.tables.specs.Rows.{pattern_A}
use Rattle.trays.specs.Tray.{Parts}

-- a lasso by its letters
unfoldable pub lasso : (prefix loop : List ℕ) → Parts
lasso u v = record { prefix = u; loop = v }

-- A LIST, the lassos that it holds, and the words that are left
pub record ListRow : Type 0 where
  pub words : List ℕ
  pub lassos : List Parts
  pub left : List ℕ

unfoldable pub holds : (words : List ℕ) → (lassos : List Parts) → (left : List ℕ) → ListRow
holds s xs l = record { words = s; lassos = xs; left = l }

unfoldable pub list_rows : List ListRow
list_rows =
    -- the empty list holds no lasso; a single word is left
    holds [] [] []
    ∷ holds (0 ∷ []) [] (0 ∷ [])
    -- lengths alone are a lasso where both are zero, and else one that is cut short
    ∷ holds (0 ∷ 0 ∷ []) (lasso [] [] ∷ []) []
    ∷ holds (0 ∷ 1 ∷ []) [] (0 ∷ 1 ∷ [])
    ∷ holds (65535 ∷ 65535 ∷ []) [] (65535 ∷ 65535 ∷ [])
    -- the prefix length comes first
    ∷ holds (0 ∷ 2 ∷ 5 ∷ 6 ∷ []) (lasso [] (5 ∷ 6 ∷ []) ∷ []) []
    ∷ holds (2 ∷ 0 ∷ 5 ∷ 6 ∷ []) (lasso (5 ∷ 6 ∷ []) [] ∷ []) []
    ∷ holds (1 ∷ 1 ∷ 5 ∷ 6 ∷ []) (lasso (5 ∷ []) (6 ∷ []) ∷ []) []
    -- two lassos; the second cut short at each place
    ∷ holds (1 ∷ 1 ∷ 5 ∷ 6 ∷ 0 ∷ 1 ∷ 7 ∷ []) (lasso (5 ∷ []) (6 ∷ []) ∷ lasso [] (7 ∷ []) ∷ []) []
    ∷ holds (1 ∷ 1 ∷ 5 ∷ 6 ∷ 0 ∷ 1 ∷ []) (lasso (5 ∷ []) (6 ∷ []) ∷ []) (0 ∷ 1 ∷ [])
    ∷ holds (1 ∷ 1 ∷ 5 ∷ 6 ∷ 0 ∷ []) (lasso (5 ∷ []) (6 ∷ []) ∷ []) (0 ∷ [])
    -- what looks like a lasso behind one that is cut short is none
    ∷ holds (9 ∷ 9 ∷ 0 ∷ 1 ∷ 7 ∷ []) [] (9 ∷ 9 ∷ 0 ∷ 1 ∷ 7 ∷ [])
    ∷ []

-- A TRAY: a table, a list, how many answer bytes and work words are lent; number and count, and the bytes left
pub record TrayRow : Type 0 where
  pub table : List ℕ
  pub words : List ℕ
  pub bytes : ℕ
  pub work : ℕ
  pub answer : Written
  pub left : List ℕ

unfoldable pub answers : (number count : ℕ) → (left : List ℕ) → (table words : List ℕ) → (bytes work : ℕ) → TrayRow
answers x n a t s b w = record { table = t; words = s; bytes = b; work = w; answer = record { number = x; count = n }; left = a }

-- pattern A takes the words with finitely many ones; a lasso asks for 8 work words for each of its letters
unfoldable pub tray_rows : List TrayRow
tray_rows =
    -- taken, not taken, taken behind a prefix; an empty loop; letters 2, 256 and 65,535 of 2; 24 work words needed and 16 lent
    answers 0 8 (1 ∷ 0 ∷ 1 ∷ 13 ∷ 15 ∷ 15 ∷ 15 ∷ 16 ∷ []) pattern_A
    (0 ∷ 1 ∷ 0 ∷ 0 ∷ 1 ∷ 1 ∷ 1 ∷ 1 ∷ 1 ∷ 0 ∷ 1 ∷ 0 ∷ 1 ∷ 0 ∷ 1 ∷ 2 ∷ 0 ∷ 1 ∷ 256 ∷ 1 ∷ 1 ∷ 65535 ∷ 0 ∷ 0 ∷ 3 ∷ 0 ∷ 0 ∷ 0 ∷ []) 8 16
    -- no lasso
    ∷ answers 0 0 [] pattern_A [] 0 0
    -- a word left over; a lasso whose last letter is missing
    ∷ answers 17 0 (0 ∷ []) pattern_A (0 ∷ 1 ∷ 0 ∷ 0 ∷ []) 1 16
    ∷ answers 17 0 (0 ∷ 0 ∷ []) pattern_A (0 ∷ 1 ∷ 0 ∷ 1 ∷ 1 ∷ 1 ∷ []) 2 16
    -- a byte too few, a byte too many
    ∷ answers 18 0 [] pattern_A (0 ∷ 1 ∷ 0 ∷ []) 0 16
    ∷ answers 18 0 (0 ∷ 0 ∷ []) pattern_A (0 ∷ 1 ∷ 0 ∷ []) 2 16
    -- the table's refusal is in each byte, also where a lasso would be refused; and comes behind 17 and 18
    ∷ answers 2 0 (2 ∷ 2 ∷ []) [] (0 ∷ 1 ∷ 0 ∷ 0 ∷ 0 ∷ []) 2 16
    ∷ answers 3 0 [] (0 ∷ 1 ∷ 0 ∷ []) [] 0 0
    ∷ answers 7 0 (7 ∷ []) (1 ∷ 1 ∷ 0 ∷ 4 ∷ 0 ∷ []) (0 ∷ 1 ∷ 0 ∷ []) 1 16
    ∷ answers 17 0 (0 ∷ []) [] (0 ∷ []) 1 16
    ∷ answers 18 0 (0 ∷ []) [] [] 1 16
    ∷ []
