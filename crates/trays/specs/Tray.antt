-- A tray of lassos and the list of words that holds it (docs/RULES.md, "A tray of lassos"). Assumes nothing: these are definitions.
use Rattle.std.specs.Prelude.{cond, List, [], ◌∷◌, ◌++◌, ℕ, zero, suc, ◌+◌, leb, length, take, drop}

-- A LASSO by its two parts: the letters of its prefix, and those of its loop
pub record Parts : Type 0 where
  pub prefix : List ℕ
  pub loop : List ℕ

-- the lasso with these letters, of which so many are its prefix
unfoldable pub lasso_of : (prefix : ℕ) → (letters : List ℕ) → Parts
lasso_of p x = record { prefix = take p x; loop = drop p x }

-- a lasso without letters, which stands beyond the last of a list
abbrev pub no_lasso : Parts
no_lasso = record { prefix = []; loop = [] }

-- WRITING: the words of a lasso are its prefix length, its loop length, and its letters
unfoldable pub lasso_words : Parts → List ℕ
lasso_words x = length x.prefix ∷ (length x.loop ∷ (x.prefix ++ x.loop))

-- a list that is made of lassos: their words, one lasso after the other
unfoldable pub list_of : List Parts → List ℕ
list_of [] = []
list_of (x ∷ xs) = lasso_words x ++ list_of xs

-- READING: the lassos that a list holds, and the words that are left behind the last of them, none where the list ends exactly at its end
pub record Tray : Type 0 where
  pub lassos : List Parts
  pub left : List ℕ

-- no lasso, and these words left
unfoldable pub no_more : (left : List ℕ) → Tray
no_more t = record { lassos = []; left = t }

-- a lasso, and those that follow it
unfoldable pub led_by : Parts → Tray → Tray
led_by x y = record { lassos = x ∷ y.lassos; left = y.left }

-- at most so many lassos from the start of a list: prefix length p, loop length l, p + l letters, then the next lasso; one that is cut
-- short is left, and so is a single word
unfoldable pub tray_in : (most : ℕ) → List ℕ → Tray
tray_in zero t = no_more t
tray_in (suc f) [] = no_more []
tray_in (suc f) (p ∷ []) = no_more (p ∷ [])
tray_in (suc f) (p ∷ (l ∷ t)) =
    cond (leb (p + l) (length t)) (led_by (lasso_of p (take (p + l) t)) (tray_in f (drop (p + l) t))) (no_more (p ∷ (l ∷ t)))

-- THE TRAY that a list holds: a list has no more lassos than words
unfoldable pub tray : List ℕ → Tray
tray t = tray_in (length t) t
