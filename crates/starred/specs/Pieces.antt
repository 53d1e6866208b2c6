-- The starred trial pieces of docs/RULES.md, "Trial pieces", a row for each star, as one list. Assumes nothing: these are definitions.
use Rattle.std.specs.Prelude.{◌≡◌, List, [], ◌∷◌, ℕ, length, get_or}
use Prim.Native.String.{String}
use Rattle.automata.specs.Automaton.{Takes}
use Rattle.automata.specs.Lasso.{letter_at}
use Rattle.tables.specs.Rows.{pattern_A, pattern_B, no_initial, forked, doubled}
use Rattle.tables.specs.Table.{meaning}
use Rattle.patterns.specs.Check.{check_refusal}
use Rattle.complement.specs.Complement.{complement, complement_words, sets_words}
use Rattle.decimal.specs.Lines.{line, ascii}
use Rattle.listing_text.specs.Listing.{listing}

-- A PIECE
pub data Piece : Type 0 where
  -- the pattern's words, on one line, give this text; the complement's table is this
  lists : (pattern : List ℕ) → (text : String) → (table : List ℕ) → Piece
  -- the pattern passes, and its complement has so many states and edges, these sets and this table
  gives : (pattern : List ℕ) → (states edges : ℕ) → (sets table : List ℕ) → Piece
  -- the pattern is refused by this number
  refused : (pattern : List ℕ) → (number : ℕ) → Piece
  -- the pattern takes the lasso and its complement does not
  pattern_only : (pattern prefix loop : List ℕ) → Piece
  -- the other way round
  complement_only : (pattern prefix loop : List ℕ) → Piece

-- THE STARRED PIECES, in the rules' order
unfoldable pub pieces : List Piece
pieces =
    -- A gives the listing, and its table
    lists pattern_A "states 2 edges 4\n0 1 0 0 0 3\n1 1 2 0 2 0\n0 0 1\n0 1 0\n1 0 1\n1 1 0\n"
    (2 ∷ 2 ∷ 4 ∷ 3 ∷ 1 ∷ 0 ∷ 3 ∷ 0 ∷ 1 ∷ 2 ∷ 1 ∷ 0 ∷ 0 ∷ 0 ∷ 1 ∷ 4 ∷ 1 ∷ 0 ∷ 0 ∷ [])
    -- A, u empty, v = 0; u empty, v = 1; u = 1, v = 0
    ∷ pattern_only pattern_A [] (0 ∷ [])
    ∷ complement_only pattern_A [] (1 ∷ [])
    ∷ pattern_only pattern_A (1 ∷ []) (0 ∷ [])
    -- B: 0 on 0 to 0, 0 on 1 to 2, 1 on 0 to 1, 2 on 0 to 0 and to 1, 2 on 1 to 2; states 0 and 1 are initial, 1 accepts
    ∷ gives pattern_B 3 6 (0 ∷ 1 ∷ 0 ∷ 1 ∷ 0 ∷ 0 ∷ 1 ∷ 0 ∷ 0 ∷ 2 ∷ 0 ∷ 2 ∷ [])
    (3 ∷ 2 ∷ 6 ∷ 1 ∷ 1 ∷ 3 ∷ 3 ∷ 0 ∷ 4 ∷ 0 ∷ 0 ∷ 2 ∷ 1 ∷ 2 ∷ 0 ∷ 0 ∷ 1 ∷ 0 ∷ 0 ∷ 0 ∷ 5 ∷ 0 ∷ 1 ∷ 6 ∷ 1 ∷ 2 ∷ 0 ∷ [])
    -- B, u empty, v = 0; u empty, v = 0 1
    ∷ complement_only pattern_B [] (0 ∷ [])
    ∷ pattern_only pattern_B [] (0 ∷ 1 ∷ [])
    -- no initial state
    ∷ gives no_initial 1 1 (0 ∷ 0 ∷ 0 ∷ 0 ∷ []) (1 ∷ 1 ∷ 1 ∷ 3 ∷ 1 ∷ 0 ∷ 0 ∷ 0 ∷ [])
    -- refused by 10, though state 1 is never reached
    ∷ refused forked 10
    -- one edge twice: (0,1,0,1) alone, with one edge, not accepting
    ∷ gives doubled 1 1 (0 ∷ 1 ∷ 0 ∷ 1 ∷ []) (1 ∷ 1 ∷ 1 ∷ 1 ∷ 1 ∷ 0 ∷ 0 ∷ 0 ∷ [])
    ∷ []

-- the piece with a number
unfoldable pub piece : (i : ℕ) → Piece
piece i = get_or pieces i (refused [] 2)

-- WHAT A PIECE CLAIMS, of the complement
pub record Gives (t : List ℕ) (states edges : ℕ) (sets table : List ℕ) : Type 0 where
  pub passes : check_refusal t ≡ 0
  pub states_counted : length (complement t).states ≡ states
  pub edges_counted : length (complement t).edges ≡ edges
  pub sets_are : sets_words t ≡ sets
  pub table_is : complement_words t ≡ table

-- of two tables over a lasso: the first has an accepting run, and the second has none
pub record OnlyFirst (a b u v : List ℕ) : Type 0 where
  pub taken : Takes (meaning a) (letter_at u v)
  pub not_taken : Takes (meaning b) (letter_at u v) → ⊥

-- the claim of each kind of piece
unfoldable pub Right : Piece → Type 0
Right (lists t text c) = (listing (line t) ≡ ascii text) × (complement_words t ≡ c)
Right (gives t n m s c) = Gives t n m s c
Right (refused t r) = check_refusal t ≡ r
Right (pattern_only t u v) = OnlyFirst t (complement_words t) u v
Right (complement_only t u v) = OnlyFirst (complement_words t) t u v
