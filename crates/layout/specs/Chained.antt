-- The words of a table whose chains run through consecutive records (docs/RULES.md, "Numbering and result"). Assumes nothing: these are definitions.
use Rattle.std.specs.Prelude.{◌&&◌, cond, List, [], ◌∷◌, ℕ, suc, ltb, eqb, length}
use Rattle.basics.specs.Least.{least}
use Rattle.automata.specs.Automaton.{Automaton}
use Rattle.automata.specs.System.{Edge, edge_at}
use Rattle.tables.specs.Made.{table_of}
use Rattle.tables.specs.Table.{flags}

-- the number of the first record with this source; zero where there is none
unfoldable pub first_record : (source : ℕ) → List Edge → ℕ
first_record i es =
    let e = least (length es) (λ e. eqb (edge_at es e).source i) in cond (ltb e (length es)) (suc e) 0

-- the record behind record r + 1, if it has the same source; zero ends the chain
unfoldable pub next_record : (es : List Edge) → (r : ℕ) → ℕ
next_record es r =
    cond (ltb (suc r) (length es) && eqb (edge_at es (suc r)).source (edge_at es r).source) (suc (suc r)) 0

-- the flags of a state
unfoldable pub flags_word : Automaton → (state : ℕ) → ℕ
flags_word a i = flags (a.initial i) (a.accepting i)

unfoldable pub state_row : Automaton → List Edge → (state : ℕ) → List ℕ
state_row a es i = flags_word a i ∷ first_record i es ∷ []

unfoldable pub record_row : List Edge → (r : ℕ) → List ℕ
record_row es r = (edge_at es r).letter ∷ (edge_at es r).target ∷ next_record es r ∷ []

-- the table made of these rows
unfoldable pub chained_words : Automaton → List Edge → List ℕ
chained_words a es = table_of a.states a.letters (length es) (state_row a es) (record_row es)
