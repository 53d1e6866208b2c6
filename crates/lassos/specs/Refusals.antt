-- What the lasso decision refuses (docs/RULES.md, "Refusals": 2 to 9 in a range, for the call the wide one, then 13 to 16). Assumes nothing: these are definitions.
use Rattle.std.specs.Prelude.{◌&&◌, ◌||◌, not, cond, List, ℕ, ◌+◌, ◌*◌, ltb, eqb, length}
use Rattle.basics.specs.Buffers.{or_else}
use Rattle.automata.specs.Lasso.{all_below}
use Rattle.tables.specs.Table.{Limits, n_of, k_of, table_refusal}
pub use Rattle.lasso_search.specs.Width.{longest_part}

-- 13 and 14, by how many letters the prefix and the loop have
unfoldable pub lengths_refusal : (prefix loop : ℕ) → ℕ
lengths_refusal p l = cond (eqb l 0) 13 (cond (ltb longest_part p || ltb longest_part l) 14 0)

-- 13 to 16, for a table of n states and k letters and so many work words
unfoldable pub parts_refusal : (n k : ℕ) → (u v : List ℕ) → (work : ℕ) → ℕ
parts_refusal n k u v w =
    or_else (lengths_refusal (length u) (length v))
    (cond (not (all_below k u && all_below k v)) 15
    (cond (ltb w (4 * n * (length u + length v))) 16 0))

-- 2 to 9 in a range, then those
unfoldable pub lasso_refusal : Limits → (t u v : List ℕ) → (work : ℕ) → ℕ
lasso_refusal r t u v w = or_else (table_refusal r t) (parts_refusal (n_of t) (k_of t) u v w)
