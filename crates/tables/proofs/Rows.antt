-- Every trial table meets the refusal that its row says: one computation over all rows, and what it says of each. Assumes nothing.
use mathlib.Core.Path.{◌≡◌, refl, sym, ◌∙◌}
use mathlib.Core.Bool.{Bool, true, false, not, cond}
use mathlib.Core.List.{List, map}
use Prim.Native.Nat.{ℕ, ◌<◌}
use lib.Dec.{eqb}
use lib.ListN.{length, get_or}
use Rattle.basics.specs.Bounded.{each, count}
use Rattle.basics.specs.Buffers.{or_else}
use Rattle.basics.proofs.Lists.{map_same}
use Rattle.tables.specs.Rows.{Row, pattern, wide, pattern_A, pattern_B, no_initial, forked, doubled, table_rows}
use Rattle.tables.specs.Table.{Limits, pattern_range, wide_range, n_of, k_of, m_of, flags_of, head_of, record_at, letter_of, target_of, next_of, sizes_refusal, flags_good, records_good, named, heads_good, nexts_good, chains_good, table_refusal}

-- the refusal, computed in order: a table that meets 2 to 6 is not looked at further
in_order : Limits → List ℕ → ℕ
in_order r t =
    elim (eqb (sizes_refusal r t) 0) [
      | true ↦ cond (not (flags_good t)) 7 (cond (not (records_good t)) 8 (cond (not (chains_good t)) 9 0))
      | false ↦ sizes_refusal r t
    ]

lazily : (b : Bool) (x y : ℕ) → (elim b as (λ b. ℕ) [ true ↦ x | false ↦ y ]) ≡ cond b x y
lazily true x y = refl
lazily false x y = refl

in_order_right : (r : Limits) (t : List ℕ) → in_order r t ≡ table_refusal r t
unfolding in_order table_refusal or_else
in_order_right r t = lazily (eqb (sizes_refusal r t) 0) _ _

-- the one computation
all_right : map (λ (r : Row). in_order r.range r.words) table_rows ≡ map (λ (r : Row). r.answer) table_rows
unfolding in_order table_rows pattern wide pattern_A pattern_B no_initial forked doubled pattern_range wide_range n_of k_of m_of flags_of head_of record_at letter_of target_of next_of flags_good records_good named heads_good nexts_good chains_good each count
all_right = refl

-- every row is right
pub table_row_right :
    (none : Row) (i : ℕ) → i < length table_rows →
    table_refusal (get_or table_rows i none).range (get_or table_rows i none).words ≡ (get_or table_rows i none).answer
table_row_right none i l =
    let row = get_or table_rows i none in
    sym (in_order_right row.range row.words)
    ∙ map_same (λ (r : Row). in_order r.range r.words) (λ (r : Row). r.answer) table_rows all_right none i l
