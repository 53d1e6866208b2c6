-- Every trial list holds the lassos of its row, and every trial tray is answered as its row says: one computation over all rows of each,
-- and what it says of each row. Assumes nothing.
use mathlib.Core.Path.{◌≡◌, refl, sym, ap}
use mathlib.Core.List.{List, map}
use Prim.Native.Nat.{ℕ, ◌<◌}
use lib.ListN.{length, get_or, replicate, length-replicate}
use Rattle.basics.specs.Bounded.{each, any, count}
use Rattle.basics.specs.Buffers.{or_else, as_written, zeros}
use Rattle.basics.specs.Least.{least}
use Rattle.basics.specs.Tabulate.{tabulate}
use Rattle.basics.specs.declared.Written.{Written}
use Rattle.basics.proofs.Lists.{map_same}
use Rattle.automata.specs.Decision.{takes?, nodes, product, starts, leads, grown_nodes, grow, row, marked, on_cycle}
use Rattle.automata.specs.Lasso.{all_below, positions, position_letter, next_position}
use Rattle.tables.specs.Rows.{pattern_A}
use Rattle.tables.specs.Table.{wide_range, n_of, k_of, m_of, flags, flags_of, head_of, record_at, letter_of, target_of, next_of, is_initial, is_accepting, chain_has, edge, meaning, flags_good, records_good, named, heads_good, nexts_good, chains_good, table_refusal}
use Rattle.lassos.specs.Decision.{as_decision, decision}
use Rattle.lassos.specs.Refusals.{lengths_refusal, parts_refusal, lasso_refusal}
use Rattle.trays.specs.Answers.{list_refusal, tray_refusal, as_byte, byte_of, tray_bytes, TraySays}
use Rattle.trays.specs.Rows.{lasso, ListRow, holds, list_rows, TrayRow, answers, tray_rows}
use Rattle.trays.specs.Tray.{lasso_of, no_more, led_by, tray_in, tray}

-- THE LISTS
lists_right : map (λ (r : ListRow). tray r.words) list_rows ≡ map (λ (r : ListRow). record { lassos = r.lassos; left = r.left }) list_rows
unfolding list_rows holds lasso tray tray_in no_more led_by lasso_of
lists_right = refl

pub list_row_right :
    (none : ListRow) (i : ℕ) → i < length list_rows →
    tray (get_or list_rows i none).words ≡ record { lassos = (get_or list_rows i none).lassos; left = (get_or list_rows i none).left }
list_row_right none i l =
    map_same (λ (r : ListRow). tray r.words) (λ (r : ListRow). record { lassos = r.lassos; left = r.left }) list_rows lists_right none i l

-- THE TRAYS: number and count, and the bytes, which hold 7 at first
abbrev computed : TrayRow → Written × List ℕ
computed r = (
  as_written (tray_refusal wide_range r.table r.words r.bytes) (length (tray r.words).lassos),
  tray_bytes wide_range r.table r.words (replicate r.bytes 7) r.work,
)

abbrev expected : TrayRow → Written × List ℕ
expected r = (r.answer, r.left)

trays_right : map computed tray_rows ≡ map expected tray_rows
unfolding tray_rows answers pattern_A tray tray_in no_more led_by lasso_of list_refusal tray_refusal as_written tray_bytes zeros byte_of as_byte decision as_decision lasso_refusal parts_refusal lengths_refusal all_below takes? nodes product starts leads grown_nodes grow row marked on_cycle positions position_letter next_position or_else wide_range n_of k_of m_of flags flags_of head_of record_at letter_of target_of next_of is_initial is_accepting chain_has edge meaning flags_good records_good named heads_good nexts_good chains_good table_refusal each any count least tabulate
trays_right = refl

pub tray_row_right :
    (none : TrayRow) (i : ℕ) → i < length tray_rows → (w : List ℕ) → length w ≡ (get_or tray_rows i none).work →
    let r = get_or tray_rows i none in TraySays wide_range r.table r.words r.answer (replicate r.bytes 7) r.left w (zeros w)
tray_row_right none i l w long =
    let r = get_or tray_rows i none in
    let same : computed r ≡ expected r = map_same computed expected tray_rows trays_right none i l in
    record {
      answer = sym (rw (length-replicate {A = ℕ} r.bytes 7) (ap (λ (x : Written × List ℕ). x.0) same));
      bytes = sym (rw long (ap (λ (x : Written × List ℕ). x.1) same));
      work = refl;
    }
