-- Every trial merge is answered as its row says, and leaves what it says: one computation over all rows, and what it says of each. Assumes
-- nothing.
use mathlib.Core.Path.{◌≡◌, refl, sym, ap, ◌∙◌}
use mathlib.Core.List.{List, map}
use Prim.Native.Nat.{ℕ, zero, suc, ◌<◌}
use lib.ListN.{length, get_or, replicate, length-replicate}
use Rattle.basics.specs.Bounded.{each, any, count}
use Rattle.basics.specs.Buffers.{or_else, as_written, zeros, filled, after_call}
use Rattle.basics.specs.Joined.{numbered_on}
use Rattle.basics.specs.Rows.{rows}
use Rattle.basics.specs.declared.Written.{Written}
use Rattle.basics.proofs.Lists.{map_same}
use Rattle.sets.specs.Sets.{has, size, set_of}
use Rattle.tables.specs.Made.{table_of}
use Rattle.tables.specs.Rows.{pattern_A, pattern_B, no_initial, forked}
use Rattle.tables.specs.Table.{pattern_range, n_of, k_of, m_of, flags_of, head_of, record_at, letter_of, target_of, next_of, is_accepting, chain_has, edge, meaning, flags_good, records_good, named, heads_good, nexts_good, chains_good, table_refusal}
use Rattle.patterns.specs.Check.{check_refusal}
use Rattle.patterns.specs.Pattern.{targets_of, accepting_states, grown, reached_in, inner_of, forks, semi_deterministic}
use Rattle.merge.specs.Merge.{pair_refusal, merge_refusal, MergeSays}
use Rattle.merge.specs.Merged.{link_on, state_row, record_row, merged_words}
use Rattle.merge.specs.Rows.{MergeRow, merges, refuses, A_with_B, B_with_A, A_with_A, bare, merge_rows}

-- number and count, and the words, which hold 7 at first
abbrev computed : MergeRow → Written × List ℕ
computed r = (
  as_written (merge_refusal r.first r.second r.room) (length (merged_words r.first r.second)),
  after_call (merge_refusal r.first r.second r.room) (merged_words r.first r.second) (replicate r.room 7),
)

abbrev expected : MergeRow → Written × List ℕ
expected r = (r.answer, r.left)

-- the one computation
all_right : map computed merge_rows ≡ map expected merge_rows
unfolding merge_rows merges refuses A_with_B B_with_A A_with_A bare pattern_A pattern_B no_initial forked as_written after_call filled zeros merge_refusal pair_refusal merged_words table_of numbered_on rows state_row record_row link_on check_refusal or_else each any count has size set_of pattern_range n_of k_of m_of flags_of head_of record_at letter_of target_of next_of is_accepting chain_has edge meaning flags_good records_good named heads_good nexts_good chains_good table_refusal targets_of accepting_states grown reached_in inner_of forks semi_deterministic
all_right = refl

-- what a call leaves does not depend on what the words held
whatever_held : (number : ℕ) (x w : List ℕ) → after_call number x (replicate (length w) 7) ≡ after_call number x w
unfolding after_call filled zeros
whatever_held zero x w = rw (length-replicate {A = ℕ} (length w) 7) refl
whatever_held (suc r) x w = rw (length-replicate {A = ℕ} (length w) 7) refl

-- every row is right, with any words of that number lent
pub merge_row_right :
    (none : MergeRow) (i : ℕ) → i < length merge_rows → (w : List ℕ) → length w ≡ (get_or merge_rows i none).room →
    let r = get_or merge_rows i none in MergeSays r.first r.second r.answer w r.left
merge_row_right none i l w long =
    let r = get_or merge_rows i none in
    let same : computed r ≡ expected r = map_same computed expected merge_rows all_right none i l in
    record {
      answer = sym (rw long (ap (λ (x : Written × List ℕ). x.0) same));
      words = sym (ap (λ (x : Written × List ℕ). x.1) same) ∙ rw (sym long) (whatever_held _ _ w);
    }
