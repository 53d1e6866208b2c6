-- No number of refusals 2 to 9 is above 9. Assumes nothing.
use mathlib.Core.Bool.{◌&&◌, not}
use mathlib.Core.List.{List}
use Prim.Native.Nat.{ℕ, ◌≤◌}
use native.Mathlib.Omega.{arith}
use lib.Dec.{ltb, leb, eqb}
use lib.ListN.{length}
use Rattle.basics.specs.Buffers.{or_else}
use Rattle.basics.proofs.Refusing.{answer_most}
use Rattle.tables.specs.Table.{most_letters, Limits, table_words, n_of, k_of, m_of, sizes_refusal, flags_good, records_good, chains_good, table_refusal}

module _ (r : Limits) (t : List ℕ) where
  -- the numbers of 2 to 6, and those of 7 to 9 after them, are at most 9
  sizes_most : sizes_refusal r t ≤ 9
  sizes_most =
      answer_most (ltb (length t) 3) 9 (omega arith)
      (answer_most (not (leb 1 (n_of t) && leb (n_of t) r.states)) 9 (omega arith)
      (answer_most (not (leb 1 (k_of t) && leb (k_of t) most_letters)) 9 (omega arith)
      (answer_most (ltb r.records (m_of t)) 9 (omega arith)
      (answer_most (not (eqb (length t) (table_words (n_of t) (m_of t)))) 9 (omega arith) (omega arith)))))

  pub table_most : table_refusal r t ≤ 9
  unfolding table_refusal or_else
  table_most =
      answer_most (eqb (sizes_refusal r t) 0) 9
      (answer_most (not (flags_good t)) 9 (omega arith)
      (answer_most (not (records_good t)) 9 (omega arith) (answer_most (not (chains_good t)) 9 (omega arith) (omega arith))))
      sizes_most
