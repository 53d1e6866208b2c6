-- The records of words, one by one: as many as are full, each as it is read; beyond them blank. Assumes nothing.
use mathlib.Core.Path.{◌≡◌, sym, ◌∙◌}
use mathlib.Core.List.{List}
use Prim.Native.Nat.{ℕ, ◌≤◌, ◌<◌}
use native.Mathlib.Omega.{arith}
use lib.ListN.{length, get_or, get_or-eq_default}
use Rattle.basics.proofs.Tabulate.{tabulate_at, tabulate_length}
use Rattle.ncsb.specs.Successors.{quadruple}
use Rattle.ncsb.specs.declared.Quadruple.{Quadruple}
use Rattle.record_words.specs.Record.{full_records, quadruple_at, records_of}
use Rattle.records.specs.Records.{blank, records_in}

-- how many there are
pub records_length : (w : List ℕ) → length (records_in w) ≡ full_records w
unfolding records_in records_of
records_length w = tabulate_length (full_records w) (quadruple_at w)

-- as the code reads them, x and m being what the record is read as and how many there are
pub record_read :
    (w : List ℕ) (i : ℕ) {x : Quadruple} {m : ℕ} → m ≡ full_records w → i < m → x ≡ quadruple_at w i →
    x ≡ get_or (records_in w) i blank
unfolding records_in records_of
record_read w i e l is =
    let inside : i < full_records w = omega arith in
    is ∙ sym (tabulate_at (full_records w) (quadruple_at w) i blank inside)

pub record_blank :
    (w : List ℕ) (i : ℕ) {m : ℕ} → m ≡ full_records w → m ≤ i →
    ◌≡◌ {A = Quadruple} (record { N = 0; C = 0; S = 0; B = 0 }) (get_or (records_in w) i blank)
unfolding blank quadruple
record_blank w i e l =
    let long = records_length w in
    let past : length (records_in w) ≤ i = omega arith in
    sym (get_or-eq_default (records_in w) _ past)
