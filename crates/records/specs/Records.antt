-- A lent run of records, a quadruple each (docs/RULES.md, "Numbering and result"). Assumes nothing: these are definitions.
use Rattle.std.specs.Prelude.{List, ℕ, get_or}
use Rattle.basics.specs.Tabulate.{tabulate}
use Rattle.ncsb.specs.Successors.{quadruple}
use Rattle.ncsb.specs.declared.Quadruple.{Quadruple}
use Rattle.record_words.specs.Record.{full_records, records_of}

-- what stands where no record is: four empty sets
unfoldable pub blank : Quadruple
blank = quadruple 0 0 0 0

-- the records of words, in order; words left over that make no full record count as none
unfoldable pub records_in : (words : List ℕ) → List Quadruple
records_in w = records_of w (full_records w)

-- so many records that begin with given ones, as many as fit, and are blank beyond them
unfoldable pub fitted : (count : ℕ) → List Quadruple → List Quadruple
fitted n xs = tabulate n (λ i. get_or xs i blank)
