-- What is stored for a state: a record of words in a run of them (docs/RULES.md, "Numbering and result": record i has N, C, S, B). Assumes
-- nothing: these are definitions.
use mathlib.Core.List.{List, flat_map}
use Rattle.std.specs.Prelude.{ℕ, ◌+◌, ◌*◌, ◌/◌, length, get_or}
use Rattle.std.proofs.lemmas.List.Edits.{sets}
use Rattle.basics.specs.Tabulate.{tabulate}
use Rattle.ncsb.specs.Successors.{quadruple, four_sets}
use Rattle.ncsb.specs.declared.Quadruple.{Quadruple}

-- how many words a record has
unfoldable pub record_words : ℕ
record_words = 4

-- the words of a quadruple's record
unfoldable pub words_of : Quadruple → List ℕ
words_of x = four_sets x

-- the records of several, one after the other
abbrev pub all_words : List Quadruple → List ℕ
all_words = flat_map words_of

-- how many full records a run of words holds
unfoldable pub full_records : (words : List ℕ) → ℕ
full_records w = length w / record_words

-- the quadruple of the record with a number
unfoldable pub quadruple_at : (words : List ℕ) → (number : ℕ) → Quadruple
quadruple_at w i =
    quadruple (get_or w (record_words * i) 0) (get_or w (record_words * i + 1) 0) (get_or w (record_words * i + 2) 0)
    (get_or w (record_words * i + 3) 0)

-- the first records, so many
unfoldable pub records_of : (words : List ℕ) → (count : ℕ) → List Quadruple
records_of w n = tabulate n (quadruple_at w)

-- the words once the record with a number holds a quadruple
unfoldable pub with_quadruple : (words : List ℕ) → (number : ℕ) → Quadruple → List ℕ
with_quadruple w i x = sets w (record_words * i) (words_of x)
