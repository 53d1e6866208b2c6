-- The definitions at small values, by computation: the three records of pattern B of docs/RULES.md, with two words left over. Assumes nothing.
use mathlib.Core.Path.{◌≡◌, refl}
use mathlib.Core.List.{List, [], ◌∷◌}
use Prim.Native.Nat.{ℕ}
use lib.ListN.{take}
use Rattle.basics.specs.Tabulate.{tabulate}
use Rattle.automata.specs.System.{number_of}
use Rattle.ncsb.specs.Successors.{quadruple, same}
use Rattle.record_words.specs.Record.{record_words, full_records, quadruple_at, records_of}
use Rattle.records.specs.Records.{blank, records_in, fitted}

words : List ℕ
words = 0 ∷ 1 ∷ 0 ∷ 1 ∷ 0 ∷ 0 ∷ 1 ∷ 0 ∷ 0 ∷ 2 ∷ 0 ∷ 2 ∷ 7 ∷ 7 ∷ []

-- the words left over make no record
three_records : records_in words ≡ quadruple 0 1 0 1 ∷ quadruple 0 0 1 0 ∷ quadruple 0 2 0 2 ∷ []
unfolding words records_in records_of tabulate full_records quadruple_at record_words
three_records = refl

-- a run of four is blank at its end, and a run of two holds the first two
run_of_four : fitted 4 (records_in words) ≡ quadruple 0 1 0 1 ∷ quadruple 0 0 1 0 ∷ quadruple 0 2 0 2 ∷ blank ∷ []
unfolding words records_in records_of tabulate full_records quadruple_at record_words fitted
run_of_four = refl

run_of_two : fitted 2 (records_in words) ≡ quadruple 0 1 0 1 ∷ quadruple 0 0 1 0 ∷ []
unfolding words records_in records_of tabulate full_records quadruple_at record_words fitted
run_of_two = refl

-- a quadruple is found at its first place, and one that is none of them at their count
place_met : number_of same (quadruple 0 2 0 2) (records_in words) ≡ 2
unfolding words records_in records_of tabulate full_records quadruple_at record_words number_of same quadruple
place_met = refl

place_missed : number_of same (quadruple 0 2 0 0) (records_in words) ≡ 3
unfolding words records_in records_of tabulate full_records quadruple_at record_words number_of same quadruple
place_missed = refl

-- among the first four: the words make three records, and what is none of them is answered by 3, a blank quadruple as well
blank_among_four : number_of same blank (take 4 (records_in words)) ≡ 3
unfolding words records_in records_of tabulate full_records quadruple_at record_words number_of same quadruple blank
blank_among_four = refl

another_among_four : number_of same (quadruple 0 2 0 0) (take 4 (records_in words)) ≡ 3
unfolding words records_in records_of tabulate full_records quadruple_at record_words number_of same quadruple
another_among_four = refl
