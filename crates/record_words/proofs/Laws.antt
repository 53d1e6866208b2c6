-- Records of words: their lengths, reading back what was written, and the room for them. Assumes nothing.
use mathlib.Core.Path.{◌≡◌, refl, ◌∙◌}
use mathlib.Core.List.{List}
use Prim.Native.Nat.{ℕ, ◌+◌, ◌*◌, ◌≤◌, ◌<◌}
use native.Mathlib.Numerals.{add-one, add-two, add-three}
use native.Mathlib.Nat.{add-zero}
use native.Mathlib.Omega.{arith}
use lib.ListN.{length, get_or, set}
use lib.Seq.{length-sets}
use Rattle.basics.specs.Buffers.{filled}
use Rattle.basics.specs.Rows.{rows}
use Rattle.basics.proofs.Filled.{filled_at}
use Rattle.basics.proofs.Rows.{rows_length, rows_at, items_length, items_at}
use Rattle.ncsb.specs.Successors.{quadruple, four_sets}
use Rattle.ncsb.specs.declared.Quadruple.{Quadruple}
use Rattle.record_words.specs.Record.{record_words, words_of, all_words, full_records, quadruple_at, with_quadruple}

-- LENGTHS
pub words_length : (x : Quadruple) → length (words_of x) ≡ record_words
unfolding words_of four_sets record_words
words_length x = refl

pub all_length : (xs : List Quadruple) → length (all_words xs) ≡ record_words * length xs
all_length = items_length words_of words_length

pub with_length : (w : List ℕ) (i : ℕ) (x : Quadruple) → length (with_quadruple w i x) ≡ length w
unfolding with_quadruple
with_length w i x = length-sets w (record_words * i) (words_of x)

pub rows_long : (n : ℕ) (f : ℕ → Quadruple) → length (rows n (λ i. words_of (f i))) ≡ record_words * n
rows_long n f = rows_length record_words n (λ i. words_of (f i)) (λ i l. words_length (f i))

-- THE ROOM
-- so many full records are so many words
pub full_words : (w : List ℕ) (n : ℕ) → n ≤ full_records w → record_words * n ≤ length w
unfolding full_records record_words
full_words w n l = omega arith

-- a record among them lies inside the words
pub inside_words : (w : List ℕ) (n : ℕ) → n < full_records w → record_words * n + record_words ≤ length w
unfolding full_records record_words
inside_words w n l = omega arith

pub words_full : (w : List ℕ) (n : ℕ) → record_words * n ≤ length w → n ≤ full_records w
unfolding full_records record_words
words_full w n l = omega arith

pub full_kept : (w w' : List ℕ) → length w' ≡ length w → full_records w' ≡ full_records w
unfolding full_records
full_kept w w' e = rw e refl

-- WRITING: the words of a record, one by one
pub stored :
    (w : List ℕ) (i : ℕ) (x : Quadruple) →
    set (set (set (set w (4 * i) x.N) (4 * i + 1) x.C) (4 * i + 2) x.S) (4 * i + 3) x.B ≡ with_quadruple w i x
unfolding with_quadruple words_of four_sets record_words
stored w i x = rw (add-one, add-two, add-three) refl

-- READING
-- runs with the same words have the same records
pub same_record : (w w' : List ℕ) → ((j : ℕ) → get_or w j 0 ≡ get_or w' j 0) → (i : ℕ) → quadruple_at w i ≡ quadruple_at w' i
unfolding quadruple_at
same_record w w' h i =
    rw (h (record_words * i), h (record_words * i + 1), h (record_words * i + 2), h (record_words * i + 3)) refl

-- a record whose words are a quadruple's is the quadruple
read_record :
    (w : List ℕ) (i : ℕ) (x : Quadruple) →
    ((j : ℕ) → j < record_words → get_or w (record_words * i + j) 0 ≡ get_or (words_of x) j 0) → quadruple_at w i ≡ x
unfolding quadruple_at quadruple words_of four_sets record_words
read_record w i x h =
    let first = rw add-zero at (h 0 (omega arith)) in rw (first, h 1 (omega arith), h 2 (omega arith), h 3 (omega arith))

-- what was written is read back
pub read_back : (xs : List Quadruple) (d : Quadruple) (i : ℕ) → i < length xs → quadruple_at (all_words xs) i ≡ get_or xs i d
read_back xs d i l = read_record (all_words xs) i (get_or xs i d) (λ j m. items_at words_of words_length xs d i j l m)

-- also from rows of records that a buffer begins with
pub row_back :
    (n : ℕ) (f : ℕ → Quadruple) (w : List ℕ) (i : ℕ) → i < n → quadruple_at (filled (rows n (λ i. words_of (f i))) w) i ≡ f i
row_back n f w i l =
    let records = rows n (λ i. words_of (f i)) in
    read_record (filled records w) i (f i)
    (λ j m.
    filled_at records w (record_words * i + j)
    ∙ rows_at record_words n (λ i. words_of (f i)) (λ i l. words_length (f i)) i j l m)
