-- Reading undoes writing: the numbers of a line are read back from it. Assumes nothing.
use mathlib.Core.Path.{◌≡◌, refl, ◌∙◌, ap}
use mathlib.Core.Bool.{true, false}
use mathlib.Core.List.{List, [], ◌∷◌, ◌++◌, append_assoc, append-nil}
use mathlib.Core.Logic.{inl, inr}
use mathlib.Core.Option.{some}
use Prim.Native.Nat.{ℕ, zero, suc, ◌+◌, ◌*◌, ◌-◌, ◌/◌, ◌%◌, ◌≤◌, ◌<◌}
use native.Mathlib.Omega.{arith}
use lib.Dec.{ltb}
use lib.ListN.{length, get_or, length-append}
use Rattle.basics.proofs.Booleans.{either, and_make, lt_ltb, le_leb, ltb_lt, ltb_ge, ne_eqb, or_false}
use Rattle.decimal.specs.Lines.{digit_zero, space, newline, digits, decimal, line}
use Rattle.decimal.specs.Reading.{Bounds, is_blank, is_digit, Scan, between, under_way, ended, longer, with_byte, scan, numbers_of, read_numbers}
use Rattle.decimal.proofs.Digits.{digits_one, digits_more}
use Rattle.decimal.proofs.Scanning.{scan_append, with_digit, with_blank}

-- a digit's byte
no_blank : (d : ℕ) → d < 10 → is_blank (digit_zero + d) ≡ false
unfolding is_blank
no_blank d l = or_false (ne_eqb (digit_zero + d) space (λ e. omega arith)) (ne_eqb (digit_zero + d) newline (λ e. omega arith))

a_digit : (d : ℕ) → d < 10 → is_digit (digit_zero + d) ≡ true
unfolding is_digit
a_digit d l =
    let low : digit_zero ≤ digit_zero + d = omega arith in let high : digit_zero + d ≤ digit_zero + 9 = omega arith in and_make (le_leb low) (le_leb high)

module _ (b : Bounds) where
  -- one digit more of a number that is not too large, where there is room for it
  digit_read :
      (s : Scan) (d : ℕ) → d < 10 → s.failed ≡ false → length s.numbers < b.most → 10 * s.value + d ≤ b.largest →
      with_byte b s (digit_zero + d) ≡ under_way s.numbers (10 * s.value + d)
  unfolding longer
  digit_read s d l f m n =
      let e : (digit_zero + d) - digit_zero ≡ d = omega arith in
      let t = and_make (lt_ltb m) (le_leb n) in
      with_digit b s (digit_zero + d) f (no_blank d l) (a_digit d l) ∙ rw (e, t)

  last_read :
      (n : ℕ) (xs : List ℕ) → n ≤ b.largest → length xs < b.most → with_byte b (under_way xs (n / 10)) (digit_zero + n % 10) ≡ under_way xs n
  unfolding under_way
  last_read n xs m k =
      let e : 10 * (n / 10) + n % 10 ≡ n = omega arith in
      digit_read (under_way xs (n / 10)) (n % 10) (omega arith) refl k (omega arith) ∙ ap (under_way xs) e

  digits_read :
      (f n : ℕ) (xs : List ℕ) → n < f → n ≤ b.largest → length xs < b.most → scan b (between xs) (digits f n) ≡ under_way xs n
  unfolding scan between
  digits_read zero n xs l m k = absurd (omega arith)
  digits_read (suc f) n xs l m k =
      elim (either (ltb n 10)) [
        | inl e ↦ rw (digits_one f n e) (digit_read (between xs) n (ltb_lt n 10 e) refl k (omega arith) ∙ (let z : 0 + n ≡ n = omega arith in ap (under_way xs) z))
        | inr e ↦
            let g = ltb_ge n 10 e in
            let h = digits_read f (n / 10) xs (omega arith) (omega arith) k in
            rw (digits_more f n e) (scan_append b (between xs) (digits f (n / 10)) ((digit_zero + n % 10) ∷ []) ∙ (rw h (last_read n xs m k)))
      ]

  -- a number and the blank behind it
  field_read :
      (n : ℕ) (xs rest : List ℕ) (c : ℕ) → n ≤ b.largest → length xs < b.most → is_blank c ≡ true →
      scan b (between xs) (decimal n ++ (c ∷ rest)) ≡ scan b (between (xs ++ (n ∷ []))) rest
  unfolding scan decimal under_way ended
  field_read n xs rest c m k f =
      scan_append b (between xs) (digits (suc n) n) (c ∷ rest)
      ∙ (rw (digits_read (suc n) n xs (omega arith) m k) (rw (with_blank b (under_way xs n) c refl f)))

  -- the numbers of a line, behind others
  line_read :
      (xs ys : List ℕ) → ((i : ℕ) → i < length xs → get_or xs i 0 ≤ b.largest) → length ys + length xs ≤ b.most →
      scan b (between ys) (line xs) ≡ between (ys ++ xs)
  unfolding line scan is_blank with_byte ended between
  line_read [] ys small few = rw (append-nil ys)
  line_read (x ∷ []) ys small few = field_read x ys [] newline (small 0 (omega arith)) (omega arith) refl
  line_read (x ∷ y ∷ xs) ys small few =
      field_read x ys (line (y ∷ xs)) space (small 0 (omega arith)) (omega arith) refl
      ∙ line_read (y ∷ xs) (ys ++ (x ∷ [])) (λ i l. small (suc i) (omega arith)) (simp length-append (omega arith))
      ∙ ap between (append_assoc ys (x ∷ []) (y ∷ xs))

  -- READING UNDOES WRITING: numbers that are not too large, and not too many, are read back from their line
  pub reading_back :
      (xs : List ℕ) → ((i : ℕ) → i < length xs → get_or xs i 0 ≤ b.largest) → length xs ≤ b.most → read_numbers b (line xs) ≡ some xs
  unfolding read_numbers numbers_of ended between
  reading_back xs small few = rw (line_read xs [] small (omega arith))
