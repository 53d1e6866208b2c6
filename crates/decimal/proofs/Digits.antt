-- Laws of decimal digits: a number's digits are those of its tenth and one more, and a number of 32 bits has at most ten. Assumes nothing.
use mathlib.Core.Path.{◌≡◌, refl, ◌∙◌, ap}
use mathlib.Core.Bool.{Bool, true, false}
use mathlib.Core.List.{List, [], ◌∷◌, ◌++◌}
use mathlib.Core.Logic.{inl, inr}
use Prim.Native.Nat.{ℕ, zero, suc, ◌+◌, ◌*◌, ◌/◌, ◌%◌, ◌^◌, ◌≤◌, ◌<◌}
use native.Mathlib.Omega.{arith}
use native.Mathlib.Numerals.{add-one}
use native.Mathlib.Nat.{mod-eq_of_lt, pow-suc}
use lib.Dec.{ltb}
use lib.ListN.{length, length-append}
use Rattle.basics.proofs.Booleans.{either, ltb_lt, ltb_ge, lt_ltb, ge_ltb}
use Rattle.std.specs.Prelude.{Option, None, Some, IfNone, IfSome}
use Rattle.std.specs.Option.{unwrap_or}
use Rattle.decimal.specs.Lines.{digit_zero, digits, decimal, number_bytes, Places}

-- by the test
pub digits_one : (k n : ℕ) → ltb n 10 ≡ true → digits (suc k) n ≡ (digit_zero + n) ∷ []
unfolding digits
digits_one k n e = ap (λ (b : Bool). elim b [ true ↦ (digit_zero + n) ∷ [] | false ↦ digits k (n / 10) ++ ((digit_zero + n % 10) ∷ []) ]) e

pub digits_more : (k n : ℕ) → ltb n 10 ≡ false → digits (suc k) n ≡ digits k (n / 10) ++ ((digit_zero + n % 10) ∷ [])
unfolding digits
digits_more k n e = ap (λ (b : Bool). elim b [ true ↦ (digit_zero + n) ∷ [] | false ↦ digits k (n / 10) ++ ((digit_zero + n % 10) ∷ []) ]) e

-- enough digits are enough
digits_same : (a b n : ℕ) → n < a → n < b → digits a n ≡ digits b n
digits_same zero b n l m = absurd (omega arith)
digits_same (suc a) zero n l m = absurd (omega arith)
digits_same (suc a) (suc b) n l m =
    elim (either (ltb n 10)) [
      | inl e ↦ rw (digits_one a n e, digits_one b n e)
      | inr e ↦
          let g = ltb_ge n 10 e in
          rw (digits_more a n e, digits_more b n e, digits_same a b (n / 10) (omega arith) (omega arith))
    ]

-- one digit
pub decimal_one : (n : ℕ) → n < 10 → decimal n ≡ (digit_zero + n) ∷ []
unfolding decimal
decimal_one n l = digits_one n n (lt_ltb l)

-- one digit more
pub decimal_more : (n : ℕ) → 10 ≤ n → decimal n ≡ decimal (n / 10) ++ ((digit_zero + n % 10) ∷ [])
unfolding decimal
decimal_more n l =
    rw (digits_more n n (ge_ltb l), digits_same n (suc (n / 10)) (n / 10) (omega arith) (omega arith))

-- HOW MANY
pub one_place : (n : ℕ) → n < 10 → length (decimal n) ≡ 1
one_place n l = rw (decimal_one n l)

pub one_place_more : (n : ℕ) → 10 ≤ n → length (decimal n) ≡ suc (length (decimal (n / 10)))
one_place_more n l = rw (decimal_more n l) (length-append (decimal (n / 10)) ((digit_zero + n % 10) ∷ []) ∙ add-one (length (decimal (n / 10))))

places_by_power : (k n : ℕ) → 10 ^ k ≤ n → n < 10 * 10 ^ k → length (decimal n) ≡ suc k
places_by_power zero n l m = one_place n (omega arith)
places_by_power (suc k) n l m =
    let s = pow-suc 10 k in
    let low : 10 ^ k ≤ n / 10 = omega arith in
    let high : n / 10 < 10 * 10 ^ k = omega arith in
    one_place_more n (omega arith) ∙ ap suc (places_by_power k (n / 10) low high)

pub places_of :
    (n : ℕ) (power : Option ℕ) → IfNone power (n ≡ 0) → IfSome power (λ k. 10 ^ k ≤ n) → IfSome power (λ k. n < 10 * 10 ^ k) →
    IfSome power (λ k. k < number_bytes) → Places n (unwrap_or power 0 + 1)
places_of n None none low high few =
    let e = one_place n (omega (arith, none)) in record { counted = omega arith; few = omega arith }
places_of n (Some k) none low high few =
    let e = places_by_power k n low high in record { counted = omega arith; few = omega arith }

-- the last so many digits
unfoldable pub last_digits : (count n : ℕ) → List ℕ
last_digits zero n = []
last_digits (suc k) n = last_digits k (n / 10) ++ ((digit_zero + n % 10) ∷ [])

pub length_last : (k n : ℕ) → length (last_digits k n) ≡ k
unfolding last_digits
length_last zero n = refl
length_last (suc k) n = length-append (last_digits k (n / 10)) ((digit_zero + n % 10) ∷ []) ∙ (rw (length_last k (n / 10)) (add-one k))

-- a number's digits are its last ones, as many as there are
digits_last : (f n : ℕ) → n < f → digits f n ≡ last_digits (length (digits f n)) n
unfolding last_digits
digits_last zero n l = absurd (omega arith)
digits_last (suc f) n l =
    elim (either (ltb n 10)) [
      | inl e ↦ let m = mod-eq_of_lt (ltb_lt n 10 e) in rw (digits_one f n e, m)
      | inr e ↦
          let g = ltb_ge n 10 e in
          let h = digits_last f (n / 10) (omega arith) in
          rw (digits_more f n e, length-append (digits f (n / 10)) ((digit_zero + n % 10) ∷ []), add-one)
          (ap (λ (x : List ℕ). x ++ ((digit_zero + n % 10) ∷ [])) h)
    ]

pub decimal_last : (n : ℕ) → decimal n ≡ last_digits (length (decimal n)) n
unfolding decimal
decimal_last n = digits_last (suc n) n (omega arith)
