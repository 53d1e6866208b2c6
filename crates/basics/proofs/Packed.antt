-- Entries packed into words: one that grows within its base changes no other, and its word does not overflow. Assumes nothing.
use mathlib.Core.Path.{◌≡◌, refl, sym, ap, ◌∙◌}
use mathlib.Core.List.{List}
use mathlib.Core.Logic.{inl, inr}
use Prim.Native.Nat.{ℕ, zero, suc, ◌+◌, ◌*◌, ◌/◌, ◌%◌, ◌^◌, ◌≤◌, ◌<◌}
use native.Mathlib.Omega.{arith}
use native.Mathlib.Nat.{pow-zero, pow-suc, mul-zero, mul-suc, div-one, zero-div, zero-mod, mod-lt, mod-eq_of_lt, one-mul, mul_comm, mul_assoc, add-mul, div-add-mod', div-div-eq-div-mul, add-mul-div_right, div-lt_iff_lt-mul, add-mul-mod_self_right}
use lib.Arith.{digits_lt, digits_div, digits_mod}
use lib.ListN.{length, get_or, length-set}
use lib.Pow.{pow-lt, pow-add}
use lib.Seq.{get_or-set_same, get_or-set_other}
use Rattle.basics.specs.Packed.{digit, packed, raised}
use Rattle.basics.proofs.Booleans.{same_or}

module _ (b : ℕ) (some : 1 ≤ b) where
  -- the digit at the first place, and at the next ones
  digit_first : (a : ℕ) → digit b a 0 ≡ a % b
  unfolding digit
  digit_first a = rw (pow-zero b, div-one a)

  digit_next : (a i : ℕ) → digit b a (suc i) ≡ digit b (a / b) i
  unfolding digit
  digit_next a i = rw (pow-suc b i, mul_comm (b ^ i) b, ← div-div-eq-div-mul a b (b ^ i))

  -- what is added at a later place leaves the first digit, and is added to the rest
  later : (c i : ℕ) → c * b ^ suc i ≡ c * b ^ i * b
  later c i = rw (pow-suc b i, mul_assoc c (b ^ i) b)

  rest : (a c i : ℕ) → (a + c * b ^ suc i) / b ≡ a / b + c * b ^ i
  rest a c i = rw (later c i) (add-mul-div_right a (c * b ^ i) some)

  pub digit_lt : (a i : ℕ) → digit b a i < b
  unfolding digit
  digit_lt a i = mod-lt (a / b ^ i) some

  -- A DIGIT THAT GROWS within its base takes nothing over to the next place
  module _ (c : ℕ) where
    stays : (a : ℕ) → a % b + c < b → ((a + c) / b ≡ a / b) × ((a + c) % b ≡ a % b + c)
    stays a l =
        let whole : a + c ≡ a / b * b + (a % b + c) = (let e = div-add-mod' a b in omega arith) in
        (rw whole (digits_div (a / b) l), rw whole (digits_mod (a / b) l))

    first_place : (a : ℕ) → a + c * b ^ 0 ≡ a + c
    first_place a = rw (pow-zero b) (omega arith)

    grown : (a i : ℕ) → digit b a i + c < b → digit b (a + c * b ^ i) i ≡ digit b a i + c
    grown a zero l = rw (first_place a, digit_first, digit_first) (stays a (rw digit_first at l)).1
    grown a (suc i) l = rw (digit_next, rest a c i, digit_next) (grown (a / b) i (rw digit_next at l))

    others : (a i j : ℕ) → digit b a i + c < b → (j ≡ i → ⊥) → digit b (a + c * b ^ i) j ≡ digit b a j
    others a zero zero l ne = absurd (ne refl)
    others a zero (suc j) l ne = rw (first_place a, digit_next, digit_next, (stays a (rw digit_first at l)).0) refl
    others a (suc i) zero l ne = rw (digit_first, digit_first, later c i) (add-mul-mod_self_right a (c * b ^ i) b)
    others a (suc i) (suc j) l ne =
        rw (digit_next, rest a c i, digit_next) (others (a / b) i j (rw digit_next at l) (λ e. ne (ap suc e)))

    -- the number stays below the same power of the base
    pub digit_fits : (k a i : ℕ) → a < b ^ k → i < k → digit b a i + c < b → a + c * b ^ i < b ^ k
    digit_fits zero a i f l d = absurd (omega arith)
    digit_fits (suc k) a zero f l d =
        let top : a / b < b ^ k = (div-lt_iff_lt-mul some).1 (rw pow-suc at f) in
        let e = div-add-mod' a b in
        let sum : a + c ≡ a / b * b + (a % b + c) = omega arith in
        rw (first_place a, sum, pow-suc b k) (digits_lt top (rw digit_first at d))
    digit_fits (suc k) a (suc i) f l d =
        let top : a / b < b ^ k = (div-lt_iff_lt-mul some).1 (rw pow-suc at f) in
        let more : a / b + c * b ^ i < b ^ k = digit_fits k (a / b) i top (omega arith) (rw digit_next at d) in
        let sum : a + c * b ^ suc i ≡ (a / b + c * b ^ i) * b + a % b =
        (let e = div-add-mod' a b in let p = later c i in let q = add-mul (a / b) (c * b ^ i) b in omega arith) in
        rw (sum, pow-suc b k) (digits_lt more (mod-lt a some))

  -- ENTRIES, so many to a word
  module _ (k : ℕ) where
    pub packed_lt : (w : List ℕ) (x : ℕ) → packed b k w x < b
    unfolding packed
    packed_lt w x = digit_lt (get_or w (x / k) 0) (x % k)

    pub packed_zero : (w : List ℕ) (x : ℕ) → get_or w (x / k) 0 ≡ 0 → packed b k w x ≡ 0
    unfolding packed digit
    packed_zero w x e = rw (e, zero-div, zero-mod) refl

    module _ (w : List ℕ) (x c : ℕ) where
      pub raised_length : length (raised b k w x c) ≡ length w
      unfolding raised
      raised_length = length-set w (x / k) (get_or w (x / k) 0 + c * b ^ (x % k))

      pub raised_beyond : (i : ℕ) → (i ≡ x / k → ⊥) → get_or (raised b k w x c) i 0 ≡ get_or w i 0
      unfolding raised
      raised_beyond i ne = get_or-set_other w (x / k) i (get_or w (x / k) 0 + c * b ^ (x % k)) 0 ne

      module _ (inside : x / k < length w) (within : packed b k w x + c < b) where
        word : get_or (raised b k w x c) (x / k) 0 ≡ get_or w (x / k) 0 + c * b ^ (x % k)
        unfolding raised
        word = get_or-set_same w (x / k) (get_or w (x / k) 0 + c * b ^ (x % k)) 0 inside

        pub packed_raised : packed b k (raised b k w x c) x ≡ packed b k w x + c
        unfolding packed
        packed_raised = rw word (grown c (get_or w (x / k) 0) (x % k) within)

        -- an entry of the same word is another digit, and one of another word is not touched
        pub packed_others : (y : ℕ) → (y ≡ x → ⊥) → packed b k (raised b k w x c) y ≡ packed b k w y
        unfolding packed
        packed_others y ne =
            elim (same_or (y / k) (x / k)) [
              | inl same ↦
                  let apart : y % k ≡ x % k → ⊥ = λ d. ne (sym (div-add-mod' y k) ∙ rw (same, d) (div-add-mod' x k)) in
                  rw (same, word) (others c (get_or w (x / k) 0) (x % k) (y % k) within apart)
              | inr far ↦
                  rw (raised_beyond (y / k) far) refl
            ]

-- a power of a power, as shifts by so many bits count it
pub pow_pow : (a k i : ℕ) → (a ^ k) ^ i ≡ a ^ (k * i)
pow_pow a k zero = rw (pow-zero (a ^ k), mul-zero k, pow-zero a) refl
pow_pow a k (suc i) = rw (pow-suc (a ^ k) i, mul-suc k i, pow-add a (k * i) k, pow_pow a k i) refl

-- 1 << t, in k digits
pub shift_one : (k t : ℕ) → t < k → 1 * 2 ^ t % 2 ^ k ≡ 2 ^ t
shift_one k t l = rw (one-mul (2 ^ t)) (mod-eq_of_lt (pow-lt l))
