-- Members of sets of states: what the operations on numbers do to each member, when two sets are equal, and bounds. Assumes nothing.
-- Halving carries the laws between a number and its members: state 0 is the lowest digit, and state q + 1 of a set is state q of its half.
use mathlib.Core.Path.{◌≡◌, refl, sym, ◌∙◌, ap}
use mathlib.Core.Bool.{Bool, true, false, ◌&&◌, ◌||◌, not, cond}
use mathlib.Core.Logic.{inl, inr}
use Prim.Native.Nat.{ℕ, zero, suc, ◌+◌, ◌-◌, ◌*◌, ◌/◌, ◌%◌, ◌^◌, ◌≤◌, ◌<◌, min, max}
use native.Mathlib.Omega.{arith}
use native.Mathlib.Nat.{pow-suc, div-div-eq-div-mul, div-eq_of_lt, pow-succ', div-one, add_comm, zero-add, lt_of_lt_of_le, lt_of_le_of_lt, sub-le}
use lib.Dec.{eqb, ltb, eqb-zero-suc, eqb-suc-zero, eqb-suc-suc}
use lib.Arith.{mod-mul}
use lib.Pow.{pow_pos, pow_mono}
use lib.Bits.{bit_and, bit_or, and_step, or_step, and_le_l, or_lt, or_disjoint}
use Rattle.basics.specs.Bounded.{any}
use Rattle.basics.proofs.Booleans.{either, and_l, and_r, and_make, or_l, or_r, or_true, clash, eqb_eq, eq_eqb, eqb_ne, ne_eqb, lt_ltb, ge_ltb, or_none, same_truth, same_or, below_or, below_suc}
use Rattle.basics.proofs.Bounded.{any_find, any_make, search_to}
use Rattle.basics.proofs.Upward.{upward}
use Rattle.sets.specs.Sets.{has, without, set_of, union}

-- halving
pub has_first : (s : ℕ) → has s 0 ≡ eqb (s % 2) 1
unfolding has
has_first s = rw (div-one s)

pub has_half : (s q : ℕ) → has s (suc q) ≡ has (s / 2) q
unfolding has
has_half s q = rw (pow-succ' 2 q, div-div-eq-div-mul s 2 (2 ^ q))

-- the lowest digit, by whether state 0 is in the set
pub first_in : (s : ℕ) → has s 0 ≡ true → s % 2 ≡ 1
first_in s h = eqb_eq (s % 2) 1 (sym (has_first s) ∙ h)

pub first_out : (s : ℕ) → has s 0 ≡ false → s % 2 ≡ 0
first_out s h = let n = eqb_ne (s % 2) 1 (sym (has_first s) ∙ h) in omega arith

pub first_made : (s : ℕ) → s % 2 ≡ 1 → has s 0 ≡ true
first_made s h = has_first s ∙ eq_eqb h

pub first_unmade : (s : ℕ) → s % 2 ≡ 0 → has s 0 ≡ false
first_unmade s h = has_first s ∙ ne_eqb (s % 2) 1 (λ e. omega arith)

-- the empty set
pub has_zero : (q : ℕ) → has 0 q ≡ false
has_zero zero = first_unmade 0 refl
has_zero (suc q) = has_half 0 q ∙ has_zero q

-- AN OPERATION DIGIT BY DIGIT: halving goes through it, and its lowest digit is that of the lowest digits. So each state is decided by itself
two_digits : (P : ℕ → ℕ → Type 0) → P 0 0 → P 0 1 → P 1 0 → P 1 1 → (a b : ℕ) → P (a % 2) (b % 2)
two_digits P both_out last first both_in a b =
    elim (same_or (a % 2) 0) [
      | inl x ↦
          elim (same_or (b % 2) 0) [
            | inl y ↦ rw (x, y) both_out
            | inr n ↦ let y : b % 2 ≡ 1 = omega arith in rw (x, y) last
          ]
      | inr m ↦
          let x : a % 2 ≡ 1 = omega arith in
          elim (same_or (b % 2) 0) [
            | inl y ↦ rw (x, y) first
            | inr n ↦ let y : b % 2 ≡ 1 = omega arith in rw (x, y) both_in
          ]
    ]

by_digits :
    (op digit : ℕ → ℕ → ℕ) (f : Bool → Bool → Bool) → ((a b : ℕ) → op a b / 2 ≡ op (a / 2) (b / 2)) →
    ((a b : ℕ) → op a b % 2 ≡ digit (a % 2) (b % 2)) →
    ((a b : ℕ) → eqb (digit (a % 2) (b % 2)) 1 ≡ f (eqb (a % 2) 1) (eqb (b % 2) 1)) →
    (a b q : ℕ) → has (op a b) q ≡ f (has a q) (has b q)
by_digits op digit f half low table a b zero = rw (has_first, low a b, has_first a, has_first b) (table a b)
by_digits op digit f half low table a b (suc q) =
    rw (has_half, half a b, has_half a q, has_half b q) (by_digits op digit f half low table (a / 2) (b / 2) q)

-- meet and join
pub has_and : (a b q : ℕ) → has (bit_and a b) q ≡ (has a q && has b q)
has_and =
    by_digits bit_and min ◌&&◌ (λ a b. let h = and_step a b in omega arith) (λ a b. let h = and_step a b in omega arith)
    (two_digits (λ x y. eqb (min x y) 1 ≡ (eqb x 1 && eqb y 1)) refl refl refl refl)

pub has_or : (a b q : ℕ) → has (bit_or a b) q ≡ (has a q || has b q)
has_or =
    by_digits bit_or max ◌||◌ (λ a b. let h = or_step a b in omega arith) (λ a b. let h = or_step a b in omega arith)
    (two_digits (λ x y. eqb (max x y) 1 ≡ (eqb x 1 || eqb y 1)) refl refl refl refl)

-- what is in a and not in b
pub has_without : (a b q : ℕ) → has (without a b) q ≡ (has a q && not (has b q))
unfolding without
has_without =
    by_digits without (λ x y. x - min x y) (λ x y. x && not y)
    (λ a b. let h = and_step a b in let l = and_le_l (a / 2) (b / 2) in omega arith)
    (λ a b. let h = and_step a b in let l = and_le_l (a / 2) (b / 2) in omega arith)
    (two_digits (λ x y. eqb (x - min x y) 1 ≡ (eqb x 1 && not (eqb y 1))) refl refl refl refl)

pub without_le : (a b : ℕ) → without a b ≤ a
unfolding without
without_le a b = sub-le a (bit_and a b)

pub without_lt : (k a b : ℕ) → a < 2 ^ k → without a b < 2 ^ k
without_lt k a b l = lt_of_le_of_lt (without_le a b) l

-- the set of one state
pub has_single : (p q : ℕ) → has (2 ^ p) q ≡ eqb p q
has_single zero zero = first_made 1 refl
has_single zero (suc q) = has_half 1 q ∙ has_zero q ∙ sym (eqb-zero-suc q)
has_single (suc p) zero =
    let h = pow-suc 2 p in first_unmade (2 ^ suc p) (omega arith) ∙ sym (eqb-suc-zero p)
has_single (suc p) (suc q) =
    let h = pow-suc 2 p in
    let e : 2 ^ suc p / 2 ≡ 2 ^ p = omega arith in
    has_half (2 ^ suc p) q ∙ ap (λ (s : ℕ). has s q) e ∙ has_single p q ∙ sym (eqb-suc-suc p q)

-- a set below 2 ^ k has no state from k on
pub has_out : (k s q : ℕ) → s < 2 ^ k → k ≤ q → has s q ≡ false
unfolding has
has_out k s q l m =
    let e : s / 2 ^ q ≡ 0 = div-eq_of_lt (lt_of_lt_of_le l (pow_mono m)) in rw e

-- so a member is below k
pub has_lt : (k s q : ℕ) → s < 2 ^ k → has s q ≡ true → q < k
has_lt k s q l h =
    elim (below_or q k) [
      | inl e ↦ e
      | inr e ↦ absurd (clash h (has_out k s q l e))
    ]

-- sets with the same members are equal
pub ext : (k a b : ℕ) → a < 2 ^ k → b < 2 ^ k → ((q : ℕ) → q < k → has a q ≡ has b q) → a ≡ b
ext zero a b la lb h = omega arith
ext (suc k) a b la lb h =
    let p = pow-suc 2 k in
    let halves =
    ext k (a / 2) (b / 2) (omega arith) (omega arith)
    (λ q l. sym (has_half a q) ∙ h (suc q) (omega arith) ∙ has_half b q) in
    let first : has a 0 ≡ has b 0 = h 0 (omega arith) in
    elim (either (has a 0)) [
      | inl x ↦ let da = first_in a x in let db = first_in b (sym first ∙ x) in omega arith
      | inr x ↦ let da = first_out a x in let db = first_out b (sym first ∙ x) in omega arith
    ]

-- so are two sets of which each has the other's members
pub ext_both :
    (k a b : ℕ) → a < 2 ^ k → b < 2 ^ k → ((q : ℕ) → q < k → has a q ≡ true → has b q ≡ true) →
    ((q : ℕ) → q < k → has b q ≡ true → has a q ≡ true) → a ≡ b
ext_both k a b la lb f g = ext k a b la lb (λ q l. same_truth (has a q) (has b q) (f q l) (g q l))

-- a number is below its own power of two
pub lt_pow : (s : ℕ) → s < 2 ^ s
lt_pow zero = omega arith
lt_pow (suc s) = let ih = lt_pow s in let p = pow-suc 2 s in omega arith

pub ext_all : (a b : ℕ) → ((q : ℕ) → has a q ≡ has b q) → a ≡ b
ext_all a b h =
    let la = lt_of_lt_of_le (lt_pow a) (pow_mono {i = a} {j = a + b} (omega arith)) in
    let lb = lt_of_lt_of_le (lt_pow b) (pow_mono {i = b} {j = a + b} (omega arith)) in
    ext (a + b) a b la lb (λ q l. h q)

-- a set is empty exactly if it has no member
pub empty : (k s : ℕ) → s < 2 ^ k → ((q : ℕ) → q < k → has s q ≡ false) → s ≡ 0
empty k s l h = ext k s 0 l (pow_pos k) (λ q m. h q m ∙ sym (has_zero q))

pub empty_no : (s q : ℕ) → s ≡ 0 → has s q ≡ false
empty_no s q e = rw e (has_zero q)

pub has_nonzero : (s q : ℕ) → has s q ≡ true → s ≡ 0 → ⊥
has_nonzero s q h e = clash h (empty_no s q e)

pub has_some : (k s : ℕ) → s < 2 ^ k → (s ≡ 0 → ⊥) → (q : ℕ) × (q < k) × (has s q ≡ true)
has_some k s l n = elim (search_to k (has s)) [ inl r ↦ r | inr none ↦ absurd (n (empty k s l none)) ]

in_or_out : (b c : Bool) → ((b && c) || (b && not c)) ≡ b
in_or_out true true = refl
in_or_out true false = refl
in_or_out false c = refl

-- a set is what it has within another, and what it has without it
pub within_or_without : (a b : ℕ) → bit_or (bit_and a b) (without a b) ≡ a
within_or_without a b =
    ext_all (bit_or (bit_and a b) (without a b)) a
    (λ q.
    let both = in_or_out (has a q) (has b q) in
    cc (has_or (bit_and a b) (without a b) q, has_and a b q, has_without a b q))

-- two sets have no state in common exactly if their meet is empty
pub apart_make : (a b : ℕ) → ((q : ℕ) → has a q ≡ true → has b q ≡ false) → bit_and a b ≡ 0
apart_make a b apart =
    ext_all (bit_and a b) 0
    (λ q.
    elim (either (has a q)) [
      | inl h ↦ let n = apart q h in cc (has_and a b q, has_zero q)
      | inr h ↦ cc (has_and a b q, has_zero q)
    ])

pub apart_has : (a b q : ℕ) → bit_and a b ≡ 0 → has a q ≡ true → has b q ≡ false
apart_has a b q e h = let n = empty_no (bit_and a b) q e in cc (has_and a b q)

-- sets with no state in common add
pub sum_join : (a b : ℕ) → ((q : ℕ) → has a q ≡ true → has b q ≡ false) → a + b ≡ bit_or a b
sum_join a b apart = sym (or_disjoint a b (apart_make a b apart))

pub has_sum :
    (a b : ℕ) → ((q : ℕ) → has a q ≡ true → has b q ≡ false) → (q : ℕ) → has (a + b) q ≡ (has a q || has b q)
has_sum a b apart q = ap (λ (s : ℕ). has s q) (sum_join a b apart) ∙ has_or a b q

-- a state put into a set that has it not
pub has_put : (b : Bool) (t s q : ℕ) → has s t ≡ false → has (cond b (2 ^ t) 0 + s) q ≡ (b && eqb t q || has s q)
has_put true t s q out =
    let h =
    has_sum (2 ^ t) s (λ p m. rw (← eqb_eq t p (sym (has_single t p) ∙ m)) out) q in cc (h, has_single t q)
has_put false t s q out = rw (zero-add s)

-- state k put into a set of smaller ones
pub has_top : (k s q : ℕ) → s < 2 ^ k → has (2 ^ k + s) q ≡ (eqb k q || has s q)
has_top k s q l = has_put true k s q (has_out k s k l (omega arith))

mod_low : (k s : ℕ) → s % 2 ^ suc k ≡ s / 2 % 2 ^ k * 2 + s % 2
mod_low k s = rw (pow-suc 2 k) (mod-mul s (pow_pos k) (omega arith))

-- the low digits of a number, and its members below them
pub has_mod : (k s q : ℕ) → q < k → has (s % 2 ^ k) q ≡ has s q
has_mod zero s q l = absurd (omega arith)
has_mod (suc k) s zero l =
    let e = mod_low k s in
    let d : s % 2 ^ suc k % 2 ≡ s % 2 = omega arith in
    has_first (s % 2 ^ suc k) ∙ ap (λ (n : ℕ). eqb n 1) d ∙ sym (has_first s)
has_mod (suc k) s (suc q) l =
    let e = mod_low k s in
    let h : s % 2 ^ suc k / 2 ≡ s / 2 % 2 ^ k = omega arith in
    has_half (s % 2 ^ suc k) q ∙ ap (λ (n : ℕ). has n q) h ∙ has_mod k (s / 2) q (omega arith) ∙ sym (has_half s q)

-- the set of the states below the limit of which a test holds
pub set_of_lt : (k : ℕ) (f : ℕ → Bool) → set_of k f < 2 ^ k
unfolding set_of
set_of_lt zero f = omega arith
set_of_lt (suc k) f =
    let ih = set_of_lt k f in
    let p = pow-suc 2 k in
    elim (either (f k)) [ inl e ↦ rw e (omega arith) | inr e ↦ rw e (omega arith) ]

pub has_set_of : (k : ℕ) (f : ℕ → Bool) (q : ℕ) → has (set_of k f) q ≡ (ltb q k && f q)
unfolding set_of
has_set_of zero f q = let e : ltb q 0 ≡ false = ge_ltb {m = q} {n = 0} (omega arith) in rw e (has_zero q)
has_set_of (suc k) f q =
    let ih = has_set_of k f q in
    let a = has_put (f k) k (set_of k f) q (has_out k (set_of k f) k (set_of_lt k f) (omega arith)) in
    let turned = add_comm (set_of k f) (cond (f k) (2 ^ k) 0) in
    elim (either (eqb k q)) [
      | inl e ↦
          let same = eqb_eq k q e in
          let below : ltb q (suc k) ≡ true = lt_ltb {m = q} {n = suc k} (omega arith) in
          let out : ltb q k ≡ false = ge_ltb {m = q} {n = k} (omega arith) in
          elim (either (f k)) [ inl y ↦ cc | inr y ↦ cc ]
      | inr e ↦
          let below = below_suc q k (λ s. eqb_ne k q e (sym s)) in
          elim (either (f k)) [ inl y ↦ cc | inr y ↦ cc ]
    ]

-- a member passes the test, and what passes is a member
pub set_of_back : (k : ℕ) (f : ℕ → Bool) (q : ℕ) → has (set_of k f) q ≡ true → f q ≡ true
set_of_back k f q h = and_r (ltb q k) (sym (has_set_of k f q) ∙ h)

pub set_of_make : (k : ℕ) (f : ℕ → Bool) (q : ℕ) → q < k → f q ≡ true → has (set_of k f) q ≡ true
set_of_make k f q l h = has_set_of k f q ∙ and_make (lt_ltb l) h

-- where it passes numbers below the limit alone, to be a member is to pass
pub set_of_test : (k : ℕ) (f : ℕ → Bool) → ((q : ℕ) → f q ≡ true → q < k) → (q : ℕ) → has (set_of k f) q ≡ f q
set_of_test k f inside q = same_truth (has (set_of k f) q) (f q) (set_of_back k f q) (λ h. set_of_make k f q (inside q h) h)

-- tests that agree below the limit
pub set_of_same : (k : ℕ) (f g : ℕ → Bool) → ((q : ℕ) → q < k → f q ≡ g q) → set_of k f ≡ set_of k g
unfolding set_of
set_of_same zero f g h = refl
set_of_same (suc k) f g h = let ih = set_of_same k f g (λ q l. h q (omega arith)) in let e = h k (omega arith) in cc

-- the rows of the members, joined
pub union_lt : (n k s : ℕ) (row : ℕ → ℕ) → ((q : ℕ) → row q < 2 ^ n) → union k s row < 2 ^ n
unfolding union
union_lt n zero s row h = pow_pos n
union_lt n (suc k) s row h =
    let ih = union_lt n k s row h in
    elim (either (has s k)) [ inl e ↦ rw e (or_lt n (union k s row) (row k) ih (h k)) | inr e ↦ rw e ih ]

pub has_union :
    (k s : ℕ) (row : ℕ → ℕ) (r : ℕ) → has (union k s row) r ≡ any k (λ q. has s q && has (row q) r)
unfolding union any
has_union zero s row r = has_zero r
has_union (suc k) s row r =
    let ih = has_union k s row r in
    let j = has_or (union k s row) (row k) r in
    elim (either (has s k)) [
      | inl e ↦ cc
      | inr e ↦ rw e (ih ∙ sym (or_none (any k (λ q. has s q && has (row q) r))))
    ]

-- of two sets joined: the rows of the one and of the other
pub has_union_or :
    (k s t : ℕ) (row : ℕ → ℕ) (r : ℕ) →
    has (union k (bit_or s t) row) r ≡ (has (union k s row) r || has (union k t row) r)
has_union_or k s t row r =
    same_truth (has (union k (bit_or s t) row) r) (has (union k s row) r || has (union k t row) r) down up
  where
    from : (u : ℕ) → has (union k u row) r ≡ true → (q : ℕ) × (q < k) × (has u q ≡ true) × (has (row q) r ≡ true)
    from u h =
        let (q, l, e) = any_find k (λ q. has u q && has (row q) r) (sym (has_union k u row r) ∙ h) in
        (q, l, and_l (has (row q) r) e, and_r (has u q) e)

    into : (u q : ℕ) → q < k → has u q ≡ true → has (row q) r ≡ true → has (union k u row) r ≡ true
    into u q l m e = has_union k u row r ∙ any_make k (λ q. has u q && has (row q) r) q l (and_make m e)

    down : has (union k (bit_or s t) row) r ≡ true → (has (union k s row) r || has (union k t row) r) ≡ true
    down h =
        let (q, l, m, e) = from (bit_or s t) h in
        elim (or_true (has s q) (has t q) (sym (has_or s t q) ∙ m)) [
          | inl i ↦ or_l (has (union k t row) r) (into s q l i e)
          | inr i ↦ or_r (has (union k s row) r) (into t q l i e)
        ]

    up : (has (union k s row) r || has (union k t row) r) ≡ true → has (union k (bit_or s t) row) r ≡ true
    up h =
        elim (or_true (has (union k s row) r) (has (union k t row) r) h) [
          | inl i ↦ let (q, l, m, e) = from s i in into (bit_or s t) q l (has_or s t q ∙ or_l (has t q) m) e
          | inr i ↦ let (q, l, m, e) = from t i in into (bit_or s t) q l (has_or s t q ∙ or_r (has s q) m) e
        ]

-- states beyond those that the set may have
pub union_past : (n k s : ℕ) (row : ℕ → ℕ) → s < 2 ^ n → n ≤ k → union k s row ≡ union n s row
unfolding union
union_past n k s row small l =
    upward (λ k. union k s row ≡ union n s row) n refl (λ k m same. rw (has_out n s k small m) same) k l
