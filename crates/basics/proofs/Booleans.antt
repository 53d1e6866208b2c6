-- Laws of Booleans as facts: b ≡ true and b ≡ false. Those of tests of numbers are the logic's own, under the names that they have here.
-- Assumes nothing.
use mathlib.Core.Path.{◌≡◌, refl, sym, ◌∙◌}
use mathlib.Core.Bool.{Bool, true, false, ◌&&◌, ◌||◌, not, true≢false}
use mathlib.Core.Logic.{◌⊎◌, inl, inr}
use Prim.Native.Nat.{ℕ, suc, ◌+◌, ◌≤◌, ◌<◌}
use native.Mathlib.Omega.{arith}
use borrow.Author.Tests as tests
use lib.Dec.{ltb, leb, eqb, T}
pub use mathlib.Core.Bool.{or_assoc, or-false as or_none}
pub use borrow.Author.Tests.{not-true as true_not, not-false as false_not, ltb-true as ltb_lt, ltb-false as ltb_ge, leb-true as leb_le, leb-false as leb_gt, eqb-true as eqb_eq, eqb-false as eqb_ne, ne_eqb}

pub either : (b : Bool) → (b ≡ true) ⊎ (b ≡ false)
either true = inl refl
either false = inr refl

pub clash : {b : Bool} → b ≡ true → b ≡ false → ⊥
clash p q = true≢false (sym p ∙ q)

-- and, or, not
pub and_make : {b c : Bool} → b ≡ true → c ≡ true → (b && c) ≡ true
and_make p q = cc

pub and_l : {b : Bool} (c : Bool) → (b && c) ≡ true → b ≡ true
and_l {b = true} c p = refl
and_l {b = false} c p = p

pub and_r : (b : Bool) {c : Bool} → (b && c) ≡ true → c ≡ true
and_r true p = p
and_r false {c} p = absurd (true≢false (sym p))

pub and_false : (b c : Bool) → (b && c) ≡ false → (b ≡ false) ⊎ (c ≡ false)
and_false true c p = inr p
and_false false c p = inl refl

pub and_false_l : {b : Bool} (c : Bool) → b ≡ false → (b && c) ≡ false
and_false_l c p = cc

pub and_false_r : (b : Bool) {c : Bool} → c ≡ false → (b && c) ≡ false
and_false_r true p = p
and_false_r false p = refl

pub or_l : {b : Bool} (c : Bool) → b ≡ true → (b || c) ≡ true
or_l c p = cc

pub or_r : (b : Bool) {c : Bool} → c ≡ true → (b || c) ≡ true
or_r true p = refl
or_r false p = p

pub or_true : (b c : Bool) → (b || c) ≡ true → (b ≡ true) ⊎ (c ≡ true)
or_true true c p = inl refl
or_true false c p = inr p

pub or_false_l : (b c : Bool) → (b || c) ≡ false → b ≡ false
or_false_l true c p = p
or_false_l false c p = refl

pub or_false_r : (b c : Bool) → (b || c) ≡ false → c ≡ false
or_false_r true c p = absurd (true≢false p)
or_false_r false c p = p

pub or_false : {b c : Bool} → b ≡ false → c ≡ false → (b || c) ≡ false
or_false p q = cc

pub not_true : {b : Bool} → b ≡ true → not b ≡ false
not_true p = cc

pub not_false : {b : Bool} → b ≡ false → not b ≡ true
not_false p = cc

-- two Booleans that are true together are equal
pub same_truth : (b c : Bool) → (b ≡ true → c ≡ true) → (c ≡ true → b ≡ true) → b ≡ c
same_truth true c f g = sym (f refl)
same_truth false true f g = g refl
same_truth false false f g = refl

pub not_both : (b : Bool) → (b ≡ true → ⊥) → b ≡ false
not_both true f = absurd (f refl)
not_both false f = refl

-- a test that was taken or left, as a walk of the code has it
pub T_true : (b : Bool) → T b → b ≡ true
T_true true t = refl
T_true false t = absurd t

pub T_false : (b : Bool) → T (not b) → b ≡ false
T_false true t = absurd t
T_false false t = refl

-- tests of numbers as facts
pub eq_eqb : {m n : ℕ} → m ≡ n → eqb m n ≡ true
eq_eqb {m} {n} p = tests.eq-eqb m n p

pub eqb_self : (n : ℕ) → eqb n n ≡ true
eqb_self n = tests.eq-eqb n n refl

pub lt_ltb : {m n : ℕ} → m < n → ltb m n ≡ true
lt_ltb {m} {n} l = tests.lt-ltb m n l

pub ge_ltb : {m n : ℕ} → n ≤ m → ltb m n ≡ false
ge_ltb {m} {n} l = tests.le-ltb m n l

pub le_leb : {m n : ℕ} → m ≤ n → leb m n ≡ true
le_leb {m} {n} l = tests.le-leb m n l

pub gt_leb : {m n : ℕ} → n < m → leb m n ≡ false
gt_leb {m} {n} l = tests.lt-leb m n l

-- the same number, or not
pub same_or : (x y : ℕ) → (x ≡ y) ⊎ (x ≡ y → ⊥)
same_or x y = elim (either (eqb x y)) [ inl e ↦ inl (eqb_eq x y e) | inr e ↦ inr (eqb_ne x y e) ]

-- below, or not
pub below_or : (i k : ℕ) → (i < k) ⊎ (k ≤ i)
below_or i k = elim (either (ltb i k)) [ inl e ↦ inl (ltb_lt i k e) | inr e ↦ inr (ltb_ge i k e) ]

-- neither of two numbers is above its limit
pub both_within : (a b c d : ℕ) → (ltb a b || ltb c d) ≡ false → (b ≤ a) × (d ≤ c)
both_within a b c d h =
    (ltb_ge a b (or_false_l (ltb a b) (ltb c d) h), ltb_ge c d (or_false_r (ltb a b) (ltb c d) h))

-- one of two numbers is above its limit
pub one_above : (a b c d : ℕ) → (ltb a b || ltb c d) ≡ true → (a < b) ⊎ (c < d)
one_above a b c d h =
    elim (or_true (ltb a b) (ltb c d) h) [ inl e ↦ inl (ltb_lt a b e) | inr e ↦ inr (ltb_lt c d e) ]

-- one number more: of every other one the test stays
pub below_suc : (q k : ℕ) → (q ≡ k → ⊥) → ltb q (suc k) ≡ ltb q k
below_suc q k ne =
    same_truth (ltb q (suc k)) (ltb q k) (λ h. let l = ltb_lt q (suc k) h in lt_ltb {m = q} {n = k} (omega arith))
    (λ h. let l = ltb_lt q k h in lt_ltb {m = q} {n = suc k} (omega arith))

-- two numbers compare as they do with another one before both
pub same_on : (n x y : ℕ) → eqb (n + x) (n + y) ≡ eqb x y
same_on n x y =
    same_truth (eqb (n + x) (n + y)) (eqb x y)
    (λ h. let e = eqb_eq (n + x) (n + y) h in eq_eqb {m = x} {n = y} (omega arith))
    (λ h. let e = eqb_eq x y h in eq_eqb {m = n + x} {n = n + y} (omega arith))

pub below_on : (n x y : ℕ) → ltb (n + x) (n + y) ≡ ltb x y
below_on n x y =
    same_truth (ltb (n + x) (n + y)) (ltb x y)
    (λ h. let l = ltb_lt (n + x) (n + y) h in lt_ltb {m = x} {n = y} (omega arith))
    (λ h. let l = ltb_lt x y h in lt_ltb {m = n + x} {n = n + y} (omega arith))
