-- More laws of counting the numbers below a limit of which a test holds. Assumes nothing.
use mathlib.Core.Path.{◌≡◌, refl, sym}
use mathlib.Core.Bool.{Bool, true, false, ◌&&◌, cond, and-true}
use mathlib.Core.Logic.{inl, inr}
use Prim.Native.Nat.{ℕ, zero, suc, ◌+◌, ◌≤◌, ◌<◌}
use native.Mathlib.Nat.{add-zero, add-suc}
use native.Mathlib.Omega.{arith}
use native.Mathlib.Numerals.{add-one}
use lib.Dec.{ltb, eqb, eqb-suc-suc}
use Rattle.basics.specs.Bounded.{each, count}
use Rattle.basics.proofs.Booleans.{either, clash, and_l, and_make, and_false_r, eqb_self, ne_eqb, lt_ltb, ge_ltb, same_or, below_suc}
use Rattle.basics.proofs.Bounded.{search_to, count_same, count_le, count_less}
use Rattle.basics.proofs.Upward.{upward}

-- the first number apart
pub count_front : (k : ℕ) (f : ℕ → Bool) → count (suc k) f ≡ cond (f 0) 1 0 + count k (λ i. f (suc i))
unfolding count
count_front zero f = omega arith
count_front (suc k) f = let ih = count_front k f in omega arith

-- no hit, no count
pub count_none : (k : ℕ) (f : ℕ → Bool) → ((i : ℕ) → i < k → f i ≡ false) → count k f ≡ 0
unfolding count
count_none zero f h = refl
count_none (suc k) f h =
    let ih = count_none k f (λ i l. h i (omega arith)) in let e = h k (omega arith) in rw e (omega arith)

-- a longer limit counts no less
pub count_longer : (j k : ℕ) (f : ℕ → Bool) → j ≤ k → count j f ≤ count k f
unfolding count
count_longer j k f l = upward (λ k. count j f ≤ count k f) j (omega arith) (λ k m h. omega arith) k l

-- a hit is counted
pub count_hit : (i k : ℕ) (f : ℕ → Bool) → i < k → f i ≡ true → count i f < count k f
unfolding count
count_hit i k f l e =
    let m = count_longer (suc i) k f l in
    let s : count (suc i) f ≡ count i f + 1 = rw e in omega arith

-- a limit beyond the last hit
pub count_past : (j k : ℕ) (f : ℕ → Bool) → j ≤ k → ((i : ℕ) → j ≤ i → f i ≡ false) → count k f ≡ count j f
unfolding count
count_past j k f l h =
    upward (λ k. count k f ≡ count j f) j refl (λ k m same. let out = h k m in rw out (omega arith)) k l

-- the numbers below n, and those behind them
pub count_split : (n m : ℕ) (f : ℕ → Bool) → count (n + m) f ≡ count n f + count m (λ i. f (n + i))
unfolding count
count_split n zero f = rw (add-zero n) (omega arith)
count_split n (suc m) f = let before = count_split n m f in rw (add-suc n m) (omega arith)

-- f and g agree but for one number, a hit of f alone
pub count_one :
    (k : ℕ) (f g : ℕ → Bool) (j : ℕ) → j < k → f j ≡ true → g j ≡ false → ((i : ℕ) → i < k → (i ≡ j → ⊥) → f i ≡ g i) →
    count k f ≡ suc (count k g)
unfolding count
count_one zero f g j l y n h = absurd (omega arith)
count_one (suc k) f g j l y n h =
    elim (same_or j k) [
      | inl s ↦
          let y' : f k ≡ true = rw s at y in
          let n' : g k ≡ false = rw s at n in
          let same = count_same k f g (λ i m. h i (omega arith) (λ q. omega arith)) in rw (y', n') (omega arith)
      | inr d ↦
          let ih = count_one k f g j (omega arith) y n (λ i m. h i (omega arith)) in
          let s = h k (omega arith) (λ q. d (sym q)) in rw s (omega arith)
    ]

-- two different hits are counted twice
pub count_two :
    (k : ℕ) (f : ℕ → Bool) (i j : ℕ) → i < k → j < k → (i ≡ j → ⊥) → f i ≡ true → f j ≡ true → 1 < count k f
count_two k f i j li lj apart hi hj =
    let one =
    count_less k (λ _. false) (λ x. f x && eqb i x) (λ x _ h. absurd (clash h refl)) i li refl (and_make hi (eqb_self i)) in
    let two =
    count_less k (λ x. f x && eqb i x) f (λ x _ h. and_l (eqb i x) h) j lj (and_false_r (f j) (ne_eqb i j apart)) hj in
    omega arith

-- what is counted has a hit
count_some : (k : ℕ) (f : ℕ → Bool) → 0 < count k f → (i : ℕ) × (i < k) × (f i ≡ true)
count_some k f l =
    elim (search_to k f) [ inl r ↦ r | inr none ↦ absurd (let z = count_none k f none in omega arith) ]

-- and what is counted twice has two different ones
pub count_pair :
    (k : ℕ) (f : ℕ → Bool) → 1 < count k f → (i : ℕ) × (j : ℕ) × (i < j) × (j < k) × (f i ≡ true) × (f j ≡ true)
unfolding count
count_pair zero f l = absurd (omega arith)
count_pair (suc k) f l =
    elim (either (f k)) [
      | inl e ↦
          let more : 1 < count k f + 1 = rw e at l in
          let (i, m, h) = count_some k f (omega arith) in (i, k, m, omega arith, h, e)
      | inr e ↦
          let same : 1 < count k f + 0 = rw e at l in
          let (i, j, m, below, h, g) = count_pair k f (omega arith) in (i, j, m, omega arith, h, g)
    ]

-- a test that can hold of one number alone
pub count_only :
    (k : ℕ) (f : ℕ → Bool) (j : ℕ) → ((i : ℕ) → i < k → (i ≡ j → ⊥) → f i ≡ false) →
    count k f ≡ cond (ltb j k && f j) 1 0
unfolding count
count_only zero f j h = let none : ltb j 0 ≡ false = ge_ltb {m = j} {n = 0} (omega arith) in cc
count_only (suc k) f j h =
    let before = count_only k f j (λ i l. h i (omega arith)) in
    elim (same_or j k) [
      | inl at ↦
          let here : ltb j (suc k) ≡ true = lt_ltb {m = j} {n = suc k} (omega arith) in
          let below : ltb j k ≡ false = ge_ltb {m = j} {n = k} (omega arith) in rw (before, here, below, at) (omega arith)
      | inr ne ↦
          let last : f k ≡ false = h k (omega arith) (λ q. omega arith) in
          rw (before, last, below_suc j k ne) (omega arith)
    ]

-- as many hits as numbers is a hit at each
pub count_full : (k : ℕ) (f : ℕ → Bool) → eqb (count k f) k ≡ each k f
unfolding count each
count_full zero f = refl
count_full (suc k) f =
    let h = count_full k f in
    let l = count_le k f in
    elim (either (f k)) [
      | inl e ↦
          let more : eqb (count k f + 1) (suc k) ≡ eqb (count k f) k = rw (add-one (count k f)) (eqb-suc-suc (count k f) k) in
          let full = and-true (each k f) in cc
      | inr e ↦
          let less : eqb (count k f + 0) (suc k) ≡ false = ne_eqb (count k f + 0) (suc k) (λ e. omega arith) in
          let out = and_false_r (each k f) e in cc
    ]
