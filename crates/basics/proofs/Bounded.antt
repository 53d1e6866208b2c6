-- Laws of tests over all numbers below a limit, of counting them, and a pigeonhole. Assumes nothing.
use mathlib.Core.Path.{◌≡◌, refl, sym, ◌∙◌, ap}
use mathlib.Core.Bool.{Bool, true, false, ◌||◌, cond}
use mathlib.Core.Logic.{◌⊎◌, inl, inr}
use Prim.Native.Nat.{ℕ, zero, suc, ◌-◌, ◌≤◌, ◌<◌}
use native.Mathlib.Omega.{arith}
use lib.Dec.{ltb, eqb}
use Rattle.basics.specs.Bounded.{each, any, count}
use Rattle.basics.proofs.Booleans.{either, clash, and_l, and_r, and_make, or_l, or_r, or_none, or_assoc, or_false, eqb_eq, ltb_lt, ltb_ge, eqb_ne, same_or}
use Rattle.basics.proofs.Upward.{upward}

-- one entry more: the last is the new one, and those before it are as they were
pub one_entry_more :
    {A : Type 0} {k : ℕ} {f g : ℕ → A} {x : A} → f k ≡ x → ((i : ℕ) → i < k → f i ≡ g i) → (i : ℕ) → i < suc k →
    ((i ≡ k) × (f i ≡ x)) ⊎ ((i < k) × (f i ≡ g i))
one_entry_more {k} last before i l =
    elim (same_or i k) [
      | inl e ↦ inl (e, rw e last)
      | inr ne ↦ let lt : i < k = omega arith in inr (lt, before i lt)
    ]

-- what holds of each number below the limit
pub each_all : (k : ℕ) (f : ℕ → Bool) → each k f ≡ true → (i : ℕ) → i < k → f i ≡ true
unfolding each
each_all zero f h i l = absurd (omega arith)
each_all (suc k) f h i l =
    elim (same_or i k) [
      | inl e ↦ rw e (and_r (each k f) h)
      | inr ne ↦ each_all k f (and_l (f k) h) i (omega arith)
    ]

pub each_make : (k : ℕ) (f : ℕ → Bool) → ((i : ℕ) → i < k → f i ≡ true) → each k f ≡ true
unfolding each
each_make zero f h = refl
each_make (suc k) f h = and_make (each_make k f (λ i l. h i (omega arith))) (h k (omega arith))

-- search: a number below the limit of which the test holds, or none
pub search_to : (k : ℕ) (f : ℕ → Bool) → ((i : ℕ) × (i < k) × (f i ≡ true)) ⊎ ((i : ℕ) → i < k → f i ≡ false)
search_to zero f = inr (λ i l. absurd (omega arith))
search_to (suc k) f =
    elim (search_to k f) [
      | inl (i, l, e) ↦ inl (i, (omega arith), e)
      | inr none ↦
          elim (either (f k)) [
            | inl e ↦ inl (k, (omega arith), e)
            | inr e ↦ inr (λ i l. elim (same_or i k) [ inl q ↦ rw q e | inr ne ↦ none i (omega arith) ])
          ]
    ]

pub any_make : (k : ℕ) (f : ℕ → Bool) (i : ℕ) → i < k → f i ≡ true → any k f ≡ true
unfolding any
any_make zero f i l e = absurd (omega arith)
any_make (suc k) f i l e =
    elim (same_or i k) [
      | inl q ↦ or_r (any k f) (rw q at e)
      | inr ne ↦ or_l (f k) (any_make k f i (omega arith) e)
    ]

pub any_none : (k : ℕ) (f : ℕ → Bool) → ((i : ℕ) → i < k → f i ≡ false) → any k f ≡ false
unfolding any
any_none zero f h = refl
any_none (suc k) f h = or_false (any_none k f (λ i l. h i (omega arith))) (h k (omega arith))

pub any_find : (k : ℕ) (f : ℕ → Bool) → any k f ≡ true → (i : ℕ) × (i < k) × (f i ≡ true)
any_find k f h = elim (search_to k f) [ inl r ↦ r | inr none ↦ absurd (clash h (any_none k f none)) ]

pub any_no : (k : ℕ) (f : ℕ → Bool) → any k f ≡ false → (i : ℕ) → i < k → f i ≡ false
any_no k f h i l = elim (either (f i)) [ inl e ↦ absurd (clash (any_make k f i l e) h) | inr e ↦ e ]

-- one number more
pub any_zero : (f : ℕ → Bool) → any 0 f ≡ false
unfolding any
any_zero f = refl

pub any_suc : (k : ℕ) (f : ℕ → Bool) → any (suc k) f ≡ (any k f || f k)
unfolding any
any_suc k f = refl

-- a limit beyond the last hit
pub any_past : (j k : ℕ) (f : ℕ → Bool) → j ≤ k → ((i : ℕ) → j ≤ i → f i ≡ false) → any k f ≡ any j f
unfolding any
any_past j k f l none =
    upward (λ k. any k f ≡ any j f) j refl (λ k m same. rw (none k m) (or_none (any k f) ∙ same)) k l

-- the first number apart
pub any_front : (k : ℕ) (f : ℕ → Bool) → any (suc k) f ≡ (f 0 || any k (λ i. f (suc i)))
unfolding any
any_front zero f = sym (or_none (f 0))
any_front (suc k) f =
    ap (λ (b : Bool). b || f (suc k)) (any_front k f) ∙ or_assoc (f 0) (any k (λ i. f (suc i))) (f (suc k))

-- tests that agree below the limit
pub each_same : (k : ℕ) (f g : ℕ → Bool) → ((i : ℕ) → i < k → f i ≡ g i) → each k f ≡ each k g
unfolding each
each_same zero f g h = refl
each_same (suc k) f g h = let a = each_same k f g (λ i l. h i (omega arith)) in let b = h k (omega arith) in cc

pub any_same : (k : ℕ) (f g : ℕ → Bool) → ((i : ℕ) → i < k → f i ≡ g i) → any k f ≡ any k g
unfolding any
any_same zero f g h = refl
any_same (suc k) f g h = let a = any_same k f g (λ i l. h i (omega arith)) in let b = h k (omega arith) in cc

pub count_same : (k : ℕ) (f g : ℕ → Bool) → ((i : ℕ) → i < k → f i ≡ g i) → count k f ≡ count k g
unfolding count
count_same zero f g h = refl
count_same (suc k) f g h = let a = count_same k f g (λ i l. h i (omega arith)) in let b = h k (omega arith) in cc

-- counting
pub count_le : (k : ℕ) (f : ℕ → Bool) → count k f ≤ k
unfolding count
count_le zero f = omega arith
count_le (suc k) f =
    let h = count_le k f in
    elim (either (f k)) [ inl e ↦ rw e (omega arith) | inr e ↦ rw e (omega arith) ]

-- where every hit of f is one of g, there are no more of them
pub count_mono : (k : ℕ) (f g : ℕ → Bool) → ((i : ℕ) → i < k → f i ≡ true → g i ≡ true) → count k f ≤ count k g
unfolding count
count_mono zero f g h = omega arith
count_mono (suc k) f g h =
    let r = count_mono k f g (λ i l. h i (omega arith)) in
    elim (either (f k)) [
      | inl e ↦ let e' = h k (omega arith) e in rw (e, e') (omega arith)
      | inr e ↦ rw e (omega arith)
    ]

-- and fewer, where g has a hit that f has not
pub count_less :
    (k : ℕ) (f g : ℕ → Bool) → ((i : ℕ) → i < k → f i ≡ true → g i ≡ true) → (j : ℕ) → j < k → f j ≡ false → g j ≡ true →
    count k f < count k g
unfolding count
count_less zero f g h j l n y = absurd (omega arith)
count_less (suc k) f g h j l n y =
    elim (same_or j k) [
      | inl e ↦
          let n' : f k ≡ false = rw e at n in
          let y' : g k ≡ true = rw e at y in
          let r = count_mono k f g (λ i l. h i (omega arith)) in rw (n', y') (omega arith)
      | inr ne ↦
          let r = count_less k f g (λ i l. h i (omega arith)) j (omega arith) n y in
          elim (either (f k)) [
            | inl e ↦ let e' = h k (omega arith) e in rw (e, e') (omega arith)
            | inr e ↦ rw e (omega arith)
          ]
    ]

-- the pigeonhole: among n + 1 values below n two are the same
pub pigeonhole :
    (n : ℕ) (f : ℕ → ℕ) → ((i : ℕ) → i ≤ n → f i < n) → (a : ℕ) × (b : ℕ) × (a < b) × (b ≤ n) × (f a ≡ f b)
pigeonhole zero f h = absurd (let l = h 0 (omega arith) in omega arith)
pigeonhole (suc n) f h = go (λ g k. pigeonhole n g k) (search_to (suc n) (λ i. eqb (f i) (f (suc n))))
  where
    -- the last value squeezed out of the others
    squeezed : ℕ → ℕ
    squeezed i = cond (ltb (f (suc n)) (f i)) (f i - 1) (f i)

    back :
        (i j : ℕ) → (f i ≡ f (suc n) → ⊥) → (f j ≡ f (suc n) → ⊥) → squeezed i ≡ squeezed j → f i ≡ f j
    back i j ni nj e =
        elim (either (ltb (f (suc n)) (f i))) [
          | inl p ↦
              elim (either (ltb (f (suc n)) (f j))) [
                | inl q ↦
                    let e' : f i - 1 ≡ f j - 1 = rw (p, q) at e in
                    let lp = ltb_lt (f (suc n)) (f i) p in let lq = ltb_lt (f (suc n)) (f j) q in omega arith
                | inr q ↦
                    let e' : f i - 1 ≡ f j = rw (p, q) at e in
                    let lp = ltb_lt (f (suc n)) (f i) p in let lq = ltb_ge (f (suc n)) (f j) q in absurd (nj (omega arith))
              ]
          | inr p ↦
              elim (either (ltb (f (suc n)) (f j))) [
                | inl q ↦
                    let e' : f i ≡ f j - 1 = rw (p, q) at e in
                    let lp = ltb_ge (f (suc n)) (f i) p in let lq = ltb_lt (f (suc n)) (f j) q in absurd (ni (omega arith))
                | inr q ↦ rw (p, q) at e
              ]
        ]

    small : ((i : ℕ) → i < suc n → eqb (f i) (f (suc n)) ≡ false) → (i : ℕ) → i ≤ n → squeezed i < n
    small none i l =
        let li = h i (omega arith) in
        let ln = h (suc n) (omega arith) in
        let ne = eqb_ne (f i) (f (suc n)) (none i (omega arith)) in
        elim (either (ltb (f (suc n)) (f i))) [
          | inl p ↦ let lp = ltb_lt (f (suc n)) (f i) p in rw p (omega arith)
          | inr p ↦ let lp = ltb_ge (f (suc n)) (f i) p in rw p (omega arith)
        ]

    lift :
        ((i : ℕ) → i < suc n → eqb (f i) (f (suc n)) ≡ false) →
        (a : ℕ) × (b : ℕ) × (a < b) × (b ≤ n) × (squeezed a ≡ squeezed b) →
        (a : ℕ) × (b : ℕ) × (a < b) × (b ≤ suc n) × (f a ≡ f b)
    lift none (a, b, l, m, e) = (
      a,
      b,
      l,
      (omega arith),
      back a b (eqb_ne (f a) (f (suc n)) (none a (omega arith))) (eqb_ne (f b) (f (suc n)) (none b (omega arith))) e,
    )

    go :
        ((g : ℕ → ℕ) → ((i : ℕ) → i ≤ n → g i < n) → (a : ℕ) × (b : ℕ) × (a < b) × (b ≤ n) × (g a ≡ g b)) →
        ((i : ℕ) × (i < suc n) × (eqb (f i) (f (suc n)) ≡ true)) ⊎ ((i : ℕ) → i < suc n → eqb (f i) (f (suc n)) ≡ false) →
        (a : ℕ) × (b : ℕ) × (a < b) × (b ≤ suc n) × (f a ≡ f b)
    go smaller (inl r) = (r.0, suc n, r.1, (omega arith), eqb_eq (f r.0) (f (suc n)) r.2)
    go smaller (inr none) = lift none (smaller squeezed (small none))
