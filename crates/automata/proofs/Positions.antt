-- Laws of a lasso's positions: each place of u·v·v·v… has a position of u or v with the same letter, and each letter of a
-- lasso is one of its alphabet. Assumes nothing.
use mathlib.Core.Path.{◌≡◌, refl, sym, ◌∙◌, ap}
use mathlib.Core.Bool.{true}
use mathlib.Core.List.{List, ◌++◌}
use mathlib.Core.Logic.{inl, inr}
use Prim.Native.Nat.{ℕ, zero, suc, ◌+◌, ◌-◌, ◌%◌, ◌≤◌, ◌<◌}
use native.Mathlib.Omega.{arith}
use native.Mathlib.Nat.{add-suc, add-zero, mod-lt, mod-eq_of_lt, mod_self, suc-mod, zero-mod}
use lib.Dec.{ltb}
use lib.ListN.{length, get_or, length-append, get_or-append}
use lib.Seq.{get_or-append-add}
use Rattle.basics.proofs.Booleans.{either, lt_ltb, ge_ltb, ltb_lt, ltb_ge, below_or}
use Rattle.basics.proofs.Bounded.{each_make, each_all}
use Rattle.automata.specs.Lasso.{Lasso, all_below, letter_at, position_at, position_letter, next_position, positions}

pub position_zero : (u v : List ℕ) → position_at u v 0 ≡ 0
unfolding position_at
position_zero u v = refl

pub position_next : (u v : List ℕ) (i : ℕ) → position_at u v (suc i) ≡ next_position u v (position_at u v i)
unfolding position_at
position_next u v i = refl

pub first_below : (u v : List ℕ) → 1 ≤ length v → 0 < positions u v
unfolding positions
first_below u v o = omega arith

-- behind each position comes a position
pub next_below : (u v : List ℕ) → 1 ≤ length v → (i : ℕ) → next_position u v i < positions u v
unfolding next_position positions
next_below u v o i =
    elim (either (ltb (suc i) (length u + length v))) [
      | inl e ↦ rw e (ltb_lt (suc i) (length u + length v) e)
      | inr e ↦ rw e (omega arith)
    ]

pub position_below : (u v : List ℕ) → 1 ≤ length v → (i : ℕ) → position_at u v i < positions u v
unfolding position_at
position_below u v o zero = first_below u v o
position_below u v o (suc i) = next_below u v o (position_at u v i)

-- the places of u are its positions
early : (u v : List ℕ) → 1 ≤ length v → (i : ℕ) → i ≤ length u → position_at u v i ≡ i
unfolding position_at next_position positions
early u v o zero l = refl
early u v o (suc i) l =
    let e = early u v o i (omega arith) in
    let b : suc i < length u + length v = omega arith in rw (e, lt_ltb b)

-- then the places go round the positions of v
round :
    (u v : List ℕ) → 1 ≤ length v → (m : ℕ) → m < length v →
    next_position u v (length u + m) ≡ length u + suc m % length v
unfolding next_position positions
round u v o m l =
    elim (below_or (suc m) (length v)) [
      | inl b ↦
          let t : suc (length u + m) < length u + length v = omega arith in
          rw (lt_ltb t, mod-eq_of_lt b) (omega arith)
      | inr b ↦
          let f : length u + length v ≤ suc (length u + m) = omega arith in
          let s : suc m ≡ length v = omega arith in rw (ge_ltb f, s, mod_self (length v)) (omega arith)
    ]

late : (u v : List ℕ) → 1 ≤ length v → (k : ℕ) → position_at u v (length u + k) ≡ length u + k % length v
unfolding position_at
late u v o zero = rw (add-zero, zero-mod) (rw add-zero (early u v o (length u) (omega arith)))
late u v o (suc k) =
    let h = late u v o k in
    rw (add-suc, h, round u v o (k % length v) (mod-lt k o), ← suc-mod)

pub letter_position :
    (u v : List ℕ) → 1 ≤ length v → (i : ℕ) → letter_at u v i ≡ position_letter u v (position_at u v i)
unfolding letter_at position_letter
letter_position u v o i =
    elim (either (ltb i (length u))) [
      | inl e ↦ let p = early u v o i (let l = ltb_lt i (length u) e in omega arith) in rw (p, e)
      | inr e ↦
          let l = ltb_ge i (length u) e in
          let s : length u + (i - length u) ≡ i = omega arith in
          let p : position_at u v i ≡ length u + (i - length u) % length v = rw s at (late u v o (i - length u)) in
          let m = (i - length u) % length v in
          let f : length u ≤ length u + m = omega arith in
          let d : length u + m - length u ≡ m = omega arith in rw (p, e, ge_ltb f, d)
    ]

-- what follows a place is decided by its position
pub position_add :
    (u v : List ℕ) (i j : ℕ) → position_at u v i ≡ position_at u v j → (k : ℕ) → position_at u v (i + k) ≡ position_at u v (j + k)
position_add u v i j e zero = rw (add-zero i, add-zero j) e
position_add u v i j e (suc k) =
    let h = position_add u v i j e k in
    rw (add-suc i k, add-suc j k) (position_next u v (i + k) ∙ ap (next_position u v) h ∙ sym (position_next u v (j + k)))

pub letter_same :
    (u v : List ℕ) → 1 ≤ length v → (i j : ℕ) → position_at u v i ≡ position_at u v j → letter_at u v i ≡ letter_at u v j
letter_same u v o i j e = letter_position u v o i ∙ ap (position_letter u v) e ∙ sym (letter_position u v o j)

-- each letter of a lasso over k letters is one of them
part_below : (k : ℕ) (u : List ℕ) → all_below k u ≡ true → (i : ℕ) → i < length u → get_or u i 0 < k
unfolding all_below
part_below k u h i l = ltb_lt (get_or u i 0) k (each_all (length u) (λ i. ltb (get_or u i 0) k) h i l)

-- two parts of which each has letters below k, one behind the other
pub both_below : (k : ℕ) (u v : List ℕ) → all_below k u ≡ true → all_below k v ≡ true → all_below k (u ++ v) ≡ true
unfolding all_below
both_below k u v a b =
    each_make (length (u ++ v)) (λ i. ltb (get_or (u ++ v) i 0) k)
    (λ i l.
    elim (below_or i (length u)) [
      | inl first ↦ rw (get_or-append u v 0 i first) (lt_ltb (part_below k u a i first))
      | inr second ↦
          let both = length-append u v in
          let e : length u + (i - length u) ≡ i = omega arith in
          rw (sym e) (rw (get_or-append-add u v (i - length u) 0) (lt_ltb (part_below k v b (i - length u) (omega arith))))
    ])

pub letter_below : (k : ℕ) {u v : List ℕ} → Lasso k u v → (i : ℕ) → letter_at u v i < k
unfolding letter_at
letter_below k {u} {v} h i =
    elim (either (ltb i (length u))) [
      | inl e ↦ rw e (part_below k u h.prefix i (ltb_lt i (length u) e))
      | inr e ↦ rw e (part_below k v h.loop ((i - length u) % length v) (mod-lt (i - length u) h.endless))
    ]
