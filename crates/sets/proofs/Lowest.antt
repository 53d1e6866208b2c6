-- The lowest state of a set: the count of trailing zeros names it, and s & (s - 1) takes just it away. Assumes nothing.
use mathlib.Core.Path.{◌≡◌, sym, ◌∙◌, ap}
use mathlib.Core.Bool.{true, false, ◌&&◌, not}
use mathlib.Core.Logic.{inl, inr}
use Prim.Native.Nat.{ℕ, zero, suc, ◌+◌, ◌-◌, ◌*◌, ◌/◌, ◌%◌, ◌^◌, ◌<◌, min}
use native.Mathlib.Omega.{arith}
use native.Mathlib.Nat.{pow-suc}
use lib.Bits.{bit_and, and_step, and_self}
use lib.Count.{count_trailing_zeros}
use lib.Dec.{eqb, eqb-suc-zero, eqb-suc-suc}
use Rattle.basics.proofs.Booleans.{either, and_l, and_false_r, not_true, eqb_self, ne_eqb}
use Rattle.sets.specs.Sets.{has, size}
use Rattle.basics.proofs.Counting.{count_one}
use Rattle.sets.proofs.Size.{size_none}
use Rattle.sets.proofs.Members.{has_half, has_lt, first_in, first_out, first_made, first_unmade}

-- t is the lowest state of s, and rest is s without it
pub record Lowest (s t rest : ℕ) : Type 0 where
  pub member : has s t ≡ true
  pub below : (q : ℕ) → q < t → has s q ≡ false
  pub others : (q : ℕ) → has rest q ≡ (has s q && not (eqb q t))

-- an odd number: state 0
lowest_odd : (s r : ℕ) → s % 2 ≡ 1 → r ≡ s - 1 → Lowest s 0 r
lowest_odd s r d e = record {
  member = first_made s d;
  below = λ q l. absurd (omega arith);
  others = others;
}
  where
    others : (q : ℕ) → has r q ≡ (has s q && not (eqb q 0))
    others zero = let x = first_made s d in let y = first_unmade r (omega arith) in cc
    others (suc q) =
        let h : r / 2 ≡ s / 2 = omega arith in
        let x : has r (suc q) ≡ has s (suc q) = has_half r q ∙ ap (λ (n : ℕ). has n q) h ∙ sym (has_half s q) in
        let n = eqb-suc-zero q in elim (either (has s (suc q))) [ inl y ↦ cc | inr y ↦ cc ]

-- an even number: one more than the lowest state of the half
lowest_even : (s t r u : ℕ) → s % 2 ≡ 0 → Lowest (s / 2) t r → u ≡ r * 2 → Lowest s (suc t) u
lowest_even s t r u d w e = record {
  member = has_half s t ∙ w.member;
  below = below;
  others = others;
}
  where
    below : (q : ℕ) → q < suc t → has s q ≡ false
    below zero l = first_unmade s d
    below (suc q) l = has_half s q ∙ w.below q (omega arith)

    others : (q : ℕ) → has u q ≡ (has s q && not (eqb q (suc t)))
    others zero = let x = first_unmade s d in let y = first_unmade u (omega arith) in cc
    others (suc q) =
        let h : u / 2 ≡ r = omega arith in
        let x : has u (suc q) ≡ has r q = has_half u q ∙ ap (λ (n : ℕ). has n q) h in
        cc (w.others q, has_half s q, eqb-suc-suc q t)

-- what s & (s - 1) is, by the last digit of s
clear_odd : (s : ℕ) → s % 2 ≡ 1 → bit_and s (s - 1) ≡ s - 1
clear_odd s d =
    let h = and_step s (s - 1) in
    let e : (s - 1) / 2 ≡ s / 2 = omega arith in
    let h' : bit_and s (s - 1) ≡ s / 2 * 2 + min (s % 2) ((s - 1) % 2) = rw (e, and_self (s / 2)) at h in omega arith

clear_even : (s : ℕ) → s % 2 ≡ 0 → (s ≡ 0 → ⊥) → bit_and s (s - 1) ≡ bit_and (s / 2) (s / 2 - 1) * 2
clear_even s d n =
    let h = and_step s (s - 1) in
    let e : (s - 1) / 2 ≡ s / 2 - 1 = omega arith in
    let h' : bit_and s (s - 1) ≡ bit_and (s / 2) (s / 2 - 1) * 2 + min (s % 2) ((s - 1) % 2) = rw e at h in omega arith

pub lowest : (k s : ℕ) → s < 2 ^ k → (s ≡ 0 → ⊥) → Lowest s (count_trailing_zeros k s) (bit_and s (s - 1))
unfolding count_trailing_zeros
lowest zero s l n = absurd (n (omega arith))
lowest (suc k) s l n =
    let p = pow-suc 2 k in
    elim (either (has s 0)) [
      | inl h ↦ let d = first_in s h in rw d (lowest_odd s (bit_and s (s - 1)) d (clear_odd s d))
      | inr h ↦
          let d = first_out s h in
          let ih = lowest k (s / 2) (omega arith) (λ e. n (omega arith)) in
          rw d
          (lowest_even s (count_trailing_zeros k (s / 2)) (bit_and (s / 2) (s / 2 - 1)) (bit_and s (s - 1)) d ih (clear_even s d n))
    ]

-- where the lowest state stands, and what is left
pub lowest_lt : (k s : ℕ) → s < 2 ^ k → (s ≡ 0 → ⊥) → count_trailing_zeros k s < k
lowest_lt k s l n = has_lt k s (count_trailing_zeros k s) l (lowest k s l n).member

-- the rest is a part of the set, above t
pub lowest_part : {s t rest : ℕ} → Lowest s t rest → (q : ℕ) → has rest q ≡ true → has s q ≡ true
lowest_part {s} {t} w q h = and_l (not (eqb q t)) (sym (w.others q) ∙ h)

-- above t the set has one state more than the rest
pub lowest_size : {s t rest : ℕ} → Lowest s t rest → (q : ℕ) → t < q → size q s ≡ suc (size q rest)
unfolding size
lowest_size {s} {t} {rest} w q l =
    let out : has rest t ≡ false = w.others t ∙ and_false_r (has s t) (not_true (eqb_self t)) in
    count_one q (has s) (has rest) t l w.member out
    (λ i b n.
    let e = ne_eqb i t n in
    elim (either (has s i)) [ inl h ↦ cc (w.others i) | inr h ↦ cc (w.others i) ])

-- and up to t none
pub lowest_none : {s t rest : ℕ} → Lowest s t rest → size t s ≡ 0
lowest_none {s} {t} w = size_none t s (λ q l. w.below q l)
