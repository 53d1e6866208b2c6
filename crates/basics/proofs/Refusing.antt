-- Refusals one after the other: where the answer is none, no refusal is met; the answer is one of them. What a call answers that writes
-- items, and what it leaves. Assumes nothing.
use mathlib.Core.Path.{◌≡◌, refl}
use mathlib.Core.Bool.{Bool, true, false, cond}
use mathlib.Core.List.{List}
use mathlib.Core.Logic.{◌⊎◌, inl, inr}
use Prim.Native.Nat.{ℕ, zero, suc, ◌≤◌}
use native.Mathlib.Omega.{arith}
use lib.Dec.{eqb}
use Rattle.basics.specs.Buffers.{or_else, as_written, zeros, filled, after_call}
use Rattle.basics.proofs.Booleans.{either, eqb_eq, eqb_ne, eq_eqb, ne_eqb}

-- a refusal that is not met, and those behind it
pub passed : (b : Bool) (k others : ℕ) → cond b (suc k) others ≡ 0 → (b ≡ false) × (others ≡ 0)
passed true k others h = absurd (omega arith)
passed false k others h = (refl, h)

-- an answer is at most what both its cases are
pub answer_most : (b : Bool) {x y : ℕ} (limit : ℕ) → x ≤ limit → y ≤ limit → cond b x y ≤ limit
answer_most true limit a b = a
answer_most false limit a b = b

-- so is the first of two refusals, if both are
pub or_else_most : (x y limit : ℕ) → x ≤ limit → y ≤ limit → or_else x y ≤ limit
unfolding or_else
or_else_most x y limit a b = answer_most (eqb x 0) limit b a

-- an answer is none or not below some number, if each of two is so
pub answer_least :
    (b : Bool) {x y : ℕ} (least : ℕ) → (x ≡ 0) ⊎ (least ≤ x) → (y ≡ 0) ⊎ (least ≤ y) → (cond b x y ≡ 0) ⊎ (least ≤ cond b x y)
answer_least true least a c = a
answer_least false least a c = c

-- so is the first of two refusals, if both are so
pub or_else_least : (x y least : ℕ) → (x ≡ 0) ⊎ (least ≤ x) → (y ≡ 0) ⊎ (least ≤ y) → (or_else x y ≡ 0) ⊎ (least ≤ or_else x y)
unfolding or_else
or_else_least x y least a b = answer_least (eqb x 0) least b a

-- the first of two refusals is answered where it is met, and else the second
pub or_else_first : (x y : ℕ) → (x ≡ 0 → ⊥) → or_else x y ≡ x
unfolding or_else
or_else_first x y met = rw (ne_eqb x 0 met)

pub or_else_second : (x y : ℕ) → x ≡ 0 → or_else x y ≡ y
unfolding or_else
or_else_second x y none = rw (eq_eqb none)

-- the first of two refusals is none, and neither is the second
pub or_else_none : (x y : ℕ) → or_else x y ≡ 0 → (x ≡ 0) × (y ≡ 0)
unfolding or_else
or_else_none x y h =
    elim (either (eqb x 0)) [
      | inl e ↦ (eqb_eq x 0 e, rw e at h)
      | inr e ↦ absurd (eqb_ne x 0 e (rw e at h))
    ]

-- WHAT A CALL ANSWERS that writes items: its number; an accepted one how many, and a refused one none
pub written_number : (number count : ℕ) → (as_written number count).number ≡ number
unfolding as_written
written_number zero count = refl
written_number (suc r) count = refl

pub written_count : (number count : ℕ) → number ≡ 0 → (as_written number count).count ≡ count
unfolding as_written
written_count zero count e = refl
written_count (suc r) count e = absurd (omega arith)

pub written_none : (number count : ℕ) → (number ≡ 0 → ⊥) → (as_written number count).count ≡ 0
unfolding as_written
written_none zero count met = absurd (met refl)
written_none (suc r) count met = refl

-- the answer for a number that is the refusal's
pub written_refused : (x y : ℕ) → x ≡ y → (x ≡ 0 → ⊥) → (count : ℕ) → record { number = x; count = 0 } ≡ as_written y count
unfolding as_written
written_refused x zero e met count = absurd (met e)
written_refused x (suc y) e met count = rw e

-- WHAT A CALL LEAVES in a lent buffer: an accepted one what it writes, and a refused one nothing
pub after_accepted : (number : ℕ) → number ≡ 0 → (x o : List ℕ) → after_call number x o ≡ filled x o
unfolding after_call
after_accepted zero e x o = refl
after_accepted (suc r) e x o = absurd (omega arith)

pub after_refused : (number : ℕ) → (number ≡ 0 → ⊥) → (x o : List ℕ) → after_call number x o ≡ zeros o
unfolding after_call
after_refused zero met x o = absurd (met refl)
after_refused (suc r) met x o = refl
