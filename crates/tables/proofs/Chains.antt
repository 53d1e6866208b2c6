-- What is left of a chain, which is what makes a walk along it end. Assumes nothing.
use mathlib.Core.Path.{◌≡◌, refl}
use mathlib.Core.List.{List}
use mathlib.Core.Logic.{◌⊎◌, inl, inr}
use Prim.Native.Nat.{ℕ, zero, suc, ◌-◌, ◌≤◌, ◌<◌}
use native.Mathlib.Omega.{arith}
use Rattle.tables.specs.Table.{Limits, m_of, next_of}
use Rattle.tables.proofs.Laws.{Valid}

-- how many records can follow at most, this one among them
unfoldable pub left : (records number : ℕ) → ℕ
left m zero = 0
left m (suc x) = m - x

later_less : (m x next : ℕ) → (x ≡ 0 → ⊥) → x ≤ m → (next ≡ 0) ⊎ (x < next) → left m next < left m x
unfolding left
later_less m zero next some l f = absurd (some refl)
later_less m (suc x) zero some l f = omega arith
later_less m (suc x) (suc y) some l (inl e) = absurd (omega arith)
later_less m (suc x) (suc y) some l (inr b) = omega arith

-- less with each record
pub left_less :
    {r : Limits} {t : List ℕ} → Valid r t → {x next : ℕ} → (x ≡ 0 → ⊥) → x ≤ m_of t → next ≡ next_of t x →
    left (m_of t) next < left (m_of t) x
left_less {t = t} v {x} {next} some l e = later_less (m_of t) x next some l (rw e (v.rises x (omega arith) l))
