-- What one turn of each check reads decides the definition's test of that state or record. Assumes nothing.
use mathlib.Core.Path.{◌≡◌, sym, ◌∙◌}
use mathlib.Core.Bool.{Bool, true, false, ◌||◌, not}
use mathlib.Core.List.{List}
use Prim.Native.Nat.{ℕ, suc, ◌+◌, ◌≤◌, ◌<◌}
use native.Mathlib.Numerals.{add-one}
use lib.Dec.{ltb, eqb}
use Rattle.basics.proofs.Booleans.{and_l, leb_le, and_false_l, and_false_r, true_not, false_not}
use Rattle.basics.proofs.Scans.{scan_fails, read_ge}
use Rattle.tables.specs.Table.{n_of, k_of, m_of, letter_of, target_of, next_of, record_good, records_good, leads_on, next_good}

module _ (t : List ℕ) (i : ℕ) {n k a : ℕ} (pn : n ≡ n_of t) (pk : k ≡ k_of t) (pa : a ≡ letter_of t (i + 1)) where
  pub letter_bad : i < m_of t → k ≤ a → false ≡ records_good t
  unfolding records_good
  letter_bad l h =
      scan_fails (record_good t) (m_of t) i l
      (and_false_l (ltb (target_of t (suc i)) (n_of t)) (read_ge (rw add-one at pa) pk h))

  pub target_bad : {b : ℕ} → i < m_of t → b ≡ target_of t (i + 1) → n ≤ b → false ≡ records_good t
  unfolding records_good
  target_bad l pb h =
      scan_fails (record_good t) (m_of t) i l
      (and_false_r (ltb (letter_of t (suc i)) (k_of t)) (read_ge (rw add-one at pb) pn h))

-- the test of a next, answered for what was read
module _ (t : List ℕ) (i : ℕ) {m a : ℕ} {b : Bool} (pm : m ≡ m_of t) (pa : a ≡ next_of t (i + 1)) where
  next_read : b ≡ leads_on m (i + 1) a → b ≡ next_good t i
  next_read e = e ∙ rw (pm, pa, add-one i)

  pub next_fails : b ≡ leads_on m (i + 1) a → not b ≡ true → next_good t i ≡ false
  next_fails e h = sym (next_read e) ∙ true_not b h

  pub next_passes : b ≡ leads_on m (i + 1) a → not b ≡ false → next_good t i ≡ true
  next_passes e h = sym (next_read e) ∙ false_not b h

  pub next_small : b ≡ leads_on m (i + 1) a → not b ≡ false → a ≤ m_of t
  next_small e h = rw (← pm) (leb_le a m (and_l (eqb a 0 || ltb (i + 1) a) (sym e ∙ false_not b h)))
