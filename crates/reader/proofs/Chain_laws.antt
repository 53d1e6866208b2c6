-- Which numbers are records, and what follows a record. Assumes nothing.
use mathlib.Core.Path.{◌≡◌, refl}
use mathlib.Core.Bool.{true, false}
use mathlib.Core.List.{List}
use Prim.Native.Nat.{ℕ, ◌≤◌, ◌<◌}
use lib.Dec.{leb}
use Rattle.std.specs.Prelude.{None}
use Rattle.basics.proofs.Booleans.{and_make, and_l, and_r, leb_le, le_leb, lt_ltb}
use Rattle.tables.specs.Table.{n_of, m_of, head_of, next_of}
use Rattle.reader.specs.Chain.{is_record, item_at, record_after, head_record}

pub record_yes : (t : List ℕ) (r : ℕ) → 1 ≤ r → r ≤ m_of t → is_record t r ≡ true
unfolding is_record
record_yes t r low high = and_make (le_leb low) (le_leb high)

pub record_from : (t : List ℕ) (r : ℕ) → is_record t r ≡ true → 1 ≤ r
unfolding is_record
record_from t r e = leb_le 1 r (and_l (leb r (m_of t)) e)

pub record_to : (t : List ℕ) (r : ℕ) → is_record t r ≡ true → r ≤ m_of t
unfolding is_record
record_to t r e = leb_le r (m_of t) (and_r (leb 1 r) e)

pub after_record : (t : List ℕ) (r : ℕ) → is_record t r ≡ true → record_after t r ≡ next_of t r
unfolding record_after
after_record t r e = rw e refl

pub no_edge : (t : List ℕ) (r : ℕ) → is_record t r ≡ false → item_at t r ≡ None
unfolding item_at
no_edge t r e = rw e refl

pub first_head : (t : List ℕ) (q : ℕ) → q < n_of t → head_record t q ≡ head_of t q
unfolding head_record
first_head t q l = rw (lt_ltb l) refl
