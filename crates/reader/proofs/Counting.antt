-- Counting along a chain: what is counted and what is left make up the whole. Assumes nothing.
use native.Mathlib.Omega.{arith}
use mathlib.Core.Path.{◌≡◌, refl}
use mathlib.Core.Bool.{Bool, true, false, cond}
use mathlib.Core.List.{List}
use Prim.Native.Nat.{ℕ, zero, suc, ◌+◌, ◌-◌, ◌≤◌, ◌<◌}
use Rattle.std.specs.Prelude.{Some, None, is_some}
use Rattle.reader.specs.declared.Edge.{Edge}
use Rattle.reader.specs.Chain.{is_record, item_at, record_after, chain_length}

-- one more record, or none
pub length_more : (f : ℕ) (t : List ℕ) (r : ℕ) → is_record t r ≡ true → chain_length (suc f) t r ≡ suc (chain_length f t (record_after t r))
unfolding chain_length
length_more f t r e = rw e refl

pub length_none : (f : ℕ) (t : List ℕ) (r : ℕ) → is_record t r ≡ false → chain_length f t r ≡ 0
unfolding chain_length
length_none zero t r e = refl
length_none (suc f) t r e = rw e refl

-- an edge is read exactly at the records
picked : (b : Bool) (e : Edge) → is_some (cond b (Some e) None) ≡ b
picked true e = refl
picked false e = refl

pub edge_read : (t : List ℕ) (r : ℕ) → is_some (item_at t r) ≡ is_record t r
unfolding item_at
edge_read t r = picked (is_record t r) _

-- a record more is counted, and one less is left
pub count_more : (t : List ℕ) (r i m : ℕ) → is_record t r ≡ true → i < m
    → i + chain_length (m - i) t r ≡ i + 1 + chain_length (m - (i + 1)) t (record_after t r)
count_more t r i m e l =
    let one : m - i ≡ suc (m - (i + 1)) = omega arith in
    rw one (let more = length_more (m - (i + 1)) t r e in omega arith)

-- no turn is left, so no record is counted any more
pub count_spent : (t : List ℕ) (r i m : ℕ) → m ≤ i → i + chain_length (m - i) t r ≡ i
unfolding chain_length
count_spent t r i m l = let none : m - i ≡ 0 = omega arith in rw none (omega arith)
