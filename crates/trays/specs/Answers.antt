-- What a tray's call answers and leaves, on a table of any range (docs/RULES.md, "A tray of lassos"; the call's range is the wide one).
-- Assumes nothing: these are definitions.
use Rattle.std.specs.Prelude.{◌≡◌, cond, not, List, map, ℕ, eqb, length, replicate}
use Rattle.basics.specs.Buffers.{or_else, as_written, zeros}
use Rattle.basics.specs.declared.Written.{Written}
use Rattle.tables.specs.Table.{Limits, table_refusal}
use Rattle.lassos.specs.Decision.{Decision, Taken, NotTaken, Refused, decision}
use Rattle.trays.specs.Tray.{Parts, tray}

-- 17: the list does not end exactly at a lasso's end; 18: the answer bytes are not as many as the lassos
unfoldable pub list_refusal : (s : List ℕ) → (bytes : ℕ) → ℕ
list_refusal s b =
    cond (not (eqb (length (tray s).left) 0)) 17
    (cond (not (eqb (length (tray s).lassos) b)) 18 0)

-- both come before 2 to 9, those of a table of the range
unfoldable pub tray_refusal : Limits → (t s : List ℕ) → (bytes : ℕ) → ℕ
tray_refusal r t s b = or_else (list_refusal s b) (table_refusal r t)

-- a decision as a byte: 1 taken, 0 not taken, or the refusal's number
unfoldable pub as_byte : Decision → ℕ
as_byte Taken = 1
as_byte NotTaken = 0
as_byte (Refused r) = r

-- the byte of a lasso: what the single call's decision on a table of a range says of it, with so many work words
unfoldable pub byte_of : Limits → (t : List ℕ) → (work : ℕ) → Parts → ℕ
byte_of r t w x = as_byte (decision r t x.prefix x.loop w)

-- the answer bytes: all zero after 17 and 18, the table's number in each after a refusal of the table, and else a byte for each lasso
unfoldable pub tray_bytes : Limits → (t s before : List ℕ) → (work : ℕ) → List ℕ
tray_bytes r t s a w =
    cond (not (eqb (list_refusal s (length a)) 0)) (zeros a)
    (cond (not (eqb (table_refusal r t) 0)) (replicate (length a) (table_refusal r t)) (map (byte_of r t w) (tray s).lassos))

-- what a call answers on a table t and a list s, what the answer bytes hold after it, and that the work words are all zero then
pub record TraySays (range : Limits) (t s : List ℕ) (r : Written) (a a_now w w_now : List ℕ) : Type 0 where
  pub answer : r ≡ as_written (tray_refusal range t s (length a)) (length (tray s).lassos)
  pub bytes : a_now ≡ tray_bytes range t s a (length w)
  pub work : w_now ≡ zeros w
