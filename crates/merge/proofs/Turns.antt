-- One turn of each loop that lays out a table's rows: the row that is laid out. Assumes nothing.
use mathlib.Core.Path.{◌≡◌, refl}
use mathlib.Core.List.{List}
use Prim.Native.Nat.{ℕ, suc, ◌+◌, ◌*◌, ◌<◌}
use native.Mathlib.Omega.{arith}
use native.Mathlib.Numerals.{add-one}
use lib.ListN.{set}
use Rattle.basics.proofs.Laying.{Laying, laying_turn}
use Rattle.tables.specs.Table.{m_of, flags_of, head_of, letter_of, target_of, next_of}
use Rattle.merge.specs.Merged.{link_on, state_row, record_row}

pub state_turn :
    (t : List ℕ) (records : ℕ) {n : ℕ} {w : List ℕ} {at : ℕ} {v : List ℕ} {i flags head link : ℕ} → Laying (state_row records t) n w at v i →
    i < n → flags ≡ flags_of t i → head ≡ head_of t i → link ≡ link_on records head →
    Laying (state_row records t) n w at (set (set v (at + 2 * i) flags) (at + 2 * i + 1) link) (i + 1)
unfolding state_row
state_turn t records {at = at} {i = i} now l e f g =
    rw (g, e, f, add-one (at + 2 * i)) (laying_turn now 2 (λ i m. refl) l (at + 2 * i) refl)

-- the loop has come to record i + 1
pub record_turn :
    (t : List ℕ) (states records : ℕ) {w : List ℕ} {at : ℕ} {v : List ℕ} {i letter target next link : ℕ} →
    Laying (record_row states records t) (m_of t) w at v i → i < m_of t → letter ≡ letter_of t (i + 1) → target ≡ target_of t (i + 1) →
    next ≡ next_of t (i + 1) → link ≡ link_on records next →
    Laying (record_row states records t) (m_of t) w at
    (set (set (set v (at + 3 * i) letter) (at + 3 * i + 1) (states + target)) (at + 3 * i + 2) link) (i + 1)
unfolding record_row
record_turn t states records {at = at} {i = i} now l e f g h =
    let two : at + 3 * i + 2 ≡ suc (suc (at + 3 * i)) = omega arith in
    let this : i + 1 ≡ suc i = add-one i in
    let turn = laying_turn now 3 (λ i m. refl) l (at + 3 * i) refl in
    rw (h, e, f, g, two, add-one (at + 3 * i), this) (rw this at turn)
