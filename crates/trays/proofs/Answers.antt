-- What the answer of a tray's call says: each refusal comes in its case and in no other, how many bytes are written, and what each byte
-- says of its lasso. Assumes nothing.
use mathlib.Core.Path.{◌≡◌, refl, sym, ap, ◌∙◌}
use mathlib.Core.List.{List, map}
use mathlib.Core.Logic.{◌⊎◌, inl, inr, ◌↔◌}
use Prim.Native.Nat.{ℕ, ◌≤◌, ◌<◌}
use native.Mathlib.Omega.{arith}
use lib.ListN.{length, get_or, replicate, length-map, drop_of_length-le}
use Rattle.basics.specs.Buffers.{zeros}
use Rattle.basics.specs.declared.Written.{Written}
use Rattle.basics.proofs.Booleans.{same_or}
use Rattle.basics.proofs.Clears.{zeros_length}
use Rattle.basics.proofs.Lists.{all_same, get_d_map}
use Rattle.basics.proofs.Refusing.{written_number, written_count, written_none}
use Rattle.tables.specs.Table.{Limits, n_of, k_of, table_refusal}
use Rattle.tables.proofs.Refusals.{table_most}
use Rattle.lassos.specs.Decision.{Decision, Taken, NotTaken, Refused, decision}
use Rattle.lassos.proofs.Answers.{decision_says, says_refused}
use Rattle.lassos.proofs.Decides.{decided_refused}
use Rattle.lassos.proofs.Parts.{parts_least, parts_own, table_first}
use Rattle.trays.specs.Answers.{list_refusal, tray_refusal, as_byte, byte_of, tray_bytes, TraySays}
use Rattle.trays.specs.Tray.{Parts, Tray, no_lasso, list_of, tray}
use Rattle.trays.proofs.Reading.{made_of, made_whole, list_unique}
use Rattle.trays.proofs.Refusals.{list_17, list_18, list_passes, list_fits, by_list, by_table, by_neither, bytes_list, bytes_table, bytes_each}

-- THE CASES: no lassos make up the list; or some do, and they are not as many as the bytes, or they are, and the table decides
data TrayCase (range : Limits) (t s : List ℕ) (b : ℕ) : Type 0 where
  cut : tray_refusal range t s b ≡ 17 → ((xs : List Parts) → s ≡ list_of xs → ⊥) → TrayCase range t s b
  miscounted : tray_refusal range t s b ≡ 18 → (xs : List Parts) → s ≡ list_of xs → (length xs ≡ b → ⊥) → TrayCase range t s b
  fits :
      list_refusal s b ≡ 0 → tray_refusal range t s b ≡ table_refusal range t → (xs : List Parts) → s ≡ list_of xs → length xs ≡ b →
      TrayCase range t s b

-- lassos that make up one list are as many
same_count : {s : List ℕ} (xs ys : List Parts) → s ≡ list_of xs → s ≡ list_of ys → length xs ≡ length ys
same_count xs ys e f = ap (λ (zs : List Parts). length zs) (list_unique xs ys (sym e ∙ f))

-- THE NUMBERS, each in its case
module _ (range : Limits) (t s : List ℕ) (b : ℕ) where
  tray_case : TrayCase range t s b
  tray_case =
      elim (same_or (length (tray s).left) 0) [
        | inr some ↦
            let met = list_17 s b some in
            cut (by_list range t s b (omega arith) ∙ sym met) (λ xs e. some (ap (λ (y : Tray). length y.left) (made_of xs e)))
        | inl exact ↦
            let made = made_whole s (drop_of_length-le (tray s).left {i = 0} (omega arith)) in
            elim (same_or (length (tray s).lassos) b) [
              | inl same ↦
                  let passed : list_refusal s b ≡ 0 = sym (list_passes s b exact refl same) in
                  fits passed (by_table range t s b passed) (tray s).lassos made same
              | inr other ↦
                  let met = list_18 s b exact refl other in
                  miscounted (by_list range t s b (omega arith) ∙ sym met) (tray s).lassos made other
            ]
      ]

  pub cut_right : (tray_refusal range t s b ≡ 17) ↔ ((xs : List Parts) → s ≡ list_of xs → ⊥)
  cut_right =
      elim tray_case [
        | cut e none ↦ ((λ h. none), λ h. e)
        | miscounted e xs made other ↦ ((λ h. absurd (omega arith)), λ h. absurd (h xs made))
        | fits passed e xs made same ↦ ((λ h. absurd (let most = table_most range t in omega arith)), λ h. absurd (h xs made))
      ]

  pub miscounted_right : (tray_refusal range t s b ≡ 18) ↔ ((xs : List Parts) × (s ≡ list_of xs) × (length xs ≡ b → ⊥))
  miscounted_right =
      elim tray_case [
        | cut e none ↦ ((λ h. absurd (omega arith)), λ h. absurd (none h.0 h.1))
        | miscounted e xs made other ↦ ((λ h. (xs, made, other)), λ h. e)
        | fits passed e xs made same ↦ (
          (λ h. absurd (let most = table_most range t in omega arith)),
          λ h. absurd (h.2 (same_count h.0 xs h.1 made ∙ same)),
        )
      ]

  -- what the table decides: the list is made of as many lassos as there are bytes
  pub table_right :
      (k : ℕ) → k ≤ 9 →
      (tray_refusal range t s b ≡ k) ↔ ((xs : List Parts) × (s ≡ list_of xs) × (length xs ≡ b) × (table_refusal range t ≡ k))
  table_right k few =
      elim tray_case [
        | cut e none ↦ ((λ h. absurd (omega arith)), λ h. absurd (none h.0 h.1))
        | miscounted e xs made other ↦ (
          (λ h. absurd (omega arith)),
          λ h. absurd (other (same_count xs h.0 made h.1 ∙ h.2)),
        )
        | fits passed e xs made same ↦ ((λ h. (xs, made, same, sym e ∙ h)), λ h. e ∙ h.3)
      ]

  pub no_other_number : (tray_refusal range t s b ≤ 9) ⊎ ((tray_refusal range t s b ≡ 17) ⊎ (tray_refusal range t s b ≡ 18))
  no_other_number =
      elim tray_case [
        | cut e none ↦ inr (inl e)
        | miscounted e xs made other ↦ inr (inr e)
        | fits passed e xs made same ↦ inl (let most = table_most range t in omega arith)
      ]

-- EACH BYTE IS THE SINGLE CALL'S: also where the table is refused, since a single call then answers its number
table_byte :
    (range : Limits) (t : List ℕ) (w : ℕ) → (table_refusal range t ≡ 0 → ⊥) → (x : Parts) → table_refusal range t ≡ byte_of range t w x
unfolding byte_of as_byte
table_byte range t w met x =
    ap as_byte
    (decided_refused range t x.prefix x.loop w (table_first range t x.prefix x.loop w refl met) met)

pub bytes_single :
    (range : Limits) (t s a : List ℕ) (w : ℕ) → list_refusal s (length a) ≡ 0 → tray_bytes range t s a w ≡ map (byte_of range t w) (tray s).lassos
bytes_single range t s a w fine =
    let count = (list_fits s (length a) fine).counted in
    elim (same_or (table_refusal range t) 0) [
      | inl none ↦ bytes_each range t s a w fine none
      | inr met ↦
          bytes_table range t s a w fine met
          ∙ (ap (λ (n : ℕ). replicate n (table_refusal range t)) (sym count)
          ∙ all_same (byte_of range t w) (table_refusal range t) (table_byte range t w met) (tray s).lassos)
    ]

-- WHAT A CALL ANSWERS AND LEAVES
module _
    {range : Limits} {t s : List ℕ} {r : Written} {a a_now w w_now : List ℕ} (says : TraySays range t s r a a_now w w_now) where
  abbrev met : ℕ
  met = tray_refusal range t s (length a)

  pub says_number : r.number ≡ met
  says_number = ap (λ (x : Written). x.number) says.answer ∙ written_number met (length (tray s).lassos)

  -- an accepted call answers how many bytes it wrote, which is all that were lent; a refused one answers none
  pub says_count : r.number ≡ 0 → r.count ≡ length a
  says_count none =
      let passed : met ≡ 0 = sym says_number ∙ none in
      let count = (list_fits s (length a) (by_neither range t s (length a) passed).0).counted in
      ap (λ (x : Written). x.count) says.answer ∙ (written_count met (length (tray s).lassos) passed ∙ count)

  pub says_none : (r.number ≡ 0 → ⊥) → r.count ≡ 0
  says_none ne =
      ap (λ (x : Written). x.count) says.answer ∙ written_none met (length (tray s).lassos) (λ z. ne (says_number ∙ z))

  -- after 17 and 18 all bytes are zero
  pub says_list : 17 ≤ r.number → a_now ≡ replicate (length a) 0
  unfolding zeros
  says_list far =
      let number = says_number in
      elim (same_or (list_refusal s (length a)) 0) [
        | inl passed ↦ absurd (let table = by_table range t s (length a) passed in let most = table_most range t in omega arith)
        | inr other ↦ says.bytes ∙ bytes_list range t s a (length w) other
      ]

  -- after a refusal of the table each is its number
  pub says_table : 1 ≤ r.number → r.number ≤ 9 → a_now ≡ replicate (length a) r.number
  says_table some few =
      let number = says_number in
      elim (tray_case range t s (length a)) [
        | cut e none ↦ absurd (omega arith)
        | miscounted e xs made other ↦ absurd (omega arith)
        | fits passed e xs made same ↦
            says.bytes
            ∙ (bytes_table range t s a (length w) passed (omega arith)
            ∙ ap (λ (n : ℕ). replicate (length a) n) (sym (number ∙ e)))
      ]

  -- all bytes that were lent are left
  pub says_length : length a_now ≡ length a
  says_length =
      elim (same_or (list_refusal s (length a)) 0) [
        | inr met' ↦
            ap length (says.bytes ∙ bytes_list range t s a (length w) met') ∙ zeros_length a
        | inl fine ↦
            ap length (says.bytes ∙ bytes_single range t s a (length w) fine)
            ∙ (length-map (tray s).lassos (byte_of range t (length w)) ∙ (list_fits s (length a) fine).counted)
      ]

  -- of an accepted call, the byte at a place is that of the lasso there
  pub says_byte :
      r.number ≡ 0 → (xs : List Parts) → s ≡ list_of xs → (i : ℕ) → i < length xs →
      get_or a_now i 0 ≡ byte_of range t (length w) (get_or xs i no_lasso)
  says_byte none xs made i l =
      let (fine, valid) = by_neither range t s (length a) (sym says_number ∙ none) in
      let lassos : (tray s).lassos ≡ xs = ap (λ (y : Tray). y.lassos) (made_of xs made) in
      let bytes : a_now ≡ map (byte_of range t (length w)) xs =
      says.bytes ∙ (bytes_each range t s a (length w) fine valid ∙ ap (map (byte_of range t (length w))) lassos) in
      ap (λ (x : List ℕ). get_or x i 0) bytes ∙ get_d_map (byte_of range t (length w)) xs no_lasso 0 i l

  -- and the table is not refused
  pub says_valid : r.number ≡ 0 → table_refusal range t ≡ 0
  says_valid none = (by_neither range t s (length a) (sym says_number ∙ none)).1

-- A BYTE TELLS which decision it stands for, if no refusal's number is below 13
is_taken : (d : Decision) → ((number : ℕ) → d ≡ Refused number → 13 ≤ number) → as_byte d ≡ 1 → d ≡ Taken
unfolding as_byte
is_taken Taken least h = refl
is_taken NotTaken least h = absurd (omega arith)
is_taken (Refused r) least h = absurd (let far = least r refl in omega arith)

is_not_taken : (d : Decision) → ((number : ℕ) → d ≡ Refused number → 13 ≤ number) → as_byte d ≡ 0 → d ≡ NotTaken
unfolding as_byte
is_not_taken Taken least h = absurd (omega arith)
is_not_taken NotTaken least h = refl
is_not_taken (Refused r) least h = absurd (let far = least r refl in omega arith)

is_refused : (d : Decision) (number : ℕ) → 2 ≤ number → as_byte d ≡ number → d ≡ Refused number
unfolding as_byte
is_refused Taken number two h = absurd (omega arith)
is_refused NotTaken number two h = absurd (omega arith)
is_refused (Refused r) number two h = ap Refused h

not_between : (d : Decision) → ((number : ℕ) → d ≡ Refused number → 13 ≤ number) → (as_byte d ≤ 1) ⊎ (13 ≤ as_byte d)
unfolding as_byte
not_between Taken least = inl (omega arith)
not_between NotTaken least = inl (omega arith)
not_between (Refused r) least = inr (least r refl)

pub record Tells (d : Decision) : Type 0 where
  pub taken : (as_byte d ≡ 1) ↔ (d ≡ Taken)
  pub not_taken : (as_byte d ≡ 0) ↔ (d ≡ NotTaken)
  pub refused : (number : ℕ) → 2 ≤ number → (as_byte d ≡ number) ↔ (d ≡ Refused number)
  pub no_other : (as_byte d ≤ 1) ⊎ (13 ≤ as_byte d)

module _ {d : Decision} (least : (number : ℕ) → d ≡ Refused number → 13 ≤ number) where
  byte_tells : Tells d
  unfolding as_byte
  byte_tells =
      record {
        taken = ((λ h. is_taken d least h), λ h. ap as_byte h);
        not_taken = ((λ h. is_not_taken d least h), λ h. ap as_byte h);
        refused = λ number two. ((λ h. is_refused d number two h), λ h. ap as_byte h);
        no_other = not_between d least;
      }

-- on a table that has passed its check each byte tells its decision
pub tells_decision : (range : Limits) (t u v w : List ℕ) → table_refusal range t ≡ 0 → Tells (decision range t u v (length w))
tells_decision range t u v w valid =
    byte_tells
    (λ number refused.
    let (same, some) = (says_refused (decision_says range t u v w) number).0 refused in
    let own = parts_own range t u v (length w) valid in
    elim (parts_least (n_of t) (k_of t) u v (length w)) [
      | inl none ↦ absurd (omega arith)
      | inr least ↦ omega arith
    ])
