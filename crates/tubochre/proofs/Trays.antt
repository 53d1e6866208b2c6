-- What a tray's call answers and leaves, and the third demand of a tray, follow from those of single decisions. Assumes nothing.
use mathlib.Core.Path.{◌≡◌, refl, sym}
use mathlib.Core.List.{List}
use mathlib.Core.Logic.Iff
use mathlib.Core.Logic.{inl, inr}
use Prim.Native.Nat.{ℕ, ◌≤◌}
use native.Mathlib.Omega.{arith}
use lib.ListN.{length, get_or}
use Rattle.basics.specs.Buffers.{zeros}
use Rattle.basics.proofs.Booleans.{same_or}
use Rattle.automata.specs.Automaton.{Takes}
use Rattle.automata.specs.Lasso.{letter_at}
use Rattle.tables.specs.Table.{Limits, Wider, pattern_range, k_of, meaning, table_refusal}
use Rattle.patterns.proofs.Passed.{checked_wider}
use Rattle.complement.specs.Build.{used}
use Rattle.complement.proofs.Second.{words_letters, words_valid, build_passed, build_fits, build_used}
use Rattle.lassos.specs.Decision.{Decision, decision, LassoSays}
use Rattle.lassos.specs.Refusals.{lasso_refusal}
use Rattle.lassos.proofs.Answers.{decision_says, says_taken, says_not_taken, says_refused}
use Rattle.lassos.proofs.Parts.{lasso_alike, accepted}
use Rattle.trays.specs.Answers.{byte_of}
use Rattle.trays.specs.Tray.{Parts, no_lasso, list_of}
use Rattle.trays.proofs.Answers.{cut_right, miscounted_right, table_right, no_other_number, says_number, says_count, says_none, says_list, says_table, says_length, says_byte, says_valid, Tells, tells_decision}
use Rattle.trays.proofs.Bytes.{decision_most}
use Rattle.tubochre.specs.Demand.{ByteExactly, TrayDemand, Compared, ThirdDemand, Opposite, by_pattern, by_complement, ThirdTray}

-- A LASSO OF A TRAY on a table that is not refused: its byte stands for the single call's decision
module _ (range : Limits) (t : List ℕ) (valid : table_refusal range t ≡ 0) (x : Parts) (w : List ℕ) where
  abbrev decided : Decision
  decided = decision range t x.prefix x.loop (length w)

  single : LassoSays range t x.prefix x.loop decided w (zeros w)
  single = decision_says range t x.prefix x.loop w

  tells : Tells decided
  tells = tells_decision range t x.prefix x.loop w valid

  byte_most : byte_of range t (length w) x ≤ 16
  unfolding byte_of
  byte_most = decision_most range t x.prefix x.loop (length w)

  byte_exactly : ByteExactly range t x (byte_of range t (length w) x) (length w)
  unfolding byte_of
  byte_exactly =
      record {
        no_other = elim tells.no_other [ inl small ↦ inl small | inr far ↦ inr (far, byte_most) ];
        refused =
            λ number two.
            Iff.trans (tells.refused number two)
            ((λ h. ((says_refused single number).0 h).0), λ h. (says_refused single number).1 (h, omega arith));
        taken = Iff.trans tells.taken (says_taken single);
        not_taken = Iff.trans tells.not_taken (says_not_taken single);
      }

  byte_exactly_as : {byte : ℕ} → byte ≡ byte_of range t (length w) x → ByteExactly range t x byte (length w)
  byte_exactly_as is_byte_lem = rw is_byte_lem byte_exactly

-- WHATEVER A TRAY'S CALL ANSWERS AND LEAVES
pub tray_demand : (range : Limits) → TrayDemand range
unfolding TrayDemand
tray_demand range t s r a a_now w w_now says =
    let number = says_number says in
    record {
      cut = rw number (cut_right range t s (length a));
      miscounted = rw number (miscounted_right range t s (length a));
      table = λ k few. rw number (table_right range t s (length a) k few);
      no_other = rw number (no_other_number range t s (length a));
      count = says_count says;
      no_count = says_none says;
      same = says_length says;
      list_bytes = says_list says;
      table_bytes = says_table says;
      lasso_bytes =
          λ none xs made i l.
          byte_exactly_as range t (says_valid says none) (get_or xs i no_lasso) w (says_byte says none xs made i l);
    }

-- TWO BYTES of one lasso. One of 0 or 1 is no refusal
decides :
    {range : Limits} {t : List ℕ} {x : Parts} {byte work : ℕ} → ByteExactly range t x byte work → byte ≤ 1 →
    lasso_refusal range t x.prefix x.loop work ≡ 0
decides {byte = byte} says small =
    elim (same_or byte 1) [ inl one ↦ (says.taken.0 one).0 | inr other ↦ (says.not_taken.0 (omega arith)).0 ]

module _
    {range : Limits} {t c : List ℕ} {x : Parts} {byte byte' w z : ℕ} (says : ByteExactly range t x byte w)
    (other : ByteExactly range c x byte' z) where
  -- what is parted has opposite bytes
  parted_bytes :
      {states : ℕ} → byte ≤ 1 → byte' ≤ 1 → Compared range t c x.prefix x.loop states → Opposite t c x byte byte'
  parted_bytes small small' compared =
      elim compared.parted [
        | inl (takes, none) ↦
            by_pattern takes (says.taken.1 (decides says small, takes))
            (other.not_taken.1 (decides other small', λ h. none h.run h.accepting_run))
        | inr (none, one) ↦
            let takes : Takes (meaning c) (letter_at x.prefix x.loop) =
            record { run = one.run; accepting_run = one.accepting_run } in
            by_complement takes (says.not_taken.1 (decides says small, none)) (other.taken.1 (decides other small', takes))
      ]

  -- and 13 to 15 are alike, of tables over the same letters
  alike_bytes :
      table_refusal range t ≡ 0 → table_refusal range c ≡ 0 → k_of t ≡ k_of c → (number : ℕ) → 13 ≤ number → number ≤ 15 →
      byte ≡ number → byte' ≡ number
  alike_bytes valid valid' letters number far few e =
      (other.refused number (omega arith)).1
      (lasso_alike range t c x.prefix x.loop w z number valid valid' letters far few ((says.refused number (omega arith)).0 e))

-- THE THIRD DEMAND of a tray, from that of single lassos
pub third_tray : (range : Limits) → Wider pattern_range range → ThirdDemand range → ThirdTray range
unfolding TrayDemand ThirdDemand ThirdTray
third_tray range wider third t answer r before after checks passes built fine xs p q a a_now w w_now b b_now z z_now many many' says other =
    let c = used r after.words in
    let passed = build_passed built fine in
    let valid : table_refusal range t ≡ 0 = checked_wider t passed wider in
    let valid' : table_refusal range c ≡ 0 = rw (build_used built fine) (words_valid t passed range (build_fits built fine)) in
    let letters : k_of t ≡ k_of c = rw (build_used built fine) (sym (words_letters t passed)) in
    let first = tray_demand range t (list_of xs) p a a_now w w_now says in
    let second = tray_demand range c (list_of xs) q b b_now z z_now other in
    let none = (first.table 0 (omega arith)).1 (xs, refl, many, valid) in
    let none' = (second.table 0 (omega arith)).1 (xs, refl, many', valid') in
    record {
      accepted = (none, none');
      opposite =
          λ i l small small'.
          let x = get_or xs i no_lasso in
          let byte = first.lasso_bytes none xs refl i l in
          let lasso = (accepted range t x.prefix x.loop (length w) (decides byte small)).lasso in
          parted_bytes byte (second.lasso_bytes none' xs refl i l) small small'
          (third t answer r before after x.prefix x.loop checks passes built fine lasso);
      alike =
          λ i l number far few.
          let byte = first.lasso_bytes none xs refl i l in
          let byte' = second.lasso_bytes none' xs refl i l in
          (alike_bytes byte byte' valid valid' letters number far few, alike_bytes byte' byte valid' valid (sym letters) number far few);
    }
