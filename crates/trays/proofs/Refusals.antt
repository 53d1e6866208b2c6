-- Laws of refusals 17 and 18, and of what a call answers and leaves in each case. Assumes nothing.
use mathlib.Core.Path.{◌≡◌, refl, sym, ap, ◌∙◌}
use mathlib.Core.Bool.{not}
use mathlib.Core.List.{List, map}
use Prim.Native.Nat.{ℕ}
use lib.Dec.{eqb}
use lib.ListN.{length, replicate}
use Rattle.std.specs.Prelude.{Ok, Err}
use Rattle.basics.specs.Buffers.{as_written, zeros}
use Rattle.basics.specs.Refusals.{number, written}
use Rattle.basics.specs.declared.Refusal.{Refusal}
use Rattle.basics.proofs.Booleans.{false_not, eq_eqb, ne_eqb, eqb_eq}
use native.Mathlib.Omega.{arith}
use Rattle.basics.proofs.Refusals.{numbered}
use Rattle.basics.proofs.Refusing.{passed, or_else_none, or_else_first, or_else_second, written_refused}
use Rattle.tables.specs.Table.{Limits, table_refusal}
use Rattle.trays.specs.Answers.{list_refusal, tray_refusal, byte_of, tray_bytes, TraySays}
use Rattle.trays.specs.Tray.{tray}

-- THE LIST: whether words are left, then the count
module _ (s : List ℕ) (b : ℕ) where
  pub list_17 : (length (tray s).left ≡ 0 → ⊥) → 17 ≡ list_refusal s b
  unfolding list_refusal
  list_17 some = cc (ne_eqb (length (tray s).left) 0 some)

  module _ (exact : length (tray s).left ≡ 0) {n : ℕ} (counted : n ≡ length (tray s).lassos) where
    pub list_18 : (n ≡ b → ⊥) → 18 ≡ list_refusal s b
    unfolding list_refusal
    list_18 ne = cc (eq_eqb exact, ne_eqb (length (tray s).lassos) b (λ e. ne (counted ∙ e)))

    pub list_passes : n ≡ b → 0 ≡ list_refusal s b
    unfolding list_refusal
    list_passes e = cc (eq_eqb exact, eq_eqb (sym counted ∙ e))

-- a list that is not refused ends exactly, and has as many lassos as there are bytes
pub record ListFits (s : List ℕ) (b : ℕ) : Type 0 where
  pub exact : length (tray s).left ≡ 0
  pub counted : length (tray s).lassos ≡ b

pub list_fits : (s : List ℕ) (b : ℕ) → list_refusal s b ≡ 0 → ListFits s b
unfolding list_refusal
list_fits s b h =
    let ends = passed (not (eqb (length (tray s).left) 0)) 16 _ h in
    let counts = passed (not (eqb (length (tray s).lassos) b)) 17 0 ends.1 in
    record {
      exact = eqb_eq (length (tray s).left) 0 (false_not _ ends.0);
      counted = eqb_eq (length (tray s).lassos) b (false_not _ counts.0);
    }

-- THE CALL: the list first, then the table, then each lasso
module _ (range : Limits) (t s : List ℕ) (b : ℕ) where
  pub by_list : (list_refusal s b ≡ 0 → ⊥) → tray_refusal range t s b ≡ list_refusal s b
  unfolding tray_refusal
  by_list met = or_else_first (list_refusal s b) (table_refusal range t) met

  pub by_table : list_refusal s b ≡ 0 → tray_refusal range t s b ≡ table_refusal range t
  unfolding tray_refusal
  by_table none = or_else_second (list_refusal s b) (table_refusal range t) none

  pub by_neither : tray_refusal range t s b ≡ 0 → (list_refusal s b ≡ 0) × (table_refusal range t ≡ 0)
  unfolding tray_refusal
  by_neither none = or_else_none (list_refusal s b) (table_refusal range t) none

module _ (range : Limits) (t s a : List ℕ) (work : ℕ) where
  pub bytes_list : (list_refusal s (length a) ≡ 0 → ⊥) → tray_bytes range t s a work ≡ zeros a
  unfolding tray_bytes
  bytes_list met = rw (ne_eqb (list_refusal s (length a)) 0 met)

  pub bytes_table :
      list_refusal s (length a) ≡ 0 → (table_refusal range t ≡ 0 → ⊥) → tray_bytes range t s a work ≡ replicate (length a) (table_refusal range t)
  unfolding tray_bytes
  bytes_table none met = rw (eq_eqb none, ne_eqb (table_refusal range t) 0 met)

  pub bytes_each :
      list_refusal s (length a) ≡ 0 → table_refusal range t ≡ 0 → tray_bytes range t s a work ≡ map (byte_of range t work) (tray s).lassos
  unfolding tray_bytes
  bytes_each none passed = rw (eq_eqb none, eq_eqb passed)

-- what it says is said of the work words as they will be cleared
module _ (range : Limits) (t s a w : List ℕ) where
  pub answers_list :
      (r : Refusal) → number r ≡ list_refusal s (length a) → {a_now : List ℕ} → a_now ≡ replicate (length a) 0 →
      TraySays range t s (written (Err r)) a a_now w (zeros w)
  unfolding zeros
  answers_list r is_list cleared =
      let met : number r ≡ 0 → ⊥ = λ z. let some = numbered r in omega arith in
      let far : list_refusal s (length a) ≡ 0 → ⊥ = λ z. met (is_list ∙ z) in
      record {
        answer = written_refused (number r) _ (is_list ∙ sym (by_list range t s (length a) far)) met (length (tray s).lassos);
        bytes = cleared ∙ sym (bytes_list range t s a (length w) far);
        work = refl;
      }

  module _ (near : list_refusal s (length a) ≡ 0) where
    pub answers_table :
        (r : Refusal) → number r ≡ table_refusal range t → {a_now : List ℕ} → a_now ≡ replicate (length a) (number r) →
        TraySays range t s (written (Err r)) a a_now w (zeros w)
    answers_table r is_table all =
        let met : number r ≡ 0 → ⊥ = λ z. let some = numbered r in omega arith in
        let far : table_refusal range t ≡ 0 → ⊥ = λ z. met (is_table ∙ z) in
        record {
          answer = written_refused (number r) _ (is_table ∙ sym (by_table range t s (length a) near)) met (length (tray s).lassos);
          bytes = all ∙ (ap (λ (n : ℕ). replicate (length a) n) is_table ∙ sym (bytes_table range t s a (length w) near far));
          work = refl;
        }

    pub answers_each :
        table_refusal range t ≡ 0 → {a_now : List ℕ} → a_now ≡ map (byte_of range t (length w)) (tray s).lassos → {n : ℕ} → n ≡ length a →
        TraySays range t s (written (Ok n)) a a_now w (zeros w)
    unfolding as_written
    answers_each none each counted =
        let count = (list_fits s (length a) near).counted in
        record {
          answer = rw (by_table range t s (length a) near ∙ none, count, counted);
          bytes = each ∙ sym (bytes_each range t s a (length w) near none);
          work = refl;
        }
