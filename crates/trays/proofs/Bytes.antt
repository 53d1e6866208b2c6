-- The decision on one lasso of a list: refused for its lengths or its letters; and that each decision is a byte. Assumes nothing.
use mathlib.Core.Path.{◌≡◌, refl, sym, ◌∙◌}
use mathlib.Core.Bool.{Bool, true, false, cond}
use mathlib.Core.List.{List}
use mathlib.Core.Logic.{inl, inr}
use Prim.Native.Nat.{ℕ, zero, suc, ◌≤◌, ◌<◌}
use native.Mathlib.Omega.{arith}
use lib.Dec.{ltb}
use lib.ListN.{length, get_or, take}
use Rattle.basics.specs.Refusals.{number}
use Rattle.basics.specs.declared.Refusal.{Refusal}
use Rattle.basics.proofs.Booleans.{either, and_false_l, and_false_r, ge_ltb}
use Rattle.basics.proofs.Refusals.{numbered}
use Rattle.basics.proofs.Scans.{Scan, scan_done, scan_fails}
use Rattle.automata.specs.Decision.{takes?}
use Rattle.automata.specs.Lasso.{all_below}
use Rattle.tables.specs.Table.{Limits, n_of, k_of, meaning, table_refusal}
use Rattle.lassos.specs.Decision.{Refused, as_decision, decision}
use Rattle.lassos.specs.Refusals.{lengths_refusal, lasso_refusal}
use Rattle.lassos.proofs.Decides.{parts_decide}
use Rattle.lassos.proofs.Parts.{parts_lengths, parts_15, lasso_most}
use Rattle.trays.specs.Answers.{as_byte}

-- EVERY DECISION IS A BYTE, of at most 16
number_most : (r : ℕ) (b : Bool) → r ≤ 16 → as_byte (as_decision r b) ≤ 16
unfolding as_byte as_decision
number_most zero true m = omega arith
number_most zero false m = omega arith
number_most (suc r) b m = m

pub decision_most : (range : Limits) (t u v : List ℕ) (w : ℕ) → as_byte (decision range t u v w) ≤ 16
unfolding decision
decision_most range t u v w = number_most (lasso_refusal range t u v w) (takes? (meaning t) u v) (lasso_most range t u v w)

-- COPYING: the first i words are letters below k, and they are copied
pub record Copying (words : List ℕ) (k : ℕ) (letters letters_now : List ℕ) (i : ℕ) : Type 0 where
  pub below : Scan true (λ j. ltb (get_or words j 0) k) (length words) i
  pub same : length letters_now ≡ length letters
  pub copied : take i letters_now ≡ take i words

module _ {words letters letters1 : List ℕ} {k i : ℕ} (h : Copying words k letters letters1 i) where
  -- to the end: all words are letters below k
  pub copying_below : length words ≤ i → all_below k words ≡ true
  unfolding all_below
  copying_below over = sym (scan_done h.below over)

-- a word that is no letter below k
pub not_below : (k : ℕ) (u : List ℕ) (i : ℕ) → i < length u → k ≤ get_or u i 0 → all_below k u ≡ false
unfolding all_below
not_below k u i l b = sym (scan_fails (λ j. ltb (get_or u j 0) k) (length u) i l (ge_ltb b))

-- A LASSO OF A LIST, on a table that has passed its check: its lengths are refused
module _ (range : Limits) (t u v : List ℕ) (w : ℕ) (valid : table_refusal range t ≡ 0) where
  pub listed_lengths : (r : Refusal) → number r ≡ lengths_refusal (length u) (length v) → Refused (number r) ≡ decision range t u v w
  listed_lengths r e =
      parts_decide range t u v w r valid refl refl (parts_lengths (n_of t) (k_of t) u v w e (λ z. let some = numbered r in omega arith))

  -- or a letter is, of the prefix or of the loop
  module _ (fine : 0 ≡ lengths_refusal (length u) (length v)) (r : Refusal) where
    pub listed_prefix : number r ≡ cond (all_below (k_of t) u) 0 15 → Refused (number r) ≡ decision range t u v w
    listed_prefix e =
        elim (either (all_below (k_of t) u)) [
          | inl below ↦ absurd (let none = rw below at e in let some = numbered r in omega arith)
          | inr far ↦
              parts_decide range t u v w r valid refl refl
              (rw far at e ∙ parts_15 (n_of t) (k_of t) u v w fine refl (and_false_l (all_below (k_of t) v) far))
        ]

    pub listed_loop : number r ≡ cond (all_below (k_of t) v) 0 15 → Refused (number r) ≡ decision range t u v w
    listed_loop e =
        elim (either (all_below (k_of t) v)) [
          | inl below ↦ absurd (let none = rw below at e in let some = numbered r in omega arith)
          | inr far ↦
              parts_decide range t u v w r valid refl refl
              (rw far at e ∙ parts_15 (n_of t) (k_of t) u v w fine refl (and_false_r (all_below (k_of t) u) far))
        ]
