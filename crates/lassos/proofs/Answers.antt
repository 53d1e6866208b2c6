-- What the answer of a lasso decision says: it is taken exactly where the table has an accepting run over the lasso, and refused exactly
-- by the first refusal that is met, which for a valid table and a lasso over its letters is 14 or 16. Assumes nothing.
use mathlib.Core.Path.{◌≡◌, refl, sym, ◌∙◌}
use mathlib.Core.Bool.{Bool, true, false, ◌&&◌, ◌||◌, not}
use mathlib.Core.List.{List}
use mathlib.Core.Logic.{◌⊎◌, inl, inr, ◌↔◌}
use Prim.Native.Nat.{ℕ, zero, suc, ◌+◌, ◌*◌, ◌≤◌}
use native.Mathlib.Omega.{arith}
use lib.Dec.{ltb, eqb}
use lib.ListN.{length}
use Rattle.basics.specs.Buffers.{or_else, zeros}
use Rattle.basics.proofs.Booleans.{either, clash, ne_eqb, and_make, not_true, not_both}
use Rattle.automata.specs.Automaton.{Takes}
use Rattle.automata.specs.Decision.{takes?}
use Rattle.automata.specs.Lasso.{letter_at, all_below, Lasso}
use Rattle.automata.proofs.Decision.{takes_right}
use Rattle.tables.specs.Table.{Limits, n_of, k_of, meaning, table_refusal}
use Rattle.tables.proofs.Laws.{valid, meaning_closed}
use Rattle.lassos.specs.Decision.{Decision, Taken, NotTaken, Refused, as_decision, decision, LassoSays}
use Rattle.lassos.specs.Refusals.{longest_part, lengths_refusal, parts_refusal, lasso_refusal}
use Rattle.lassos.proofs.Decides.{as_refused}
use Rattle.lassos.proofs.Parts.{accepted, parts_own}

-- each answer belongs to one number and one truth
number_taken : (r : ℕ) (b : Bool) → Taken ≡ as_decision r b → (r ≡ 0) × (b ≡ true)
unfolding as_decision
number_taken zero true e = (refl, refl)
number_taken zero false e = absurd (let z : ◌≡◌ {A = ℕ} 0 1 = cc in omega arith)
number_taken (suc r) b e = absurd (let z : ◌≡◌ {A = ℕ} 0 1 = cc in omega arith)

number_not_taken : (r : ℕ) (b : Bool) → NotTaken ≡ as_decision r b → (r ≡ 0) × (b ≡ false)
unfolding as_decision
number_not_taken zero true e = absurd (let z : ◌≡◌ {A = ℕ} 0 1 = cc in omega arith)
number_not_taken zero false e = (refl, refl)
number_not_taken (suc r) b e = absurd (let z : ◌≡◌ {A = ℕ} 0 1 = cc in omega arith)

number_refused : (n r : ℕ) (b : Bool) → Refused n ≡ as_decision r b → (r ≡ n) × (1 ≤ n)
unfolding as_decision
number_refused n zero true e = absurd (let z : ◌≡◌ {A = ℕ} 0 1 = cc in omega arith)
number_refused n zero false e = absurd (let z : ◌≡◌ {A = ℕ} 0 1 = cc in omega arith)
number_refused n (suc r) b e = let s : suc r ≡ n = cc in (s, omega arith)

-- a lasso over the letters meets neither 13 nor 15
lasso_number :
    (n k : ℕ) (u v : List ℕ) (w : ℕ) → Lasso k u v → (parts_refusal n k u v w ≡ 0 → ⊥) →
    (parts_refusal n k u v w ≡ 14) ⊎ (parts_refusal n k u v w ≡ 16)
unfolding lengths_refusal parts_refusal or_else
lasso_number n k u v w lasso met =
    let some : eqb (length v) 0 ≡ false = ne_eqb (length v) 0 (λ z. let o = lasso.endless in omega arith) in
    let below : not (all_below k u && all_below k v) ≡ false = not_true (and_make lasso.prefix lasso.loop) in
    elim (either (ltb longest_part (length u) || ltb longest_part (length v))) [
      | inl long ↦ inl (rw (some, long))
      | inr short ↦
          elim (either (ltb w (4 * n * (length u + length v)))) [
            | inl few ↦ inr (rw (some, short, below, few))
            | inr enough ↦ absurd (met (rw (some, short, below, enough)))
          ]
    ]

-- where nothing is refused, the search is right
decided :
    (range : Limits) (t u v : List ℕ) (work : ℕ) → lasso_refusal range t u v work ≡ 0 →
    (takes? (meaning t) u v ≡ true) ↔ Takes (meaning t) (letter_at u v)
decided range t u v work none =
    let a = accepted range t u v work none in
    takes_right (meaning t) u v (meaning_closed (valid range t a.valid)) a.lasso.endless

-- what a call says that answers the definition's decision
pub decision_says : (range : Limits) (t u v w : List ℕ) → LassoSays range t u v (decision range t u v (length w)) w (zeros w)
decision_says range t u v w = record { answer = refl; work = refl }

module _ {range : Limits} {t u v : List ℕ} {d : Decision} {w w_now : List ℕ} (says : LassoSays range t u v d w w_now) where
  -- taken: nothing is refused, and the table has an accepting run over the lasso
  pub says_taken : (d ≡ Taken) ↔ ((lasso_refusal range t u v (length w) ≡ 0) × Takes (meaning t) (letter_at u v))
  unfolding decision as_decision
  says_taken = (
    (λ h.
        let (none, found) = number_taken (lasso_refusal range t u v (length w)) (takes? (meaning t) u v) (sym h ∙ says.answer) in
        (none, (decided range t u v (length w) none).0 found)),
    (λ h. rw (h.0, (decided range t u v (length w) h.0).1 h.1) at says.answer),
  )

  -- not taken: nothing is refused, and it has none
  pub says_not_taken : (d ≡ NotTaken) ↔ ((lasso_refusal range t u v (length w) ≡ 0) × (Takes (meaning t) (letter_at u v) → ⊥))
  unfolding decision as_decision
  says_not_taken = (
    (λ h.
        let (none, missed) = number_not_taken (lasso_refusal range t u v (length w)) (takes? (meaning t) u v) (sym h ∙ says.answer) in
        (none, λ takes. clash ((decided range t u v (length w) none).1 takes) missed)),
    (λ h.
        let missed = not_both (takes? (meaning t) u v) (λ e. h.1 ((decided range t u v (length w) h.0).0 e)) in
        rw (h.0, missed) at says.answer),
  )

  -- refused: by the number that is met
  pub says_refused : (number : ℕ) → (d ≡ Refused number) ↔ ((lasso_refusal range t u v (length w) ≡ number) × (1 ≤ number))
  unfolding decision
  says_refused number = (
    (λ h. number_refused number (lasso_refusal range t u v (length w)) (takes? (meaning t) u v) (sym h ∙ says.answer)),
    (λ h.
        let (same, some) = h in
        let r = as_refused number (takes? (meaning t) u v) (λ z. omega arith) in says.answer ∙ cc),
  )

  -- of a valid table and a lasso over its letters, that is 14 or 16
  pub lasso_refused :
      table_refusal range t ≡ 0 → Lasso (k_of t) u v → (number : ℕ) → d ≡ Refused number →
      (number ≡ 14) ⊎ (number ≡ 16)
  lasso_refused table lasso number h =
      let (same, some) = (says_refused number).0 h in
      let e = parts_own range t u v (length w) table in
      rw (sym same ∙ e) (lasso_number (n_of t) (k_of t) u v (length w) lasso (λ z. let none = e ∙ z in omega arith))
