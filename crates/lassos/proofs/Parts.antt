-- Laws of refusals 13 to 16: what each test finds, and what holds of a table and a lasso that none refuses. Assumes nothing.
use mathlib.Core.Path.{◌≡◌, refl, sym, ap, ◌∙◌}
use mathlib.Core.Bool.{Bool, true, false, cond, ◌&&◌, ◌||◌, not}
use mathlib.Core.List.{List}
use mathlib.Core.Logic.{◌⊎◌, inl, inr}
use Prim.Native.Nat.{ℕ, zero, suc, ◌+◌, ◌*◌, ◌^◌, ◌≤◌, ◌<◌}
use native.Mathlib.Numerals.{add-one}
use native.Mathlib.Omega.{arith}
use native.Mathlib.Nat.{mul-le-mul}
use lib.Dec.{ltb, eqb}
use lib.ListN.{length, get_or, take}
use Rattle.std.proofs.lemmas.List.{take_all}
use Rattle.std.proofs.lemmas.List.Folds.{list_all_more}
use Rattle.std.specs.List.{list_all}
use Rattle.basics.specs.Bounded.{each}
use Rattle.basics.specs.Buffers.{or_else}
use Rattle.basics.proofs.Booleans.{either, and_l, and_r, false_not, eq_eqb, eqb_ne, ltb_ge, both_within}
use Rattle.basics.proofs.Refusing.{passed, answer_most, answer_least, or_else_none, or_else_most, or_else_least, or_else_first, or_else_second}
use Rattle.automata.specs.Lasso.{all_below, Lasso}
use Rattle.tables.specs.Table.{Limits, n_of, k_of, table_refusal}
use Rattle.tables.proofs.Refusals.{table_most}
use Rattle.lasso_search.specs.Width.{machine_bits, Few}
use Rattle.lassos.specs.Refusals.{longest_part, lengths_refusal, parts_refusal, lasso_refusal}

-- EACH LETTER of a part, as a list of letters
letters_to : (k : ℕ) (u : List ℕ) (n : ℕ) → n ≤ length u → list_all (λ x. ltb x k) (take n u) ≡ each n (λ i. ltb (get_or u i 0) k)
unfolding each
letters_to k u zero l = refl
letters_to k u (suc n) l =
    rw (← add-one n) (list_all_more (λ x. ltb x k) u n 0 (omega arith) ∙ ap (λ (b : Bool). b && ltb (get_or u n 0) k) (letters_to k u n (omega arith)))

pub letters_all : (k : ℕ) (u : List ℕ) → list_all (λ x. ltb x k) u ≡ all_below k u
unfolding all_below
letters_all k u = ap (list_all (λ x. ltb x k)) (sym (take_all (length u) u (omega arith))) ∙ letters_to k u (length u) (omega arith)

-- lengths that are not refused
pub record Short (p l : ℕ) : Type 0 where
  pub endless : 1 ≤ l
  pub prefix : p ≤ longest_part
  pub loop : l ≤ longest_part

pub lengths_past : (p l : ℕ) → lengths_refusal p l ≡ 0 → Short p l
unfolding lengths_refusal
lengths_past p l h =
    let a = passed (eqb l 0) 12 _ h in
    let b = passed (ltb longest_part p || ltb longest_part l) 13 0 a.1 in
    let some = eqb_ne l 0 a.0 in
    let (prefix_short, loop_short) = both_within longest_part p longest_part l b.0 in
    record { endless = omega arith; prefix = prefix_short; loop = loop_short }

-- THE TESTS one after the other, the lengths first
module _ (n k : ℕ) (u v : List ℕ) (w : ℕ) {x : ℕ} (is_lengths : x ≡ lengths_refusal (length u) (length v)) where
  pub parts_lengths : (x ≡ 0 → ⊥) → x ≡ parts_refusal n k u v w
  unfolding parts_refusal
  parts_lengths met = is_lengths ∙ sym (or_else_first (lengths_refusal (length u) (length v)) _ (λ z. met (is_lengths ∙ z)))

  pub parts_15 : x ≡ 0 → (all_below k u && all_below k v) ≡ false → 15 ≡ parts_refusal n k u v w
  unfolding parts_refusal or_else
  parts_15 fine far = let passed : eqb (lengths_refusal (length u) (length v)) 0 ≡ true = eq_eqb (sym is_lengths ∙ fine) in cc

-- for fewer states than some number with which the largest product can be counted through, the words that are needed can be counted too
pub needed_fits :
    (most n a b : ℕ) → Few machine_bits (2 * longest_part * most) → n < most → a ≤ longest_part → b ≤ longest_part →
    4 * n * (a + b) < 2 ^ machine_bits
needed_fits most n a b few l p q =
    let x : 4 * n ≤ 4 * most = omega arith in
    let y : a + b ≤ 2 * longest_part = omega arith in let m = mul-le-mul x y in omega arith

-- TABLE FIRST, in a range
module _ (range : Limits) (t u v : List ℕ) (w : ℕ) where
  pub table_first : {x : ℕ} → x ≡ table_refusal range t → (x ≡ 0 → ⊥) → x ≡ lasso_refusal range t u v w
  unfolding lasso_refusal
  table_first e met =
      e ∙ sym (or_else_first (table_refusal range t) (parts_refusal (n_of t) (k_of t) u v w) (λ z. met (e ∙ z)))

  -- of a table that passes, the refusal is the lasso's own
  pub parts_own : table_refusal range t ≡ 0 → lasso_refusal range t u v w ≡ parts_refusal (n_of t) (k_of t) u v w
  unfolding lasso_refusal
  parts_own none = or_else_second (table_refusal range t) (parts_refusal (n_of t) (k_of t) u v w) none

  pub parts_then :
      {n k x : ℕ} → table_refusal range t ≡ 0 → n ≡ n_of t → k ≡ k_of t → x ≡ parts_refusal n k u v w → x ≡ lasso_refusal range t u v w
  parts_then none n_is k_is e = e ∙ (rw (n_is, k_is) (sym (parts_own none)))

-- NO NUMBER is above 16, and none of the lengths above 14
pub lengths_most : (p l : ℕ) → lengths_refusal p l ≤ 14
unfolding lengths_refusal
lengths_most p l =
    answer_most (eqb l 0) 14 (omega arith)
    (answer_most (ltb longest_part p || ltb longest_part l) 14 (omega arith) (omega arith))

pub lasso_most : (range : Limits) (t u v : List ℕ) (w : ℕ) → lasso_refusal range t u v w ≤ 16
unfolding lasso_refusal parts_refusal
lasso_most range t u v w =
    let table = table_most range t in
    let lengths = lengths_most (length u) (length v) in
    or_else_most (table_refusal range t) _ 16 (omega arith)
    (or_else_most (lengths_refusal (length u) (length v)) _ 16 (omega arith)
    (answer_most (not (all_below (k_of t) u && all_below (k_of t) v)) 16 (omega arith)
    (answer_most (ltb w (4 * n_of t * (length u + length v))) 16 (omega arith) (omega arith))))

-- NONE BELOW 13 is the lasso's own
lengths_least : (p l : ℕ) → (lengths_refusal p l ≡ 0) ⊎ (13 ≤ lengths_refusal p l)
unfolding lengths_refusal
lengths_least p l =
    answer_least (eqb l 0) 13 (inr (omega arith))
    (answer_least (ltb longest_part p || ltb longest_part l) 13 (inr (omega arith)) (inl refl))

pub parts_least : (n k : ℕ) (u v : List ℕ) (w : ℕ) → (parts_refusal n k u v w ≡ 0) ⊎ (13 ≤ parts_refusal n k u v w)
unfolding parts_refusal
parts_least n k u v w =
    or_else_least (lengths_refusal (length u) (length v)) _ 13 (lengths_least (length u) (length v))
    (answer_least (not (all_below k u && all_below k v)) 13 (inr (omega arith))
    (answer_least (ltb w (4 * n * (length u + length v))) 13 (inr (omega arith)) (inl refl)))

-- 13 TO 15 are about a lasso and the letters alone: on another number of states and with other work words they are the same
parts_alike :
    (n n' k : ℕ) (u v : List ℕ) (w w' number : ℕ) → 13 ≤ number → number ≤ 15 → parts_refusal n k u v w ≡ number →
    parts_refusal n' k u v w' ≡ number
unfolding parts_refusal or_else
parts_alike n n' k u v w w' number far few e =
    elim (either (eqb (lengths_refusal (length u) (length v)) 0)) [
      | inr met ↦ rw met (rw met at e)
      | inl fine ↦
          elim (either (all_below k u && all_below k v)) [
            | inr other ↦ rw (fine, other) (rw (fine, other) at e)
            | inl all ↦
                let is : cond (ltb w (4 * n * (length u + length v))) 16 0 ≡ number = rw (fine, all) at e in
                elim (answer_least (ltb w (4 * n * (length u + length v))) {x = 16} {y = 0} 16 (inr (omega arith)) (inl refl)) [
                  | inl none ↦ absurd (omega arith)
                  | inr most ↦ absurd (omega arith)
                ]
          ]
    ]

-- so two tables that pass, over the same letters, refuse a lasso by them alike
pub lasso_alike :
    (range : Limits) (t c u v : List ℕ) (w z number : ℕ) → table_refusal range t ≡ 0 → table_refusal range c ≡ 0 → k_of t ≡ k_of c →
    13 ≤ number → number ≤ 15 → lasso_refusal range t u v w ≡ number → lasso_refusal range c u v z ≡ number
lasso_alike range t c u v w z number valid valid' letters far few e =
    parts_own range c u v z valid'
    ∙ (rw letters at (parts_alike (n_of t) (n_of c) (k_of t) u v w z number far few (sym (parts_own range t u v w valid) ∙ e)))

-- WHAT IS NOT REFUSED
pub record Accepted (range : Limits) (t u v : List ℕ) (w : ℕ) : Type 0 where
  pub valid : table_refusal range t ≡ 0
  pub lasso : Lasso (k_of t) u v
  pub prefix_short : length u ≤ longest_part
  pub loop_short : length v ≤ longest_part
  pub room : 4 * n_of t * (length u + length v) ≤ w

parts_past :
    (n k : ℕ) (u v : List ℕ) (w : ℕ) → parts_refusal n k u v w ≡ 0 →
    Short (length u) (length v) × Lasso k u v × (4 * n * (length u + length v) ≤ w)
unfolding parts_refusal
parts_past n k u v w h =
    let a = or_else_none (lengths_refusal (length u) (length v)) _ h in
    let short = lengths_past (length u) (length v) a.0 in
    let c = passed (not (all_below k u && all_below k v)) 14 _ a.1 in
    let d = passed (ltb w (4 * n * (length u + length v))) 15 0 c.1 in
    let both = false_not (all_below k u && all_below k v) c.0 in (
      short,
      record { prefix = and_l (all_below k v) both; loop = and_r (all_below k u) both; endless = short.endless },
      ltb_ge w (4 * n * (length u + length v)) d.0,
    )

pub accepted : (range : Limits) (t u v : List ℕ) (w : ℕ) → lasso_refusal range t u v w ≡ 0 → Accepted range t u v w
unfolding lasso_refusal
accepted range t u v w h =
    let both = or_else_none (table_refusal range t) (parts_refusal (n_of t) (k_of t) u v w) h in
    let (short, lasso, room) = parts_past (n_of t) (k_of t) u v w both.1 in
    record {
      valid = both.0;
      lasso = lasso;
      prefix_short = short.prefix;
      loop_short = short.loop;
      room = room;
    }
