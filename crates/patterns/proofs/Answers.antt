-- From the parts of a reading to what it answers and leaves, and from a reading to the check's answer: its number, which is at most 10, and its
-- place. Assumes nothing.
use mathlib.Core.Path.{◌≡◌, refl, sym, ◌∙◌}
use mathlib.Core.Bool.{true, false}
use mathlib.Core.List.{List}
use mathlib.Core.Logic.{inl, inr}
use Prim.Native.Nat.{ℕ, zero, suc, ◌≤◌}
use native.Mathlib.Omega.{arith}
use lib.Dec.{eqb}
use Rattle.std.specs.Prelude.{Option, Some, None, Ok, Err}
use Rattle.basics.specs.Buffers.{or_else}
use Rattle.basics.specs.Refusals.{number, no_place, place_of}
use Rattle.basics.specs.declared.Refusal.{Refusal}
use Rattle.basics.specs.declared.Refusal.TheVariants as why
use Rattle.basics.specs.declared.Place.{Place}
use Rattle.basics.proofs.Booleans.{either, eqb_eq, eqb_ne, eq_eqb, ne_eqb}
use Rattle.basics.proofs.Refusals.{numbered}
use Rattle.basics.proofs.Refusing.{answer_most}
use Rattle.tables.specs.Table.{pattern_range, table_refusal, meaning}
use Rattle.tables.proofs.Refusals.{table_most}
use Rattle.ncsb.specs.declared.Shape.{Shape}
use Rattle.patterns.specs.Check.{check_refusal, place_of_fork, check_place, as_checked, checked, as_reading, reading, masks_read}
use Rattle.patterns.specs.Forks.{fork_place}
use Rattle.patterns.specs.Masks.{masks_of}
use Rattle.patterns.specs.Pattern.{semi_deterministic, moves}
use Rattle.patterns.specs.Reading.{Reading, read_as}
use Rattle.patterns.specs.Reading as read
use Rattle.patterns.specs.Shape.{shape_of, masks_place, SmallShape}
use Rattle.patterns.specs.declared.Checked.TheVariants.{Passed, Refused}
use Rattle.patterns.proofs.Forks.{masks_right}
use Rattle.patterns.proofs.Masks.{pattern_fits}
use Rattle.patterns.proofs.Passed.{checked_table}
use Rattle.patterns.proofs.Places.{none_right, place_uneven}
use Rattle.patterns.proofs.Shapes.{shape_small}

-- THE CHECK'S NUMBER AND PLACE. The number is at most 10
pub check_most : (t : List ℕ) → check_refusal t ≤ 10
unfolding check_refusal or_else
check_most t =
    let few = table_most pattern_range t in
    answer_most (eqb (table_refusal pattern_range t) 0) 10
    (answer_most (semi_deterministic (meaning t)) 10 (omega arith) (omega arith)) (omega arith)

module _ (t : List ℕ) where
  -- no number but 10 comes with a place
  pub no_fork_place : (check_refusal t ≡ 10 → ⊥) → check_place t ≡ no_place
  unfolding check_place
  no_fork_place ne = rw (ne_eqb (check_refusal t) 10 ne)

  -- nor does a pattern that passes
  pub passed_no_place : check_refusal t ≡ 0 → check_place t ≡ no_place
  passed_no_place passed = no_fork_place (λ ten. omega arith)

  -- 10 comes with the place where the pattern forks
  pub fork_place_kept : {p : Place} → check_refusal t ≡ 10 → fork_place (meaning t) ≡ Some p → check_place t ≡ p
  unfolding check_place place_of_fork
  fork_place_kept ten e = rw (eq_eqb ten, e)

  -- refusals 2 to 9 passed: 10 exactly where the pattern is not semi-deterministic
  module _ (passed : table_refusal pattern_range t ≡ 0) where
    uneven_refused : semi_deterministic (meaning t) ≡ false → check_refusal t ≡ 10
    unfolding check_refusal or_else
    uneven_refused e = rw (passed, e)

    pub even_none : semi_deterministic (meaning t) ≡ true → check_refusal t ≡ 0
    unfolding check_refusal or_else
    even_none e = rw (passed, e)

-- which of them is met: one of 2 to 9, or 10, or none
pub data CheckCase (t : List ℕ) : Type 0 where
  by_table : table_refusal pattern_range t ≡ check_refusal t → 1 ≤ check_refusal t → check_refusal t ≤ 9 → CheckCase t
  by_fork :
      table_refusal pattern_range t ≡ 0 → semi_deterministic (meaning t) ≡ false → check_refusal t ≡ 10 → CheckCase t
  by_none :
      table_refusal pattern_range t ≡ 0 → semi_deterministic (meaning t) ≡ true → check_refusal t ≡ 0 → CheckCase t

pub check_cases : (t : List ℕ) → CheckCase t
unfolding check_refusal or_else
check_cases t =
    elim (either (eqb (table_refusal pattern_range t) 0)) [
      | inl e ↦
          let passed = eqb_eq (table_refusal pattern_range t) 0 e in
          elim (either (semi_deterministic (meaning t))) [
            | inl even ↦ by_none passed even (even_none t passed even)
            | inr fork ↦ by_fork passed fork (uneven_refused t passed fork)
          ]
      | inr e ↦
          let ne = eqb_ne (table_refusal pattern_range t) 0 e in
          by_table (rw e refl) (rw e (omega arith)) (rw e (table_most pattern_range t))
    ]

-- A READING, FROM ITS PARTS. The reading for a number that is no zero
as_refused : (n : ℕ) (p : Place) (shape : Shape) → (n ≡ 0 → ⊥) → read.Refused n p ≡ as_reading n p shape
unfolding as_reading
as_refused zero p shape met = absurd (met refl)
as_refused (suc r) p shape met = refl

-- no refusal but 10 has a place
placeless : (r : Refusal) → (number r ≡ 10 → ⊥) → place_of r ≡ no_place
placeless (why.Forks p) ne = absurd (ne refl)
placeless r ne = refl

module _ (t : List ℕ) where
  -- one of refusals 2 to 9 is met, and is the check's
  module _ (r : Refusal) (told : number r ≡ table_refusal pattern_range t) where
    met : eqb (table_refusal pattern_range t) 0 ≡ false
    met = let n = (numbered r).from_one in ne_eqb (table_refusal pattern_range t) 0 (omega arith)

    pub table_refused : read_as (Err r) ≡ reading t
    unfolding reading check_refusal or_else
    table_refused =
        let same : number r ≡ check_refusal t = rw met told in
        let few = table_most pattern_range t in
        let n = (numbered r).from_one in
        let none = no_fork_place t (λ ten. omega arith) in
        let own = placeless r (λ ten. omega arith) in
        as_refused (number r) (place_of r) (shape_of (moves (meaning t))) (omega arith) ∙ cc (same, none)

    pub masks_kept : (before : List (List ℕ)) → before ≡ masks_read t before
    unfolding masks_read
    masks_kept before = let e = met in cc

  -- none is
  module _ (passed : table_refusal pattern_range t ≡ 0) (masks : List (List ℕ)) (spread : masks ≡ masks_of (moves (meaning t))) where
    pub masks_spread : (before : List (List ℕ)) → masks ≡ masks_read t before
    unfolding masks_read
    masks_spread before = let e : eqb (table_refusal pattern_range t) 0 ≡ true = eq_eqb passed in cc

    -- then 10 is the answer exactly where a fork is found, with its place
    module _
        (shape : Shape)
        (shaped : shape ≡ shape_of (moves (meaning t)))
        (fork : Option Place)
        (found : fork ≡ masks_place masks shape)
      where
        placed : fork_place (meaning t) ≡ fork
        placed = let right = masks_right (meaning t) (pattern_fits t passed) in cc

        pub fork_refused : (p : Place) → fork ≡ Some p → read_as (Err (why.Forks p)) ≡ reading t
        unfolding reading as_reading
        fork_refused p e =
            let ten = uneven_refused t passed (place_uneven (meaning t) (placed ∙ e)) in
            rw (ten, fork_place_kept t ten (placed ∙ e))

        pub even_passed : fork ≡ None → read_as (Ok shape) ≡ reading t
        unfolding reading as_reading
        even_passed e = rw (even_none t passed ((none_right (meaning t)).0 (placed ∙ e)), shaped)

-- a pattern's shape has no more states and letters than the masks
pub asks_small :
    (t : List ℕ) → table_refusal pattern_range t ≡ 0 → (shape : Shape) → shape ≡ shape_of (moves (meaning t)) → SmallShape shape
asks_small t passed shape e = rw e (shape_small t (pattern_fits t passed))

-- WHAT A READING SAYS, of the number, the place and the shape that it is made of
Says : Reading → (number : ℕ) → Place → Shape → Type 0
Says (read.Refused r q) n p s = (r ≡ n) × (q ≡ p) × (Refused r q ≡ as_checked n p)
Says (read.Pattern shape) n p s = (0 ≡ n) × (shape ≡ s) × (Passed ≡ as_checked n p)

says : (n : ℕ) (p : Place) (s : Shape) → Says (as_reading n p s) n p s
unfolding Says as_reading as_checked
says zero p s = (refl, refl, refl)
says (suc r) p s = (refl, refl, refl)

module _ (t : List ℕ) where
  reading_says : (r : Reading) → r ≡ reading t → Says r (check_refusal t) (check_place t) (shape_of (moves (meaning t)))
  unfolding reading
  reading_says r told = rw told (says (check_refusal t) (check_place t) (shape_of (moves (meaning t))))

  -- a refusal: its number and its place are the check's
  module _ (r : Refusal) (told : read_as (Err r) ≡ reading t) where
    pub reading_refused : number r ≡ check_refusal t
    unfolding Says
    reading_refused = (reading_says (read_as (Err r)) told).0

    pub reading_place : place_of r ≡ check_place t
    unfolding Says
    reading_place = (reading_says (read_as (Err r)) told).1

    pub answer_refused : Refused (number r) (place_of r) ≡ checked t
    unfolding Says checked
    answer_refused = (reading_says (read_as (Err r)) told).2

  -- where it gives a shape the check passes, the shape is the pattern's, and so are the masks
  module _ (shape : Shape) (told : read_as (Ok shape) ≡ reading t) where
    pub reading_passed : 0 ≡ check_refusal t
    unfolding Says
    reading_passed = (reading_says (read_as (Ok shape)) told).0

    pub reading_shape : shape ≡ shape_of (moves (meaning t))
    unfolding Says
    reading_shape = (reading_says (read_as (Ok shape)) told).1

    pub answer_passed : Passed ≡ checked t
    unfolding Says checked
    answer_passed = (reading_says (read_as (Ok shape)) told).2

    pub reading_masks :
        (before masks : List (List ℕ)) → masks ≡ masks_read t before → masks ≡ masks_of (moves (meaning t))
    unfolding masks_read
    reading_masks before masks e =
        let none : eqb (table_refusal pattern_range t) 0 ≡ true = eq_eqb (checked_table t (sym reading_passed)) in cc

-- the steps of a reading, for its proof
pub ruleset reading_steps = (table_refused, asks_small, masks_spread, fork_refused, even_passed)
