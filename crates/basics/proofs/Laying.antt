-- Rows laid out in a buffer from a place on, by a loop over the rows. Assumes nothing.
use mathlib.Core.Path.{◌≡◌, refl, sym, ◌∙◌}
use mathlib.Core.List.{List, ◌++◌}
use Prim.Native.Nat.{ℕ, ◌+◌, ◌*◌, ◌≤◌, ◌<◌}
use native.Mathlib.Omega.{arith}
use native.Mathlib.Numerals.{add-one}
use lib.ListN.{length}
use lib.Seq.{sets, length-sets}
use Rattle.basics.specs.Rows.{rows}
use Rattle.basics.proofs.Lists.{sets_append}
use Rattle.basics.proofs.Rows.{rows_length}

-- the rows below i are laid out
pub record Laying (f : ℕ → List ℕ) (n : ℕ) (w : List ℕ) (at : ℕ) (w_now : List ℕ) (i : ℕ) : Type 0 where
  pub upto : i ≤ n
  pub same : length w_now ≡ length w
  pub is : w_now ≡ sets w at (rows i f)

pub laying_start : (f : ℕ → List ℕ) (n : ℕ) (w : List ℕ) (at : ℕ) → Laying f n w at w 0
unfolding rows
laying_start f n w at = record { upto = omega arith; same = refl; is = refl }

module _ {f : ℕ → List ℕ} {n : ℕ} {w : List ℕ} {at : ℕ} {v : List ℕ} {i : ℕ} (h : Laying f n w at v i) where
  -- one row more, each of the same width
  pub laying_turn :
      (width : ℕ) → ((i : ℕ) → i < n → length (f i) ≡ width) → i < n → (place : ℕ) → place ≡ at + width * i →
      Laying f n w at (sets v place (f i)) (i + 1)
  unfolding rows
  laying_turn width wide l place e =
      let long : length (rows i f) ≡ width * i = rows_length width i f (λ j m. wide j (omega arith)) in
      let behind : sets (sets w at (rows i f)) (at + length (rows i f)) (f i) ≡ sets w at (rows i f ++ f i) =
      sym (sets_append (rows i f) (f i) w at) in
      record {
        upto = omega arith;
        same = length-sets v place (f i) ∙ h.same;
        is = rw (add-one i, h.is, e, ← long) behind;
      }

  pub laying_end : n ≤ i → v ≡ sets w at (rows n f)
  laying_end l = let upto = h.upto in let e : i ≡ n = omega arith in rw e at h.is
