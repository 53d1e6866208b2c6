-- Laws of reading a list from its front: the first lasso that it holds, and the two loops, which count its lassos and decide them.
-- Assumes nothing.
use mathlib.Core.Path.{◌≡◌, refl, ap, ◌∙◌}
use mathlib.Core.List.{List, [], ◌∷◌, ◌++◌, append_assoc, append-nil, map}
use mathlib.Core.Logic.{inl, inr}
use Prim.Native.Nat.{ℕ, zero, suc, ◌+◌, ◌-◌, ◌≤◌, ◌<◌}
use native.Mathlib.Omega.{arith}
use native.Mathlib.Numerals.{add-one}
use lib.Dec.{leb}
use lib.ListN.{length, get_or, set, take, drop, length-drop, length-set, take-append-drop}
use lib.Seq.{take_all, take-suc-set, append_snoc}
use Rattle.std.specs.List.{IsSplitAt}
use Rattle.basics.proofs.Booleans.{either}
use Rattle.trays.specs.Tray.{Parts, lasso_words, no_more, led_by, tray_in, tray}
use Rattle.trays.proofs.Reading.{tray_none, tray_single, tray_cut, tray_lasso}

-- THE FIRST LASSO of a list. Fewer than two words hold none
pub few_words : (s : List ℕ) → length s < 2 → tray s ≡ no_more s
few_words [] l = tray_none
few_words (x ∷ []) l = tray_single x
few_words (x ∷ (y ∷ s)) l = absurd (omega arith)

-- behind both lengths stands the rest
behind_lengths : (s : List ℕ) → take (length s - 2) (drop 2 s) ≡ drop 2 s
behind_lengths s = take_all (length s - 2) (drop 2 s) (let d = length-drop 2 s in omega arith)

-- one that is cut short is none
pub cut_first :
    (s : List ℕ) → 2 ≤ length s → length (take (length s - 2) (drop 2 s)) < get_or s 0 0 + get_or s 1 0 → tray s ≡ no_more s
cut_first [] l short = absurd (omega arith)
cut_first (x ∷ []) l short = absurd (omega arith)
cut_first (p ∷ (q ∷ t)) l short = tray_cut p q t (let e = ap length (behind_lengths (p ∷ (q ∷ t))) in omega arith)

-- a whole one, then what follows it
pub whole_first :
    (s u v behind rest : List ℕ) → 2 ≤ length s → IsSplitAt (take (length s - 2) (drop 2 s)) (get_or s 0 0) u behind →
    IsSplitAt behind (get_or s 1 0) v rest → tray s ≡ led_by (record { prefix = u; loop = v }) (tray rest)
unfolding lasso_words
whole_first [] u v behind rest l first second = absurd (omega arith)
whole_first (x ∷ []) u v behind rest l first second = absurd (omega arith)
whole_first (p ∷ (q ∷ t)) u v behind rest l first second =
    let (fits, front, back, long, more) = rw (behind_lengths (p ∷ (q ∷ t))) at first in
    let (fits', front', back', long', more') = second in
    let later : v ++ rest ≡ behind = rw (front', back') (take-append-drop q behind) in
    let letters : u ++ behind ≡ t = rw (front, back) (take-append-drop p t) in
    let joined : (u ++ v) ++ rest ≡ t = append_assoc u v rest ∙ (ap (λ (x : List ℕ). u ++ x) later ∙ letters) in
    let words : p ∷ (q ∷ t) ≡ lasso_words (record { prefix = u; loop = v }) ++ rest = rw (long, long', joined) refl in
    ap tray words ∙ tray_lasso (record { prefix = u; loop = v }) rest

-- which are fewer
pub fewer : (x : Parts) (s t : List ℕ) → tray s ≡ led_by x (tray t) → length (tray t).lassos < length (tray s).lassos
unfolding led_by
fewer x s t e = rw e (omega arith)

-- COUNTING: so many lassos were passed, and this list is left of the whole one
pub record Counting (s rest : List ℕ) (count : ℕ) : Type 0 where
  pub passed : count + length (tray rest).lassos ≡ length (tray s).lassos
  pub left : (tray rest).left ≡ (tray s).left

pub counting_start : (s : List ℕ) → Counting s s 0
counting_start s = record { passed = omega arith; left = refl }

-- a list has no more lassos than words
lassos_to : (f : ℕ) (s : List ℕ) → length (tray_in f s).lassos ≤ f
unfolding tray_in no_more led_by
lassos_to zero s = omega arith
lassos_to (suc f) [] = omega arith
lassos_to (suc f) (p ∷ []) = omega arith
lassos_to (suc f) (p ∷ (q ∷ t)) =
    elim (either (leb (p + q) (length t))) [
      | inl fits ↦ rw fits (let few = lassos_to f (drop (p + q) t) in omega arith)
      | inr short ↦ rw short (omega arith)
    ]

lassos_few : (s : List ℕ) → length (tray s).lassos ≤ length s
unfolding tray
lassos_few s = lassos_to (length s) s

module _ {s rest : List ℕ} {count : ℕ} (h : Counting s rest count) where
  pub counting_few : count ≤ length s
  counting_few = let few = lassos_few s in let passed = h.passed in omega arith

  pub counting_turn : (x : Parts) (t : List ℕ) → tray rest ≡ led_by x (tray t) → Counting s t (count + 1)
  unfolding led_by
  counting_turn x t e = let passed = rw e at h.passed in record { passed = omega arith; left = rw e at h.left }

  -- where no lasso follows, all are counted, and what is left is what the list leaves
  module _ (none : tray rest ≡ no_more rest) where
    pub counting_all : count ≡ length (tray s).lassos
    unfolding no_more
    counting_all = let passed = rw none at h.passed in omega arith

    pub counting_left : length rest ≡ length (tray s).left
    unfolding no_more
    counting_left = ap length (rw none at h.left)

-- DECIDING: the first i bytes are those of the lassos that were passed, and this list is left of the whole one
module _ (f : Parts → ℕ) (s a : List ℕ) (work : ℕ) where
  pub record Deciding (a_now w_now rest : List ℕ) (i : ℕ) : Type 0 where
    pub same : length a_now ≡ length a
    pub room : length w_now ≡ work
    pub count : i + length (tray rest).lassos ≡ length a
    pub bytes : take i a_now ++ map f (tray rest).lassos ≡ map f (tray s).lassos

module _ {f : Parts → ℕ} {s a : List ℕ} {work : ℕ} where
  pub deciding_start : {w : List ℕ} → length w ≡ work → length (tray s).lassos ≡ length a → Deciding f s a work a w s 0
  deciding_start room count = record { same = refl; room = room; count = omega arith; bytes = refl }

  module _ {a1 w1 rest : List ℕ} {i : ℕ} (h : Deciding f s a work a1 w1 rest i) where
    -- a lasso is there, so a byte is too
    module _ (x : Parts) (t : List ℕ) (first : tray rest ≡ led_by x (tray t)) where
      pub deciding_inside : i < length a1
      deciding_inside = let few = fewer x rest t first in let same = h.same in let count = h.count in omega arith

      pub deciding_turn : {w2 : List ℕ} → length w2 ≡ length w1 → {b : ℕ} → b ≡ f x → Deciding f s a work (set a1 i b) w2 t (i + 1)
      unfolding led_by
      deciding_turn kept {b} is_byte =
          let count = rw first at h.count in
          let bytes = rw first at h.bytes in
          record {
            same = length-set a1 i b ∙ h.same;
            room = kept ∙ h.room;
            count = omega arith;
            bytes =
                rw (add-one i, take-suc-set a1 i b deciding_inside, append_snoc (take i a1) b (map f (tray t).lassos), is_byte) bytes;
          }

    pub deciding_end : tray rest ≡ no_more rest → a1 ≡ map f (tray s).lassos
    unfolding no_more
    deciding_end none =
        let same = h.same in
        let count = rw none at h.count in rw (append-nil, take_all i a1 (omega arith)) at (rw none at h.bytes)
