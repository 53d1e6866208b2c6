-- Writing a buffer from the front: what is written so far stands first, and the rest is as it was. One word more, several,
-- and clearing what is left. Assumes nothing.
use mathlib.Core.Path.{◌≡◌, refl, sym, ap, ◌∙◌}
use mathlib.Core.List.{List, [], ◌∷◌, ◌++◌, append_assoc, append-nil}
use Prim.Native.Nat.{ℕ, suc, ◌+◌, ◌-◌, ◌≤◌, ◌<◌}
use native.Mathlib.Omega.{arith}
use native.Mathlib.Numerals.{add-one}
use borrow.Rule.Slice.PartMut.{mid_of, put_mid}
use lib.ListN.{length, get_or, set, take, drop, length-append, length-drop, drop_of_length-le}
use lib.Seq.{append_snoc, drop-cons, set_at, take_all, take_at, drop_at, sets}
use Rattle.basics.specs.Buffers.{zeros, filled, overwritten}

module _ (x w : List ℕ) where
  -- what is written so far, and what is left
  overwritten_front : (n : ℕ) → length x ≡ n → take n (overwritten x w) ≡ x
  unfolding overwritten
  overwritten_front n e = take_at x (drop (length x) w) n e

  overwritten_rest : (n : ℕ) → length x ≡ n → drop n (overwritten x w) ≡ drop n w
  unfolding overwritten
  overwritten_rest n e = drop_at x (drop (length x) w) n e ∙ ap (λ (k : ℕ). drop k w) e

-- one word more
overwritten_word :
    (x w : List ℕ) (n a : ℕ) → length x ≡ n → n < length w → set (overwritten x w) n a ≡ overwritten (x ++ (a ∷ [])) w
unfolding overwritten
overwritten_word x w n a e l =
    let here : drop (length x) w ≡ get_or w n 0 ∷ drop (suc n) w = rw e (drop-cons w n 0 l) in
    let more : length (x ++ (a ∷ [])) ≡ suc n = length-append x (a ∷ []) ∙ rw e (add-one n) in
    rw (here, more) (set_at x (get_or w n 0) (drop (suc n) w) a n e ∙ sym (append_assoc x (a ∷ []) (drop (suc n) w)))

-- words more, one behind the other
pub overwritten_words :
    (x w ys : List ℕ) (n : ℕ) → length x ≡ n → n + length ys ≤ length w → sets (overwritten x w) n ys ≡ overwritten (x ++ ys) w
overwritten_words x w [] n e l = ap (λ (l : List ℕ). overwritten l w) (sym (append-nil x))
overwritten_words x w (a ∷ ys) n e l =
    let inside : n < length w = omega arith in
    let room : suc n + length ys ≤ length w = omega arith in
    let more : length (x ++ (a ∷ [])) ≡ suc n = length-append x (a ∷ []) ∙ rw e (add-one n) in
    ap (λ (v : List ℕ). sets v (suc n) ys) (overwritten_word x w n a e inside)
    ∙ (overwritten_words (x ++ (a ∷ [])) w ys (suc n) more room ∙ ap (λ (l : List ℕ). overwritten l w) (append_snoc x a ys))

-- what is left is cleared, as a part of the buffer
pub overwritten_cleared :
    (x w : List ℕ) {v part : List ℕ} {n : ℕ} → n ≡ length x → v ≡ overwritten x w → part ≡ zeros (mid_of n (length v - n) v) →
    put_mid n (length v - n) v part ≡ filled x w
unfolding filled zeros
overwritten_cleared x w {v} {part} {n} end written cleared =
    let rest : drop n v ≡ drop n w = rw written (overwritten_rest x w n (sym end)) in
    let left : length (drop n v) ≡ length v - n = length-drop n v in
    let whole : take (length v - n) (drop n v) ≡ drop n v = take_all (length v - n) (drop n v) (omega arith) in
    let past : length (drop n v) ≤ length v - n = omega arith in
    let none : drop (length v - n) (drop n v) ≡ [] = drop_of_length-le (drop n v) past in
    let many : length (drop n v) ≡ length w - length x = rw (rest, ← end) (length-drop n w) in
    let front : take n v ≡ x = rw written (overwritten_front x w n (sym end)) in
    rw (none, append-nil part, cleared, whole, many, front) refl
