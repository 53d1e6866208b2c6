-- Laws of filling a buffer, word by word from the front, and of clearing one: that only its length matters, what zero words are, and
-- clearing a part. Assumes nothing.
use mathlib.Core.Path.{◌≡◌, refl, sym, ap, ◌∙◌}
use mathlib.Core.List.{List, [], ◌∷◌, ◌++◌, append-nil}
use Rattle.std.proofs.Common.{add-one}
use Prim.Native.Nat.{ℕ, zero, suc, ◌+◌, ◌-◌, ◌≤◌, ◌<◌}
use native.Mathlib.Omega.{arith}
use borrow.Rule.Slice.PartMut.{put_mid, mid_len, drop_put}
use lib.ListN.{length, get_or, set, take, drop, replicate, length-replicate, length-drop, length-set, drop_of_length-le, get_or-append}
use lib.Seq.{length-take-le, get_or-drop, get_or-append-add}
use Rattle.basics.specs.Buffers.{zeros}

-- one more item is the value
fill_more : {A : Type 0} → (n : ℕ) (v : A) (d : List A) → n < length d → set (replicate n v ++ drop n d) n v ≡ replicate (suc n) v ++ drop (suc n) d
fill_more n v [] l = absurd (omega arith)
fill_more zero v (x ∷ d) l = refl
fill_more (suc n) v (x ∷ d) l = ap (λ r. v ∷ r) (fill_more n v d (omega arith))

-- the first i items are the value, and the others as they were
pub record Filling {A : Type 0} (a : A) (w w_now : List A) (i : ℕ) : Type 0 where
  pub upto : i ≤ length w
  pub same : length w_now ≡ length w
  pub is : w_now ≡ replicate i a ++ drop i w

pub filling_start : {A : Type 0} (a : A) (w : List A) → Filling a w w 0
filling_start a w = record { upto = omega arith; same = refl; is = refl }

module _ {A : Type 0} {a : A} {w w1 : List A} {i : ℕ} (h : Filling a w w1 i) where
  pub filling_turn : i < length w1 → Filling a w (set w1 i a) (i + 1)
  filling_turn l =
      let b : i < length w = omega arith in
      record { upto = omega arith; same = length-set w1 i a ∙ h.same; is = rw (h.is, add-one) (fill_more i a w b) }

  pub filling_end : length w1 ≤ i → w1 ≡ replicate (length w) a
  filling_end l =
      let e : i ≡ length w = omega arith in
      let f : length w ≤ i = omega arith in
      let z : replicate i a ++ drop i w ≡ replicate (length w) a = rw (drop_of_length-le w f, append-nil, e) in h.is ∙ z

-- only the length of what was there matters
pub zeros_same : (w w1 : List ℕ) → length w1 ≡ length w → zeros w1 ≡ zeros w
unfolding zeros
zeros_same w w1 e = rw e

pub zeros_length : (w : List ℕ) → length (zeros w) ≡ length w
unfolding zeros
zeros_length w = length-replicate (length w) 0

-- zero in every place
pub zeros_at : (k i : ℕ) → get_or (replicate {A = ℕ} k 0) i 0 ≡ 0
zeros_at zero i = refl
zeros_at (suc k) zero = refl
zeros_at (suc k) (suc i) = zeros_at k i

-- A PART OF A BUFFER: its words are zero where they were cleared as a slice
pub front_cleared : (k : ℕ) (w part : List ℕ) → k ≤ length w → part ≡ zeros (take k w) → (i : ℕ) → i < k → get_or (part ++ drop k w) i 0 ≡ 0
unfolding zeros
front_cleared k w part inside clear i l =
    let long = zeros_length (take k w) in
    let short = length-take-le k w inside in
    let b : i < length (zeros (take k w)) = omega arith in
    rw clear (get_or-append (zeros (take k w)) (drop k w) 0 i b ∙ zeros_at (length (take k w)) i)

module _ (a e : ℕ) (w part : List ℕ) (order : a ≤ e) (inside : e ≤ length w) (clear : part ≡ zeros (take (e - a) (drop a w))) where
  pub part_cleared : (i : ℕ) → i < e - a → get_or (put_mid a (e - a) w part) (a + i) 0 ≡ 0
  part_cleared i l =
      let long = length-take-le a w (omega arith) in
      let rest = length-drop a w in
      let far : e - a ≤ length (drop a w) = omega arith in
      ap (λ (j : ℕ). get_or (put_mid a (e - a) w part) (j + i) 0) (sym long)
      ∙ (get_or-append-add (take a w) (part ++ drop (e - a) (drop a w)) i 0 ∙ front_cleared (e - a) (drop a w) part far clear i l)

  -- and the words behind it are as they were
  pub part_others : (i : ℕ) → e ≤ i → get_or (put_mid a (e - a) w part) i 0 ≡ get_or w i 0
  part_others i l =
      let size : length part ≡ e - a = rw clear (zeros_length (take (e - a) (drop a w)) ∙ mid_len a e w inside) in
      let s : e + (i - e) ≡ i = omega arith in
      rw (← s)
      (sym (get_or-drop e (put_mid a (e - a) w part) (i - e) 0)
      ∙ (ap (λ (l : List ℕ). get_or l (i - e) 0) (drop_put a e w part order inside size) ∙ get_or-drop e w (i - e) 0))
