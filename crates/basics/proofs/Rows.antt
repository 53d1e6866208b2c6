-- Laws of rows of words, by number or of the items of a list: where each row has the same width, how long they are and which word stands
-- where; rows numbered on from others. Assumes nothing.
use mathlib.Core.Path.{◌≡◌, refl, sym, ◌∙◌, ap}
use mathlib.Core.List.{List, [], ◌∷◌, ◌++◌, flat_map, append-nil, append_assoc}
use mathlib.Core.Logic.{inl, inr}
use Prim.Native.Nat.{ℕ, zero, suc, ◌+◌, ◌*◌, ◌≤◌, ◌<◌}
use native.Mathlib.Nat.{add-zero, add-suc, mul-zero, mul-suc, mul-le-mul_left}
use native.Mathlib.Omega.{arith}
use lib.ListN.{length, get_or, take, length-append, get_or-append}
use lib.Seq.{get_or-append-add, take-suc, take-length}
use Rattle.basics.specs.Joined.{numbered_on}
use Rattle.basics.specs.Rows.{rows}
use Rattle.basics.proofs.Booleans.{same_or}
use Rattle.basics.proofs.Joined.{on_first, on_behind}
use Rattle.basics.proofs.Upward.{below_sum}

-- k rows of width w have w * k words
pub rows_length :
    (w k : ℕ) (f : ℕ → List ℕ) → ((i : ℕ) → i < k → length (f i) ≡ w) → length (rows k f) ≡ w * k
unfolding rows
rows_length w zero f h = sym (mul-zero w)
rows_length w (suc k) f h =
    let before = rows_length w k f (λ i l. h i (omega arith)) in
    let last = h k (omega arith) in
    rw (length-append (rows k f) (f k), before, last, mul-suc w k)

-- word j of row i
pub rows_at :
    (w k : ℕ) (f : ℕ → List ℕ) → ((i : ℕ) → i < k → length (f i) ≡ w) → (i j : ℕ) → i < k → j < w →
    get_or (rows k f) (w * i + j) 0 ≡ get_or (f i) j 0
unfolding rows
rows_at w zero f h i j l m = absurd (omega arith)
rows_at w (suc k) f h i j l m =
    let before = rows_length w k f (λ i l. h i (omega arith)) in
    elim (same_or i k) [
      | inl e ↦ rw (e, ← before) (get_or-append-add (rows k f) (f k) j 0)
      | inr ne ↦
          let small : suc i ≤ k = omega arith in
          let inside = mul-le-mul_left w small in
          let row = mul-suc w i in
          get_or-append (rows k f) (f k) 0 (w * i + j) (omega arith) ∙ rows_at w k f (λ i l. h i (omega arith)) i j small m
    ]

-- rows that agree below the limit
pub rows_same :
    (k : ℕ) (f g : ℕ → List ℕ) → ((i : ℕ) → i < k → f i ≡ g i) → rows k f ≡ rows k g
unfolding rows
rows_same zero f g h = refl
rows_same (suc k) f g h = let a = rows_same k f g (λ i l. h i (omega arith)) in let b = h k (omega arith) in cc

-- rows numbered on from others stand behind them
pub rows_on : (n m : ℕ) (f g : ℕ → List ℕ) → rows (n + m) (numbered_on n f g) ≡ rows n f ++ rows m g
unfolding rows
rows_on n zero f g =
    rw (add-zero n) (rows_same n (numbered_on n f g) f (λ i l. on_first n f g i l) ∙ sym (append-nil (rows n f)))
rows_on n (suc m) f g =
    let before = rows_on n m f g in
    let last = on_behind n f g m in
    rw (add-suc n m, before, last) (append_assoc (rows n f) (rows m g) (g m))

-- and where each of both has the same width, so has each of them all
pub on_width :
    (w n m : ℕ) (f g : ℕ → List ℕ) → ((i : ℕ) → i < n → length (f i) ≡ w) → ((i : ℕ) → i < m → length (g i) ≡ w) →
    (i : ℕ) → i < n + m → length (numbered_on n f g i) ≡ w
on_width w n m f g a b =
    below_sum n m (λ i. length (numbered_on n f g i) ≡ w) (λ i l. rw (on_first n f g i l) (a i l))
    (λ i l. rw (on_behind n f g i) (b i l))

-- THE ROWS OF A LIST'S ITEMS
module _ {X : Type 0} (row : X → List ℕ) where
  -- one item more
  pub items_snoc : (xs : List X) (x : X) → flat_map row (xs ++ (x ∷ [])) ≡ flat_map row xs ++ row x
  unfolding flat_map
  items_snoc [] x = append-nil (row x)
  items_snoc (y ∷ xs) x = ap (λ (l : List ℕ). row y ++ l) (items_snoc xs x) ∙ sym (append_assoc (row y) (flat_map row xs) (row x))

  -- they are rows by number
  pub items_rows : (xs : List X) (d : X) (k : ℕ) → k ≤ length xs → rows k (λ i. row (get_or xs i d)) ≡ flat_map row (take k xs)
  unfolding rows flat_map
  items_rows xs d zero l = refl
  items_rows xs d (suc k) l =
      rw (take-suc xs k d l, items_snoc (take k xs) (get_or xs k d))
      (ap (λ (l : List ℕ). l ++ row (get_or xs k d)) (items_rows xs d k (omega arith)))

  module _ {w : ℕ} (wide : (x : X) → length (row x) ≡ w) where
    pub items_length : (xs : List X) → length (flat_map row xs) ≡ w * length xs
    unfolding flat_map
    items_length [] = sym (mul-zero w)
    items_length (x ∷ xs) =
        let one = wide x in
        let others = items_length xs in
        let more = mul-suc w (length xs) in rw (length-append (row x) (flat_map row xs)) (omega arith)

    -- word j of item i
    pub items_at :
        (xs : List X) (d : X) (i j : ℕ) → i < length xs → j < w →
        get_or (flat_map row xs) (w * i + j) 0 ≡ get_or (row (get_or xs i d)) j 0
    items_at xs d i j l m =
        let by_number = items_rows xs d (length xs) (omega arith) ∙ ap (flat_map row) (take-length xs) in
        ap (λ (r : List ℕ). get_or r (w * i + j) 0) (sym by_number)
        ∙ rows_at w (length xs) (λ i. row (get_or xs i d)) (λ i l. wide (get_or xs i d)) i j l m
