-- Laws of lists by index: mapped lists, the pigeonhole for lists, and runs of stores. Assumes nothing.
use mathlib.Core.Path.{◌≡◌, refl, sym, ap, ◌∙◌}
use mathlib.Core.List.{List, [], ◌∷◌, ◌++◌, map}
use mathlib.Core.Logic.{◌≢◌, inl, inr}
use Prim.Native.Nat.{ℕ, zero, suc, ◌+◌, ◌≤◌, ◌<◌}
use native.Mathlib.Omega.{arith}
use native.Mathlib.Nat.{add-zero, le_of_suc-le-suc}
use lib.Dec.{leb}
use lib.ListN.{length, get_or, set, replicate}
use lib.Seq.{sets, set_comm}
use Rattle.basics.proofs.Booleans.{either, leb_le, leb_gt}
use Rattle.basics.proofs.Bounded.{pigeonhole}

-- what stands at an index of a mapped list, whatever stands beyond the two
module _ {X Y : Type 0} (f : X → Y) where
  pub get_d_map : (xs : List X) (blank : X) (blank' : Y) (i : ℕ) → i < length xs → get_or (map f xs) i blank' ≡ f (get_or xs i blank)
  get_d_map [] blank blank' i l = absurd (omega arith)
  get_d_map (x ∷ xs) blank blank' zero l = refl
  get_d_map (x ∷ xs) blank blank' (suc i) l = get_d_map xs blank blank' i (le_of_suc-le-suc l)

-- two functions that give the same list agree at each index
pub map_same :
    {X Y : Type 0} (f g : X → Y) (xs : List X) → map f xs ≡ map g xs → (blank : X) (i : ℕ) → i < length xs →
    f (get_or xs i blank) ≡ g (get_or xs i blank)
map_same f g [] h blank i l = absurd (omega arith)
map_same f g (x ∷ xs) h blank zero l = cc
map_same f g (x ∷ xs) h blank (suc i) l = map_same f g xs (cc) blank i (omega arith)

-- one value for each element, and a function that has no other
pub all_same : {X Y : Type 0} (f : X → Y) (y : Y) → ((x : X) → y ≡ f x) → (xs : List X) → replicate (length xs) y ≡ map f xs
all_same f y h [] = refl
all_same {Y = Y} f y h (x ∷ xs) =
    ap (λ (z : Y). z ∷ replicate (length xs) y) (h x) ∙ ap (λ (zs : List Y). f x ∷ zs) (all_same f y h xs)

-- a list without repeats whose elements have codes below m, no two of them the same, has at most m elements
pub distinct_short :
    {X : Type 0} (xs : List X) (blank : X) (m : ℕ) (code : X → ℕ) →
    ((i j : ℕ) → i < j → j < length xs → get_or xs i blank ≡ get_or xs j blank → ⊥) →
    ((i : ℕ) → i < length xs → code (get_or xs i blank) < m) →
    ((i j : ℕ) → i < length xs → j < length xs → code (get_or xs i blank) ≡ code (get_or xs j blank) →
    get_or xs i blank ≡ get_or xs j blank) →
    length xs ≤ m
distinct_short xs blank m code distinct below injective =
    elim (either (leb (length xs) m)) [
      | inl e ↦ leb_le (length xs) m e
      | inr e ↦
          let more = leb_gt (length xs) m e in
          let r = pigeonhole m (λ i. code (get_or xs i blank)) (λ i l. below i (omega arith)) in
          let first = r.2 in
          let last = r.3 in
          absurd
          (distinct r.0 r.1 first (omega arith) (injective r.0 r.1 (omega arith) (omega arith) r.4))
    ]

-- a run of stores and then more
pub sets_append : (xs ys l : List ℕ) (i : ℕ) → sets l i (xs ++ ys) ≡ sets (sets l i xs) (i + length xs) ys
sets_append [] ys l i = rw (add-zero i)
sets_append (x ∷ xs) ys l i =
    let e : suc i + length xs ≡ i + suc (length xs) = omega arith in
    rw e at (sets_append xs ys (set l i x) (suc i))

-- a store behind a run may come first
set_behind : (xs l : List ℕ) (i j a : ℕ) → i + length xs ≤ j → sets (set l j a) i xs ≡ set (sets l i xs) j a
set_behind [] l i j a h = refl
set_behind (x ∷ xs) l i j a h =
    let e : i ≢ j = omega arith in
    rw (← set_comm l i j x a e) (set_behind xs (set l i x) (suc i) j a (omega arith))

pub sets_last : (xs : List ℕ) (a : ℕ) (l : List ℕ) (i : ℕ) → sets l i (xs ++ (a ∷ [])) ≡ sets (set l (i + length xs) a) i xs
sets_last xs a l i = sets_append xs (a ∷ []) l i ∙ sym (set_behind xs l i (i + length xs) a (omega arith))
