-- Laws of reading a list: one lasso at a time, that writing and reading undo each other, and that a list holds one tray. Assumes nothing.
use mathlib.Core.Path.{◌≡◌, refl, sym, ap, ◌∙◌}
use mathlib.Core.List.{List, [], ◌∷◌, ◌++◌, append_assoc, append-nil}
use mathlib.Core.Logic.{inl, inr, ◌↔◌}
use Prim.Native.Nat.{ℕ, zero, suc, ◌+◌, ◌≤◌, ◌<◌}
use native.Mathlib.Omega.{arith}
use lib.Dec.{leb}
use lib.ListN.{length, take, drop, length-append, length-drop, take-append-drop}
use lib.Seq.{length-take-le, take_at, drop_at, take-append_seam, drop-append_seam}
use Rattle.basics.proofs.Booleans.{either, le_leb, gt_leb, leb_le}
use Rattle.trays.specs.Tray.{Parts, Tray, lasso_of, lasso_words, list_of, no_more, led_by, tray_in, tray}

-- ONE LASSO AT A TIME. Two bounds on the lassos that are read, neither of them below the number of words, give the same
tray_enough : (f g : ℕ) (t : List ℕ) → length t ≤ f → length t ≤ g → tray_in f t ≡ tray_in g t
unfolding tray_in
tray_enough zero zero t a b = refl
tray_enough zero (suc g) [] a b = refl
tray_enough zero (suc g) (x ∷ t) a b = absurd (omega arith)
tray_enough (suc f) zero [] a b = refl
tray_enough (suc f) zero (x ∷ t) a b = absurd (omega arith)
tray_enough (suc f) (suc g) [] a b = refl
tray_enough (suc f) (suc g) (p ∷ []) a b = refl
tray_enough (suc f) (suc g) (p ∷ (l ∷ t)) a b =
    let d = length-drop (p + l) t in rw (tray_enough f g (drop (p + l) t) (omega arith) (omega arith))

-- the empty list holds no lasso, and ends exactly
pub tray_none : tray [] ≡ no_more []
unfolding tray tray_in
tray_none = refl

-- a single word is left over
pub tray_single : (p : ℕ) → tray (p ∷ []) ≡ no_more (p ∷ [])
unfolding tray tray_in
tray_single p = refl

module _ (p l : ℕ) (t : List ℕ) where
  -- a whole lasso, then the rest
  pub tray_whole : p + l ≤ length t → tray (p ∷ (l ∷ t)) ≡ led_by (lasso_of p (take (p + l) t)) (tray (drop (p + l) t))
  unfolding tray tray_in
  tray_whole fits =
      let d = length-drop (p + l) t in
      rw (le_leb fits, tray_enough (suc (length t)) (length (drop (p + l) t)) (drop (p + l) t) (omega arith) (omega arith))

  -- one that is cut short is left, with its lengths
  pub tray_cut : length t < p + l → tray (p ∷ (l ∷ t)) ≡ no_more (p ∷ (l ∷ t))
  unfolding tray tray_in
  tray_cut short = rw (gt_leb short)

-- WRITTEN AND READ. The words of a lasso are read as that lasso
pub tray_lasso : (x : Parts) (t : List ℕ) → tray (lasso_words x ++ t) ≡ led_by x (tray t)
unfolding lasso_words lasso_of
tray_lasso x t =
    let u = x.prefix in
    let v = x.loop in
    let both = length-append u v in
    let all = length-append (u ++ v) t in
    tray_whole (length u) (length v) ((u ++ v) ++ t) (omega arith)
    ∙ rw
    (take_at (u ++ v) t (length u + length v) both, drop_at (u ++ v) t (length u + length v) both, take-append_seam u v, drop-append_seam u v)

-- A LIST MADE OF LASSOS, and any words behind it: the lassos, then what those words hold
pub tray_joined : (xs : List Parts) (t : List ℕ) → tray (list_of xs ++ t) ≡ record { lassos = xs ++ (tray t).lassos; left = (tray t).left }
unfolding list_of led_by
tray_joined [] t = refl
tray_joined (x ∷ xs) t =
    ap tray (append_assoc (lasso_words x) (list_of xs) t) ∙ (tray_lasso x (list_of xs ++ t) ∙ ap (led_by x) (tray_joined xs t))

-- a list made of lassos holds them, and ends exactly
pub tray_of_list : (xs : List Parts) → tray (list_of xs) ≡ record { lassos = xs; left = [] }
unfolding no_more
tray_of_list xs = ap tray (sym (append-nil (list_of xs))) ∙ (tray_joined xs [] ∙ rw (tray_none, append-nil))

-- a list that lassos make up holds them, and ends exactly
pub made_of : {s : List ℕ} (xs : List Parts) → s ≡ list_of xs → tray s ≡ record { lassos = xs; left = [] }
made_of xs e = ap tray e ∙ tray_of_list xs

-- what was read makes up the list again, with what is left
list_of_tray_in : (f : ℕ) (t : List ℕ) → list_of (tray_in f t).lassos ++ (tray_in f t).left ≡ t
unfolding tray_in no_more led_by list_of lasso_words lasso_of
list_of_tray_in zero t = refl
list_of_tray_in (suc f) [] = refl
list_of_tray_in (suc f) (p ∷ []) = refl
list_of_tray_in (suc f) (p ∷ (l ∷ t)) =
    elim (either (leb (p + l) (length t))) [
      | inl whole ↦
          let fits = leb_le (p + l) (length t) whole in
          let y = take (p + l) t in
          let long : length y ≡ p + l = length-take-le (p + l) t fits in
          let front : length (take p y) ≡ p = length-take-le p y (omega arith) in
          let back : length (drop p y) ≡ l = (let d = length-drop p y in omega arith) in
          let rest = list_of_tray_in f (drop (p + l) t) in
          rw (whole, front, back, take-append-drop p y, append_assoc y (list_of (tray_in f (drop (p + l) t)).lassos) (tray_in f (drop (p + l) t)).left, rest, take-append-drop (p + l) t)
      | inr cut ↦ rw cut
    ]

pub list_of_tray : (t : List ℕ) → list_of (tray t).lassos ++ (tray t).left ≡ t
unfolding tray
list_of_tray t = list_of_tray_in (length t) t

-- and by itself, where nothing is left
pub made_whole : (s : List ℕ) → (tray s).left ≡ [] → s ≡ list_of (tray s).lassos
made_whole s e = sym (list_of_tray s) ∙ rw (e, append-nil)

-- READING IS UNIQUE: no other lassos make up the same list
pub list_unique : (xs ys : List Parts) → list_of xs ≡ list_of ys → xs ≡ ys
list_unique xs ys e = ap (λ (y : Tray). y.lassos) (sym (tray_of_list xs) ∙ made_of ys e)

-- a list ends exactly at a lasso's end if lassos make it up, and only then
pub ends_exactly : (s : List ℕ) → ((tray s).left ≡ []) ↔ ((xs : List Parts) × (s ≡ list_of xs))
ends_exactly s = ((λ e. ((tray s).lassos, made_whole s e)), λ h. ap (λ (y : Tray). y.left) (made_of h.0 h.1))
