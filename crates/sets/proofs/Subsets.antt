-- The parts of a set by rising number: there are 2 to the count of its states, they strictly rise, and they are all of its parts.
-- The i-th one takes the members of the set that stand at the set digits of i. Assumes nothing.
use mathlib.Core.Path.{◌≡◌, refl, sym, ◌∙◌, ap}
use mathlib.Core.Bool.{Bool, true, false, ◌&&◌, ◌||◌, not, cond}
use mathlib.Core.List.{map}
use mathlib.Core.Logic.{◌⊎◌, inl, inr, ◌↔◌}
use Prim.Native.Nat.{ℕ, zero, suc, ◌+◌, ◌-◌, ◌/◌, ◌%◌, ◌^◌, ◌≤◌, ◌<◌}
use native.Mathlib.Omega.{arith}
use native.Mathlib.Nat.{pow-suc, add-zero, lt_of_lt_of_le, mod-eq_of_lt}
use native.Mathlib.Numerals.{add-one}
use lib.Dec.{eqb, ltb}
use lib.ListN.{length, get_or, length-append, length-map, get_or-append}
use lib.Pow.{pow_mono}
use lib.Seq.{get_or-append-add}
use Rattle.basics.proofs.Booleans.{either, clash, and_l, and_r, and_false_l, and_false_r, eqb_eq, eqb_ne, eqb_self, ne_eqb, lt_ltb, ltb_lt, ltb_ge, not_true, or_l, or_r, below_or}
use Rattle.basics.proofs.Lists.{get_d_map}
use Rattle.basics.proofs.Upward.{upward}
use Rattle.sets.specs.Sets.{set_states, has, size, set_of, subsets, nth_subset}
use Rattle.sets.proofs.Lowest.{Lowest, lowest_size, lowest_none}
use Rattle.sets.proofs.Members.{ext_all, has_half, has_lt, has_mod, has_out, has_put, has_set_of, has_top, has_zero, set_of_lt, set_of_same}
use Rattle.sets.proofs.Size.{size_grows, size_stays, size_hit, size_longer}

-- the part of s that i chooses: the member with j members below it is taken where digit j of i is set
unfoldable pub spread : (limit set choice : ℕ) → ℕ
spread k s i = set_of k (λ q. has s q && has i (size q s))

pub has_spread : (k s i q : ℕ) → has (spread k s i) q ≡ (ltb q k && (has s q && has i (size q s)))
unfolding spread
has_spread k s i q = has_set_of k (λ p. has s p && has i (size p s)) q

pub spread_lt : (k s i : ℕ) → spread k s i < 2 ^ k
unfolding spread
spread_lt k s i = set_of_lt k (λ q. has s q && has i (size q s))

pub spread_part : (k s i q : ℕ) → has (spread k s i) q ≡ true → has s q ≡ true
spread_part k s i q h =
    and_l (has i (size q s)) (and_r (ltb q k) (sym (has_spread k s i q) ∙ h))

-- one more state: it is left out, or it is taken
spread_low : (k s i : ℕ) → i < 2 ^ size k s → spread (suc k) s i ≡ spread k s i
unfolding spread set_of
spread_low k s i l =
    let o = has_out (size k s) i (size k s) l (omega arith) in
    elim (either (has s k)) [ inl h ↦ rw (h, o) (add-zero (spread k s i)) | inr h ↦ rw h (add-zero (spread k s i)) ]

spread_high :
    (k s i : ℕ) → has s k ≡ true → i < 2 ^ size k s → spread (suc k) s (2 ^ size k s + i) ≡ 2 ^ k + spread k s i
unfolding spread set_of
spread_high k s i h l =
    let n = size k s in
    let o : has (2 ^ n + i) n ≡ true = let e = eqb_self n in cc (has_top n i n l) in
    let same =
    set_of_same k (λ q. has s q && has (2 ^ n + i) (size q s)) (λ q. has s q && has i (size q s))
    (λ q m.
    elim (either (has s q)) [
      | inl y ↦
          let c = size_hit q k s m y in
          let d = ne_eqb n (size q s) (λ e. omega arith) in cc (has_top n i (size q s) l)
      | inr y ↦ cc
    ]) in
    rw (h, o) (omega arith)

-- the number of parts
pub subsets_length : (k s : ℕ) → length (subsets k s) ≡ 2 ^ size k s
unfolding subsets size Rattle.basics.specs.Bounded.count
subsets_length zero s = refl
subsets_length (suc k) s =
    let ih = subsets_length k s in
    elim (either (has s k)) [
      | inl h ↦
          let p = pow-suc 2 (size k s) in rw (h, length-append, length-map, add-one (size k s)) (omega arith)
      | inr h ↦ rw (h, add-zero (size k s)) ih
    ]

-- states beyond those that the set may have
pub subsets_past : (n k s : ℕ) → s < 2 ^ n → n ≤ k → subsets k s ≡ subsets n s
unfolding subsets
subsets_past n k s small l =
    upward (λ k. subsets k s ≡ subsets n s) n refl (λ k m same. rw (has_out n s k small m) same) k l

-- the i-th part is the one that i chooses
grown_low : (k s i : ℕ) → i < 2 ^ size k s → get_or (subsets (suc k) s) i 0 ≡ get_or (subsets k s) i 0
unfolding subsets
grown_low k s i l =
    let n = subsets_length k s in
    elim (either (has s k)) [
      | inl h ↦
          let m : i < length (subsets k s) = omega arith in
          rw h (get_or-append (subsets k s) (map (λ x. 2 ^ k + x) (subsets k s)) 0 i m)
      | inr h ↦ rw h
    ]

grown_high :
    (k s i : ℕ) → has s k ≡ true → i < 2 ^ size k s →
    get_or (subsets (suc k) s) (2 ^ size k s + i) 0 ≡ 2 ^ k + get_or (subsets k s) i 0
unfolding subsets
grown_high k s i h l =
    let r = subsets k s in
    let n = subsets_length k s in
    let m : i < length r = omega arith in
    rw (h, ← n)
    (get_or-append-add r (map (λ x. 2 ^ k + x) r) i 0 ∙ get_d_map (λ x. 2 ^ k + x) r 0 0 i m)

-- a choice among the parts of s below k + 1 leaves the state k out, or takes it
data Choice (k s i : ℕ) : Type 0 where
  leaves : i < 2 ^ size k s → Choice k s i
  takes : (j : ℕ) → i ≡ 2 ^ size k s + j → j < 2 ^ size k s → has s k ≡ true → Choice k s i

choice : (k s i : ℕ) → i < 2 ^ size (suc k) s → Choice k s i
choice k s i l =
    let n = 2 ^ size k s in
    elim (either (has s k)) [
      | inl h ↦
          let e : i < 2 ^ suc (size k s) = rw (size_grows k s h) at l in
          let p = pow-suc 2 (size k s) in
          elim (below_or i n) [
            | inl x ↦ leaves x
            | inr m ↦
                let q : i ≡ n + (i - n) = omega arith in
                let b : i - n < n = omega arith in takes (i - n) q b h
          ]
      | inr h ↦ leaves (rw (size_stays k s h) at l)
    ]

pub subsets_nth : (k s i : ℕ) → i < 2 ^ size k s → get_or (subsets k s) i 0 ≡ spread k s i
unfolding subsets size Rattle.basics.specs.Bounded.count spread set_of
subsets_nth zero s i l = let e : i ≡ 0 = omega arith in rw e
subsets_nth (suc k) s i l = go (subsets_nth k s) (choice k s i l)
  where
    go :
        ((j : ℕ) → j < 2 ^ size k s → get_or (subsets k s) j 0 ≡ spread k s j) → Choice k s i →
        get_or (subsets (suc k) s) i 0 ≡ spread (suc k) s i
    go smaller (leaves m) = grown_low k s i m ∙ smaller i m ∙ sym (spread_low k s i m)
    go smaller (takes j e m h) =
        rw e (grown_high k s j h m ∙ ap (λ (x : ℕ). 2 ^ k + x) (smaller j m) ∙ sym (spread_high k s j h m))

-- they strictly rise
spread_rises : (k s i j : ℕ) → i < j → j < 2 ^ size k s → spread k s i < spread k s j
unfolding size Rattle.basics.specs.Bounded.count
spread_rises zero s i j l m = absurd (omega arith)
spread_rises (suc k) s i j l m = go (spread_rises k s) (choice k s i (omega arith)) (choice k s j m)
  where
    go :
        ((a b : ℕ) → a < b → b < 2 ^ size k s → spread k s a < spread k s b) → Choice k s i → Choice k s j →
        spread (suc k) s i < spread (suc k) s j
    go smaller (leaves x) (leaves y) =
        let ih = smaller i j l y in
        let a = spread_low k s i x in let b = spread_low k s j y in omega arith
    go smaller (leaves x) (takes v f y h) =
        let a = spread_low k s i x in
        let b : spread (suc k) s j ≡ 2 ^ k + spread k s v = rw f (spread_high k s v h y) in
        let c = spread_lt k s i in omega arith
    go smaller (takes u e x h) (leaves y) = absurd (omega arith)
    go smaller (takes u e x h) (takes v f y _) =
        let ih = smaller u v (omega arith) y in
        let a : spread (suc k) s i ≡ 2 ^ k + spread k s u = rw e (spread_high k s u h x) in
        let b : spread (suc k) s j ≡ 2 ^ k + spread k s v = rw f (spread_high k s v h y) in omega arith

-- the highest state of a set below 2 ^ (k + 1)
top_in : (k y : ℕ) → has y k ≡ true → 2 ^ k ≤ y
top_in k y h =
    elim (below_or y (2 ^ k)) [
      | inl x ↦ absurd (clash h (has_out k y k x (omega arith)))
      | inr x ↦ x
    ]

top_out : (k y : ℕ) → y < 2 ^ suc k → has y k ≡ false → y < 2 ^ k
top_out k y l h =
    elim (either (ltb y (2 ^ k))) [
      | inl x ↦ ltb_lt y (2 ^ k) x
      | inr x ↦
          let g = ltb_ge y (2 ^ k) x in
          let p = pow-suc 2 k in
          let z = y - 2 ^ k in
          let sum : 2 ^ k + z ≡ y = omega arith in
          let t = has_top k z k (omega arith) in
          let self = eqb_self k in
          let y' : has y k ≡ true = ap (λ (x : ℕ). has x k) (sym sum) ∙ t ∙ or_l (has z k) self in absurd (clash y' h)
    ]

-- each part is chosen by some number
spread_find :
    (k s y : ℕ) → y < 2 ^ k → ((q : ℕ) → has y q ≡ true → has s q ≡ true) →
    (i : ℕ) × (i < 2 ^ size k s) × (spread k s i ≡ y)
unfolding size Rattle.basics.specs.Bounded.count spread set_of
spread_find zero s y l h = (0, (omega arith), (omega arith))
spread_find (suc k) s y l h = go (λ z. spread_find k s z) (either (has y k))
  where
    go :
        ((z : ℕ) → z < 2 ^ k → ((q : ℕ) → has z q ≡ true → has s q ≡ true) →
        (i : ℕ) × (i < 2 ^ size k s) × (spread k s i ≡ z)) →
        (has y k ≡ true) ⊎ (has y k ≡ false) → (i : ℕ) × (i < 2 ^ size (suc k) s) × (spread (suc k) s i ≡ y)
    go smaller (inl e) =
        let ge : 2 ^ k ≤ y = top_in k y e in
        let z = y - 2 ^ k in
        let lt : z < 2 ^ k = omega arith in
        let sum : 2 ^ k + z ≡ y = omega arith in
        let r =
        smaller z lt
        (λ q m. h q (ap (λ (x : ℕ). has x q) (sym sum) ∙ has_top k z q lt ∙ or_r (eqb k q) m)) in
        let n = size_grows k s (h k e) in
        let g = pow-suc 2 (size k s) in
        let b : 2 ^ size k s + r.0 < 2 ^ suc (size k s) = let r1 = r.1 in omega arith in
        (2 ^ size k s + r.0, rw n b, spread_high k s r.0 (h k e) r.1 ∙ ap (λ (x : ℕ). 2 ^ k + x) r.2 ∙ sum)
    go smaller (inr e) =
        let r = smaller y (top_out k y l e) h in
        let m = size_longer k (suc k) s (omega arith) in
        (r.0, lt_of_lt_of_le r.1 (pow_mono m), spread_low k s r.0 r.1 ∙ r.2)

pub subsets_rises :
    (k s i j : ℕ) → i < j → j < length (subsets k s) → get_or (subsets k s) i 0 < get_or (subsets k s) j 0
subsets_rises k s i j l m =
    let n = subsets_length k s in
    let x = subsets_nth k s i (omega arith) in
    let y = subsets_nth k s j (omega arith) in
    let z = spread_rises k s i j l (omega arith) in omega arith

-- a number is in the list exactly if it is a part of the set
pub subsets_all :
    (k s y : ℕ) →
    ((i : ℕ) × (i < length (subsets k s)) × (get_or (subsets k s) i 0 ≡ y))
    ↔ ((y < 2 ^ k) × ((q : ℕ) → has y q ≡ true → has s q ≡ true))
subsets_all k s y = (sound, complete)
  where
    n : length (subsets k s) ≡ 2 ^ size k s
    n = subsets_length k s

    sound :
        (i : ℕ) × (i < length (subsets k s)) × (get_or (subsets k s) i 0 ≡ y) →
        (y < 2 ^ k) × ((q : ℕ) → has y q ≡ true → has s q ≡ true)
    sound (i, l, e) =
        let x : y ≡ spread k s i = sym e ∙ subsets_nth k s i (rw n at l) in
        (rw x (spread_lt k s i), rw x (spread_part k s i))

    complete :
        (y < 2 ^ k) × ((q : ℕ) → has y q ≡ true → has s q ≡ true) →
        (i : ℕ) × (i < length (subsets k s)) × (get_or (subsets k s) i 0 ≡ y)
    complete (l, h) =
        let r = spread_find k s y l h in (r.0, rw n r.1, subsets_nth k s r.0 r.1 ∙ r.2)

-- the loop that walks the members: the lowest state of s is chosen by the lowest digit of i
pub spread_zero : (k i : ℕ) → spread k 0 i ≡ 0
spread_zero k i = ext_all (spread k 0 i) 0 (λ q. let z = has_zero q in elim (either (ltb q k)) [ inl e ↦ cc (has_spread k 0 i q) | inr e ↦ cc (has_spread k 0 i q) ])

-- no digit is left, and none is chosen
pub spread_none : (k s : ℕ) → spread k s 0 ≡ 0
spread_none k s =
    ext_all (spread k s 0) 0
    (λ q.
    let z = has_zero q in
    let none = has_zero (size q s) in
    let out = and_false_r (has s q) none in
    elim (either (ltb q k)) [ inl e ↦ cc (has_spread k s 0 q) | inr e ↦ cc (has_spread k s 0 q) ])

pub spread_turn :
    (k i : ℕ) {s t rest : ℕ} → s < 2 ^ k → Lowest s t rest →
    spread k s i ≡ cond (has i 0) (2 ^ t) 0 + spread k rest (i / 2)
spread_turn k i {s} {t} {rest} l w =
    ext_all (spread k s i) (cond (has i 0) (2 ^ t) 0 + spread k rest (i / 2)) (λ q. turn q (either (eqb q t)))
  where
    gone : has rest t ≡ false
    gone = w.others t ∙ and_false_r (has s t) (not_true (eqb_self t))

    unchosen : (q : ℕ) → has rest q ≡ false → has (spread k rest (i / 2)) q ≡ false
    unchosen q e =
        has_spread k rest (i / 2) q ∙ and_false_r (ltb q k) (and_false_l (has (i / 2) (size q rest)) e)

    right :
        (q : ℕ) → has (cond (has i 0) (2 ^ t) 0 + spread k rest (i / 2)) q ≡ (has i 0 && eqb t q || has (spread k rest (i / 2)) q)
    right q = has_put (has i 0) t (spread k rest (i / 2)) q (unchosen t gone)

    turn :
        (q : ℕ) → (eqb q t ≡ true) ⊎ (eqb q t ≡ false) →
        has (spread k s i) q ≡ has (cond (has i 0) (2 ^ t) 0 + spread k rest (i / 2)) q
    turn q (inl e) =
        let same = eqb_eq q t e in
        let m = w.member in
        let none = lowest_none w in
        let b : ltb t k ≡ true = lt_ltb {m = t} {n = k} (has_lt k s t l m) in
        let self = eqb_self t in
        let u = unchosen t gone in
        let left : has (spread k s i) t ≡ has i 0 = cc (has_spread k s i t) in
        rw same (elim (either (has i 0)) [ inl x ↦ cc (right t) | inr x ↦ cc (right t) ])
    turn q (inr e) =
        let apart = eqb_ne q t e in
        let e' = ne_eqb t q (λ x. apart (sym x)) in
        let skip : (has i 0 && eqb t q) ≡ false = and_false_r (has i 0) e' in
        let r : has (cond (has i 0) (2 ^ t) 0 + spread k rest (i / 2)) q ≡ has (spread k rest (i / 2)) q =
        right q ∙ ap (λ (b : Bool). b || has (spread k rest (i / 2)) q) skip in
        elim (either (has s q)) [
          | inl h ↦
              let above : t < q =
              elim (below_or q t) [
                | inl x ↦ absurd (clash h (w.below q x))
                | inr g ↦ omega arith
              ] in
              let n = lowest_size w q above in
              let kept : has rest q ≡ true = cc (w.others q) in
              cc (r, has_spread k s i q, has_spread k rest (i / 2) q, has_half i (size q rest))
          | inr h ↦
              let lost : has rest q ≡ false = w.others q ∙ and_false_l (not (eqb q t)) h in
              has_spread k s i q ∙ and_false_r (ltb q k) (and_false_l (has i (size q s)) h) ∙ sym (r ∙ unchosen q lost)
        ]

-- and the choice may be taken modulo the number of parts
pub spread_mod : (k s i : ℕ) → spread k s (i % 2 ^ size k s) ≡ spread k s i
unfolding spread
spread_mod k s i =
    set_of_same k (λ q. has s q && has (i % 2 ^ size k s) (size q s)) (λ q. has s q && has i (size q s))
    (λ q l.
    elim (either (has s q)) [
      | inl h ↦ let m = has_mod (size k s) i (size q s) (size_hit q k s l h) in cc
      | inr h ↦ cc
    ])

-- a choice below the number of parts is the part with that number
pub nth_subset_at : (s i : ℕ) → i < 2 ^ size set_states s → nth_subset s i ≡ get_or (subsets set_states s) i 0
unfolding nth_subset
nth_subset_at s i l = rw (mod-eq_of_lt l)
