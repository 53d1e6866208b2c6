-- Laws for walking the members of a set from the lowest one up, to find one, to join their rows or to choose among them, and for the
-- operations of words of k bits. Assumes nothing.
use mathlib.Core.Path.{◌≡◌, refl, sym, ◌∙◌, ap}
use mathlib.Core.Bool.{Bool, true, false, ◌&&◌, ◌||◌, not}
use mathlib.Core.Logic.{inl, inr}
use Prim.Native.Nat.{ℕ, zero, suc, ◌+◌, ◌-◌, ◌*◌, ◌/◌, ◌%◌, ◌^◌, ◌<◌}
use native.Mathlib.Omega.{arith}
use native.Mathlib.Nat.{mod-lt, mod-eq_of_lt, lt_of_le_of_lt}
use lib.Bits.{bit_and, bit_or, and_comm, and_le_l, and_mask, or_zero_r}
use lib.Count.{count_trailing_zeros}
use lib.Dec.{eqb}
use lib.ListN.{get_or}
use lib.Pow.{pow_pos, pow-lt}
use Rattle.basics.specs.Bounded.{any}
use Rattle.basics.proofs.Booleans.{and_false_l, and_l, and_make, and_r, either, eqb_eq, eqb_self, not_false, or_assoc as or_assoc_bool, or_l, or_r, or_true, same_truth}
use Rattle.basics.proofs.Bounded.{any_find, any_make, any_none}
use Rattle.basics.proofs.Packed.{shift_one}
use Rattle.sets.specs.Sets.{has, size, subsets, union, without}
use Rattle.sets.proofs.Lowest.{Lowest, lowest, lowest_lt, lowest_part}
use Rattle.sets.proofs.Members.{ext, ext_all, first_made, first_unmade, has_and, has_lt, has_or, has_single, has_union, has_without, has_zero, without_lt}
use Rattle.sets.proofs.Subsets.{spread, spread_lt, spread_mod, spread_turn, subsets_nth}

-- join is associative
pub or_assoc : (a b c : ℕ) → bit_or (bit_or a b) c ≡ bit_or a (bit_or b c)
or_assoc a b c =
    ext_all (bit_or (bit_or a b) c) (bit_or a (bit_or b c))
    (λ q.
    let e = or_assoc_bool (has a q) (has b q) (has c q) in
    cc (has_or (bit_or a b) c q, has_or a b q, has_or a (bit_or b c) q, has_or b c q))

-- the states below k are those of 2 ^ k - 1, and 2 ^ k - 1 - b is what is not in b
mask_has : (k q : ℕ) → q < k → has (2 ^ k - 1) q ≡ true
mask_has k q l =
    let own = has_single q q in
    let self = eqb_self q in
    let one : bit_and (2 ^ q) (2 ^ k - 1) ≡ 2 ^ q = and_mask (2 ^ q) k ∙ mod-eq_of_lt (pow-lt l) in
    cc (has_and (2 ^ q) (2 ^ k - 1) q)

pub has_flip : (k b q : ℕ) → b < 2 ^ k → q < k → has (2 ^ k - 1 - b) q ≡ not (has b q)
unfolding without
has_flip k b q l m =
    let inside : bit_and (2 ^ k - 1) b ≡ b = and_comm (2 ^ k - 1) b ∙ and_mask b k ∙ mod-eq_of_lt l in
    let in_mask = mask_has k q m in
    cc (has_without (2 ^ k - 1) b q)

-- a & !b takes away from a what is in b
pub flip_without : (k a b : ℕ) → a < 2 ^ k → b < 2 ^ k → bit_and a (2 ^ k - 1 - b) ≡ without a b
flip_without k a b la lb =
    ext k (bit_and a (2 ^ k - 1 - b)) (without a b) (lt_of_le_of_lt (and_le_l a (2 ^ k - 1 - b)) la) (without_lt k a b la)
    (λ q l. let f = has_flip k b q lb l in cc (has_and a (2 ^ k - 1 - b) q, has_without a b q))

-- SOME MEMBER of the set passes the test
unfoldable pub some_member : (k set : ℕ) → (ℕ → Bool) → Bool
some_member k s f = any k (λ q. has s q && f q)

-- the lowest one does, or one of the rest
some_turn :
    (k : ℕ) (f : ℕ → Bool) {s t rest : ℕ} → s < 2 ^ k → Lowest s t rest → some_member k s f ≡ (f t || some_member k rest f)
unfolding some_member
some_turn k f {s} {t} {rest} l w = same_truth (any k whole) (f t || any k rested) down up
  where
    whole : ℕ → Bool
    whole q = has s q && f q

    rested : ℕ → Bool
    rested q = has rest q && f q

    down : any k whole ≡ true → (f t || any k rested) ≡ true
    down h =
        let (q, b, e) = any_find k whole h in
        let x : f q ≡ true = and_r (has s q) e in
        elim (either (eqb q t)) [
          | inl same ↦ or_l (any k rested) (rw (eqb_eq q t same) at x)
          | inr other ↦
              let m : has s q ≡ true = and_l (f q) e in
              let kept : has rest q ≡ true = w.others q ∙ and_make m (not_false other) in
              or_r (f t) (any_make k rested q b (and_make kept x))
        ]

    up : (f t || any k rested) ≡ true → any k whole ≡ true
    up h =
        elim (or_true (f t) (any k rested) h) [
          | inl x ↦ any_make k whole t (has_lt k s t l w.member) (and_make w.member x)
          | inr x ↦
              let (q, b, e) = any_find k rested x in
              any_make k whole q b (and_make (lowest_part w q (and_l (f q) e)) (and_r (has rest q) e))
        ]

module _ (k s : ℕ) (f : ℕ → Bool) (l : s < 2 ^ k) where
  -- the lowest member passes
  pub member_hit : (s ≡ 0 → ⊥) → f (count_trailing_zeros k s) ≡ true → some_member k s f ≡ true
  member_hit n e = some_turn k f l (lowest k s l n) ∙ or_l (some_member k (bit_and s (s - 1)) f) e

  -- it does not, and the others are left
  pub member_turn :
      (s ≡ 0 → ⊥) → f (count_trailing_zeros k s) ≡ false → some_member k (bit_and s (s - 1)) f ≡ some_member k s f
  member_turn n e = cc (some_turn k f l (lowest k s l n))

  -- no member passes where there is none
  pub member_none : s ≡ 0 → some_member k s f ≡ false
  unfolding some_member
  member_none z = rw z (any_none k (λ q. has 0 q && f q) (λ q m. and_false_l (f q) (has_zero q)))

-- THE UNION over a set is the row of its lowest state joined with the union over the rest
pub union_zero : (k : ℕ) (row : ℕ → ℕ) → union k 0 row ≡ 0
unfolding union
union_zero zero row = refl
union_zero (suc k) row = let z = has_zero k in let ih = union_zero k row in cc

pub union_turn :
    (k : ℕ) (row : ℕ → ℕ) {s t rest : ℕ} → s < 2 ^ k → Lowest s t rest →
    union k s row ≡ bit_or (row t) (union k rest row)
unfolding some_member
union_turn k row {s} {t} {rest} l w =
    ext_all (union k s row) (bit_or (row t) (union k rest row))
    (λ r.
    has_union k s row r ∙ some_turn k (λ q. has (row q) r) l w
    ∙ ap (λ (b : Bool). has (row t) r || b) (sym (has_union k rest row r))
    ∙ sym (has_or (row t) (union k rest row) r))

pub union_none : (k s : ℕ) (row : ℕ → ℕ) → ((q : ℕ) → row q ≡ 0) → union k s row ≡ 0
unfolding union
union_none zero s row h = refl
union_none (suc k) s row h =
    let ih = union_none k s row h in
    let e = h k in
    elim (either (has s k)) [ inl y ↦ rw (y, ih, e) | inr y ↦ rw (y, ih) ]

-- one turn of a walk: s & (s - 1) is what is left
pub clear_lt : (k s : ℕ) → s < 2 ^ k → bit_and s (s - 1) < 2 ^ k
clear_lt k s l = lt_of_le_of_lt (and_le_l s (s - 1)) l

-- joining rows: what was joined so far, joined with the union over what is left, stays the same
pub join_turn :
    (k : ℕ) (row : ℕ → ℕ) (all left whole : ℕ) → left < 2 ^ k → (left ≡ 0 → ⊥) → bit_or all (union k left row) ≡ whole →
    bit_or (bit_or all (row (count_trailing_zeros k left))) (union k (bit_and left (left - 1)) row) ≡ whole
join_turn k row all left whole l n e =
    let t = count_trailing_zeros k left in
    let rest = bit_and left (left - 1) in
    let u = union_turn k row l (lowest k left l n) in
    or_assoc all (row t) (union k rest row) ∙ ap (λ (x : ℕ). bit_or all x) (sym u) ∙ e

pub join_end :
    (k : ℕ) (row : ℕ → ℕ) (all left whole : ℕ) → left ≡ 0 → bit_or all (union k left row) ≡ whole → all ≡ whole
join_end k row all left whole z e =
    let e' : bit_or all (union k 0 row) ≡ whole = rw z at e in
    sym (or_zero_r all) ∙ ap (λ (x : ℕ). bit_or all x) (sym (union_zero k row)) ∙ e'

-- choosing members: what was taken so far, with what the digits left choose of the members left, stays the same
module _
    (k left digits part s i : ℕ)
    (l : left < 2 ^ k)
    (n : left ≡ 0 → ⊥)
    (e : part + spread k left digits ≡ spread k s i)
  where
    pub take_turn :
        (more : ℕ) → digits % 2 ≡ 1 → more ≡ part + 1 * 2 ^ count_trailing_zeros k left % 2 ^ k →
        more + spread k (bit_and left (left - 1)) (digits / 2) ≡ spread k s i
    take_turn more d m =
        let h = first_made digits d in
        let t = spread_turn k digits l (lowest k left l n) in
        let t' = rw h at t in
        let o = shift_one k (count_trailing_zeros k left) (lowest_lt k left l n) in omega arith

    pub take_fits : digits % 2 ≡ 1 → part + 1 * 2 ^ count_trailing_zeros k left % 2 ^ k < 2 ^ k
    take_fits d =
        let t = take_turn (part + 1 * 2 ^ count_trailing_zeros k left % 2 ^ k) d refl in
        let b = spread_lt k s i in omega arith

    pub leave_turn :
        (more : ℕ) → (digits % 2 ≡ 1 → ⊥) → more ≡ part →
        more + spread k (bit_and left (left - 1)) (digits / 2) ≡ spread k s i
    leave_turn more d m =
        let h = first_unmade digits (omega arith) in
        let t = spread_turn k digits l (lowest k left l n) in
        let t' = rw h at t in omega arith

-- nothing more is chosen: no member is left, or no digit
pub choose_end :
    (k left digits part s i : ℕ) → spread k left digits ≡ 0 → part + spread k left digits ≡ spread k s i →
    part ≡ get_or (subsets k s) (i % 2 ^ size k s) 0
choose_end k left digits part s i none e =
    let p : part ≡ spread k s i = omega arith in
    p ∙ sym (spread_mod k s i) ∙ sym (subsets_nth k s (i % 2 ^ size k s) (mod-lt i (pow_pos (size k s))))
