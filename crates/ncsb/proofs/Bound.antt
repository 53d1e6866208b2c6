-- The state bound: there are at most 2^p·3^a·4^r fine quadruples. A state of Q1 is in N or not; an accepting state of Q2 is absent, in C,
-- or in C and B; another state of Q2 may also be in S. Assumes nothing.
use mathlib.Core.Path.{◌≡◌, refl, sym, ◌∙◌, ap}
use mathlib.Core.Bool.{Bool, true, false, ◌&&◌, ◌||◌, not, cond, true≢false}
use mathlib.Core.List.{List}
use mathlib.Core.Logic.{inl, inr}
use Prim.Native.Nat.{ℕ, zero, suc, ◌*◌, ◌-◌, ◌^◌, ◌≤◌, ◌<◌}
use native.Mathlib.Omega.{arith}
use native.Mathlib.Nat.{mul_assoc, mul_right_comm, pow-suc}
use lib.Dec.{eqb}
use lib.ListN.{length, get_or}
use Rattle.basics.specs.Bounded.{count}
use Rattle.basics.proofs.Booleans.{either, clash, and_make, and_false_l, and_false_r, not_true, not_false, not_both}
use Rattle.basics.proofs.Lists.{distinct_short}
use Rattle.basics.proofs.Radix.{number, numbers, number_lt, number_digits}
use Rattle.automata.specs.Automaton.{Automaton}
use Rattle.automata.specs.System.{state_at, AtMost}
use Rattle.sets.specs.Sets.{has, size, without}
use Rattle.sets.proofs.Members.{has_without, ext}
use Rattle.sets.proofs.Size.{size_le, size_grows, size_stays}
use Rattle.ncsb.specs.Bound.{bound}
use Rattle.ncsb.specs.Moves.{Moves, Spread, Split}
use Rattle.ncsb.specs.Step.{Fine}
use Rattle.ncsb.specs.Successors.{quadruple, ncsb}
use Rattle.ncsb.specs.declared.Quadruple.{Quadruple}
use Rattle.ncsb.proofs.Parting.{same_parts}
use Rattle.ncsb.proofs.Reached.{reached_fine}

-- ONE STATE: where it may be, by whether it is in Q2 and in F
data Seat : (in_Q2 in_F in_N in_C in_S in_B : Bool) → Type 0 where
  outer : {m n : Bool} → Seat false m n false false false
  absent : {m : Bool} → Seat true m false false false false
  checked : {m b : Bool} → Seat true m false true false b
  safe : Seat true false false false true false

radix_of : (in_Q2 in_F : Bool) → ℕ
radix_of i m = cond i (cond m 3 4) 2

digit_of : (in_Q2 in_N in_C in_S in_B : Bool) → ℕ
digit_of i n c s b = cond i (cond c (cond b 2 1) (cond s 3 0)) (cond n 1 0)

seat_lt : {i m n c s b : Bool} → Seat i m n c s b → digit_of i n c s b < radix_of i m
unfolding digit_of radix_of
seat_lt (outer {n = true}) = omega arith
seat_lt (outer {n = false}) = omega arith
seat_lt (absent {m = true}) = omega arith
seat_lt (absent {m = false}) = omega arith
seat_lt (checked {m = true} {b = true}) = omega arith
seat_lt (checked {m = true} {b = false}) = omega arith
seat_lt (checked {m = false} {b = true}) = omega arith
seat_lt (checked {m = false} {b = false}) = omega arith
seat_lt safe = omega arith

-- the digit decides the four memberships
seat_read :
    {i m n c s b : Bool} → Seat i m n c s b →
    (n ≡ (not i && eqb (digit_of i n c s b) 1))
    × (c ≡ (i && (eqb (digit_of i n c s b) 1 || eqb (digit_of i n c s b) 2)))
    × (s ≡ (i && eqb (digit_of i n c s b) 3))
    × (b ≡ (i && eqb (digit_of i n c s b) 2))
unfolding digit_of
seat_read (outer {n = true}) = (refl, refl, refl, refl)
seat_read (outer {n = false}) = (refl, refl, refl, refl)
seat_read absent = (refl, refl, refl, refl)
seat_read (checked {b = true}) = (refl, refl, refl, refl)
seat_read (checked {b = false}) = (refl, refl, refl, refl)
seat_read safe = (refl, refl, refl, refl)

take_seat :
    (i m n c s b : Bool) → (n ≡ true → i ≡ false) → ((c || s) ≡ true → i ≡ true) → (c && s) ≡ false →
    (s && m) ≡ false → (b ≡ true → c ≡ true) → Seat i m n c s b
take_seat true m true c s b out inn apart unmarked track = absurd (true≢false (out refl))
take_seat true m false true true b out inn apart unmarked track = absurd (true≢false apart)
take_seat true m false true false b out inn apart unmarked track = checked
take_seat true m false false s true out inn apart unmarked track = absurd (true≢false (sym (track refl)))
take_seat true true false false true false out inn apart unmarked track = absurd (true≢false unmarked)
take_seat true false false false true false out inn apart unmarked track = safe
take_seat true m false false false false out inn apart unmarked track = absent
take_seat false m n true s b out inn apart unmarked track = absurd (true≢false (sym (inn refl)))
take_seat false m n false true b out inn apart unmarked track = absurd (true≢false (sym (inn refl)))
take_seat false m n false false true out inn apart unmarked track = absurd (true≢false (sym (track refl)))
take_seat false m n false false false out inn apart unmarked track = outer

seated :
    {d : Moves} {x : Quadruple} → Fine d x → (q : ℕ) →
    Seat (has d.inner q) (has d.marks q) (has x.N q) (has x.C q) (has x.S q) (has x.B q)
seated {d} {x} f q =
    take_seat (has d.inner q) (has d.marks q) (has x.N q) (has x.C q) (has x.S q) (has x.B q)
    (f.outer q) (f.inner q) (f.disjoint q) (f.unmarked q) (f.tracked q)

-- THE CODE of a quadruple
radix : Moves → ℕ → ℕ
radix d q = radix_of (has d.inner q) (has d.marks q)

digit : Moves → Quadruple → ℕ → ℕ
digit d x q = digit_of (has d.inner q) (has x.N q) (has x.C q) (has x.S q) (has x.B q)

code : Moves → Quadruple → ℕ
code d x = number (radix d) (digit d x) d.states

digit_lt : {d : Moves} {x : Quadruple} → Fine d x → (q : ℕ) → digit d x q < radix d q
unfolding digit radix
digit_lt f q = seat_lt (seated f q)

code_lt : {d : Moves} {x : Quadruple} → Fine d x → code d x < numbers (radix d) d.states
unfolding code
code_lt {d} {x} f = number_lt (radix d) (digit d x) d.states (digit_lt f)

module _ {d : Moves} {x y : Quadruple} (f : Fine d x) (g : Fine d y) (e : code d x ≡ code d y) (q : ℕ) (l : q < d.states) where
  digits_same : digit d x q ≡ digit d y q
  unfolding code
  digits_same = number_digits (radix d) (digit d x) (digit d y) d.states (digit_lt f) (digit_lt g) e q l

  same_N : has x.N q ≡ has y.N q
  unfolding digit
  same_N =
      (seat_read (seated f q)).0 ∙ ap (λ (k : ℕ). not (has d.inner q) && eqb k 1) digits_same
      ∙ sym (seat_read (seated g q)).0

  same_C : has x.C q ≡ has y.C q
  unfolding digit
  same_C =
      (seat_read (seated f q)).1 ∙ ap (λ (k : ℕ). has d.inner q && (eqb k 1 || eqb k 2)) digits_same
      ∙ sym (seat_read (seated g q)).1

  same_S : has x.S q ≡ has y.S q
  unfolding digit
  same_S =
      (seat_read (seated f q)).2 ∙ ap (λ (k : ℕ). has d.inner q && eqb k 3) digits_same
      ∙ sym (seat_read (seated g q)).2

  same_B : has x.B q ≡ has y.B q
  unfolding digit
  same_B =
      (seat_read (seated f q)).3 ∙ ap (λ (k : ℕ). has d.inner q && eqb k 2) digits_same
      ∙ sym (seat_read (seated g q)).3

-- the code decides the quadruple
code_same : {d : Moves} {x y : Quadruple} → Fine d x → Fine d y → code d x ≡ code d y → x ≡ y
code_same {d} {x} {y} f g e =
    same_parts (ext d.states x.N y.N f.small.small_N g.small.small_N (same_N f g e))
    (ext d.states x.C y.C f.small.small_C g.small.small_C (same_C f g e))
    (ext d.states x.S y.S f.small.small_S g.small.small_S (same_S f g e))
    (ext d.states x.B y.B f.small.small_B g.small.small_B (same_B f g e))

-- THE COUNT: the radices multiplied
product : (p a r : ℕ) → ℕ
product p a r = 2 ^ p * 3 ^ a * 4 ^ r

more_p : (p a r : ℕ) → product p a r * 2 ≡ product (suc p) a r
unfolding product
more_p p a r =
    mul_right_comm (2 ^ p * 3 ^ a) (4 ^ r) 2 ∙ ap (λ (n : ℕ). n * 4 ^ r) (mul_right_comm (2 ^ p) (3 ^ a) 2)
    ∙ ap (λ (n : ℕ). n * 3 ^ a * 4 ^ r) (sym (pow-suc 2 p))

more_a : (p a r : ℕ) → product p a r * 3 ≡ product p (suc a) r
unfolding product
more_a p a r =
    mul_right_comm (2 ^ p * 3 ^ a) (4 ^ r) 3 ∙ ap (λ (n : ℕ). n * 4 ^ r) (mul_assoc (2 ^ p) (3 ^ a) 3)
    ∙ ap (λ (n : ℕ). 2 ^ p * n * 4 ^ r) (sym (pow-suc 3 a))

more_r : (p a r : ℕ) → product p a r * 4 ≡ product p a (suc r)
unfolding product
more_r p a r =
    mul_assoc (2 ^ p * 3 ^ a) (4 ^ r) 4 ∙ ap (λ (n : ℕ). 2 ^ p * 3 ^ a * n) (sym (pow-suc 4 r))

module _ (d : Moves) (q : ℕ) where
  radix_outer : has d.inner q ≡ false → radix d q ≡ 2
  unfolding radix radix_of
  radix_outer i = rw i

  radix_marked : has d.inner q ≡ true → has d.marks q ≡ true → radix d q ≡ 3
  unfolding radix radix_of
  radix_marked i m = rw (i, m)

  radix_other : has d.inner q ≡ true → has d.marks q ≡ false → radix d q ≡ 4
  unfolding radix radix_of
  radix_other i m = rw (i, m)

-- 2^p·3^a·4^r of the states below a limit
counts : Moves → (limit : ℕ) → ℕ
counts d k = product (k - size k d.inner) (size k d.marks) (size k (without d.inner d.marks))

module _ (d : Moves) (k : ℕ) where
  counts_outer : has d.inner k ≡ false → has d.marks k ≡ false → counts d k * 2 ≡ counts d (suc k)
  unfolding counts
  counts_outer i m =
      let low = size_le k d.inner in
      let si = size_stays k d.inner i in
      let sm = size_stays k d.marks m in
      let sr = size_stays k (without d.inner d.marks) (has_without d.inner d.marks k ∙ and_false_l (not (has d.marks k)) i) in
      let p : suc k - size (suc k) d.inner ≡ suc (k - size k d.inner) = omega arith in
      cc (more_p (k - size k d.inner) (size k d.marks) (size k (without d.inner d.marks)))

  counts_marked : has d.inner k ≡ true → has d.marks k ≡ true → counts d k * 3 ≡ counts d (suc k)
  unfolding counts
  counts_marked i m =
      let si = size_grows k d.inner i in
      let sm = size_grows k d.marks m in
      let sr = size_stays k (without d.inner d.marks) (has_without d.inner d.marks k ∙ and_false_r (has d.inner k) (not_true m)) in
      let p : suc k - size (suc k) d.inner ≡ k - size k d.inner = omega arith in
      cc (more_a (k - size k d.inner) (size k d.marks) (size k (without d.inner d.marks)))

  counts_other : has d.inner k ≡ true → has d.marks k ≡ false → counts d k * 4 ≡ counts d (suc k)
  unfolding counts
  counts_other i m =
      let si = size_grows k d.inner i in
      let sm = size_stays k d.marks m in
      let sr = size_grows k (without d.inner d.marks) (has_without d.inner d.marks k ∙ and_make i (not_false m)) in
      let p : suc k - size (suc k) d.inner ≡ k - size k d.inner = omega arith in
      cc (more_r (k - size k d.inner) (size k d.marks) (size k (without d.inner d.marks)))

module _ (d : Moves) (within : (q : ℕ) → has d.marks q ≡ true → has d.inner q ≡ true) where
  radices : (k : ℕ) → numbers (radix d) k ≡ counts d k
  unfolding numbers counts product size count
  radices zero = refl
  radices (suc k) =
      ap (λ (n : ℕ). n * radix d k) (radices k)
      ∙ elim (either (has d.inner k)) [
        | inl i ↦
            elim (either (has d.marks k)) [
              | inl m ↦ ap (λ (r : ℕ). counts d k * r) (radix_marked d k i m) ∙ counts_marked d k i m
              | inr m ↦ ap (λ (r : ℕ). counts d k * r) (radix_other d k i m) ∙ counts_other d k i m
            ]
        | inr i ↦
            ap (λ (r : ℕ). counts d k * r) (radix_outer d k i)
            ∙ counts_outer d k i (not_both (has d.marks k) (λ m. clash (within k m) i))
      ]

  counted : numbers (radix d) d.states ≡ bound d
  unfolding bound counts product
  counted = radices d.states

  -- the paper's bound: fine quadruples that all differ are at most 2^p·3^a·4^r
  pub few :
      (xs : List Quadruple) (blank : Quadruple) →
      ((i j : ℕ) → i < j → j < length xs → get_or xs i blank ≡ get_or xs j blank → ⊥) →
      ((i : ℕ) → i < length xs → Fine d (get_or xs i blank)) → length xs ≤ bound d
  few xs blank distinct fine =
      rw (← counted)
      (distinct_short xs blank (numbers (radix d) d.states) (code d) distinct (λ i l. code_lt (fine i l))
      (λ i j l m e. code_same (fine i l) (fine j m) e))

-- so the system reaches at most that many
pub few_reached : {a : Automaton} {d : Moves} → Spread a d → Split a d → AtMost (ncsb d) (bound d)
unfolding state_at ncsb
few_reached {a} {d} sp sl =
    record {
      bound =
          λ xs distinct reached.
          few d (λ q h. (sl.within q h).0) xs (quadruple 0 0 0 0) distinct.apart
          (λ i l. reached_fine sp sl (reached i l));
    }
