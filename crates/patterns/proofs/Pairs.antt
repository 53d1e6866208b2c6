-- Laws of the first pair of a state and a letter of which a test holds: what a search that leaves at the first pair finds is it; it is the one pair
-- that the test holds of with no smaller state and no smaller letter; and there is none exactly where the test holds of no pair. Assumes nothing.
use mathlib.Core.Path.{◌≡◌, refl, ◌∙◌, ap}
use mathlib.Core.Bool.{Bool, true, false}
use mathlib.Core.Logic.{◌⊎◌, inl, inr}
use Prim.Native.Nat.{ℕ, ◌<◌, ◌≤◌}
use Rattle.std.specs.Prelude.{Option, Some, None}
use Rattle.basics.specs.Bounded.{any}
use Rattle.basics.specs.Least.{least}
use Rattle.basics.specs.declared.Place.{Place}
use Rattle.basics.proofs.Booleans.{either}
use Rattle.basics.proofs.Bounded.{any_make, any_find, any_no}
use Rattle.basics.proofs.Least.{least_below, least_holds, least_none, least_is}
use Rattle.basics.proofs.Scans.{Scan, scan_none}
use Rattle.patterns.specs.Forks.{smallest_pair, first_pair}

-- places with the same state and letter are the same
place_same : {p q : Place} → p.state ≡ q.state → p.letter ≡ q.letter → p ≡ q
place_same {p} {q} e g =
    ap (λ (x : ℕ). record { state = x; letter = p.letter }) e ∙ ap (λ (y : ℕ). record { state = q.state; letter = y }) g

-- there is a place or none
pub some_or_none : (f : Option Place) → ((p : Place) × (f ≡ Some p)) ⊎ (f ≡ None)
some_or_none None = inr refl
some_or_none (Some p) = inl (p, refl)

-- some letter of a state passes
abbrev pub row : (letters : ℕ) → (test : (state letter : ℕ) → Bool) → (state : ℕ) → Bool
row k f q = any k (f q)

module _ (n k : ℕ) (f : (state letter : ℕ) → Bool) where
  -- a pair inside, of which the test holds, and of none with a smaller state, nor of a smaller letter of its own state
  pub record First (p : Place) : Type 0 where
    pub state : p.state < n
    pub letter : p.letter < k
    pub holds : f p.state p.letter ≡ true
    pub no_state : (q : ℕ) → q < p.state → row k f q ≡ false
    pub no_letter : (c : ℕ) → c < p.letter → f p.state c ≡ false

  -- such a pair is the smallest one
  smallest_is : (p : Place) → First p → smallest_pair n k f ≡ p
  unfolding smallest_pair
  smallest_is p h =
      let some = any_make k (f p.state) p.letter h.letter h.holds in
      let is_state : least n (row k f) ≡ p.state = least_is n (row k f) p.state h.state some h.no_state in
      let is_letter : least k (f p.state) ≡ p.letter = least_is k (f p.state) p.letter h.letter h.holds h.no_letter in
      place_same {p = smallest_pair n k f} is_state (ap (λ (q : ℕ). least k (f q)) is_state ∙ is_letter)

  pub first_is : (p : Place) → First p → Some p ≡ first_pair n k f
  unfolding first_pair
  first_is p h =
      let some = any_make k (f p.state) p.letter h.letter h.holds in
      rw (any_make n (row k f) p.state h.state some, smallest_is p h)

  -- and the smallest one is such a pair, where some pair passes
  smallest_first : any n (row k f) ≡ true → First (smallest_pair n k f)
  unfolding smallest_pair
  smallest_first some =
      let (q, l, e) = any_find n (row k f) some in
      let inside = least_below n (row k f) q l e in
      let here = least_holds n (row k f) inside in
      let (c, m, h) = any_find k (f (least n (row k f))) here in
      let letter = least_below k (f (least n (row k f))) c m h in
      record {
        state = inside;
        letter = letter;
        holds = least_holds k (f (least n (row k f))) letter;
        no_state = least_none n (row k f);
        no_letter = least_none k (f (least n (row k f)));
      }

  pub is_first : (p : Place) → first_pair n k f ≡ Some p → First p
  unfolding first_pair
  is_first p e =
      elim (either (any n (row k f))) [
        | inl some ↦
            let found : Some (smallest_pair n k f) ≡ Some p = rw some at e in
            let same : smallest_pair n k f ≡ p = cc in rw (← same) (smallest_first some)
        | inr none ↦ let no : None ≡ Some p = rw none at e in cc
      ]

  -- where no state passes there is none
  pub first_none : any n (row k f) ≡ false → None ≡ first_pair n k f
  unfolding first_pair
  first_none e = rw e

  -- and where there is none no pair passes
  pub none_first : first_pair n k f ≡ None → (q c : ℕ) → q < n → c < k → f q c ≡ false
  unfolding first_pair
  none_first e q c l m =
      elim (either (any n (row k f))) [
        | inl some ↦ let no : Some (smallest_pair n k f) ≡ None = rw some at e in cc
        | inr none ↦ any_no k (f q) (any_no n (row k f) none q l) c m
      ]

  -- THE SEARCH, state by state, and in a state letter by letter: it leaves at a pair
  pub search_found :
      (q c : ℕ) → q < n → c < k → Scan false (row k f) n q → Scan false (f q) k c → f q c ≡ true →
      Some (record { state = q; letter = c }) ≡ first_pair n k f
  search_found q c l m states letters h =
      first_is (record { state = q; letter = c })
      (record { state = l; letter = m; holds = h; no_state = states.passed; no_letter = letters.passed })

  -- or behind the last state
  pub search_ended : (q : ℕ) → n ≤ q → Scan false (row k f) n q → None ≡ first_pair n k f
  search_ended q l s = first_none (scan_none s l)
