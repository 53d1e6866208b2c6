-- Laws of lists of states: prefixes, members, the number of a state, and appending one that is new. Assumes nothing.
use mathlib.Core.Path.{◌≡◌, refl, sym, ◌∙◌, ap}
use mathlib.Core.Bool.{Bool, true, false}
use mathlib.Core.List.{List, [], ◌∷◌, ◌++◌, append_assoc, append-nil}
use mathlib.Core.Logic.{inl, inr}
use Prim.Native.Nat.{ℕ, zero, suc, ◌+◌, ◌≤◌, ◌<◌}
use native.Mathlib.Omega.{arith}
use lib.ListN.{length, get_or, take, drop, length-append, take-append-drop, get_or-append}
use lib.Seq.{append_snoc, get_or-append_seam, take-append_seam}
use Rattle.basics.specs.Tabulate.{tabulate}
use Rattle.basics.proofs.Booleans.{either, lt_ltb, ge_ltb, below_or}
use Rattle.automata.specs.System.{System, Decides, Member, here, there, state_at, Distinct, number_of, with_state, with_states}

-- PREFIXES: the second list goes on from the first
pub record Prefix {X : Type 0} (xs ys : List X) : Type 0 where
  pub more : List X
  pub whole : ys ≡ xs ++ more

module _ {X : Type 0} where
  pub prefix_self : (xs : List X) → Prefix xs xs
  prefix_self xs = record { more = []; whole = sym (append-nil xs) }

  pub prefix_append : (xs more : List X) → Prefix xs (xs ++ more)
  prefix_append xs more = record { more = more; whole = refl }

  pub prefix_then : {xs ys zs : List X} → Prefix xs ys → Prefix ys zs → Prefix xs zs
  prefix_then {xs} p q =
      record {
        more = p.more ++ q.more;
        whole = q.whole ∙ ap (λ (l : List X). l ++ q.more) p.whole ∙ append_assoc xs p.more q.more;
      }

  pub prefix_length : {xs ys : List X} → Prefix xs ys → length xs ≤ length ys
  prefix_length {xs} p = rw p.whole (rw length-append (omega arith))

  pub prefix_getD : {xs ys : List X} (i : ℕ) (blank : X) → Prefix xs ys → i < length xs → get_or ys i blank ≡ get_or xs i blank
  prefix_getD {xs} i blank p l = rw p.whole (get_or-append xs p.more blank i l)

  pub prefix_take : {xs ys : List X} → Prefix xs ys → take (length xs) ys ≡ xs
  prefix_take {xs} p = rw p.whole (take-append_seam xs p.more)

  pub prefix_same : {xs ys : List X} → take (length xs) ys ≡ xs → Prefix xs ys
  prefix_same {xs} {ys} e =
      record {
        more = drop (length xs) ys;
        whole =
            sym (take-append-drop (length xs) ys) ∙ ap (λ (l : List X). l ++ drop (length xs) ys) e;
      }

  -- MEMBERS: each stands at some index, and what stands at an index is one
  pub member_index :
      {x : X} {xs : List X} (blank : X) → Member x xs → (i : ℕ) × (i < length xs) × (get_or xs i blank ≡ x)
  member_index blank here = (0, (omega arith), refl)
  member_index blank (there m) =
      let r = member_index blank m in (suc r.0, (let l = r.1 in omega arith), r.2)

  pub index_member : (xs : List X) (blank : X) (i : ℕ) → i < length xs → Member (get_or xs i blank) xs
  index_member [] blank i l = absurd (omega arith)
  index_member (x ∷ xs) blank zero l = here
  index_member (x ∷ xs) blank (suc i) l = there (index_member xs blank i (omega arith))

-- THE NUMBER of a state among states given by index: that of the first that is the same, or their count where none is
module _ {X : Type 0} (same : X → X → Bool) (x : X) where
  pub number_met :
      (n r : ℕ) (y : ℕ → X) → r < n → ((i : ℕ) → i < r → same x (y i) ≡ false) → same x (y r) ≡ true →
      r ≡ number_of same x (tabulate n y)
  unfolding number_of tabulate
  number_met zero r y l before met = absurd (omega arith)
  number_met (suc n) zero y l before met = rw met refl
  number_met (suc n) (suc r) y l before met =
      rw (before 0 (omega arith))
      (ap suc (number_met n r (λ i. y (suc i)) (omega arith) (λ i m. before (suc i) (omega arith)) met))

  pub number_missed : (n : ℕ) (y : ℕ → X) → ((i : ℕ) → i < n → same x (y i) ≡ false) → n ≡ number_of same x (tabulate n y)
  unfolding number_of tabulate
  number_missed zero y before = refl
  number_missed (suc n) y before =
      rw (before 0 (omega arith)) (ap suc (number_missed n (λ i. y (suc i)) (λ i m. before (suc i) (omega arith))))

module _ {X : Type 0} (same : X → X → Bool) where
  -- THE NUMBER OF A STATE is below the length exactly if the state is listed
  pub number_le : (x : X) (xs : List X) → number_of same x xs ≤ length xs
  unfolding number_of
  number_le x [] = omega arith
  number_le x (y ∷ ys) =
      let h = number_le x ys in
      elim (either (same x y)) [ inl e ↦ rw e (omega arith) | inr e ↦ rw e (omega arith) ]

  -- a listed state keeps its number when the list goes on
  pub number_kept : (x : X) (xs more : List X) → number_of same x xs < length xs → number_of same x (xs ++ more) ≡ number_of same x xs
  unfolding number_of
  number_kept x [] more l = absurd (omega arith)
  number_kept x (y ∷ ys) more l =
      elim (either (same x y)) [
        | inl e ↦ rw e
        | inr e ↦
            let l' : suc (number_of same x ys) < suc (length ys) = rw e at l in
            rw (e, number_kept x ys more (omega arith))
      ]

  -- A STATE NOT MET BEFORE gets the next number
  pub with_known : (x : X) (xs : List X) → number_of same x xs < length xs → with_state same x xs ≡ xs
  unfolding with_state
  with_known x xs l = rw (lt_ltb l)

  pub with_new : (x : X) (xs : List X) → length xs ≤ number_of same x xs → with_state same x xs ≡ xs ++ (x ∷ [])
  unfolding with_state
  with_new x xs l = rw (ge_ltb l)

  -- known or new: what holds of both outcomes
  pub with_cases : (P : List X → Type 0) (x : X) (xs : List X) →
      (number_of same x xs < length xs → P xs) → (number_of same x xs ≡ length xs → P (xs ++ (x ∷ []))) →
      P (with_state same x xs)
  with_cases P x xs known new =
      elim (below_or (number_of same x xs) (length xs)) [
        | inl l ↦ rw (with_known x xs l) (known l)
        | inr g ↦
            let h = number_le x xs in let q : number_of same x xs ≡ length xs = omega arith in
            rw (with_new x xs g) (new q)
      ]

  pub with_prefix : (x : X) (xs : List X) → Prefix xs (with_state same x xs)
  with_prefix x xs =
      with_cases (λ l. Prefix xs l) x xs (λ _. prefix_self xs) (λ _. prefix_append xs (x ∷ []))

  pub with_states_prefix : (ys xs : List X) → Prefix xs (with_states same ys xs)
  unfolding with_states
  with_states_prefix [] xs = prefix_self xs
  with_states_prefix (y ∷ ys) xs = prefix_then (with_prefix y xs) (with_states_prefix ys (with_state same y xs))

  pub number_prefix : (x : X) {xs ys : List X} → Prefix xs ys → number_of same x xs < length xs → number_of same x ys ≡ number_of same x xs
  number_prefix x {xs} p l = rw p.whole (number_kept x xs p.more l)

  pub listed_prefix : (x : X) {xs ys : List X} → Prefix xs ys → number_of same x xs < length xs → number_of same x ys < length ys
  listed_prefix x {xs} p l = let h = prefix_length p in rw (number_prefix x p l) (omega arith)

module _ {X : Type 0} (s : System X) where
  pub member_at : (xs : List X) (i : ℕ) → i < length xs → Member (state_at s xs i) xs
  unfolding state_at
  member_at xs i l = index_member xs s.blank i l

  pub state_prefix : {xs ys : List X} → Prefix xs ys → (i : ℕ) → i < length xs → state_at s ys i ≡ state_at s xs i
  unfolding state_at
  state_prefix p i l = prefix_getD i s.blank p l

  pub state_seam : (xs : List X) (x : X) (ys : List X) → state_at s (xs ++ (x ∷ ys)) (length xs) ≡ x
  unfolding state_at
  state_seam xs x ys = get_or-append_seam xs x ys s.blank

  -- what holds of each listed state, holds of one more
  pub with_each :
      (P : X → Type 0) (x : X) (xs : List X) → ((i : ℕ) → i < length xs → P (state_at s xs i)) → P x →
      (i : ℕ) → i < length (with_state s.same x xs) → P (state_at s (with_state s.same x xs) i)
  with_each P x xs all one =
      with_cases s.same (λ (l : List X). (i : ℕ) → i < length l → P (state_at s l i)) x xs (λ _. all) (λ _ i l. more i l)
    where
      more : (i : ℕ) → i < length (xs ++ (x ∷ [])) → P (state_at s (xs ++ (x ∷ [])) i)
      more i l =
          elim (below_or i (length xs)) [
            | inl l' ↦ rw (state_prefix (prefix_append xs (x ∷ [])) i l') (all i l')
            | inr g ↦
                let h : i < length xs + 1 = rw length-append at l in
                let q : i ≡ length xs = omega arith in rw (q, state_seam xs x []) one
          ]

  module _ (decides : Decides s) where
    pub number_found : (x : X) (xs : List X) → number_of s.same x xs < length xs → state_at s xs (number_of s.same x xs) ≡ x
    unfolding number_of state_at
    number_found x [] l = absurd (omega arith)
    number_found x (y ∷ ys) l =
        elim (either (s.same x y)) [
          | inl e ↦ rw e (sym (decides.same_eq x y e))
          | inr e ↦
              let l' : suc (number_of s.same x ys) < suc (length ys) = rw e at l in rw e (number_found x ys (omega arith))
        ]

    pub number_first : (xs : List X) (i : ℕ) → i < length xs → number_of s.same (state_at s xs i) xs ≤ i
    unfolding number_of state_at
    number_first [] i l = absurd (omega arith)
    number_first (y ∷ ys) zero l = rw (decides.same_self y) (omega arith)
    number_first (y ∷ ys) (suc i) l =
        let h = number_first ys i (omega arith) in
        elim (either (s.same (get_or ys i s.blank) y)) [ inl e ↦ rw e (omega arith) | inr e ↦ rw e (omega arith) ]

    pub number_member : {x : X} {xs : List X} → Member x xs → number_of s.same x xs < length xs
    unfolding number_of
    number_member {x} here = rw (decides.same_self x) (omega arith)
    number_member {x} (there {y = y} {ys = ys} m) =
        let h = number_member m in
        elim (either (s.same x y)) [ inl e ↦ rw e (omega arith) | inr e ↦ rw e (omega arith) ]

    -- the numbers of listed states are their places, if none is listed twice
    pub number_at : (xs : List X) → Distinct s xs → (i : ℕ) → i < length xs → number_of s.same (state_at s xs i) xs ≡ i
    number_at xs distinct i l =
        let n = number_of s.same (state_at s xs i) xs in
        let h : n ≤ i = number_first xs i l in
        elim (below_or n i) [
          | inl e ↦
              absurd
              (distinct.apart n i e l
              (number_found (state_at s xs i) xs (let l' = e in omega arith)))
          | inr g ↦ omega arith
        ]

    pub number_none :
        (x : X) (xs : List X) → ((i : ℕ) → i < length xs → state_at s xs i ≡ x → ⊥) → number_of s.same x xs ≡ length xs
    number_none x xs none =
        let n = number_of s.same x xs in
        let h : n ≤ length xs = number_le s.same x xs in
        elim (below_or n (length xs)) [
          | inl l ↦ absurd (none n l (number_found x xs l))
          | inr g ↦ omega arith
        ]

    pub distinct_once :
        (xs : List X) → Distinct s xs → (i j : ℕ) → i < length xs → j < length xs → state_at s xs i ≡ state_at s xs j → i ≡ j
    distinct_once xs distinct i j l m e =
        sym (number_at xs distinct i l) ∙ ap (λ (x : X). number_of s.same x xs) e ∙ number_at xs distinct j m

    number_snoc : (x : X) (xs : List X) → number_of s.same x xs ≡ length xs → number_of s.same x (xs ++ (x ∷ [])) ≡ length xs
    unfolding number_of
    number_snoc x [] e = rw (decides.same_self x)
    number_snoc x (y ∷ ys) e =
        elim (either (s.same x y)) [
          | inl q ↦ absurd (let z : 0 ≡ suc (length ys) = rw q at e in omega arith)
          | inr q ↦
              let z : suc (number_of s.same x ys) ≡ suc (length ys) = rw q at e in
              rw (q, number_snoc x ys (omega arith))
        ]

    -- it is listed then, with the number that was told before
    pub with_number : (x : X) (xs : List X) → number_of s.same x (with_state s.same x xs) ≡ number_of s.same x xs
    with_number x xs =
        with_cases s.same (λ l. number_of s.same x l ≡ number_of s.same x xs) x xs (λ _. refl) (λ q. number_snoc x xs q ∙ sym q)

    pub with_listed : (x : X) (xs : List X) → number_of s.same x xs < length (with_state s.same x xs)
    with_listed x xs =
        with_cases s.same (λ l. number_of s.same x xs < length l) x xs (λ l. l) (λ q. rw length-append (rw q (omega arith)))

    pub with_distinct : (x : X) (xs : List X) → Distinct s xs → Distinct s (with_state s.same x xs)
    with_distinct x xs distinct = with_cases s.same (λ l. Distinct s l) x xs (λ _. distinct) snoc
      where
        snoc : number_of s.same x xs ≡ length xs → Distinct s (xs ++ (x ∷ []))
        snoc q =
            record {
              apart =
                  λ i j l m e.
                  let m' : j < length xs + 1 = rw length-append at m in
                  let e' : state_at s xs i ≡ state_at s (xs ++ (x ∷ [])) j = sym (state_prefix (prefix_append xs (x ∷ [])) i (omega arith)) ∙ e in
                  elim (below_or j (length xs)) [
                    | inl l' ↦
                        distinct.apart i j l l' (e' ∙ state_prefix (prefix_append xs (x ∷ [])) j l')
                    | inr g ↦
                        let z : j ≡ length xs = omega arith in
                        let e'' : state_at s xs i ≡ x = rw (z, state_seam xs x []) at e' in
                        let n = number_first xs i (omega arith) in
                        let n' : number_of s.same x xs ≤ i = rw e'' at n in omega arith
                  ];
            }

    -- a list of states: each is listed then
    pub with_states_listed :
        {y : X} {ys : List X} (xs : List X) → Member y ys → number_of s.same y (with_states s.same ys xs) < length (with_states s.same ys xs)
    unfolding with_states
    with_states_listed {y} xs (here {ys = ys}) =
        listed_prefix s.same y (with_states_prefix s.same ys (with_state s.same y xs)) (rw (with_number y xs) (with_listed y xs))
    with_states_listed xs (there {y = z} m) = with_states_listed (with_state s.same z xs) m

    -- where none is listed twice, they are appended as they are
    pub with_states_new : (ys xs : List X) → Distinct s (xs ++ ys) → with_states s.same ys xs ≡ xs ++ ys
    unfolding with_states
    with_states_new [] xs distinct = sym (append-nil xs)
    with_states_new (y ∷ ys) xs distinct =
        rw (with_new s.same y xs fresh)
        (with_states_new ys (xs ++ (y ∷ [])) (rw append_snoc distinct) ∙ append_snoc xs y ys)
      where
        fresh : length xs ≤ number_of s.same y xs
        fresh =
            let q =
            number_none y xs
            (λ i l e.
            distinct.apart i (length xs) l (rw length-append (omega arith))
            (state_prefix (prefix_append xs (y ∷ ys)) i l ∙ e ∙ sym (state_seam xs y ys)))
            in
            omega arith
